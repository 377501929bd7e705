-- The rows of a type, seen through another schema that agrees: their ordinals stay, what moves them moves what is seen, and what holds them and keeps the limits
-- does so too.
use Rattle.std.proofs.Common.{◌≡◌, ℕ, ◌+◌, ◌*◌, ◌<◌, ◌≤◌, List, [], ◌∷◌, Option, None, Some, length, map, refl, sym, ap, subst, ◌∙◌, arith, mul-le-mul_left, slice_index_or, sum}
use Rattle.std.specs.Prelude.{All, IsSome, option_map}
use Rattle.std.specs.FinMap.{entries, get, keys, values}
use Rattle.std.specs.List.Sorted.{IsStrictlySortedBy}
use Rattle.std.specs.Map.{keys_of, values_of}
use Rattle.std.specs.Ordering.{nat_cmp}
use Rattle.std.proofs.lemmas.List.Elements.{All-head, All-tail}
use Rattle.std.proofs.lemmas.List.Sums.{sum-map}
use Rattle.std.proofs.lemmas.Option.{slice_get-map}
use Rattle.std.proofs.lemmas.Slice.Zip.{AllZip-long}
use Rattle.bit_array.specs.Element.{words_of}
use Rattle.schema_model.specs.declared.limit.Limit.TheVariants.{Bytes, Words}
use Rattle.schema_model.specs.Limit.{number_of_limit}
use Rattle.schema_model.specs.declared.schema.Field.{Field}
use Rattle.schema_model.specs.declared.schema.Shape.{Shape}
use Rattle.schema_model.specs.Growth.{ShapesAgree}
use Rattle.schema_model.specs.Parts.{AreApart, shape_fields}
use Rattle.row_model.specs.declared.row.Row.{Row}
use Rattle.row_model.specs.Row.{FitsShape}
use Rattle.row_model.specs.Table.{RowMap}
use Rattle.row_model.specs.View.{seen_map, seen_row}
use Rattle.type_rows.specs.declared.section.Section.{Section}
use Rattle.type_rows.specs.Holds.{Holds, HoldsRows, KeepsLimits}
use Rattle.type_rows.specs.Layout.{Layout, counted_words, item_count, places_of}
use Rattle.type_rows.specs.declared.patch.PatchSection.{PatchSection}
use Rattle.type_rows.specs.Patches.{FitsOrdinals, MovesRows}
use Rattle.type_rows.specs.WellFormed.{IsWidth}
use Rattle.type_rows.specs.WordsHeld.{bytes_held}
use Rattle.type_rows.proofs.Keyed.{entries_back, entries_rise, sorted_from}
use Rattle.seen_rows.proofs.Views.{get_seen, own_row}
use Rattle.seen_patches.specs.Nulls.{null_width}
use Rattle.seen_patches.specs.Patch.{HasColumns, own_for, widths_of}
use Rattle.seen_patches.specs.Seen.{own_width, shared_bits}
use Rattle.seen_patches.specs.Spelling.{SpellsSeen}
use Rattle.seen_patches.proofs.Places.{named_self}
use Rattle.view_laws.proofs.SeenRecords as records

-- ---- the entries

keys_mapped : (f : Row → Row) (es : List (ℕ × Row)) → keys_of (map (λ (e : ℕ × Row). (e.0, f e.1)) es) ≡ keys_of es
keys_mapped f [] = refl
keys_mapped f (e ∷ es) = ap (λ (ks : List ℕ). e.0 ∷ ks) (keys_mapped f es)

values_mapped : (f : Row → Row) (es : List (ℕ × Row)) → values_of (map (λ (e : ℕ × Row). (e.0, f e.1)) es) ≡ map f (values_of es)
values_mapped f [] = refl
values_mapped f (e ∷ es) = ap (λ (rs : List Row). f e.1 ∷ rs) (values_mapped f es)

module _ (own mine : Shape) (rows : RowMap) where
  seen_entries : entries (seen_map own mine rows) ≡ map (λ (e : ℕ × Row). (e.0, seen_row own mine e.1)) (entries rows)
  seen_entries =
      entries_back (map (λ (e : ℕ × Row). (e.0, seen_row own mine e.1)) (entries rows))
      (sorted_from (map (λ (e : ℕ × Row). (e.0, seen_row own mine e.1)) (entries rows)) (subst (IsStrictlySortedBy nat_cmp) (sym (keys_mapped (seen_row own mine) (entries rows))) (entries_rise rows)))

  pub seen_keys : keys (seen_map own mine rows) ≡ keys rows
  seen_keys = ap keys_of seen_entries ∙ keys_mapped (seen_row own mine) (entries rows)

  pub seen_values : values (seen_map own mine rows) ≡ map (seen_row own mine) (values rows)
  seen_values = ap values_of seen_entries ∙ values_mapped (seen_row own mine) (entries rows)

-- ---- ordinals, and what moves rows

some_mapped : (f : Row → Row) (o : Option Row) → IsSome o → IsSome (option_map f o)
some_mapped f None some = some
some_mapped f (Some row) some = refl

pub moves_seen : (own mine : Shape) (old new : RowMap) (removed added : List ℕ) (rows : List Row) → MovesRows old new removed added rows
    → MovesRows (seen_map own mine old) (seen_map own mine new) removed added (map (seen_row own mine) rows)
moves_seen own mine old new removed added rows moves = record {
  gone = λ ordinal goes. get_seen own mine new ordinal ∙ ap (option_map (seen_row own mine)) (moves.gone ordinal goes);
  came = λ place ordinal at. get_seen own mine new ordinal ∙ ap (option_map (seen_row own mine)) (moves.came place ordinal at) ∙ sym (slice_get-map (seen_row own mine) rows place);
  kept = λ ordinal stays old_one. get_seen own mine new ordinal ∙ ap (option_map (seen_row own mine)) (moves.kept ordinal stays old_one) ∙ sym (get_seen own mine old ordinal);
}

pub ordinals_seen : (own mine : Shape) (old : RowMap) (layout other : Layout) (removed added : List ℕ) → other.max ≡ layout.max → FitsOrdinals old layout removed added
    → FitsOrdinals (seen_map own mine old) other removed added
ordinals_seen own mine old layout other removed added max fits = record {
  removed_rise = fits.removed_rise;
  removed_live = λ k d inside. subst IsSome (sym (get_seen own mine old (slice_index_or removed k d))) (some_mapped (seen_row own mine) (get old (slice_index_or removed k d)) (fits.removed_live k d inside));
  added_rise = fits.added_rise;
  added_placed = λ k d inside. subst (λ (m : Option ℕ). slice_index_or added k d < places_of m) (sym max) (fits.added_placed k d inside);
  added_free = λ k d inside. get_seen own mine old (slice_index_or added k d) ∙ ap (option_map (seen_row own mine)) (fits.added_free k d inside);
}

-- ---- types of any kind

-- The rows of a type fit its shape.
abbrev pub FitAll : Shape → RowMap → Type 0
FitAll shape rows = All (FitsShape shape) (values rows)

-- A record has a width for each field.
abbrev pub HasWidths : Shape → List ℕ → Type 0
HasWidths (Shape.Object key fields) widths = length widths ≡ length fields
HasWidths _ widths = Unit {0}

-- The same places, with the widths by name.
abbrev pub layout_seen : Shape → Shape → Layout → Layout
layout_seen mine own layout = record { max = layout.max; widths = widths_of mine own layout.widths }

-- rows of one shape are seen as they are
stay_all : (shape : Shape) (rows : List Row) → All (FitsShape shape) rows → AreApart (shape_fields shape) → map (seen_row shape shape) rows ≡ rows
stay_all shape [] fits apart = refl
stay_all shape (row ∷ rows) fits apart =
    let here = own_row shape row (All-head (FitsShape shape) row rows fits) apart in
    let rest = stay_all shape rows (All-tail (FitsShape shape) row rows fits) apart in
    λ i. here i ∷ rest i

no_apart : (fields : List Field) → fields ≡ [] → AreApart fields
no_apart fields none i j d before below = absurd (let empty = ap (λ (fs : List Field). length fs) none in omega (arith, below, empty))

-- the parts of a type without fields stay
other_held : (mine own : Shape) (layout : Layout) (rows : RowMap) → mine ≡ own → shape_fields own ≡ [] → widths_of mine own layout.widths ≡ layout.widths → FitAll own rows → Holds own layout rows
    → Holds mine (layout_seen mine own layout) (seen_map own mine rows)
other_held mine own layout rows same none widths fits held =
    let see = ap (λ (s : Shape). map (seen_row own s) (values rows)) same ∙ stay_all own (values rows) fits (no_apart (shape_fields own) none) in
    record {
      parts = subst (λ (rs : List Row). HoldsRows mine (widths_of mine own layout.widths) [] rs) (sym (seen_values own mine rows ∙ see))
          (subst (λ (ws : List ℕ). HoldsRows mine ws [] (values rows)) (sym widths) (subst (λ (s : Shape). HoldsRows s layout.widths [] (values rows)) (sym same) held.parts));
      places = subst (All (λ ordinal. ordinal < places_of layout.max)) (sym (seen_keys own mine rows)) held.places;
    }

-- the layout that holds rows holds what is seen of them
pub type_held : (mine own : Shape) (layout : Layout) (rows : RowMap) → ShapesAgree mine own → HasWidths own layout.widths → FitAll own rows → Holds own layout rows
    → Holds mine (layout_seen mine own layout) (seen_map own mine rows)
type_held (Shape.Object key mine) (Shape.Object other theirs) layout rows agree wide fits held = record {
  parts = subst (λ (rs : List Row). HoldsRows (Shape.Object key mine) (widths_of (Shape.Object key mine) (Shape.Object other theirs) layout.widths) [] rs)
      (sym (seen_values (Shape.Object other theirs) (Shape.Object key mine) rows))
      (records.rows_held key other mine theirs agree.1 layout.widths wide [] (values rows) fits held.parts);
  places = subst (All (λ ordinal. ordinal < places_of layout.max)) (sym (seen_keys (Shape.Object other theirs) (Shape.Object key mine) rows)) held.places;
}
type_held (Shape.Object key mine) (Shape.List element) layout rows agree wide fits held = absurd (let same : Shape.Object key mine ≡ Shape.List element = agree in cc)
type_held (Shape.Object key mine) (Shape.Set element) layout rows agree wide fits held = absurd (let same : Shape.Object key mine ≡ Shape.Set element = agree in cc)
type_held (Shape.Object key mine) (Shape.Map of to) layout rows agree wide fits held = absurd (let same : Shape.Object key mine ≡ Shape.Map of to = agree in cc)
type_held (Shape.List element) own layout rows agree wide fits held = other_held (Shape.List element) own layout rows agree (sym (ap shape_fields agree)) refl fits held
type_held (Shape.Set element) own layout rows agree wide fits held = other_held (Shape.Set element) own layout rows agree (sym (ap shape_fields agree)) refl fits held
type_held (Shape.Map of to) own layout rows agree wide fits held = other_held (Shape.Map of to) own layout rows agree (sym (ap shape_fields agree)) refl fits held

-- the widths of a type stay for its own schema
pub widths_stay : (shape : Shape) (widths : List ℕ) → AreApart (shape_fields shape) → HasWidths shape widths → widths_of shape shape widths ≡ widths
widths_stay (Shape.Object key fields) widths apart wide = named_self fields widths (λ field. null_width field.kind) apart wide
widths_stay (Shape.List element) widths apart wide = refl
widths_stay (Shape.Set element) widths apart wide = refl
widths_stay (Shape.Map of to) widths apart wide = refl

-- a section that stands in a blob has a width for each field
pub widths_there : (shape : Shape) (section : PatchSection) → HasColumns shape section → HasWidths shape section.widths
widths_there (Shape.Object key fields) section columns = AllZip-long (λ (field : Field) width. IsWidth section.max field.kind width) fields section.widths columns.0
widths_there (Shape.List element) section columns = tt
widths_there (Shape.Set element) section columns = tt
widths_there (Shape.Map of to) section columns = tt

-- ---- limits

other_kept : (mine own : Shape) (count : ℕ) (layout : Layout) (rows : RowMap) → mine ≡ own → shape_fields own ≡ [] → widths_of mine own layout.widths ≡ layout.widths → FitAll own rows → KeepsLimits own count layout rows
    → KeepsLimits mine count (layout_seen mine own layout) (seen_map own mine rows)
other_kept mine own count layout rows same none widths fits kept =
    let see = ap (λ (s : Shape). map (seen_row own s) (values rows)) same ∙ stay_all own (values rows) fits (no_apart (shape_fields own) none) in
    let is = seen_values own mine rows ∙ see in
    record {
      words = subst (λ (rs : List Row). counted_words mine count (layout_seen mine own layout) rs ≤ number_of_limit Words) (sym is)
          (subst (λ (ws : List ℕ). counted_words mine count (record { max = layout.max; widths = ws }) (values rows) ≤ number_of_limit Words) (sym widths)
          (subst (λ (s : Shape). counted_words s count layout (values rows) ≤ number_of_limit Words) (sym same) kept.words));
      bytes = subst (λ (rs : List Row). bytes_held rs ≤ number_of_limit Bytes) (sym is) kept.bytes;
    }

less_words : (places mine own items other : ℕ) → mine ≤ own → words_of (places * mine) + words_of (items * 0) ≤ words_of (places * own) + words_of (other * 0)
less_words places mine own items other less =
    let product : places * mine ≤ places * own = mul-le-mul_left places less in
    omega (arith, product)

-- all fields count
all_counts : (fields : List Field) (widths : List ℕ) → AreApart fields → length widths ≡ length fields → shared_bits fields fields widths ≡ sum widths
all_counts fields widths apart long = sym (sum-map (own_width fields widths) fields) ∙ ap sum (named_self fields widths (λ field. 0) apart long)

-- and the limits stay kept: what counts is that of fewer fields
pub type_kept : (mine own : Shape) (layout : Layout) (rows : RowMap) → ShapesAgree mine own → AreApart (shape_fields mine) → AreApart (shape_fields own) → HasWidths own layout.widths → FitAll own rows
    → KeepsLimits own (own_for own own layout.widths) layout rows → KeepsLimits mine (own_for mine own layout.widths) (layout_seen mine own layout) (seen_map own mine rows)
type_kept (Shape.Object key mine) (Shape.Object other theirs) layout rows agree apart own_apart wide fits kept =
    let seen = seen_values (Shape.Object other theirs) (Shape.Object key mine) rows in
    let fewer : shared_bits mine theirs layout.widths ≤ shared_bits theirs theirs layout.widths =
    omega (arith, records.own_smaller key other mine theirs agree.1 apart layout.widths, all_counts theirs layout.widths own_apart wide) in
    let less = less_words (places_of layout.max) (shared_bits mine theirs layout.widths) (shared_bits theirs theirs layout.widths)
    (item_count (values (seen_map (Shape.Object other theirs) (Shape.Object key mine) rows))) (item_count (values rows)) fewer in
    let words = kept.words in
    let bytes = kept.bytes in
    record {
      words = omega (arith, words, less);
      bytes = subst (λ (rs : List Row). bytes_held rs ≤ number_of_limit Bytes) (sym seen) (omega (arith, bytes, records.bytes_smaller key other mine theirs agree.1 apart (values rows)));
    }
type_kept (Shape.Object key mine) (Shape.List element) layout rows agree apart own_apart wide fits kept = absurd (let same : Shape.Object key mine ≡ Shape.List element = agree in cc)
type_kept (Shape.Object key mine) (Shape.Set element) layout rows agree apart own_apart wide fits kept = absurd (let same : Shape.Object key mine ≡ Shape.Set element = agree in cc)
type_kept (Shape.Object key mine) (Shape.Map of to) layout rows agree apart own_apart wide fits kept = absurd (let same : Shape.Object key mine ≡ Shape.Map of to = agree in cc)
type_kept (Shape.List element) own layout rows agree apart own_apart wide fits kept =
    let is = other_kept (Shape.List element) own (own_for own own layout.widths) layout rows agree (sym (ap shape_fields agree)) refl fits kept in record { words = is.words; bytes = is.bytes }
type_kept (Shape.Set element) own layout rows agree apart own_apart wide fits kept =
    let is = other_kept (Shape.Set element) own (own_for own own layout.widths) layout rows agree (sym (ap shape_fields agree)) refl fits kept in record { words = is.words; bytes = is.bytes }
type_kept (Shape.Map of to) own layout rows agree apart own_apart wide fits kept =
    let is = other_kept (Shape.Map of to) own (own_for own own layout.widths) layout rows agree (sym (ap shape_fields agree)) refl fits kept in record { words = is.words; bytes = is.bytes }

-- ---- what a place spells

other_spelled : (mine own : Shape) (section : Section) (place : ℕ) (row : Row) → mine ≡ own → seen_row own own row ≡ row → SpellsSeen own own section place row
    → SpellsSeen mine own section place (seen_row own mine row)
other_spelled mine own section place row same stays spelled =
    subst (λ (s : Shape). SpellsSeen s own section place (seen_row own s row)) (sym same) (subst (λ (r : Row). SpellsSeen own own section place r) (sym stays) spelled)

-- a place that spells a row spells what is seen of it
pub type_spelled : (mine own : Shape) (section : Section) (place : ℕ) (row : Row) → ShapesAgree mine own → SpellsSeen own own section place row → SpellsSeen mine own section place (seen_row own mine row)
type_spelled (Shape.Object key mine) (Shape.Object other theirs) section place row agree spelled = records.row_spelled key other mine theirs agree.1 section place row spelled
type_spelled (Shape.Object key mine) (Shape.List element) section place row agree spelled = absurd (let same : Shape.Object key mine ≡ Shape.List element = agree in cc)
type_spelled (Shape.Object key mine) (Shape.Set element) section place row agree spelled = absurd (let same : Shape.Object key mine ≡ Shape.Set element = agree in cc)
type_spelled (Shape.Object key mine) (Shape.Map of to) section place row agree spelled = absurd (let same : Shape.Object key mine ≡ Shape.Map of to = agree in cc)
type_spelled (Shape.List element) (Shape.List other) section place (Row.List ordinals) agree spelled = other_spelled (Shape.List element) (Shape.List other) section place (Row.List ordinals) agree refl spelled
type_spelled (Shape.List element) (Shape.List other) section place _ agree spelled = absurd spelled
type_spelled (Shape.Set element) (Shape.Set other) section place (Row.Set ordinals) agree spelled = other_spelled (Shape.Set element) (Shape.Set other) section place (Row.Set ordinals) agree refl spelled
type_spelled (Shape.Set element) (Shape.Set other) section place (Row.Object values) agree spelled = absurd spelled.1
type_spelled (Shape.Set element) (Shape.Set other) section place (Row.List ordinals) agree spelled = absurd spelled.1
type_spelled (Shape.Set element) (Shape.Set other) section place (Row.Map pairs) agree spelled = absurd spelled.1
type_spelled (Shape.Map of to) (Shape.Map from onto) section place (Row.Map pairs) agree spelled = other_spelled (Shape.Map of to) (Shape.Map from onto) section place (Row.Map pairs) agree refl spelled
type_spelled (Shape.Map of to) (Shape.Map from onto) section place (Row.Object values) agree spelled = absurd spelled.1
type_spelled (Shape.Map of to) (Shape.Map from onto) section place (Row.List ordinals) agree spelled = absurd spelled.1
type_spelled (Shape.Map of to) (Shape.Map from onto) section place (Row.Set ordinals) agree spelled = absurd spelled.1
type_spelled (Shape.List element) (Shape.Object key fields) section place row agree spelled = absurd (let same : Shape.List element ≡ Shape.Object key fields = agree in cc)
type_spelled (Shape.List element) (Shape.Set other) section place row agree spelled = absurd (let same : Shape.List element ≡ Shape.Set other = agree in cc)
type_spelled (Shape.List element) (Shape.Map from onto) section place row agree spelled = absurd (let same : Shape.List element ≡ Shape.Map from onto = agree in cc)
type_spelled (Shape.Set element) (Shape.Object key fields) section place row agree spelled = absurd (let same : Shape.Set element ≡ Shape.Object key fields = agree in cc)
type_spelled (Shape.Set element) (Shape.List other) section place row agree spelled = absurd (let same : Shape.Set element ≡ Shape.List other = agree in cc)
type_spelled (Shape.Set element) (Shape.Map from onto) section place row agree spelled = absurd (let same : Shape.Set element ≡ Shape.Map from onto = agree in cc)
type_spelled (Shape.Map of to) (Shape.Object key fields) section place row agree spelled = absurd (let same : Shape.Map of to ≡ Shape.Object key fields = agree in cc)
type_spelled (Shape.Map of to) (Shape.List other) section place row agree spelled = absurd (let same : Shape.Map of to ≡ Shape.List other = agree in cc)
type_spelled (Shape.Map of to) (Shape.Set other) section place row agree spelled = absurd (let same : Shape.Map of to ≡ Shape.Set other = agree in cc)

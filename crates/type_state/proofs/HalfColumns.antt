-- Lemmas on the rows of a half that are looked at where they stand.
use Rattle.std.proofs.Common.{◌≡◌, ℕ, ◌*◌, ◌^◌, ◌<◌, ◌≤◌, inl, inr, List, length, Option, Some, None, refl, sym, ap, subst, ◌∙◌, arith}
use Rattle.std.specs.Prelude.{IsSome}
use Rattle.std.specs.List.{AllZip}
use Rattle.std.specs.FinMap.{get, values}
use Rattle.std.proofs.lemmas.List.{length-drop}
use Rattle.std.proofs.lemmas.List.FromFn.{length-map-range_with_len}
use Rattle.schema_model.specs.declared.schema.Field.{Field}
use Rattle.schema_model.specs.declared.schema.Shape.{Shape}
use Rattle.schema_model.specs.declared.schema.name.Name.{Name}
use Rattle.row_model.specs.Areas.{area_of}
use Rattle.row_model.specs.declared.row.Row.{Row}
use Rattle.row_model.specs.declared.row.Value.{Value}
use Rattle.object_codec.specs.ObjectPlace.{HoldsPlace, IsFieldWidth, SpellsObject}
use Rattle.object_codec.specs.Stored.{values_of_row}
use Rattle.list_codec.specs.ListPlace.{HoldsListPlace, SpellsList}
use Rattle.bucket_codec.specs.BucketPlace.{HoldsPointers, SpellsPairs, IsRowOf, IsWidthCount}
use Rattle.object_codec.specs.declared.column.Column.{Column}
use Rattle.column_rows.specs.Columns.{HasValueOf}
use Rattle.column_rows.specs.Items.{IsListThere, IsOfPairs}
use Rattle.column_rows.specs.declared.items.PackedItems.{PackedItems}
use Rattle.type_rows.specs.Layout.{places_of}
use Rattle.type_rows.specs.Loads.{Spells}
use Rattle.type_rows.specs.WellFormed.{AreWidths}
use Rattle.type_rows.specs.WordsHeld.{field_bytes}
use Rattle.packed_half.specs.declared.half.HalfShape.{HalfShape}
use Rattle.packed_half.specs.Half.{areas_in, behind_items, behind_places, byte_words, item_words, place_words, section_in}
use Rattle.packed_half.specs.Laying.{HasRuns}
use Rattle.packed_half.proofs.Looking.{list_holds, live_inside, object_holds, runs_hold, spelled_there}
use Rattle.column_rows.specs.OneType.{AreListsIn, AreRunsIn, IsColumnIn}
use Rattle.type_state.specs.Kept.{IsHalf, IsPacked, half_rows}

some_there : {A : Type 0} (o : Option A) (x : A) → o ≡ Some x → IsSome o
some_there None x e = absurd cc
some_there (Some y) x e = refl

-- ---- what is known of a half that has places

module _ (shape : Shape) (half : HalfShape) (words : List ℕ) where
  pub packed_by_max : IsHalf shape half words → (half.max ≡ None → ⊥) → IsPacked shape half words
  packed_by_max (inl bare) some = absurd (some bare.max)
  packed_by_max (inr packed) some = packed

  pub bytes_inside : IsPacked shape half words → (byte_words half.lengths ≤ length (behind_items shape half words)) × (byte_words half.lengths < 2 ^ 58)
  bytes_inside packed =
      let first = length-drop (place_words shape half) words in
      let second = length-drop (item_words shape half) (behind_places shape half words) in
      (omega (arith, first, second, packed.laid.long), omega (arith, packed.laid.long, packed.laid.short))

  -- the place of a row
  row_inside : IsPacked shape half words → (ordinal : ℕ) (row : Row) → get (half_rows shape half words) ordinal ≡ Some row → (ordinal < places_of half.max) × (ordinal < 2 ^ 32)
  row_inside packed ordinal row at =
      let inside = live_inside shape half words ordinal (half_rows shape half words, packed.laid, some_there (get (half_rows shape half words) ordinal) row at) in
      (inside, omega (arith, inside, packed.can.few))

-- ---- records

-- the column has the value of each place that spells a record, whose bytes of the field are these
abbrev TellsColumn : List Field → List ℕ → List ℕ → List ℕ → ℕ → Column → Type 0
TellsColumn fields widths first bytes index column =
    (place : ℕ) (areas : List (List ℕ)) (vs : List Value) → HoldsPlace fields widths first areas place → area_of areas index ≡ bytes → SpellsObject fields widths first areas place vs → HasValueOf column place vs index

module _ (key : Option (List (List ℕ))) (fields : List Field) (half : HalfShape) (words : List ℕ) where
  abbrev RecordShape : Shape
  RecordShape = Shape.Object key fields

  fields_wide : IsPacked RecordShape half words → (half.max ≡ None → ⊥) → AllZip IsFieldWidth fields half.widths
  fields_wide packed some = by_max half.max some packed.laid.wide
    where
      by_max : (max : Option ℕ) → (max ≡ None → ⊥) → AreWidths RecordShape max half.widths → AllZip IsFieldWidth fields half.widths
      by_max None some wide = absurd (some refl)
      by_max (Some max) some wide = wide

  fields_long : IsPacked RecordShape half words → length half.lengths ≡ length fields
  fields_long packed = ap (λ (ls : List ℕ). length ls) packed.laid.lengths ∙ length-map-range_with_len (λ field. field_bytes field (values (half_rows RecordShape half words))) 0 (length fields)

  record_column : IsPacked RecordShape half words → (index : ℕ) (column : Column) (bytes : List ℕ) → area_of (section_in RecordShape half words).areas index ≡ bytes
      → TellsColumn fields half.widths (section_in RecordShape half words).first bytes index column → IsColumnIn (half_rows RecordShape half words) index column
  record_column packed index column bytes area tells ordinal row at =
      let inside = row_inside RecordShape half words packed ordinal row at in
      let holds = object_holds RecordShape half words (half_rows RecordShape half words) ordinal tt packed.laid inside.0 inside.1 in
      by_row row (spelled_there RecordShape half words (half_rows RecordShape half words) ordinal row packed.laid at) holds
    where
      by_row : (row : Row) → Spells RecordShape (section_in RecordShape half words) ordinal row
          → HoldsPlace fields half.widths (section_in RecordShape half words).first (section_in RecordShape half words).areas ordinal → HasValueOf column ordinal (values_of_row row) index
      by_row (Row.Object vs) spelled holds = tells ordinal (section_in RecordShape half words).areas vs holds area spelled
      by_row (Row.List ordinals) spelled holds = absurd spelled
      by_row (Row.Set ordinals) spelled holds = absurd spelled
      by_row (Row.Map pairs) spelled holds = absurd spelled

-- ---- records, of a shape that is this one

module _ (shape : Shape) (key : Option (List (List ℕ))) (fields fs : List Field) (half : HalfShape) (words widths : List ℕ) (is : shape ≡ Shape.Object key fields) (same : fs ≡ fields) (wide : widths ≡ half.widths) (packed : IsPacked shape half words) where
  as_record : IsPacked (Shape.Object key fields) half words
  as_record = subst (λ (s : Shape). IsPacked s half words) is packed

  pub wide_given : (half.max ≡ None → ⊥) → AllZip IsFieldWidth fs widths
  wide_given some =
      subst (λ (gs : List Field). AllZip IsFieldWidth gs widths) (sym same)
      (subst (λ (ws : List ℕ). AllZip IsFieldWidth fields ws) (sym wide) (fields_wide key fields half words as_record some))

  pub there_given : (index : ℕ) (lengths : List ℕ) → index < length fs → lengths ≡ half.lengths → index < length lengths
  there_given index lengths inside long = omega (arith, inside, ap (λ (gs : List Field). length gs) same, ap (λ (ls : List ℕ). length ls) long, fields_long key fields half words as_record)

  pub column_given : (index : ℕ) (column : Column) (first behind lengths bytes : List ℕ) → first ≡ (section_in shape half words).first → behind ≡ behind_items shape half words → lengths ≡ half.lengths
      → area_of (areas_in behind lengths) index ≡ bytes → TellsColumn fs widths first bytes index column → IsColumnIn (half_rows shape half words) index column
  column_given index column first behind lengths bytes first_is behind_is long area tells =
      subst (λ (s : Shape). IsColumnIn (half_rows s half words) index column) (sym is)
      (record_column key fields half words as_record index column bytes
      (ap (λ (s : Shape). area_of (section_in s half words).areas index) (sym is)
      ∙ ap (λ (ls : List ℕ). area_of (areas_in (behind_items shape half words) ls) index) (sym long)
      ∙ ap (λ (ws : List ℕ). area_of (areas_in ws lengths) index) (sym behind_is)
      ∙ area)
      (subst (λ (gs : List Field). TellsColumn gs half.widths (section_in (Shape.Object key fields) half words).first bytes index column) same
      (subst (λ (ws : List ℕ). TellsColumn fs ws (section_in (Shape.Object key fields) half words).first bytes index column) wide
      (subst (λ (f : List ℕ). TellsColumn fs widths f bytes index column) (first_is ∙ ap (λ (s : Shape). (section_in s half words).first) is) tells))))

-- ---- lists, sets and maps

pub record AreItems (shape : Shape) (half : HalfShape) (words : List ℕ) (items : PackedItems) : Type 0 where
  pub widths : items.widths.now ≡ half.widths
  pub total : items.total ≡ half.total
  pub first : items.first.now ≡ (section_in shape half words).first
  pub second : items.second.now ≡ (section_in shape half words).second

-- what is so of a half's parts is so of the items that are these
module _ (shape : Shape) (half : HalfShape) (words : List ℕ) (items : PackedItems) (are : AreItems shape half words items) where
  same_items : (P : List ℕ → ℕ → List ℕ → List ℕ → Type 0) → P half.widths half.total (section_in shape half words).first (section_in shape half words).second → P items.widths.now items.total items.first.now items.second.now
  same_items P given =
      subst (λ (w : List ℕ). P w items.total items.first.now items.second.now) (sym are.widths)
      (subst (λ (t : ℕ). P half.widths t items.first.now items.second.now) (sym are.total)
      (subst (λ (f : List ℕ). P half.widths half.total f items.second.now) (sym are.first)
      (subst (λ (s : List ℕ). P half.widths half.total (section_in shape half words).first s) (sym are.second) given)))

half_lists : (element : Name) (half : HalfShape) (words : List ℕ) (items : PackedItems) → IsPacked (Shape.List element) half words → AreItems (Shape.List element) half words items
    → AreListsIn (half_rows (Shape.List element) half words) items
half_lists element half words items packed are ordinal row at =
    let inside = row_inside (Shape.List element) half words packed ordinal row at in
    let holds = list_holds (Shape.List element) half words (half_rows (Shape.List element) half words) ordinal tt packed.laid inside.0 in
    by_row row (spelled_there (Shape.List element) half words (half_rows (Shape.List element) half words) ordinal row packed.laid at) holds
  where
    by_row : (row : Row) → Spells (Shape.List element) (section_in (Shape.List element) half words) ordinal row → HoldsListPlace half.widths (section_in (Shape.List element) half words).first ordinal
        → IsListThere items ordinal row
    by_row (Row.List ordinals) spelled holds = (
      ordinals,
      refl,
      same_items (Shape.List element) half words items are (λ w t f s. HoldsListPlace w f ordinal) holds,
      same_items (Shape.List element) half words items are (λ w t f s. SpellsList w t f s ordinal ordinals) spelled,
    )
    by_row (Row.Object vs) spelled holds = absurd spelled
    by_row (Row.Set ordinals) spelled holds = absurd spelled
    by_row (Row.Map pairs) spelled holds = absurd spelled

pub lists_given : (shape : Shape) (element : Name) (half : HalfShape) (words : List ℕ) (items : PackedItems) → shape ≡ Shape.List element → IsPacked shape half words → AreItems shape half words items
    → AreListsIn (half_rows shape half words) items
lists_given shape element half words items is =
    subst (λ (s : Shape). IsPacked s half words → AreItems s half words items → AreListsIn (half_rows s half words) items) (sym is) (half_lists element half words items)

runs_three : (shape : Shape) (count : ℕ) → IsWidthCount shape count → 3 ≤ count
runs_three (Shape.Object key fields) count is = absurd is
runs_three (Shape.List element) count is = absurd is
runs_three (Shape.Set element) count is = omega (arith, is)
runs_three (Shape.Map key value) count is = omega (arith, is)

of_pairs : (shape : Shape) (row : Row) (pairs : List (ℕ × ℕ)) → IsRowOf shape row pairs → IsOfPairs row pairs
of_pairs (Shape.Set element) (Row.Set ordinals) pairs is = is
of_pairs (Shape.Set element) (Row.Object vs) pairs is = absurd is
of_pairs (Shape.Set element) (Row.List ordinals) pairs is = absurd is
of_pairs (Shape.Set element) (Row.Map entries) pairs is = absurd is
of_pairs (Shape.Map key value) (Row.Map entries) pairs is = is
of_pairs (Shape.Map key value) (Row.Object vs) pairs is = absurd is
of_pairs (Shape.Map key value) (Row.List ordinals) pairs is = absurd is
of_pairs (Shape.Map key value) (Row.Set ordinals) pairs is = absurd is
of_pairs (Shape.Object key fields) row pairs is = absurd is
of_pairs (Shape.List element) row pairs is = absurd is

run_spelled : (shape : Shape) (half : HalfShape) (words : List ℕ) (place : ℕ) (row : Row) → HasRuns shape → Spells shape (section_in shape half words) place row
    → (pairs : List (ℕ × ℕ)) × IsRowOf shape row pairs × SpellsPairs half.widths half.total (section_in shape half words).first (section_in shape half words).second place pairs
run_spelled (Shape.Set element) half words place row runs spelled = spelled
run_spelled (Shape.Map key value) half words place row runs spelled = spelled
run_spelled (Shape.Object key fields) half words place row runs spelled = absurd runs
run_spelled (Shape.List element) half words place row runs spelled = absurd runs

pub half_runs : (shape : Shape) (half : HalfShape) (words : List ℕ) (items : PackedItems) → HasRuns shape → IsPacked shape half words → AreItems shape half words items → AreRunsIn (half_rows shape half words) items
half_runs shape half words items runs packed are ordinal row at =
    let inside = row_inside shape half words packed ordinal row at in
    let holds = runs_hold shape half words (half_rows shape half words) ordinal runs packed.laid inside.0 inside.1 in
    let spelled = run_spelled shape half words ordinal row runs (spelled_there shape half words (half_rows shape half words) ordinal row packed.laid at) in (
      spelled.0,
      of_pairs shape row spelled.0 spelled.1,
      record {
        three = same_items shape half words items are (λ w t f s. 3 ≤ length w) (runs_three shape (length half.widths) holds.counted);
        holds = same_items shape half words items are (λ w t f s. HoldsPointers w f ordinal) holds.pointers;
        few = same_items shape half words items are (λ w t f s. 64 * length s < 2 ^ 64) holds.few;
      },
      same_items shape half words items are (λ w t f s. SpellsPairs w t f s ordinal spelled.0) spelled.2,
    )

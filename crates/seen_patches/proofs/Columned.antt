-- The section with the columns of the consumer's fields, from its parts; and what the section of a blob has.
use Rattle.std.proofs.Common.{◌≡◌, ℕ, ◌*◌, ◌^◌, ◌<◌, ◌≤◌, List, [], ◌∷◌, length, sum, Option, None, Some, refl, sym, ap, subst, ◌∙◌, arith}
use Rattle.std.specs.Prelude.{All}
use Rattle.std.specs.List.{AllZip}
use Rattle.std.proofs.lemmas.List.{length-map}
use Rattle.std.proofs.lemmas.List.Elements.{All-cons, All-nil}
use Rattle.std.proofs.lemmas.List.Sums.{sum_by-le}
use Rattle.std.proofs.lemmas.Slice.Zip.{AllZip-long}
use Rattle.bit_array.specs.Element.{AreWords, number_of, words_of}
use Rattle.schema_model.specs.declared.schema.Field.{Field}
use Rattle.schema_model.specs.declared.schema.Shape.{Shape}
use Rattle.schema_model.specs.Growth.{ShapesAgree}
use Rattle.schema_model.specs.Parts.{shape_fields}
use Rattle.type_rows.specs.declared.patch.PatchSection.{PatchSection}
use Rattle.type_rows.specs.Patches.{IsWellFormedPatch}
use Rattle.type_rows.specs.WellFormed.{IsWidth}
use Rattle.seen_patches.specs.Elements.{elements_of}
use Rattle.seen_patches.specs.Seen.{AreColumns, IsColumned, seen_areas, seen_elements, seen_width, seen_widths, shared_bits}
use Rattle.seen_patches.proofs.PutColumns.{width_narrow}

pub columned : (mine theirs named : List Field) (raw seen : PatchSection) (old new from : List ℕ) (places : ℕ) → named ≡ theirs → old ≡ raw.widths → new ≡ seen.widths → from ≡ raw.first
    → places ≡ length raw.added → seen.max ≡ raw.max → seen.widths ≡ seen_widths mine named old → seen.own ≡ shared_bits mine named old → seen.total ≡ raw.total
    → length seen.first ≡ words_of (places * sum new) → AreWords seen.first
    → ((place : ℕ) → place < places → elements_of new seen.first place ≡ seen_elements mine named (elements_of old from place))
    → number_of seen.first < 2 ^ (places * sum new) → seen.second ≡ raw.second → seen.areas ≡ seen_areas mine named raw.areas → seen.removed ≡ raw.removed → seen.added ≡ raw.added
    → IsColumned mine theirs raw seen
columned mine theirs named raw seen old new from places named_is old_is new_is from_is places_is max widths own total words are elements bits second areas removed added =
    let size : places * sum new ≡ length raw.added * sum seen.widths = λ i. places_is i * sum (new_is i) in
    record {
      max = max;
      widths = widths ∙ (λ i. seen_widths mine (named_is i) (old_is i));
      own = own ∙ (λ i. shared_bits mine (named_is i) (old_is i));
      total = total;
      words = words ∙ ap words_of size;
      are = are;
      elements = λ place less.
          sym (ap (λ (ws : List ℕ). elements_of ws seen.first place) new_is)
          ∙ elements place (omega (arith, less, places_is))
          ∙ (λ i. seen_elements mine (named_is i) (elements_of (old_is i) (from_is i) place));
      bits = subst (λ (n : ℕ). number_of seen.first < 2 ^ n) size bits;
      second = second;
      areas = areas ∙ (λ i. seen_areas mine (named_is i) raw.areas);
      removed = removed;
      added = added;
    }

-- ---- how wide records are

pub sum_small : (count : ℕ) (widths : List ℕ) → length widths ≡ count → count ≤ 1024 → All (λ width. width ≤ 64) widths → sum widths ≤ 65536
sum_small count widths long few narrow = let most : sum widths ≤ length widths * 64 = sum_by-le (λ width. width) 64 widths narrow in omega (arith, most, long, few)

seen_narrow : (mine theirs : List Field) (widths : List ℕ) → All (λ width. width ≤ 64) widths → All (λ width. width ≤ 64) (seen_widths mine theirs widths)
seen_narrow [] theirs widths narrow = All-nil (λ width. width ≤ 64)
seen_narrow (field ∷ mine) theirs widths narrow =
    All-cons (λ width. width ≤ 64) (seen_width theirs widths field) (seen_widths mine theirs widths) (width_narrow theirs widths field narrow) (seen_narrow mine theirs widths narrow)

pub seen_small : (mine theirs : List Field) (widths seen : List ℕ) → length mine ≤ 1024 → All (λ width. width ≤ 64) widths → seen ≡ seen_widths mine theirs widths → sum seen ≤ 65536
seen_small mine theirs widths seen few narrow is =
    subst (λ (ws : List ℕ). sum ws ≤ 65536) (sym is)
    (sum_small (length mine) (seen_widths mine theirs widths) (length-map mine (seen_width theirs widths)) few (seen_narrow mine theirs widths narrow))

-- ---- what the section of a blob has

narrow_in : (max : Option ℕ) (field : Field) (width : ℕ) → IsWidth max field.kind width → width ≤ 64
narrow_in None field width is = is
narrow_in (Some max) field width is = is.0

pub all_narrow : (max : Option ℕ) (fields : List Field) (widths : List ℕ) → AllZip (λ field width. IsWidth max field.kind width) fields widths → All (λ width. width ≤ 64) widths
all_narrow max [] [] wide = All-nil (λ width. width ≤ 64)
all_narrow max [] (width ∷ widths) wide = absurd wide
all_narrow max (field ∷ fields) [] wide = absurd wide
all_narrow max (field ∷ fields) (width ∷ widths) wide = All-cons (λ width. width ≤ 64) width widths (narrow_in max field width wide.0) (all_narrow max fields widths wide.1)

pub object_columns : (key : Option (List (List ℕ))) (fields : List Field) (raw : PatchSection) → IsWellFormedPatch (Shape.Object key fields) raw → AreColumns fields raw
object_columns key fields raw well =
    let enough : words_of (length raw.added * sum raw.widths) ≤ length raw.first = well.enough in
    record {
      long = AllZip-long (λ field width. IsWidth raw.max field.kind width) fields raw.widths well.wide;
      narrow = all_narrow raw.max fields raw.widths well.wide;
      filled = well.filled;
      enough = omega (arith, enough);
    }

-- of a type whose fields are not the consumer's
pub well_columns : (mine theirs : Shape) (raw : PatchSection) → ShapesAgree mine theirs → (shape_fields mine ≡ shape_fields theirs → ⊥) → IsWellFormedPatch theirs raw → AreColumns (shape_fields theirs) raw
well_columns mine (Shape.Object key fields) raw agree differ well = object_columns key fields raw well
well_columns (Shape.Object key mine) (Shape.List element) raw agree differ well = absurd (let same : Shape.Object key mine ≡ Shape.List element = agree in cc)
well_columns (Shape.Object key mine) (Shape.Set element) raw agree differ well = absurd (let same : Shape.Object key mine ≡ Shape.Set element = agree in cc)
well_columns (Shape.Object key mine) (Shape.Map of to) raw agree differ well = absurd (let same : Shape.Object key mine ≡ Shape.Map of to = agree in cc)
well_columns (Shape.List other) (Shape.List element) raw agree differ well = absurd (differ refl)
well_columns (Shape.List other) (Shape.Set element) raw agree differ well = absurd (differ refl)
well_columns (Shape.List other) (Shape.Map of to) raw agree differ well = absurd (differ refl)
well_columns (Shape.Set other) (Shape.List element) raw agree differ well = absurd (differ refl)
well_columns (Shape.Set other) (Shape.Set element) raw agree differ well = absurd (differ refl)
well_columns (Shape.Set other) (Shape.Map of to) raw agree differ well = absurd (differ refl)
well_columns (Shape.Map one other) (Shape.List element) raw agree differ well = absurd (differ refl)
well_columns (Shape.Map one other) (Shape.Set element) raw agree differ well = absurd (differ refl)
well_columns (Shape.Map one other) (Shape.Map of to) raw agree differ well = absurd (differ refl)

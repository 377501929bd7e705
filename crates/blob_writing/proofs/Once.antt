-- What is carried of a type of two states is determined: the greatest ordinal, and the packed rows of the same places.
use Rattle.std.proofs.Common.{◌≡◌, ℕ, ◌<◌, inl, inr, length, List, [], Option, Some, None, refl, sym, ap, ◌∙◌, subst, arith}
use Rattle.std.specs.Prelude.{slice_get}
use Rattle.std.proofs.lemmas.Option.{slice_get_cases}
use Rattle.bit_array.specs.Element.{AreWords}
use Rattle.row_model.specs.Table.{Table}
use Rattle.row_model.specs.declared.packed.Packed.{Packed}
use Rattle.row_model.specs.declared.row.Row.{Row}
use Rattle.schema_model.specs.declared.schema.Schema.{Schema}
use Rattle.schema_model.specs.declared.schema.Shape.{Shape}
use Rattle.row_packing.specs.Chosen.{IsGreatestOrdinal}
use Rattle.row_packing.specs.Packs.{CanPackPlaces, PacksPlaces}
use Rattle.row_packing.proofs.PackedOnce.{ArePlacesPackedOnce}
use Rattle.blob_sections.specs.declared.section.PackedRows.{PackedRows}
use Rattle.blob_writing.specs.Carried.{FitBytes}

-- ---- the type at an index

pub inside : (schemas : List Schema) (index : ℕ) (schema : Schema) → slice_get schemas index ≡ Some schema → index < length schemas
inside schemas index schema at =
    elim (slice_get_cases schemas index).1 [
      | inl p ↦ p.1
      | inr p ↦ let none = p.1 in absurd cc
    ]

pub same_schema : (schemas : List Schema) (index : ℕ) (a b : Schema) → slice_get schemas index ≡ Some a → slice_get schemas index ≡ Some b → a ≡ b
same_schema schemas index a b one other = cc

-- ---- what is carried of it

pub one_greatest : (old new : Table) (type_index : ℕ) (a b : Option ℕ) → IsGreatestOrdinal old new type_index a → IsGreatestOrdinal old new type_index b → a ≡ b
one_greatest old new type_index None None one other = refl
one_greatest old new type_index None (Some b) one other = absurd (one b other.0)
one_greatest old new type_index (Some a) None one other = absurd (other a one.0)
one_greatest old new type_index (Some a) (Some b) one other = let same : a ≡ b = omega (arith, one.1 b other.0, other.1 a one.0) in ap Some same

no_words : (words : List ℕ) → words ≡ [] → AreWords words
no_words words none = subst AreWords (sym none) (λ k d inside. absurd (omega arith))

are_words : (shape : Shape) (places : List (Option Row)) (rows : PackedRows) → FitBytes shape rows → PacksPlaces shape rows.widths places rows.packed.first rows.packed.second rows.packed.areas
    → AreWords rows.packed.first × AreWords rows.packed.second
are_words (Shape.Object key fields) places rows fits packs = (fits.0.small, no_words rows.packed.second packs.1)
are_words (Shape.List element) places rows fits packs = (fits.1.small, fits.2.small)
are_words (Shape.Set element) places rows fits packs = (fits.1.small, fits.2.small)
are_words (Shape.Map key value) places rows fits packs = (fits.1.small, fits.2.small)

same_packed : (a b : Packed) → a.first ≡ b.first → a.second ≡ b.second → a.areas ≡ b.areas → a ≡ b
same_packed a b first second areas =
    ap (λ (words : List ℕ). record a { first = words }) first
    ∙ ap (λ (words : List ℕ). record { first = b.first; second = words; areas = a.areas }) second
    ∙ ap (λ (bytes : List (List ℕ)). record { first = b.first; second = b.second; areas = bytes }) areas

same_rows : (a b : PackedRows) → a.widths ≡ b.widths → a.total ≡ b.total → a.packed ≡ b.packed → a ≡ b
same_rows a b widths total packed =
    ap (λ (ws : List ℕ). record a { widths = ws }) widths
    ∙ ap (λ (count : ℕ). record { widths = b.widths; total = count; packed = a.packed }) total
    ∙ ap (λ (parts : Packed). record { widths = b.widths; total = b.total; packed = parts }) packed

-- packed rows of the same places, with the same widths and total
pub rows_once : ArePlacesPackedOnce → (shape : Shape) (places : List (Option Row)) (a b : PackedRows) → CanPackPlaces shape a.widths places → a.widths ≡ b.widths → a.total ≡ b.total
    → FitBytes shape a → FitBytes shape b → PacksPlaces shape a.widths places a.packed.first a.packed.second a.packed.areas
    → PacksPlaces shape b.widths places b.packed.first b.packed.second b.packed.areas → a ≡ b
rows_once law shape places a b can widths total fits fits' packs packs' =
    let words = are_words shape places a fits packs in
    let words' = are_words shape places b fits' packs' in
    let moved : PacksPlaces shape a.widths places b.packed.first b.packed.second b.packed.areas =
    subst (λ (ws : List ℕ). PacksPlaces shape ws places b.packed.first b.packed.second b.packed.areas) (sym widths) packs' in
    let same = law shape a.widths places a.packed.first b.packed.first a.packed.second b.packed.second a.packed.areas b.packed.areas can words.0 words'.0 words.1 words'.1 packs moved in
    same_rows a b widths total (same_packed a.packed b.packed same.0 same.1 same.2)

-- Records whose widths alone tell that each place spells one: nothing of them is to be looked at.
use Rattle.std.proofs.Common.{inl, inr, ◌≡◌, ℕ, suc, ◌+◌, ◌*◌, ◌<◌, List, [], ◌∷◌, Some, length, take, get_or, replicate, refl, ap, sym, ◌∙◌, subst, arith}
use Rattle.std.specs.Prelude.{slice_get, sum}
use Rattle.std.specs.FinMap.{values}
use Rattle.std.specs.List.Sorted.{IsStrictlyIncreasing}
use Rattle.std.proofs.lemmas.Bool.{cases_lt}
use Rattle.std.proofs.lemmas.List.{get_or-replicate, get_or_default, get_or_past, length-replicate}
use Rattle.std.proofs.lemmas.List.Sums.{sum_by-cons}
use Rattle.std.proofs.lemmas.Option.{slice_get-get_or}
use Rattle.bit_array.proofs.Elements.{element_of-lt}
use Rattle.schema_model.specs.declared.schema.Field.{Field}
use Rattle.schema_model.specs.declared.schema.FieldKind.{FieldKind}
use Rattle.schema_model.specs.declared.schema.Shape.{Shape}
use Rattle.schema_model.specs.Parts.{shape_fields}
use Rattle.row_model.specs.Areas.{area_of}
use Rattle.row_model.specs.Table.{RowMap}
use Rattle.object_codec.specs.Packing.{HasBytes}
use Rattle.object_codec.specs.ObjectPlace.{IsObject, part_at}
use Rattle.object_codec.specs.Sound.{SpellSome}
use Rattle.object_codec.proofs.Soundness.{sound_all}
use Rattle.type_rows.specs.declared.section.Section.{Section}
use Rattle.type_rows.specs.Layout.{places_of}
use Rattle.type_rows.specs.Loads.{SectionIs}
use Rattle.type_rows.specs.WellFormed.{IsReadable}
use Rattle.type_rows.specs.Free.{AreFree, IsFree}
use Rattle.type_rows.specs.Ordinals.{HasNoPlace, HoldsNowhere}
use Rattle.type_rows.specs.FieldEnds.{AreLengths, EndFits, EndsFit}
use Rattle.type_rows.specs.Sums.{AreLaid}
use Rattle.type_rows.proofs.OnceFirst.{some_once}
use Rattle.type_rows.proofs.Columns.{column_none, column_whole}
use Rattle.type_rows.proofs.ColumnsLaid.{columns_laid}
use Rattle.type_rows.proofs.RecordFaults.{holds_listed, records_tested}

-- One field more that is free.
pub free_more : (fields : List Field) (widths : List ℕ) (index : ℕ) (field : Field) → index < length fields → field ≡ get_or fields index field → AreFree fields widths index
    → IsFree field.kind (get_or widths index 0) → AreFree fields widths (index + 1)
free_more fields widths index field inside is before here k other below at = elim (cases_lt k index) [
  | inl low ↦ before k other low at
  | inr high ↦ (
      let same : index ≡ k = omega (arith, below, high) in
      let there : slice_get fields index ≡ Some field = slice_get-get_or fields index field inside ∙ ap Some (sym is) in
      let one : field ≡ other = some_once field other (sym there ∙ ap (λ (n : ℕ). slice_get fields n) same ∙ at) in
      subst (λ (n : ℕ). IsFree other.kind (get_or widths n 0)) same (subst (λ (f : Field). IsFree f.kind (get_or widths index 0)) one here))
]

sum_zeros : (lengths : List ℕ) → ((k : ℕ) → get_or lengths k 0 ≡ 0) → sum lengths ≡ 0
sum_zeros [] zeros = refl
sum_zeros (length ∷ lengths) zeros = omega (arith, sum_by-cons (λ (n : ℕ). n) length lengths, zeros 0, sum_zeros lengths (λ k. zeros (suc k)))

pub zeros_long : (count : ℕ) → length (replicate {A = ℕ} count 0) ≡ count
zeros_long count = length-replicate {A = ℕ} count 0

pub zeros_there : (count k : ℕ) → get_or (replicate {A = ℕ} count 0) k 0 ≡ 0
zeros_there count k = elim (cases_lt k count) [
  | inl inside ↦ get_or-replicate {A = ℕ} count k 0 0 inside
  | inr past ↦ get_or_past (replicate {A = ℕ} count 0) k 0 (omega (arith, past, zeros_long count))
]

ends_nowhere : (kind : FieldKind) (width : ℕ) → (HasBytes kind → ⊥) → EndFits kind width 0
ends_nowhere (FieldKind.Reference name) width none = tt
ends_nowhere FieldKind.Int width none = tt
ends_nowhere FieldKind.Long width none = tt
ends_nowhere FieldKind.Boolean width none = tt
ends_nowhere FieldKind.Text width none = absurd (none tt)
ends_nowhere FieldKind.Bytes width none = absurd (none tt)

module _ (shape : Shape) (section : Section) (object : IsObject shape) (free : AreFree (shape_fields shape) section.widths (length (shape_fields shape))) where
  spell_free : IsReadable shape section → HoldsNowhere (HasNoPlace section.live (places_of section.max))
      → SpellSome (shape_fields shape) section.widths section.first section.areas section.live (length section.live)
  spell_free readable placed =
      let fields = shape_fields shape in
      let widths = section.widths in
      sound_all fields widths section.first section.areas section.live (length section.live) (length fields) (sum (take (length fields) widths))
      (holds_listed shape section section.live object readable refl placed) (omega arith)
      (record {
        summed = refl;
        sound = λ j k field below inside is.
            (free j field below (slice_get-get_or fields j field below ∙ ap Some (sym is))).spells
            (part_at section.first (sum widths) (get_or section.live k 0) (sum (take j widths)) (get_or widths j 0) (area_of section.areas j)) refl
            (element_of-lt section.first (get_or section.live k 0 * sum widths + sum (take j widths)) (get_or widths j 0));
      })

  some_field : Field
  some_field = record { name = []; kind = FieldKind.Int }

  free_lengths : (lengths : List ℕ) → ((k : ℕ) → get_or lengths k 0 ≡ 0) → AreLengths shape section lengths (length (shape_fields shape))
  free_lengths lengths zeros rows is index below =
      let field = get_or (shape_fields shape) index some_field in
      let at = slice_get-get_or (shape_fields shape) index some_field below in
      zeros index
      ∙ column_whole shape section index 0 rows
      (column_none shape section index field object below (get_or_default (shape_fields shape) index some_field field below) (free index field below at).fixed (length section.live) (omega arith)) is

  free_ends : (lengths : List ℕ) → ((k : ℕ) → get_or lengths k 0 ≡ 0) → EndsFit (shape_fields shape) section.widths lengths (length (shape_fields shape))
  free_ends lengths zeros index field below at = (
    subst (EndFits field.kind (get_or section.widths index 0)) (sym (zeros index)) (ends_nowhere field.kind (get_or section.widths index 0) (free index field below at).fixed),
    omega (arith, zeros index),
  )

  -- They are laid out, and add up to nothing.
  pub free_laid : IsReadable shape section → HoldsNowhere (HasNoPlace section.live (places_of section.max)) → IsStrictlyIncreasing section.live
      → (lengths : List ℕ) → length lengths ≡ length (shape_fields shape) → ((k : ℕ) → get_or lengths k 0 ≡ 0)
      → (rows : RowMap) × SectionIs shape section rows × AreLaid shape section.widths (values rows) 0 lengths 0
  free_laid readable placed rising lengths long zeros =
      let leads = records_tested shape section section.live object refl rising placed (spell_free readable placed) in (
        leads.0,
        leads.1,
        columns_laid shape section object readable placed lengths long (free_lengths lengths zeros) (free_ends lengths zeros) leads.0 leads.1 0 (omega (arith, sum_zeros lengths zeros)),
      )

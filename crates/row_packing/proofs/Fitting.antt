-- Lemmas on rows that are laid out one after another: each fits where it fits behind all of them.
use Rattle.std.proofs.Common.{ℕ, ◌≤◌, List, [], ◌∷◌, ◌++◌, ap, arith, append_assoc}
use Rattle.std.specs.Prelude.{All, slice_index, sum_by}
use Rattle.std.proofs.lemmas.List.Sums.{sum_by-append}
use Rattle.std.proofs.lemmas.List.Elements.{All-head, All-tail}
use Rattle.row_model.specs.declared.row.Row.{Row}
use Rattle.row_model.specs.declared.row.Value.{Value}
use Rattle.schema_model.specs.declared.schema.FieldKind.{FieldKind}
use Rattle.schema_model.specs.declared.schema.Shape.{Shape}
use Rattle.type_rows.specs.Holds.{FitsWidth, FitsRow, HoldsRows}
use Rattle.type_rows.specs.Layout.{items_of_row, item_count}
use Rattle.type_rows.specs.WordsHeld.{part_bytes, field_bytes}

-- a value that fits with an end offset fits with a lesser one
width_less : (kind : FieldKind) (width end less : ℕ) (value : Value) → less ≤ end → FitsWidth kind width end value → FitsWidth kind width less value
width_less FieldKind.Text width end less value le fits = omega arith
width_less FieldKind.Bytes width end less value le fits = omega arith
width_less (FieldKind.Reference name) width end less Value.Null le fits = tt
width_less (FieldKind.Reference name) width end less (Value.Ref ordinal) le fits = fits
width_less (FieldKind.Reference name) width end less _ le fits = absurd fits
width_less FieldKind.Int width end less Value.Null le fits = tt
width_less FieldKind.Int width end less (Value.Int number) le fits = fits
width_less FieldKind.Int width end less _ le fits = absurd fits
width_less FieldKind.Long width end less Value.Null le fits = tt
width_less FieldKind.Long width end less (Value.Long number) le fits = fits
width_less FieldKind.Long width end less _ le fits = absurd fits
width_less FieldKind.Boolean width end less Value.Null le fits = fits
width_less FieldKind.Boolean width end less (Value.Bool flag) le fits = fits
width_less FieldKind.Boolean width end less _ le fits = absurd fits

-- so does a row
row_less : (shape : Shape) (widths : List ℕ) (ends less : ℕ → ℕ) (items few : ℕ) (row : Row) → ((f : ℕ) → less f ≤ ends f) → few ≤ items → FitsRow shape widths ends items row → FitsRow shape widths less few row
row_less (Shape.Object key fields) widths ends less items few (Row.Object values) le le_items fits = λ f field value at there. width_less field.kind (slice_index widths f) (ends f) (less f) value (le f) (fits f field value at there)
row_less (Shape.Object key fields) widths ends less items few _ le le_items fits = absurd fits
row_less (Shape.List element) widths ends less items few (Row.List ordinals) le le_items fits = record { pointer = omega (arith, fits.pointer); elements = fits.elements }
row_less (Shape.List element) widths ends less items few _ le le_items fits = absurd fits
row_less (Shape.Set element) widths ends less items few (Row.Set ordinals) le le_items fits = record { pointer = omega (arith, fits.pointer); size = fits.size; elements = fits.elements }
row_less (Shape.Set element) widths ends less items few _ le le_items fits = absurd fits
row_less (Shape.Map key value) widths ends less items few (Row.Map pairs) le le_items fits = record { pointer = omega (arith, fits.pointer); size = fits.size; parts = fits.parts }
row_less (Shape.Map key value) widths ends less items few _ le le_items fits = absurd fits

-- rows that fit behind so much, which they do not pass together, can be laid out one after another
pub laid_out : (shape : Shape) (widths : List ℕ) (ends : ℕ → ℕ) (items : ℕ) (before rest : List Row) → All (FitsRow shape widths ends items) rest
    → ((f : ℕ) → field_bytes f (before ++ rest) ≤ ends f) → item_count (before ++ rest) ≤ items → HoldsRows shape widths before rest
laid_out shape widths ends items before [] all le le_items = tt
laid_out shape widths ends items before (row ∷ rest) all le le_items =
    let joined = append_assoc before (row ∷ []) rest in
    let few = ap (sum_by items_of_row) joined in
    let parts = sum_by-append items_of_row (before ++ row ∷ []) rest in (
      row_less shape widths ends (λ f. field_bytes f (before ++ row ∷ [])) items (item_count (before ++ row ∷ [])) row
          (λ f. omega (arith, le f, ap (sum_by (part_bytes f)) joined, sum_by-append (part_bytes f) (before ++ row ∷ []) rest)) (omega (arith, few, parts, le_items))
          (All-head (FitsRow shape widths ends items) row rest all),
      laid_out shape widths ends items (before ++ row ∷ []) rest (All-tail (FitsRow shape widths ends items) row rest all)
          (λ f. omega (arith, le f, ap (sum_by (part_bytes f)) joined)) (omega (arith, few, le_items)),
    )

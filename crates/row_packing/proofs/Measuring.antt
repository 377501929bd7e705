-- Lemmas on what is measured of a type: what each state holds, and that types without STRING and BYTES have no variable bytes.
use Rattle.std.proofs.Common.{◌≡◌, ℕ, ◌+◌, ◌*◌, ◌^◌, ◌≤◌, ◌<◌, max, List, [], ◌∷◌, length, Option, None, Some, ap, ◌∙◌, refl, sym, subst, arith}
use Rattle.std.specs.Prelude.{All, slice_get, sum_by}
use Rattle.std.specs.List.{AllZip}
use Rattle.std.proofs.lemmas.List.Elements.{All-head, All-tail}
use Rattle.std.proofs.lemmas.List.Sums.{sum_by-cons}
use Rattle.bit_array.specs.Element.{words_of}
use Rattle.schema_model.specs.declared.limit.Limit.TheVariants.{Bytes, Words}
use Rattle.schema_model.specs.Parts.{shape_fields}
use Rattle.schema_model.specs.declared.schema.Field.{Field}
use Rattle.schema_model.specs.declared.schema.FieldKind.{FieldKind}
use Rattle.schema_model.specs.declared.schema.Schema.{Schema}
use Rattle.schema_model.specs.declared.schema.Shape.{Shape}
use Rattle.row_model.specs.Row.{FitsKind, FitsShape}
use Rattle.row_model.specs.Table.{Table, IsTableOf}
use Rattle.row_model.specs.declared.row.Row.{Row}
use Rattle.row_model.specs.declared.row.Value.{Value}
use Rattle.row_model.specs.BothStates.{rows_of_both}
use Rattle.object_codec.specs.Packing.{HasBytes}
use Rattle.object_codec.specs.Widths.{live_rows, bytes_for}
use Rattle.record_copies.specs.Fixed.{AreFixed}
use Rattle.type_rows.specs.Layout.{item_count, item_bits, words_needed, fixed_words}
use Rattle.type_rows.specs.WordsHeld.{value_bytes, row_bytes}
use Rattle.row_packing.specs.declared.chosen.Chosen.{Chosen}
use Rattle.row_packing.specs.declared.measured.Held.{Held}
use Rattle.row_packing.specs.declared.measured.Measured.{Measured}
use Rattle.row_packing.specs.Chosen.{shape_at, chosen_total, IsLiveInEither, IsRowOf, KeepsCounts, IsChosen}
use Rattle.row_packing.specs.Measured.{IsHeld, IsMeasured}
use Rattle.row_packing.specs.Places.{Agree}
use Rattle.row_packing.specs.TypeLimit.{TellsLimit, KeepsItems, KeepsBytes}
use Rattle.row_packing.proofs.Greatest.{sum_typed}
use Rattle.row_packing.proofs.RowBytes.{rows_count}
use Rattle.row_packing.proofs.Suiting.{rows_known, shape_is}
use Rattle.row_packing.proofs.TypeLimits.{both_same, sum_zero, bytes_kept, bytes_passed, counts_kept, old_items, new_items, words_kept, words_passed}

-- ---- types without variable bytes

kind_fixed : (kind : FieldKind) (value : Value) → (HasBytes kind → ⊥) → FitsKind kind value → value_bytes value ≡ 0
kind_fixed kind Value.Null fixed fits = refl
kind_fixed kind (Value.Int number) fixed fits = refl
kind_fixed kind (Value.Long number) fixed fits = refl
kind_fixed kind (Value.Bool flag) fixed fits = refl
kind_fixed kind (Value.Ref ordinal) fixed fits = refl
kind_fixed FieldKind.Text (Value.Text units) fixed fits = absurd (fixed tt)
kind_fixed FieldKind.Bytes (Value.Bytes bytes) fixed fits = absurd (fixed tt)
kind_fixed (FieldKind.Reference name) (Value.Text units) fixed fits = absurd fits
kind_fixed FieldKind.Int (Value.Text units) fixed fits = absurd fits
kind_fixed FieldKind.Long (Value.Text units) fixed fits = absurd fits
kind_fixed FieldKind.Boolean (Value.Text units) fixed fits = absurd fits
kind_fixed FieldKind.Bytes (Value.Text units) fixed fits = absurd fits
kind_fixed (FieldKind.Reference name) (Value.Bytes bytes) fixed fits = absurd fits
kind_fixed FieldKind.Int (Value.Bytes bytes) fixed fits = absurd fits
kind_fixed FieldKind.Long (Value.Bytes bytes) fixed fits = absurd fits
kind_fixed FieldKind.Boolean (Value.Bytes bytes) fixed fits = absurd fits
kind_fixed FieldKind.Text (Value.Bytes bytes) fixed fits = absurd fits

values_fixed : (fields : List Field) (values : List Value) → AreFixed fields → AllZip (λ field value. FitsKind field.kind value) fields values → sum_by value_bytes values ≡ 0
values_fixed [] [] fixed fit = refl
values_fixed [] (value ∷ values) fixed fit = absurd fit
values_fixed (field ∷ fields) [] fixed fit = absurd fit
values_fixed (field ∷ fields) (value ∷ values) fixed fit =
    omega (
      arith,
      sum_by-cons value_bytes value values,
      kind_fixed field.kind value (All-head (λ (f : Field). HasBytes f.kind → ⊥) field fields fixed) fit.0,
      values_fixed fields values (All-tail (λ (f : Field). HasBytes f.kind → ⊥) field fields fixed) fit.1,
    )

row_fixed : (shape : Shape) (row : Row) → AreFixed (shape_fields shape) → FitsShape shape row → row_bytes row ≡ 0
row_fixed (Shape.Object key fields) (Row.Object values) fixed fits = values_fixed fields values fixed fits
row_fixed (Shape.List element) (Row.Object values) fixed fits = absurd fits
row_fixed (Shape.Set element) (Row.Object values) fixed fits = absurd fits
row_fixed (Shape.Map key value) (Row.Object values) fixed fits = absurd fits
row_fixed shape (Row.List ordinals) fixed fits = refl
row_fixed shape (Row.Set ordinals) fixed fits = refl
row_fixed shape (Row.Map pairs) fixed fits = refl

-- the rows of a type in a state are rows of the type
rows_there : (schemas : List Schema) (table : Table) (type_index : ℕ) → type_index < length schemas → IsTableOf schemas table → All (IsRowOf (shape_at schemas type_index)) (live_rows table type_index)
rows_there schemas table type_index known fits =
    subst (All (IsRowOf (shape_at schemas type_index))) (both_same table type_index) (rows_known schemas table table type_index known fits fits)

pub none_held : (schemas : List Schema) (table : Table) (type_index : ℕ) (schema : Schema) (fields : List Field) → type_index < length schemas → IsTableOf schemas table
    → slice_get schemas type_index ≡ Some schema → fields ≡ shape_fields schema.shape → AreFixed fields → 0 ≡ bytes_for (live_rows table type_index)
none_held schemas table type_index schema fields known fits at are fixed =
    let rows = live_rows table type_index in
    let shape = shape_at schemas type_index in
    let here : AreFixed (shape_fields shape) = subst AreFixed (are ∙ sym (ap shape_fields (shape_is schemas type_index schema at))) fixed in
    let none = sum_typed (IsRowOf shape) row_bytes (λ row. 0) rows (λ row is. row_fixed shape row here is.0) (rows_there schemas table type_index known fits) ∙ sum_zero rows in
    omega (arith, none, rows_count rows)

-- ---- what a state holds

pub held_is : (shape : Shape) (table : Table) (type_index items bytes : ℕ) → items ≡ chosen_total shape (rows_of_both table table type_index) → bytes ≡ bytes_for (live_rows table type_index)
    → IsHeld shape table type_index (record { items = items; bytes = bytes })
held_is shape table type_index items bytes total is = record { items = total ∙ ap (chosen_total shape) (both_same table type_index); bytes = is }

-- ---- whether the rows are laid out

module _ (shape : Shape) (old new : Table) (type_index total bytes : ℕ) (counted : total ≡ chosen_total shape (rows_of_both old new type_index))
    (held : bytes ≡ max (bytes_for (live_rows old type_index)) (bytes_for (live_rows new type_index))) where
  pub many_items : 2 ^ 25 < total → KeepsCounts shape old new type_index → ⊥
  many_items many keeps = omega (arith, counted, many, keeps.items)

  pub many_bytes : 2 ^ 25 < bytes → KeepsCounts shape old new type_index → ⊥
  many_bytes many keeps = omega (arith, held, many, rows_count (live_rows old type_index), rows_count (live_rows new type_index), keeps.old_bytes, keeps.new_bytes)

  pub few_kept : ((ordinal : ℕ) → IsLiveInEither old new type_index ordinal → ordinal < 2 ^ 22) → total ≤ 2 ^ 25 → bytes ≤ 2 ^ 25 → KeepsCounts shape old new type_index
  few_kept below items few = record {
    ordinals = below;
    items = omega (arith, counted, items);
    old_bytes = omega (arith, held, few, rows_count (live_rows old type_index));
    new_bytes = omega (arith, held, few, rows_count (live_rows new type_index));
  }

-- ---- the limit that is passed

-- the words that are counted are those of any rows with so many items
abbrev pub CountsWords : Shape → Chosen → Held → ℕ → Type 0
CountsWords shape chosen held words = (rows : List Row) → held.items ≡ item_count rows → words ≡ fixed_words shape (record { max = chosen.max; widths = chosen.widths }) rows

pub words_are : (shape : Shape) (max : Option ℕ) (lent widths : List ℕ) (items words : ℕ) (rows : List Row) → lent ≡ widths → items ≡ item_count rows
    → words ≡ words_needed shape (record { max = max; widths = lent }) + words_of (items * item_bits shape lent) → words ≡ fixed_words shape (record { max = max; widths = widths }) rows
words_are shape max lent widths items words rows same counted is =
    is ∙ ap (λ (ws : List ℕ). words_needed shape (record { max = max; widths = ws }) + words_of (items * item_bits shape ws)) same
    ∙ ap (λ (n : ℕ). words_needed shape (record { max = max; widths = widths }) + words_of (n * item_bits shape widths)) counted

module _ (shape : Shape) (old new : Table) (type_index : ℕ) (measured : Measured) (agree : Agree old new type_index)
    (below : (ordinal : ℕ) → IsLiveInEither old new type_index ordinal → ordinal < 2 ^ 22) (is : IsMeasured shape old new type_index measured) where
  module _ (few : measured.chosen.total ≤ 2 ^ 25) where
    items_kept : KeepsItems shape old new type_index
    items_kept = omega (arith, is.total, few)

    pub tells_bytes : 2 ^ 25 < max measured.old.bytes measured.new.bytes → TellsLimit shape old new type_index (Some Bytes)
    tells_bytes many = (items_kept, bytes_passed old new type_index measured.old.bytes measured.new.bytes is.before.bytes is.after.bytes many)

    module _ (short : max measured.old.bytes measured.new.bytes ≤ 2 ^ 25) (old_words new_words : ℕ) (was : CountsWords shape measured.chosen measured.old old_words)
        (now : CountsWords shape measured.chosen measured.new new_words) where
      all_bytes : KeepsBytes old new type_index
      all_bytes = bytes_kept old new type_index measured.old.bytes measured.new.bytes is.before.bytes is.after.bytes short

      chosen_is : IsChosen shape old new type_index measured.chosen
      chosen_is = is.chosen (counts_kept shape old new type_index below items_kept all_bytes)

      old_counted : measured.old.items ≡ item_count (live_rows old type_index)
      old_counted = old_items shape old new type_index agree below chosen_is.rows items_kept measured.old.items is.before.items

      new_counted : measured.new.items ≡ item_count (live_rows new type_index)
      new_counted = new_items shape old new type_index agree below chosen_is.rows items_kept measured.new.items is.after.items

      pub tells_words : 2 ^ 22 < max old_words new_words → TellsLimit shape old new type_index (Some Words)
      tells_words many =
          (items_kept, all_bytes, words_passed shape old new type_index measured.chosen chosen_is old_words new_words (was (live_rows old type_index) old_counted) (now (live_rows new type_index) new_counted) many)

      pub tells_none : max old_words new_words ≤ 2 ^ 22 → TellsLimit shape old new type_index None
      tells_none some =
          (items_kept, all_bytes, words_kept shape old new type_index measured.chosen chosen_is old_words new_words (was (live_rows old type_index) old_counted) (now (live_rows new type_index) new_counted) some)

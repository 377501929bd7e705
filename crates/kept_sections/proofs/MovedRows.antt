-- Lemmas on the rows that are written into moved records: where there is room, and what a place spells.
use Rattle.std.proofs.Common.{◌≡◌, ℕ, ◌+◌, ◌-◌, ◌*◌, ◌^◌, ◌<◌, ◌≤◌, ◌++◌, List, length, min, take, Some, refl, sym, subst, ◌∙◌, arith}
use Rattle.std.specs.Prelude.{replicate, slice_get, sum, Err, Ok, OnOk, Result}
use Rattle.std.proofs.Math.Nat.{mul-le-mul_right}
use Rattle.std.proofs.Math.Pow.{pow_mono}
use Rattle.std.proofs.Math.Seq.{take-append_seam}
use Rattle.std.proofs.lemmas.List.{length-replicate}
use Rattle.bit_array.specs.Element.{number_of, words_of}
use Rattle.ordinal_set.specs.Ordinals.{IsNextMember}
use Rattle.schema_model.specs.Parts.{shape_fields}
use Rattle.schema_model.specs.declared.schema.Schema.{Schema}
use Rattle.schema_model.specs.declared.schema.Shape.{Shape}
use Rattle.row_model.specs.Row.{stored_row}
use Rattle.row_model.specs.Table.{Table, row_at}
use Rattle.row_model.specs.declared.row.Row.{Row}
use Rattle.object_codec.specs.ObjectPlace.{SpellsObjectRow}
use Rattle.record_copies.specs.Fixed.{AreFixed, AreOthersKept, HasRecordRoom, IsEndKept, record_at}
use Rattle.record_copies.proofs.RecordBits.{row_moved}
use Rattle.row_packing.specs.Chosen.{shape_at}
use Rattle.row_packing.proofs.Suiting.{shape_is}
use Rattle.kept_sections.specs.Moved.{AreCopied, SpellsRowUnder}
use Rattle.kept_sections.proofs.Changing.{IsByBits, WrittenBelow, one_written}

-- What a place spells depends on the bits of its record alone.
pub spells_moves : (shape : Shape) (table : Table) (type_index : ℕ) (widths : List ℕ) → AreFixed (shape_fields shape) → IsByBits (SpellsRowUnder shape table type_index widths) widths
spells_moves shape table type_index widths fixed a b place same is = λ row areas at long. row_moved shape widths a b areas areas place place (stored_row row) fixed refl same (is row areas at long)

-- The row that was written at a place is the one under its ordinal.
pub spells_here : (shape own : Shape) (table : Table) (type_index : ℕ) (widths first : List ℕ) (place ordinal : ℕ) (row : Row) → shape ≡ own → place ≡ ordinal → row_at table type_index ordinal ≡ Some row
    → ((areas : List (List ℕ)) → length areas ≡ length (shape_fields own) → SpellsObjectRow own widths first areas place (stored_row row)) → SpellsRowUnder shape table type_index widths first ordinal
spells_here shape own table type_index widths first place ordinal row same here stands spelled = λ other areas at long.
    let one : row ≡ other = some_is (sym stands ∙ at) in
    let wide : length areas ≡ length (shape_fields own) = subst (λ (s : Shape). length areas ≡ length (shape_fields s)) same long in
    subst (λ (s : Shape). SpellsObjectRow s widths first areas ordinal (stored_row other)) (sym same)
    (subst (λ (k : ℕ). SpellsObjectRow own widths first areas k (stored_row other)) here (subst (λ (r : Row). SpellsObjectRow own widths first areas place (stored_row r)) one (spelled areas wide)))
  where
    some_is : {a b : Row} → Some a ≡ Some b → a ≡ b
    some_is e = cc

-- Records that were copied into words for so many places.
pub are_copied : (widths from zeros first : List ℕ) (before places bits : ℕ) → bits ≡ places * sum widths → zeros ≡ replicate (words_of bits) 0 → length first ≡ length zeros
    → ((place : ℕ) → place < min before places → record_at widths first place ≡ record_at widths from place) → ((place : ℕ) → min before places ≤ place → record_at widths first place ≡ 0)
    → number_of first < 2 ^ (min before places * sum widths) → AreCopied widths from before places first
are_copied widths from zeros first before places bits is zero long copied clear behind = record {
  long = long ∙ subst (λ (zs : List ℕ). length zs ≡ words_of bits) (sym zero) (length-replicate (words_of bits) 0) ∙ subst (λ (n : ℕ). words_of bits ≡ words_of n) is refl;
  copied = copied;
  clear = clear;
  behind =
      (let fewer : min before places ≤ places = omega arith in
      let product : min before places * sum widths ≤ places * sum widths = mul-le-mul_right (sum widths) fewer in
      let most : 2 ^ (min before places * sum widths) ≤ 2 ^ (places * sum widths) = pow_mono product in
      omega (arith, behind, most));
}

-- What is written back to a vector that was lent whole.
pub written_over : (new behind : List ℕ) (len : ℕ) → len ≡ length new → take len (new ++ behind) ≡ new
written_over new behind len is = subst (λ n. take n (new ++ behind) ≡ new) (sym is) (take-append_seam new behind)

-- What follows where all is well.
pub on_ok : {T E P Q : Type 0} (result : Result T E) → (P → Q) → OnOk result P → OnOk result Q
on_ok (Ok value) more so = more so
on_ok (Err error) more so = so

-- One row more that came is written.
pub came_more : (models schemas : List Schema) (table : Table) (type_index : ℕ) (schema : Schema) (widths old came first after : List ℕ) (from ordinal place : ℕ) (lent row : Row) → models ≡ schemas → slice_get models type_index ≡ Some schema
    → WrittenBelow (SpellsRowUnder (shape_at schemas type_index) table type_index widths) widths old first came from → IsNextMember from came ordinal → ordinal < 2 ^ 32 - 1 → length after ≡ length first → place ≡ ordinal → row_at table type_index ordinal ≡ Some lent
    → row ≡ lent → ((row : Row) → row_at table type_index ordinal ≡ Some row → HasRecordRoom (shape_at schemas type_index) widths old ordinal row)
    → ((areas : List (List ℕ)) → length areas ≡ length (shape_fields schema.shape) → SpellsObjectRow schema.shape widths after areas place (stored_row row)) → AreOthersKept widths first after place → IsEndKept widths first after place
    → WrittenBelow (SpellsRowUnder (shape_at schemas type_index) table type_index widths) widths old after came (ordinal + 1)
came_more models schemas table type_index schema widths old came first after from ordinal place lent row same found done next small long here stands is room spelled others end =
    let shape = shape_at schemas type_index in
    let at : slice_get schemas type_index ≡ Some schema = subst (λ (s : List Schema). slice_get s type_index ≡ Some schema) same found in
    let there : row_at table type_index ordinal ≡ Some row = subst (λ (r : Row). row_at table type_index ordinal ≡ Some r) (sym is) stands in
    one_written (SpellsRowUnder shape table type_index widths) widths old came (spells_moves shape table type_index widths (room row there).fixed) first after from ordinal done next small long
    (subst (AreOthersKept widths first after) here others) (subst (IsEndKept widths first after) here end)
    (spells_here shape schema.shape table type_index widths after place ordinal row (shape_is schemas type_index schema at) here there spelled)

-- A state, what is put and what is removed have one edited list.
use Rattle.std.proofs.Common.{◌≡◌, ◌∙◌, ◌++◌, ◌↔◌, ℕ, suc, List, [], ◌∷◌, Some, arith, length, refl, sym, ap, slice_get}
use Rattle.std.specs.Prelude.{Contains}
use Rattle.std.specs.List.{flat_map}
use Rattle.schema_model.specs.declared.schema.Schema.{Schema}
use Rattle.row_model.specs.Row.{Rises}
use Rattle.row_model.specs.Table.{Table}
use Rattle.write_engine.specs.Cycle.{IsSetOf}
use Rattle.write_engine.proofs.RisingLists.{one_set}
use Rattle.hol_incremental.specs.Edited.{IsEdited, IsEditedType, Keys, Records, of_type, records_of}

-- two rising lists with the same members are the same
pub rising_once : (xs ys : List ℕ) → Rises xs → Rises ys → ((q : ℕ) → Contains xs q ↔ Contains ys q) → xs ≡ ys
rising_once xs ys rises rises' same =
    let one : IsSetOf xs xs = record { rising = rises; same = λ q. ((λ among. among), (λ among. among)) } in
    let other : IsSetOf xs ys = record { rising = rises'; same = λ q. ((same q).1, (same q).0) } in
    one_set xs xs ys one other

same_items : {A : Type 0} (xs ys : List A) → length xs ≡ length ys → ((t : ℕ) (x y : A) → slice_get xs t ≡ Some x → slice_get ys t ≡ Some y → x ≡ y) → xs ≡ ys
same_items [] [] long each = refl
same_items [] (y ∷ ys) long each = absurd (omega (arith, long))
same_items (x ∷ xs) [] long each = absurd (omega (arith, long))
same_items (x ∷ xs) (y ∷ ys) long each =
    let one = each 0 x y refl refl in
    let rest = same_items xs ys (omega (arith, long)) (λ t. each (suc t)) in
    λ i. one i ∷ rest i

module _ (schemas : List Schema) (previous : Table) (puts : Records) (removes : Keys) where
  type_once : (t : ℕ) (a b : Records) → IsEditedType schemas previous puts removes t a → IsEditedType schemas previous puts removes t b → a ≡ b
  type_once t a b one other =
      let roots = rising_once one.roots other.roots one.rising other.rising (λ o. ((λ c. (other.are o).1 ((one.are o).0 c)), (λ c. (one.are o).1 ((other.are o).0 c)))) in
      one.records_are ∙ ap (λ (ordinals : List ℕ). records_of schemas previous t ordinals ++ of_type t puts) roots ∙ sym other.records_are

  pub edited_once : (a b : Records) → IsEdited schemas previous puts removes a → IsEdited schemas previous puts removes b → a ≡ b
  edited_once a b one other =
      one.records_are
      ∙ ap (λ (parts : List Records). flat_map (λ part. part) parts)
      (same_items one.parts other.parts (one.many ∙ sym other.many) (λ t x y at also. type_once t x y (one.each t x at) (other.each t y also)))
      ∙ sym other.records_are

-- The values of a record without references, each read into its slot.
use Rattle.std.proofs.Common.{◌≡◌, ◌∙◌, ℕ, zero, suc, List, [], ◌∷◌, length, replicate, set, None, Some, Result, Ok, refl, sym, ap, subst}
use Rattle.std.specs.Prelude.{slice_get}
use Rattle.std.specs.List.{AllZip}
use Rattle.std.proofs.lemmas.Slice.Zip.{AllZip-long}
use Rattle.json.specs.Token.{Token}
use Rattle.json.specs.Json.{read_key, value as json_value}
use Rattle.serde_json.specs.Data.{Data}
use Rattle.serde_json.specs.Read.{converted, of_json}
use Rattle.schema_model.specs.declared.reason.Reason.{Reason}
use Rattle.schema_model.specs.declared.schema.Field.{Field}
use Rattle.schema_model.specs.declared.schema.name.Name.{Name}
use Rattle.schema_model.specs.Parts.{field_names}
use Rattle.row_model.specs.declared.row.Row.{Row}
use Rattle.row_model.specs.declared.row.Value.{Value}
use Rattle.closed_rows.specs.Dangling.{IsPlain}
use Rattle.row_model.specs.PlainTree.{PlainTree, leaf, list_of_trees, object, trees_of_list}
use Rattle.row_model.specs.Row.{IsValueInRange, stored_value}
use Rattle.json_values.specs.ReadValue.{read_value}
use Rattle.record_json.specs.NamesApart.{AreNamesApart}
use Rattle.record_json.specs.ReadTree.{made, read_members, read_present}
use Rattle.record_trees.specs.Rows.{AreStoredOf, IsRowOf, IsStoredOf}
use Rattle.record_tokens.specs.Taken.{Takes, TakesMembers, scalar}
use Rattle.record_tokens.proofs.FieldsTaken.{AreBeingTaken, member_more, members_end, members_first, slots_long}
use Rattle.record_tokens.proofs.Taking.{present_leaf, scalar_value}

zip_set : {A B : Type 0} (R : A → B → Type 0) (xs : List A) (ys : List B) (place : ℕ) (x : A) (y : B) → AllZip R xs ys → R x y → AllZip R (set xs place x) (set ys place y)
zip_set R [] [] place x y all one = tt
zip_set R [] (b ∷ ys) place x y all one = absurd all
zip_set R (a ∷ xs) [] place x y all one = absurd all
zip_set R (a ∷ xs) (b ∷ ys) zero x y all one = (one, all.1)
zip_set R (a ∷ xs) (b ∷ ys) (suc place) x y all one = (all.0, zip_set R xs ys place x y all.1 one)

nulls_stored : (count : ℕ) → AreStoredOf (replicate count (leaf Value.Null)) (replicate count Value.Null)
nulls_stored zero = tt
nulls_stored (suc count) = ((tt, refl), nulls_stored count)

-- The slots have what a blob holds of the trees that the members that were passed give, and the others are ahead.
pub record AreBeingStored (nest : ℕ) (fields : List Field) (start now : List Token) (values : List Value) : Type 0 where
  pub found : List PlainTree
  pub stored : AreStoredOf found values
  pub taken : (follow : Name → Data → Result PlainTree Reason) → AreBeingTaken follow nest fields start now found

pub values_first : (nest : ℕ) (fields : List Field) (start : List Token) → AreBeingStored nest fields start start (replicate (length fields) Value.Null)
values_first nest fields start = record {
  found = replicate (length fields) (leaf Value.Null);
  stored = nulls_stored (length fields);
  taken = λ follow. members_first follow nest fields start;
}

pub value_more : (nest : ℕ) (fields : List Field) (start now inside later : List Token) (values : List Value) (place : ℕ) (name : List ℕ) (field : Field) (token : Token) (json : Data) (found value : Value) → AreNamesApart (field_names fields)
    → AreBeingStored nest fields start now values → read_key now ≡ Some (Some name, inside) → slice_get fields place ≡ Some field → field.name ≡ name
    → inside ≡ token ∷ later → IsPlain field.kind → scalar token ≡ Some json → read_value field.kind json ≡ Ok found → IsValueInRange found → value ≡ stored_value found
    → AreBeingStored nest fields start later (set values place value)
value_more nest fields start now inside later values place name field token json found value apart so_far key at named is plain_kind scalar_is reads range is_stored = record {
  found = set so_far.found place (leaf found);
  stored = zip_set IsStoredOf so_far.found values place (leaf found) value so_far.stored (range, is_stored);
  taken = λ follow.
      (let takes : Takes (read_present follow field.kind) nest inside (leaf found) later =
      (json, ap (λ ts. converted of_json (json_value nest ts)) is ∙ scalar_value nest token later json scalar_is, present_leaf follow field.kind json (leaf found) plain_kind (ap (made leaf) reads)) in
      member_more follow nest fields start now inside later so_far.found place name field (leaf found) apart (so_far.taken follow) key at named takes);
}

pub values_end : (nest : ℕ) (fields : List Field) (start now rest : List Token) (values : List Value) → AreBeingStored nest fields start now values → read_key now ≡ Some (None, rest)
    → (trees : List PlainTree) × AreStoredOf trees values
    × ((follow : Name → Data → Result PlainTree Reason) → TakesMembers (read_members follow fields) nest start (object (trees_of_list trees)) rest)
values_end nest fields start now rest values so_far over =
    (so_far.found, so_far.stored, λ follow. members_end follow nest fields start now rest so_far.found (so_far.taken follow) over)

pub values_long : (nest : ℕ) (fields : List Field) (start now : List Token) (values : List Value) → AreBeingStored nest fields start now values → length fields ≡ length values
values_long nest fields start now values so_far =
    slots_long (λ name json. Ok (leaf Value.Null)) nest fields start now so_far.found (so_far.taken (λ name json. Ok (leaf Value.Null))) ∙ sym (AllZip-long IsStoredOf so_far.found values so_far.stored)

-- ---- the row of a record

trees_back : (trees : List PlainTree) → list_of_trees (trees_of_list trees) ≡ trees
trees_back [] = refl
trees_back (tree ∷ trees) = ap (λ ts. tree ∷ ts) (trees_back trees)

pub row_of_values : (trees : List PlainTree) (values : List Value) → AreStoredOf trees values → IsRowOf (object (trees_of_list trees)) (Row.Object values)
row_of_values trees values stored = subst (λ ts. AreStoredOf ts values) (sym (trees_back trees)) stored

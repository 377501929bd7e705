-- Trees made of parts that were read, and the steps into a type's shape.
use Rattle.std.proofs.Common.{◌≡◌, ◌↔◌, ℕ, zero, suc, ◌-◌, List, [], ◌∷◌, length, Bool, IsTrue, true, false, Option, Some, Result, Ok, Err, refl, sym, ◌∙◌, ap, subst, arith}
use Rattle.std.specs.Prelude.{slice_get, slice_index_or}
use Rattle.std.proofs.lemmas.Bool.{cond-true}
use Rattle.serde_json.specs.Data.{Data, object as object_data, Members, item, no_items}
use Rattle.serde_json.specs.View.{view, items_view}
use Rattle.serde_json.specs.declared.value.Value.{Value}
use Rattle.schema_model.specs.declared.reason.Reason.TheVariants.{OtherKind, SameKeys}
use Rattle.schema_model.specs.declared.schema.name.Name.{Name}
use Rattle.schema_model.specs.declared.schema.Field.{Field}
use Rattle.schema_model.specs.declared.reason.Reason.{Reason}
use Rattle.schema_model.specs.declared.schema.Schema.{Schema}
use Rattle.schema_model.specs.declared.schema.Shape.{Shape}
use Rattle.record_trees.specs.declared.tree.Tree
use Rattle.record_trees.specs.declared.tree.Tree.{Tree}
use Rattle.record_trees.specs.declared.tree.Trees.{Trees}
use Rattle.record_trees.specs.declared.tree.TreePairs.{TreePairs}
use Rattle.row_model.specs.PlainTree.{PlainTree, PlainPairs, object, list, set, map as map_tree, trees_of_list, pairs_of_list}
use Rattle.record_trees.specs.Tree.{plain, plain_pair, plain_trees, plain_pairs}
use Rattle.record_trees.proofs.Arms.{object_plain, list_plain, set_plain, map_plain}
use Rattle.record_trees.proofs.Deciding.{keys_apart_or_not}
use Rattle.record_trees.proofs.Passing.{refuted}
use Rattle.record_trees.specs.FitsTree.{AreKeysApart}
use Rattle.json_values.specs.declared.fault.ValueFault.{ValueFault}
use Rattle.record_json.specs.ReadTree.{TellsAs, made, map_apart, key_then, are_fields, read_both, read_fields, read_map, read_members, read_named, read_shape, read_within}

pub made_not : {A B S U : Type 0} (seen : A → B) (seen' : S → U) (make : B → U) (read : Result B Reason) (fault : ValueFault) → TellsAs {A = A} seen read (Err fault) → TellsAs {A = S} seen' (made make read) (Err fault)
made_not seen seen' make read (ValueFault.Field reason) told = ap (made make) told
made_not seen seen' make read ValueFault.Memory told = told

pub keys_apart : (pairs : PlainPairs) (decided : Dec (AreKeysApart pairs)) → AreKeysApart pairs → map_apart pairs decided ≡ Ok (map_tree pairs)
keys_apart pairs (yes apart) holds = refl
keys_apart pairs (no same) holds = absurd (same holds)

keys_same : (pairs : PlainPairs) (decided : Dec (AreKeysApart pairs)) → ¬ AreKeysApart pairs → map_apart pairs decided ≡ Err SameKeys
keys_same pairs (yes apart) fails = absurd (fails apart)
keys_same pairs (no same) fails = refl

pub object_made : (read : Result (List PlainTree) Reason) (parts : Trees) → read ≡ Ok (plain_trees parts) → made (λ trees. object (trees_of_list trees)) read ≡ Ok (plain (Tree.Object parts))
object_made read parts told = ap (made (λ trees. object (trees_of_list trees))) told ∙ ap Ok (object_plain parts)

pub list_made : (read : Result (List PlainTree) Reason) (parts : Trees) → read ≡ Ok (plain_trees parts) → made (λ trees. list (trees_of_list trees)) read ≡ Ok (plain (Tree.List parts))
list_made read parts told = ap (made (λ trees. list (trees_of_list trees))) told ∙ ap Ok (list_plain parts)

pub set_made : (read : Result (List PlainTree) Reason) (parts : Trees) → read ≡ Ok (plain_trees parts) → made (λ trees. set (trees_of_list trees)) read ≡ Ok (plain (Tree.Set parts))
set_made read parts told = ap (made (λ trees. set (trees_of_list trees))) told ∙ ap Ok (set_plain parts)

-- a map whose keys are apart, or not
pub map_made : (read : Result (List (PlainTree × PlainTree)) Reason) (pairs : TreePairs) (apart : Bool) → IsTrue apart ↔ AreKeysApart (pairs_of_list (plain_pairs pairs)) → IsTrue apart
    → read ≡ Ok (plain_pairs pairs) → read_map read ≡ Ok (plain (Tree.Map pairs))
map_made read pairs apart decides is told =
    ap read_map told ∙ keys_apart (pairs_of_list (plain_pairs pairs)) (keys_apart_or_not (pairs_of_list (plain_pairs pairs))) (decides.0 is) ∙ ap Ok (map_plain pairs)

pub same_keys : (read : Result (List (PlainTree × PlainTree)) Reason) (pairs : TreePairs) (apart : Bool) → IsTrue apart ↔ AreKeysApart (pairs_of_list (plain_pairs pairs)) → apart ≡ false
    → read ≡ Ok (plain_pairs pairs) → read_map read ≡ Err SameKeys
same_keys read pairs apart decides is told =
    ap read_map told ∙ keys_same (pairs_of_list (plain_pairs pairs)) (keys_apart_or_not (pairs_of_list (plain_pairs pairs))) (refuted apart is decides)

pub map_not : (read : Result (List (PlainTree × PlainTree)) Reason) (fault : ValueFault) → TellsAs plain_pairs read (Err fault) → TellsAs plain (read_map read) (Err fault)
map_not read (ValueFault.Field reason) told = ap read_map told
map_not read ValueFault.Memory told = told

pub pair_made : (key value : Tree) (read : Result PlainTree Reason) → read ≡ Ok (plain value) → key_then (Ok (plain key)) read ≡ Ok (plain_pair (key, value))
pair_made key value read told = ap (key_then (Ok (plain key))) told

pub pair_not : (key : PlainTree) (read : Result PlainTree Reason) (fault : ValueFault) → TellsAs plain read (Err fault) → TellsAs plain_pair (key_then (Ok key) read) (Err fault)
pair_not key read (ValueFault.Field reason) told = ap (key_then (Ok key)) told
pair_not key read ValueFault.Memory told = told

-- a key that is none
pub key_not : (read rest : Result PlainTree Reason) (fault : ValueFault) → TellsAs plain read (Err fault) → TellsAs plain_pair (key_then read rest) (Err fault)
key_not read rest (ValueFault.Field reason) told = ap (λ r. key_then r rest) told
key_not read rest ValueFault.Memory told = told

-- the record of a type is that of its shape
pub opened : (schemas : List Schema) (depth below t : ℕ) (schema : Schema) (value : Data) → (depth ≡ 0 → ⊥) → below ≡ depth - 1 → slice_get schemas t ≡ Some schema
    → read_within schemas depth t value ≡ read_shape (read_named schemas below) schema.shape value
opened schemas zero below t schema value some less found = absurd (some refl)
opened schemas (suc depth) below t schema value some less found =
    let same : below ≡ depth = omega (arith, less) in
    rw (found, same) refl

-- what the shape gives is what the type gives
pub arm : (schemas : List Schema) (depth t : ℕ) (schema : Schema) (shape : Shape) (value json : Data) (read : Result PlainTree Reason) (r : Result Tree ValueFault)
    → (depth ≡ 0 → ⊥) → slice_get schemas t ≡ Some schema → schema.shape ≡ shape → value ≡ json → read_shape (read_named schemas (depth - 1)) shape json ≡ read
    → TellsAs plain read r → TellsAs plain (read_within schemas depth t value) r
arm schemas depth t schema shape value json read r some found is shown gives told =
    let follow = read_named schemas (depth - 1) in
    let whole : read_within schemas depth t value ≡ read =
    opened schemas depth (depth - 1) t schema value some refl found ∙ ap (λ s. read_shape follow s value) is ∙ ap (read_shape follow shape) shown ∙ gives in
    subst (λ x. TellsAs plain x r) (sym whole) told

-- an object whose members are fields
pub members_known : (follow : Name → Data → Result PlainTree Reason) (fields : List Field) (members : Members) → are_fields fields members ≡ true
    → read_members follow fields members ≡ made (λ trees. object (trees_of_list trees)) (read_fields follow fields (object_data members))
members_known follow fields members known = cond-true (are_fields fields members) _ _ known

-- an array of another length than two
pub other_length : (read_key read_part : Data → Result PlainTree Reason) (values : List Value) → (length values ≡ 2 → ⊥) → read_both read_key read_part (items_view values) ≡ Err OtherKind
other_length read_key read_part [] other = refl
other_length read_key read_part (v ∷ []) other = refl
other_length read_key read_part (v ∷ w ∷ []) other = absurd (other refl)
other_length read_key read_part (v ∷ w ∷ x ∷ values) other = refl

-- an array of two
pub two_items : (values : List Value) (v w : Value) → length values ≡ 2 → v ≡ slice_index_or values 0 v → w ≡ slice_index_or values 1 w → items_view values ≡ item (view v) (item (view w) no_items)
two_items [] v w two first second = absurd (omega arith)
two_items (a ∷ []) v w two first second = absurd (omega arith)
two_items (a ∷ b ∷ []) v w two first second = ap (λ x. item (view x) (item (view b) no_items)) (sym first) ∙ ap (λ x. item (view v) (item (view x) no_items)) (sym second)
two_items (a ∷ b ∷ c ∷ values) v w two first second = absurd (omega arith)

pub both_read : (read_key read_part : Data → Result PlainTree Reason) (values : List Value) (v w : Value) (r : Result (Tree × Tree) ValueFault)
    → length values ≡ 2 → v ≡ slice_index_or values 0 v → w ≡ slice_index_or values 1 w → TellsAs plain_pair (key_then (read_key (view v)) (read_part (view w))) r
    → TellsAs plain_pair (read_both read_key read_part (items_view values)) r
both_read read_key read_part values v w r two first second told =
    subst (λ items. TellsAs plain_pair (read_both read_key read_part items) r) (sym (two_items values v w two first second)) told

-- the record of an OBJECT
pub object_arm : (schemas : List Schema) (depth t : ℕ) (schema : Schema) (key : Option (List Name)) (fields xs ys : List Field) (value : Data) (members : Members) (r : Result Tree ValueFault)
    → (depth ≡ 0 → ⊥) → slice_get schemas t ≡ Some schema → schema.shape ≡ Shape.Object key fields → value ≡ object_data members → xs ≡ fields → true ≡ are_fields xs members → ys ≡ fields
    → TellsAs plain (made (λ trees. object (trees_of_list trees)) (read_fields (read_named schemas (depth - 1)) ys value)) r → TellsAs plain (read_within schemas depth t value) r
object_arm schemas depth t schema key fields xs ys value members r some found is shown first known second told =
    let follow = read_named schemas (depth - 1) in
    let all : are_fields fields members ≡ true = ap (λ fs. are_fields fs members) (sym first) ∙ sym known in
    let same : made (λ trees. object (trees_of_list trees)) (read_fields follow ys value) ≡ made (λ trees. object (trees_of_list trees)) (read_fields follow fields (object_data members)) =
    ap (λ fs. made (λ trees. object (trees_of_list trees)) (read_fields follow fs value)) second ∙ ap (λ v. made (λ trees. object (trees_of_list trees)) (read_fields follow fields v)) shown in
    arm schemas depth t schema (Shape.Object key fields) value (object_data members) _ r some found is shown (members_known follow fields members all) (subst (λ x. TellsAs plain x r) same told)

-- an array of two whose key is none
pub both_stops : (read_key read_part : Data → Result PlainTree Reason) (values : List Value) (v : Value) (fault : ValueFault)
    → length values ≡ 2 → v ≡ slice_index_or values 0 v → TellsAs plain (read_key (view v)) (Err fault) → TellsAs plain_pair (read_both read_key read_part (items_view values)) (Err fault)
both_stops read_key read_part [] v fault two first told = absurd (omega arith)
both_stops read_key read_part (a ∷ []) v fault two first told = absurd (omega arith)
both_stops read_key read_part (a ∷ b ∷ []) v fault two first told =
    key_not (read_key (view a)) (read_part (view b)) fault (subst (λ x. TellsAs plain (read_key (view x)) (Err fault)) first told)
both_stops read_key read_part (a ∷ b ∷ c ∷ values) v fault two first told = absurd (omega arith)

-- What values at the front of tokens are read as.
use Rattle.std.proofs.Common.{◌≡◌, ◌∙◌, ℕ, zero, suc, ◌-◌, ◌≤◌, List, [], ◌∷◌, length, Option, Some, None, option_map, Result, Ok, Err, refl, sym, ap, subst, arith}
use Rattle.std.specs.Prelude.{IfOk, slice_get}
use Rattle.json.specs.Token.{Token}
use Rattle.json.specs.Json.{after_end_array, items, members, parse_map, value}
use Rattle.json.proofs.Grammar.{value_is, value-begin_array, value-begin_object}
use Rattle.serde_json.specs.Data.{Data, Items, Members, array, item, no_items, null, object}
use Rattle.serde_json.specs.Read.{converted, of_items, of_json}
use Rattle.schema_model.specs.declared.reason.Reason.{Reason}
use Rattle.schema_model.specs.declared.schema.name.Name.{Name}
use Rattle.schema_model.specs.declared.schema.FieldKind.{FieldKind}
use Rattle.schema_model.specs.declared.schema.Field.{Field}
use Rattle.schema_model.specs.declared.schema.Schema.{Schema}
use Rattle.schema_model.specs.declared.schema.Shape.{Shape}
use Rattle.schema_model.specs.Parts.{index_of_type}
use Rattle.row_model.specs.declared.row.Value.{Value}
use Rattle.closed_rows.specs.Dangling.{IsPlain}
use Rattle.row_model.specs.PlainTree.{PlainTree, leaf, list, map as map_tree, pairs_of_list, set, trees_of_list}
use Rattle.record_trees.specs.Tree.{plain, plain_pairs}
use Rattle.record_trees.specs.declared.tree.Tree.{Tree}
use Rattle.record_trees.specs.declared.tree.TreePairs.{TreePairs}
use Rattle.record_trees.specs.FitsTree.{AreKeysApart}
use Rattle.json_values.specs.ReadValue.{read_each, read_value}
use Rattle.record_json.specs.ReadTree.{key_then, made, read_at, read_map, read_members, read_named, read_pair, read_present, read_shape, read_typed, read_within}
use Rattle.record_json.proofs.TreeParts.{keys_apart, opened}
use Rattle.record_trees.proofs.Deciding.{keys_apart_or_not}
use Rattle.record_stream.proofs.Converted.{converted-array, converted-object, item_read, items_over}
use Rattle.record_stream.proofs.Listed.{value_shorter}
use Rattle.record_tokens.specs.declared.unread.Unread.{Unread}
use Rattle.record_tokens.specs.Taken.{Takes, TakesItems, TakesMembers, scalar}

abbrev IsNone : {A : Type 0} → Option A → Type 0
IsNone None = Unit {0}
IsNone (Some a) = ⊥

none_some : {A : Type 0} (a : A) → None ≡ Some a → ⊥
none_some a e = subst IsNone e tt

abbrev IsRefused : Result PlainTree Reason → Type 0
IsRefused (Ok tree) = ⊥
IsRefused (Err reason) = Unit {0}

-- ---- a token that is a value by itself

pub scalar_value : (nest : ℕ) (token : Token) (rest : List Token) (json : Data) → scalar token ≡ Some json → converted of_json (value nest (token ∷ rest)) ≡ Some (json, rest)
scalar_value nest Token.begin_object rest json e = absurd (none_some json e)
scalar_value nest Token.end_object rest json e = absurd (none_some json e)
scalar_value nest Token.begin_array rest json e = absurd (none_some json e)
scalar_value nest Token.end_array rest json e = absurd (none_some json e)
scalar_value nest (Token.key name) rest json e = absurd (none_some json e)
scalar_value nest (Token.string text) rest json e = ap (converted of_json) (value_is nest (Token.string text ∷ rest)) ∙ ap (option_map (λ d. (d, rest))) e
scalar_value nest (Token.number text) rest json e = ap (converted of_json) (value_is nest (Token.number text ∷ rest)) ∙ ap (option_map (λ d. (d, rest))) e
scalar_value nest (Token.boolean flag) rest json e = ap (converted of_json) (value_is nest (Token.boolean flag ∷ rest)) ∙ ap (option_map (λ d. (d, rest))) e
scalar_value nest Token.null rest json e = ap (converted of_json) (value_is nest (Token.null ∷ rest)) ∙ ap (option_map (λ d. (d, rest))) e
scalar_value nest Token.bad rest json e = absurd (none_some json e)

pub scalar_taken : {A : Type 0} (read : Data → Result A Reason) (nest : ℕ) (token : Token) (rest : List Token) (json : Data) (found : A) → scalar token ≡ Some json → read json ≡ Ok found → Takes read nest (token ∷ rest) found rest
scalar_taken read nest token rest json found e gives = (json, scalar_value nest token rest json e, gives)

-- ---- an object, and an array

pub object_taken : (read : Data → Result PlainTree Reason) (read_parts : Members → Result PlainTree Reason) (nest : ℕ) (tokens rest : List Token) (found : PlainTree) → (nest ≡ 0 → ⊥)
    → ((parts : Members) → read (object parts) ≡ read_parts parts) → TakesMembers read_parts (nest - 1) tokens found rest → Takes read nest (Token.begin_object ∷ tokens) found rest
object_taken read read_parts nest tokens rest found some same (parts, e, gives) = (
  object parts,
  ap (converted of_json) (value-begin_object nest tokens (omega (arith, some))) ∙ converted-object (members (value (nest - 1)) (length tokens) tokens) ∙ ap (parse_map object) e,
  same parts ∙ gives,
)

pub array_taken : {A : Type 0} (read : Data → Result PlainTree Reason) (read_part : Data → Result A Reason) (make : List A → PlainTree) (nest : ℕ) (tokens rest : List Token) (found : List A) → (nest ≡ 0 → ⊥)
    → ((parts : Items) → read (array parts) ≡ made make (read_each read_part parts)) → TakesItems read_part (nest - 1) tokens found rest → Takes read nest (Token.begin_array ∷ tokens) (make found) rest
array_taken read read_part make nest tokens rest found some same (parts, e, gives) = (
  array parts,
  ap (converted of_json) (value-begin_array nest tokens (omega (arith, some))) ∙ converted-array (items (value (nest - 1)) (length tokens) tokens) ∙ ap (parse_map array) e,
  same parts ∙ ap (made make) gives,
)

-- ---- what a field is read as

null_typed : (schemas : List Schema) (depth : ℕ) (o : Option Schema) → IsRefused (read_typed (λ name part. read_at (read_within schemas depth) (index_of_type schemas name) part) o null)
null_typed schemas depth None = tt
null_typed schemas depth (Some schema) = tt

null_refused : (schemas : List Schema) (depth : ℕ) (o : Option ℕ) → IsRefused (read_at (read_within schemas depth) o null)
null_refused schemas depth None = tt
null_refused schemas zero (Some t) = tt
null_refused schemas (suc depth) (Some t) = null_typed schemas depth (slice_get schemas t)

not_refused : (r : Result PlainTree Reason) (tree : PlainTree) → r ≡ Ok tree → IsRefused r → ⊥
not_refused r tree e refused = subst IsRefused e refused

pub present_named : (schemas : List Schema) (depth : ℕ) (name : Name) (json : Data) (tree : PlainTree) → read_named schemas depth name json ≡ Ok tree → read_present (read_named schemas depth) (FieldKind.Reference name) json ≡ Ok tree
present_named schemas depth name null tree e = absurd (not_refused (read_named schemas depth name null) tree e (null_refused schemas depth (index_of_type schemas name)))
present_named schemas depth name json tree e = e

pub present_leaf : (follow : Name → Data → Result PlainTree Reason) (kind : FieldKind) (json : Data) (tree : PlainTree) → IsPlain kind → made leaf (read_value kind json) ≡ Ok tree → read_present follow kind json ≡ Ok tree
present_leaf follow (FieldKind.Reference name) json tree is e = absurd is
present_leaf follow kind json tree is e = e

pub present_null : (follow : Name → Data → Result PlainTree Reason) (kind : FieldKind) → read_present follow kind null ≡ Ok (leaf Value.Null)
present_null follow (FieldKind.Reference name) = refl
present_null follow kind = refl

pub reference_taken : (schemas : List Schema) (depth nest : ℕ) (kind : FieldKind) (name : Name) (tokens same rest : List Token) (result : Result Tree Unread) → kind ≡ FieldKind.Reference name → tokens ≡ same
    → IfOk result (λ tree. Takes (read_named schemas depth name) nest same (plain tree) rest) → IfOk result (λ tree. Takes (read_present (read_named schemas depth) kind) nest tokens (plain tree) rest)
reference_taken schemas depth nest kind name tokens same rest (Err fault) is are taken = tt
reference_taken schemas depth nest kind name tokens same rest (Ok tree) is are (json, e, gives) = (
  json,
  ap (λ ts. converted of_json (value nest ts)) are ∙ e,
  ap (λ k. read_present (read_named schemas depth) k json) is ∙ present_named schemas depth name json (plain tree) gives,
)

pub leaf_taken : (follow : Name → Data → Result PlainTree Reason) (nest : ℕ) (kind : FieldKind) (token : Token) (tokens rest : List Token) (result : Result Tree Unread) → IsPlain kind → tokens ≡ token ∷ rest
    → IfOk result (λ tree. (json : Data) × (scalar token ≡ Some json) × (made leaf (read_value kind json) ≡ Ok (plain tree))) → IfOk result (λ tree. Takes (read_present follow kind) nest tokens (plain tree) rest)
leaf_taken follow nest kind token tokens rest (Err fault) is are taken = tt
leaf_taken follow nest kind token tokens rest (Ok tree) is are (json, e, gives) = (
  json,
  ap (λ ts. converted of_json (value nest ts)) are ∙ scalar_value nest token rest json e,
  present_leaf follow kind json (plain tree) is gives,
)

-- the same tokens begin with the same
pub same_taken : {A : Type 0} (read : Data → Result A Reason) (nest : ℕ) (tokens same rest : List Token) (found other : A) → tokens ≡ same → found ≡ other → Takes read nest same found rest → Takes read nest tokens other rest
same_taken read nest tokens same rest found other are is (json, e, gives) = (json, ap (λ ts. converted of_json (value nest ts)) are ∙ e, gives ∙ ap Ok is)

pub named_taken : (read : Data → Result PlainTree Reason) (nest : ℕ) (tokens same rest : List Token) (result : Result Tree Unread) → tokens ≡ same
    → IfOk result (λ tree. Takes read nest same (plain tree) rest) → IfOk result (λ tree. Takes read nest tokens (plain tree) rest)
named_taken read nest tokens same rest (Err fault) are taken = tt
named_taken read nest tokens same rest (Ok tree) are taken = same_taken read nest tokens same rest (plain tree) (plain tree) are refl taken

pub plain_kind : (kind : FieldKind) → ((name : Name) → kind ≡ FieldKind.Reference name → ⊥) → IsPlain kind
plain_kind (FieldKind.Reference name) not = absurd (not name refl)
plain_kind kind not = tt

-- ---- what the record of a type is read as, by its shape

pub object_read : (schemas : List Schema) (depth below type_index : ℕ) (schema : Schema) (key : Option (List Name)) (fields same : List Field) → (depth ≡ 0 → ⊥) → below ≡ depth - 1 → slice_get schemas type_index ≡ Some schema
    → schema.shape ≡ Shape.Object key fields → same ≡ fields → (parts : Members) → read_within schemas depth type_index (object parts) ≡ read_members (read_named schemas below) same parts
object_read schemas depth below type_index schema key fields same some less found is also parts =
    opened schemas depth below type_index schema (object parts) some less found ∙ ap (λ shape. read_shape (read_named schemas below) shape (object parts)) is
    ∙ ap (λ fs. read_members (read_named schemas below) fs parts) (sym also)

pub list_read : (schemas : List Schema) (depth below type_index : ℕ) (schema : Schema) (element : Name) → (depth ≡ 0 → ⊥) → below ≡ depth - 1 → slice_get schemas type_index ≡ Some schema → schema.shape ≡ Shape.List element
    → (parts : Items) → read_within schemas depth type_index (array parts) ≡ made (λ trees. list (trees_of_list trees)) (read_each (read_named schemas below element) parts)
list_read schemas depth below type_index schema element some less found is parts =
    opened schemas depth below type_index schema (array parts) some less found ∙ ap (λ shape. read_shape (read_named schemas below) shape (array parts)) is

pub set_read : (schemas : List Schema) (depth below type_index : ℕ) (schema : Schema) (element : Name) → (depth ≡ 0 → ⊥) → below ≡ depth - 1 → slice_get schemas type_index ≡ Some schema → schema.shape ≡ Shape.Set element
    → (parts : Items) → read_within schemas depth type_index (array parts) ≡ made (λ trees. set (trees_of_list trees)) (read_each (read_named schemas below element) parts)
set_read schemas depth below type_index schema element some less found is parts =
    opened schemas depth below type_index schema (array parts) some less found ∙ ap (λ shape. read_shape (read_named schemas below) shape (array parts)) is

pub map_read : (schemas : List Schema) (depth below type_index : ℕ) (schema : Schema) (key part : Name) → (depth ≡ 0 → ⊥) → below ≡ depth - 1 → slice_get schemas type_index ≡ Some schema → schema.shape ≡ Shape.Map key part
    → (parts : Items) → read_within schemas depth type_index (array parts) ≡ read_map (read_each (read_pair (read_named schemas below key) (read_named schemas below part)) parts)
map_read schemas depth below type_index schema key part some less found is parts =
    opened schemas depth below type_index schema (array parts) some less found ∙ ap (λ shape. read_shape (read_named schemas below) shape (array parts)) is

-- ---- a pair, and a map of pairs

-- what begins with a value does not begin with the bracket that closes an array
going : (nest : ℕ) (ts rest : List Token) (json : Data) → converted of_json (value nest ts) ≡ Some (json, rest) → after_end_array ts ≡ None
going nest [] rest json e = refl
going nest (Token.end_array ∷ ts) rest json e = absurd (none_some (json, rest) (sym (ap (converted of_json) (value_is nest (Token.end_array ∷ ts))) ∙ e))
going nest (t ∷ ts) rest json e = refl

pub pair_taken : (read_key read_part : Data → Result PlainTree Reason) (nest : ℕ) (tokens middle end rest : List Token) (key part : PlainTree) → (nest ≡ 0 → ⊥) → Takes read_key (nest - 1) tokens key middle
    → Takes read_part (nest - 1) middle part end → after_end_array end ≡ Some rest → Takes (read_pair read_key read_part) nest (Token.begin_array ∷ tokens) (key, part) rest
pair_taken read_key read_part nest tokens middle end rest key part some (first, is_first, key_gives) (second, is_second, part_gives) over =
    let p = value (nest - 1) in
    let n = length tokens in
    let one = value_shorter (nest - 1) tokens middle first is_first in
    let two = value_shorter (nest - 1) middle end second is_second in
    let both : converted of_items (items p n tokens) ≡ Some (item first (item second no_items), rest) =
    item_read p n tokens middle first (omega (arith, one)) (going (nest - 1) tokens middle first is_first) is_first
    ∙ (ap (parse_map (item first)) (item_read p (n - 1) middle end second (omega (arith, one, two)) (going (nest - 1) middle end second is_second) is_second)
    ∙ ap (λ o. parse_map (item first) (parse_map (item second) o)) (items_over p (n - 1 - 1) end rest (omega (arith, one, two)) over)) in (
      array (item first (item second no_items)),
      ap (converted of_json) (value-begin_array nest tokens (omega (arith, some))) ∙ converted-array (items p n tokens) ∙ ap (parse_map array) both,
      (λ i. key_then (key_gives i) (part_gives i)),
    )

pub map_told : (read : Data → Result PlainTree Reason) (read_part : Data → Result (PlainTree × PlainTree) Reason) (nest : ℕ) (all tokens rest : List Token) (pairs : TreePairs) (result : Result Tree Unread) → (nest ≡ 0 → ⊥) → all ≡ Token.begin_array ∷ tokens
    → ((parts : Items) → read (array parts) ≡ read_map (read_each read_part parts)) → IfOk result (λ tree. (plain tree ≡ map_tree (pairs_of_list (plain_pairs pairs))) × AreKeysApart (pairs_of_list (plain_pairs pairs))) → TakesItems read_part (nest - 1) tokens (plain_pairs pairs) rest
    → IfOk result (λ tree. Takes read nest all (plain tree) rest)
map_told read read_part nest all tokens rest pairs (Err fault) some is same told taken = tt
map_told read read_part nest all tokens rest pairs (Ok tree) some is same told (parts, e, gives) = (
  array parts,
  ap (λ ts. converted of_json (value nest ts)) is ∙ (ap (converted of_json) (value-begin_array nest tokens (omega (arith, some))) ∙ converted-array (items (value (nest - 1)) (length tokens) tokens) ∙ ap (parse_map array) e),
  same parts ∙ ap read_map gives ∙ keys_apart (pairs_of_list (plain_pairs pairs)) (keys_apart_or_not (pairs_of_list (plain_pairs pairs))) told.1 ∙ ap Ok (sym told.0),
)

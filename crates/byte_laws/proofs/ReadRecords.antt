-- The BYTES of a record that is read from JSON are bytes.
use Rattle.std.proofs.Common.{◌≡◌, ◌<◌, ℕ, zero, suc, List, [], ◌∷◌, Bool, true, false, if◌then◌else◌, Option, None, Some, Result, Ok, Err, IfOk, refl, subst}
use Rattle.std.specs.Prelude.{slice_get}
use Rattle.std.proofs.lemmas.List.Elements.{All-from_get_or}
use Rattle.hex.specs.Hex.{decode_of}
use Rattle.hex.specs.declared.error.FromHexError.{FromHexError}
use Rattle.hex.proofs.HexLemmas.{decode_of-ok}
use Rattle.serde_json.specs.Data.{Data, null, boolean, number, string, array, object as object_data, Items, no_items, item, Members}
use Rattle.serde_json.specs.Find.{get}
use Rattle.blob_grammar.specs.Decided.{AreBytes}
use Rattle.schema_model.specs.declared.reason.Reason.{Reason}
use Rattle.schema_model.specs.declared.schema.Field.{Field}
use Rattle.schema_model.specs.declared.schema.FieldKind.{FieldKind}
use Rattle.schema_model.specs.declared.schema.Schema.{Schema}
use Rattle.schema_model.specs.declared.schema.Shape.{Shape}
use Rattle.schema_model.specs.declared.schema.name.Name.{Name}
use Rattle.schema_model.specs.Parts.{index_of_type}
use Rattle.row_model.specs.declared.row.Value.{Value}
use Rattle.row_model.specs.PlainTree.{PlainTree, PlainPairs, leaf, object, list, set, pairs_of_list, trees_of_list}
use Rattle.record_trees.specs.FitsTree.{AreKeysApart}
use Rattle.record_trees.proofs.Deciding.{keys_apart_or_not}
use Rattle.json_values.specs.ReadValue.{before, decoded, made_of, read_bytes, read_each, read_kind, read_value}
use Rattle.record_json.specs.ReadTree.{are_fields, key_then, made, map_apart, read_at, read_both, read_field, read_fields, read_map, read_members, read_pair, read_present, read_reference, read_shape, read_tree, read_typed, read_within}
use Rattle.byte_laws.specs.Bytes.{AreBytePairs, AreByteTrees, IsByteTree, IsByteValue}

-- ---- values

decoded_are : (found : Result (List ℕ) FromHexError) (text : List ℕ) → decode_of text ≡ found → IfOk (decoded found) AreBytes
decoded_are (Ok bytes) text is = All-from_get_or (λ byte. byte < 256) bytes 0 (λ i below. (decode_of-ok text bytes is).3 i)
decoded_are (Err error) text is = tt

bytes_are : (value : Data) → IfOk (read_bytes value) AreBytes
bytes_are (string text) = decoded_are (decode_of text) text refl
bytes_are null = tt
bytes_are (boolean b) = tt
bytes_are (number n) = tt
bytes_are (array items) = tt
bytes_are (object_data held) = tt

-- a value that is made of what was read
made_value : {A : Type 0} (make : A → Value) (found : Result A Reason) → ((x : A) → IsByteValue (make x)) → IfOk (made_of make found) IsByteValue
made_value make (Ok x) each = each x
made_value make (Err reason) each = tt

made_bytes : (found : Result (List ℕ) Reason) → IfOk found AreBytes → IfOk (made_of Value.Bytes found) IsByteValue
made_bytes (Ok bytes) are = are
made_bytes (Err reason) are = tt

kind_bytes : (kind : FieldKind) (value : Data) → IfOk (read_kind kind value) IsByteValue
kind_bytes FieldKind.Int value = made_value Value.Int _ (λ x. tt)
kind_bytes FieldKind.Long value = made_value Value.Long _ (λ x. tt)
kind_bytes FieldKind.Boolean value = made_value Value.Bool _ (λ x. tt)
kind_bytes FieldKind.Text value = made_value Value.Text _ (λ x. tt)
kind_bytes FieldKind.Bytes value = made_bytes (read_bytes value) (bytes_are value)
kind_bytes (FieldKind.Reference to) value = tt

value_bytes : (kind : FieldKind) (value : Data) → IfOk (read_value kind value) IsByteValue
value_bytes kind null = tt
value_bytes kind (boolean b) = kind_bytes kind (boolean b)
value_bytes kind (number n) = kind_bytes kind (number n)
value_bytes kind (string text) = kind_bytes kind (string text)
value_bytes kind (array items) = kind_bytes kind (array items)
value_bytes kind (object_data held) = kind_bytes kind (object_data held)

-- ---- what is made of what was read

made_trees : {A B : Type 0} (make : A → B) (P : A → Type 0) (Q : B → Type 0) (found : Result A Reason) → ((x : A) → P x → Q (make x)) → IfOk found P → IfOk (made make found) Q
made_trees make P Q (Ok x) each is = each x is
made_trees make P Q (Err reason) each is = tt

-- The trees of a list have bytes.
abbrev AreByteList : List PlainTree → Type 0
AreByteList trees = AreByteTrees (trees_of_list trees)

before_bytes : (first : Result PlainTree Reason) (rest : Result (List PlainTree) Reason) → IfOk first IsByteTree → IfOk rest AreByteList → IfOk (before first rest) AreByteList
before_bytes (Err reason) rest one others = tt
before_bytes (Ok tree) (Err reason) one others = tt
before_bytes (Ok tree) (Ok trees) one others = (one, others)

-- The pair's trees have bytes; so it is of those of a list.
abbrev IsBytePair : PlainTree × PlainTree → Type 0
IsBytePair pair = IsByteTree pair.0 × IsByteTree pair.1

abbrev ArePairs : List (PlainTree × PlainTree) → Type 0
ArePairs pairs = AreBytePairs (pairs_of_list pairs)

pairs_before : (first : Result (PlainTree × PlainTree) Reason) (rest : Result (List (PlainTree × PlainTree)) Reason) → IfOk first IsBytePair → IfOk rest ArePairs → IfOk (before first rest) ArePairs
pairs_before (Err reason) rest one others = tt
pairs_before (Ok pair) (Err reason) one others = tt
pairs_before (Ok pair) (Ok pairs) one others = (one.0, one.1, others)

each_bytes : (read : Data → Result PlainTree Reason) → ((value : Data) → IfOk (read value) IsByteTree) → (items : Items) → IfOk (read_each read items) AreByteList
each_bytes read each no_items = tt
each_bytes read each (item value items) = before_bytes (read value) (read_each read items) (each value) (each_bytes read each items)

each_pair : (read : Data → Result (PlainTree × PlainTree) Reason) → ((value : Data) → IfOk (read value) IsBytePair) → (items : Items) → IfOk (read_each read items) ArePairs
each_pair read each no_items = tt
each_pair read each (item value items) = pairs_before (read value) (read_each read items) (each value) (each_pair read each items)

then_bytes : (key value : Result PlainTree Reason) → IfOk key IsByteTree → IfOk value IsByteTree → IfOk (key_then key value) IsBytePair
then_bytes (Err reason) value one other = tt
then_bytes (Ok key) (Err reason) one other = tt
then_bytes (Ok key) (Ok value) one other = (one, other)

apart_bytes : (pairs : PlainPairs) (apart : Dec (AreKeysApart pairs)) → AreBytePairs pairs → IfOk (map_apart pairs apart) IsByteTree
apart_bytes pairs (yes apart) are = are
apart_bytes pairs (no same) are = tt

map_bytes : (found : Result (List (PlainTree × PlainTree)) Reason) → IfOk found ArePairs → IfOk (read_map found) IsByteTree
map_bytes (Ok pairs) are = apart_bytes (pairs_of_list pairs) (keys_apart_or_not (pairs_of_list pairs)) are
map_bytes (Err reason) are = tt

module _ (follow : Name → Data → Result PlainTree Reason) (each : (name : Name) (value : Data) → IfOk (follow name value) IsByteTree) where
  reference_bytes : (name : Name) (value : Data) → IfOk (read_reference follow name value) IsByteTree
  reference_bytes name null = tt
  reference_bytes name (boolean b) = each name (boolean b)
  reference_bytes name (number n) = each name (number n)
  reference_bytes name (string text) = each name (string text)
  reference_bytes name (array items) = each name (array items)
  reference_bytes name (object_data held) = each name (object_data held)

  leaf_bytes : (kind : FieldKind) (value : Data) → IfOk (made leaf (read_value kind value)) IsByteTree
  leaf_bytes kind value = made_trees leaf IsByteValue IsByteTree (read_value kind value) (λ x is. is) (value_bytes kind value)

  present_bytes : (kind : FieldKind) (value : Data) → IfOk (read_present follow kind value) IsByteTree
  present_bytes (FieldKind.Reference name) value = reference_bytes name value
  present_bytes FieldKind.Int value = leaf_bytes FieldKind.Int value
  present_bytes FieldKind.Long value = leaf_bytes FieldKind.Long value
  present_bytes FieldKind.Boolean value = leaf_bytes FieldKind.Boolean value
  present_bytes FieldKind.Text value = leaf_bytes FieldKind.Text value
  present_bytes FieldKind.Bytes value = leaf_bytes FieldKind.Bytes value

  field_bytes : (kind : FieldKind) (found : Option Data) → IfOk (read_field follow kind found) IsByteTree
  field_bytes kind None = tt
  field_bytes kind (Some value) = present_bytes kind value

  fields_bytes : (fields : List Field) (value : Data) → IfOk (read_fields follow fields value) AreByteList
  fields_bytes [] value = tt
  fields_bytes (field ∷ fields) value = before_bytes (read_field follow field.kind (get field.name value)) (read_fields follow fields value) (field_bytes field.kind (get field.name value)) (fields_bytes fields value)

  members_bytes : (fields : List Field) (held : Members) → IfOk (read_members follow fields held) IsByteTree
  members_bytes fields held = elim (are_fields fields held) as (λ (known : Bool). IfOk (if known then made (λ trees. object (trees_of_list trees)) (read_fields follow fields (object_data held)) else Err Reason.UnknownField) IsByteTree) [
    | true ↦ made_trees (λ (trees : List PlainTree). object (trees_of_list trees)) AreByteList IsByteTree (read_fields follow fields (object_data held)) (λ trees is. is) (fields_bytes fields (object_data held))
    | false ↦ tt
  ]

  both_bytes : (key value : Name) (items : Items) → IfOk (read_both (follow key) (follow value) items) IsBytePair
  both_bytes key value no_items = tt
  both_bytes key value (item first no_items) = tt
  both_bytes key value (item first (item second no_items)) = then_bytes (follow key first) (follow value second) (each key first) (each value second)
  both_bytes key value (item first (item second (item third items))) = tt

  pair_bytes : (key value : Name) (pair : Data) → IfOk (read_pair (follow key) (follow value) pair) IsBytePair
  pair_bytes key value (array items) = both_bytes key value items
  pair_bytes key value null = tt
  pair_bytes key value (boolean b) = tt
  pair_bytes key value (number n) = tt
  pair_bytes key value (string text) = tt
  pair_bytes key value (object_data held) = tt

  shape_bytes : (shape : Shape) (value : Data) → IfOk (read_shape follow shape value) IsByteTree
  shape_bytes (Shape.Object key fields) (object_data held) = members_bytes fields held
  shape_bytes (Shape.List element) (array items) =
      made_trees (λ (trees : List PlainTree). list (trees_of_list trees)) AreByteList IsByteTree (read_each (follow element) items) (λ trees is. is) (each_bytes (follow element) (each element) items)
  shape_bytes (Shape.Set element) (array items) =
      made_trees (λ (trees : List PlainTree). set (trees_of_list trees)) AreByteList IsByteTree (read_each (follow element) items) (λ trees is. is) (each_bytes (follow element) (each element) items)
  shape_bytes (Shape.Map key value) (array items) = map_bytes (read_each (read_pair (follow key) (follow value)) items) (each_pair (read_pair (follow key) (follow value)) (pair_bytes key value) items)
  shape_bytes shape value = tt

  typed_bytes : (found : Option Schema) (value : Data) → IfOk (read_typed follow found value) IsByteTree
  typed_bytes None value = tt
  typed_bytes (Some schema) value = shape_bytes schema.shape value

at_bytes : (read : ℕ → Data → Result PlainTree Reason) → ((t : ℕ) (value : Data) → IfOk (read t value) IsByteTree) → (found : Option ℕ) (value : Data) → IfOk (read_at read found value) IsByteTree
at_bytes read each None value = tt
at_bytes read each (Some t) value = each t value

within_bytes : (schemas : List Schema) (depth t : ℕ) (value : Data) → IfOk (read_within schemas depth t value) IsByteTree
within_bytes schemas zero t value = tt
within_bytes schemas (suc depth) t value =
    typed_bytes (λ name part. read_at (read_within schemas depth) (index_of_type schemas name) part)
    (λ name part. at_bytes (read_within schemas depth) (within_bytes schemas depth) (index_of_type schemas name) part) (slice_get schemas t) value

if_ok : (found : Result PlainTree Reason) (tree : PlainTree) → found ≡ Ok tree → IfOk found IsByteTree → IsByteTree tree
if_ok found tree is of = subst (λ (r : Result PlainTree Reason). IfOk r IsByteTree) is of

-- the record of a type
pub read_are : (schemas : List Schema) (t : ℕ) (value : Data) (tree : PlainTree) → read_tree schemas t value ≡ Ok tree → IsByteTree tree
read_are schemas t value tree is = if_ok (read_tree schemas t value) tree is (within_bytes schemas 32 t value)

-- The record with all that it refers to from its JSON: which tree it gives, or for which reason it gives none.
use Rattle.std.specs.Prelude.{List, [], ◌∷◌, ℕ, zero, suc, Bool, true, Option, None, Some, Result, Ok, Err, ◌≡◌, ◌&&◌, slice_get, if◌then◌else◌}
use Rattle.std.specs.List.{list_any}
use Rattle.std.specs.Str.{bytes_eq}
use Rattle.serde_json.specs.Data.{Data, null, array, object as object_data, Items, no_items, item, Members, no_members, member}
use Rattle.serde_json.specs.Find.{get}
use Rattle.schema_model.specs.declared.schema.name.Name.{Name}
use Rattle.schema_model.specs.declared.schema.Field.{Field}
use Rattle.schema_model.specs.declared.schema.FieldKind.{FieldKind}
use Rattle.schema_model.specs.declared.schema.Schema.{Schema}
use Rattle.schema_model.specs.declared.schema.Shape.{Shape}
use Rattle.row_model.specs.declared.row.Value.{Value}
use Rattle.schema_model.specs.declared.reason.Reason.{Reason}
use Rattle.schema_model.specs.declared.reason.Reason.TheVariants.{OtherKind, UnknownField, NullRecord, SameKeys}
use Rattle.schema_model.specs.Parts.{index_of_type}
use Rattle.row_model.specs.PlainTree.{PlainTree, PlainPairs, leaf, object, list, set, map, trees_of_list, pairs_of_list}
use Rattle.record_trees.proofs.Deciding.{keys_apart_or_not}
use Rattle.record_trees.specs.FitsTree.{AreKeysApart}
use Rattle.json_values.specs.ReadValue.{before, read_each, read_value}
use Rattle.json_values.specs.declared.fault.ValueFault.{ValueFault}

-- what is made of what was read
abbrev pub made : {A B : Type 0} → (A → B) → Result A Reason → Result B Reason
made make (Ok found) = Ok (make found)
made make (Err reason) = Err reason

-- a member of this name is a field
abbrev pub is_field : List Field → List ℕ → Bool
is_field fields name = list_any (λ field. bytes_eq field.name name) fields

-- each member is a field
abbrev pub are_fields : List Field → Members → Bool
are_fields fields no_members = true
are_fields fields (member name value members) = is_field fields name && are_fields fields members

-- what a REFERENCE refers to, given the tree of each record by its type's name and its JSON
abbrev pub read_reference : (Name → Data → Result PlainTree Reason) → Name → Data → Result PlainTree Reason
read_reference follow name null = Ok (leaf Value.Null)
read_reference follow name value = follow name value

-- the tree in a field; null is the null of every field
abbrev pub read_present : (Name → Data → Result PlainTree Reason) → FieldKind → Data → Result PlainTree Reason
read_present follow (FieldKind.Reference name) value = read_reference follow name value
read_present follow kind value = made leaf (read_value kind value)

-- a member that is missing is null
abbrev pub read_field : (Name → Data → Result PlainTree Reason) → FieldKind → Option Data → Result PlainTree Reason
read_field follow kind None = Ok (leaf Value.Null)
read_field follow kind (Some value) = read_present follow kind value

-- the fields in the order of the schema
abbrev pub read_fields : (Name → Data → Result PlainTree Reason) → List Field → Data → Result (List PlainTree) Reason
read_fields follow [] value = Ok []
read_fields follow (field ∷ fields) value = before (read_field follow field.kind (get field.name value)) (read_fields follow fields value)

-- a key before its value
abbrev pub key_then : Result PlainTree Reason → Result PlainTree Reason → Result (PlainTree × PlainTree) Reason
key_then (Err reason) value = Err reason
key_then (Ok key) (Err reason) = Err reason
key_then (Ok key) (Ok value) = Ok (key, value)

-- a key and its value, and nothing else
abbrev pub read_both : (Data → Result PlainTree Reason) → (Data → Result PlainTree Reason) → Items → Result (PlainTree × PlainTree) Reason
read_both read_key read_part (item key (item value no_items)) = key_then (read_key key) (read_part value)
read_both read_key read_part _ = Err OtherKind

-- an array of a key and its value
abbrev pub read_pair : (Data → Result PlainTree Reason) → (Data → Result PlainTree Reason) → Data → Result (PlainTree × PlainTree) Reason
read_pair read_key read_part (array items) = read_both read_key read_part items
read_pair read_key read_part _ = Err OtherKind

-- the record of an OBJECT, which may have its fields as members and no other ones
abbrev pub read_members : (Name → Data → Result PlainTree Reason) → List Field → Members → Result PlainTree Reason
read_members follow fields members =
    if are_fields fields members then made (λ trees. object (trees_of_list trees)) (read_fields follow fields (object_data members)) else Err UnknownField

-- the map of these pairs, where no two keys are the same record
abbrev pub map_apart : (pairs : PlainPairs) → Dec (AreKeysApart pairs) → Result PlainTree Reason
map_apart pairs (yes apart) = Ok (map pairs)
map_apart pairs (no same) = Err SameKeys

-- the map of the pairs that were read; its keys are compared once all of them are
abbrev pub read_map : Result (List (PlainTree × PlainTree)) Reason → Result PlainTree Reason
read_map (Ok pairs) = map_apart (pairs_of_list pairs) (keys_apart_or_not (pairs_of_list pairs))
read_map (Err reason) = Err reason

-- the record of a type of this shape, given the tree of each record that it names
abbrev pub read_shape : (Name → Data → Result PlainTree Reason) → Shape → Data → Result PlainTree Reason
read_shape follow shape null = Err NullRecord
read_shape follow (Shape.Object key fields) (object_data members) = read_members follow fields members
read_shape follow (Shape.List element) (array items) = made (λ trees. list (trees_of_list trees)) (read_each (follow element) items)
read_shape follow (Shape.Set element) (array items) = made (λ trees. set (trees_of_list trees)) (read_each (follow element) items)
read_shape follow (Shape.Map key value) (array items) = read_map (read_each (read_pair (follow key) (follow value)) items)
read_shape follow _ _ = Err OtherKind

-- the record of a type, where there is the type
abbrev pub read_typed : (Name → Data → Result PlainTree Reason) → Option Schema → Data → Result PlainTree Reason
read_typed follow None value = Err OtherKind
read_typed follow (Some schema) value = read_shape follow schema.shape value

abbrev pub read_at : (ℕ → Data → Result PlainTree Reason) → Option ℕ → Data → Result PlainTree Reason
read_at read None value = Err OtherKind
read_at read (Some type_index) value = read type_index value

-- the record of a type that is no deeper than this many types
abbrev pub read_within : List Schema → ℕ → ℕ → Data → Result PlainTree Reason
read_within schemas zero type_index value = Err OtherKind
read_within schemas (suc depth) type_index value = read_typed (λ name part. read_at (read_within schemas depth) (index_of_type schemas name) part) (slice_get schemas type_index) value

-- the record of the type of this name
abbrev pub read_named : List Schema → ℕ → Name → Data → Result PlainTree Reason
read_named schemas depth name value = read_at (read_within schemas depth) (index_of_type schemas name) value

-- the record of a type of a model, of which none is more than 32 types deep
abbrev pub read_tree : List Schema → ℕ → Data → Result PlainTree Reason
read_tree schemas t value = read_within schemas 32 t value

-- What each answer tells of what there is to read.
abbrev pub TellsAs : {A B : Type 0} → (A → B) → Result B Reason → Result A ValueFault → Type 0
TellsAs seen read (Ok found) = read ≡ Ok (seen found)
TellsAs seen read (Err (ValueFault.Field reason)) = read ≡ Err reason
TellsAs seen read (Err ValueFault.Memory) = Unit {0}

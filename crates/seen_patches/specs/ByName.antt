-- Fields of one schema in another one: they are found by their names.
use Rattle.std.specs.Prelude.{ℕ, List, Option, option_and_then, slice_get}
use Rattle.schema_model.specs.declared.schema.Field.{Field}
use Rattle.schema_model.specs.Parts.{field_names, name_index}

-- The index of the field of this name, if there is one.
abbrev pub field_in : List Field → List ℕ → Option ℕ
field_in fields name = name_index (field_names fields) name

-- What stands for the field of this name in a list that has one item for each field; none where there is no such field.
abbrev pub item_named : {A : Type 0} → List Field → List A → List ℕ → Option A
item_named fields items name = option_and_then (slice_get items) (field_in fields name)

-- Which rows can be printed, what their trees are by the names of their types, and what each answer tells of them.
use Rattle.std.specs.Prelude.{List, [], ◌∷◌, ℕ, ◌+◌, ◌<◌, ◌≡◌, Some, Result, Ok, Err, All, IsSomeAnd, length, zip}
use Rattle.std.specs.List.{AllZip}
use Rattle.serde_json.specs.Data.{Data, array, object}
use Rattle.serde_json.specs.View.{items_of}
use Rattle.schema_model.specs.declared.schema.name.Name.{Name}
use Rattle.schema_model.specs.declared.schema.Field.{Field}
use Rattle.schema_model.specs.declared.schema.FieldKind.{FieldKind}
use Rattle.schema_model.specs.declared.schema.Schema.{Schema}
use Rattle.row_model.specs.declared.row.Row.{Row}
use Rattle.row_model.specs.declared.row.Value.{Value}
use Rattle.schema_model.specs.Model.{HasChain, type_graph}
use Rattle.schema_model.specs.Parts.{field_names, index_of_type}
use Rattle.row_model.specs.PlainTree.{PlainTree, node_count}
use Rattle.row_model.specs.Row.{FitsKind, references_of_value}
use Rattle.row_model.specs.Table.{Table, IsLive, row_at}
use Rattle.row_model.specs.Key.{value_in}
use Rattle.row_model.specs.Unfold.{tree_of_type, tree_of_value, unfold_within}
use Rattle.json_rows.specs.RowLine.{PutsAll}
use Rattle.json_rows.specs.StoredRow.{members_of_fields}
use Rattle.record_json.specs.PrintTree.{PrintsAt, PrintsField, PrintsWithin}
use Rattle.record_json.specs.declared.print_fault.PrintFault.{PrintFault}
use Rattle.record_json.specs.declared.print_fault.PrintFault.TheVariants.{Nodes, Memory}

-- want of memory may come in place of each answer
abbrev pub IsFreePrint : PrintFault → Type 0
IsFreePrint Nodes = ⊥
IsFreePrint Memory = Unit {0}

-- the tree of a row of the type of this name, which is no deeper than so many types
abbrev pub unfold_named : List Schema → Table → ℕ → Name → ℕ → PlainTree
unfold_named schemas table depth name ordinal = tree_of_type (index_of_type schemas name) (λ t. unfold_within schemas table depth t ordinal)

-- what the record of the type of this name prints as
abbrev pub PrintsNamed : List Schema → ℕ → Name → PlainTree → Data → Type 0
PrintsNamed schemas depth name tree printed = PrintsAt (PrintsWithin schemas depth) (index_of_type schemas name) tree printed

-- no chain of so many references begins at the type
abbrev pub IsShallow : List Schema → ℕ → ℕ → Type 0
IsShallow schemas depth t = ¬ HasChain (type_graph schemas) depth t

-- the type of this name has the row, and is no deeper than so many types
abbrev pub CanPrint : List Schema → Table → ℕ → Name → ℕ → Type 0
CanPrint schemas table depth name ordinal = IsSomeAnd (index_of_type schemas name) (λ t. IsLive table t ordinal × IsShallow schemas depth t)

-- the value fits its kind, and the row that it may name can be printed
abbrev pub CanPrintValue : List Schema → Table → ℕ → FieldKind → Value → Type 0
CanPrintValue schemas table depth kind value =
    FitsKind kind value × All (λ named. CanPrint schemas table depth named.0 named.1) (references_of_value kind value)

-- the tree of the value of a field
abbrev pub tree_of_field : List Schema → Table → ℕ → Field × Value → PlainTree
tree_of_field schemas table depth valued = tree_of_value (unfold_named schemas table depth) valued.0.kind valued.1

-- a key and its value can be printed
abbrev pub CanPrintPair : List Schema → Table → ℕ → Name → Name → ℕ × ℕ → Type 0
CanPrintPair schemas table depth key value pair = CanPrint schemas table depth key pair.0 × CanPrint schemas table depth value pair.1

-- the trees of a key and its value
abbrev pub unfold_pair : List Schema → Table → ℕ → Name → Name → ℕ × ℕ → PlainTree × PlainTree
unfold_pair schemas table depth key value pair = (unfold_named schemas table depth key pair.0, unfold_named schemas table depth value pair.1)

-- how many nodes a key and its value have together
abbrev pub count_pair : PlainTree × PlainTree → ℕ
count_pair pair = node_count pair.0 + node_count pair.1

-- so many things print as an array
abbrev pub PrintsItems : {A : Type 0} → (A → Data → Type 0) → List A → Data → Type 0
PrintsItems Prints xs printed = (parts : List Data) × AllZip Prints xs parts × (printed ≡ array (items_of parts))

-- the values of these fields print as an object, given what the trees of the rows that they name are and print as
abbrev pub PrintsValued : (Name → PlainTree → Data → Type 0) → (Name → ℕ → PlainTree) → List Field → List Value → Data → Type 0
PrintsValued Follow follow fields values printed =
    (parts : List Data) × AllZip (λ valued part. PrintsField Follow valued.0.kind (tree_of_value follow valued.0.kind valued.1) part) (zip fields values) parts
    × (printed ≡ object (members_of_fields (zip (field_names fields) parts)))

-- how many nodes so many things have together
abbrev pub count_of : {A : Type 0} → (A → ℕ) → List A → ℕ
count_of nodes [] = 0
count_of nodes (one ∷ others) = nodes one + count_of nodes others

-- What each answer tells of what prints: it does, and its nodes were taken off; or they are more than there were.
abbrev pub TellsPrinted : {A T : Type 0} → (T → A) → (A → Type 0) → ℕ → ℕ → ℕ → Result T PrintFault → Type 0
TellsPrinted seen Prints nodes before after (Ok printed) = Prints (seen printed) × (after + nodes ≡ before)
TellsPrinted seen Prints nodes before after (Err Nodes) = before < nodes
TellsPrinted seen Prints nodes before after (Err Memory) = Unit {0}

-- ---- what is put as text

-- What each answer tells of the text of what prints: whatever it prints as, the text of that is put, and its nodes were taken off; or they are more than there were.
abbrev pub TellsPut : (Data → Type 0) → ℕ → List ℕ → List ℕ → ℕ → ℕ → Result (Unit {0}) PrintFault → Type 0
TellsPut Prints nodes old new before after result = TellsPrinted (λ (x : Unit {0}). x) (λ x. PutsAll Prints old new) nodes before after result

-- under the ordinal stands a record with a value for each of these fields, and each of them can be printed
abbrev pub HasRecord : List Schema → Table → ℕ → List Field → ℕ → ℕ → Type 0
HasRecord schemas table depth fields t ordinal =
    (values : List Value) × (row_at table t ordinal ≡ Some (Row.Object values)) × (length fields ≡ length values)
    × All (λ valued. CanPrintValue schemas table depth valued.0.kind valued.1) (zip fields values)

-- the record under the ordinal has a value of the field, which can be printed
abbrev pub HasValue : List Schema → Table → ℕ → FieldKind → ℕ → ℕ → ℕ → Type 0
HasValue schemas table depth kind t field ordinal =
    (value : Value) × (value_in (row_at table t ordinal) field ≡ Some value) × CanPrintValue schemas table depth kind value

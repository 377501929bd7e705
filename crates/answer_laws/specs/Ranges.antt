-- What holds of the tables of a machine, and that the values of their rows are in range.
use Rattle.std.specs.Prelude.{◌≡◌, ℕ, List, All, IfSome, Ok}
use Rattle.serde_json.specs.Data.{Data}
use Rattle.schema_model.specs.declared.schema.Schema.{Schema}
use Rattle.row_model.specs.Table.{EachRow, IsLive, Table}
use Rattle.row_model.specs.Unfold.{unfold_row}
use Rattle.record_json.specs.InRange.{HasValuesInRange}
use Rattle.record_json.specs.KeysApart.{HasKeysApart}
use Rattle.record_json.specs.PrintTree.{PrintsTree}
use Rattle.record_json.specs.ReadTree.{read_tree}
use Rattle.byte_laws.specs.Bytes.{IsByteTable}
use Rattle.read_engine.specs.Position.{Position, rows_now}
use Rattle.hollow_machine.specs.State.{Machine}

-- It holds of the rows of a state, of those from before its last step, and of older ones.
pub record HoldsOfStates (P : List Schema → Table → Type 0) (now : Position) (past : List (ℕ × Table)) : Type 0 where
  pub current : P now.schemas (rows_now now)
  pub before : P now.schemas now.before
  pub older : All (λ pair. P now.schemas pair.1) past

-- It holds of the rows of the consumer's state, of those from before its last step, and of the older ones that are kept.
abbrev pub HoldsOfTables : (List Schema → Table → Type 0) → Machine → Type 0
HoldsOfTables P machine = IfSome machine.consumer (λ now. HoldsOfStates P now machine.past)

-- What the rows hold in BYTES are bytes.
abbrev pub HasByteRows : Machine → Type 0
HasByteRows machine = HoldsOfTables (λ schemas table. IsByteTable table) machine

-- The values of the rows are in range: numbers of 32 and of 64 bits, units of 16, and bytes.
abbrev pub HasRanges : Machine → Type 0
HasRanges machine = HoldsOfTables (λ schemas table. EachRow schemas table (λ schema row. HasValuesInRange row)) machine

-- What the record of a live row prints as is read back as that record, where no map of it has two keys that are the same record.
abbrev pub ReadsBack : List Schema → Table → Type 0
ReadsBack schemas table =
    (type_index ordinal : ℕ) (printed : Data) → IsLive table type_index ordinal → HasKeysApart (unfold_row schemas table type_index ordinal)
    → PrintsTree schemas type_index (unfold_row schemas table type_index ordinal) printed
    → read_tree schemas type_index printed ≡ Ok (unfold_row schemas table type_index ordinal)

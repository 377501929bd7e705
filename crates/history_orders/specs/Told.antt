-- What the parts of a look at older rows tell: the record of a row, and the rows that have a key.
use Rattle.std.specs.Prelude.{◌<◌, ◌≤◌, ℕ, List, Result, Ok, Err}
use Rattle.serde_json.specs.Data.{Data}
use Rattle.serde_json.specs.View.{view}
use Rattle.serde_json.specs.declared.value.Value as json
use Rattle.schema_model.specs.declared.limit.Limit.TheVariants.{Nodes}
use Rattle.schema_model.specs.declared.model.path.Path.{Path}
use Rattle.schema_model.specs.declared.schema.name.Name.{Name}
use Rattle.schema_model.specs.declared.schema.Schema.{Schema}
use Rattle.schema_model.specs.Limit.{number_of_limit}
use Rattle.schema_model.specs.Parts.{index_of_type}
use Rattle.row_model.specs.declared.row.Value.{Value}
use Rattle.row_model.specs.Key.{AreMatches}
use Rattle.row_model.specs.PlainTree.{node_count}
use Rattle.row_model.specs.Table.{Table}
use Rattle.row_model.specs.Unfold.{unfold_row}
use Rattle.json_values.specs.declared.fault.KeyFault.{KeyFault}
use Rattle.json_values.specs.KeyFrom.{SpellsKey}
use Rattle.record_json.specs.declared.print_fault.PrintFault.{PrintFault}
use Rattle.record_json.specs.PrintTree.{PrintsTree}
use Rattle.read_engine.specs.Position.{Position, rows_now}
use Rattle.hol_answers.specs.declared.reply.Reply.{Reply}
use Rattle.hollow_machine.specs.HistoryOrders.{ShowsOldKey}
use Rattle.hollow_machine.specs.RowOrders.{AnswersAt}

-- The record of a row as JSON, or that it has too many nodes.
abbrev pub TellsRecord : List Schema → Table → ℕ → ℕ → Result json.Value PrintFault → Type 0
TellsRecord schemas table type_index ordinal (Ok value) =
    (node_count (unfold_row schemas table type_index ordinal) ≤ number_of_limit Nodes) × PrintsTree schemas type_index (unfold_row schemas table type_index ordinal) (view value)
TellsRecord schemas table type_index ordinal (Err PrintFault.Nodes) = number_of_limit Nodes < node_count (unfold_row schemas table type_index ordinal)
TellsRecord schemas table type_index ordinal (Err PrintFault.Memory) = Unit {0}

-- The live ordinals of a type whose rows have the key that the JSON spells, or that it spells none.
abbrev pub TellsKeyed : List Schema → Table → ℕ → List Path → Data → Result (List ℕ) KeyFault → Type 0
TellsKeyed schemas table type_index paths values (Ok ordinals) = (key : List Value) × SpellsKey schemas paths values key × AreMatches schemas table type_index paths key ordinals
TellsKeyed schemas table type_index paths values (Err KeyFault.Shape) = (key : List Value) → ¬ SpellsKey schemas paths values key
TellsKeyed schemas table type_index paths values (Err KeyFault.Memory) = Unit {0}

-- What `wasget` answers of a type in the rows of where a consumer stands.
abbrev pub AnswersNow : Name → Data → Reply → Position → Type 0
AnswersNow name values answer now = AnswersAt now (index_of_type now.schemas name) name (ShowsOldKey name values (rows_now now)) answer

-- What the parts of the order `cycle` tell that come before anything is written.
use Rattle.std.specs.Prelude.{◌<◌, ◌≤◌, ◌++◌, ℕ, ℤ, List, length, take, Bool, true, false, Option, Some, None, Result, Ok, Err, ⊤}
use Rattle.serde_json.specs.Data.{Data}
use Rattle.hol_io.specs.Store.{Store}
use Rattle.schema_model.specs.declared.schema.Schema.{Schema}
use Rattle.row_model.specs.PlainTree.{PlainTree}
use Rattle.row_model.specs.Table.{Table}
use Rattle.write_engine.specs.Cycle.{Next}
use Rattle.hol_answers.specs.declared.refusal.Refusal.{Refusal}
use Rattle.hollow_machine.specs.Follow.{MayFollow, MayNotFollow}
use Rattle.hollow_machine.specs.Records.{AreRead, AreTypes, Entry, IsFirstUnknown, IsFirstUnread}
use Rattle.producer_orders.specs.declared.line_records.Plain.{Plain}
use Rattle.producer_orders.specs.declared.line_records.Plain.TheVariants as plain
use Rattle.producer_orders.specs.declared.record_fault.RecordFault.{RecordFault}
use Rattle.producer_orders.specs.declared.record_fault.RecordFault.TheVariants as fault

-- A state of this version and tag may follow that of the last version; or the first reason why not.
abbrev pub TellsFollow : Store → ℕ → ℕ → ℤ → Option Refusal → Type 0
TellsFollow store last version tag None = MayFollow store last version tag
TellsFollow store last version tag (Some refusal) = MayNotFollow store last version tag refusal

-- Each name is that of a type; or the first one that is that of none.
abbrev pub TellsUnknown : List Schema → Data → Option (List ℕ) → Type 0
TellsUnknown schemas add None = AreTypes schemas add
TellsUnknown schemas add (Some name) = IsFirstUnknown schemas add name

-- The records give trees, and these give the rows; or, where too many are said to be, no rows.
abbrev pub AreAdded : List Schema → Table → List Entry → Table → Bool → Type 0
AreAdded schemas previous recorded rows false =
    (trees : List (ℕ × PlainTree)) × AreRead schemas recorded trees × Next schemas previous trees rows
AreAdded schemas previous recorded rows true =
    (trees : List (ℕ × PlainTree)) × AreRead schemas recorded trees × ((other : Table) → ¬ Next schemas previous trees other)

-- What an answer tells of records that were to be added, of which there may be more: that they were; or the first one that gives no tree.
abbrev pub TellsAdded : List Schema → Table → List Entry → Table → Result Bool RecordFault → Type 0
TellsAdded schemas previous recorded rows (Ok full) = AreAdded schemas previous recorded rows full
TellsAdded schemas previous recorded rows (Err (fault.Bad type_index place reason)) =
    (type_index < length schemas) × IsFirstUnread schemas recorded type_index place reason
TellsAdded schemas previous recorded rows (Err fault.TooMany) = ⊥
TellsAdded schemas previous recorded rows (Err fault.Memory) = Unit {0}

-- The place up to which records were added as trees is one of these records, or that behind the last one.
abbrev pub IsThere : List Data → Plain → Type 0
IsThere records (plain.All full) = Unit {0}
IsThere records (plain.Front place full) = place ≤ length records

-- What an answer tells of the records of a type that were to be added as trees behind others: that all were, or those before a place.
abbrev pub TellsPlain : List Schema → Table → List Entry → List Entry → Table → Result Plain RecordFault → Type 0
TellsPlain schemas previous done recorded rows (Ok (plain.All full)) = AreAdded schemas previous (done ++ recorded) rows full
TellsPlain schemas previous done recorded rows (Ok (plain.Front place full)) = AreAdded schemas previous (done ++ take place recorded) rows full
TellsPlain schemas previous done recorded rows (Err refused) = TellsAdded schemas previous (done ++ recorded) rows (Err refused)

-- What an answer tells of all the records of a cycle.
abbrev pub TellsRecords : List Schema → Table → List Entry → Table → Result ⊤ RecordFault → Type 0
TellsRecords schemas previous recorded rows (Ok done) = AreAdded schemas previous recorded rows false
TellsRecords schemas previous recorded rows (Err (fault.Bad type_index place reason)) =
    (type_index < length schemas) × IsFirstUnread schemas recorded type_index place reason
TellsRecords schemas previous recorded rows (Err fault.TooMany) = AreAdded schemas previous recorded rows true
TellsRecords schemas previous recorded rows (Err fault.Memory) = Unit {0}

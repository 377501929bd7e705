-- What the reading of a change's records and keys tells.
use Rattle.std.specs.Prelude.{◌≡◌, ◌++◌, ℕ, List, Option, Some, None, Result, ⊤, take}
use Rattle.std.specs.List.{AllZip}
use Rattle.serde_json.specs.Data.{Data}
use Rattle.schema_model.specs.declared.schema.Schema.{Schema}
use Rattle.record_trees.specs.declared.tree.Tree.{Tree}
use Rattle.hol_incremental.specs.Changes.{records}
use Rattle.hol_incremental.specs.Edited.{Keys}
use Rattle.hol_answers.specs.declared.refusal.Refusal.{Refusal}
use Rattle.hol_answers.specs.declared.refusal.Refusal.TheVariants.{BadKey, BadRecord}
use Rattle.hollow_machine.specs.ChangeOrder.{IsOfName}
use Rattle.hollow_machine.specs.Records.{AreRead, Entry, GivesKey, IsFirstUnread, SpellsKeys}
use Rattle.producer_orders.specs.Ends.{IsMemory, TellsEnd}
use Rattle.producer_orders.specs.declared.cycle_end.CycleEnd.{CycleEnd}

-- One of these records, the first, gives no tree.
abbrev pub IsUnread : List Schema → List Entry → Refusal → Type 0
IsUnread schemas recorded (BadRecord fault) = (type_index : ℕ) × IsOfName schemas type_index fault.type_name × IsFirstUnread schemas recorded type_index fault.index fault.reason
IsUnread schemas recorded _ = ⊥

-- The records give these trees, each with its type.
pub record HaveRead (schemas : List Schema) (recorded : List Entry) (found : List (ℕ × Tree)) : Type 0 where
  pub read : AreRead schemas recorded (records found)

-- The trees of some records; or the first one that gives none.
abbrev pub TellsRead : List Schema → List Entry → Result (List (ℕ × Tree)) CycleEnd → Type 0
TellsRead schemas recorded result = TellsEnd (λ found. HaveRead schemas recorded found) (IsUnread schemas recorded) IsMemory result

-- The trees of some records behind others are these; or the first record that gives none.
abbrev pub TellsBehind : List Schema → List Entry → List (ℕ × Tree) → Result ⊤ CycleEnd → Type 0
TellsBehind schemas recorded found result = TellsEnd (λ _. HaveRead schemas recorded found) (IsUnread schemas recorded) IsMemory result

-- The trees of some records behind others are these; or of those before a place, and of the record at it nothing is told.
abbrev pub TellsFront : List Schema → List Entry → List Entry → List (ℕ × Tree) → Option ℕ → Type 0
TellsFront schemas before recorded found None = HaveRead schemas (before ++ recorded) found
TellsFront schemas before recorded found (Some place) = HaveRead schemas (before ++ take place recorded) found

-- Each entry gives the key of its type.
abbrev pub GiveKeys : List Schema → List Entry → Keys → Type 0
GiveKeys schemas recorded removes = AllZip (GivesKey schemas) recorded removes

-- The keys of some entries behind others are these; or one entry gives none.
abbrev pub TellsKeysBehind : List Schema → List Entry → Keys → Result ⊤ CycleEnd → Type 0
TellsKeysBehind schemas recorded found result =
    TellsEnd (λ _. GiveKeys schemas recorded found) (λ refusal. (refusal ≡ BadKey) × ((removes : Keys) → ¬ GiveKeys schemas recorded removes)) IsMemory result

-- The keys that the JSON gives; or it gives none.
abbrev pub TellsKeys : List Schema → Data → Result Keys CycleEnd → Type 0
TellsKeys schemas remove result =
    TellsEnd (SpellsKeys schemas remove) (λ refusal. (refusal ≡ BadKey) × ((removes : Keys) → ¬ SpellsKeys schemas remove removes)) IsMemory result

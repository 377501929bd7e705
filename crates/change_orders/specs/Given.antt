-- What is tried of a change before its records and keys are read, and of its records once they are.
use Rattle.std.specs.Prelude.{◌≡◌, ◌<◌, ℕ, List, [], Option, Some, None, length}
use Rattle.serde_json.specs.Data.{Data, object}
use Rattle.schema_model.specs.declared.schema.Schema.{Schema}
use Rattle.row_model.specs.PlainTree.{PlainTree}
use Rattle.hol_incremental.specs.Changes.{HaveKeys, HaveOwnKeys}
use Rattle.hol_incremental.specs.Roots.{IsKeyed}
use Rattle.hol_orders.specs.Parts.{AskedChange}
use Rattle.hol_answers.specs.declared.refusal.Refusal.{Refusal}
use Rattle.hol_answers.specs.declared.refusal.Refusal.TheVariants.{BadPath, WrongKind}
use Rattle.hollow_machine.specs.ChangeOrder.{AreAllKeyed, IsFirstUnkeyed, IsGivenType, IsNoChange, IsOfName}
use Rattle.hollow_machine.specs.KeyPaths.{HasShape, IsObject}

-- The JSON is an object.
abbrev pub IsAnObject : Data → Type 0
IsAnObject (object parts) = Unit {0}
IsAnObject _ = ⊥

-- Each type that is named has a primary key; or why not.
abbrev pub TellsGiven : List Schema → AskedChange → Option Refusal → Type 0
TellsGiven schemas asked None = AreAllKeyed schemas asked
TellsGiven schemas asked (Some refusal) = IsNoChange schemas asked refusal

-- Each type that is named has a primary key; or this is the first one without.
abbrev pub TellsUnkeyed : List Schema → AskedChange → Option ℕ → Type 0
TellsUnkeyed schemas asked None = (type_index : ℕ) → type_index < length schemas → IsGivenType schemas asked type_index → IsKeyed schemas type_index
TellsUnkeyed schemas asked (Some type_index) = (type_index < length schemas) × IsFirstUnkeyed schemas asked type_index

-- Why a type without a primary key is refused.
abbrev pub RefusesUnkeyed : List Schema → ℕ → Refusal → Type 0
RefusesUnkeyed schemas type_index (WrongKind name) = IsOfName schemas type_index name × ¬ HasShape IsObject schemas type_index
RefusesUnkeyed schemas type_index (BadPath path) = (path ≡ []) × HasShape IsObject schemas type_index
RefusesUnkeyed schemas type_index _ = ⊥

-- Each record that is put has a key, and no two of a type the same; or why not.
abbrev pub TellsKeyed : List Schema → AskedChange → List (ℕ × PlainTree) → Option Refusal → Type 0
TellsKeyed schemas asked puts None = HaveKeys schemas puts × HaveOwnKeys schemas puts
TellsKeyed schemas asked puts (Some refusal) = IsNoChange schemas asked refusal

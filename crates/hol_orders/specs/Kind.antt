-- The kinds of orders: the word that each has in its line, what it asks for, and how that is spelled in JSON.
use Rattle.std.specs.Prelude.{◌≡◌, ◌≢◌, ℕ, List, Option, Some, None, codes, FitsSigned, true}
use Rattle.std.specs.Int.{w64}
use Rattle.serde_json.specs.Data.{Data, boolean}
use Rattle.hol_io.specs.Name.{IsVersion}
use Rattle.json_values.specs.SchemaJson.{AreSchemas}
use Rattle.hol_orders.specs.declared.kind.Kind.{Kind}
use Rattle.hol_orders.specs.declared.kind.Kind.TheVariants.{Model, Cycle, Restore, Load, Step, Index, Get, Find, Live, Row, Has, At, Past, Check, Stat, Grow, Plan, Goto, Change, WalkIndex, WalkFind, History, Was, WasGet}
use Rattle.hol_orders.specs.Parts.{AskedChange, AskedState, change_asked, pair, whole, versions_data, state_asked}
use Rattle.hol_orders.specs.Shapes.{AreKeys, ArePaths, AreRecords, IsArray, IsBound, IsWalk}
use Rattle.hol_orders.specs.Spelling.{Spelling, json, ordinal, pair_of, text, triple_of, version}

-- What the orders of a kind are: the name of their one member, what they ask for, and how that is spelled under the name.
pub record Shape : Type 1 where
  pub word : List ℕ
  pub Asked : Type 0
  pub spelling : Spelling Asked

-- the orders that have such things under this word
abbrev pub under : {A : Type 0} → List ℕ → Spelling A → Shape
under {A = A} word spelling = record { word = word; Asked = A; spelling = spelling }

-- what a cycle can ask for, and what a change can
abbrev pub IsNextState : AskedState → Type 0
IsNextState asked = IsVersion asked.version × FitsSigned w64 asked.tag × AreRecords asked.add

abbrev pub state : Spelling AskedState
state = record { Fits = IsNextState; spelled = state_asked }

abbrev pub IsStateChange : AskedChange → Type 0
IsStateChange asked = IsVersion asked.version × FitsSigned w64 asked.tag × AreRecords asked.put × AreKeys asked.remove

abbrev pub change : Spelling AskedChange
change = record { Fits = IsStateChange; spelled = change_asked }

-- a step from a version to another one
abbrev pub step : Spelling (ℕ × ℕ)
step = record {
  Fits = λ asked. IsVersion asked.0 × IsVersion asked.1 × (asked.0 ≢ asked.1);
  spelled = λ asked. pair (whole asked.0) (whole asked.1);
}

-- versions that are walked
abbrev pub walk : Spelling (List ℕ)
walk = record { Fits = IsWalk; spelled = versions_data }

-- how many old states are kept
abbrev pub bound : Spelling ℕ
bound = record { Fits = IsBound; spelled = whole }

-- the value `true`
abbrev pub truth : Spelling (Unit {0})
truth = record { Fits = λ asked. Unit {0}; spelled = λ asked. boolean true }

-- any JSON
abbrev pub IsAny : Data → Type 0
IsAny value = Unit {0}

-- What the orders of each kind are.
abbrev pub shape : Kind → Shape
shape Model = under (codes "model") (json AreSchemas)
shape Cycle = under (codes "cycle") state
shape Restore = under (codes "restore") version
shape Load = under (codes "load") version
shape Step = under (codes "step") step
shape Index = under (codes "index") (pair_of text (json ArePaths))
shape Get = under (codes "get") (pair_of text (json IsArray))
shape Find = under (codes "find") (triple_of text (json ArePaths) (json IsArray))
shape Live = under (codes "live") text
shape Row = under (codes "row") (pair_of text ordinal)
shape Has = under (codes "has") (triple_of text ordinal ordinal)
shape At = under (codes "at") (triple_of text ordinal ordinal)
shape Past = under (codes "past") text
shape Check = under (codes "check") walk
shape Stat = under (codes "stat") truth
shape Grow = under (codes "grow") (json AreSchemas)
shape Plan = under (codes "plan") version
shape Goto = under (codes "goto") version
shape Change = under (codes "change") change
shape WalkIndex = under (codes "walkindex") (pair_of text text)
shape WalkFind = under (codes "walkfind") (triple_of text text (json IsAny))
shape History = under (codes "history") bound
shape Was = under (codes "was") (triple_of version text ordinal)
shape WasGet = under (codes "wasget") (triple_of version text (json IsArray))

-- The name of the one member that an order of this kind has.
abbrev pub word_of_kind : Kind → List ℕ
word_of_kind kind = (shape kind).word

-- What looking for the kind of a word answers: the kind that has it, or none exactly where no kind has it.
abbrev pub TellsKind : List ℕ → Option Kind → Type 0
TellsKind word None = (kind : Kind) → word_of_kind kind ≢ word
TellsKind word (Some kind) = word_of_kind kind ≡ word

-- What the parts of the orders along walk paths tell: where a text leads, the value at its end, and what is kept or found of it.
use Rattle.std.specs.Prelude.{◌≡◌, ℕ, List, Option, Some, Result, Ok, Err, Contains}
use Rattle.serde_json.specs.Data.{Data}
use Rattle.schema_model.specs.declared.model.walk_path.WalkPath.{WalkPath}
use Rattle.schema_model.specs.declared.schema.Schema.{Schema}
use Rattle.schema_model.specs.WalkPath.{WalkResolves}
use Rattle.row_model.specs.declared.row.Value.{Value}
use Rattle.row_model.specs.Reach.{AreWalkMatches}
use Rattle.json_values.specs.declared.fault.KeyFault.{KeyFault}
use Rattle.json_values.specs.declared.fault.KeyFault.TheVariants as key_fault
use Rattle.read_engine.specs.Position.{Position, rows_now}
use Rattle.read_engine.specs.Walks.{CountsWalked}
use Rattle.hol_answers.specs.declared.refusal.Refusal.TheVariants.{BadKey, BadPath}
use Rattle.hol_answers.specs.declared.reply.Reply.{Reply}
use Rattle.hol_answers.specs.declared.reply.Reply.TheVariants as reply
use Rattle.hollow_machine.specs.WalkOrders.{IsLostWalk, KeepsWalk, RefusesWalk, SpellsEnd}
use Rattle.reach_orders.specs.declared.walk_way.WalkWay.{WalkWay}
use Rattle.reach_orders.specs.declared.walk_way.WalkWay.TheVariants as way

-- The walk path to which a text resolves from the type at an index, or that it leads to no value.
abbrev pub TellsWay : List Schema → ℕ → List ℕ → WalkWay → Type 0
TellsWay schemas type_index text (way.Resolved path) = WalkResolves schemas type_index text path
TellsWay schemas type_index text (way.Refused (BadPath lost)) = (lost ≡ text) × IsLostWalk schemas type_index text
TellsWay schemas type_index text (way.Refused _) = ⊥

-- The value of what stands at the end of the path, or that the JSON spells none.
abbrev pub TellsEnd : List Schema → WalkPath → Data → Result Value KeyFault → Type 0
TellsEnd schemas path json (Ok value) = SpellsEnd schemas path json value
TellsEnd schemas path json (Err key_fault.Shape) = (value : Value) → ¬ SpellsEnd schemas path json value
TellsEnd schemas path json (Err key_fault.Memory) = Unit {0}

-- The walk index of the type at an index that a position keeps from then on, or why it keeps none.
abbrev pub TellsKept : List ℕ → Position → ℕ → Option Position → Reply → Type 0
TellsKept text now type_index after (reply.WalkIndex keys) =
    (path : WalkPath) × WalkResolves now.schemas type_index text path × CountsWalked now path keys
    × ((walks : List WalkPath) × KeepsWalk now path walks × (after ≡ Some (record now { walks = walks })))
TellsKept text now type_index after (reply.Refused why) = RefusesWalk text now type_index why × (after ≡ Some now)
TellsKept text now type_index after _ = ⊥

-- The rows that reach the value along a path of which a walk index is kept, or that the JSON spells no value.
abbrev pub TellsAlong : WalkPath → Data → Reply → Position → Type 0
TellsAlong path json (reply.WalkFind ordinals) now =
    Contains now.walks path
    × ((value : Value) × SpellsEnd now.schemas path json value × AreWalkMatches now.schemas (rows_now now) path.type_index path.parts value ordinals)
TellsAlong path json (reply.Refused BadKey) now = Contains now.walks path × ((value : Value) → ¬ SpellsEnd now.schemas path json value)
TellsAlong path json _ now = ⊥

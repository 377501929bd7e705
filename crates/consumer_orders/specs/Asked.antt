-- The type that an order asks of, in the model of where a consumer stands.
use Rattle.std.specs.Prelude.{◌≡◌, Option, Some, None}
use Rattle.schema_model.specs.declared.schema.name.Name.{Name}
use Rattle.schema_model.specs.Parts.{index_of_type}
use Rattle.read_engine.specs.Position.{Position}
use Rattle.hol_answers.specs.declared.refusal.Refusal.TheVariants.{NoState, NoType}
use Rattle.consumer_orders.specs.declared.type_order.Asked.{Asked}
use Rattle.consumer_orders.specs.declared.type_order.Asked.TheVariants as asked

-- The type of this name, or why there is none.
abbrev pub TellsType : Option Position → Name → Asked → Type 0
TellsType None name (asked.At type_index) = ⊥
TellsType None name (asked.Refused why) = why ≡ NoState
TellsType (Some now) name (asked.At type_index) = index_of_type now.schemas name ≡ Some type_index
TellsType (Some now) name (asked.Refused why) = (index_of_type now.schemas name ≡ None) × (why ≡ NoType name)

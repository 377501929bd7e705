-- That an order has an answer.
use Rattle.std.specs.Prelude.{◌≡◌, IfSome, length}
use Rattle.hol_io.specs.Store.{HoldsBytes}
use Rattle.step_laws.specs.Typed.{HasTypes}
use Rattle.state_blobs.specs.Published.{Published}
use Rattle.hol_orders.specs.declared.kind.Kind.{Kind}
use Rattle.hol_orders.specs.declared.kind.Kind.TheVariants.{Model, Cycle, Restore, Load, Step as StepKind, Index, Get, Find, Live, Row, Has, At, Past, Check, Stat, Grow, Plan, Goto, Change, WalkIndex, WalkFind, History, Was, WasGet}
use Rattle.hol_orders.specs.declared.order.Order.{Order}
use Rattle.hol_answers.specs.declared.reply.Reply.{Reply}
use Rattle.byte_laws.specs.Bytes.{IsByteProducer}
use Rattle.hollow_machine.specs.Forms.{OrderForm, StepBy}
use Rattle.hollow_machine.specs.State.{Machine}
use Rattle.hollow_machine.specs.Step.{Step}

-- A producer has rows for each type of its model.
abbrev pub HasRows : Published → Type 0
HasRows last = length last.rows ≡ length last.model

-- What is known of the machine of a run over a store of bytes: the producer, if there is one, has rows for each type, its model is spelled by bytes and what
-- its rows hold in BYTES are bytes; and the consumer, if it has a state, has a model and a half for each type.
pub record IsSound (machine : Machine) : Type 0 where
  pub bytes : HoldsBytes machine.store
  pub producer : IfSome machine.producer HasRows
  pub spelled : IfSome machine.producer IsByteProducer
  pub consumer : IfSome machine.consumer HasTypes

-- That nothing is answered to what is asked by the form cannot be.
abbrev pub IsAnsweredBy : {Asked : Type 0} → OrderForm Asked → Machine → Asked → Type 0
IsAnsweredBy form machine asked = ((reply : Reply) (next : Machine) → StepBy form machine asked reply next → ⊥) → ⊥

-- That nothing is answered to the order cannot be.
abbrev pub IsAnswered : Machine → Order → Type 0
IsAnswered machine order = ((reply : Reply) (next : Machine) → Step machine order reply next → ⊥) → ⊥

-- The orders of these kinds have an answer, of which no record is shown.
abbrev pub IsSettled : Kind → Type 0
IsSettled Model = Unit {0}
IsSettled Cycle = Unit {0}
IsSettled Restore = Unit {0}
IsSettled Load = Unit {0}
IsSettled StepKind = Unit {0}
IsSettled Index = Unit {0}
IsSettled Find = Unit {0}
IsSettled Live = Unit {0}
IsSettled Has = Unit {0}
IsSettled At = Unit {0}
IsSettled Check = Unit {0}
IsSettled Stat = Unit {0}
IsSettled Grow = Unit {0}
IsSettled Plan = Unit {0}
IsSettled Goto = Unit {0}
IsSettled Change = Unit {0}
IsSettled WalkIndex = Unit {0}
IsSettled WalkFind = Unit {0}
IsSettled History = Unit {0}
IsSettled _ = ⊥

-- The orders of these kinds show records.
abbrev pub IsShowing : Kind → Type 0
IsShowing Get = Unit {0}
IsShowing Row = Unit {0}
IsShowing Past = Unit {0}
IsShowing Was = Unit {0}
IsShowing WasGet = Unit {0}
IsShowing _ = ⊥

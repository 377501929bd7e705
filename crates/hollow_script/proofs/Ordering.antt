-- What an order is answered, and what it leaves of the store where it stops.
use Rattle.std.proofs.Common.{◌≡◌, List, ℕ, inl, Option, Some, None, Result, Ok, Err, IfOk, OnErr, refl, sym, ap, subst}
use Rattle.std.specs.Option.{option_map}
use Rattle.std.specs.Prelude.{IfSome}
use Rattle.serde_json.specs.View.{view}
use Rattle.serde_json.specs.declared.value.Value.{Value}
use Rattle.hol_io.specs.Store.{Store}
use Rattle.schema_model.specs.declared.schema.name.Name.{Name}
use Rattle.write_engine.specs.Production.{Production}
use Rattle.hol_orders.specs.declared.order.Order.{Order}
use Rattle.hol_orders.specs.declared.order.Order.TheVariants as order
use Rattle.hol_answers.specs.declared.reply.Reply.{Reply}
use Rattle.hol_orders.specs.declared.order.NextState.{NextState}
use Rattle.hol_orders.specs.declared.order.StateChange.{StateChange}
use Rattle.hol_orders.specs.Parts.{asked_change, asked_state}
use Rattle.hollow_machine.specs.Records.{asked_cycle, cycle_of_change}
use Rattle.hollow_machine.specs.ChangeOrder.{ChangeStep}
use Rattle.hollow_machine.specs.CycleOrder.{CycleStep}
use Rattle.hollow_machine.specs.Forms.{LooksBy, OrderForm, StepBy, looking, moving}
use Rattle.hollow_machine.specs.GrowOrder.{GrowStep}
use Rattle.hollow_machine.specs.HistoryOrders.{WasGetReply, WasReply}
use Rattle.hollow_machine.specs.Kept.{Kept, Moves, MovesProducer, MovesReader, Reader, kept_with_producer, kept_with_reader, machine_of, past_of}
use Rattle.hollow_machine.specs.Left.{Halts, HaltsProducer}
use Rattle.hollow_machine.specs.ModelOrder.{ModelStep}
use Rattle.hollow_machine.specs.RestoreOrder.{RestoreStep}
use Rattle.hollow_machine.specs.CheckOrder.{CheckReply}
use Rattle.hollow_machine.specs.State.{Machine}
use Rattle.hollow_machine.specs.Puts.{CyclePuts, OrderPuts}
use Rattle.hollow_machine.specs.Step.{LooksAt, Step, form}
use Rattle.hol_orders.specs.Order.{asked_of, kind_of}
use Rattle.state_blobs.specs.Published.{published_of}
use Rattle.state_blobs.specs.Puts.{Put}
use Rattle.hol_orders.specs.declared.order_stop.OrderStop.{OrderStop}
use Rattle.hollow_script.specs.Orders.{StaysSo}

-- an order that moves the machine in a way that is that of its kind
pub asked_moves : (held held' : Option Store) (kept kept' : Kept) (asked other : Order) (r : Result Reply OrderStop) → asked ≡ other →
    Moves (λ machine reply next. Step machine other reply next) held kept held' kept' r → Moves (λ machine reply next. Step machine asked reply next) held kept held' kept' r
asked_moves held held' kept kept' asked other r is moves = subst (λ order. Moves (λ machine reply next. Step machine order reply next) held kept held' kept' r) (sym is) moves

module _ (held : Option Store) (kept : Kept) (producer : Option Production) (asked : Order) (r : Result Reply OrderStop) where
  -- what the order `model` is answered over each store moves the machine, for it leaves the store and the consumer
  pub model_moves : (schemas : Value) → asked ≡ order.Model schemas →
      ((store : Store) (beside : Kept) → IfOk r (λ reply. ModelStep (machine_of store (kept_with_producer beside kept.producer)) (view schemas) reply (machine_of store (kept_with_producer beside producer)))) →
      Moves (λ machine reply next. Step machine asked reply next) held kept held (kept_with_producer kept producer) r
  model_moves schemas is answers = asked_moves held held kept (kept_with_producer kept producer) asked (order.Model schemas) r is (over held r answers)
    where
      over : (told : Option Store) (answer : Result Reply OrderStop) →
          ((store : Store) (beside : Kept) → IfOk answer (λ reply. ModelStep (machine_of store (kept_with_producer beside kept.producer)) (view schemas) reply (machine_of store (kept_with_producer beside producer)))) →
          Moves (λ machine reply next. ModelStep machine (view schemas) reply next) told kept told (kept_with_producer kept producer) answer
      over None answer gives = tt
      over (Some store) (Err stop) gives = tt
      over (Some store) (Ok reply) gives = (store, refl, gives store kept)

  -- and so does what the order `grow` is answered
  pub grow_moves : (schemas : Value) → asked ≡ order.Grow schemas →
      ((store : Store) (beside : Kept) → IfOk r (λ reply. GrowStep (machine_of store (kept_with_producer beside kept.producer)) (view schemas) reply (machine_of store (kept_with_producer beside producer)))) →
      Moves (λ machine reply next. Step machine asked reply next) held kept held (kept_with_producer kept producer) r
  grow_moves schemas is answers = asked_moves held held kept (kept_with_producer kept producer) asked (order.Grow schemas) r is (over held r answers)
    where
      over : (told : Option Store) (answer : Result Reply OrderStop) →
          ((store : Store) (beside : Kept) → IfOk answer (λ reply. GrowStep (machine_of store (kept_with_producer beside kept.producer)) (view schemas) reply (machine_of store (kept_with_producer beside producer)))) →
          Moves (λ machine reply next. GrowStep machine (view schemas) reply next) told kept told (kept_with_producer kept producer) answer
      over None answer gives = tt
      over (Some store) (Err stop) gives = tt
      over (Some store) (Ok reply) gives = (store, refl, gives store kept)

  -- as the order `cycle` moves the machine, so does an order that is one
  pub cycle_moves : (held' : Option Store) (next_state : NextState) → asked ≡ order.Cycle next_state →
      MovesProducer (λ machine reply next. CycleStep machine (asked_cycle (asked_state next_state)) reply next) held kept.producer held' producer r →
      Moves (λ machine reply next. Step machine asked reply next) held kept held' (kept_with_producer kept producer) r
  cycle_moves held' next_state is moves = asked_moves held held' kept (kept_with_producer kept producer) asked (order.Cycle next_state) r is (moves kept)

  -- and so does the order `change`
  pub change_moves : (held' : Option Store) (next_state : StateChange) → asked ≡ order.Change next_state →
      MovesProducer (λ machine reply next. ChangeStep machine (asked_change next_state) reply next) held kept.producer held' producer r →
      Moves (λ machine reply next. Step machine asked reply next) held kept held' (kept_with_producer kept producer) r
  change_moves held' next_state is moves = asked_moves held held' kept (kept_with_producer kept producer) asked (order.Change next_state) r is (moves kept)

-- as the order `restore` moves the machine, so does an order that is one
pub restore_moves : (held held' : Option Store) (kept : Kept) (producer : Option Production) (asked : Order) (r : Result Reply OrderStop) (version : ℕ) → asked ≡ order.Restore version →
    MovesProducer (λ machine reply next. RestoreStep machine version reply next) held kept.producer held' producer r →
    Moves (λ machine reply next. Step machine asked reply next) held kept held' (kept_with_producer kept producer) r
restore_moves held held' kept producer asked r version is moves = asked_moves held held' kept (kept_with_producer kept producer) asked (order.Restore version) r is (moves kept)

-- the orders of the consumer, which leave the store and the producer
module _ (held held' : Option Store) (kept : Kept) (reader : Reader) (asked : Order) (r : Result Reply OrderStop) where
  pub reader_moves : held' ≡ held → MovesReader (λ machine reply next. Step machine asked reply next) held kept.reader reader r →
      Moves (λ machine reply next. Step machine asked reply next) held kept held' (kept_with_reader kept reader) r
  reader_moves same moves =
      subst (λ (h : Option Store). Moves (λ machine reply next. Step machine asked reply next) held kept h (kept_with_reader kept reader) r) (sym same) (moves kept)

-- as one of them moves the machine, so does an order that is this one
pub reads_as : (held : Option Store) (reader reader' : Reader) (asked other : Order) (r : Result Reply OrderStop) → asked ≡ other →
    MovesReader (λ machine reply next. Step machine other reply next) held reader reader' r → MovesReader (λ machine reply next. Step machine asked reply next) held reader reader' r
reads_as held reader reader' asked other r is moves = subst (λ order. MovesReader (λ machine reply next. Step machine order reply next) held reader reader' r) (sym is) moves

-- what is answered wherever this is kept of the consumer, and changes nothing, leaves the machine
pub stays : (held : Option Store) (reader : Reader) (asked : Order) (r : Result Reply OrderStop) → IfOk r (StaysSo asked reader) →
    MovesReader (λ machine reply next. Step machine asked reply next) held reader reader r
stays None reader asked r so = λ kept. tt
stays (Some store) reader asked (Err stop) so = λ kept. tt
stays (Some store) reader asked (Ok reply) so = λ kept. (store, refl, so store kept)

-- what a look is answered is what the machine answers, which stays
form_steps : {Asked : Type 0} (form : OrderForm Asked) (machine : Machine) (asked : Asked) (reply : Reply) → LooksBy form machine.consumer asked reply → StepBy form machine asked reply machine
form_steps (looking Answers of_state) machine asked reply is = (is, refl)
form_steps (moving Leads) machine asked reply is = absurd is

pub looks : (asked : Order) (reader : Reader) (r : Result Reply OrderStop) → IfOk r (LooksAt asked reader.consumer) → IfOk r (StaysSo asked reader)
looks asked reader (Err stop) answers = tt
looks asked reader (Ok reply) answers = λ store kept.
    form_steps (form (kind_of asked)) (machine_of store (kept_with_reader kept reader)) (asked_of asked) reply answers

-- so is what is answered of a version
pub was_stays : (asked : Order) (reader : Reader) (r : Result Reply OrderStop) (version : ℕ) (name : Name) (ordinal : ℕ) → asked ≡ order.Was version name ordinal →
    IfOk r (WasReply reader.consumer reader.version (past_of reader.consumer reader.history.steps) version name ordinal) → IfOk r (StaysSo asked reader)
was_stays asked reader (Err stop) version name ordinal is answers = tt
was_stays asked reader (Ok reply) version name ordinal is answers = subst (λ o. StaysSo o reader reply) (sym is) (λ store kept. (answers, refl))

pub wasget_stays : (asked : Order) (reader : Reader) (r : Result Reply OrderStop) (version : ℕ) (name : Name) (values : Value) → asked ≡ order.WasGet version name values →
    IfOk r (WasGetReply reader.consumer reader.version (past_of reader.consumer reader.history.steps) version name (view values)) → IfOk r (StaysSo asked reader)
wasget_stays asked reader (Err stop) version name values is answers = tt
wasget_stays asked reader (Ok reply) version name values is answers = subst (λ o. StaysSo o reader reply) (sym is) (λ store kept. (answers, refl))

-- what a check is answered of the store is what the machine answers, which stays
pub checks : (held held' : Option Store) (kept : Kept) (asked : Order) (versions : List ℕ) (r : Result Reply OrderStop) → asked ≡ order.Check versions → held' ≡ held →
    IfSome held (λ store. IfOk r (CheckReply store versions)) → Moves (λ machine reply next. Step machine asked reply next) held kept held' kept r
checks None held' kept asked versions r is same answers = tt
checks (Some store) held' kept asked versions (Err stop) is same answers = tt
checks (Some store) held' kept asked versions (Ok reply) is same answers =
    (store, same, subst (λ o. Step (machine_of store kept) o reply (machine_of store kept)) (sym is) (answers, refl))

-- ---- orders that stop

-- an order that stops and leaves the store
pub stays_halts : (ArePuts : Machine → List Put → Type 0) (held held' : Option Store) (kept : Kept) (r : Result Reply OrderStop) → held' ≡ held → Halts ArePuts held kept held' r
stays_halts ArePuts None held' kept r same = tt
stays_halts ArePuts (Some store) held' kept (Ok reply) same = tt
stays_halts ArePuts (Some store) held' kept (Err why) same = (store, same, inl refl)

-- a producer that stays has published the same
pub still_published : (before after : Option Production) (r : Result Reply OrderStop) → OnErr r (after ≡ before) → OnErr r (option_map published_of after ≡ option_map published_of before)
still_published before after (Ok reply) same = tt
still_published before after (Err why) same = ap (option_map published_of) same

pub same_published : (producer : Option Production) (r : Result Reply OrderStop) → OnErr r (option_map published_of producer ≡ option_map published_of producer)
same_published producer (Ok reply) = tt
same_published producer (Err why) = refl

-- the order `cycle`
pub cycle_halts : (held held' : Option Store) (kept : Kept) (asked : Order) (r : Result Reply OrderStop) (next_state : NextState) → asked ≡ order.Cycle next_state →
    HaltsProducer (CyclePuts (asked_cycle (asked_state next_state))) held kept.producer held' r → Halts (OrderPuts asked) held kept held' r
cycle_halts held held' kept asked r next_state is halts = subst (λ (o : Order). Halts (OrderPuts o) held kept held' r) (sym is) (halts kept)

-- the order `change`
pub change_halts : (held held' : Option Store) (kept : Kept) (asked : Order) (r : Result Reply OrderStop) (next_state : StateChange) → asked ≡ order.Change next_state →
    HaltsProducer (CyclePuts (cycle_of_change (asked_change next_state))) held kept.producer held' r → Halts (OrderPuts asked) held kept held' r
change_halts held held' kept asked r next_state is halts = subst (λ (o : Order). Halts (OrderPuts o) held kept held' r) (sym is) (halts kept)

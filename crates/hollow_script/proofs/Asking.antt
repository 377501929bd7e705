-- What a line asks for, and that what waits is written before.
use Rattle.std.proofs.Common.{◌≡◌, ◌<◌, ◌≤◌, ◌⊎◌, inl, inr, List, [], ◌∷◌, ℕ, length, Bool, true, false, Option, Some, None, Result, Ok, Err, refl, sym, ◌∙◌, subst}
use Rattle.std.specs.Prelude.{IsErrOf}
use Rattle.hol_io.specs.Lines.{Reading}
use Rattle.hol_io.specs.Store.{Store}
use Rattle.hol_io.specs.declared.lines.Turn as declared
use Rattle.hol_io.specs.declared.lines.Turn.TheVariants.{Line, Long, End, Over}
use Rattle.hol_orders.specs.Order.{TellsOrder}
use Rattle.hol_orders.specs.declared.order.Order.{Order}
use Rattle.hol_orders.specs.declared.order.OrderFault.{OrderFault}
use Rattle.hol_orders.specs.declared.order.OrderFault.TheVariants as order_fault
use Rattle.hol_orders.specs.declared.order_stop.OrderStop.{OrderStop}
use Rattle.hol_orders.specs.declared.order_stop.OrderStop.TheVariants as order_stop
use Rattle.hol_answers.specs.declared.refusal.Refusal.{Refusal}
use Rattle.hol_answers.specs.declared.refusal.Refusal.TheVariants.{BadOrder, LineTooLong}
use Rattle.hol_answers.specs.declared.reply.Reply.{Reply}
use Rattle.hol_answers.specs.declared.reply.Reply.TheVariants.{Refused}
use Rattle.hollow_machine.specs.Script.{longest_line}
use Rattle.hollow_machine.specs.State.{Machine}
use Rattle.hollow_machine.specs.Step.{Step}
use Rattle.hollow_machine.specs.Left.{HasPart}
use Rattle.hollow_machine.specs.Puts.{OrderPuts}
use Rattle.hollow_machine.specs.Stopped.{LeavesAhead}
use Rattle.hollow_script.specs.Asked.{AskedPuts, AskedStep, Asks}
use Rattle.hollow_script.specs.Kept.{HaltsKept, MovesKept, SameProducer, machine_with}
use Rattle.hollow_script.specs.Scripted.{AnswersNext, AreTaken, AsksNext, HaltsNext, HasGiven, TurnsNext, widened}
use Rattle.hollow_script.specs.declared.asked.Asked.{Asked}
use Rattle.hollow_script.specs.declared.asked.Asked.TheVariants as asked
use Rattle.hollow_script.specs.declared.keep.Keep.{Keep}
use Rattle.hollow_script.specs.declared.script_stop.ScriptStop.{ScriptStop}
use Rattle.hollow_script.specs.declared.script_stop.ScriptStop.TheVariants as stop

-- a line that is an order asks for it
pub asks_order : (line : List ℕ) (order : Order) → TellsOrder line (Ok order) → length line ≤ longest_line → Asks line (asked.Order order)
asks_order line order tells short = record {
  answers = λ machine reply next step. inr (short, inr (order, tells, step));
  puts = λ machine some are. (short, (order, tells, are));
}

-- a line that is none asks for nothing
pub asks_none : (line : List ℕ) (fault : OrderFault) → fault ≡ order_fault.BadOrder → TellsOrder line (Err fault) → length line ≤ longest_line → Asks line (asked.Refused BadOrder)
asks_none line fault is tells short = record {
  answers = λ machine reply next refuses. inr (short, inl (subst (λ f. TellsOrder line (Err f)) is tells, refuses));
  puts = λ machine some are. absurd are;
}

-- nor does one that is too long
asks_long : (line : List ℕ) → longest_line < length line → Asks line (asked.Refused LineTooLong)
asks_long line long = record { answers = λ machine reply next refuses. inl (long, refuses); puts = λ machine some are. absurd are }

neither : {A B C : Type 0} → A ⊎ (B ⊎ C) → (A → ⊥) → (B → ⊥) → (C → ⊥) → ⊥
neither (inl a) not_a not_b not_c = not_a a
neither (inr (inl b)) not_a not_b not_c = not_b b
neither (inr (inr c)) not_a not_b not_c = not_c c

module _ (bytes : List ℕ) (given : List (List ℕ)) (left : Option (List ℕ)) (reading : Reading) where
  -- the line that is lent is the next one
  pub line_asks : (turn : declared.Turn) (lent : List ℕ) (found : Asked) → turn ≡ Line → TurnsNext bytes given left reading turn → reading.line ≡ Some lent →
      (length lent ≤ longest_line → Asks lent found) → AsksNext bytes given left reading (Ok (Some found))
  line_asks turn lent found is turns lends asks =
      let (line, has, line_is, short) = subst (λ t. TurnsNext bytes given left reading t) is turns in
      let same : line ≡ lent = (let both = sym line_is ∙ lends in cc) in
      (line, has, subst (λ (l : List ℕ). Asks l found) (sym same) (asks (subst (λ (l : List ℕ). length l ≤ longest_line) same short)))

  pub long_asks : (turn : declared.Turn) → turn ≡ Long → TurnsNext bytes given left reading turn → AsksNext bytes given left reading (Ok (Some (asked.Refused LineTooLong)))
  long_asks turn is turns =
      let (line, has, long) = subst (λ t. TurnsNext bytes given left reading t) is turns in (line, has, asks_long line long)

  pub end_asks : (turn : declared.Turn) → turn ≡ End → TurnsNext bytes given left reading turn → AsksNext bytes given left reading (Ok None)
  end_asks turn is turns = subst (λ t. TurnsNext bytes given left reading t) is turns

  pub over_asks : (turn : declared.Turn) → turn ≡ Over → TurnsNext bytes given left reading turn → AsksNext bytes given left reading (Err stop.TooLong)
  over_asks turn is turns = subst (λ t. TurnsNext bytes given left reading t) is turns

  -- where the reader stops no line is given, and none ends in what was taken where the source failed
  pub none_asks : (why : ScriptStop) → (why ≡ stop.Memory) ⊎ ((why ≡ stop.Source) ⊎ (why ≡ stop.Sink)) →
      HasGiven bytes left reading given → (IsErrOf {T = declared.Turn} {E = ScriptStop} (Err why) stop.Source → AreTaken bytes left given) →
      AsksNext bytes given left reading (Err why)
  none_asks stop.Memory others none taken = inl none
  none_asks stop.Source others none taken = taken refl
  none_asks stop.Sink others none taken = tt
  none_asks stop.Store others none taken = tt
  none_asks stop.TooLong others none taken = absurd (neither others (λ e. cc) (λ e. cc) (λ e. cc))

  -- the line that is lent was given, and is not read as an order
  pub order_none_asks : (turn : declared.Turn) → turn ≡ Line → TurnsNext bytes given left reading turn → (why : OrderStop) → AsksNext bytes given left reading (Err (widened why))
  order_none_asks turn is turns order_stop.Memory = let (line, has, line_is, short) = subst (λ t. TurnsNext bytes given left reading t) is turns in inr (line, has)
  order_none_asks turn is turns order_stop.Store = tt

  -- as what a line asks for is answered, the line is
  pub asked_answers : (held held' : Option Store) (keep keep' : Keep) (now : Store) (found : Option Asked) (it : Asked) (reply : Reply) → found ≡ Some it → held ≡ Some now → AsksNext bytes given left reading (Ok found) →
      MovesKept {E = ScriptStop} (λ machine answer next. AskedStep machine it answer next) held keep held' keep' (Ok reply) →
      AnswersNext bytes given now left reading keep held' keep' (Ok (Some reply))
  asked_answers held held' keep keep' now found it reply is told asks moves =
      let (line, has, line_asks_it) = subst (λ f. AsksNext bytes given left reading (Ok f)) is asks in
      let (next, after, step) = subst (λ h. MovesKept {E = ScriptStop} (λ machine answer next. AskedStep machine it answer next) h keep held' keep' (Ok reply)) told moves in
      (line, has, (next, after, line_asks_it.answers (machine_with now keep) reply (machine_with next keep') step))

  -- the first puts of what the next line asks for are those of the line
  part_ahead : (machine : Machine) (line : List ℕ) (it : Asked) (lines : List (List ℕ)) (store : Store) → Asks line it → HasPart (AskedPuts it machine) machine.store store → LeavesAhead machine (line ∷ lines) store
  part_ahead machine line it lines store asks (inl same) = inl same
  part_ahead machine line it lines store asks (inr (puts, are, first)) = inr (puts, asks.puts machine puts are, first)

  puts_ahead : (held held' : Option Store) (keep keep' : Keep) (now : Store) (found : Option Asked) (it : Asked) (why : ScriptStop) → found ≡ Some it → held ≡ Some now →
      AsksNext bytes given left reading (Ok found) → HaltsKept {E = ScriptStop} (AskedPuts it) held keep held' (Err why) →
      SameProducer keep keep' → HaltsNext bytes given now left reading keep held' keep'
  puts_ahead held held' keep keep' now found it why is told asks halts same =
      let (line, has, line_asks_it) = subst (λ f. AsksNext bytes given left reading (Ok f)) is asks in
      let (next, after, part) = subst (λ h. HaltsKept {E = ScriptStop} (AskedPuts it) h keep held' (Err why)) told halts in
      (line, has, (next, after, part_ahead (machine_with now keep) line it [] next line_asks_it part), same)

  -- why the next line is not known is why it is not answered
  pub asks_stop : (left' : Option (List ℕ)) (reading' : Reading) (held : Option Store) (keep : Keep) (now : Store) (why : ScriptStop) → HasGiven bytes left reading given → held ≡ Some now → (why ≡ stop.Store → ⊥) →
      AsksNext bytes given left' reading' (Err why) → AnswersNext bytes given now left' reading' keep held keep (Err why)
  asks_stop left' reading' held keep now stop.Source has told other asks = (asks, told)
  asks_stop left' reading' held keep now stop.Sink has told other asks = told
  asks_stop left' reading' held keep now stop.TooLong has told other asks = (asks, told)
  asks_stop left' reading' held keep now stop.Store has told other asks = absurd (other refl)
  asks_stop left' reading' held keep now stop.Memory has told other (inl none) = inl (none, told, refl)
  asks_stop left' reading' held keep now stop.Memory has told other (inr (line, given_too)) = inr (line, given_too, (now, told, inl refl), refl)

  -- why what it asks for is not answered is why the line is not
  pub asked_halts : (held held' : Option Store) (keep keep' : Keep) (now : Store) (found : Option Asked) (it : Asked) (why : ScriptStop) → found ≡ Some it → held ≡ Some now →
      (why ≡ stop.Memory) ⊎ ((why ≡ stop.Store) ⊎ (why ≡ stop.Sink)) → (why ≡ stop.Sink → held' ≡ held) → AsksNext bytes given left reading (Ok found) →
      HaltsKept {E = ScriptStop} (AskedPuts it) held keep held' (Err why) → SameProducer keep keep' →
      AnswersNext bytes given now left reading keep held' keep' (Err why)
  asked_halts held held' keep keep' now found it stop.Sink is told others unput asks halts same = unput refl ∙ told
  asked_halts held held' keep keep' now found it stop.Source is told others unput asks halts same = absurd (neither others (λ e. cc) (λ e. cc) (λ e. cc))
  asked_halts held held' keep keep' now found it stop.TooLong is told others unput asks halts same = absurd (neither others (λ e. cc) (λ e. cc) (λ e. cc))
  asked_halts held held' keep keep' now found it stop.Store is told others unput asks halts same = puts_ahead held held' keep keep' now found it stop.Store is told asks halts same
  asked_halts held held' keep keep' now found it stop.Memory is told others unput asks halts same = inr (puts_ahead held held' keep keep' now found it stop.Memory is told asks halts same)

-- an answer moves the machine whatever else would have stopped the order
pub order_moves : (held held' : Option Store) (keep keep' : Keep) (order : Order) (reply : Reply) →
    MovesKept {E = OrderStop} (λ machine answer next. Step machine order answer next) held keep held' keep' (Ok reply) →
    MovesKept {E = ScriptStop} (λ machine answer next. Step machine order answer next) held keep held' keep' (Ok reply)
order_moves None held' keep keep' order reply moves = tt
order_moves (Some store) held' keep keep' order reply moves = moves

-- as an order moves the machine, so does what asks for it
pub as_order_moves : (held held' : Option Store) (keep keep' : Keep) (it : Asked) (order : Order) (result : Result Reply ScriptStop) → it ≡ asked.Order order →
    MovesKept (λ machine answer next. Step machine order answer next) held keep held' keep' result →
    MovesKept (λ machine answer next. AskedStep machine it answer next) held keep held' keep' result
as_order_moves held held' keep keep' it order result is moves =
    subst (λ a. MovesKept (λ machine answer next. AskedStep machine a answer next) held keep held' keep' result) (sym is) moves

-- what is refused leaves the machine as it was
pub refused_moves : (held : Option Store) (keep : Keep) (it : Asked) (refusal : Refusal) → it ≡ asked.Refused refusal →
    MovesKept {E = ScriptStop} (λ machine answer next. AskedStep machine it answer next) held keep held keep (Ok (Refused refusal))
refused_moves None keep it refusal is = tt
refused_moves (Some store) keep it refusal is =
    (store, refl, subst (λ a. AskedStep (machine_with store keep) a (Refused refusal) (machine_with store keep)) (sym is) (refl, refl))

-- where an order stops it leaves the same of the store, whatever the stop is called
pub order_halts : (held held' : Option Store) (keep : Keep) (order : Order) (why : OrderStop) (other : ScriptStop) →
    HaltsKept {E = OrderStop} (OrderPuts order) held keep held' (Err why) → HaltsKept {E = ScriptStop} (OrderPuts order) held keep held' (Err other)
order_halts None held' keep order why other halts = tt
order_halts (Some store) held' keep order why other halts = halts

-- what an order leaves of the store that stops, what asks for it leaves
pub as_order_halts : (held held' : Option Store) (keep : Keep) (it : Asked) (order : Order) (result : Result Reply ScriptStop) → it ≡ asked.Order order →
    HaltsKept (OrderPuts order) held keep held' result → HaltsKept (AskedPuts it) held keep held' result
as_order_halts None held' keep it order result is halts = tt
as_order_halts (Some store) held' keep it order (Ok reply) is halts = tt
as_order_halts (Some store) held' keep it order (Err why) is halts =
    (halts.0, halts.1, subst (λ a. HasPart (AskedPuts a (machine_with store keep)) store halts.0) (sym is) halts.2)

-- an order that was not begun leaves all
pub none_halts : (held : Option Store) (keep : Keep) (order : Order) (why : ScriptStop) → HaltsKept {E = ScriptStop} (OrderPuts order) held keep held (Err why)
none_halts None keep order why = tt
none_halts (Some store) keep order why = (store, refl, inl refl)

-- an order that is not one that may put is none
pub may_not : (P : Type 0) (test : Bool) → test ≡ false → (P → test ≡ true) → P → ⊥
may_not P test not is p = let no : false ≡ true = sym not ∙ is p in absurd cc

-- what puts nothing leaves the store, and where it may put nothing waits
pub quiet_of : {P A B : Type 0} → (P → ⊥) ⊎ B → ((P → ⊥) → A) → A ⊎ B
quiet_of (inl not) stays = inl (stays not)
quiet_of (inr none) stays = inr none

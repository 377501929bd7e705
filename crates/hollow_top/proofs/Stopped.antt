-- What `run` and `make` leave where they stop.
use Rattle.std.proofs.Common.{◌≡◌, ◌≤◌, ◌<◌, ◌++◌, ◌∷◌, [], inl, inr, ℕ, zero, suc, List, Bool, true, false, Option, Some, None, Result, Ok, Err, IfErr, IfSome, IsErrOf, OnErr, take, refl, sym, ap, ◌∙◌, subst, arith}
use Rattle.std.proofs.lemmas.List.{append-nil}
use Rattle.std.specs.List.{range_with_len}
use Rattle.hol_io.specs.Lines.{cut, finished}
use Rattle.hol_io.specs.Store.{Store}
use Rattle.hol_answers.specs.declared.reply.Reply.{Reply}
use Rattle.hol_answers.specs.declared.reply.Reply.TheVariants.{Make as Made, Refused}
use Rattle.hol_orders.specs.declared.order_stop.OrderStop.{OrderStop}
use Rattle.hollow_machine.specs.MakeCommand.{ChecksCycles, MakeReply, film_machine}
use Rattle.hollow_machine.specs.Made.{StopsCycles, StopsMake}
use Rattle.hollow_machine.specs.State.{Machine}
use Rattle.hollow_machine.specs.Stopped.{LeavesAhead, StopsAfter, StopsBetween, StopsWithin}
use Rattle.hollow_make.specs.Parts.{TellsMake, machine_at}
use Rattle.hollow_script.specs.Scripted.{longest_input}
use Rattle.hollow_script.specs.Stopping.{LeavesStopped, StopsSo}
use Rattle.hollow_script.specs.declared.keep.Keep.{Keep}
use Rattle.hollow_script.specs.declared.script_stop.ScriptStop.{ScriptStop}
use Rattle.hollow_script.specs.declared.script_stop.ScriptStop.TheVariants as stop
use Rattle.hollow_script.proofs.Lining.{finished_within, taken_front}
use Rattle.write_engine.specs.Production.{Production}
use Rattle.written_laws.specs.Chain.{Chain}
use Rattle.written_laws.specs.HoldsChain.{HoldsChain}
use Rattle.chain_laws.specs.Producers.{HoldsBytes, KeepsChain}
use Rattle.chain_laws.specs.Stopped.{HoldsLonger, HoldsLongerByMake}
use Rattle.hollow_top.specs.Headline.{LeavesChain, LeavesMadeChain}
use Rattle.hollow_top.specs.Run.{StopsMade, StopsScript, script_status, status_of}
use Rattle.hollow_top.specs.declared.stop.Stop.{Stop}
use Rattle.hollow_top.specs.declared.stop.Stop.TheVariants.{Memory, Sink, Store as StoreFailed}
use Rattle.hollow_top.specs.declared.words.Command.{Command}
use Rattle.hollow_top.specs.declared.words.Command.TheVariants.{Make}
use Rattle.hollow_top.specs.Words.{Asks}
use Rattle.hollow_top.proofs.TrueScripts.{AreKept}

-- ---- the status of a stop

abbrev stop_at : ℕ → ScriptStop
stop_at (suc (suc (suc zero))) = stop.Source
stop_at (suc (suc (suc (suc zero)))) = stop.Sink
stop_at (suc (suc (suc (suc (suc zero))))) = stop.Store
stop_at (suc (suc (suc (suc (suc (suc zero)))))) = stop.Memory
stop_at _ = stop.TooLong

stop_of_status : (why : ScriptStop) → stop_at (script_status (Err why)) ≡ why
stop_of_status stop.Source = refl
stop_of_status stop.Sink = refl
stop_of_status stop.Store = refl
stop_of_status stop.Memory = refl
stop_of_status stop.TooLong = refl

past_two : (why : ScriptStop) → 2 < script_status (Err why)
past_two stop.Source = omega arith
past_two stop.Sink = omega arith
past_two stop.Store = omega arith
past_two stop.Memory = omega arith
past_two stop.TooLong = omega arith

module _ (input left : Option (List ℕ)) (held after_held : Option Store) (kept : Keep) (before after : Option (List ℕ)) where
  -- what is left of the sink and of the store at a status
  abbrev pub LeftAt : ℕ → Type 0
  LeftAt status = IfSome input (λ bytes. IfSome held (λ first. StopsScript bytes first left after_held kept before after status))

  stops_at : (bytes : List ℕ) (first : Store) (given : ScriptStop) (status : ℕ) → status ≡ script_status (Err given) → LeavesStopped bytes first left after_held kept before after given → StopsScript bytes first left after_held kept before after status
  stops_at bytes first given status is left_so = λ why same.
      (let one : given ≡ why = sym (stop_of_status given) ∙ ap stop_at (sym is ∙ same) ∙ stop_of_status why in
      subst (LeavesStopped bytes first left after_held kept before after) one left_so)

  -- a script stops with its status
  pub script_stops : (why given : ScriptStop) (status : ℕ) → why ≡ given → status ≡ script_status (Err given) →
      IfSome input (λ bytes. IfSome held (λ first. IfErr {T = Bool} (Err why) (LeavesStopped bytes first left after_held kept before after))) → LeftAt status
  script_stops why given status same is left_so = over input held (subst (λ (w : ScriptStop). IfSome input (λ bytes. IfSome held (λ first. IfErr {T = Bool} (Err w) (LeavesStopped bytes first left after_held kept before after)))) same left_so)
    where
      over : (i : Option (List ℕ)) (h : Option Store) → IfSome i (λ bytes. IfSome h (λ first. LeavesStopped bytes first left after_held kept before after given)) →
          IfSome i (λ bytes. IfSome h (λ first. StopsScript bytes first left after_held kept before after status))
      over None h is_left = tt
      over (Some bytes) None is_left = tt
      over (Some bytes) (Some first) is_left = stops_at bytes first given status is is_left

  -- one that ends has none
  pub script_ended : (status : ℕ) → status < 2 → LeftAt status
  script_ended status small = over input held
    where
      over : (i : Option (List ℕ)) (h : Option Store) → IfSome i (λ bytes. IfSome h (λ first. StopsScript bytes first left after_held kept before after status))
      over None h = tt
      over (Some bytes) None = tt
      over (Some bytes) (Some first) = λ why is. absurd (let past = past_two why in omega (arith, small, is, past))

-- the status of a verdict is a small one
pub verdict_small : (status : ℕ) (refused : Bool) → status ≡ status_of refused → status < 2
verdict_small status true is = omega (arith, is)
verdict_small status false is = omega (arith, is)

-- ---- the chain behind a script that stops

-- a script keeps the chain that stops between two lines, and within the answer to one
abbrev pub KeepBetween : Type 0
KeepBetween = (first store : Store) (lines : List (List ℕ)) (text : List ℕ) (chain : Chain) → KeepsChain first chain → StopsBetween first lines text store → HoldsLonger first chain lines store

abbrev pub KeepWithin : Type 0
KeepWithin = (first store : Store) (lines : List (List ℕ)) (text : List ℕ) (chain : Chain) → KeepsChain first chain → StopsWithin first lines text store → HoldsLonger first chain lines store

-- behind some first lines
after_between : (first store : Store) (lines answered ahead : List (List ℕ)) (text : List ℕ) → lines ≡ answered ++ ahead → StopsAfter first answered text store → StopsBetween first lines text store
after_between first store lines answered ahead text lines_are (refused, machine, script, store_is) = record {
  answered = answered;
  ahead = ahead;
  lines_are = lines_are;
  refused = refused;
  machine = machine;
  script = script;
  left = same_ahead ahead;
}
  where
    same_ahead : (some : List (List ℕ)) → LeavesAhead machine some store
    same_ahead [] = store_is
    same_ahead (line ∷ others) = inl store_is

so_keeps : KeepBetween → KeepWithin → (bytes : List ℕ) (left : Option (List ℕ)) (first store : Store) (chain : Chain) (text : List ℕ) (keep : Keep) (why : ScriptStop) → KeepsChain first chain → StopsSo bytes first left keep why text store → HoldsLonger first chain (cut bytes) store
so_keeps between within bytes left first store chain text keep stop.Source kept (took, consumes, so) =
    let front = taken_front bytes left took consumes in
    between first store (cut bytes) text chain kept (after_between first store (cut bytes) (finished took) front.0 text front.1 so)
so_keeps between within bytes left first store chain text keep stop.Sink kept so = within first store (cut bytes) text chain kept so
so_keeps between within bytes left first store chain text keep stop.Store kept so = between first store (cut bytes) text chain kept so.0
so_keeps between within bytes left first store chain text keep stop.Memory kept so = between first store (cut bytes) text chain kept so.0
so_keeps between within bytes left first store chain text keep stop.TooLong kept so =
    let front = finished_within longest_input bytes in
    between first store (cut bytes) text chain kept (after_between first store (cut bytes) (finished (take longest_input bytes)) front.0 text front.1 so)

pub leaves_chain : KeepBetween → KeepWithin → AreKept → (input left : Option (List ℕ)) (held after_held : Option Store) (kept : Keep) (before after : Option (List ℕ)) (why : ScriptStop) → IfSome held HoldsBytes →
    IfSome input (λ bytes. IfSome held (λ first. IfErr {T = Bool} (Err why) (LeavesStopped bytes first left after_held kept before after))) →
    IfSome input (λ bytes. IfSome held (λ first. (chain : Chain) → HoldsChain first chain → LeavesChain bytes first chain after_held))
leaves_chain between within keeps None left held after_held kept before after why of_bytes so = tt
leaves_chain between within keeps (Some bytes) left None after_held kept before after why of_bytes so = tt
leaves_chain between within keeps (Some bytes) left (Some first) after_held kept before after why of_bytes (text, store, so, told, gained) = λ chain holds.
    (store, told, so_keeps between within bytes left first store chain text kept why (keeps first chain holds of_bytes) so)

-- ---- the command `make`

checks_stop : (seed rows : ℕ) (machine next : Machine) (cycles : List ℕ) (Answers : List ℕ → Reply → Type 0) → ChecksCycles seed rows machine cycles Answers next →
    StopsCycles seed rows machine cycles next.store
checks_stop seed rows machine next cycles Answers (published, passes, checks) = record {
  answered = cycles;
  ahead = [];
  cycles_are = sym (append-nil cycles);
  published = published;
  next = next;
  passes = passes;
  left = refl;
}

reply_stops : (seed rows : ℕ) (machine next : Machine) (cycles : List ℕ) (answer : Reply) → MakeReply seed rows cycles machine answer next →
    StopsCycles seed rows machine cycles next.store
reply_stops seed rows machine next cycles (Made made) is = checks_stop seed rows machine next cycles _ is
reply_stops seed rows machine next cycles (Refused refusal) (inl is) = record {
  answered = is.before;
  ahead = is.cycle ∷ is.behind;
  cycles_are = is.cycles_are;
  published = is.published;
  next = is.between;
  passes = is.passes;
  left = inl (ap (λ (m : Machine). m.store) is.refuses.1);
}
reply_stops seed rows machine next cycles (Refused refusal) (inr checks) = checks_stop seed rows machine next cycles _ checks
reply_stops seed rows machine next cycles _ is = absurd is

-- what an answer that is not written leaves
pub answer_stops : (seed rows cycles : ℕ) (held after_held : Option Store) (producer : Option Production) (reply : Reply) → TellsMake {E = OrderStop} seed rows cycles held after_held producer (Ok reply) →
    IfSome held (λ first. StopsMade seed rows cycles first after_held)
answer_stops seed rows cycles None after_held producer reply tells = tt
answer_stops seed rows cycles (Some first) after_held producer reply (next, told, makes) =
    (next, told, reply_stops seed rows (film_machine first) (machine_at next producer) (range_with_len 1 cycles) reply makes)

pub stops_behind : {T E : Type 0} (seed rows cycles : ℕ) (held after_held : Option Store) (producer : Option Production) (reply : Reply) (r : Result T E) → TellsMake {E = OrderStop} seed rows cycles held after_held producer (Ok reply) →
    OnErr r (IfSome held (λ first. StopsMade seed rows cycles first after_held))
stops_behind seed rows cycles held after_held producer reply (Ok done) tells = tt
stops_behind seed rows cycles held after_held producer reply (Err why) tells = answer_stops seed rows cycles held after_held producer reply tells

-- what stops without having written leaves the sink
pub stays_silent : {T E : Type 0} (r : Result T E) (other : E) (P : Type 0) → P → IfErr r (λ why. (why ≡ other → ⊥) → P)
stays_silent (Ok done) other P same = tt
stays_silent (Err why) other P same = λ apart. same

pub reply_silent : {T : Type 0} (r : Result T Stop) (P : Type 0) → (IsErrOf r StoreFailed → ⊥) → (IsErrOf r Memory → P) → IfErr r (λ why. (why ≡ Sink → ⊥) → P)
reply_silent (Ok done) P never stays = tt
reply_silent (Err Sink) P never stays = λ apart. absurd (apart refl)
reply_silent (Err StoreFailed) P never stays = λ apart. absurd (never refl)
reply_silent (Err Memory) P never stays = λ apart. stays refl

-- the chain behind it
abbrev pub KeepStoppedMake : Type 0
KeepStoppedMake = (first store : Store) (seed rows cycles : ℕ) (chain : Chain) → seed ≤ 999999 → cycles ≤ 1000 → KeepsChain first chain → StopsMake first seed rows cycles store → HoldsLongerByMake first chain seed rows cycles store

pub leaves_made_chain : KeepStoppedMake → AreKept → (seed rows cycles : ℕ) (held after_held : Option Store) → seed ≤ 999999 → cycles ≤ 1000 → IfSome held HoldsBytes →
    IfSome held (λ first. StopsMade seed rows cycles first after_held) → IfSome held (λ first. (chain : Chain) → HoldsChain first chain → LeavesMadeChain seed rows cycles first chain after_held)
leaves_made_chain law keeps seed rows cycles None after_held small few of_bytes stops = tt
leaves_made_chain law keeps seed rows cycles (Some first) after_held small few of_bytes (next, told, stops) = λ chain holds.
    (next, told, law first next seed rows cycles chain small few (keeps first chain holds of_bytes) stops)

-- words that ask for other numbers ask for another command
pub made_numbers : (words : List (List ℕ)) (command : Command) (seed rows cycles s r c : ℕ) (P : ℕ → ℕ → ℕ → Type 0) → ((other : Command) → Asks words other → other ≡ command) →
    command ≡ Make seed rows cycles → Asks words (Make s r c) → P seed rows cycles → P s r c
made_numbers words command seed rows cycles s r c P one is asked made =
    let same : Make s r c ≡ Make seed rows cycles = one (Make s r c) asked ∙ is in
    let seeds : seed ≡ s = cc in
    let counts : rows ≡ r = cc in
    let turns : cycles ≡ c = cc in
    subst (λ n. P n r c) seeds (subst (λ n. P seed n c) counts (subst (λ n. P seed rows n) turns made))

-- The cycles of the script, one behind another.
use Rattle.std.proofs.Common.{◌≡◌, ◌<◌, ◌≤◌, ◌+◌, ◌-◌, ◌++◌, ◌∙◌, inl, inr, ℕ, suc, List, [], ◌∷◌, Bool, true, false, Option, Some, None, Ok, Err, length, get_or, arith, refl, sym, ap, subst, append_assoc, length-append}
use Rattle.std.specs.Prelude.{IfSome, if◌then◌else◌}
use Rattle.std.specs.List.{range_with_len}
use Rattle.std.proofs.Math.Seq.{get_or-append_seam}
use Rattle.std.proofs.lemmas.Bool.{cases_lt}
use Rattle.std.proofs.lemmas.List.{append-nil, get_or_append_left}
use Rattle.film_script.proofs.Ranges.{range_join}
use Rattle.film_script.specs.Films.{film_schemas}
use Rattle.hol_io.specs.Store.{Store}
use Rattle.write_engine.specs.Production.{Production}
use Rattle.hol_orders.specs.declared.order_stop.OrderStop.{OrderStop}
use Rattle.hol_answers.specs.Reply.{is_refusal}
use Rattle.hol_answers.specs.declared.refusal.Refusal.{Refusal}
use Rattle.hol_answers.specs.declared.reply.Reply.{Reply}
use Rattle.hol_answers.specs.declared.reply.Reply.TheVariants.{Cycle, Refused}
use Rattle.hollow_machine.specs.CycleOrder.{CycleStep}
use Rattle.hollow_machine.specs.Kept.{IsResting, MovesProducer, nothing_kept}
use Rattle.hollow_machine.specs.Left.{HaltsProducer, HasPart}
use Rattle.hollow_machine.specs.Made.{LeavesCycles}
use Rattle.hollow_machine.specs.MakeCommand.{PassesCycles, film_cycle, versions_published}
use Rattle.hollow_machine.specs.Puts.{CyclePuts}
use Rattle.hollow_machine.specs.State.{Machine}
use Rattle.hollow_make.specs.Parts.{HaltsScript, TellsCycles, machine_at, publishes}
use Rattle.hollow_make.specs.Walked.{AreBelow, ArePublished}

-- a cycle behind others
passes_more : (seed rows : ℕ) (machine between next : Machine) (cycles published : List ℕ) (cycle : ℕ) (answer : Reply) → PassesCycles seed rows machine cycles published between
    → CycleStep between (film_cycle seed rows cycle) answer next → is_refusal answer ≡ false → PassesCycles seed rows machine (cycles ++ cycle ∷ []) (published ++ versions_published answer) next
passes_more seed rows machine between next [] published cycle answer (none, same) step not =
    let are : published ++ versions_published answer ≡ versions_published answer ++ [] = ap (λ ns. ns ++ versions_published answer) none ∙ sym (append-nil (versions_published answer)) in
    (answer, next, [], subst (λ (m : Machine). CycleStep m (film_cycle seed rows cycle) answer next) same step, not, (refl, refl), are)
passes_more seed rows machine between next (c ∷ cs) published cycle answer (reply, there, others, first, passed, rest, are) step not = (
  reply,
  there,
  others ++ versions_published answer,
  first,
  passed,
  passes_more seed rows there between next cs others cycle answer rest step not,
  ap (λ ns. ns ++ versions_published answer) are ∙ append_assoc (versions_published reply) others (versions_published answer),
)

-- the version that is noted of an answer to this cycle, where it publishes
abbrev noted : ℕ → Reply → List ℕ
noted cycle answer = if publishes answer then cycle ∷ [] else []

noted_is : (seed rows cycle : ℕ) (machine next : Machine) (answer : Reply) → CycleStep machine (film_cycle seed rows cycle) answer next → noted cycle answer ≡ versions_published answer
noted_is seed rows cycle machine next (Cycle names true version) step = ap (λ n. n ∷ []) (sym step.0)
noted_is seed rows cycle machine next (Cycle names false version) step = refl
noted_is seed rows cycle machine next (Refused why) step = refl
noted_is seed rows cycle machine next _ step = absurd step

-- versions below a cycle, and that cycle
below_next : (cycle : ℕ) (published : List ℕ) → 1 ≤ cycle → AreBelow cycle published → AreBelow (cycle + 1) (published ++ cycle ∷ [])
below_next cycle published least are = record { within = within; rising = rising }
  where
    count : length (published ++ cycle ∷ []) ≡ length published + 1
    count = length-append published (cycle ∷ [])

    last : get_or (published ++ cycle ∷ []) (length published) 0 ≡ cycle
    last = get_or-append_seam published cycle [] 0

    earlier : (place : ℕ) → place < length published → get_or (published ++ cycle ∷ []) place 0 ≡ get_or published place 0
    earlier place inside = get_or_append_left published (cycle ∷ []) 0 place inside

    within : (place : ℕ) → place < length (published ++ cycle ∷ []) → (1 ≤ get_or (published ++ cycle ∷ []) place 0) × (get_or (published ++ cycle ∷ []) place 0 < cycle + 1)
    within place inside =
        elim (cases_lt place (length published)) [
          | inl below ↦
              let bounds = are.within place below in
              let same = earlier place below in
              (omega (arith, bounds.0, same), omega (arith, bounds.1, same))
          | inr past ↦
              let e : place ≡ length published = omega (arith, inside, count, past) in
              let same : get_or (published ++ cycle ∷ []) place 0 ≡ cycle = ap (λ n. get_or (published ++ cycle ∷ []) n 0) e ∙ last in
              (omega (arith, least, same), omega (arith, same))
        ]

    rising : (place : ℕ) → place + 1 < length (published ++ cycle ∷ []) → get_or (published ++ cycle ∷ []) place 0 < get_or (published ++ cycle ∷ []) (place + 1) 0
    rising place inside =
        let here : place < length published = omega (arith, inside, count) in
        elim (cases_lt (place + 1) (length published)) [
          | inl below ↦ omega (arith, are.rising place below, earlier place here, earlier (place + 1) below)
          | inr past ↦
              let e : place + 1 ≡ length published = omega (arith, inside, count, past) in
              let same : get_or (published ++ cycle ∷ []) (place + 1) 0 ≡ cycle = ap (λ n. get_or (published ++ cycle ∷ []) n 0) e ∙ last in
              omega (arith, (are.within place here).1, earlier place here, same)
        ]

-- versions below a cycle are below a later one
below_later : (cycle later : ℕ) (published : List ℕ) → cycle ≤ later → AreBelow cycle published → AreBelow later published
below_later cycle later published before are = record {
  within = λ place inside. (let bounds = are.within place inside in (bounds.0, omega (arith, before, bounds.1)));
  rising = are.rising;
}

below_noted : (cycle : ℕ) (published : List ℕ) (publishes : Bool) → 1 ≤ cycle → AreBelow cycle published → AreBelow (cycle + 1) (published ++ (if publishes then cycle ∷ [] else []))
below_noted cycle published true least are = below_next cycle published least are
below_noted cycle published false least are = subst (AreBelow (cycle + 1)) (sym (append-nil published)) (below_later cycle (cycle + 1) published (omega arith) are)

-- no versions are below any cycle
none_below : (cycle : ℕ) → AreBelow cycle []
none_below cycle = record { within = λ place inside. absurd (omega (arith, inside)); rising = λ place inside. absurd (omega (arith, inside)) }

-- So many cycles were run, and none was refused.
pub record HasRun (seed rows : ℕ) (held : Option Store) (first : Production) (place : ℕ) (held' : Option Store) (now : Production) (published : List ℕ) : Type 0 where
  pub passes : IfSome held (λ store. (next : Store) × (held' ≡ Some next)
      × PassesCycles seed rows (machine_at store (Some first)) (range_with_len 1 place) published (machine_at next (Some now)))
  pub below : AreBelow (place + 1) published
  pub model : now.schemas ≡ film_schemas
  pub resting : IsResting now

pub run_start : (seed rows : ℕ) (held : Option Store) (first : Production) (published : List ℕ) → published ≡ [] → first.schemas ≡ film_schemas → IsResting first → HasRun seed rows held first 0 held first published
run_start seed rows held first published none model resting =
    subst (λ ns. HasRun seed rows held first 0 held first ns) (sym none) (record { passes = passes held; below = none_below (0 + 1); model = model; resting = resting })
  where
    passes : (held : Option Store) → IfSome held (λ store. (next : Store) × (held ≡ Some next)
        × PassesCycles seed rows (machine_at store (Some first)) (range_with_len 1 0) [] (machine_at next (Some first)))
    passes None = tt
    passes (Some store) = (store, refl, (refl, refl))

-- the cycle at a place
abbrev MovesBy : ℕ → ℕ → ℕ → Option Store → Production → Option Store → Production → Reply → Type 0
MovesBy seed rows cycle held before held' after answer =
    MovesProducer {E = OrderStop} (λ machine reply next. CycleStep machine (film_cycle seed rows cycle) reply next) held (Some before) held' (Some after) (Ok answer)

-- what such a cycle answers over a store
step_at : (seed rows cycle : ℕ) (held held' : Option Store) (store : Store) (before after : Production) (answer : Reply) → held ≡ Some store → MovesBy seed rows cycle held before held' after answer
    → (next : Store) × (held' ≡ Some next) × CycleStep (machine_at store (Some before)) (film_cycle seed rows cycle) answer (machine_at next (Some after))
step_at seed rows cycle held held' store before after answer is moves =
    subst (λ (h : Option Store). MovesBy seed rows cycle h before held' after answer) is moves nothing_kept

pub run_step : (seed rows : ℕ) (held mid held' : Option Store) (first before after : Production) (place : ℕ) (published versions : List ℕ) (answer : Reply) → HasRun seed rows held first place mid before published
    → MovesBy seed rows (place + 1) mid before held' after answer → is_refusal answer ≡ false → after.schemas ≡ film_schemas → IsResting after
    → versions ≡ published ++ (if publishes answer then (place + 1) ∷ [] else []) → HasRun seed rows held first (place + 1) held' after versions
run_step seed rows held mid held' first before after place published versions answer run moves not model resting are =
    subst (λ ns. HasRun seed rows held first (place + 1) held' after ns) (sym are) record {
      passes = passes held run.passes;
      below = below_noted (place + 1) published (publishes answer) (omega arith) run.below;
      model = model;
      resting = resting;
    }
  where
    passes : (held : Option Store) → IfSome held (λ store. (next : Store) × (mid ≡ Some next)
        × PassesCycles seed rows (machine_at store (Some first)) (range_with_len 1 place) published (machine_at next (Some before)))
        → IfSome held (λ store. (next : Store) × (held' ≡ Some next)
        × PassesCycles seed rows (machine_at store (Some first)) (range_with_len 1 (place + 1)) (published ++ (if publishes answer then (place + 1) ∷ [] else [])) (machine_at next (Some after)))
    passes None so_far = tt
    passes (Some store) (there, is, so_far) =
        let (next, told, step) = step_at seed rows (place + 1) mid held' there before after answer is moves in
        let more = passes_more seed rows (machine_at store (Some first)) (machine_at there (Some before)) (machine_at next (Some after)) (range_with_len 1 place) published (place + 1) answer so_far step not in
        let one : 1 + place ≡ place + 1 = omega arith in
        let cycles : range_with_len 1 (place + 1) ≡ range_with_len 1 place ++ (place + 1) ∷ [] = range_join 1 place 1 ∙ ap (λ k. range_with_len 1 place ++ k ∷ []) one in
        let same : published ++ versions_published answer ≡ published ++ (if publishes answer then (place + 1) ∷ [] else []) =
        ap (λ ns. published ++ ns) (sym (noted_is seed rows (place + 1) (machine_at there (Some before)) (machine_at next (Some after)) answer step)) in
        let at_cycles = subst (λ ns. PassesCycles seed rows (machine_at store (Some first)) ns (published ++ versions_published answer) (machine_at next (Some after))) (sym cycles) more in
        (next, told, subst (λ ns. PassesCycles seed rows (machine_at store (Some first)) (range_with_len 1 (place + 1)) ns (machine_at next (Some after))) same at_cycles)

-- what is noted of a cycle is the version that its answer publishes
pub noted_is_published : (place : ℕ) (published versions : List ℕ) (is_published : Bool) (answer : Reply) → versions ≡ published ++ (if is_published then (place + 1) ∷ [] else []) → is_published ≡ publishes answer
    → versions ≡ published ++ (if publishes answer then (place + 1) ∷ [] else [])
noted_is_published place published versions is_published answer are is = are ∙ ap (λ (b : Bool). published ++ (if b then (place + 1) ∷ [] else [])) is

-- all cycles were run
pub run_end : (seed rows cycles : ℕ) (held held' : Option Store) (first now : Production) (place : ℕ) (published : List ℕ) → place ≡ cycles → HasRun seed rows held first place held' now published
    → TellsCycles {E = OrderStop} seed rows cycles held first held' now published (Ok None)
run_end seed rows cycles None held' first now place published all run = tt
run_end seed rows cycles (Some store) held' first now place published all run =
    let (next, told, passes) = run.passes in
    (next, told, subst (λ n. PassesCycles seed rows (machine_at store (Some first)) (range_with_len 1 n) published (machine_at next (Some now))) all passes)

-- a cycle was refused
pub run_refused : (seed rows cycles : ℕ) (held mid held' : Option Store) (first before after : Production) (place : ℕ) (published : List ℕ) (answer : Reply) (why : Refusal) → place < cycles → HasRun seed rows held first place mid before published
    → MovesBy seed rows (place + 1) mid before held' after answer → answer ≡ Refused why → TellsCycles {E = OrderStop} seed rows cycles held first held' after published (Ok (Some (Refused why)))
run_refused seed rows cycles None mid held' first before after place published answer why inside run moves refused = tt
run_refused seed rows cycles (Some store) mid held' first before after place published answer why inside run moves refused =
    let (there, is, passes) = run.passes in
    let (next, told, step) = step_at seed rows (place + 1) mid held' there before after (Refused why) is (subst (λ (r : Reply). MovesBy seed rows (place + 1) mid before held' after r) refused moves) in
    let rest = cycles - (place + 1) in
    let all : cycles ≡ place + suc rest = omega (arith, inside) in
    let one : 1 + place ≡ place + 1 = omega arith in (
      next,
      told,
      (
        why,
        refl,
        record {
          before = range_with_len 1 place;
          cycle = place + 1;
          behind = range_with_len (place + 1 + 1) rest;
          cycles_are = ap (range_with_len 1) all ∙ range_join 1 place (suc rest) ∙ ap (λ k. range_with_len 1 place ++ range_with_len k (suc rest)) one;
          published = published;
          between = machine_at there (Some before);
          passes = passes;
          refuses = step;
        },
      ),
    )

-- versions below a cycle of the script are published
pub are_published : (place cycles : ℕ) (published : List ℕ) → place ≤ cycles → cycles ≤ 1000 → AreBelow (place + 1) published → ArePublished published
are_published place cycles published inside few are = below_later (place + 1) 1001 published (omega (arith, inside, few)) are

-- ---- where the cycles stop

-- the store behind some cycles
same_left : (seed rows : ℕ) (machine : Machine) (ahead : List ℕ) → LeavesCycles seed rows machine ahead machine.store
same_left seed rows machine [] = refl
same_left seed rows machine (cycle ∷ cycles) = inl refl

-- some first cycles and the others
cycles_parted : (place cycles : ℕ) → place ≤ cycles → range_with_len 1 cycles ≡ range_with_len 1 place ++ range_with_len (1 + place) (cycles - place)
cycles_parted place cycles inside =
    let all : cycles ≡ place + (cycles - place) = omega (arith, inside) in ap (range_with_len 1) all ∙ range_join 1 place (cycles - place)

-- The cycles stop behind those that were run.
pub run_stops : (seed rows cycles : ℕ) (held held' : Option Store) (first now : Production) (place : ℕ) (published : List ℕ) → place ≤ cycles → HasRun seed rows held first place held' now published
    → HaltsScript seed rows cycles held first held'
run_stops seed rows cycles None held' first now place published inside run = tt
run_stops seed rows cycles (Some store) held' first now place published inside run =
    let (next, told, passes) = run.passes in (
      next,
      told,
      record {
        answered = range_with_len 1 place;
        ahead = range_with_len (1 + place) (cycles - place);
        cycles_are = cycles_parted place cycles inside;
        published = published;
        next = machine_at next (Some now);
        passes = passes;
        left = same_left seed rows (machine_at next (Some now)) (range_with_len (1 + place) (cycles - place));
      },
    )

-- the first puts of the next cycle
part_left : (seed rows : ℕ) (machine : Machine) (cycle : ℕ) (ahead : List ℕ) (store : Store) → HasPart (CyclePuts (film_cycle seed rows cycle) machine) machine.store store → LeavesCycles seed rows machine (cycle ∷ ahead) store
part_left seed rows machine cycle ahead store (inl same) = inl same
part_left seed rows machine cycle ahead store (inr (puts, are, first)) = inr (puts, are, first)

-- what the cycle at a place leaves that stops
abbrev HaltsBy : ℕ → ℕ → ℕ → Option Store → Production → Option Store → OrderStop → Type 0
HaltsBy seed rows cycle held before held' why = HaltsProducer (CyclePuts (film_cycle seed rows cycle)) held (Some before) held' (Err why)

-- The next cycle stops.
pub run_halts : (seed rows cycles : ℕ) (held mid held' : Option Store) (first before : Production) (place : ℕ) (published : List ℕ) (why : OrderStop) → place < cycles
    → HasRun seed rows held first place mid before published → HaltsBy seed rows (place + 1) mid before held' why → HaltsScript seed rows cycles held first held'
run_halts seed rows cycles None mid held' first before place published why inside run halts = tt
run_halts seed rows cycles (Some store) mid held' first before place published why inside run halts =
    let (there, is, passes) = run.passes in
    let machine = machine_at there (Some before) in
    let (next, told, part) = subst (λ (h : Option Store). HaltsBy seed rows (place + 1) h before held' why) is halts nothing_kept in
    let rest = cycles - (place + 1) in
    let all : cycles ≡ place + suc rest = omega (arith, inside) in
    let one : 1 + place ≡ place + 1 = omega arith in (
      next,
      told,
      record {
        answered = range_with_len 1 place;
        ahead = range_with_len (place + 1) (suc rest);
        cycles_are = ap (range_with_len 1) all ∙ range_join 1 place (suc rest) ∙ ap (λ k. range_with_len 1 place ++ range_with_len k (suc rest)) one;
        published = published;
        next = machine;
        passes = passes;
        left = part_left seed rows machine (place + 1) (range_with_len (place + 1 + 1) rest) next part;
      },
    )

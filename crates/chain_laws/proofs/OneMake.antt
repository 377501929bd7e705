-- The command `make` has one answer, and leaves one machine.
use Rattle.std.proofs.Common.{◌≡◌, ◌⊎◌, ◌++◌, inl, inr, ℕ, List, [], ◌∷◌, length, true, false, Some, sym, ap, subst, ◌∙◌}
use Rattle.std.specs.Prelude.{IsSomeAnd}
use Rattle.std.specs.List.{range_with_len}
use Rattle.film_script.specs.Films.{film_schemas}
use Rattle.hol_io.specs.Store.{Store}
use Rattle.schema_model.specs.Model.{IsModel}
use Rattle.row_model.specs.Table.{Table}
use Rattle.write_engine.proofs.ClosedStates.{none_closed}
use Rattle.hol_answers.specs.Reply.{is_refusal}
use Rattle.hol_answers.specs.declared.refusal.Refusal.{Refusal}
use Rattle.hol_answers.specs.declared.reply.Made.{Made}
use Rattle.hol_answers.specs.declared.reply.Reply.{Reply}
use Rattle.hol_answers.specs.declared.reply.Reply.TheVariants as reply
use Rattle.state_blobs.specs.Published.{Published}
use Rattle.hollow_machine.specs.CheckOrder.{CheckReply}
use Rattle.hollow_machine.specs.CycleOrder.{CycleStep}
use Rattle.hollow_machine.specs.MakeCommand.{ChecksCycles, MakeReply, Makes, PassesCycles, RefusesOneOf, SumsUp, film_cycle, film_machine, versions_published, there_and_back}
use Rattle.hollow_machine.specs.State.{Machine}
use Rattle.chain_laws.proofs.CheckLaws.{one_check}
use Rattle.chain_laws.proofs.CycleLaws.{cycle_sound}
use Rattle.chain_laws.proofs.LastState.{none_once}
use Rattle.chain_laws.proofs.Lawful.{IsSoundMachine}
use Rattle.chain_laws.proofs.OneCycle.{WrittenOnce, one_cycle}
use Rattle.chain_laws.proofs.StoreNames.{found_with}

-- what is no refusal is not this one
no_refusal : (answer : Reply) (refusal : Refusal) → is_refusal answer ≡ false → answer ≡ reply.Refused refusal → ⊥
no_refusal answer refusal not same = let bad : true ≡ false = sym (ap is_refusal same) ∙ not in cc

-- ---- cycles one after another

module _ (written : WrittenOnce) (seed rows : ℕ) where
  step_one : (machine : Machine) → IsSoundMachine machine → (cycle : ℕ) (one other : Reply) (next after : Machine) → CycleStep machine (film_cycle seed rows cycle) one next
      → CycleStep machine (film_cycle seed rows cycle) other after → (one ≡ other) × (next ≡ after)
  step_one machine sound cycle one other next after step also = one_cycle written machine (film_cycle seed rows cycle) sound.0 one other next after step also

  passes_one : (cycles : List ℕ) (machine : Machine) → IsSoundMachine machine → (one other : List ℕ) (next after : Machine) → PassesCycles seed rows machine cycles one next
      → PassesCycles seed rows machine cycles other after → (one ≡ other) × (next ≡ after)
  passes_one [] machine sound one other next after (none, same) (none_too, same_too) = (none ∙ sym none_too, same ∙ sym same_too)
  passes_one (cycle ∷ cycles) machine sound one other next after (answer, between, others, step, passed, passes, are) (also, middle, more, step_too, passed_too, passes_too, are_too) =
      let (answers, machines) = step_one machine sound cycle answer also between middle step step_too in
      let here = subst (λ (m : Machine). PassesCycles seed rows m cycles more after) (sym machines) passes_too in
      let rest = passes_one cycles between (cycle_sound machine sound (film_cycle seed rows cycle) answer between step) others more next after passes here in
      (are ∙ (λ i. versions_published (answers i) ++ rest.0 i) ∙ sym are_too, rest.1)

  -- one of the cycles is the first that is refused, seen from the first of them on
  abbrev FirstRefused : Machine → List ℕ → Refusal → Machine → Type 0
  FirstRefused machine [] refusal next = ⊥
  FirstRefused machine (cycle ∷ cycles) refusal next =
      CycleStep machine (film_cycle seed rows cycle) (reply.Refused refusal) next
      ⊎ ((answer : Reply) × (between : Machine) × CycleStep machine (film_cycle seed rows cycle) answer between × (is_refusal answer ≡ false) × FirstRefused between cycles refusal next)

  behind : (before : List ℕ) (cycle : ℕ) (cycles published : List ℕ) (machine between next : Machine) (refusal : Refusal) → PassesCycles seed rows machine before published between
      → CycleStep between (film_cycle seed rows cycle) (reply.Refused refusal) next → FirstRefused machine (before ++ cycle ∷ cycles) refusal next
  behind [] cycle cycles published machine between next refusal (none, same) refuses =
      inl (subst (λ (m : Machine). CycleStep m (film_cycle seed rows cycle) (reply.Refused refusal) next) same refuses)
  behind (first ∷ before) cycle cycles published machine between next refusal (answer, middle, others, step, passed, passes, are) refuses =
      inr (answer, middle, step, passed, behind before cycle cycles others middle between next refusal passes refuses)

  first_refused : (cycles : List ℕ) (machine next : Machine) (refusal : Refusal) → RefusesOneOf seed rows machine cycles refusal next → FirstRefused machine cycles refusal next
  first_refused cycles machine next refusal is =
      subst (λ (cs : List ℕ). FirstRefused machine cs refusal next) (sym is.cycles_are)
      (behind is.before is.cycle is.behind is.published machine is.between next refusal is.passes is.refuses)

  refused_one : (cycles : List ℕ) (machine next after : Machine) (one other : Refusal) → IsSoundMachine machine → FirstRefused machine cycles one next → FirstRefused machine cycles other after
      → (one ≡ other) × (next ≡ after)
  refused_one [] machine next after one other sound first also = absurd first
  refused_one (cycle ∷ cycles) machine next after one other sound (inl step) (inl step_too) =
      let (answers, machines) = step_one machine sound cycle (reply.Refused one) (reply.Refused other) next after step step_too in
      let same : one ≡ other = cc in (same, machines)
  refused_one (cycle ∷ cycles) machine next after one other sound (inl step) (inr (answer, between, step_too, passed, first)) =
      absurd (no_refusal answer one passed (step_one machine sound cycle answer (reply.Refused one) between next step_too step).0)
  refused_one (cycle ∷ cycles) machine next after one other sound (inr (answer, between, step, passed, first)) (inl step_too) =
      absurd (no_refusal answer other passed (step_one machine sound cycle answer (reply.Refused other) between after step step_too).0)
  refused_one (cycle ∷ cycles) machine next after one other sound (inr (answer, between, step, passed, first)) (inr (also, middle, step_too, passed_too, first_too)) =
      let (answers, machines) = step_one machine sound cycle answer also between middle step step_too in
      refused_one cycles between next after one other (cycle_sound machine sound (film_cycle seed rows cycle) answer between step) first
      (subst (λ (m : Machine). FirstRefused m cycles other after) (sym machines) first_too)

  refused_not : (cycles published : List ℕ) (machine next after : Machine) (refusal : Refusal) → IsSoundMachine machine → FirstRefused machine cycles refusal next
      → PassesCycles seed rows machine cycles published after → ⊥
  refused_not [] published machine next after refusal sound first passes = first
  refused_not (cycle ∷ cycles) published machine next after refusal sound (inl step) (answer, between, others, step_too, passed, passes, are) =
      no_refusal answer refusal passed (step_one machine sound cycle answer (reply.Refused refusal) between next step_too step).0
  refused_not (cycle ∷ cycles) published machine next after refusal sound (inr (answer, between, step, passed, first)) (also, middle, others, step_too, passed_too, passes, are) =
      let (answers, machines) = step_one machine sound cycle answer also between middle step step_too in
      refused_not cycles others between next after refusal (cycle_sound machine sound (film_cycle seed rows cycle) answer between step) first
      (subst (λ (m : Machine). PassesCycles seed rows m cycles others after) (sym machines) passes)

-- ---- the line of the command

sums_one : (published : List ℕ) (table : Table) (one other : Made) → SumsUp published table one → SumsUp published table other → one ≡ other
sums_one published table one other is also =
    λ i. record {
      published = (is.published_are ∙ sym also.published_are) i;
      films = (is.films ∙ sym also.films) i;
      tags = (is.tags ∙ sym also.tags) i;
      texts = (is.texts ∙ sym also.texts) i;
    }

module _ (written : WrittenOnce) (seed rows : ℕ) (machine : Machine) (sound : IsSoundMachine machine) (cycles : List ℕ) where
  -- the check behind the cycles has one answer
  both_checked : (P Q : List ℕ → Reply → Type 0) (next after : Machine) → ChecksCycles seed rows machine cycles P next → ChecksCycles seed rows machine cycles Q after
      → (published : List ℕ) × (answer : Reply) × P published answer × Q published answer × (next ≡ after)
  both_checked P Q next after (published, passes, (answer, check, holds)) (others, passes_too, (also, check_too, holds_too)) =
      let (same, machines) = passes_one written seed rows cycles machine sound published others next after passes passes_too in
      let over = subst (λ (m : Machine). CheckReply m.store (there_and_back others) also) (sym machines) check_too in
      let along = subst (λ (versions : List ℕ). CheckReply next.store (there_and_back versions) also) (sym same) over in
      let answers = one_check next.store (there_and_back published) answer also check along in
      (published, answer, holds, subst (λ (a : Reply). Q published a) (sym answers) (subst (λ (versions : List ℕ). Q versions also) (sym same) holds_too), machines)

  made_one : (a b : Made) (next after : Machine) → MakeReply seed rows cycles machine (reply.Make a) next → MakeReply seed rows cycles machine (reply.Make b) after
      → (reply.Make a ≡ reply.Make b) × (next ≡ after)
  made_one a b next after one other =
      let (published, answer, p, q, machines) = both_checked _ _ next after one other in
      let here = subst (λ (m : Machine). IsSomeAnd m.producer (λ last. SumsUp published last.rows b)) (sym machines) q.1 in
      let (last, is, sums) = found_with next.producer _ p.1 in
      let (same, also, sums_too) = found_with next.producer _ here in
      let lasts : Some same ≡ Some last = sym also ∙ is in
      let is_last : same ≡ last = cc in
      (ap (λ m. reply.Make m) (sums_one published last.rows a b sums (subst (λ (l : Published). SumsUp published l.rows b) is_last sums_too)), machines)

  made_not : (a : Made) (refusal : Refusal) (next after : Machine) → MakeReply seed rows cycles machine (reply.Make a) next → MakeReply seed rows cycles machine (reply.Refused refusal) after → ⊥
  made_not a refusal next after one (inl refuses) =
      refused_not written seed rows cycles one.0 machine after next refusal sound (first_refused written seed rows cycles machine after refusal refuses) one.1
  made_not a refusal next after one (inr checks) = let (published, answer, p, q, machines) = both_checked _ _ next after one checks in no_refusal answer refusal p.0 q

  refusals_one : (r s : Refusal) (next after : Machine) → MakeReply seed rows cycles machine (reply.Refused r) next → MakeReply seed rows cycles machine (reply.Refused s) after
      → (reply.Refused r ≡ reply.Refused s) × (next ≡ after)
  refusals_one r s next after (inl one) (inl other) =
      let same = refused_one written seed rows cycles machine next after r s sound (first_refused written seed rows cycles machine next r one) (first_refused written seed rows cycles machine after s other) in
      (ap (λ x. reply.Refused x) same.0, same.1)
  refusals_one r s next after (inl one) (inr other) =
      absurd (refused_not written seed rows cycles other.0 machine next after r sound (first_refused written seed rows cycles machine next r one) other.1)
  refusals_one r s next after (inr one) (inl other) =
      absurd (refused_not written seed rows cycles one.0 machine after next s sound (first_refused written seed rows cycles machine after s other) one.1)
  refusals_one r s next after (inr one) (inr other) = let (published, answer, p, q, machines) = both_checked _ _ next after one other in (sym p ∙ q, machines)

  make_one : (one other : Reply) (next after : Machine) → MakeReply seed rows cycles machine one next → MakeReply seed rows cycles machine other after → (one ≡ other) × (next ≡ after)
  make_one (reply.Make a) (reply.Make b) next after one other = made_one a b next after one other
  make_one (reply.Make a) (reply.Refused s) next after one other = absurd (made_not a s next after one other)
  make_one (reply.Refused r) (reply.Make b) next after one other = absurd (made_not b r after next other one)
  make_one (reply.Refused r) (reply.Refused s) next after one other = refusals_one r s next after one other
  make_one (reply.Make a) _ next after one other = absurd other
  make_one (reply.Refused r) _ next after one other = absurd other
  make_one _ also next after one other = absurd one

-- the producer of the script has published nothing
script_sound : IsModel film_schemas → (store : Store) → IsSoundMachine (film_machine store)
script_sound model store = (record { model = model; rows = (none_closed film_schemas).fits; once = none_once (length film_schemas) }, tt)

pub makes_one : WrittenOnce → IsModel film_schemas → (store : Store) (next after : Machine) (seed rows cycles : ℕ) (one other : Reply) → Makes store seed rows cycles one next
    → Makes store seed rows cycles other after → (one ≡ other) × (next ≡ after)
makes_one written model store next after seed rows cycles one other is also =
    make_one written seed rows (film_machine store) (script_sound model store) (range_with_len 1 cycles) one other next after is also

-- The command `make` has an answer.
use Rattle.std.proofs.Common.{◌++◌, ℕ, List, [], ◌∷◌, length, Option, None, Some, IfSome, inl, inr, refl, ap}
use Rattle.std.specs.Prelude.{IsSomeAnd}
use Rattle.std.specs.List.{range_with_len}
use Rattle.std.proofs.lemmas.List.{length-replicate}
use Rattle.std.specs.Ordering.{nat_cmp}
use Rattle.std.specs.FinMap.{empty}
use Rattle.row_model.specs.Table.{RowMap}
use Rattle.film_script.specs.Films.{film_schemas}
use Rattle.hol_io.specs.Store.{HoldsBytes, Store}
use Rattle.state_blobs.specs.Published.{Published}
use Rattle.hol_answers.specs.declared.refusal.Refusal.{Refusal}
use Rattle.hol_answers.specs.declared.reply.Made.{Made}
use Rattle.hol_answers.specs.declared.reply.Reply.{Reply}
use Rattle.hol_answers.specs.declared.reply.Reply.TheVariants as reply
use Rattle.byte_laws.proofs.FilmBytes.{film_model, films_are}
use Rattle.byte_laws.proofs.NextRows.{none_bytes}
use Rattle.hollow_machine.specs.CheckOrder.{CheckReply}
use Rattle.hollow_machine.specs.CycleOrder.{CycleStep}
use Rattle.hollow_machine.specs.MakeCommand.{Makes, PassesCycles, RefusesOneOf, SumsUp, film_cycle, film_machine, row_count, there_and_back, versions_published}
use Rattle.hollow_machine.specs.State.{Machine, started}
use Rattle.answer_laws.specs.Answered.{HasRows, IsSound}
use Rattle.answer_laws.proofs.Checking.{check_or_not}
use Rattle.answer_laws.proofs.Cycling.{cycle_keeps, cycle_or_not}
use Rattle.answer_laws.proofs.Putting.{LeavesBytes, cycle_leaves}

-- ---- cycles

if_there : (producer : Option Published) → IsSomeAnd producer HasRows → IfSome producer HasRows
if_there None some = absurd some
if_there (Some last) some = some

module _ (seed rows : ℕ) where
  -- Where all cycles pass, a producer is behind them, and it and the store have bytes.
  abbrev Passes : List ℕ → Machine → List ℕ → Machine → Type 0
  Passes cycles machine published next = PassesCycles seed rows machine cycles published next × IsSomeAnd next.producer HasRows × LeavesBytes next

  -- What is known of the cycles behind one.
  abbrev Behind : List ℕ → Type 0
  Behind cycles = (machine : Machine) → IsSomeAnd machine.producer HasRows → LeavesBytes machine → ((published : List ℕ) (next : Machine) → Passes cycles machine published next → ⊥)
      → ((why : Refusal) (next : Machine) → RefusesOneOf seed rows machine cycles why next → ⊥) → ⊥

  module _ (machine : Machine) (typed : IsSomeAnd machine.producer HasRows) (bytes : LeavesBytes machine) (cycle : ℕ) (cycles : List ℕ) (behind : Behind cycles) (passes : (published : List ℕ) (next : Machine) → Passes (cycle ∷ cycles) machine published next → ⊥)
      (refuses : (why : Refusal) (next : Machine) → RefusesOneOf seed rows machine (cycle ∷ cycles) why next → ⊥) where
    of_answer : (answer : Reply) (between : Machine) → CycleStep machine (film_cycle seed rows cycle) answer between → ⊥
    of_answer (reply.Refused why) between step = refuses why between (record { before = []; cycle = cycle; behind = cycles; cycles_are = refl; published = []; between = machine; passes = (refl, refl); refuses = step })
    of_answer (reply.Cycle names published version) between step =
        let answer : Reply = reply.Cycle names published version in
        behind between (cycle_keeps machine typed (film_cycle seed rows cycle) names published version between step)
        (cycle_leaves machine between bytes (film_cycle seed rows cycle) (films_are seed rows cycle) names published version step)
        (λ others next all. passes (versions_published answer ++ others) next ((answer, between, others, step, refl, all.0, refl), all.1, all.2))
        (λ why next one. refuses why next (record {
          before = cycle ∷ one.before;
          cycle = one.cycle;
          behind = one.behind;
          cycles_are = ap (λ rest. cycle ∷ rest) one.cycles_are;
          published = versions_published answer ++ one.published;
          between = one.between;
          passes = (answer, between, one.published, step, refl, one.passes, refl);
          refuses = one.refuses;
        }))
    of_answer _ between step = absurd step

  -- that cycles neither pass nor one is the first that is refused cannot be
  passes_or_refuses : (cycles : List ℕ) → Behind cycles
  passes_or_refuses [] machine typed bytes passes refuses = passes [] machine ((refl, refl), typed, bytes)
  passes_or_refuses (cycle ∷ cycles) machine typed bytes passes refuses =
      cycle_or_not machine (if_there machine.producer typed) (film_cycle seed rows cycle) tt (of_answer machine typed bytes cycle cycles (passes_or_refuses cycles) passes refuses)

-- ---- the command

-- the rows that a producer has sum up
sums_up : (producer : Option Published) → IsSomeAnd producer HasRows → (published : List ℕ) → (made : Made) × IsSomeAnd producer (λ last. SumsUp published last.rows made)
sums_up None some published = absurd some
sums_up (Some last) some published = (
  record { published = length published; films = row_count last.rows 2; tags = row_count last.rows 1; texts = row_count last.rows 0 },
  record { published_are = refl; texts = refl; tags = refl; films = refl },
)

sound_store : (store : Store) → HoldsBytes store → IsSound (started store)
sound_store store bytes = record { bytes = bytes; producer = tt; spelled = tt; consumer = tt }

module _ (store : Store) (seed rows cycles : ℕ) (none : (answer : Reply) (next : Machine) → Makes store seed rows cycles answer next → ⊥) where
  -- where all pass, what they published is walked along
  of_check : (published : List ℕ) (next : Machine) → Passes seed rows (range_with_len 1 cycles) (film_machine store) published next → (answer : Reply) → CheckReply next.store (there_and_back published) answer → ⊥
  of_check published next all (reply.Check compared states) tells =
      let sums = sums_up next.producer all.1 published in
      none (reply.Make sums.0) next (published, all.0, (reply.Check compared states, tells, (refl, sums.1)))
  of_check published next all (reply.Refused why) tells = none (reply.Refused why) next (inr (published, all.0, (reply.Refused why, tells, refl)))
  of_check published next all _ tells = absurd tells

-- that the command has no answer cannot be
pub make_answered : (store : Store) (seed rows cycles : ℕ) → HoldsBytes store → ((answer : Reply) (next : Machine) → Makes store seed rows cycles answer next → ⊥) → ⊥
make_answered store seed rows cycles bytes none =
    passes_or_refuses seed rows (range_with_len 1 cycles) (film_machine store) (length-replicate {A = RowMap} (length film_schemas) (empty {R = nat_cmp}))
    (record { model = film_model; rows = none_bytes (length film_schemas) }, bytes)
    (λ published next all. check_or_not (started next.store) (sound_store next.store all.2.1) (there_and_back published) (of_check store seed rows cycles none published next all))
    (λ why next one. none (reply.Refused why) next (inl one))

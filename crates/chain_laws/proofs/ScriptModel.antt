-- The order `model` of the script of `make` leaves what `make` starts from, and each order `cycle` is answered as its cycle.
use Rattle.std.proofs.Common.{◌≡◌, ◌≤◌, ◌^◌, ◌↔◌, ℕ, ℤ, List, true, Option, Some, None, refl, sym, subst}
use Rattle.std.specs.Prelude.{IfSome, IsSomeAnd}
use Rattle.serde_json.specs.Data.{Data}
use Rattle.hol_io.specs.Store.{Store}
use Rattle.schema_model.specs.Model.{IsModel}
use Rattle.schema_model.specs.declared.schema.Schema.{Schema}
use Rattle.json_values.specs.SchemaJson.{StandsFor}
use Rattle.row_model.specs.PlainTree.{PlainTree}
use Rattle.film_script.specs.Films.{cycle_tag, film_schemas, films}
use Rattle.hol_orders.specs.Parts.{AskedState}
use Rattle.hol_answers.specs.declared.refusal.Refusal.{Refusal}
use Rattle.hol_answers.specs.declared.refusal.Refusal.TheVariants.{BadRecord, NoModel, NoType, TooLarge}
use Rattle.hol_answers.specs.declared.reply.Reply.{Reply}
use Rattle.hol_answers.specs.declared.reply.Reply.TheVariants as reply
use Rattle.state_blobs.specs.Published.{Published}
use Rattle.hollow_machine.specs.CycleOrder.{CycleRefusal, CycleStep, RefusesAfter, SucceedsAfter}
use Rattle.hollow_machine.specs.MakeCommand.{film_cycle, film_machine}
use Rattle.hollow_machine.specs.ModelOrder.{ModelStep}
use Rattle.hollow_machine.specs.Records.{Adding, AskedCycle, GivesNoTrees, GivesTrees, SpellsTrees, asked_cycle, given, spelled}
use Rattle.hollow_machine.specs.State.{Machine, started}
use Rattle.chain_laws.proofs.OneRecords.{no_trees, no_trees_apart, trees_one}
use Rattle.chain_laws.proofs.ScriptFilms.{films_read}
use Rattle.chain_laws.specs.ScriptOrders.{films_data, script_model, script_state}

-- ---- the model

stands_for : StandsFor script_model film_schemas
stands_for = (
  record { name = refl; kind = refl; parts = ((record { name = refl; kind = (_, refl, refl); target = refl }, tt), (refl, refl)) },
  (
    record { name = refl; kind = refl; parts = (refl, refl) },
    (
      record {
        name = refl;
        kind = refl;
        parts = (
          (
            record { name = refl; kind = (_, refl, refl); target = refl },
            (
              record { name = refl; kind = (_, refl, refl); target = (refl, refl) },
              (record { name = refl; kind = (_, refl, refl); target = refl }, (record { name = refl; kind = (_, refl, refl); target = (refl, refl) }, tt)),
            ),
          ),
          ((refl, tt), refl),
        );
      },
      tt,
    ),
  ),
)

pub model_starts : IsModel film_schemas → (store : Store) (value : Data) → value ≡ script_model → ModelStep (started store) value (reply.Model 3) (film_machine store)
model_starts model store value is = (film_schemas, refl, subst (λ (v : Data). StandsFor v film_schemas) (sym is) stands_for, model, refl, refl)

-- ---- a cycle

-- this version and tag are asked for, and these records
abbrev asks_with : ℕ → ℤ → Adding → AskedCycle
asks_with version tag add = record { version = version; tag = tag; add = add; snapshot = true }

-- As records are answered that give trees, so are others that give the same.
module _ (machine : Machine) (version : ℕ) (tag : ℤ) (one other : Adding)
    (gives : (last : Published) → machine.producer ≡ Some last → (trees : List (ℕ × PlainTree)) → GivesTrees last one trees → GivesTrees last other trees)
    (never : (last : Published) → machine.producer ≡ Some last → (refusal : Refusal) → GivesNoTrees last.model one refusal → ⊥) where
  refused_alike : (last : Published) → machine.producer ≡ Some last → (refusal : Refusal) → RefusesAfter machine.store last (asks_with version tag one) refusal
      → RefusesAfter machine.store last (asks_with version tag other) refusal
  refused_alike last is (NoType name) (may, none) = absurd (never last is (NoType name) none)
  refused_alike last is (BadRecord fault) (may, none) = absurd (never last is (BadRecord fault) none)
  refused_alike last is (TooLarge passed) (may, (trees, gave, passes)) = (may, (trees, gives last is trees gave, passes))
  refused_alike last is _ refuses = refuses

  -- what holds behind the producer's last state
  behind : (producer : Option Published) → machine.producer ≡ producer → (P Q : Published → Type 0) → ((last : Published) → machine.producer ≡ Some last → P last → Q last) → IsSomeAnd producer P → IsSomeAnd producer Q
  behind None is P Q along holds = holds
  behind (Some last) is P Q along holds = along last is holds

  refusal_alike : (refusal : Refusal) → CycleRefusal machine (asks_with version tag one) refusal → CycleRefusal machine (asks_with version tag other) refusal
  refusal_alike NoModel none = none
  refusal_alike refusal refuses =
      behind machine.producer refl (λ last. RefusesAfter machine.store last (asks_with version tag one) refusal) (λ last. RefusesAfter machine.store last (asks_with version tag other) refusal)
      (λ last is. refused_alike last is refusal) refuses

  answered_alike : (answer : Reply) (next : Machine) → CycleStep machine (asks_with version tag one) answer next → CycleStep machine (asks_with version tag other) answer next
  answered_alike (reply.Cycle names published asked) next (same, succeeds) = (
    same,
    behind machine.producer refl (λ last. SucceedsAfter machine last (asks_with version tag one) names published next) (λ last. SucceedsAfter machine last (asks_with version tag other) names published next)
        (λ last is succeeds. (succeeds.0, (succeeds.1.0, gives last is succeeds.1.0 succeeds.1.1, succeeds.1.2))) succeeds,
  )
  answered_alike (reply.Refused refusal) next (refuses, same) = (refusal_alike refusal refuses, same)
  answered_alike _ next never_answered = absurd never_answered

module _ (machine : Machine) (seed rows cycle : ℕ) (within : rows ≤ 2 ^ 31) (of_films : IfSome machine.producer (λ last. last.model ≡ film_schemas)) where
  abbrev json : Adding
  json = spelled (films_data seed rows cycle)

  abbrev trees : Adding
  trees = given (films seed rows cycle)

  has_films : (last : Published) → machine.producer ≡ Some last → last.model ≡ film_schemas
  has_films last is = subst (λ (o : Option Published). IfSome o (λ l. l.model ≡ film_schemas)) is of_films

  spells : (last : Published) → machine.producer ≡ Some last → GivesTrees last json (films seed rows cycle)
  spells last is = subst (λ (schemas : List Schema). SpellsTrees schemas (films_data seed rows cycle) (films seed rows cycle)) (sym (has_films last is)) (films_read seed cycle rows within)

  pub cycle_is : (asked : AskedState) → asked ≡ script_state seed rows cycle → (answer : Reply) (next : Machine) → CycleStep machine (asked_cycle asked) answer next ↔ CycleStep machine (film_cycle seed rows cycle) answer next
  cycle_is asked is answer next = (
    λ step. answered_alike machine cycle (cycle_tag seed cycle) json trees (λ last last_is others gives. trees_one last.model (films_data seed rows cycle) others (films seed rows cycle) gives.read (spells last last_is).read)
        (λ last last_is refusal none. no_trees_apart last json refusal (films seed rows cycle) (spells last last_is) (no_trees last.model json refusal none)) answer next
        (subst (λ (a : AskedState). CycleStep machine (asked_cycle a) answer next) is step),
    λ step. subst (λ (a : AskedState). CycleStep machine (asked_cycle a) answer next) (sym is)
        (answered_alike machine cycle (cycle_tag seed cycle) trees json (λ last last_is others gives. subst (GivesTrees last json) (sym gives) (spells last last_is))
        (λ last last_is refusal none. no_trees last.model trees refusal none) answer next step),
  )

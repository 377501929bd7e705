-- The end of the script: from what its parts tell to what the command answers.
use Rattle.std.proofs.Common.{◌≡◌, inl, inr, ℕ, ℤ, pos, List, [], ◌∷◌, Bool, true, false, Option, Some, None, Result, Ok, Err, length, ◌⊎◌, refl, sym, ap, ◌∙◌, subst}
use Rattle.std.specs.Prelude.{IfSome, IsErrAnd, OnErr}
use Rattle.std.specs.List.{range_with_len}
use Rattle.std.proofs.lemmas.List.{append-nil}
use Rattle.film_script.specs.Films.{film_schemas}
use Rattle.hol_io.specs.Store.{Store}
use Rattle.row_model.specs.Table.{Table}
use Rattle.schema_model.specs.Faults.{IsFreeModel}
use Rattle.schema_model.specs.Model.{IsModel}
use Rattle.schema_model.specs.declared.model.faults.ModelFault.{ModelFault}
use Rattle.schema_model.specs.declared.model.faults.ModelFault.TheVariants.{Broken}
use Rattle.schema_model.specs.declared.model.rule.Rule.{Rule}
use Rattle.schema_model.specs.declared.schema.Schema.{Schema}
use Rattle.schema_model.specs.declared.schema.name.Name.{Name}
use Rattle.write_engine.specs.Cycle.{no_rows}
use Rattle.write_engine.specs.Production.{IsStart, Production}
use Rattle.state_blobs.specs.Published.{Published, new_producer, published_of}
use Rattle.hol_orders.specs.declared.order_stop.OrderStop.{OrderStop}
use Rattle.hol_answers.specs.Reply.{is_refusal}
use Rattle.hol_answers.specs.declared.refusal.Refusal.{Refusal}
use Rattle.hol_answers.specs.declared.reply.Made.{Made}
use Rattle.hol_answers.specs.declared.reply.Reply.{Reply}
use Rattle.hol_answers.specs.declared.reply.Reply.TheVariants.{Cycle, Make, Refused}
use Rattle.hollow_machine.specs.CheckOrder.{CheckReply}
use Rattle.hollow_machine.specs.Kept.{IsResting}
use Rattle.hollow_machine.specs.Made.{LeavesCycles, StopsCycles}
use Rattle.hollow_machine.specs.MakeCommand.{MakeReply, SumsUp, film_machine, there_and_back}
use Rattle.hollow_machine.specs.State.{Machine, started, with_producer}
use Rattle.hollow_make.specs.Parts.{HaltsMake, HaltsScript, IsEnd, TellsCycles, TellsEnd, TellsMake, TellsScript, machine_at, publishes}

-- The script's schemas break no rule.
pub not_broken : (schemas : List Schema) (result : Result (List Schema) ModelFault) (rule : Rule) (type_index : ℕ) → result ≡ Err (Broken rule type_index) → schemas ≡ film_schemas
    → (IsModel schemas → (result ≡ Ok schemas) ⊎ IsErrAnd result IsFreeModel) → IsModel film_schemas → ⊥
not_broken schemas result rule type_index is are made model =
    elim (made (subst IsModel (sym are) model)) [
      | inl ok ↦ cc
      | inr free ↦ subst (λ (r : Result (List Schema) ModelFault). IsErrAnd r IsFreeModel) is free
    ]

-- A producer at its start is resting.
pub resting_start : (schemas : List Schema) (producer : Production) → IsStart schemas producer → IsResting producer
resting_start schemas producer start = record {
  is_open = start.is_open;
  is_empty = start.current_is ∙ ap (λ (ss : List Schema). no_rows (length ss)) (sym start.schemas_are);
}

-- It has published nothing.
start_is : (producer : Production) → IsStart film_schemas producer → published_of producer ≡ new_producer film_schemas
start_is producer start =
    ap (λ (ss : List Schema). record { model = ss; rows = producer.previous; tag = producer.tag; version = producer.version }) start.schemas_are
    ∙ ap (λ (rows : Table). record { model = film_schemas; rows = rows; tag = producer.tag; version = producer.version }) start.previous_is
    ∙ ap (λ (tag : ℤ). record { model = film_schemas; rows = no_rows (length film_schemas); tag = tag; version = producer.version }) start.tag_is
    ∙ ap (λ (version : ℕ). record { model = film_schemas; rows = no_rows (length film_schemas); tag = pos 0; version = version }) start.version_is

-- What the script answers with a new producer is what the command answers.
pub makes : (seed rows cycles : ℕ) (held held' : Option Store) (first now : Production) (answer : Reply) → IsStart film_schemas first → TellsScript {E = OrderStop} seed rows cycles held first held' now (Ok answer)
    → TellsMake {E = OrderStop} seed rows cycles held held' (Some now) (Ok answer)
makes seed rows cycles None held' first now answer start tells = tt
makes seed rows cycles (Some store) held' first now answer start (next, told, is) =
    (next, told, subst (λ (p : Published). MakeReply seed rows (range_with_len 1 cycles) (with_producer (started store) (Some p)) answer (machine_at next (Some now))) (start_is first start) is)

-- The first refusal of the cycles is the answer.
pub script_refused : (seed rows cycles : ℕ) (held held' : Option Store) (first now : Production) (published : List ℕ) (refused : Option Reply) (answer : Reply) → refused ≡ Some answer
    → TellsCycles {E = OrderStop} seed rows cycles held first held' now published (Ok refused) → TellsScript {E = OrderStop} seed rows cycles held first held' now (Ok answer)
script_refused seed rows cycles None held' first now published refused answer same tells = tt
script_refused seed rows cycles (Some store) held' first now published refused answer same tells =
    let (next, told, (why, is, refuses)) = subst (λ (r : Option Reply). TellsCycles {E = OrderStop} seed rows cycles (Some store) first held' now published (Ok r)) same tells in
    (next, told, subst (λ (r : Reply). MakeReply seed rows (range_with_len 1 cycles) (machine_at store (Some first)) r (machine_at next (Some now))) (sym is) (inl refuses))

-- What the check answers behind cycles that pass.
pub script_ends : (seed rows cycles : ℕ) (held mid held' : Option Store) (first now : Production) (published : List ℕ) (answer : Reply) → TellsCycles {E = OrderStop} seed rows cycles held first mid now published (Ok None)
    → TellsEnd {E = OrderStop} published now.previous mid (Ok answer) → held' ≡ mid → TellsScript {E = OrderStop} seed rows cycles held first held' now (Ok answer)
script_ends seed rows cycles None mid held' first now published answer tells ends same = tt
script_ends seed rows cycles (Some store) mid held' first now published answer (next, told, passes) ends same =
    (next, same ∙ told, answers answer (subst (λ (h : Option Store). TellsEnd {E = OrderStop} published now.previous h (Ok answer)) told ends))
  where
    answers : (answer : Reply) → IsEnd published now.previous next answer → MakeReply seed rows (range_with_len 1 cycles) (machine_at store (Some first)) answer (machine_at next (Some now))
    answers (Make made) ended = (published, passes, (ended.0, ended.1, (ended.2, ended.3)))
    answers (Refused why) ended = inr (published, passes, (Refused why, ended.0, refl))
    answers _ ended = absurd (let bad : false ≡ true = ended.1 in cc)

-- How the script ends behind cycles of which none is refused.
pub script_result : (seed rows cycles : ℕ) (held mid held' : Option Store) (first now : Production) (published : List ℕ) (refused : Option Reply) (result : Result Reply OrderStop) → refused ≡ None
    → TellsCycles {E = OrderStop} seed rows cycles held first mid now published (Ok refused) → TellsEnd published now.previous mid result → held' ≡ mid → TellsScript seed rows cycles held first held' now result
script_result seed rows cycles held mid held' first now published refused (Ok answer) none tells ends same =
    script_ends seed rows cycles held mid held' first now published answer (subst (λ (r : Option Reply). TellsCycles {E = OrderStop} seed rows cycles held first mid now published (Ok r)) none tells) ends same
script_result seed rows cycles None mid held' first now published refused (Err stop) none tells ends same = tt
script_result seed rows cycles (Some store) mid held' first now published refused (Err stop) none tells ends same = tt

-- An answer that is no refusal is not refused.
pub not_refused : (answer : Reply) → ((why : Refusal) → answer ≡ Refused why → ⊥) → is_refusal answer ≡ false
not_refused (Refused why) not = absurd (not why refl)
not_refused _ not = refl

-- And one of no cycle publishes nothing.
pub none_published : (answer : Reply) → ((changed : List Name) (published : Bool) (version : ℕ) → answer ≡ Cycle changed published version → ⊥) → false ≡ publishes answer
none_published (Cycle changed published version) not = absurd (not changed published version refl)
none_published _ not = refl

-- A check that is refused is the end of the script.
pub ends_refused : (held : Option Store) (published : List ℕ) (rows : Table) (answer : Reply) (why : Refusal) → IfSome held (λ store. CheckReply store (there_and_back published) answer) → answer ≡ Refused why
    → TellsEnd {E = OrderStop} published rows held (Ok (Refused why))
ends_refused None published rows answer why check is = tt
ends_refused (Some store) published rows answer why check is = (subst (λ (r : Reply). CheckReply store (there_and_back published) r) is check, refl)

-- And behind one that is not comes the summary.
pub ends_made : (held : Option Store) (published : List ℕ) (rows : Table) (answer : Reply) (made : Made) → IfSome held (λ store. CheckReply store (there_and_back published) answer) → is_refusal answer ≡ false
    → SumsUp published rows made → TellsEnd {E = OrderStop} published rows held (Ok (Make made))
ends_made None published rows answer made check not sums = tt
ends_made (Some store) published rows answer made check not sums = (answer, check, not, sums)

-- Memory is refused before the summary: there is no answer to tell of.
pub ends_stopped : (held : Option Store) (published : List ℕ) (rows : Table) (result : Result Reply OrderStop) (Why : OrderStop → Type 0) → IsErrAnd result Why → TellsEnd published rows held result
ends_stopped None published rows result Why stopped = tt
ends_stopped (Some store) published rows (Ok reply) Why stopped = absurd stopped
ends_stopped (Some store) published rows (Err stop) Why stopped = tt

-- ---- where it stops

-- Behind the cycles, of which none was refused, the store stays.
pub script_halts : (seed rows cycles : ℕ) (held mid held' : Option Store) (first now : Production) (published : List ℕ) (refused : Option Reply) → refused ≡ None
    → TellsCycles {E = OrderStop} seed rows cycles held first mid now published (Ok refused) → held' ≡ mid → HaltsScript seed rows cycles held first held'
script_halts seed rows cycles None mid held' first now published refused none tells same = tt
script_halts seed rows cycles (Some store) mid held' first now published refused none tells same =
    let (next, told, passes) = subst (λ (r : Option Reply). TellsCycles {E = OrderStop} seed rows cycles (Some store) first mid now published (Ok r)) none tells in (
      next,
      same ∙ told,
      record {
        answered = range_with_len 1 cycles;
        ahead = [];
        cycles_are = sym (append-nil (range_with_len 1 cycles));
        published = published;
        next = machine_at next (Some now);
        passes = passes;
        left = refl;
      },
    )

pub behind_cycles : (seed rows cycles : ℕ) (held mid held' : Option Store) (first now : Production) (published : List ℕ) (refused : Option Reply) (result : Result Reply OrderStop) → refused ≡ None
    → TellsCycles {E = OrderStop} seed rows cycles held first mid now published (Ok refused) → held' ≡ mid → OnErr result (HaltsScript seed rows cycles held first held')
behind_cycles seed rows cycles held mid held' first now published refused (Ok answer) none tells same = tt
behind_cycles seed rows cycles held mid held' first now published refused (Err why) none tells same = script_halts seed rows cycles held mid held' first now published refused none tells same

-- What the script leaves that stops with a new producer is what the command leaves.
pub make_halts : (seed rows cycles : ℕ) (held held' : Option Store) (first : Production) → IsStart film_schemas first → HaltsScript seed rows cycles held first held' → HaltsMake seed rows cycles held held'
make_halts seed rows cycles None held' first start halts = tt
make_halts seed rows cycles (Some store) held' first start (next, told, stops) =
    (next, told, subst (λ (p : Published). StopsCycles seed rows (with_producer (started store) (Some p)) (range_with_len 1 cycles) next) (start_is first start) stops)

same_left : (seed rows : ℕ) (machine : Machine) (ahead : List ℕ) → LeavesCycles seed rows machine ahead machine.store
same_left seed rows machine [] = refl
same_left seed rows machine (cycle ∷ cycles) = inl refl

-- The command stops before its first cycle.
pub none_made : (seed rows cycles : ℕ) (held : Option Store) → HaltsMake seed rows cycles held held
none_made seed rows cycles None = tt
none_made seed rows cycles (Some store) = (
  store,
  refl,
  record {
    answered = [];
    ahead = range_with_len 1 cycles;
    cycles_are = refl;
    published = [];
    next = film_machine store;
    passes = (refl, refl);
    left = same_left seed rows (film_machine store) (range_with_len 1 cycles);
  },
)

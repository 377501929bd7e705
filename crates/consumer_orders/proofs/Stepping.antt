-- The order `step`: what it answers, by what the consumer tells.
use Rattle.std.proofs.Common.{◌≡◌, ◌⊎◌, ℕ, ℤ, Bool, true, false, ◌∷◌, take, Option, Some, None, Result, Ok, Err, IfSome, cond, inl, inr, refl, sym, ap, ◌∙◌, subst}
use Rattle.std.specs.Prelude.{IsSome, nat_lt}
use Rattle.std.specs.Option.{is_some, option_map}
use Rattle.hol_io.specs.declared.name.BlobName.{BlobName}
use Rattle.hol_io.specs.declared.name.BlobName.TheVariants.{Delta, Reverse}
use Rattle.hol_io.specs.Name.{step_name}
use Rattle.hol_io.specs.Store.{Store, told}
use Rattle.hol_history.specs.History.{PastSteps, tables_of}
use Rattle.blob_frame.specs.declared.fault.BlobFault.{BlobFault}
use Rattle.read_engine.specs.Position.{Position, rows_now}
use Rattle.read_engine.specs.Taking.{TellsStep}
use Rattle.hol_answers.specs.declared.refusal.Refusal.{Refusal}
use Rattle.hol_answers.specs.declared.refusal.Refusal.TheVariants as refusal
use Rattle.hol_answers.specs.declared.reply.Reply.{Reply}
use Rattle.hol_answers.specs.declared.reply.Reply.TheVariants.{Step, Refused}
use Rattle.hollow_machine.proofs.Refusals.{delta_refused}
use Rattle.hollow_machine.specs.Blobs.{TellsOf}
use Rattle.hollow_machine.specs.Kept.{MovesReader, Reader, kept_with_reader, machine_of, reader_of}
use Rattle.hollow_machine.specs.PlanOrders.{Applies}
use Rattle.hollow_machine.specs.State.{Machine}
use Rattle.hollow_machine.specs.StepOrder.{StepStep}
use Rattle.consumer_orders.proofs.Loading.{same_tag}
use Rattle.consumer_orders.proofs.Reading.{machine_stepped}

-- A consumer that moved moves the machine.
pub moved : (E : Type 0) (held : Option Store) (name : BlobName) (version : ℕ) (before after : Option ℕ) (history history' : PastSteps) (old new : Option Position) (tag told_tag : ℤ) → IsSome old → IsSome before →
    after ≡ Some version → told_tag ≡ tag → Some tag ≡ option_map (λ p. p.tag) new → history'.bound ≡ history.bound →
    IfSome new (λ now. IfSome before (λ from. tables_of (rows_now now) history'.steps ≡ take history.bound ((from, now.before) ∷ tables_of now.before history.steps))) →
    IfSome held (λ store. IfSome old (λ from. TellsStep name (told held name) from new (Ok tt))) →
    MovesReader {E = E} (λ machine reply next. StepStep machine name version reply next) held (reader_of old before history) (reader_of new after history') (Ok (Step told_tag))
moved E None name version before after history history' old new tag told_tag some had leads same is bound front tells = λ kept. tt
moved E (Some store) name version before after history history' None new tag told_tag some had leads same is bound front tells = absurd cc
moved E (Some store) name version None after history history' (Some from) new tag told_tag some had leads same is bound front tells = absurd cc
moved E (Some store) name version (Some before) after history history' (Some from) new tag told_tag some had leads same is bound front (blob, to, there, stands, steps) = λ kept.
    let tables = subst (λ (o : Option Position). IfSome o (λ now. tables_of (rows_now now) history'.steps ≡ take history.bound ((before, now.before) ∷ tables_of now.before history.steps))) stands front in (
      store,
      refl,
      (
        blob,
        to,
        there,
        steps,
        same ∙ same_tag tag new to is stands,
        (λ i. machine_of store (kept_with_reader kept (reader_of (stands i) (leads i) history')))
            ∙ machine_stepped store kept from to before version history history' bound steps.before tables,
      ),
    )

-- A delta that is refused leaves the machine as it was.
pub not_moved : (E : Type 0) (held : Option Store) (name : BlobName) (version : ℕ) (before : Option ℕ) (history : PastSteps) (old new : Option Position) (found : BlobFault) (why : Refusal) → IsSome old → new ≡ old →
    TellsOf name found why → IfSome held (λ store. IfSome old (λ from. TellsStep name (told held name) from new (Err found))) →
    MovesReader {E = E} (λ machine reply next. StepStep machine name version reply next) held (reader_of old before history) (reader_of new before history) (Ok (Refused why))
not_moved E None name version before history old new found why some same is tells = λ kept. tt
not_moved E (Some store) name version before history None new found why some same is tells = absurd cc
not_moved E (Some store) name version before history (Some from) new found why some same is tells = λ kept.
    (store, refl, (delta_refused name (told (Some store) name) from found why is tells, ap (λ at. machine_of store (kept_with_reader kept (reader_of at before history))) same))

-- A consumer without a state is refused.
pub no_state : (E : Type 0) (held : Option Store) (name : BlobName) (version : ℕ) (before : Option ℕ) (history : PastSteps) (consumer : Option Position) → consumer ≡ None →
    MovesReader {E = E} (λ machine reply next. StepStep machine name version reply next) held (reader_of consumer before history) (reader_of consumer before history) (Ok (Refused refusal.NoState))
no_state E None name version before history consumer none = λ kept. tt
no_state E (Some store) name version before history None none = λ kept. (store, refl, (refl, refl))
no_state E (Some store) name version before history (Some position) none = absurd cc

-- A consumer that tells no tag has no state.
pub without_tag : (tag : Option ℤ) (consumer : Option Position) → tag ≡ option_map (λ position. position.tag) consumer → is_some tag ≡ false → consumer ≡ None
without_tag tag None is none = refl
without_tag (Some tag) (Some position) is none = absurd cc
without_tag None (Some position) is none = absurd cc

-- What moves a reader by one relation moves it by another that follows.
moves_as : (E : Type 0) (One Other : Machine → Reply → Machine → Type 0) (held : Option Store) (reader reader' : Reader) (result : Result Reply E) →
    ((machine next : Machine) (reply : Reply) → One machine reply next → Other machine reply next) → MovesReader {E = E} One held reader reader' result → MovesReader {E = E} Other held reader reader' result
moves_as E One Other None reader reader' result so moves = λ kept. tt
moves_as E One Other (Some store) reader reader' (Err stop) so moves = λ kept. tt
moves_as E One Other (Some store) reader reader' (Ok reply) so moves = λ kept.
    let (after, is, one) = moves kept in
    (after, is, so (machine_of store (kept_with_reader kept reader)) (machine_of after (kept_with_reader kept reader')) reply one)

-- A step along a delta or a reverse delta applies it.
pub along_applies : (E : Type 0) (name : BlobName) (to : ℕ) (held : Option Store) (reader reader' : Reader) (result : Result Reply E) → ((from : ℕ) × (name ≡ Delta from to)) ⊎ ((from : ℕ) × (name ≡ Reverse from to)) →
    MovesReader {E = E} (λ machine reply next. StepStep machine name to reply next) held reader reader' result → MovesReader {E = E} (λ machine reply next. Applies machine name reply next) held reader reader' result
along_applies E name to held reader reader' result (inl (from, is)) moves =
    moves_as E (λ machine reply next. StepStep machine name to reply next) (λ machine reply next. Applies machine name reply next) held reader reader' result
    (λ machine next reply step. subst (λ (n : BlobName). Applies machine n reply next) (sym is) (subst (λ (n : BlobName). StepStep machine n to reply next) is step)) moves
along_applies E name to held reader reader' result (inr (from, is)) moves =
    moves_as E (λ machine reply next. StepStep machine name to reply next) (λ machine reply next. Applies machine name reply next) held reader reader' result
    (λ machine next reply step. subst (λ (n : BlobName). Applies machine n reply next) (sym is) (subst (λ (n : BlobName). StepStep machine n to reply next) is step)) moves

applies_either : (rises : Bool) (from to : ℕ) (machine next : Machine) (reply : Reply) → Applies machine (cond rises (Delta from to) (Reverse from to)) reply next →
    StepStep machine (cond rises (Delta from to) (Reverse from to)) to reply next
applies_either true from to machine next reply is = is
applies_either false from to machine next reply is = is

-- What applies the blob between two versions is the step from the one to the other.
pub steps_between : (E : Type 0) (from to : ℕ) (name : BlobName) (held : Option Store) (reader reader' : Reader) (result : Result Reply E) → name ≡ step_name from to →
    MovesReader {E = E} (λ machine reply next. Applies machine name reply next) held reader reader' result →
    MovesReader {E = E} (λ machine reply next. StepStep machine (step_name from to) to reply next) held reader reader' result
steps_between E from to name held reader reader' result is moves =
    moves_as E (λ machine reply next. Applies machine (step_name from to) reply next) (λ machine reply next. StepStep machine (step_name from to) to reply next) held reader reader' result
    (λ machine next reply. applies_either (nat_lt from to) from to machine next reply)
    (subst (λ (n : BlobName). MovesReader {E = E} (λ machine reply next. Applies machine n reply next) held reader reader' result) is moves)

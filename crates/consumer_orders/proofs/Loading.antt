-- The order `load`: what it answers, by what the consumer tells.
use Rattle.std.proofs.Common.{◌≡◌, ℕ, ℤ, Option, Some, None, Ok, Err, IfSome, refl, ap, ◌∙◌, subst}
use Rattle.std.specs.Option.{option_map}
use Rattle.hol_io.specs.declared.name.BlobName.TheVariants.{Snapshot}
use Rattle.hol_io.specs.Store.{Store, told}
use Rattle.hol_history.specs.History.{PastSteps}
use Rattle.blob_frame.specs.declared.fault.BlobFault.{BlobFault}
use Rattle.read_engine.specs.Position.{Position}
use Rattle.read_engine.specs.Taking.{TellsLoad}
use Rattle.hol_answers.specs.declared.refusal.Refusal.{Refusal}
use Rattle.hol_answers.specs.declared.reply.Reply.TheVariants.{Load, Refused}
use Rattle.hollow_machine.proofs.Refusals.{snapshot_refused}
use Rattle.hollow_machine.specs.Blobs.{TellsOf}
use Rattle.hollow_machine.specs.Kept.{MovesReader, kept_with_reader, machine_of, reader_of}
use Rattle.hollow_machine.specs.LoadOrder.{LoadStep}
use Rattle.consumer_orders.proofs.Reading.{cleared, machine_loaded}

-- The tag that is told is that of where the consumer stands.
pub same_tag : (tag : ℤ) (now : Option Position) (position : Position) → Some tag ≡ option_map (λ p. p.tag) now → now ≡ Some position → tag ≡ position.tag
same_tag tag now position is stands =
    let there : Some tag ≡ Some position.tag = subst (λ (o : Option Position). Some tag ≡ option_map (λ p. p.tag) o) stands is in
    cc

-- A loaded consumer moves the machine.
pub loaded : (E : Type 0) (held : Option Store) (version : ℕ) (before : Option ℕ) (history history' : PastSteps) (old new : Option Position) (tag told_tag : ℤ) → told_tag ≡ tag → Some tag ≡ option_map (λ p. p.tag) new →
    history' ≡ cleared history → IfSome held (λ store. TellsLoad (Snapshot version) (told held (Snapshot version)) new (Ok tt)) →
    MovesReader {E = E} (λ machine reply next. LoadStep machine version reply next) held (reader_of old before history) (reader_of new (Some version) history') (Ok (Load told_tag))
loaded E None version before history history' old new tag told_tag same is clears tells = λ kept. tt
loaded E (Some store) version before history history' old new tag told_tag same is clears (blob, position, there, stands, loads) = λ kept. (
  store,
  refl,
  (
    blob,
    position,
    there,
    loads,
    same ∙ same_tag tag new position is stands,
    (λ i. machine_of store (kept_with_reader kept (reader_of (stands i) (Some version) (clears i)))) ∙ machine_loaded store kept old before position version history,
  ),
)

-- A snapshot that is refused leaves the machine as it was.
pub not_loaded : (E : Type 0) (held : Option Store) (version : ℕ) (before : Option ℕ) (history : PastSteps) (old new : Option Position) (found : BlobFault) (why : Refusal) → new ≡ old → TellsOf (Snapshot version) found why →
    IfSome held (λ store. TellsLoad (Snapshot version) (told held (Snapshot version)) new (Err found)) →
    MovesReader {E = E} (λ machine reply next. LoadStep machine version reply next) held (reader_of old before history) (reader_of new before history) (Ok (Refused why))
not_loaded E None version before history old new found why same is tells = λ kept. tt
not_loaded E (Some store) version before history old new found why same is tells = λ kept.
    (store, refl, (snapshot_refused (Snapshot version) (told (Some store) (Snapshot version)) found why is tells, ap (λ at. machine_of store (kept_with_reader kept (reader_of at before history))) same))

-- The order `restore`: what it answers, by what the store announces, what is read of the snapshot, and what the restoring of its rows tells.
use Rattle.std.proofs.Common.{◌≡◌, inl, inr, ℕ, List, Option, Some, None, Result, Ok, Err, refl, sym, ap, subst}
use Rattle.std.specs.Prelude.{IfOk, IfSome, MatchOption}
use Rattle.hol_io.specs.declared.name.BlobName.{BlobName}
use Rattle.hol_io.specs.declared.name.BlobName.TheVariants.{Snapshot}
use Rattle.hol_io.specs.Store.{Store, told}
use Rattle.blob_frame.specs.declared.fault.BlobFault.{BlobFault}
use Rattle.blob_frame.specs.declared.fault.BlobFault.TheVariants as fault
use Rattle.snapshot_blob.specs.declared.loaded.Loaded.{Loaded}
use Rattle.snapshot_blob.specs.Snapshot.{TellsSnapshot}
use Rattle.write_engine.specs.Production.{Production}
use Rattle.hol_answers.specs.declared.refusal.EqualRows.{EqualRows}
use Rattle.hol_answers.specs.declared.refusal.Refusal.{Refusal}
use Rattle.hol_answers.specs.declared.refusal.Refusal.TheVariants.{DuplicateRow}
use Rattle.hol_answers.specs.declared.reply.Reply.{Reply}
use Rattle.hol_answers.specs.declared.reply.Reply.TheVariants.{Refused, Restore}
use Rattle.hollow_machine.proofs.Refusals.{of_snapshot, snapshot_refused}
use Rattle.hollow_machine.specs.Blobs.{TellsOf}
use Rattle.hollow_machine.specs.Kept.{Kept, MovesProducer, kept_with_producer, machine_of}
use Rattle.hollow_machine.specs.RestoreOrder.{IsLast, IsNotLast, IsStored, RestoreRefusal, RestoreStep}
use Rattle.chain_orders.specs.Restored.{RestoresFrom, TellsStored, position_of}

-- ---- the announced version

-- What is answered where the announced version is not this one, and where it is.
abbrev pub TellsLast : Option Store → ℕ → Option Refusal → Type 0
TellsLast held version answer = IfSome held (λ store. MatchOption answer (IsLast store version) (IsNotLast store version))

-- ---- the snapshot

-- a snapshot that is refused
pub not_stored : (held : Option Store) (version : ℕ) (found : BlobFault) (why : Refusal) → TellsOf (Snapshot version) found why
    → IfSome held (λ store. TellsSnapshot (Snapshot version) (told held (Snapshot version)) (Err found)) → IfSome held (λ store. TellsStored store version (Err why))
not_stored None version found why is tells = tt
not_stored (Some store) version found why is tells =
    let content : Option (List ℕ) = told (Some store) (Snapshot version) in
    snapshot_refused (Snapshot version) content found why is (of_snapshot (Snapshot version) content found tells)

-- what is told of the snapshot, of the store as it was before
pub told_before : (held mid : Option Store) (version : ℕ) (answer found : Result Loaded Refusal) → mid ≡ held → answer ≡ found → IfSome mid (λ store. TellsStored store version answer)
    → IfSome held (λ store. TellsStored store version found)
told_before held mid version answer found same is tells =
    subst (λ (h : Option Store). IfSome h (λ store. TellsStored store version found)) same
    (subst (λ (a : Result Loaded Refusal). IfSome mid (λ store. TellsStored store version a)) is tells)

-- ---- the answers

-- a version that is not the announced one is refused
of_not_last : (store : Store) (version : ℕ) (why : Refusal) → IsNotLast store version why → RestoreRefusal store version why
of_not_last store version (DuplicateRow rows) is = absurd is
of_not_last store version _ is = inl is

-- no fault of a blob is that two rows are equal
no_duplicate : (name : BlobName) (found : BlobFault) (rows : EqualRows) → TellsOf name found (DuplicateRow rows) → ⊥
no_duplicate name (fault.NoBlob other) rows is = cc
no_duplicate name (fault.Large limit) rows is = cc
no_duplicate name (fault.Bad at reason) rows is = cc
no_duplicate name (fault.BadRow at reason of ordinal) rows is = cc
no_duplicate name (fault.OtherOrigin origin current) rows is = cc
no_duplicate name (fault.OtherModel of) rows is = cc
no_duplicate name fault.Store rows is = cc
no_duplicate name fault.Memory rows is = cc

-- a snapshot that cannot be loaded is refused
of_not_stored : (store : Store) (version : ℕ) (why : Refusal) → IsLast store version → TellsStored store version (Err why) → RestoreRefusal store version why
of_not_stored store version (DuplicateRow rows) last (found, fails, is) = absurd (no_duplicate (Snapshot version) found rows is)
of_not_stored store version _ last is = inr (last, is)

module _ (E : Type 0) (version : ℕ) where
  abbrev MovesBy : Option Store → Option Production → Option Store → Option Production → Result Reply E → Type 0
  MovesBy held before held' after result = MovesProducer {E = E} (λ machine reply next. RestoreStep machine version reply next) held before held' after result

  pub not_last : (held now : Option Store) (producer : Option Production) (why : Refusal) → now ≡ held → TellsLast held version (Some why) → MovesBy held producer now producer (Ok (Refused why))
  not_last None now producer why same tells = λ kept. tt
  not_last (Some store) now producer why same tells = λ kept. (store, same, (of_not_last store version why tells, refl))

  pub not_loaded : (held now : Option Store) (producer : Option Production) (why : Refusal) → now ≡ held → TellsLast held version None → IfSome held (λ store. TellsStored store version (Err why))
      → MovesBy held producer now producer (Ok (Refused why))
  not_loaded None now producer why same last tells = λ kept. tt
  not_loaded (Some store) now producer why same last tells = λ kept. (store, same, (of_not_stored store version why last tells, refl))

  restores : (store : Store) (kept : Kept) (loaded : Loaded) (before after : Option Production) (reply : Reply) → IsLast store version → IsStored store version (position_of loaded)
      → RestoresFrom (position_of loaded) version before after reply
      → RestoreStep (machine_of store (kept_with_producer kept before)) version reply (machine_of store (kept_with_producer kept after))
  restores store kept loaded before after (Restore tag restored) last is (version_is, tag_is, once, now_is) =
      (version_is, last, (position_of loaded, is, once, tag_is, ap (λ p. machine_of store (kept_with_producer kept p)) now_is))
  restores store kept loaded before after (Refused (DuplicateRow rows)) last is (names, same) =
      ((last, (position_of loaded, is, names)), ap (λ p. machine_of store (kept_with_producer kept p)) same)
  restores store kept loaded before after _ last is tells = absurd tells

  pub moved : (held now : Option Store) (loaded : Loaded) (before after : Option Production) (result : Result Reply E) → now ≡ held → TellsLast held version None
      → IfSome held (λ store. TellsStored store version (Ok loaded)) → IfOk result (RestoresFrom (position_of loaded) version before after) → MovesBy held before now after result
  moved None now loaded before after result same last tells answers = λ kept. tt
  moved (Some store) now loaded before after (Err stop) same last tells answers = λ kept. tt
  moved (Some store) now loaded before after (Ok reply) same last tells answers = λ kept. (store, same, restores store kept loaded before after reply last tells answers)

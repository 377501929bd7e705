-- What the items of a blob and the trials of its types say of the trials of its body and of the whole.
use Rattle.std.proofs.Common.{◌≡◌, ◌≤◌, ◌<◌, ℕ, List, length, refl, inl, inr}
use Rattle.schema_model.specs.declared.limit.Limit.TheVariants.{Blob}
use Rattle.schema_model.specs.declared.reason.Reason.{Reason}
use Rattle.schema_model.specs.declared.schema.Schema.{Schema}
use Rattle.schema_model.specs.Limit.{number_of_limit}
use Rattle.type_state.specs.State.{Half}
use Rattle.type_state.specs.Views.{table_of}
use Rattle.blob_frame.specs.declared.fault.BlobFault.{BlobFault}
use Rattle.blob_frame.specs.declared.fault.BlobFault.TheVariants as fault
use Rattle.blob_frame.specs.declared.header.Header.{Header}
use Rattle.blob_frame.specs.Header.{HeaderIs, StuckInHeader}
use Rattle.blob_faults.specs.Judge.{◌>>=◌, nothing, test}
use Rattle.blob_faults.specs.Reading.{short, standing}
use Rattle.snapshot_blob.specs.declared.part.TypePart.{TypePart}
use Rattle.snapshot_blob.specs.Body.{IsBody}
use Rattle.snapshot_blob.specs.Judged.{body_of, snapshot_of, types_of}
use Rattle.snapshot_blob.specs.Parts.{body}
use Rattle.snapshot_blob.specs.Snapshot.{IsAccepted}
use Rattle.snapshot_blob.proofs.Items.{joined, stuck_body, stuck_head}
use Rattle.snapshot_blob.proofs.Trials.{accepted_pass}

-- a body that is there passes, with its rows
pub body_passes : (blob : List ℕ) (at : ℕ) (schemas : List Schema) (halves : List Half) → IsBody blob at schemas halves → (body_of blob at).Passes (table_of halves)
unfolding body_of ◌>>=◌ standing
body_passes blob at schemas halves is = ((is.0, length blob), is.1, accepted_pass is.0 schemas halves is.2)

-- where the types stand, a fault of theirs is one of the body
pub types_fail : (blob : List ℕ) (at next : ℕ) (parts : List TypePart) (first : BlobFault) → body.Stands blob at parts next → (types_of parts).Fails first → (body_of blob at).Fails first
unfolding body_of ◌>>=◌ standing
types_fail blob at next parts first stands fails = inr ((parts, next), stands, fails)

-- where reading the types is stuck, the item there is at fault
pub stuck_fails : (blob : List ℕ) (at place : ℕ) (why : Reason) → body.Stuck blob at place why → (body_of blob at).Fails (fault.Bad place why)
unfolding body_of ◌>>=◌ standing
stuck_fails blob at place why stuck = inl (place, why, stuck, refl)

-- a blob that is too large fails
pub large_fails : (blob : List ℕ) → number_of_limit Blob < length blob → (snapshot_of blob).Fails (fault.Large Blob)
unfolding snapshot_of ◌>>=◌ short test
large_fails blob large = inl (large, refl)

-- a header that is stuck is at fault
pub head_fails : (blob : List ℕ) (place : ℕ) (why : Reason) → length blob ≤ number_of_limit Blob → StuckInHeader blob place why → (snapshot_of blob).Fails (fault.Bad place why)
unfolding snapshot_of ◌>>=◌ short test standing
head_fails blob place why fits stuck = inr (tt, fits, inl (place, why, stuck_head blob place why stuck, refl))

-- behind a header the fault of the body is that of the blob
pub body_fails : (blob : List ℕ) (head : Header) (n : ℕ) (first : BlobFault) → HeaderIs blob n head → length blob ≤ number_of_limit Blob → (body_of blob n).Fails first → (snapshot_of blob).Fails first
unfolding snapshot_of body_of ◌>>=◌ short test standing
body_fails blob head n first begins fits (inl (place, why, stuck, is)) = inr (tt, fits, inl (place, why, stuck_body blob head n place why begins stuck, is))
body_fails blob head n first begins fits (inr (found, stands, fails)) = inr (tt, fits, inr (((head, found.0), found.1), joined blob head n found.1 found.0 begins stands, inl fails))

-- an accepted blob passes, with its header and its rows
pub snapshot_passes : (blob : List ℕ) (head : Header) (schemas : List Schema) (halves : List Half) → IsAccepted blob head schemas halves → (snapshot_of blob).Passes (head, table_of halves)
unfolding snapshot_of ◌>>=◌ short test standing nothing
snapshot_passes blob head schemas halves accepted =
    let parts = accepted.0 in
    (tt, accepted.2.short, (((head, parts), length blob), accepted.1.items, (table_of halves, accepted_pass parts schemas halves (accepted.1.state, accepted.2.types), refl)))

-- so that it has no fault
pub accepted_or_fault : (blob : List ℕ) (head : Header) (schemas : List Schema) (halves : List Half) (first : BlobFault) → IsAccepted blob head schemas halves → (snapshot_of blob).Fails first → ⊥
accepted_or_fault blob head schemas halves first accepted = (snapshot_of blob).decided.apart (head, table_of halves) first (snapshot_passes blob head schemas halves accepted)

pub one_fault : (blob : List ℕ) (a b : BlobFault) → (snapshot_of blob).Fails a → (snapshot_of blob).Fails b → a ≡ b
one_fault blob = (snapshot_of blob).decided.once

-- What a name holds has one header, or is refused for one cause; and as a snapshot, or a delta from a position, it is refused for one fault.
use Rattle.std.proofs.Common.{◌≡◌, ◌<◌, ◌≤◌, ◌⊎◌, ℕ, List, length, Option, Some, None, Result, Ok, Err, inl, inr, refl, sym, ap, subst, ◌∙◌, arith}
use Rattle.std.proofs.lemmas.Bool.{cases_lt}
use Rattle.hol_io.specs.declared.name.BlobName.{BlobName}
use Rattle.schema_model.specs.declared.limit.Limit.TheVariants as limit
use Rattle.schema_model.specs.declared.reason.Reason.{Reason}
use Rattle.schema_model.specs.Limit.{number_of_limit}
use Rattle.blob_frame.specs.declared.fault.BlobFault.{BlobFault}
use Rattle.blob_frame.specs.declared.fault.BlobFault.TheVariants as fault
use Rattle.blob_frame.specs.declared.header.Header.{Header}
use Rattle.blob_frame.specs.Header.{HasHeader, HeaderIs, StuckInHeader, header}
use Rattle.blob_cursor.specs.Scene.{IsFree}
use Rattle.hol_answers.specs.declared.refusal.Refusal.{Refusal}
use Rattle.hol_answers.specs.declared.refusal.Refusal.TheVariants.{BadBlob, NoBlob, TooLarge}
use Rattle.hol_answers.specs.BlobRefusal.{refusal_of_blob}
use Rattle.hol_answers.specs.Refusal.{bad_item}
use Rattle.hol_orders.specs.declared.order_stop.OrderStop.{OrderStop}
use Rattle.snapshot_blob.specs.Judged.{snapshot_of}
use Rattle.snapshot_blob.specs.Snapshot.{TellsSnapshot}
use Rattle.read_engine.specs.Judged.{RefusesLoad, RefusesStep, step_of}
use Rattle.read_engine.specs.Position.{Position}
use Rattle.hollow_machine.specs.Blobs.{HeadRefusal, SnapshotRefusal, TellsOf}
use Rattle.hollow_machine.specs.StepOrder.{DeltaRefusal, StepRefusal}

pub some_one : {A : Type 0} (o : Option A) (a b : A) → o ≡ Some a → o ≡ Some b → a ≡ b
some_one o a b one other = let same : Some a ≡ Some b = sym one ∙ other in cc

pub one_header : (content : Option (List ℕ)) (a b : Header) → HasHeader content a → HasHeader content b → a ≡ b
one_header content a b (x, n, at_x, short_x, begins_x) (y, m, at_y, short_y, begins_y) =
    let same : y ≡ x = some_one content y x at_y at_x in
    (header.decided.one x 0 a b n m begins_x (subst (λ (blob : List ℕ). HeaderIs blob m b) same begins_y)).0

module _ (name : BlobName) where
  of_none : (refusal : Refusal) → HeadRefusal name None refusal → refusal ≡ NoBlob name
  of_none (NoBlob other) is = ap (λ (n : BlobName). NoBlob n) is.0
  of_none (BadBlob fault) is = let there = is.1 in absurd cc
  of_none (TooLarge what) is = let there = is.1 in absurd cc
  of_none _ is = absurd is

  of_large : (blob : List ℕ) (refusal : Refusal) → number_of_limit limit.Blob < length blob → HeadRefusal name (Some blob) refusal → refusal ≡ TooLarge limit.Blob
  of_large blob (NoBlob other) large is = let there = is.1 in absurd cc
  of_large blob (BadBlob fault) large is = absurd (omega (arith, ap (λ (b : List ℕ). length b) (some_one (Some blob) blob is.0 refl is.1), is.2, large))
  of_large blob (TooLarge what) large is = ap (λ w. TooLarge w) is.3
  of_large blob _ large is = absurd is

  of_short : (blob : List ℕ) (refusal : Refusal) → length blob ≤ number_of_limit limit.Blob → HeadRefusal name (Some blob) refusal
      → (at : ℕ) × (reason : Reason) × StuckInHeader blob at reason × (refusal ≡ bad_item name at reason)
  of_short blob (NoBlob other) short is = let there = is.1 in absurd cc
  of_short blob (BadBlob fault) short is =
      let stuck = subst (λ (b : List ℕ). StuckInHeader b fault.at fault.reason) (some_one (Some blob) is.0 blob is.1 refl) is.3 in
      (fault.at, fault.reason, stuck, (λ i. BadBlob (record { blob = is.4 i; at = fault.at; reason = fault.reason; row = is.5 i })))
  of_short blob (TooLarge what) short is = absurd (omega (arith, ap (λ (b : List ℕ). length b) (some_one (Some blob) blob is.0 refl is.1), is.2, short))
  of_short blob _ short is = absurd is

  pub one_head_refusal : (content : Option (List ℕ)) (one other : Refusal) → HeadRefusal name content one → HeadRefusal name content other → one ≡ other
  one_head_refusal None one other a b = of_none one a ∙ sym (of_none other b)
  one_head_refusal (Some blob) one other a b =
      elim (cases_lt (number_of_limit limit.Blob) (length blob)) [
        | inl large ↦ of_large blob one large a ∙ sym (of_large blob other large b)
        | inr short ↦
            (let (at, reason, stuck, one_is) = of_short blob one short a in
            let (place, why, also, other_is) = of_short blob other short b in
            let once = header.decided.once blob 0 at place reason why stuck also in
            one_is ∙ (λ i. bad_item name (once.0 i) (once.1 i)) ∙ sym other_is)
      ]

  -- what has a header is not refused for that of it
  pub head_apart : (content : Option (List ℕ)) (head : Header) (refusal : Refusal) → HasHeader content head → HeadRefusal name content refusal → ⊥
  head_apart content head refusal (blob, n, at, short, begin) refuses =
      let (place, why, stuck, is) = of_short blob refusal short (subst (λ (c : Option (List ℕ)). HeadRefusal name c refusal) at refuses) in
      header.decided.apart blob 0 head n place why begin stuck

-- a fault of a blob has one refusal
pub one_telling : (name : BlobName) (a b : BlobFault) (one other : Refusal) → a ≡ b → TellsOf name a one → TellsOf name b other → one ≡ other
one_telling name a b one other same is also =
    let told_so : (let answer : Result Refusal OrderStop = Ok one in answer) ≡ Ok other = sym is ∙ ap (refusal_of_blob name) same ∙ also in
    cc

-- what a name holds has one fault as a snapshot
pub one_load_fault : (name : BlobName) (content : Option (List ℕ)) (a b : BlobFault) → RefusesLoad name content a → RefusesLoad name content b → a ≡ b
one_load_fault name None a b one other = one ∙ sym other
one_load_fault name (Some blob) a b one other = (snapshot_of blob).decided.once a b one other

pub one_snapshot_refusal : (name : BlobName) (content : Option (List ℕ)) (one other : Refusal) → SnapshotRefusal name content one → SnapshotRefusal name content other → one ≡ other
one_snapshot_refusal name content one other (a, fails, is) (b, fails_too, also) = one_telling name a b one other (one_load_fault name content a b fails fails_too) is also

-- what a name holds has one fault for a consumer at a position
pub one_step_fault : (name : BlobName) (content : Option (List ℕ)) (now : Position) (a b : BlobFault) → RefusesStep name content now a → RefusesStep name content now b → a ≡ b
one_step_fault name None now a b one other = one ∙ sym other
one_step_fault name (Some blob) now a b one other = (step_of blob now).decided.once a b one other

pub one_step_refusal : (name : BlobName) (content : Option (List ℕ)) (consumer : Option Position) (one other : Refusal) → StepRefusal name content consumer one → StepRefusal name content consumer other → one ≡ other
one_step_refusal name content None one other is also = is ∙ sym also
one_step_refusal name content (Some now) one other (a, fails, is) (b, fails_too, also) =
    one_telling name a b one other (one_step_fault name content now a b fails fails_too) is also

-- ---- what is answered of a blob that is not taken

-- a free fault has no refusal
never_free : (name : BlobName) (found : BlobFault) (why : Refusal) → IsFree found → TellsOf name found why → ⊥
never_free name fault.Store why free is = cc
never_free name fault.Memory why free is = cc
never_free name _ why free is = free

-- the refusal for the fault of a snapshot
pub snapshot_refused : (name : BlobName) (content : Option (List ℕ)) (found : BlobFault) (why : Refusal) → TellsOf name found why → RefusesLoad name content found ⊎ IsFree found
    → SnapshotRefusal name content why
snapshot_refused name content found why is (inl fails) = (found, fails, is)
snapshot_refused name content found why is (inr free) = absurd (never_free name found why free is)

-- the refusal for the fault of a delta
pub delta_refused : (name : BlobName) (content : Option (List ℕ)) (from : Position) (found : BlobFault) (why : Refusal) → TellsOf name found why → RefusesStep name content from found ⊎ IsFree found
    → DeltaRefusal name content from why
delta_refused name content from found why is (inl fails) = (found, fails, is)
delta_refused name content from found why is (inr free) = absurd (never_free name found why free is)

-- what is told of a snapshot that is not read is told of its load
pub of_snapshot : (name : BlobName) (content : Option (List ℕ)) (found : BlobFault) → TellsSnapshot name content (Err found) → RefusesLoad name content found ⊎ IsFree found
of_snapshot name None found (inl is) = inl cc
of_snapshot name None found (inr free) = inr free
of_snapshot name (Some blob) found tells = tells

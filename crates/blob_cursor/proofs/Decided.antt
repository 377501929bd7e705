-- What an answer tells of a part, it tells exactly.
use Rattle.std.proofs.Common.{◌≡◌, ◌⊎◌, ℕ, List, Option, Some, None, Result, Ok, Err, inl, inr, ap}
use Rattle.std.specs.Result.{IsErrAnd}
use Rattle.std.specs.Option.{IfSome}
use Rattle.schema_model.specs.declared.reason.Reason.{Reason}
use Rattle.blob_frame.specs.declared.fault.BlobFault.{BlobFault}
use Rattle.blob_frame.specs.declared.fault.BlobFault.TheVariants as fault
use Rattle.blob_grammar.specs.Form.{Form}
use Rattle.blob_cursor.specs.Scene.{IsFree, Tells, Exactly}

found_told : {V : Type 0} (form : Form V) → (blob : List ℕ) (at next : ℕ) (answer : Result V BlobFault) (v : V) (end : ℕ) →
    Tells form (Some blob) at answer next → form.Stands blob at v end → (answer ≡ Ok v) ⊎ IsErrAnd answer IsFree
found_told form blob at next (Ok w) v end p q = inl (ap Ok (form.decided.one blob at w v next end p q).0)
found_told form blob at next (Err (fault.Bad place why)) v end p q = absurd (form.decided.apart blob at v end place why q p)
found_told form blob at next (Err fault.Store) v end p q = inr tt
found_told form blob at next (Err fault.Memory) v end p q = inr tt
found_told form blob at next (Err _) v end p q = absurd p

stuck_told : {V : Type 0} (form : Form V) → (blob : List ℕ) (at next : ℕ) (answer : Result V BlobFault) (place : ℕ) (why : Reason) →
    Tells form (Some blob) at answer next → form.Stuck blob at place why → (answer ≡ Err (fault.Bad place why)) ⊎ IsErrAnd answer IsFree
stuck_told form blob at next (Ok w) place why p q = absurd (form.decided.apart blob at w next place why p q)
stuck_told form blob at next (Err (fault.Bad other because)) place why p q =
    let same = form.decided.once blob at other place because why p q in inl (ap Err (cc (same.0, same.1)))
stuck_told form blob at next (Err fault.Store) place why p q = inr tt
stuck_told form blob at next (Err fault.Memory) place why p q = inr tt
stuck_told form blob at next (Err _) place why p q = absurd p

-- what an answer tells of a decided part, it tells exactly
pub exactly_told : {V : Type 0} (form : Form V) (content : Option (List ℕ)) (at next : ℕ) (answer : Result V BlobFault) → Tells form content at answer next →
    IfSome content (λ blob. Exactly form blob at answer)
exactly_told form None at next answer p = tt
exactly_told form (Some blob) at next answer p = record {
  found = λ v end q. found_told form blob at next answer v end p q;
  stuck = λ place why q. stuck_told form blob at next answer place why p q;
}

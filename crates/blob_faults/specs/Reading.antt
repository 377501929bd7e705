-- What is tried of a blob before its types mean anything: its length, what stands at a place of it, and the tag that it starts from.
use Rattle.std.specs.Prelude.{◌≡◌, ◌≢◌, ◌≤◌, ◌<◌, ℕ, ℤ, List, length}
use Rattle.schema_model.specs.declared.limit.Limit.TheVariants.{Blob}
use Rattle.schema_model.specs.declared.reason.Reason.{Reason}
use Rattle.schema_model.specs.Limit.{number_of_limit}
use Rattle.blob_grammar.specs.Form.{Form}
use Rattle.blob_frame.specs.declared.fault.BlobFault.TheVariants as fault
use Rattle.blob_faults.specs.Judge.{Judge, test}
use Rattle.blob_faults.specs.Decided.{decides_standing, not_longer}

-- The blob keeps the limit on its bytes.
unfoldable pub short : List ℕ → Judge Unit
short blob = test (length blob ≤ number_of_limit Blob) (number_of_limit Blob < length blob) not_longer (fault.Large Blob) tt

-- A part of a blob stands at this place, with this value up to that place; where reading it is stuck, the item there is at fault.
unfoldable pub standing : {V : Type 0} → Form V → List ℕ → ℕ → Judge (V × ℕ)
standing {V} form blob at = record {
  Passes = λ (p : V × ℕ). form.Stands blob at p.0 p.1;
  Fails = λ found. (place : ℕ) × (why : Reason) × form.Stuck blob at place why × (found ≡ fault.Bad place why);
  decided = decides_standing form blob at;
}

-- A blob that starts from this tag starts from the current one.
unfoldable pub starts : ℤ → ℤ → Judge Unit
starts origin current = test (origin ≡ current) (origin ≢ current) (λ same apart. apart same) (fault.OtherOrigin origin current) tt

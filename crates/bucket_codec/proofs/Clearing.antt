-- Lemmas on the run whose buckets are emptied one by one.
use Rattle.std.proofs.Common.{◌≡◌, ◌≢◌, ℕ, ◌+◌, ◌*◌, ◌<◌, ◌≤◌, List, [], None, arith}
use Rattle.std.proofs.Math.Nat.{mul-le-mul_right}
use Rattle.std.proofs.lemmas.List.Elements.{All-nil}
use Rattle.bucket_codec.specs.Run.{bucket_in, value_in, IsPairInRange, IsZeroIfEmpty}
use Rattle.bucket_codec.specs.Filled.{KeepsFront, KeepsBack, FillsRun}
use Rattle.bucket_codec.proofs.Writing.{kept_both, empty_more, all_empty}
use Rattle.bucket_codec.proofs.Behind.{back_both, zeros_more}
use Rattle.bucket_codec.proofs.Inserts.{inserted_none}

-- the first so many buckets are empty, with the value 0, and no bit outside the run has changed
pub record IsCleared (old new : List ℕ) (k v start size place : ℕ) : Type 0 where
  pub empty : (index : ℕ) → start ≤ index → index < start + place → bucket_in new k v index ≡ None
  pub zeros : (index : ℕ) → start ≤ index → index < start + place → IsZeroIfEmpty new k v index
  pub front : KeepsFront old new (start * (k + v))
  pub back : KeepsBack old new ((start + size) * (k + v))

pub cleared_more : (old mid new : List ℕ) (k v start size place : ℕ) → place < size → IsCleared old mid k v start size place → bucket_in new k v (start + place) ≡ None → value_in new k v (start + place) ≡ 0
    → ((index : ℕ) → index ≢ start + place → (bucket_in new k v index ≡ bucket_in mid k v index) × (value_in new k v index ≡ value_in mid k v index))
    → KeepsFront mid new ((start + place) * (k + v)) → KeepsBack mid new ((start + place + 1) * (k + v)) → IsCleared old new k v start size (place + 1)
cleared_more old mid new k v start size place inside done none zero others front back =
    let from : start * (k + v) ≤ (start + place) * (k + v) = mul-le-mul_right (k + v) (let l : start ≤ start + place = omega arith in l) in
    let to : (start + place + 1) * (k + v) ≤ (start + size) * (k + v) = mul-le-mul_right (k + v) (let l : start + place + 1 ≤ start + size = omega arith in l) in
    record {
      empty = empty_more mid new k v start place done.empty none (λ index other. (others index other).0);
      zeros = zeros_more mid new k v start place done.zeros zero others;
      front = kept_both old mid new (start * (k + v)) ((start + place) * (k + v)) (start * (k + v)) done.front front (omega arith) from;
      back = back_both old mid new ((start + size) * (k + v)) ((start + place + 1) * (k + v)) ((start + size) * (k + v)) done.back back (omega arith) to;
    }

pub cleared_all : (old new : List ℕ) (k v start size place : ℕ) → size ≤ place → IsCleared old new k v start size place → FillsRun old new k v start size []
cleared_all old new k v start size place all done = record {
  filled = all_empty new k v start size place all done.empty;
  laid = inserted_none (bucket_in new k v) start size (λ index above below. done.empty index above (omega arith));
  ranges = All-nil IsPairInRange;
  zeros = λ index above below. done.zeros index above (omega arith);
  front = done.front;
  back = done.back;
}

-- Judgements: what is tried of a blob passes, with a value, or fails, with a fault. What is tried one after another is made of single
-- judgements by the few words below, so that the fault of a blob is that of the first one that fails.
use Rattle.std.specs.Prelude.{◌≡◌, ◌⊎◌, ℕ, List, [], ◌∷◌, Some, slice_get}
use Rattle.blob_frame.specs.declared.fault.BlobFault.{BlobFault}
use Rattle.blob_faults.specs.Deciding.{Decides, IsOwn, decides_item, decides_nothing, decides_then, decides_test}

-- What may come of a trial.
pub record Judge (V : Type 0) : Type 1 where
  -- it passes, with this value
  pub Passes : V → Type 0
  -- it fails, with this fault
  pub Fails : BlobFault → Type 0
  -- it does so in one way, and never both
  pub decided : Decides Passes Fails

-- First a, and then what its value calls for.
infixl 10 ◌>>=◌
unfoldable pub ◌>>=◌ : {A B : Type 0} → Judge A → (A → Judge B) → Judge B
◌>>=◌ {A} {B} a b = record {
  Passes = λ v. (x : A) × a.Passes x × (b x).Passes v;
  Fails = λ fault. a.Fails fault ⊎ ((x : A) × a.Passes x × (b x).Fails fault);
  decided = decides_then a.decided (λ x. (b x).decided);
}

-- Nothing is tried, and the value is this one.
unfoldable pub nothing : {A : Type 0} → A → Judge A
nothing v = record {
  Passes = λ w. w ≡ v;
  Fails = λ fault. ⊥;
  decided = decides_nothing v;
}

-- It fails with this fault where Breaks, and passes where Keeps.
unfoldable pub test : (Keeps Breaks : Type 0) → (Keeps → Breaks → ⊥) → (fault : BlobFault) → IsOwn fault → Judge Unit
test Keeps Breaks apart fault own = record {
  Passes = λ u. Keeps;
  Fails = λ other. Breaks × (other ≡ fault);
  decided = decides_test Keeps Breaks apart fault own;
}

-- The item at an index, where the list has one; nothing is at fault where it has none.
unfoldable pub item_at : {A : Type 0} → List A → ℕ → Judge A
item_at xs i = record {
  Passes = λ x. slice_get xs i ≡ Some x;
  Fails = λ fault. ⊥;
  decided = decides_item xs i;
}

-- What each of these calls for, one after the other.
unfoldable pub each_of : {A B : Type 0} → (A → Judge B) → List A → Judge (List B)
each_of f [] = nothing []
each_of f (x ∷ xs) = do
  v ← f x
  vs ← each_of f xs
  nothing (v ∷ vs)

-- What a fault that is answered tells: it is that of the trial, or a free one.
abbrev pub Blames : {V : Type 0} → Judge V → (BlobFault → Type 0) → BlobFault → Type 0
Blames judge Free fault = judge.Fails fault ⊎ Free fault

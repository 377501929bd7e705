-- Parts of a blob: where one stands, with which value and up to which place, and where reading it is stuck, and for
-- which reason. The whole syntax of a blob is made of its items by the few words below.
use Rattle.std.specs.Prelude.{◌≡◌, ◌≤◌, ◌<◌, ◌⊎◌, ℕ, zero, suc, List, [], ◌∷◌}
use Rattle.schema_model.specs.declared.reason.Reason.{Reason}
use Rattle.schema_model.specs.declared.reason.Reason.TheVariants.{BadSchema}
use Rattle.blob_grammar.specs.Decided.{IsDecided, IsJudge}
use Rattle.blob_grammar.specs.Deciding.{decided_nothing, decided_then, decided_judged, judge_at_most, decided_here}

-- What may stand at a place of a blob's bytes.
pub record Form (V : Type 0) : Type 1 where
  -- in these bytes, from this place on, it stands with this value, up to that place
  pub Stands : List ℕ → ℕ → V → ℕ → Type 0
  -- in these bytes, from this place on, the item at that place cannot be read, for this reason
  pub Stuck : List ℕ → ℕ → ℕ → Reason → Type 0
  -- at each place it stands with one value or is stuck once, and never both
  pub decided : IsDecided Stands Stuck

-- First a, and then, behind it, what its value calls for.
infixl 10 ◌>>=◌
unfoldable pub ◌>>=◌ : {A B : Type 0} → Form A → (A → Form B) → Form B
◌>>=◌ {A} {B} a b = record {
  Stands = λ bytes at v next. (x : A) × (mid : ℕ) × a.Stands bytes at x mid × (b x).Stands bytes mid v next;
  Stuck = λ bytes at place why. a.Stuck bytes at place why
      ⊎ ((x : A) × (mid : ℕ) × a.Stands bytes at x mid × (b x).Stuck bytes mid place why);
  decided = decided_then a.decided (λ x. (b x).decided);
}

-- No bytes, and this value.
unfoldable pub nothing : {A : Type 0} → A → Form A
nothing v = record {
  Stands = λ bytes at w next. (w ≡ v) × (next ≡ at);
  Stuck = λ bytes at place why. ⊥;
  decided = decided_nothing v;
}

-- The value that the value of a means. A value of a that means none is refused at its own place.
unfoldable pub judged : {A B : Type 0} → Form A → (Means : A → B → Type 0) → (Refused : A → Reason → Type 0) → IsJudge Means Refused → Form B
judged {A} a Means IsRefused judge = record {
  Stands = λ bytes at v next. (x : A) × a.Stands bytes at x next × Means x v;
  Stuck = λ bytes at place why. a.Stuck bytes at place why
      ⊎ ((x : A) × (next : ℕ) × a.Stands bytes at x next × (place ≡ at) × IsRefused x why);
  decided = decided_judged a.decided judge;
}

-- A count of at most this many; one above it is no schema.
unfoldable pub at_most : Form ℕ → ℕ → Form ℕ
at_most a most = judged a (λ n m. (m ≡ n) × (n ≤ most)) (λ n why. (most < n) × (why ≡ BadSchema)) (judge_at_most most)

-- As many of a, one behind the other.
unfoldable pub repeated : {A : Type 0} → ℕ → Form A → Form (List A)
repeated zero a = nothing []
repeated (suc n) a = do
  x ← a
  xs ← repeated n a
  nothing (x ∷ xs)

-- First a, and behind it b: both values.
unfoldable pub both : {A B : Type 0} → Form A → Form B → Form (A × B)
both a b = do
  x ← a
  y ← b
  nothing (x, y)

-- a, and what this makes of its value.
unfoldable pub made : {A B : Type 0} → (A → B) → Form A → Form B
made f a = do
  x ← a
  nothing (f x)

-- A number, and as many of a.
unfoldable pub counted : {A : Type 0} → Form ℕ → Form A → Form (List A)
counted number a = do
  n ← number
  repeated n a

-- For each of these in turn what it calls for, one behind the other.
unfoldable pub each_of : {A B : Type 0} → (A → Form B) → List A → Form (List B)
each_of f [] = nothing []
each_of f (x ∷ xs) = do
  y ← f x
  ys ← each_of f xs
  nothing (y ∷ ys)

-- What stands behind the number of an envelope: nothing behind 0, else this.
unfoldable pub behind_number : {V : Type 0} → V → Form V → ℕ → Form V
behind_number v a zero = nothing v
behind_number v a (suc n) = a

-- An envelope: a number, and behind it nothing, where it is 0, else this.
unfoldable pub envelope : {V : Type 0} → Form ℕ → V → Form V → Form V
envelope number v a = do
  n ← number
  behind_number v a n

-- The offset itself, and no bytes.
unfoldable pub here : Form ℕ
here = record {
  Stands = λ bytes at v next. (v ≡ at) × (next ≡ at);
  Stuck = λ bytes at place why. ⊥;
  decided = decided_here;
}

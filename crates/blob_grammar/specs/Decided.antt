-- Parts of a blob that stand in one way at most, and are stuck exactly where they do not stand.
use Rattle.std.specs.Prelude.{◌≡◌, ◌≤◌, ◌<◌, ◌⊎◌, ℕ, List, length, All}
use Rattle.schema_model.specs.declared.reason.Reason.{Reason}

-- Each number is a byte.
abbrev pub AreBytes : List ℕ → Type 0
AreBytes bytes = All (λ byte. byte < 256) bytes

-- It stands at this place with some value.
abbrev pub StandsThere : {V : Type 0} → (List ℕ → ℕ → V → ℕ → Type 0) → List ℕ → ℕ → Type 0
StandsThere {V} Stands bytes at = (v : V) × (next : ℕ) × Stands bytes at v next × (next ≤ length bytes)

-- From this place on some item cannot be read.
abbrev pub StuckThere : (List ℕ → ℕ → ℕ → Reason → Type 0) → List ℕ → ℕ → Type 0
StuckThere Stuck bytes at = (place : ℕ) × (why : Reason) × Stuck bytes at place why

-- At each place of each blob it stands, or some item cannot be read.
abbrev pub EachPlace : {V : Type 0} → (List ℕ → ℕ → V → ℕ → Type 0) → (List ℕ → ℕ → ℕ → Reason → Type 0) → Type 0
EachPlace Stands Stuck = (bytes : List ℕ) (at : ℕ) → AreBytes bytes → at ≤ length bytes → StandsThere Stands bytes at ⊎ StuckThere Stuck bytes at

-- At each place of each blob it stands with one value at most and is stuck once at most, it does one of the two, and
-- never both.
pub record IsDecided {V : Type 0} (Stands : List ℕ → ℕ → V → ℕ → Type 0) (Stuck : List ℕ → ℕ → ℕ → Reason → Type 0) : Type 0 where
  pub one : (bytes : List ℕ) (at : ℕ) (v w : V) (next end : ℕ) → Stands bytes at v next → Stands bytes at w end → (v ≡ w) × (next ≡ end)
  pub once : (bytes : List ℕ) (at place other : ℕ) (why because : Reason) → Stuck bytes at place why → Stuck bytes at other because → (place ≡ other) × (why ≡ because)
  pub apart : (bytes : List ℕ) (at : ℕ) (v : V) (next place : ℕ) (why : Reason) → Stands bytes at v next → Stuck bytes at place why → ⊥
  pub some : EachPlace Stands Stuck

-- A value means one thing or is refused for one reason, and never both.
pub record IsJudge {A B : Type 0} (Means : A → B → Type 0) (Refused : A → Reason → Type 0) : Type 0 where
  pub one : (x : A) (v w : B) → Means x v → Means x w → v ≡ w
  pub once : (x : A) (why because : Reason) → Refused x why → Refused x because → why ≡ because
  pub apart : (x : A) (v : B) (why : Reason) → Means x v → Refused x why → ⊥
  pub some : (x : A) → ((v : B) × Means x v) ⊎ ((why : Reason) × Refused x why)

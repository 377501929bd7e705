-- When an answer comes: exactly where a fact holds, unless a free answer, such as want of memory, comes in its place.
use Rattle.std.specs.Prelude.{◌≡◌, ◌⊎◌, Result, IsErrAnd}

-- The answer is this one exactly where the fact holds, but that a free refusal may come in its place.
abbrev pub Yields : {T E : Type 0} → (E → Type 0) → Result T E → Result T E → Type 0 → Type 0
Yields free result answer fact = (result ≡ answer → fact) × (fact → (result ≡ answer) ⊎ IsErrAnd result free)

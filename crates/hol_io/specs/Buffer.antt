-- What reading leaves of a buffer.
use Rattle.std.specs.Prelude.{◌≡◌, ℕ, List, Result, Ok, Err, drop}

-- A buffer keeps what stands past the bytes that were placed, and all of it after a refusal.
abbrev pub KeepsRest : {E : Type 0} → List ℕ → List ℕ → Result ℕ E → Type 0
KeepsRest old new (Ok count) = drop count new ≡ drop count old
KeepsRest old new (Err fault) = new ≡ old

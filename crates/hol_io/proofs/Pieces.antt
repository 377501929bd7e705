-- Bytes that go out in pieces, one after another.
use Rattle.std.proofs.Common.{◌≡◌, ℕ, ◌+◌, ◌-◌, List, ◌++◌, length, take, drop, Option, Some, None, ap, sym, ◌∙◌, append_assoc, arith}
use Rattle.std.specs.Io.KnownBytes.{Appends, Keeps}
use Rattle.std.proofs.Math.Seq.{take-add}
use Rattle.std.proofs.lemmas.Slice.{between_to_end}

-- What was appended in two goes was appended.
pub Appends-then : (old mid new : Option (List ℕ)) (first second : List ℕ) → Appends old mid first → Appends mid new second → Appends old new (first ++ second)
Appends-then None mid new first second a b = tt
Appends-then (Some xs) None new first second a b = absurd a
Appends-then (Some xs) (Some ys) None first second a b = absurd b
Appends-then (Some xs) (Some ys) (Some zs) first second a b = b ∙ ap (λ t. t ++ second) a ∙ append_assoc xs first second

-- The next bytes after those that have gone out are the front of the rest.
take_rest : (bytes : List ℕ) (done count : ℕ) → take (done + count) bytes ≡ take done bytes ++ take count (take (length bytes - done) (drop done bytes))
take_rest bytes done count = take-add done count bytes ∙ ap (λ t. take done bytes ++ take count t) (sym (between_to_end bytes done (length bytes) (omega arith)))

-- One more write adds what it took to what has gone out.
pub Appends-more : (bytes : List ℕ) (done count : ℕ) (old mid new : Option (List ℕ)) → Appends old mid (take done bytes) → Appends mid new (take count (take (length bytes - done) (drop done bytes))) → Appends old new (take (done + count) bytes)
Appends-more bytes done count old mid new a b = rw (take_rest bytes done count) (Appends-then old mid new _ _ a b)

-- A refusal adds nothing to what has gone out.
pub Appends-kept : (old mid new : Option (List ℕ)) (bytes : List ℕ) → Appends old mid bytes → Keeps mid new → Appends old new bytes
Appends-kept None mid new bytes a b = tt
Appends-kept (Some xs) None new bytes a b = absurd a
Appends-kept (Some xs) (Some ys) None bytes a b = absurd b
Appends-kept (Some xs) (Some ys) (Some zs) bytes a b = b ∙ a

pub ruleset writing = (Appends-more, Appends-kept)

-- What stays at the front of a list that only grows.
use Rattle.std.proofs.Common.{◌≡◌, ℕ, ◌≤◌, List, ◌++◌, length, take, arith, ap, sym, ◌∙◌}
use Rattle.std.proofs.lemmas.List.{take-take, length-take}
use Rattle.std.proofs.Math.Seq.{take-append_seam}

-- a front of a front is a front
pub kept_on : (a b c : List ℕ) → take (length a) b ≡ a → take (length b) c ≡ b → take (length a) c ≡ a
kept_on a b c first second =
    let shorter : length a ≤ length b = omega (arith, length-take (length a) b, ap length first) in
    sym (take-take (length a) (length b) c shorter) ∙ ap (take (length a)) second ∙ first

pub kept_append : (a b x : List ℕ) → b ≡ a ++ x → take (length a) b ≡ a
kept_append a b x e = rw e (take-append_seam a x)

-- what grew twice
pub kept_twice : (a b now x parts : List ℕ) → b ≡ a ++ x → now ≡ b ++ parts → take (length a) now ≡ a
kept_twice a b now x parts begun grown = kept_on a b now (kept_append a b x begun) (kept_append b now parts grown)

-- and what a front of it stays in
pub kept_behind : (a b now after x parts : List ℕ) → b ≡ a ++ x → now ≡ b ++ parts → take (length now) after ≡ now → take (length a) after ≡ a
kept_behind a b now after x parts begun grown kept = kept_on a now after (kept_twice a b now x parts begun grown) kept

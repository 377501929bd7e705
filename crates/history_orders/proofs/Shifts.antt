-- A word that is shifted twice.
use Rattle.std.proofs.Common.{◌≡◌, ℕ, ◌+◌, ◌-◌, ◌*◌, ◌%◌, ◌^◌, ◌<◌, sym, ap, ◌∙◌, arith}
use Rattle.std.proofs.lemmas.Nat.{pow-add, mul-mod_first}

-- Shifted by one bit and then by others it is shifted by all of them.
pub shifted_twice : (word shift : ℕ) → shift < 64 → word * 2 % 2 ^ 64 * 2 ^ (63 - shift) % 2 ^ 64 ≡ word * 2 ^ (64 - shift) % 2 ^ 64
shifted_twice word shift below =
    let more : 64 - shift ≡ 1 + (63 - shift) = omega (arith, below) in
    let power : 2 ^ (64 - shift) ≡ 2 * 2 ^ (63 - shift) = ap (λ k. 2 ^ k) more ∙ pow-add 2 1 (63 - shift) in
    let all : word * 2 * 2 ^ (63 - shift) ≡ word * 2 ^ (64 - shift) = grind (arith, power) in
    mul-mod_first (word * 2) (2 ^ (63 - shift)) (2 ^ 64) ∙ ap (λ n. n % 2 ^ 64) all

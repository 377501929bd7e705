-- Lemmas on the bytes of a field.
use Rattle.std.proofs.Common.{◌≡◌, ℕ, suc, ◌+◌, ◌-◌, ◌≤◌, ◌<◌, List, [], ◌∷◌, ◌++◌, length, take, drop, get_or, arith, ap, ◌∙◌, length-drop}
use Rattle.std.proofs.Math.Seq.{take-suc}
use Rattle.std.proofs.lemmas.List.{get_or-drop}

-- one byte more of a run
pub span_more : (area : List ℕ) (start at : ℕ) → start ≤ at → at < length area
    → take (at + 1 - start) (drop start area) ≡ take (at - start) (drop start area) ++ get_or area at 0 ∷ []
span_more area start at from inside =
    let more : at + 1 - start ≡ suc (at - start) = omega arith in
    let there : start + (at - start) ≡ at = omega arith in
    let within : at - start < length (drop start area) = omega (arith, length-drop start area) in
    ap (λ k. take k (drop start area)) more
    ∙ take-suc (drop start area) (at - start) 0 within
    ∙ ap (λ byte. take (at - start) (drop start area) ++ byte ∷ []) (get_or-drop start area (at - start) 0 ∙ ap (λ k. get_or area k 0) there)

-- Lists in which nothing is there twice.
use Rattle.std.proofs.Common.{◌+◌, ◌++◌, List, ◌∷◌, length, sym, ◌∙◌, length-append, arith}
use Rattle.std.specs.Prelude.{◌≢◌, AllPairs, Contains}
use Rattle.std.proofs.lemmas.List.{get_or-append-add, get_or_append_left}

-- nothing is there twice
abbrev pub AreApart : {A : Type 0} → List A → Type 0
AreApart xs = AllPairs (λ earlier later. earlier ≢ later) xs

-- one that stands behind others is none of these
pub new_behind : {A : Type 0} (before after : List A) (index : A) → AreApart (before ++ index ∷ after) → Contains before index → ⊥
new_behind before after index apart (k, inside, is) =
    let here = get_or_append_left before (index ∷ after) index k inside ∙ is in
    let there = get_or-append-add before (index ∷ after) 0 index in
    let long = length-append before (index ∷ after) in
    apart k (length before + 0) index (omega (arith, inside)) (omega (arith, long)) (here ∙ sym there)

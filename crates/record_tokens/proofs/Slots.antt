-- The slots, moved out one after another.
use Rattle.std.proofs.Common.{◌≡◌, ◌∙◌, List, [], ◌∷◌, ◌++◌, length, append_assoc, append-nil, ap, arith, sym}

-- nothing is left of a list without items
pub all_taken : {X : Type 0} (done left all : List X) → done ++ left ≡ all → length left ≡ 0 → done ≡ all
all_taken done [] all are none = sym (append-nil done) ∙ are
all_taken done (x ∷ left) all are none = absurd (omega (arith, none))

pub one_taken : {X : Type 0} (done rest : List X) {left initial : List X} {x : X} → left ≡ x ∷ rest → done ++ left ≡ initial → (done ++ x ∷ []) ++ rest ≡ initial
one_taken {X} done rest {x = x} steps at = append_assoc done (x ∷ []) rest ∙ (ap (λ (ls : List X). done ++ ls) (sym steps) ∙ at)

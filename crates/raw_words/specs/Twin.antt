-- Two generations of words, as contracts see them, and the same with the words of one replaced.
use Rattle.std.specs.Prelude.{ℕ, List, length, refl}
use Rattle.std.specs.List.{refill}
use Rattle.std.specs.Coded.{Coded, code_by, coded×, coded_ℕ, coded_list}

-- the half that counts, and the other one, which was or will be
pub record Twin : Type 0 where
  pub current : List ℕ
  pub other : List ℕ

-- a twin is stored as the pair of its fields
abbrev pub twin_code : Coded Twin
twin_code =
    code_by (List ℕ × List ℕ) (coded× (coded_list coded_ℕ) (coded_list coded_ℕ)) (λ t. (t.current, t.other)) (λ p. record { current = p.0; other = p.1 }) (λ _. refl)

-- the twin with these words in its other half. A slice keeps its length, so a list of another length is cut, or
-- filled up from what stood there
abbrev pub rewritten : Twin → List ℕ → Twin
rewritten t words = record { current = t.current; other = refill (length t.other) t.other words }

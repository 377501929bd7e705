use Rattle.std.proofs.Common.{rules, sym, subst, ℕ}
use Rattle.std.specs.List.Sorted.{IsNonDecreasingBy}
use Rattle.std.proofs.lemmas.List.Sorted.{IsNonDecreasingBy-from_sort_by_key}
use Rattle.bucket_codec.proofs.pairs.by_key.Goals as goal

pub returns-clause-rises : goal.returns-clause-rises
returns-clause-rises c =
    subst (λ l. IsNonDecreasingBy (λ (p : ℕ × ℕ). p.0) l) (sym c.from_vec.ensures)
    (IsNonDecreasingBy-from_sort_by_key (λ (p : ℕ × ℕ). p.0) _ c.sort_unstable_by_key.ensures.sorted (λ a r q k. search rules))

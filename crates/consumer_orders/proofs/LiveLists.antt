-- The live ordinals of a type are listed by a walk up to its bound.
use Rattle.std.proofs.Common.{◌≡◌, ℕ, ◌+◌, ◌<◌, ◌≤◌, ◌⊎◌, ◌↔◌, inl, inr, List, [], ◌∷◌, ◌++◌, subst, arith}
use Rattle.std.specs.Prelude.{All, Contains}
use Rattle.std.proofs.lemmas.Bool.{cases_lt}
use Rattle.std.proofs.lemmas.List.Elements.{All-push, Contains-append_left, Contains-push, Contains-push_cases}
use Rattle.std.proofs.lemmas.List.Quantifiers.{all_pairs_push}
use Rattle.row_model.specs.Row.{Rises}
use Rattle.row_model.specs.Table.{IsBound, IsLive, Table}
use Rattle.hollow_machine.specs.RowOrders.{AreLive}

-- These are the live ordinals of a type that are below a limit, rising.
pub record AreLiveBelow (table : Table) (t limit : ℕ) (ordinals : List ℕ) : Type 0 where
  pub rising : Rises ordinals
  pub low : All (λ ordinal. ordinal < limit) ordinals
  pub are : (ordinal : ℕ) → Contains ordinals ordinal ↔ ((ordinal < limit) × IsLive table t ordinal)

module _ (table : Table) (t limit : ℕ) (ordinals : List ℕ) (below : AreLiveBelow table t limit ordinals) where
  same_as_limit : (ordinal : ℕ) → ordinal < limit + 1 → limit ≤ ordinal → limit ≡ ordinal
  same_as_limit ordinal inside past = omega (arith, inside, past)

  pub one_listed : IsLive table t limit → AreLiveBelow table t (limit + 1) (ordinals ++ limit ∷ [])
  one_listed live = record {
    rising = all_pairs_push (λ earlier later. earlier < later) ordinals limit below.rising below.low;
    low = All-push (λ ordinal. ordinal < limit + 1) ordinals limit (λ i d inside. omega (arith, below.low i d inside)) (omega arith);
    are = λ ordinal. (λ among. there ordinal (Contains-push_cases ordinals limit ordinal among), λ found. among ordinal found (cases_lt ordinal limit));
  }
    where
      there : (ordinal : ℕ) → Contains ordinals ordinal ⊎ (limit ≡ ordinal) → (ordinal < limit + 1) × IsLive table t ordinal
      there ordinal (inl earlier) = let old = (below.are ordinal).0 earlier in (omega (arith, old.0), old.1)
      there ordinal (inr same) = subst (λ o. (o < limit + 1) × IsLive table t o) same (omega arith, live)

      among : (ordinal : ℕ) → (ordinal < limit + 1) × IsLive table t ordinal → (ordinal < limit) ⊎ (limit ≤ ordinal) → Contains (ordinals ++ limit ∷ []) ordinal
      among ordinal found (inl low) = Contains-append_left ordinals (limit ∷ []) ordinal ((below.are ordinal).1 (low, found.1))
      among ordinal found (inr past) = subst (Contains (ordinals ++ limit ∷ [])) (same_as_limit ordinal found.0 past) (Contains-push ordinals limit)

  pub one_passed : (¬ IsLive table t limit) → AreLiveBelow table t (limit + 1) ordinals
  one_passed never = record {
    rising = below.rising;
    low = λ i d inside. omega (arith, below.low i d inside);
    are = λ ordinal. (λ among. (let old = (below.are ordinal).0 among in (omega (arith, old.0), old.1)), λ found. among ordinal found (cases_lt ordinal limit));
  }
    where
      among : (ordinal : ℕ) → (ordinal < limit + 1) × IsLive table t ordinal → (ordinal < limit) ⊎ (limit ≤ ordinal) → Contains ordinals ordinal
      among ordinal found (inl low) = (below.are ordinal).1 (low, found.1)
      among ordinal found (inr past) = absurd (never (subst (IsLive table t) (omega (arith, found.0, past)) found.1))

  pub all_listed : IsBound table t limit → AreLive table t ordinals
  all_listed bound = record {
    rising = below.rising;
    are = λ ordinal. (λ among. ((below.are ordinal).0 among).1, λ live. (below.are ordinal).1 (bound.above ordinal live, live));
  }

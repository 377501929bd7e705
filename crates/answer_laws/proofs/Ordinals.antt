-- The ordinals below a bound of which something holds, rising.
use Rattle.std.proofs.Common.{◌≡◌, ◌<◌, ◌≤◌, ◌⊎◌, ◌↔◌, ℕ, zero, suc, List, [], ◌∷◌, ◌++◌, inl, inr, sym, subst, arith}
use Rattle.std.specs.Prelude.{All, Contains, IsSome}
use Rattle.std.proofs.lemmas.Bool.{cases_lt}
use Rattle.std.proofs.lemmas.List.Elements.{All-nil, All-push, Contains-append_left, Contains-push, Contains-push_cases}
use Rattle.std.proofs.lemmas.List.Quantifiers.{all_pairs_push}
use Rattle.std.specs.FinMap.{keys}
use Rattle.ordinal_set.specs.Ordinals.{bound_of}
use Rattle.row_model.specs.BothStates.{rows_in}
use Rattle.row_model.specs.Row.{Rises}
use Rattle.row_model.specs.Table.{IsLive, Table}
use Rattle.row_model.proofs.RowsFrom.{get_in}
use Rattle.type_rows.proofs.Entries.{below_bound}
use Rattle.answer_laws.proofs.Deciding.{decide}

module _ (P : ℕ → Type 0) where
  -- These are the ordinals below a limit of which it holds, rising.
  record AreBelow (limit : ℕ) (ordinals : List ℕ) : Type 0 where
    rising : Rises ordinals
    low : All (λ ordinal. ordinal < limit) ordinals
    are : (ordinal : ℕ) → Contains ordinals ordinal ↔ ((ordinal < limit) × P ordinal)

  none_below : AreBelow zero []
  none_below = record {
    rising = λ i j d before inside. absurd (omega (arith, inside));
    low = All-nil (λ ordinal. ordinal < zero);
    are = λ ordinal. (λ among. absurd (omega (arith, among.1)), λ found. absurd (omega (arith, found.0)));
  }

  module _ (limit : ℕ) (ordinals : List ℕ) (below : AreBelow limit ordinals) where
    same_as_limit : (ordinal : ℕ) → ordinal < suc limit → limit ≤ ordinal → limit ≡ ordinal
    same_as_limit ordinal inside past = omega (arith, inside, past)

    one_more : P limit → AreBelow (suc limit) (ordinals ++ limit ∷ [])
    one_more here = record {
      rising = all_pairs_push (λ earlier later. earlier < later) ordinals limit below.rising below.low;
      low = All-push (λ ordinal. ordinal < suc limit) ordinals limit (λ i d inside. omega (arith, below.low i d inside)) (omega arith);
      are = λ ordinal. (λ among. there ordinal (Contains-push_cases ordinals limit ordinal among), λ found. among ordinal found (cases_lt ordinal limit));
    }
      where
        there : (ordinal : ℕ) → Contains ordinals ordinal ⊎ (limit ≡ ordinal) → (ordinal < suc limit) × P ordinal
        there ordinal (inl earlier) = let old = (below.are ordinal).0 earlier in (omega (arith, old.0), old.1)
        there ordinal (inr same) = subst (λ o. (o < suc limit) × P o) same (omega arith, here)

        among : (ordinal : ℕ) → (ordinal < suc limit) × P ordinal → (ordinal < limit) ⊎ (limit ≤ ordinal) → Contains (ordinals ++ limit ∷ []) ordinal
        among ordinal found (inl low) = Contains-append_left ordinals (limit ∷ []) ordinal ((below.are ordinal).1 (low, found.1))
        among ordinal found (inr past) = subst (Contains (ordinals ++ limit ∷ [])) (same_as_limit ordinal found.0 past) (Contains-push ordinals limit)

    no_more : (P limit → ⊥) → AreBelow (suc limit) ordinals
    no_more never = record {
      rising = below.rising;
      low = λ i d inside. omega (arith, below.low i d inside);
      are = λ ordinal. (λ among. (let old = (below.are ordinal).0 among in (omega (arith, old.0), old.1)), λ found. among ordinal found (cases_lt ordinal limit));
    }
      where
        among : (ordinal : ℕ) → (ordinal < suc limit) × P ordinal → (ordinal < limit) ⊎ (limit ≤ ordinal) → Contains ordinals ordinal
        among ordinal found (inl low) = (below.are ordinal).1 (low, found.1)
        among ordinal found (inr past) = absurd (never (subst P (sym (same_as_limit ordinal found.0 past)) found.1))

  some_below : (limit : ℕ) → ((ordinals : List ℕ) → AreBelow limit ordinals → ⊥) → ⊥
  some_below zero none = none [] none_below
  some_below (suc limit) none = some_below limit (λ ordinals below. decide (P limit) (λ either. elim either [
    | inl here ↦ none (ordinals ++ limit ∷ []) (one_more limit ordinals below here)
    | inr never ↦ none ordinals (no_more limit ordinals below never)
  ]))

  -- where it holds of none from a bound on, that there are no such ordinals cannot be
  pub some_ordinals : (bound : ℕ) → ((ordinal : ℕ) → P ordinal → ordinal < bound) → ((ordinals : List ℕ) → Rises ordinals → ((ordinal : ℕ) → Contains ordinals ordinal ↔ P ordinal) → ⊥) → ⊥
  some_ordinals bound under none = some_below bound (λ ordinals below.
      none ordinals below.rising (λ ordinal. (λ among. ((below.are ordinal).0 among).1, λ holds. (below.are ordinal).1 (under ordinal holds, holds))))

-- the live ordinals of a type are below the bound of its rows
pub live_below : (table : Table) (t ordinal : ℕ) → IsLive table t ordinal → ordinal < bound_of (keys (rows_in table t))
live_below table t ordinal live = below_bound (rows_in table t) ordinal (subst IsSome (sym (get_in table t ordinal)) live)

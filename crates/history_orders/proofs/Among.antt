-- The rows that have a key are listed by a walk along rising ordinals among which they are.
use Rattle.std.proofs.Common.{◌≡◌, ℕ, ◌+◌, ◌<◌, ◌≤◌, ◌⊎◌, inl, inr, List, [], ◌∷◌, ◌++◌, get_or, length, sym, ◌∙◌, subst, arith, eqb}
use Rattle.std.specs.Prelude.{All, Contains}
use Rattle.std.specs.List.{dedup}
use Rattle.std.specs.List.Sorted.{IsPermutation, IsSorted, IsStrictlyIncreasing}
use Rattle.std.specs.Ordering.{nat_cmp}
use Rattle.std.proofs.lemmas.List.Kept.{Contains-dedup_nat}
use Rattle.std.proofs.lemmas.List.Sorted.{Contains-permutation}
use Rattle.std.proofs.lemmas.Map.Keys.{IsStrictlyIncreasing-dedup}
use Rattle.std.proofs.lemmas.Bool.{cases_lt}
use Rattle.std.proofs.lemmas.List.{get_or_default}
use Rattle.std.proofs.lemmas.List.Elements.{Contains-append_left, Contains-get_or, Contains-push, Contains-push_cases}
use Rattle.std.proofs.lemmas.List.Quantifiers.{all_pairs_push}
use Rattle.schema_model.specs.declared.model.path.Path.{Path}
use Rattle.schema_model.specs.declared.schema.Schema.{Schema}
use Rattle.row_model.specs.declared.row.Value.{Value}
use Rattle.row_model.specs.Key.{AreMatches}
use Rattle.row_model.specs.Row.{Rises}
use Rattle.row_model.specs.Table.{Table}
use Rattle.hol_history.proofs.RowsBefore.{not_below}
use Rattle.history_orders.specs.Older.{HasMatches}
use Rattle.history_orders.proofs.Matching.{Matches}

-- Sorted and each once, they rise.
pub rises : (sorted apart listed : List ℕ) → IsSorted nat_cmp sorted → apart ≡ dedup eqb sorted → listed ≡ apart → IsStrictlyIncreasing listed
rises sorted apart listed climbs is same = subst IsStrictlyIncreasing (sym (same ∙ is)) (IsStrictlyIncreasing-dedup sorted climbs)

-- They are still there.
pub still_there : (among sorted apart listed : List ℕ) → IsPermutation among sorted → apart ≡ dedup eqb sorted → listed ≡ apart → (ordinal : ℕ) → Contains among ordinal → Contains listed ordinal
still_there among sorted apart listed moved is same ordinal there =
    subst (λ (os : List ℕ). Contains os ordinal) (sym (same ∙ is)) (Contains-dedup_nat sorted ordinal (Contains-permutation among sorted ordinal moved there))

module _ (schemas : List Schema) (table : Table) (t : ℕ) (paths : List Path) (key : List Value) (among : List ℕ) where
  -- Of the first so many ordinals these are the ones whose rows have the key, rising.
  pub record AreMatchesOf (place : ℕ) (ordinals : List ℕ) : Type 0 where
    pub rising : Rises ordinals
    pub places : (ordinal : ℕ) → Contains ordinals ordinal → (i : ℕ) × (i < place) × (get_or among i 0 ≡ ordinal)
    pub match : (ordinal : ℕ) → Contains ordinals ordinal → Matches schemas table t paths key ordinal
    pub listed : (i : ℕ) → i < place → Matches schemas table t paths key (get_or among i 0) → Contains ordinals (get_or among i 0)

  pub all_among : (place : ℕ) (ordinals : List ℕ) → length among ≤ place → HasMatches schemas table t paths key among → AreMatchesOf place ordinals → AreMatches schemas table t paths key ordinals
  all_among place ordinals past whole so_far = record {
    rising = so_far.rising;
    are = λ ordinal. (λ listed. so_far.match ordinal listed, λ found. there ordinal found (whole ordinal found.0 found.1));
  }
    where
      there : (ordinal : ℕ) → Matches schemas table t paths key ordinal → Contains among ordinal → Contains ordinals ordinal
      there ordinal found (i, inside, at) =
          let same : get_or among i 0 ≡ ordinal = get_or_default among i 0 ordinal inside ∙ at in
          subst (Contains ordinals) same (so_far.listed i (omega (arith, inside, past)) (subst (Matches schemas table t paths key) (sym same) found))

  module _ (place ordinal : ℕ) (ordinals : List ℕ) (inside : place < length among) (at : get_or among place 0 ≡ ordinal) (so_far : AreMatchesOf place ordinals) where
    pub none_more : (¬ Matches schemas table t paths key ordinal) → AreMatchesOf (place + 1) ordinals
    none_more never = record {
      rising = so_far.rising;
      places = λ o listed. (let earlier = so_far.places o listed in (earlier.0, omega (arith, earlier.1), earlier.2));
      match = so_far.match;
      listed = λ i low found. by i low found (cases_lt i place);
    }
      where
        by : (i : ℕ) → i < place + 1 → Matches schemas table t paths key (get_or among i 0) → (i < place) ⊎ (place ≤ i) → Contains ordinals (get_or among i 0)
        by i low found (inl before) = so_far.listed i before found
        by i low found (inr past) = absurd (never (subst (Matches schemas table t paths key) (subst (λ (j : ℕ). get_or among j 0 ≡ ordinal) (omega (arith, low, past)) at) found))

    pub one_more : IsStrictlyIncreasing among → Matches schemas table t paths key ordinal → AreMatchesOf (place + 1) (ordinals ++ ordinal ∷ [])
    one_more climbs here = record {
      rising = all_pairs_push (λ earlier later. earlier < later) ordinals ordinal so_far.rising below;
      places = λ o listed. placed o (Contains-push_cases ordinals ordinal o listed);
      match = λ o listed. matched o (Contains-push_cases ordinals ordinal o listed);
      listed = λ i low found. by i low found (cases_lt i place);
    }
      where
        below : All (λ earlier. earlier < ordinal) ordinals
        below = λ k d within.
            let earlier = so_far.places (get_or ordinals k d) (Contains-get_or ordinals k d within) in
            let next = climbs earlier.0 (omega (arith, earlier.1, inside)) in
            let later = not_below among climbs (earlier.0 + 1) place (omega (arith, earlier.1)) inside in
            omega (arith, next, later, earlier.2, at)

        placed : (o : ℕ) → Contains ordinals o ⊎ (ordinal ≡ o) → (i : ℕ) × (i < place + 1) × (get_or among i 0 ≡ o)
        placed o (inl before) = let earlier = so_far.places o before in (earlier.0, omega (arith, earlier.1), earlier.2)
        placed o (inr same) = (place, omega arith, at ∙ same)

        matched : (o : ℕ) → Contains ordinals o ⊎ (ordinal ≡ o) → Matches schemas table t paths key o
        matched o (inl before) = so_far.match o before
        matched o (inr same) = subst (Matches schemas table t paths key) same here

        by : (i : ℕ) → i < place + 1 → Matches schemas table t paths key (get_or among i 0) → (i < place) ⊎ (place ≤ i) → Contains (ordinals ++ ordinal ∷ []) (get_or among i 0)
        by i low found (inl before) = Contains-append_left ordinals (ordinal ∷ []) (get_or among i 0) (so_far.listed i before found)
        by i low found (inr past) =
            subst (Contains (ordinals ++ ordinal ∷ [])) (sym (subst (λ (j : ℕ). get_or among j 0 ≡ ordinal) (omega (arith, low, past)) at)) (Contains-push ordinals ordinal)

-- Entries by key: those whose keys rise are the entries of the map that is made of them, and so, in their order, are those whose keys differ.
use Rattle.std.proofs.Common.{◌≡◌, ℕ, List, [], ◌∷◌, true, false, Bool, ◌&&◌, T, refl, sym, ap, subst, ◌∙◌}
use Rattle.std.specs.declared.cmp.Ordering.{Ordering}
use Rattle.std.specs.declared.cmp.Ordering.TheVariants.{Less, Equal, Greater}
use Rattle.std.specs.Ordering.{is_eq, is_lt, nat_cmp, eq_by_cmp}
use Rattle.std.specs.Cmp.{nat_cmp_total}
use Rattle.std.specs.List.{AllByRecursion, IsDistinct}
use Rattle.std.specs.List.Sorted.{IsPermutation, IsStrictlySortedBy}
use Rattle.std.specs.Map.{keys_of}
use Rattle.std.specs.FinMap.{FinMap, entries, entries_sorted, entries-insert, entries-from_sorted, from_entries, from_sorted, get-entries, get-from_entries, get-from_sorted, nat_cmp-IsAntisymmetric, same_map}
use Rattle.std.specs.FinMap.Entries.{below_all, by_order, is_sorted, put}
use Rattle.std.proofs.lemmas.Bool.{and_parts, true≢false}
use Rattle.std.proofs.lemmas.List.Sorted.{IsPermutation-refl, IsPermutation-sym, IsPermutation-trans, IsPermutation-cons, IsPermutation-middle, IsPermutation-map, All-permutation}
use Rattle.std.proofs.lemmas.List.Elements.{All-from_recursion, recursion_from_All}
use Rattle.std.proofs.lemmas.Map.Keys.{IsDistinct-head, IsDistinct-tail}

-- ---- sorted entries

is_less : (order : Ordering) → is_lt order ≡ true → order ≡ Less
is_less Less e = refl
is_less Equal e = absurd cc
is_less Greater e = absurd cc

both : (a b : Bool) → T a → T b → T (a && b)
both true b p q = q
both false b p q = absurd p

is_true : (b : Bool) → T b → b ≡ true
is_true true h = refl
is_true false h = absurd h

module _ {X : Type 0} where
  below_from : (key : ℕ) (es : List (ℕ × X)) → AllByRecursion (λ other. nat_cmp key other ≡ Less) (keys_of es) → T (below_all nat_cmp key es)
  below_from key [] all = tt
  below_from key (e ∷ es) all = subst (λ order. T (is_lt order && below_all nat_cmp key es)) (sym all.0) (below_from key es all.1)

  -- entries whose keys rise are sorted
  pub sorted_from : (es : List (ℕ × X)) → IsStrictlySortedBy nat_cmp (keys_of es) → T (is_sorted nat_cmp es)
  unfolding IsStrictlySortedBy
  sorted_from [] rises = tt
  sorted_from (e ∷ es) rises = both _ _ (below_from e.0 es rises.0) (sorted_from es rises.1)

  above_first : (key : ℕ) (es : List (ℕ × X)) → below_all nat_cmp key es ≡ true → AllByRecursion (λ other. nat_cmp key other ≡ Less) (keys_of es)
  above_first key [] below = tt
  above_first key (e ∷ es) below = let parts = and_parts _ _ below in (is_less (nat_cmp key e.0) parts.0, above_first key es parts.1)

  -- and the other way round
  pub rises_from : (es : List (ℕ × X)) → is_sorted nat_cmp es ≡ true → IsStrictlySortedBy nat_cmp (keys_of es)
  unfolding IsStrictlySortedBy
  rises_from [] sorted = tt
  rises_from (e ∷ es) sorted = let parts = and_parts _ _ sorted in (above_first e.0 es parts.0, rises_from es parts.1)

  pub entries_rise : (m : FinMap nat_cmp X) → IsStrictlySortedBy nat_cmp (keys_of (entries m))
  entries_rise m = rises_from (entries m) (is_true _ (entries_sorted m))

  -- the map of sorted entries has these
  pub entries_back : (es : List (ℕ × X)) → T (is_sorted nat_cmp es) → entries (from_entries {R = nat_cmp} es) ≡ es
  entries_back es sorted =
      ap entries (same_map nat_cmp_total nat_cmp-IsAntisymmetric (from_entries es) (from_sorted es) (λ q. get-from_entries nat_cmp_total es q ∙ sym (get-from_sorted nat_cmp es q sorted)))
      ∙ entries-from_sorted nat_cmp es sorted

  -- the map of the entries of a map is this one
  pub map_back : (m : FinMap nat_cmp X) → from_entries (entries m) ≡ m
  map_back m = same_map nat_cmp_total nat_cmp-IsAntisymmetric (from_entries (entries m)) m (λ q. get-from_entries nat_cmp_total (entries m) q ∙ sym (get-entries m q))

  -- ---- keys that differ

  -- an entry whose key no other one has is put between them
  put_permutes : (key : ℕ) (value : X) (es : List (ℕ × X)) → AllByRecursion (λ other. eq_by_cmp nat_cmp key other ≡ false) (keys_of es) → IsPermutation ((key, value) ∷ es) (put nat_cmp key value es)
  put_permutes key value [] apart = IsPermutation-refl ((key, value) ∷ [])
  put_permutes key value (e ∷ es) apart =
      elim (nat_cmp key e.0) as (λ order. is_eq order ≡ false → IsPermutation ((key, value) ∷ e ∷ es) (by_order order ((key, value) ∷ e ∷ es) ((e.0, value) ∷ es) (e ∷ put nat_cmp key value es))) [
        | Less ↦ λ other. IsPermutation-refl ((key, value) ∷ e ∷ es)
        | Equal ↦ λ other. absurd (true≢false other)
        | Greater ↦ λ other. IsPermutation-trans _ _ _ (IsPermutation-sym _ _ (IsPermutation-middle (e ∷ []) (key, value) es)) (IsPermutation-cons e _ _ (put_permutes key value es apart.1))
      ] apart.0

  all_keys : (P : ℕ → Type 0) (es fs : List (ℕ × X)) → IsPermutation es fs → AllByRecursion P (keys_of es) → AllByRecursion P (keys_of fs)
  all_keys P es fs same all = recursion_from_All P (keys_of fs) (All-permutation P (keys_of es) (keys_of fs) (IsPermutation-map (λ e. e.0) es fs same) (All-from_recursion P (keys_of es) all))

  -- the map of entries whose keys differ has these, in the keys' order
  pub entries_permute : (es : List (ℕ × X)) → IsDistinct (eq_by_cmp nat_cmp) (keys_of es) → IsPermutation es (entries (from_entries {R = nat_cmp} es))
  entries_permute [] distinct = subst (IsPermutation []) (sym (entries_back [] tt)) (IsPermutation-refl [])
  entries_permute (e ∷ es) distinct =
      let rest = entries_permute es (IsDistinct-tail (eq_by_cmp nat_cmp) e.0 (keys_of es) distinct) in
      let apart = all_keys (λ other. eq_by_cmp nat_cmp e.0 other ≡ false) es (entries (from_entries es)) rest (IsDistinct-head (eq_by_cmp nat_cmp) e.0 (keys_of es) distinct) in
      subst (IsPermutation (e ∷ es)) (sym (entries-insert nat_cmp_total (from_entries es) e.0 e.1))
      (IsPermutation-trans _ _ _ (IsPermutation-cons e es (entries (from_entries es)) rest) (put_permutes e.0 e.1 (entries (from_entries es)) apart))

  -- ---- one entry after another

  -- Entries that are put in one after another, from the last one on.
  abbrev pub put_all : List (ℕ × X) → List (ℕ × X)
  put_all [] = []
  put_all (e ∷ es) = put nat_cmp e.0 e.1 (put_all es)

  pub entries_put : (es : List (ℕ × X)) → entries (from_entries {R = nat_cmp} es) ≡ put_all es
  entries_put [] = entries_back [] tt
  entries_put (e ∷ es) = entries-insert nat_cmp_total (from_entries es) e.0 e.1 ∙ ap (put nat_cmp e.0 e.1) (entries_put es)

-- Look-ups among entries of any kind whose ordinals rise.
use Rattle.std.proofs.Common.{◌≡◌, ℕ, zero, suc, ◌+◌, ◌<◌, ◌≤◌, inl, inr, List, [], ◌∷◌, length, get_or, cond, true, None, Some, refl, ap, sym, subst, ◌∙◌, arith}
use Rattle.std.specs.Prelude.{All, is_some, IsSome}
use Rattle.std.specs.Ordering.{nat_cmp, eq_by_cmp}
use Rattle.std.specs.FinMap.{find}
use Rattle.std.specs.Map.{keys_of}
use Rattle.std.specs.List.Sorted.{IsStrictlySortedBy}
use Rattle.std.proofs.lemmas.Bool.{cases_eq, false≢true}
use Rattle.std.proofs.lemmas.List.{get_or-map, length-map}
use Rattle.std.proofs.lemmas.Map.Keys.{below_from_sorted}
use Rattle.type_rows.proofs.Rising.{RiseFrom}
use Rattle.type_rows.proofs.DifferingAt.{other_key, same_key}

-- A look-up skips another key, and finds an equal one.
pub skipped : {X : Type 0} (q : ℕ) (e : ℕ × X) (es : List (ℕ × X)) → (q ≡ e.0 → ⊥) → find nat_cmp q (e ∷ es) ≡ find nat_cmp q es
skipped q e es other = ap (λ b. cond b (Some e.1) (find nat_cmp q es)) (other_key q e.0 other)

pub found : {X : Type 0} (q : ℕ) (e : ℕ × X) (es : List (ℕ × X)) → q ≡ e.0 → find nat_cmp q (e ∷ es) ≡ Some e.1
found q e es same = ap (λ b. cond b (Some e.1) (find nat_cmp q es)) (subst (λ o. eq_by_cmp nat_cmp q o ≡ true) same (same_key q))

-- Below the first key nothing is found.
pub none_below : {X : Type 0} (q low : ℕ) (es : List (ℕ × X)) → q < low → RiseFrom low (keys_of es) → find nat_cmp q es ≡ None
none_below q low [] lt h = refl
none_below q low (e ∷ es) lt h = skipped q e es (λ same. omega (arith, same, h.0)) ∙ none_below q (e.0 + 1) es (omega (arith, h.0)) h.1

above_first : {X : Type 0} (low : ℕ) (es : List (ℕ × X)) (at : ℕ) (d : ℕ × X) → RiseFrom low (keys_of es) → at < length es → low ≤ (get_or es at d).0
above_first low [] at d rise inside = absurd (omega arith)
above_first low (e ∷ es) zero d rise inside = rise.0
above_first low (e ∷ es) (suc at) d rise inside = let above = above_first (e.0 + 1) es at d rise.1 (omega arith) in omega (arith, above, rise.0)

-- What an entry has under its key is found there.
pub found_at : {X : Type 0} (low : ℕ) (es : List (ℕ × X)) (q at : ℕ) (d : ℕ × X) → RiseFrom low (keys_of es) → at < length es → (get_or es at d).0 ≡ q → find nat_cmp q es ≡ Some (get_or es at d).1
found_at low [] q at d rise inside is = absurd (omega arith)
found_at low (e ∷ es) q zero d rise inside is = found q e es (sym is)
found_at low (e ∷ es) q (suc at) d rise inside is =
    let above = above_first (e.0 + 1) es at d rise.1 (omega arith) in
    skipped q e es (λ same. omega (arith, same, is, above)) ∙ found_at (e.0 + 1) es q at d rise.1 (omega arith) is

still_live : {X : Type 0} (o : ℕ) (e : ℕ × X) (es : List (ℕ × X)) → IsSome (find nat_cmp o es) → IsSome (find nat_cmp o (e ∷ es))
still_live o e es some = elim (cases_eq o e.0) [
  | inl same ↦ ap is_some (found o e es same)
  | inr other ↦ subst IsSome (sym (skipped o e es other)) some
]

-- A key is found.
pub key_live : {X : Type 0} (es : List (ℕ × X)) (k d : ℕ) → k < length (keys_of es) → IsSome (find nat_cmp (get_or (keys_of es) k d) es)
key_live [] k d inside = absurd (omega arith)
key_live (e ∷ es) zero d inside = ap is_some (found e.0 e es refl)
key_live (e ∷ es) (suc k) d inside = still_live (get_or (keys_of es) k d) e es (key_live es k d (omega arith))

-- What holds of each key holds of one that is found.
pub found_below : {X : Type 0} (o limit : ℕ) (es : List (ℕ × X)) → All (λ e. e.0 < limit) es → IsSome (find nat_cmp o es) → o < limit
found_below o limit [] small some = absurd (false≢true some)
found_below o limit (e ∷ es) small some = elim (cases_eq o e.0) [
  | inl same ↦ (let low = small 0 e (omega arith) in omega (arith, same, low))
  | inr other ↦ found_below o limit es (λ k d inside. small (suc k) d (omega arith)) (subst IsSome (skipped o e es other) some)
]

-- ---- keys that rise

pub keys_rise : {X : Type 0} (es : List (ℕ × X)) (i j : ℕ) (d : ℕ × X) → IsStrictlySortedBy nat_cmp (keys_of es) → i < j → j < length es → (get_or es i d).0 < (get_or es j d).0
keys_rise {X} es i j d sorted before inside =
    let low = get_or-map (λ (e : ℕ × X). e.0) es i d 0 (omega arith) in
    let high = get_or-map (λ (e : ℕ × X). e.0) es j d 0 inside in
    let long = length-map es (λ (e : ℕ × X). e.0) in
    let rise = below_from_sorted (keys_of es) i j 0 sorted before (omega (arith, long, inside)) in
    omega (arith, rise, low, high)

-- Numbers of which none stands twice, in their order.
use Rattle.std.proofs.Common.{◌≡◌, ◌<◌, ◌+◌, ◌⊎◌, inl, inr, ℕ, suc, List, [], ◌∷◌, length, get_or, refl, sym, ◌∙◌, subst, arith}
use Rattle.std.specs.Prelude.{◌≢◌, ◌↔◌, All, AllPairs, Contains}
use Rattle.std.proofs.lemmas.Bool.{cases_lt}
use Rattle.std.proofs.lemmas.List.Elements.{Contains-get_or}
use Rattle.std.proofs.lemmas.List.Kept.{AllPairs-cons}
use Rattle.row_model.specs.Row.{Rises}
use Rattle.key_index.proofs.Lists.{contains_either, contains_first, contains_later}

above : (x : ℕ) (xs : List ℕ) → Rises (x ∷ xs) → (o : ℕ) → Contains xs o → x < o
above x xs rises o (k, within, is) = subst (λ (v : ℕ). x < v) is (rises 0 (suc k) o (omega arith) (omega (arith, within)))

later : (x : ℕ) (xs : List ℕ) → Rises (x ∷ xs) → Rises xs
later x xs rises = λ i j d before within. rises (suc i) (suc j) d (omega (arith, before)) (omega (arith, within))

first_rises : (x : ℕ) (xs : List ℕ) → ((o : ℕ) → Contains xs o → x < o) → Rises xs → Rises (x ∷ xs)
first_rises x xs low rises = AllPairs-cons (λ (earlier later : ℕ). earlier < later) x xs (λ k d within. low (get_or xs k d) (Contains-get_or xs k d within)) rises

-- a list with one more
abbrev pub HasOneMore : ℕ → List ℕ → List ℕ → Type 0
HasOneMore n xs ys = Rises ys × ((o : ℕ) → Contains ys o ↔ ((n ≡ o) ⊎ Contains xs o)) × (length ys ≡ length xs + 1)

put_first : (n : ℕ) (xs : List ℕ) → ((o : ℕ) → Contains xs o → n < o) → Rises xs → HasOneMore n xs (n ∷ xs)
put_first n xs low rises = (
  first_rises n xs low rises,
  λ o. (λ among. contains_either n o xs among, elim [ inl same ↦ contains_first n o xs same | inr among ↦ contains_later n o xs among ]),
  omega arith,
)

put_behind : (n x : ℕ) (xs ys : List ℕ) → Rises (x ∷ xs) → x < n → HasOneMore n xs ys → HasOneMore n (x ∷ xs) (x ∷ ys)
put_behind n x xs ys rises low (rise, are, long) = (
  first_rises x ys (λ o among. elim ((are o).0 among) [ inl same ↦ subst (λ (v : ℕ). x < v) same low | inr behind ↦ above x xs rises o behind ]) rise,
  λ o. (
    λ among. elim (contains_either x o ys among) [
      | inl same ↦ inr (contains_first x o xs same)
      | inr behind ↦ elim ((are o).0 behind) [ inl same ↦ inl same | inr there ↦ inr (contains_later x o xs there) ]
    ],
    elim [
      | inl same ↦ contains_later x o ys ((are o).1 (inl same))
      | inr among ↦ elim (contains_either x o xs among) [ inl same ↦ contains_first x o ys same | inr behind ↦ contains_later x o ys ((are o).1 (inr behind)) ]
    ],
  ),
  omega (arith, long),
)

-- numbers that rise, with one that is none of them
rising_with : (n : ℕ) (xs : List ℕ) → Rises xs → (Contains xs n → ⊥) → (ys : List ℕ) × HasOneMore n xs ys
rising_with n [] rises none = (n ∷ [], put_first n [] (λ o among. let inside = among.1 in absurd (omega (arith, inside))) rises)
rising_with n (x ∷ xs) rises none =
    elim (cases_lt n x) [
      | inl below ↦
          (n ∷ x ∷ xs, put_first n (x ∷ xs) (λ o among. elim (contains_either x o xs among) [ inl same ↦ subst (λ (v : ℕ). n < v) same below | inr behind ↦ let high = above x xs rises o behind in omega (arith, high, below) ]) rises)
      | inr not_below ↦
          let rest = rising_with n xs (later x xs rises) (λ among. none (contains_later x n xs among)) in
          let other : x ≡ n → ⊥ = λ same. none (contains_first x n xs same) in
          let low : x < n = elim (cases_lt x n) [ inl here ↦ here | inr high ↦ absurd (other (omega (arith, not_below, high))) ] in
          (x ∷ rest.0, put_behind n x xs rest.0 rises low rest.1)
    ]

-- of numbers of which none stands twice there are as many in their order
pub rising_of : (xs : List ℕ) → AllPairs (λ (earlier later : ℕ). earlier ≢ later) xs → (ys : List ℕ) × Rises ys × ((o : ℕ) → Contains ys o ↔ Contains xs o) × (length ys ≡ length xs)
rising_of [] apart = ([], (λ i j d before within. absurd (omega (arith, within))), (λ o. (λ among. among, λ among. among)), refl)
rising_of (x ∷ xs) apart =
    let (ys, rise, are, long) = rising_of xs (λ i j d before within. apart (suc i) (suc j) d (omega (arith, before)) (omega (arith, within))) in
    let none : Contains ys x → ⊥ = λ among. let (k, within, is) = (are x).0 among in apart 0 (suc k) x (omega arith) (omega (arith, within)) (sym is) in
    let grown = rising_with x ys rise none in
    let has = grown.1.1 in
    let longer = grown.1.2 in (
      grown.0,
      grown.1.0,
      λ o. (
        λ among. elim ((has o).0 among) [ inl same ↦ contains_first x o xs same | inr behind ↦ contains_later x o xs ((are o).0 behind) ],
        λ among. elim (contains_either x o xs among) [ inl same ↦ (has o).1 (inl same) | inr behind ↦ (has o).1 (inr ((are o).1 behind)) ],
      ),
      omega (arith, longer, long),
    )

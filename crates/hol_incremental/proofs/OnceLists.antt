-- Lists in which no row stands twice.
use Rattle.std.proofs.Common.{◌∙◌, ◌⊎◌, ◌≢◌, ℕ, suc, List, [], ◌∷◌, ◌++◌, get_or, sym, ap, subst, inl, inr, arith}
use Rattle.std.specs.Prelude.{All, AllPairs, Contains}
use Rattle.std.proofs.lemmas.List.Elements.{All-contains, Contains-append_cases, Contains-append_left, Contains-append_right, Contains-get_or}
use Rattle.std.proofs.lemmas.List.Kept.{AllPairs-cons}
use Rattle.hol_incremental.proofs.Among.{first_in, later_in, none_in, parted}
use Rattle.hol_incremental.proofs.PutRows.{is_there}

module _ {X : Type 0} where
  -- what holds of all that a list contains holds of all of the list
  pub all_of : (P : X → Type 0) (xs : List X) → ((x : X) → Contains xs x → P x) → All P xs
  all_of P xs each k d within = each (get_or xs k d) (Contains-get_or xs k d within)

  abbrev pub IsOnce : List X → Type 0
  IsOnce xs = AllPairs (λ a b. a ≢ b) xs

  pub none_once : IsOnce []
  none_once i j d before within = absurd (omega (arith, within))

  pub rest_once : (x : X) (xs : List X) → IsOnce (x ∷ xs) → IsOnce xs
  rest_once x xs once i j d before within = once (suc i) (suc j) d (omega (arith, before)) (omega (arith, within))

  pub first_once : (x : X) (xs : List X) → IsOnce (x ∷ xs) → (y : X) → Contains xs y → x ≢ y
  first_once x xs once y among =
      All-contains (λ z. x ≢ z) xs y (λ k d within. once 0 (suc k) d (omega arith) (omega (arith, within))) among

  pub more_once : (x : X) (xs : List X) → ((y : X) → Contains xs y → x ≢ y) → IsOnce xs → IsOnce (x ∷ xs)
  more_once x xs apart once = AllPairs-cons (λ a b. a ≢ b) x xs (all_of (λ y. x ≢ y) xs apart) once

  -- two lists that have none in common, one behind the other
  pub append_once : (xs ys : List X) → IsOnce xs → IsOnce ys → ((x : X) → Contains xs x → Contains ys x → ⊥) → IsOnce (xs ++ ys)
  append_once [] ys once once' apart = once'
  append_once (x ∷ xs) ys once once' apart =
      more_once x (xs ++ ys)
      (λ y among same.
      (elim (Contains-append_cases xs ys y among) [
        | inl here ↦ first_once x xs once y here same
        | inr there ↦ apart x (first_in x xs) (subst (λ z. Contains ys z) (sym same) there)
      ]))
      (append_once xs ys (rest_once x xs once) once' (λ z here there. apart z (later_in x xs z here) there))

  -- the front of such a list
  pub front_once : (xs ys : List X) → IsOnce (xs ++ ys) → IsOnce xs
  front_once [] ys once = none_once
  front_once (x ∷ xs) ys once =
      more_once x xs (λ y among. first_once x (xs ++ ys) once y (Contains-append_left xs ys y among)) (front_once xs ys (rest_once x (xs ++ ys) once))

  -- the last one is apart from those before it
  pub last_once : (xs : List X) (y : X) → IsOnce (xs ++ y ∷ []) → (x : X) → Contains xs x → x ≢ y
  last_once [] y once x among same = absurd (none_in x among)
  last_once (z ∷ xs) y once x among same =
      elim (parted z xs x among) [
        | inl here ↦ first_once z (xs ++ y ∷ []) once y (Contains-append_right xs (y ∷ []) y (first_in y [])) (here ∙ same)
        | inr there ↦ last_once xs y (rest_once z (xs ++ y ∷ []) once) x there same
      ]

-- whether a row is among some
pub among_or : (xs : List (ℕ × ℕ)) (t o : ℕ) → Contains xs (t, o) ⊎ (Contains xs (t, o) → ⊥)
among_or [] t o = inr (λ among. none_in (t, o) among)
among_or (x ∷ xs) t o =
    elim (is_there t o x.0 x.1) [
      | inl here ↦ inl (subst (λ y. Contains (x ∷ xs) y) (λ i. (here.0 i, here.1 i)) (first_in x xs))
      | inr apart ↦
          elim (among_or xs t o) [
            | inl there ↦ inl (later_in x xs (t, o) there)
            | inr none ↦
                inr (λ among.
                (elim (parted x xs (t, o) among) [
                  | inl same ↦ apart (ap (λ (y : ℕ × ℕ). y.0) same, ap (λ (y : ℕ × ℕ). y.1) same)
                  | inr there ↦ none there
                ]))
          ]
    ]

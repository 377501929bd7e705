-- Sets of rows as sets of ordinals.
use Rattle.std.proofs.Common.{◌≡◌, ◌∙◌, ◌<◌, ◌≤◌, ◌⊎◌, ℕ, zero, suc, List, [], ◌∷◌, ◌++◌, length, get_or, slice_set, refl, sym, ap, subst, inl, inr, arith}
use Rattle.std.specs.Prelude.{◌↔◌, Contains}
use Rattle.std.proofs.lemmas.Bool.{cases_eq}
use Rattle.std.proofs.lemmas.List.Elements.{Contains-append_cases, Contains-append_left, Contains-append_right}
use Rattle.ordinal_set.specs.Ordinals.{with_ordinal}
use Rattle.ordinal_set.proofs.Members.{Contains-with_ordinal_cases, Contains-with_ordinal_itself, Contains-with_ordinal_kept}
use Rattle.hol_incremental.specs.RowSets.{IsSetOf}
use Rattle.hol_incremental.proofs.Among.{first_in, none_in, parted}
use Rattle.hol_incremental.proofs.CountLists.{set_beside, set_here}

-- past the lists there is an empty one
pub past_list : (xs : List (List ℕ)) (k : ℕ) → length xs ≤ k → get_or xs k [] ≡ []
past_list [] k past = refl
past_list (x ∷ xs) zero past = absurd (omega (arith, past))
past_list (x ∷ xs) (suc k) past = past_list xs k (omega (arith, past))

-- the bit of a row is set
module _ (old wide : List (List ℕ)) (t o : ℕ) (inside : t < length wide) (same : (u : ℕ) → get_or wide u [] ≡ get_or old u []) where
  abbrev new : List (List ℕ)
  new = slice_set wide t (with_ordinal o (get_or wide t []))

  at_it : (u : ℕ) → u ≡ t → get_or new u [] ≡ with_ordinal o (get_or wide t [])
  at_it u is = ap (λ n. get_or new n []) is ∙ set_here wide t (with_ordinal o (get_or wide t [])) [] inside

  beside_it : (u : ℕ) → (u ≡ t → ⊥) → get_or new u [] ≡ get_or old u []
  beside_it u apart = set_beside wide t u (with_ordinal o (get_or wide t [])) [] apart ∙ same u

  old_it : (u : ℕ) → u ≡ t → get_or wide t [] ≡ get_or old u []
  old_it u is = same t ∙ ap (λ n. get_or old n []) (sym is)

  forth : (u q : ℕ) → Contains (get_or new u []) q → Contains (get_or old u []) q ⊎ ◌≡◌ {A = ℕ × ℕ} (u, q) (t, o)
  forth u q among =
      elim (cases_eq u t) [
        | inr apart ↦ inl (subst (λ xs. Contains xs q) (beside_it u apart) among)
        | inl is ↦
            elim (Contains-with_ordinal_cases o (get_or wide t []) q (subst (λ xs. Contains xs q) (at_it u is) among)) [
              | inl here ↦ inl (subst (λ xs. Contains xs q) (old_it u is) here)
              | inr e ↦ inr (λ i. (is i, sym e i))
            ]
      ]

  back : (u q : ℕ) → Contains (get_or old u []) q ⊎ ◌≡◌ {A = ℕ × ℕ} (u, q) (t, o) → Contains (get_or new u []) q
  back u q (inr e) =
      let is : u ≡ t = ap (λ (row : ℕ × ℕ). row.0) e in
      let at : q ≡ o = ap (λ (row : ℕ × ℕ). row.1) e in
      subst (λ xs. Contains xs q) (sym (at_it u is)) (subst (λ n. Contains (with_ordinal o (get_or wide t [])) n) (sym at) (Contains-with_ordinal_itself o (get_or wide t [])))
  back u q (inl here) =
      elim (cases_eq u t) [
        | inr apart ↦ subst (λ xs. Contains xs q) (sym (beside_it u apart)) here
        | inl is ↦ subst (λ xs. Contains xs q) (sym (at_it u is)) (Contains-with_ordinal_kept o (get_or wide t []) q (subst (λ xs. Contains xs q) (sym (old_it u is)) here))
      ]

  pub bit_put : (u q : ℕ) → Contains (get_or (slice_set wide t (with_ordinal o (get_or wide t []))) u []) q ↔ (Contains (get_or old u []) q ⊎ ◌≡◌ {A = ℕ × ℕ} (u, q) (t, o))
  bit_put u q = (forth u q, back u q)

-- nothing has changed
pub bit_kept : (old wide : List (List ℕ)) (t : ℕ) (set : List ℕ) → t < length wide → ((u : ℕ) → get_or wide u [] ≡ get_or old u []) → set ≡ get_or wide t [] → (u q : ℕ)
    → Contains (get_or (slice_set wide t set) u []) q ↔ Contains (get_or old u []) q
bit_kept old wide t set inside same is u q = ((λ among. subst (λ xs. Contains xs q) list among), (λ among. subst (λ xs. Contains xs q) (sym list) among))
  where
    list : get_or (slice_set wide t set) u [] ≡ get_or old u []
    list =
        elim (cases_eq u t) [
          | inl e ↦ ap (λ n. get_or (slice_set wide t set) n []) e ∙ set_here wide t set [] inside ∙ is ∙ same t ∙ ap (λ n. get_or old n []) (sym e)
          | inr apart ↦ set_beside wide t u set [] apart ∙ same u
        ]

-- the rows and the bits have one more
pub set_more : (rows : List (ℕ × ℕ)) (old wide : List (List ℕ)) (row : ℕ × ℕ) → IsSetOf rows old → ((t o : ℕ) → Contains (get_or wide t []) o ↔ (Contains (get_or old t []) o ⊎ ◌≡◌ {A = ℕ × ℕ} (t, o) row)) → IsSetOf (rows ++ row ∷ []) wide
set_more rows old wide row is more t o = (forth, back)
  where
    forth : Contains (get_or wide t []) o → Contains (rows ++ row ∷ []) (t, o)
    forth among =
        elim ((more t o).0 among) [
          | inl here ↦ Contains-append_left rows (row ∷ []) (t, o) ((is t o).0 here)
          | inr e ↦ subst (λ r. Contains (rows ++ row ∷ []) r) (sym e) (Contains-append_right rows (row ∷ []) row (first_in row []))
        ]

    back : Contains (rows ++ row ∷ []) (t, o) → Contains (get_or wide t []) o
    back among =
        elim (Contains-append_cases rows (row ∷ []) (t, o) among) [
          | inl here ↦ (more t o).1 (inl ((is t o).1 here))
          | inr last ↦
              elim (parted row [] (t, o) last) [
                | inl e ↦ (more t o).1 (inr (sym e))
                | inr none ↦ absurd (none_in (t, o) none)
              ]
        ]

-- the bits are as before
pub set_kept : (rows : List (ℕ × ℕ)) (old wide : List (List ℕ)) → IsSetOf rows old → ((t o : ℕ) → Contains (get_or wide t []) o ↔ Contains (get_or old t []) o) → IsSetOf rows wide
set_kept rows old wide is same t o = ((λ among. (is t o).0 ((same t o).0 among)), (λ among. (same t o).1 ((is t o).1 among)))

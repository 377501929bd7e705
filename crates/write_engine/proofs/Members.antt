-- What holds of each element that was added holds of each member of the set or map.
use Rattle.std.proofs.Common.{◌≡◌, ℕ, zero, suc, ◌<◌, true, false, List, [], ◌∷◌, map, length, get_or, Some, refl, sym, ap, subst, ◌∙◌, inl, inr, arith}
use Rattle.std.specs.Prelude.{nat_eq, All}
use Rattle.std.specs.Map.{lookup}
use Rattle.std.proofs.lemmas.Bool.{cases_eq, cond-true, cond-false}
use Rattle.std.proofs.lemmas.List.{get_or_default}
use Rattle.std.proofs.lemmas.List.Elements.{All-head, All-tail}
use Rattle.row_model.specs.Row.{Rises}
use Rattle.write_engine.specs.Cycle.{IsSetOf, IsMapOf}

pub same_test : (q k : ℕ) → q ≡ k → nat_eq q k ≡ true
same_test q k e = grind arith

pub apart_test : (q k : ℕ) → (q ≡ k → ⊥) → nat_eq q k ≡ false
apart_test q k e = grind arith

pub all_members : (P : ℕ → Type 0) (elements members : List ℕ) → IsSetOf elements members → All P elements → All P members
all_members P elements members is all = λ k d inside.
    let among = (is.same (get_or members k d)).0 (k, inside, get_or_default members k _ d inside) in
    subst P among.2 (all among.0 _ among.1)

lookup_all : (P : ℕ × ℕ → Type 0) (es : List (ℕ × ℕ)) → All P es → (q v : ℕ) → lookup (nat_eq q) es ≡ Some v → P (q, v)
lookup_all P [] all q v found = absurd cc
lookup_all P (e ∷ es) all q v found =
    elim (cases_eq q e.0) [
      | inl same ↦
          (let is : Some e.1 ≡ Some v = sym (cond-true (nat_eq q e.0) (Some e.1) (lookup (nat_eq q) es) (same_test q e.0 same)) ∙ found in
          let value : e.1 ≡ v = cc in
          subst (λ w. P (q, w)) value (subst (λ k. P (k, e.1)) (sym same) (All-head P e es all)))
      | inr apart ↦ lookup_all P es (All-tail P e es all) q v (sym (cond-false (nat_eq q e.0) (Some e.1) (lookup (nat_eq q) es) (apart_test q e.0 apart)) ∙ found)
    ]

key_at : (es : List (ℕ × ℕ)) (i : ℕ) (d : ℕ × ℕ) → i < length es → get_or (map (λ pair. pair.0) es) i d.0 ≡ (get_or es i d).0
key_at [] i d inside = absurd (omega arith)
key_at (e ∷ es) zero d inside = refl
key_at (e ∷ es) (suc i) d inside = key_at es i d (omega arith)

length_keys : (es : List (ℕ × ℕ)) → length (map (λ pair. pair.0) es) ≡ length es
length_keys [] = refl
length_keys (e ∷ es) = ap suc (length_keys es)

pub rises_tail : (k : ℕ) (ks : List ℕ) → Rises (k ∷ ks) → Rises ks
rises_tail k ks rises = λ i j d before inside. rises (suc i) (suc j) d (omega arith) (omega arith)

found_at : (es : List (ℕ × ℕ)) → Rises (map (λ pair. pair.0) es) → (i : ℕ) (d : ℕ × ℕ) → i < length es → lookup (nat_eq (get_or es i d).0) es ≡ Some (get_or es i d).1
found_at [] rises i d inside = absurd (omega arith)
found_at (e ∷ es) rises zero d inside = cond-true (nat_eq e.0 e.0) (Some e.1) (lookup (nat_eq e.0) es) (same_test e.0 e.0 refl)
found_at (e ∷ es) rises (suc i) d inside =
    let key = key_at es i d (omega arith) in
    let above : e.0 < get_or (map (λ pair. pair.0) es) i d.0 = rises 0 (suc i) d.0 (omega arith) (omega (arith, length_keys es, inside)) in
    cond-false (nat_eq (get_or es i d).0 e.0) (Some e.1) (lookup (nat_eq (get_or es i d).0) es) (apart_test (get_or es i d).0 e.0 (λ same. omega (arith, key, above, same)))
    ∙ found_at es (rises_tail e.0 (map (λ pair. pair.0) es) rises) i d (omega arith)

pub all_entries : (P : ℕ × ℕ → Type 0) (added members : List (ℕ × ℕ)) → IsMapOf added members → All P added → All P members
all_entries P added members is all = λ k d inside.
    lookup_all P added all (get_or members k d).0 (get_or members k d).1 (sym (is.same (get_or members k d).0) ∙ found_at members is.rising k d inside)

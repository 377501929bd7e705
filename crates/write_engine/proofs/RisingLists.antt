-- A set has one rising list of members, and a map one list of entries by rising key.
use Rattle.std.proofs.Common.{◌≡◌, ℕ, zero, suc, ◌<◌, ◌≤◌, List, [], ◌∷◌, map, length, get_or, Some, None, refl, sym, ap, subst, ◌∙◌, inl, inr, arith, ◌⊎◌, ◌↔◌}
use Rattle.std.specs.Prelude.{nat_eq, Contains}
use Rattle.std.specs.Map.{lookup}
use Rattle.std.proofs.lemmas.Bool.{cases_eq, cases_order, cond-true, cond-false}
use Rattle.row_model.specs.Row.{Rises}
use Rattle.write_engine.specs.Cycle.{IsSetOf, IsMapOf}
use Rattle.write_engine.proofs.Members.{same_test, apart_test, rises_tail}

first_in : (x : ℕ) (xs : List ℕ) → Contains (x ∷ xs) x
first_in x xs = (0, omega arith, refl)

later_in : (x : ℕ) (xs : List ℕ) (q : ℕ) → Contains xs q → Contains (x ∷ xs) q
later_in x xs q among = (suc among.0, (let inside = among.1 in omega arith), among.2)

at_place : (x : ℕ) (xs : List ℕ) (q k : ℕ) → k < length (x ∷ xs) → get_or (x ∷ xs) k q ≡ q → (q ≡ x) ⊎ Contains xs q
at_place x xs q zero inside is = inl (sym is)
at_place x xs q (suc k) inside is = inr (k, omega arith, is)

parted : (x : ℕ) (xs : List ℕ) (q : ℕ) → Contains (x ∷ xs) q → (q ≡ x) ⊎ Contains xs q
parted x xs q among = at_place x xs q among.0 among.1 among.2

above : (x : ℕ) (xs : List ℕ) (q : ℕ) → Rises (x ∷ xs) → Contains xs q → x < q
above x xs q rises among = subst (λ n. x < n) among.2 (rises 0 (suc among.0) q (omega arith) (let inside = among.1 in omega arith))

none_in : (q : ℕ) → Contains [] q → ⊥
none_in q among = let inside = among.1 in omega arith

tail_in : (x : ℕ) (xs ys : List ℕ) (q : ℕ) → Rises (x ∷ xs) → ((q : ℕ) → Contains (x ∷ xs) q → Contains (x ∷ ys) q) → Contains xs q → Contains ys q
tail_in x xs ys q rises up among =
    elim (parted x ys q (up q (later_in x xs q among))) [
      | inl same ↦ absurd (let higher = above x xs q rises among in omega (arith, same, higher))
      | inr there ↦ there
    ]

heads : (x y : ℕ) (xs ys : List ℕ) → Rises (x ∷ xs) → Rises (y ∷ ys) → ((q : ℕ) → Contains (x ∷ xs) q ↔ Contains (y ∷ ys) q) → x ≡ y
heads x y xs ys rises rises' same =
    elim (parted y ys x ((same x).0 (first_in x xs))) [
      | inl e ↦ e
      | inr there ↦
          elim (parted x xs y ((same y).1 (first_in y ys))) [
            | inl e ↦ sym e
            | inr here ↦ absurd (let high = above y ys x rises' there in let low = above x xs y rises here in omega arith)
          ]
    ]

rising_once : (xs ys : List ℕ) → Rises xs → Rises ys → ((q : ℕ) → Contains xs q ↔ Contains ys q) → xs ≡ ys
rising_once [] [] rises rises' same = refl
rising_once [] (y ∷ ys) rises rises' same = absurd (none_in y ((same y).1 (first_in y ys)))
rising_once (x ∷ xs) [] rises rises' same = absurd (none_in x ((same x).0 (first_in x xs)))
rising_once (x ∷ xs) (y ∷ ys) rises rises' same =
    let head = heads x y xs ys rises rises' same in
    let rises'' = subst (λ n. Rises (n ∷ ys)) (sym head) rises' in
    let same' = subst (λ n. (q : ℕ) → Contains (x ∷ xs) q ↔ Contains (n ∷ ys) q) (sym head) same in
    let rest = rising_once xs ys (rises_tail x xs rises) (rises_tail x ys rises'') (λ q. (tail_in x xs ys q rises (λ q. (same' q).0), tail_in x ys xs q rises'' (λ q. (same' q).1))) in
    λ i. head i ∷ rest i

pub one_set : (elements xs ys : List ℕ) → IsSetOf elements xs → IsSetOf elements ys → xs ≡ ys
one_set elements xs ys is is' = rising_once xs ys is.rising is'.rising (λ q. ((λ among. (is'.same q).1 ((is.same q).0 among)), (λ among. (is.same q).1 ((is'.same q).0 among))))

-- ---- entries

abbrev keys : List (ℕ × ℕ) → List ℕ
keys es = map (λ pair. pair.0) es

next_above : (e f : ℕ × ℕ) (es : List (ℕ × ℕ)) → Rises (keys (e ∷ f ∷ es)) → e.0 < f.0
next_above e f es rises = rises 0 1 0 (omega arith) (omega arith)

absent : (q : ℕ) (e : ℕ × ℕ) (es : List (ℕ × ℕ)) → Rises (keys (e ∷ es)) → q ≤ e.0 → lookup (nat_eq q) es ≡ None
absent q e [] rises low = refl
absent q e (f ∷ es) rises low =
    let above = next_above e f es rises in
    cond-false (nat_eq q f.0) (Some f.1) (lookup (nat_eq q) es) (apart_test q f.0 (λ same. omega (arith, same, above)))
    ∙ absent q f es (rises_tail e.0 (keys (f ∷ es)) rises) (omega arith)

found_first : (e : ℕ × ℕ) (es : List (ℕ × ℕ)) → lookup (nat_eq e.0) (e ∷ es) ≡ Some e.1
found_first e es = cond-true (nat_eq e.0 e.0) (Some e.1) (lookup (nat_eq e.0) es) (same_test e.0 e.0 refl)

passed : (q : ℕ) (e : ℕ × ℕ) (es : List (ℕ × ℕ)) → (q ≡ e.0 → ⊥) → lookup (nat_eq q) (e ∷ es) ≡ lookup (nat_eq q) es
passed q e es apart = cond-false (nat_eq q e.0) (Some e.1) (lookup (nat_eq q) es) (apart_test q e.0 apart)

missed : (e f : ℕ × ℕ) (es fs : List (ℕ × ℕ)) → Rises (keys (f ∷ fs)) → e.0 < f.0 → lookup (nat_eq e.0) (e ∷ es) ≡ lookup (nat_eq e.0) (f ∷ fs) → ⊥
missed e f es fs rises below same =
    let none = passed e.0 f fs (λ is. omega (arith, is, below)) ∙ absent e.0 f fs rises (omega arith) in
    let e' = sym (found_first e es) ∙ same ∙ none in
    absurd cc

entries_once : (es fs : List (ℕ × ℕ)) → Rises (keys es) → Rises (keys fs) → ((q : ℕ) → lookup (nat_eq q) es ≡ lookup (nat_eq q) fs) → es ≡ fs
entries_once [] [] rises rises' same = refl
entries_once [] (f ∷ fs) rises rises' same = absurd (let e = same f.0 ∙ found_first f fs in cc)
entries_once (e ∷ es) [] rises rises' same = absurd (let f = sym (same e.0) ∙ found_first e es in cc)
entries_once (e ∷ es) (f ∷ fs) rises rises' same =
    elim (cases_order e.0 f.0) [
      | inr apart ↦
          elim apart [
            | inl below ↦ absurd (missed e f es fs rises' below (same e.0))
            | inr over ↦ absurd (missed f e fs es rises over (sym (same f.0)))
          ]
      | inl key ↦
          (let value : Some e.1 ≡ Some f.1 = sym (found_first e es) ∙ same e.0 ∙ ap (λ q. lookup (nat_eq q) (f ∷ fs)) key ∙ found_first f fs in
          let one : e.1 ≡ f.1 = cc in
          let rest = entries_once es fs (rises_tail e.0 (keys es) rises) (rises_tail f.0 (keys fs) rises') (λ q.
          (elim (cases_eq q e.0) [
            | inl here ↦ absent q e es rises (omega arith) ∙ sym (absent q f fs rises' (omega arith))
            | inr beside ↦ sym (passed q e es beside) ∙ same q ∙ passed q f fs (λ is. beside (is ∙ sym key))
          ])) in
          λ i. (key i, one i) ∷ rest i)
    ]

pub one_map : (added es fs : List (ℕ × ℕ)) → IsMapOf added es → IsMapOf added fs → es ≡ fs
one_map added es fs is is' = entries_once es fs is.rising is'.rising (λ q. is.same q ∙ sym (is'.same q))

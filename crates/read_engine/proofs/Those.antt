-- The elements of a list of which something is so.
use Rattle.std.proofs.Common.{◌≡◌, ◌≤◌, ◌∙◌, ◌⊎◌, inl, inr, ℕ, List, [], ◌∷◌, Bool, true, false, cond, length, map, refl, sym, ap, subst, arith}
use Rattle.std.specs.Prelude.{All, IsTrue, filter}
use Rattle.std.proofs.lemmas.List.Elements.{All-cons, All-head, All-nil, All-tail}
use Rattle.read_engine.specs.Walks.{AreThose}

module _ {X : Type 0} (P : X → Type 0) where
  -- they are one list
  pub those_once : (xs a b : List X) → AreThose P xs a → AreThose P xs b → a ≡ b
  those_once [] a b one other = one ∙ sym other
  those_once (x ∷ xs) a b (inl (rest, is, here, behind)) (inl (more, is_too, there, behind_too)) =
      here ∙ ap (λ (ys : List X). x ∷ ys) (those_once xs rest more behind behind_too) ∙ sym there
  those_once (x ∷ xs) a b (inl (rest, is, here, behind)) (inr (not, other)) = absurd (not is)
  those_once (x ∷ xs) a b (inr (not, one)) (inl (more, is, there, behind)) = absurd (not is)
  those_once (x ∷ xs) a b (inr (not, one)) (inr (not_too, other)) = those_once xs a b one other

  -- what is so of all is so of those
  pub those_all : (Q : X → Type 0) (xs those : List X) → AreThose P xs those → All Q xs → All Q those
  those_all Q [] those is all = subst (All Q) (sym is) (All-nil Q)
  those_all Q (x ∷ xs) those (inl (rest, is, here, behind)) all =
      subst (All Q) (sym here) (All-cons Q x rest (All-head Q x xs all) (those_all Q xs rest behind (All-tail Q x xs all)))
  those_all Q (x ∷ xs) those (inr (not, behind)) all = those_all Q xs those behind (All-tail Q x xs all)

  -- they are not more
  pub those_few : (xs those : List X) → AreThose P xs those → length those ≤ length xs
  those_few [] those is = let same = ap length is in omega (arith, same)
  those_few (x ∷ xs) those (inl (rest, is, here, behind)) = let same = ap length here in let few = those_few xs rest behind in omega (arith, same, few)
  those_few (x ∷ xs) those (inr (not, behind)) = let few = those_few xs those behind in omega (arith, few)

  -- there are such, where what is so of them is not to be told
  pub those_there : (xs : List X) → ((those : List X) → AreThose P xs those → ⊥) → ⊥
  those_there [] none = none [] refl
  those_there (x ∷ xs) none =
      those_there xs (λ rest behind. (λ (not : P x → ⊥). none rest (inr (not, behind))) (λ is. none (x ∷ rest) (inl (rest, is, refl, behind))))

  -- all of them, where it is so of all
  pub all_those : (xs : List X) → All P xs → AreThose P xs xs
  all_those [] all = refl
  all_those (x ∷ xs) all = inl (xs, All-head P x xs all, refl, all_those xs (All-tail P x xs all))

-- ---- those that a test takes

module _ {X Y : Type 0} (P : Y → Type 0) (f : X → Y) (test : X → Bool) where
  pub taken_those : (xs : List X) → All (λ (x : X). (P (f x) × IsTrue (test x)) ⊎ ((P (f x) → ⊥) × (test x ≡ false))) xs → AreThose P (map f xs) (map f (filter test xs))
  taken_those [] all = refl
  taken_those (x ∷ xs) all =
      let rest = taken_those xs (All-tail (λ (x : X). (P (f x) × IsTrue (test x)) ⊎ ((P (f x) → ⊥) × (test x ≡ false))) x xs all) in
      elim (All-head (λ (x : X). (P (f x) × IsTrue (test x)) ⊎ ((P (f x) → ⊥) × (test x ≡ false))) x xs all) [
        | inl one ↦ inl (map f (filter test xs), one.0, ap (map f) (kept x xs one.1), rest)
        | inr other ↦ inr (other.0, subst (λ (ys : List X). AreThose P (map f xs) (map f ys)) (sym (dropped x xs other.1)) rest)
      ]
    where
      kept : (x : X) (xs : List X) → test x ≡ true → filter test (x ∷ xs) ≡ x ∷ filter test xs
      kept x xs is = ap (λ (b : Bool). cond b (x ∷ filter test xs) (filter test xs)) is

      dropped : (x : X) (xs : List X) → test x ≡ false → filter test (x ∷ xs) ≡ filter test xs
      dropped x xs is = ap (λ (b : Bool). cond b (x ∷ filter test xs) (filter test xs)) is

-- what the test takes passes it
pub all_taken : {X : Type 0} (test : X → Bool) (xs : List X) → All (λ (x : X). IsTrue (test x)) (filter test xs)
all_taken test [] = All-nil (λ x. IsTrue (test x))
all_taken {X} test (x ∷ xs) = by (all_taken test xs) (test x) refl
  where
    by : All (λ (x : X). IsTrue (test x)) (filter test xs) → (b : Bool) → test x ≡ b → All (λ (x : X). IsTrue (test x)) (cond b (x ∷ filter test xs) (filter test xs))
    by rest true is = All-cons (λ (x : X). IsTrue (test x)) x (filter test xs) is rest
    by rest false is = rest

-- what is done once more to each is done once
pub done_once : {X : Type 0} (f : X → X) → ((x : X) → f (f x) ≡ f x) → (xs : List X) → map f (map f xs) ≡ map f xs
done_once f once [] = refl
done_once f once (x ∷ xs) = λ i. once x i ∷ done_once f once xs i

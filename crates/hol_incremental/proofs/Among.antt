-- Items of lists.
use Rattle.std.proofs.Common.{◌≡◌, ◌∙◌, ◌⊎◌, ℕ, zero, suc, List, [], ◌∷◌, map, flat_map, Some, refl, sym, ap, subst, inl, inr, arith}
use Rattle.std.specs.Prelude.{All, Any, Contains, nat_eq}
use Rattle.std.specs.Map.{lookup}
use Rattle.std.proofs.lemmas.Bool.{cases_eq, cond-true, cond-false}
use Rattle.std.proofs.lemmas.List.Elements.{Contains-append_left, Contains-append_right}
use Rattle.write_engine.proofs.Members.{apart_test, same_test}

module _ {X : Type 0} where
  pub first_in : (x : X) (xs : List X) → Contains (x ∷ xs) x
  first_in x xs = (0, omega arith, refl)

  pub later_in : (y : X) (xs : List X) (x : X) → Contains xs x → Contains (y ∷ xs) x
  later_in y xs x (k, inside, at) = (suc k, omega arith, at)

  pub parted : (y : X) (xs : List X) (x : X) → Contains (y ∷ xs) x → (y ≡ x) ⊎ Contains xs x
  parted y xs x (zero, inside, at) = inl at
  parted y xs x (suc k, inside, at) = inr (k, omega arith, at)

  pub none_in : (x : X) → Contains [] x → ⊥
  none_in x (k, inside, at) = omega arith

  module _ (P : X → Type 0) where
    pub any_here : (x : X) (xs : List X) → P x → Any P (x ∷ xs)
    any_here x xs holds = (0, x, omega arith, refl, holds)

    pub any_later : (y : X) (xs : List X) → Any P xs → Any P (y ∷ xs)
    any_later y xs (k, x, inside, at, holds) = (suc k, x, omega arith, at, holds)

    pub any_weaker : (Q : X → Type 0) (xs : List X) → ((x : X) → P x → Q x) → Any P xs → Any Q xs
    any_weaker Q xs f (k, x, inside, at, holds) = (k, x, inside, at, f x holds)

    -- what holds of some item and of all holds of one
    pub any_of_all : (Q : X → Type 0) (xs : List X) → Any P xs → All Q xs → (x : X) × P x × Q x
    any_of_all Q xs (k, x, inside, at, holds) all = (x, holds, subst Q at (all k x inside))

pub in_image : {X Y : Type 0} (f : X → Y) (xs : List X) (x : X) → Contains xs x → Contains (map f xs) (f x)
in_image f [] x among = absurd (none_in x among)
in_image f (y ∷ xs) x among = elim (parted y xs x among) [
  | inl same ↦ subst (λ z. Contains (f y ∷ map f xs) z) (ap f same) (first_in (f y) (map f xs))
  | inr there ↦ later_in (f y) (map f xs) (f x) (in_image f xs x there)
]

pub of_image : {X Y : Type 0} (f : X → Y) (xs : List X) (y : Y) → Contains (map f xs) y → (x : X) × Contains xs x × (f x ≡ y)
of_image f [] y among = absurd (none_in y among)
of_image f (x ∷ xs) y among = elim (parted (f x) (map f xs) y among) [
  | inl same ↦ (x, first_in x xs, same)
  | inr there ↦ (let found = of_image f xs y there in (found.0, later_in x xs found.0 found.1, found.2))
]

-- an item of the list of one item is in the list of all
pub in_pieces : {X Y : Type 0} (f : X → List Y) (xs : List X) (x : X) (y : Y) → Contains xs x → Contains (f x) y → Contains (flat_map f xs) y
in_pieces f [] x y among piece = absurd (none_in x among)
in_pieces f (z ∷ xs) x y among piece = elim (parted z xs x among) [
  | inl same ↦ Contains-append_left (f z) (flat_map f xs) y (subst (λ w. Contains (f w) y) (sym same) piece)
  | inr there ↦ Contains-append_right (f z) (flat_map f xs) y (in_pieces f xs x y there piece)
]

-- ---- pairs

pub found_first : (q : ℕ) (e : ℕ × ℕ) (es : List (ℕ × ℕ)) → q ≡ e.0 → lookup (nat_eq q) (e ∷ es) ≡ Some e.1
found_first q e es same = cond-true (nat_eq q e.0) (Some e.1) (lookup (nat_eq q) es) (same_test q e.0 same)

pub passed : (q : ℕ) (e : ℕ × ℕ) (es : List (ℕ × ℕ)) → (q ≡ e.0 → ⊥) → lookup (nat_eq q) (e ∷ es) ≡ lookup (nat_eq q) es
passed q e es apart = cond-false (nat_eq q e.0) (Some e.1) (lookup (nat_eq q) es) (apart_test q e.0 apart)

-- what is found stands there
pub found_in : (es : List (ℕ × ℕ)) (q v : ℕ) → lookup (nat_eq q) es ≡ Some v → Contains es (q, v)
found_in [] q v found = absurd cc
found_in (e ∷ es) q v found =
    elim (cases_eq q e.0) [
      | inl same ↦ (let is : Some e.1 ≡ Some v = sym (found_first q e es same) ∙ found in let value : e.1 ≡ v = cc in (0, omega arith, (λ i. (sym same i, value i))))
      | inr apart ↦ later_in e es (q, v) (found_in es q v (sym (passed q e es apart) ∙ found))
    ]

-- Lists that are changed place by place.
use Rattle.std.proofs.Common.{◌≡◌, ◌+◌, ◌<◌, ◌⊎◌, ℕ, zero, suc, List, [], ◌∷◌, ◌++◌, Some, length, get_or, set, map, slice_get, refl, ap, inl, inr, arith}

-- the list, of which so many are changed
unfoldable pub first_mapped : {A : Type 0} → (A → A) → ℕ → List A → List A
first_mapped f zero xs = xs
first_mapped f (suc n) [] = []
first_mapped f (suc n) (x ∷ xs) = f x ∷ first_mapped f n xs

module _ {A : Type 0} (f : A → A) where
  pub none_mapped : (xs : List A) → xs ≡ first_mapped f 0 xs
  unfolding first_mapped
  none_mapped xs = refl

  pub not_mapped : (n : ℕ) (xs : List A) (d : A) → get_or (first_mapped f n xs) n d ≡ get_or xs n d
  unfolding first_mapped
  not_mapped zero xs d = refl
  not_mapped (suc n) [] d = refl
  not_mapped (suc n) (x ∷ xs) d = not_mapped n xs d

  mapped_more : (n : ℕ) (xs : List A) (d : A) → n < length xs → set (first_mapped f n xs) n (f (get_or xs n d)) ≡ first_mapped f (suc n) xs
  unfolding first_mapped
  mapped_more n [] d inside = absurd (omega arith)
  mapped_more zero (x ∷ xs) d inside = refl
  mapped_more (suc n) (x ∷ xs) d inside = ap (λ (rest : List A). f x ∷ rest) (mapped_more n xs d (omega arith))

  pub all_mapped : (xs : List A) → first_mapped f (length xs) xs ≡ map f xs
  unfolding first_mapped
  all_mapped [] = refl
  all_mapped (x ∷ xs) = ap (λ rest. f x ∷ rest) (all_mapped xs)

-- what holds of an item behind others
pub behind_at : {A : Type 0} (xs : List A) (x y : A) (t : ℕ) → slice_get (xs ++ x ∷ []) t ≡ Some y → (slice_get xs t ≡ Some y) ⊎ ((t ≡ length xs) × (x ≡ y))
behind_at [] x y zero is = let same : x ≡ y = cc in inr (refl, same)
behind_at [] x y (suc t) is = absurd cc
behind_at (z ∷ xs) x y zero is = inl is
behind_at (z ∷ xs) x y (suc t) is = elim (behind_at xs x y t is) [
  | inl there ↦ inl there
  | inr last ↦ inr (ap suc last.0, last.1)
]

-- a list with another item at a place
pub set_here : {A : Type 0} (xs : List A) (k : ℕ) (x y : A) → slice_get (set xs k x) k ≡ Some y → x ≡ y
set_here [] k x y is = absurd cc
set_here (z ∷ xs) zero x y is = cc
set_here (z ∷ xs) (suc k) x y is = set_here xs k x y is

pub set_beside : {A : Type 0} (xs : List A) (k t : ℕ) (x y : A) → (t ≡ k → ⊥) → slice_get (set xs k x) t ≡ Some y → slice_get xs t ≡ Some y
set_beside [] k t x y other is = is
set_beside (z ∷ xs) zero zero x y other is = absurd (other refl)
set_beside (z ∷ xs) zero (suc t) x y other is = is
set_beside (z ∷ xs) (suc k) zero x y other is = is
set_beside (z ∷ xs) (suc k) (suc t) x y other is = set_beside xs k t x y (λ e. other (ap suc e)) is

pub map_set_same : {A B : Type 0} (f : A → B) (xs : List A) (k : ℕ) (x d : A) → f x ≡ f (get_or xs k d) → map f (set xs k x) ≡ map f xs
map_set_same f [] k x d same = refl
map_set_same f (y ∷ xs) zero x d same = ap (λ z. z ∷ map f xs) same
map_set_same f (y ∷ xs) (suc k) x d same = ap (λ (rest : List _). f y ∷ rest) (map_set_same f xs k x d same)

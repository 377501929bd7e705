-- Lists that are changed place by place.
use Rattle.std.proofs.Common.{◌≡◌, ◌<◌, ◌+◌, ℕ, zero, suc, List, [], ◌∷◌, length, get_or, set, take, map, refl, sym, ap, ◌∙◌, subst, arith}
use Rattle.std.specs.Prelude.{All}
use Rattle.std.proofs.lemmas.List.Elements.{All-append, All-cons, All-nil}
use Rattle.std.proofs.Math.Seq.{take-suc-set}

-- the list, of which so many are changed
unfoldable pub first_mapped : {A : Type 0} → (A → A) → ℕ → List A → List A
first_mapped f zero xs = xs
first_mapped f (suc n) [] = []
first_mapped f (suc n) (x ∷ xs) = f x ∷ first_mapped f n xs

module _ {A : Type 0} (f : A → A) where
  pub none_mapped : (xs : List A) → xs ≡ first_mapped f 0 xs
  unfolding first_mapped
  none_mapped xs = refl

  pub not_mapped : (n : ℕ) (xs : List A) (d : A) → get_or (first_mapped f n xs) n d ≡ get_or xs n d
  unfolding first_mapped
  not_mapped zero xs d = refl
  not_mapped (suc n) [] d = refl
  not_mapped (suc n) (x ∷ xs) d = not_mapped n xs d

  mapped_more : (n : ℕ) (xs : List A) (d : A) → n < length xs → set (first_mapped f n xs) n (f (get_or xs n d)) ≡ first_mapped f (suc n) xs
  unfolding first_mapped
  mapped_more n [] d inside = absurd (omega arith)
  mapped_more zero (x ∷ xs) d inside = refl
  mapped_more (suc n) (x ∷ xs) d inside = ap (λ (rest : List A). f x ∷ rest) (mapped_more n xs d (omega arith))

  pub one_more_mapped : (n : ℕ) (xs now : List A) (d : A) → n < length xs → now ≡ first_mapped f n xs → set now n (f (get_or now n d)) ≡ first_mapped f (n + 1) xs
  one_more_mapped n xs now d inside is =
      let next : suc n ≡ n + 1 = omega arith in
      ap (λ (ys : List A). set ys n (f (get_or ys n d))) is
      ∙ ap (λ (x : A). set (first_mapped f n xs) n (f x)) (not_mapped n xs d)
      ∙ mapped_more n xs d inside
      ∙ ap (λ (k : ℕ). first_mapped f k xs) next

  pub all_mapped : (xs : List A) → first_mapped f (length xs) xs ≡ map f xs
  unfolding first_mapped
  all_mapped [] = refl
  all_mapped (x ∷ xs) = ap (λ rest. f x ∷ rest) (all_mapped xs)

-- what holds of the first ones, and of one more
pub all_more : {A : Type 0} (P : A → Type 0) (xs : List A) (n : ℕ) (x : A) → n < length xs → All P (take n xs) → P x → All P (take (n + 1) (set xs n x))
all_more P xs n x inside all one =
    let next : suc n ≡ n + 1 = omega arith in
    subst (λ (k : ℕ). All P (take k (set xs n x))) next (subst (All P) (sym (take-suc-set xs n x inside)) (All-append P (take n xs) (x ∷ []) all (All-cons P x [] one (All-nil P))))

-- lists that look the same look the same at each place
pub map_at : {A B : Type 0} (f : A → B) (xs ys : List A) (n : ℕ) (d : A) → map f xs ≡ map f ys → n < length xs → f (get_or xs n d) ≡ f (get_or ys n d)
map_at f [] ys n d same inside = absurd (omega (arith, inside))
map_at f (x ∷ xs) [] n d same inside = absurd cc
map_at f (x ∷ xs) (y ∷ ys) zero d same inside = cc
map_at f (x ∷ xs) (y ∷ ys) (suc n) d same inside = let rest : map f xs ≡ map f ys = cc in map_at f xs ys n d rest (omega (arith, inside))

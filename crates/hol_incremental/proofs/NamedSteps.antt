-- The rows that rows name are gathered one after another.
use Rattle.std.proofs.Common.{◌≡◌, ◌∙◌, ◌+◌, ◌<◌, ◌≤◌, ℕ, zero, suc, List, [], ◌∷◌, ◌++◌, flat_map, length, get_or, map, take, zip, refl, sym, ap, arith}
use Rattle.std.proofs.lemmas.List.{append_assoc, append-nil, map-append}
use Rattle.std.proofs.lemmas.List.Elements.{filter_map-append}
use Rattle.schema_model.specs.declared.schema.name.Name.{Name}
use Rattle.schema_model.specs.declared.schema.Schema.{Schema}
use Rattle.hol_incremental.specs.Counts.{indexed}
use Rattle.hol_incremental.proofs.CountLists.{taken_push}

module _ (schemas : List Schema) where
  indexed_append : (xs ys : List (Name × ℕ)) → indexed schemas (xs ++ ys) ≡ indexed schemas xs ++ indexed schemas ys
  indexed_append xs ys = filter_map-append _ xs ys

  flat_append : {A : Type 0} (f : A → List (Name × ℕ)) (xs ys : List A) → flat_map f (xs ++ ys) ≡ flat_map f xs ++ flat_map f ys
  flat_append f [] ys = refl
  flat_append f (x ∷ xs) ys = ap (λ rest. f x ++ rest) (flat_append f xs ys) ∙ sym (append_assoc (f x) (flat_map f xs) (flat_map f ys))

  -- of each a list
  pub flat_more : {A : Type 0} (f : A → List (Name × ℕ)) (xs : List A) (i : ℕ) (d : A) (start now next : List (ℕ × ℕ)) → i < length xs → now ≡ start ++ indexed schemas (flat_map f (take i xs))
      → next ≡ now ++ indexed schemas (f (get_or xs i d)) → next ≡ start ++ indexed schemas (flat_map f (take (i + 1) xs))
  flat_more f xs i d start now next inside is more =
      more ∙ ap (λ (rows : List (ℕ × ℕ)). rows ++ indexed schemas (f (get_or xs i d))) is
      ∙ append_assoc start (indexed schemas (flat_map f (take i xs))) (indexed schemas (f (get_or xs i d)))
      ∙ ap (λ (rows : List (ℕ × ℕ)). start ++ rows)
      (sym (indexed_append (flat_map f (take i xs)) (f (get_or xs i d)))
      ∙ ap (indexed schemas)
      (ap (λ rest. flat_map f (take i xs) ++ rest) (sym (append-nil (f (get_or xs i d)))) ∙ sym (flat_append f (take i xs) (get_or xs i d ∷ [])) ∙ ap (flat_map f) (sym (taken_push xs i d inside))))

  -- of each one
  pub map_more : {A : Type 0} (f : A → Name × ℕ) (xs : List A) (i : ℕ) (d : A) (start now next : List (ℕ × ℕ)) → i < length xs → now ≡ start ++ indexed schemas (map f (take i xs))
      → next ≡ now ++ indexed schemas (f (get_or xs i d) ∷ []) → next ≡ start ++ indexed schemas (map f (take (i + 1) xs))
  map_more f xs i d start now next inside is more =
      more ∙ ap (λ (rows : List (ℕ × ℕ)). rows ++ indexed schemas (f (get_or xs i d) ∷ [])) is
      ∙ append_assoc start (indexed schemas (map f (take i xs))) (indexed schemas (f (get_or xs i d) ∷ []))
      ∙ ap (λ (rows : List (ℕ × ℕ)). start ++ rows)
      (sym (indexed_append (map f (take i xs)) (f (get_or xs i d) ∷ []))
      ∙ ap (indexed schemas) (sym (map-append f (take i xs) (get_or xs i d ∷ [])) ∙ ap (map f) (sym (taken_push xs i d inside))))

  -- of a key and a value
  pub pair_more : (f g : ℕ × ℕ → Name × ℕ) (xs : List (ℕ × ℕ)) (i : ℕ) (d : ℕ × ℕ) (start now middle next : List (ℕ × ℕ)) → i < length xs → now ≡ start ++ indexed schemas (flat_map (λ pair. f pair ∷ g pair ∷ []) (take i xs))
      → middle ≡ now ++ indexed schemas (f (get_or xs i d) ∷ []) → next ≡ middle ++ indexed schemas (g (get_or xs i d) ∷ []) → next ≡ start ++ indexed schemas (flat_map (λ pair. f pair ∷ g pair ∷ []) (take (i + 1) xs))
  pair_more f g xs i d start now middle next inside is one two =
      flat_more (λ pair. f pair ∷ g pair ∷ []) xs i d start now next inside is
      (two ∙ ap (λ (rows : List (ℕ × ℕ)). rows ++ indexed schemas (g (get_or xs i d) ∷ [])) one
      ∙ append_assoc now (indexed schemas (f (get_or xs i d) ∷ [])) (indexed schemas (g (get_or xs i d) ∷ []))
      ∙ ap (λ (rows : List (ℕ × ℕ)). now ++ rows) (sym (indexed_append (f (get_or xs i d) ∷ []) (g (get_or xs i d) ∷ []))))

-- ---- two lists side by side

pub zip_at : {A B : Type 0} (xs : List A) (ys : List B) (i : ℕ) (a : A) (b : B) → i < length xs → i < length ys → get_or (zip xs ys) i (a, b) ≡ (get_or xs i a, get_or ys i b)
zip_at [] ys i a b inside inside' = absurd (omega (arith, inside))
zip_at (x ∷ xs) [] i a b inside inside' = absurd (omega (arith, inside'))
zip_at (x ∷ xs) (y ∷ ys) zero a b inside inside' = refl
zip_at (x ∷ xs) (y ∷ ys) (suc i) a b inside inside' = zip_at xs ys i a b (omega (arith, inside)) (omega (arith, inside'))

pub zip_inside : {A B : Type 0} (xs : List A) (ys : List B) (i : ℕ) → i < length xs → i < length ys → i < length (zip xs ys)
zip_inside [] ys i inside inside' = absurd (omega (arith, inside))
zip_inside (x ∷ xs) [] i inside inside' = absurd (omega (arith, inside'))
zip_inside (x ∷ xs) (y ∷ ys) zero inside inside' = omega arith
zip_inside (x ∷ xs) (y ∷ ys) (suc i) inside inside' = let low = zip_inside xs ys i (omega (arith, inside)) (omega (arith, inside')) in omega (arith, low)

-- the first so many are all
pub zip_all : {A B : Type 0} (xs : List A) (ys : List B) (n : ℕ) → (length xs ≤ n) → take n (zip xs ys) ≡ zip xs ys
zip_all [] ys zero long = refl
zip_all [] ys (suc n) long = refl
zip_all (x ∷ xs) ys zero long = absurd (omega (arith, long))
zip_all (x ∷ xs) [] (suc n) long = refl
zip_all (x ∷ xs) (y ∷ ys) (suc n) long = ap (λ rest. (x, y) ∷ rest) (zip_all xs ys n (omega (arith, long)))

pub zip_all' : {A B : Type 0} (xs : List A) (ys : List B) (n : ℕ) → (length ys ≤ n) → take n (zip xs ys) ≡ zip xs ys
zip_all' [] ys zero long = refl
zip_all' [] ys (suc n) long = refl
zip_all' (x ∷ xs) [] zero long = refl
zip_all' (x ∷ xs) [] (suc n) long = refl
zip_all' (x ∷ xs) (y ∷ ys) zero long = absurd (omega (arith, long))
zip_all' (x ∷ xs) (y ∷ ys) (suc n) long = ap (λ rest. (x, y) ∷ rest) (zip_all' xs ys n (omega (arith, long)))

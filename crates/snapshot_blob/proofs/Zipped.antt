-- Lists of types and of what belongs to each, one beside the other.
use Rattle.std.proofs.Common.{◌≡◌, List, [], ◌∷◌, ◌++◌, map, refl}
use Rattle.std.specs.List.{All, AllZip}
use Rattle.std.proofs.lemmas.List.Elements.{All-cons, All-nil, All-head, All-tail}

-- what holds of each two and of what is made of the second
pub zip_right : {A B C : Type 0} (R S : A → B → Type 0) (T : A → C → Type 0) (f : B → C) → ((x : A) (y : B) → R x y → S x y → T x (f y)) → (xs : List A) (ys : List B) → AllZip R xs ys → AllZip S xs ys → AllZip T xs (map f ys)
zip_right R S T f each [] [] r s = tt
zip_right R S T f each (x ∷ xs) (y ∷ ys) r s = (each x y r.0 s.0, zip_right R S T f each xs ys r.1 s.1)
zip_right R S T f each _ _ r s = absurd r

-- what holds of each of the first
pub zip_first : {A B : Type 0} (R : A → B → Type 0) (P : A → Type 0) → ((x : A) (y : B) → R x y → P x) → (xs : List A) (ys : List B) → AllZip R xs ys → All P xs
zip_first R P each [] [] r = All-nil P
zip_first R P each (x ∷ xs) (y ∷ ys) r = All-cons P x xs (each x y r.0) (zip_first R P each xs ys r.1)
zip_first R P each _ _ r = absurd r

-- what holds of each of the second
pub zip_second : {A B : Type 0} (R : A → B → Type 0) (P : B → Type 0) → ((x : A) (y : B) → R x y → P y) → (xs : List A) (ys : List B) → AllZip R xs ys → All P ys
zip_second R P each [] [] r = All-nil P
zip_second R P each (x ∷ xs) (y ∷ ys) r = All-cons P y ys (each x y r.0) (zip_second R P each xs ys r.1)
zip_second R P each _ _ r = absurd r

-- what both have alike
pub zip_alike : {A B C : Type 0} (R : A → B → Type 0) (f : A → C) (g : B → C) → ((x : A) (y : B) → R x y → g y ≡ f x) → (xs : List A) (ys : List B) → AllZip R xs ys → map g ys ≡ map f xs
zip_alike R f g each [] [] r = refl
zip_alike R f g each (x ∷ xs) (y ∷ ys) r = let one = each x y r.0 in let rest = zip_alike R f g each xs ys r.1 in λ i. one i ∷ rest i
zip_alike R f g each _ _ r = absurd r

-- where each has one alone beside it, the second lists are one
pub zip_once : {A B : Type 0} (R : A → B → Type 0) → ((x : A) (y z : B) → R x y → R x z → y ≡ z) → (xs : List A) (ys zs : List B) → AllZip R xs ys → AllZip R xs zs → ys ≡ zs
zip_once R once [] [] [] r s = refl
zip_once R once (x ∷ xs) (y ∷ ys) (z ∷ zs) r s = let one = once x y z r.0 s.0 in let rest = zip_once R once xs ys zs r.1 s.1 in λ i. one i ∷ rest i
zip_once R once [] (y ∷ ys) zs r s = absurd r
zip_once R once [] [] (z ∷ zs) r s = absurd s
zip_once R once (x ∷ xs) [] zs r s = absurd r
zip_once R once (x ∷ xs) (y ∷ ys) [] r s = absurd s

-- what stands beside one in the middle
pub zip_middle : {A B : Type 0} (R : A → B → Type 0) (xs : List A) (x : A) (rest : List A) (ys : List B) → AllZip R (xs ++ x ∷ rest) ys → (y : B) × R x y
zip_middle R [] x rest (y ∷ ys) r = (y, r.0)
zip_middle R (w ∷ xs) x rest (y ∷ ys) r = zip_middle R xs x rest ys r.1
zip_middle R [] x rest [] r = absurd r
zip_middle R (w ∷ xs) x rest [] r = absurd r

-- what holds of each holds of one in the middle
pub all_middle : {A : Type 0} (P : A → Type 0) (xs : List A) (x : A) (rest : List A) → All P (xs ++ x ∷ rest) → P x
all_middle P [] x rest h = All-head P x rest h
all_middle P (w ∷ xs) x rest h = all_middle P xs x rest (All-tail P w (xs ++ x ∷ rest) h)

-- Lemmas on numbers of several lists: sums, greatest numbers, and the widths that hold them.
use Rattle.std.proofs.Common.{◌≡◌, ℕ, zero, suc, ◌^◌, ◌<◌, ◌≤◌, max, List, [], ◌∷◌, ◌++◌, Some, refl, subst, arith}
use Rattle.std.specs.Prelude.{All, flat_map, fold, map, slice_get, sum_by}
use Rattle.std.specs.List.{AllZip}
use Rattle.std.proofs.Math.Pow.{pow_mono}
use Rattle.std.proofs.lemmas.List.Elements.{All-append, All-cons, All-head, All-tail}
use Rattle.std.proofs.lemmas.List.Sums.{sum_by-cons}
use Rattle.bit_array.specs.Digits.{digit_count}
use Rattle.bit_array.proofs.DigitCounts.{digit_count-holds, digit_count-le}

-- ---- what holds of all elements

pub all_none : {X : Type 0} (P : X → Type 0) → All P []
all_none P k d inside = absurd (omega arith)

pub all_left : {X : Type 0} (P : X → Type 0) (xs ys : List X) → All P (xs ++ ys) → All P xs
all_left P [] ys all = all_none P
all_left P (x ∷ xs) ys all = All-cons P x xs (All-head P x (xs ++ ys) all) (all_left P xs ys (All-tail P x (xs ++ ys) all))

pub all_right : {X : Type 0} (P : X → Type 0) (xs ys : List X) → All P (xs ++ ys) → All P ys
all_right P [] ys all = all
all_right P (x ∷ xs) ys all = all_right P xs ys (All-tail P x (xs ++ ys) all)

pub all_gives : {X : Type 0} (P Q : X → Type 0) (xs : List X) → ((x : X) → P x → Q x) → All P xs → All Q xs
all_gives P Q [] gives all = all_none Q
all_gives P Q (x ∷ xs) gives all = All-cons Q x xs (gives x (All-head P x xs all)) (all_gives P Q xs gives (All-tail P x xs all))

pub all_parts : {X A : Type 0} (P : A → Type 0) (f : X → List A) (xs : List X) → All P (flat_map f xs) → All (λ x. All P (f x)) xs
all_parts P f [] all = all_none (λ x. All P (f x))
all_parts P f (x ∷ xs) all = All-cons (λ x. All P (f x)) x xs (all_left P (f x) (flat_map f xs) all) (all_parts P f xs (all_right P (f x) (flat_map f xs) all))

pub all_joined : {X A : Type 0} (P : A → Type 0) (f : X → List A) (xs : List X) → All (λ x. All P (f x)) xs → All P (flat_map f xs)
all_joined P f [] all = all_none P
all_joined P f (x ∷ xs) all =
    All-append P (f x) (flat_map f xs) (All-head (λ x. All P (f x)) x xs all) (all_joined P f xs (All-tail (λ x. All P (f x)) x xs all))

pub all_images : {X A : Type 0} (P : A → Type 0) (f : X → A) (xs : List X) → All P (map f xs) → All (λ x. P (f x)) xs
all_images P f [] all = all_none (λ x. P (f x))
all_images P f (x ∷ xs) all = All-cons (λ x. P (f x)) x xs (All-head P (f x) (map f xs) all) (all_images P f xs (All-tail P (f x) (map f xs) all))

-- ---- sums

pub sum_same : {X : Type 0} (f g : X → ℕ) (xs : List X) → ((x : X) → f x ≡ g x) → sum_by f xs ≡ sum_by g xs
sum_same f g [] same = refl
sum_same f g (x ∷ xs) same = omega (arith, sum_by-cons f x xs, sum_by-cons g x xs, same x, sum_same f g xs same)

pub sum_images : {X Y : Type 0} (f : Y → ℕ) (g : X → Y) (xs : List X) → sum_by f (map g xs) ≡ sum_by (λ x. f (g x)) xs
sum_images f g [] = refl
sum_images f g (x ∷ xs) = omega (arith, sum_by-cons f (g x) (map g xs), sum_by-cons (λ y. f (g y)) x xs, sum_images f g xs)

-- ---- the greatest of some numbers

fold_seen : (seen : ℕ) (numbers : List ℕ) → seen ≤ fold max seen numbers
fold_seen seen [] = omega arith
fold_seen seen (number ∷ rest) = omega (arith, fold_seen (max seen number) rest)

fold_each : (seen : ℕ) (numbers : List ℕ) → All (λ number. number ≤ fold max seen numbers) numbers
fold_each seen [] = all_none (λ number. number ≤ seen)
fold_each seen (number ∷ rest) =
    All-cons (λ n. n ≤ fold max (max seen number) rest) number rest (omega (arith, fold_seen (max seen number) rest)) (fold_each (max seen number) rest)

-- no number is above the greatest
pub below_greatest : (numbers : List ℕ) → All (λ number. number ≤ fold max 0 numbers) numbers
below_greatest numbers = fold_each 0 numbers

fold_below : (seen limit : ℕ) (numbers : List ℕ) → seen < limit → All (λ number. number < limit) numbers → fold max seen numbers < limit
fold_below seen limit [] low all = low
fold_below seen limit (number ∷ rest) low all =
    let here = All-head (λ n. n < limit) number rest all in
    fold_below (max seen number) limit rest (omega (arith, here)) (All-tail (λ n. n < limit) number rest all)

-- the greatest is below a limit where each number is
pub greatest_below : (limit : ℕ) (numbers : List ℕ) → 0 < limit → All (λ number. number < limit) numbers → fold max 0 numbers < limit
greatest_below limit numbers some all = fold_below 0 limit numbers some all

-- ---- widths

-- a width of a bit or more, by the digits of a number
pub width_holds : (greatest number : ℕ) → number ≤ greatest → number < 2 ^ max 1 (digit_count greatest)
width_holds greatest number le =
    let wide : digit_count greatest ≤ max 1 (digit_count greatest) = omega arith in
    let up : 2 ^ digit_count greatest ≤ 2 ^ max 1 (digit_count greatest) = pow_mono wide in
    omega (arith, digit_count-holds greatest, up)

pub width_narrow : (greatest : ℕ) → greatest < 2 ^ 64 → max 1 (digit_count greatest) ≤ 64
width_narrow greatest small = omega (arith, digit_count-le greatest 64 small)

-- numbers that are the same where a fact holds have the same sum
pub sum_typed : {X : Type 0} (P : X → Type 0) (f g : X → ℕ) (xs : List X) → ((x : X) → P x → f x ≡ g x) → All P xs → sum_by f xs ≡ sum_by g xs
sum_typed P f g [] same all = refl
sum_typed P f g (x ∷ xs) same all =
    omega (arith, sum_by-cons f x xs, sum_by-cons g x xs, same x (All-head P x xs all), sum_typed P f g xs same (All-tail P x xs all))

-- what holds of two lists place by place holds of what stands at a place
pub zip_at : {X Y : Type 0} (R : X → Y → Type 0) (xs : List X) (ys : List Y) (index : ℕ) (x : X) (y : Y) → AllZip R xs ys → slice_get xs index ≡ Some x → slice_get ys index ≡ Some y → R x y
zip_at R [] ys index x y all at there = absurd cc
zip_at R (a ∷ rest) [] index x y all at there = absurd all
zip_at R (a ∷ rest) (b ∷ behind) zero x y all at there = let one : a ≡ x = cc in let two : b ≡ y = cc in subst (λ z. R z y) one (subst (R a) two all.0)
zip_at R (a ∷ rest) (b ∷ behind) (suc index) x y all at there = zip_at R rest behind index x y all.1 at there

-- Where an index stands among those that are kept, and when two paths are the same.
use Rattle.std.proofs.Common.{◌≡◌, ◌<◌, ℕ, suc, List, [], ◌∷◌, length, map, Option, Some, None, refl, sym, ap, ◌∙◌, arith}
use Rattle.std.specs.Prelude.{Contains, slice_get}
use Rattle.std.specs.Option.{option_map}
use Rattle.std.proofs.lemmas.Option.{slice_get-get_or, slice_get-map, slice_get_within}

-- Of none of the first ones this is what it is asked for.
abbrev pub NoneBelow : {X Y : Type 0} → (X → Y) → List X → Y → ℕ → Type 0
NoneBelow {X} f xs one n = (k : ℕ) (x : X) → k < n → slice_get xs k ≡ Some x → f x ≡ one → ⊥

pub none_there : {X Y : Type 0} (f : X → Y) (xs : List X) (one : Y) → NoneBelow f xs one (length xs) → Contains (map f xs) one → ⊥
none_there {X} {Y} f xs one none (k, inside, at) = of_place (slice_get xs k) refl
  where
    there : slice_get (map f xs) k ≡ Some one
    there = slice_get-get_or (map f xs) k one inside ∙ ap Some at

    of_place : (found : Option X) → slice_get xs k ≡ found → ⊥
    of_place None is = let nothing : ◌≡◌ {A = Option Y} None (Some one) = sym (slice_get-map f xs k ∙ ap (option_map f) is) ∙ there in absurd cc
    of_place (Some x) is =
        let both : Some (f x) ≡ Some one = sym (slice_get-map f xs k ∙ ap (option_map f) is) ∙ there in
        none k x (slice_get_within xs k x is) is cc

-- lists that are the same at each place
pub same_lists : {A : Type 0} (xs ys : List A) → length xs ≡ length ys → ((k : ℕ) → k < length xs → slice_get xs k ≡ slice_get ys k) → xs ≡ ys
same_lists [] [] long each = refl
same_lists [] (y ∷ ys) long each = absurd (omega (arith, long))
same_lists (x ∷ xs) [] long each = absurd (omega (arith, long))
same_lists (x ∷ xs) (y ∷ ys) long each =
    let first : Some x ≡ Some y = each 0 (omega arith) in
    let one : x ≡ y = cc in
    let rest = same_lists xs ys (omega (arith, long)) (λ k inside. each (suc k) (omega (arith, inside))) in
    λ i. one i ∷ rest i

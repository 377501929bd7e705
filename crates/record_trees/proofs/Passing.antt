-- Walks over a list that end at the first item which decides: whether the whole holds is whether it holds of what is left.
use Rattle.std.proofs.Common.{◌≡◌, ◌↔◌, ◌⊎◌, inl, inr, ℕ, zero, suc, ◌+◌, ◌<◌, ◌≤◌, List, [], ◌∷◌, length, map, drop, Bool, IsTrue, true, false, refl, sym, ap, subst, ◌∙◌, add-one, drop-cons, arith}
use Rattle.std.specs.Prelude.{slice_index_or, All, Any}
use Rattle.std.proofs.lemmas.List.{drop_all}
use Rattle.std.proofs.lemmas.List.Elements.{All-nil, All-cons, All-head, All-tail}

-- what is left begins with the item at the place
pub left_at : {X Y : Type 0} (f : X → Y) (xs : List X) (i : ℕ) (x : X) → i < length xs → x ≡ slice_index_or xs i x → map f (drop i xs) ≡ f x ∷ map f (drop (i + 1) xs)
left_at f xs i x inside at =
    let front : drop i xs ≡ slice_index_or xs i x ∷ drop (i + 1) xs = rw (add-one, drop-cons xs i x inside) in
    ap (map f) front ∙ ap (λ v. f v ∷ map f (drop (i + 1) xs)) (sym at)

pub yes : {W : Type 0} → W → IsTrue true ↔ W
yes w = (λ t. w, λ v. refl)

pub no : {W : Type 0} → (W → ⊥) → IsTrue false ↔ W
no fails = (λ t. absurd cc, λ v. absurd (fails v))

apart : true ≡ false → ⊥
apart e = cc

pub no_at : {W : Type 0} (b : Bool) → b ≡ false → (W → ⊥) → IsTrue b ↔ W
no_at b is fails = (λ t. absurd (apart (sym t ∙ is)), λ v. absurd (fails v))

pub refuted : {W : Type 0} (b : Bool) → b ≡ false → IsTrue b ↔ W → W → ⊥
refuted b is decides w = apart (sym (decides.1 w) ∙ is)

-- what holds of each item
pub record IsEach {Y : Type 0} (P : Y → Type 0) (E : List Y → Type 0) : Type 0 where
  pub none : E []
  pub more : (y : Y) (ys : List Y) → P y → E ys → E (y ∷ ys)
  pub first : (y : Y) (ys : List Y) → E (y ∷ ys) → P y
  pub rest : (y : Y) (ys : List Y) → E (y ∷ ys) → E ys

-- what holds of one item at least
pub record IsSome {Y : Type 0} (P : Y → Type 0) (S : List Y → Type 0) : Type 0 where
  pub none : S [] → ⊥
  pub here : (y : Y) (ys : List Y) → P y → S (y ∷ ys)
  pub later : (y : Y) (ys : List Y) → S ys → S (y ∷ ys)
  pub either : (y : Y) (ys : List Y) → S (y ∷ ys) → P y ⊎ S ys

pub all_is_each : {Y : Type 0} (P : Y → Type 0) → IsEach P (All P)
all_is_each P = record { none = All-nil P; more = All-cons P; first = All-head P; rest = All-tail P }

any_later : {Y : Type 0} (P : Y → Type 0) (y : Y) (ys : List Y) → Any P ys → Any P (y ∷ ys)
any_later P y ys (k, x, inside, at, holds) = (suc k, x, omega arith, at, holds)

any_either : {Y : Type 0} (P : Y → Type 0) (y : Y) (ys : List Y) → Any P (y ∷ ys) → P y ⊎ Any P ys
any_either P y ys (zero, x, inside, at, holds) = inl (subst P (sym at) holds)
any_either P y ys (suc k, x, inside, at, holds) = inr (k, x, omega arith, at, holds)

any_none : {Y : Type 0} (P : Y → Type 0) → Any P [] → ⊥
any_none P (k, x, inside, at, holds) = omega arith

pub any_is_some : {Y : Type 0} (P : Y → Type 0) → IsSome P (Any P)
any_is_some P = record { none = any_none P; here = λ y ys holds. (0, y, omega arith, refl, holds); later = any_later P; either = any_either P }

-- of all items
pub each_passed : {X Y : Type 0} {P : Y → Type 0} {E : List Y → Type 0} (is : IsEach P E) (f : X → Y) (xs : List X) (i : ℕ) (x : X) → i < length xs → x ≡ slice_index_or xs i x
    → E (map f xs) ↔ E (map f (drop i xs)) → P (f x) → E (map f xs) ↔ E (map f (drop (i + 1) xs))
each_passed {E = E} is f xs i x inside at left holds =
    let e = left_at f xs i x inside at in
    (λ whole. is.rest (f x) _ (subst E e (left.0 whole)), λ rest. left.1 (subst E (sym e) (is.more (f x) _ holds rest)))

pub each_failed : {X Y : Type 0} {P : Y → Type 0} {E : List Y → Type 0} (is : IsEach P E) (f : X → Y) (xs : List X) (i : ℕ) (x : X) → i < length xs → x ≡ slice_index_or xs i x
    → E (map f xs) ↔ E (map f (drop i xs)) → (P (f x) → ⊥) → IsTrue false ↔ E (map f xs)
each_failed {E = E} is f xs i x inside at left fails = no (λ whole. fails (is.first (f x) _ (subst E (left_at f xs i x inside at) (left.0 whole))))

pub each_done : {X Y : Type 0} {P : Y → Type 0} {E : List Y → Type 0} (is : IsEach P E) (f : X → Y) (xs : List X) (i : ℕ) → length xs ≤ i
    → E (map f xs) ↔ E (map f (drop i xs)) → IsTrue true ↔ E (map f xs)
each_done {E = E} is f xs i past left = yes (left.1 (subst (λ ys. E (map f ys)) (sym (drop_all i xs past)) is.none))

-- of some item
pub some_passed : {X Y : Type 0} {P : Y → Type 0} {S : List Y → Type 0} (is : IsSome P S) (f : X → Y) (xs : List X) (i : ℕ) (x : X) → i < length xs → x ≡ slice_index_or xs i x
    → S (map f xs) ↔ S (map f (drop i xs)) → (P (f x) → ⊥) → S (map f xs) ↔ S (map f (drop (i + 1) xs))
some_passed {S = S} is f xs i x inside at left fails =
    let e = left_at f xs i x inside at in (
      λ whole. elim (is.either (f x) _ (subst S e (left.0 whole))) [ inl holds ↦ absurd (fails holds) | inr rest ↦ rest ],
      λ rest. left.1 (subst S (sym e) (is.later (f x) _ rest)),
    )

pub some_found : {X Y : Type 0} {P : Y → Type 0} {S : List Y → Type 0} (is : IsSome P S) (f : X → Y) (xs : List X) (i : ℕ) (x : X) → i < length xs → x ≡ slice_index_or xs i x
    → S (map f xs) ↔ S (map f (drop i xs)) → P (f x) → S (map f xs)
some_found {S = S} is f xs i x inside at left holds = left.1 (subst S (sym (left_at f xs i x inside at)) (is.here (f x) _ holds))

pub some_gone : {X Y : Type 0} {P : Y → Type 0} {S : List Y → Type 0} (is : IsSome P S) (f : X → Y) (xs : List X) (i : ℕ) → length xs ≤ i
    → S (map f xs) ↔ S (map f (drop i xs)) → S (map f xs) → ⊥
some_gone {S = S} is f xs i past left whole = is.none (subst (λ ys. S (map f ys)) (drop_all i xs past) (left.0 whole))

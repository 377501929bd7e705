-- Parts whose value has the offset at which they stand: the bytes that spell one are read so wherever they stand.
use Rattle.std.proofs.Common.{◌≡◌, ◌+◌, ℕ, List, [], ◌∷◌, ◌++◌, length, refl, subst, arith, length-append, append_assoc, append-nil}
use Rattle.std.specs.List.{flat_map, All}
use Rattle.std.proofs.lemmas.List.Elements.{All-head, All-tail}
use Rattle.blob_grammar.specs.Form.{Form, ◌>>=◌, nothing, repeated, counted, here}
use Rattle.blob_frame.proofs.Spelling.{Spells, spells_nothing}
use Rattle.blob_writing.specs.Placed.{placed}

-- Wherever these bytes stand, the part stands there with the value of that offset, and up to their end.
pub record SpellsAt {V : Type 0} (form : Form V) (value : ℕ → V) (bytes : List ℕ) : Type 0 where
  pub stands : (before behind : List ℕ) → form.Stands (before ++ bytes ++ behind) (length before) (value (length before)) (length before + length bytes)

-- a part of the same value everywhere
pub anywhere : {V : Type 0} {form : Form V} {v : V} {bytes : List ℕ} → Spells form v bytes → SpellsAt form (λ at. v) bytes
anywhere p = record { stands = p.stands }

pub at_same : {V : Type 0} {form : Form V} {value : ℕ → V} {xs ys : List ℕ} → SpellsAt form value xs → xs ≡ ys → SpellsAt form value ys
at_same {form = form} {value = value} p is = subst (λ bytes. SpellsAt form value bytes) is p

first_part : (before xs ys behind : List ℕ) → before ++ xs ++ (ys ++ behind) ≡ before ++ (xs ++ ys) ++ behind
first_part before xs ys behind = simp append_assoc

second_part : (before xs ys behind : List ℕ) → before ++ xs ++ ys ++ behind ≡ before ++ (xs ++ ys) ++ behind
second_part before xs ys behind = simp append_assoc

-- one part and what its value calls for
pub at_then : {A B : Type 0} {a : Form A} (b : A → Form B) {x : ℕ → A} (value : ℕ → ℕ → B) {xs ys : List ℕ} → SpellsAt a x xs →
    ((at : ℕ) → SpellsAt (b (x at)) (value at) ys) → SpellsAt (a >>= b) (λ at. value at (at + length xs)) (xs ++ ys)
unfolding ◌>>=◌
at_then {a = a} b {x} value {xs} {ys} p q = record {
  stands = λ before behind.
      let at = length before in (
        x at,
        at + length xs,
        subst (λ bytes. a.Stands bytes at (x at) (at + length xs)) (first_part before xs ys behind) (p.stands before (ys ++ behind)),
        subst (λ bytes. (b (x at)).Stands bytes (at + length xs) (value at (at + length xs)) (at + length (xs ++ ys))) (second_part before xs ys behind)
            (subst (λ next. (b (x at)).Stands (before ++ xs ++ ys ++ behind) (at + length xs) (value at (at + length xs)) next) (omega (arith, length-append xs ys))
            (subst (λ mid. (b (x at)).Stands (before ++ xs ++ ys ++ behind) mid (value at mid) (mid + length ys)) (length-append before xs)
            ((q at).stands (before ++ xs) behind))),
      );
}

-- a last part, and what is made of its value
pub at_last : {A B : Type 0} {a : Form A} (f : A → B) {x : ℕ → A} {xs : List ℕ} → SpellsAt a x xs → SpellsAt (a >>= (λ v. nothing (f v))) (λ at. f (x at)) xs
at_last f {x} {xs} p = at_same (at_then (λ v. nothing (f v)) (λ at mid. f (x at)) p (λ at. anywhere (spells_nothing (f (x at))))) (append-nil xs)

-- the offset, and what it calls for
pub at_here : {B : Type 0} (b : ℕ → Form B) (value : ℕ → B) {bytes : List ℕ} → ((at : ℕ) → Spells (b at) (value at) bytes) → SpellsAt (here >>= b) value bytes
unfolding ◌>>=◌ here
at_here b value q = record { stands = λ before behind. (length before, length before, (refl, refl), (q (length before)).stands before behind) }

-- so many parts, each by its own bytes
pub at_repeated : {A V : Type 0} {form : Form V} (P : A → Type 0) (spelled : A → List ℕ) (made : A → ℕ → V) → ((x : A) → P x → SpellsAt form (made x) (spelled x)) →
    (xs : List A) → All P xs → SpellsAt (repeated (length xs) form) (placed spelled made xs) (flat_map spelled xs)
unfolding repeated
at_repeated P spelled made each [] all = anywhere (spells_nothing [])
at_repeated P spelled made each (x ∷ xs) all =
    at_then _ (λ at mid. made x at ∷ placed spelled made xs mid) (each x (All-head P x xs all))
    (λ at. at_last (λ vs. made x at ∷ vs) (at_repeated P spelled made each xs (All-tail P x xs all)))

pub at_counted : {A V : Type 0} {number : Form ℕ} {form : Form V} (P : A → Type 0) (spelled : A → List ℕ) (made : A → ℕ → V) → ((x : A) → P x → SpellsAt form (made x) (spelled x)) →
    (xs : List A) → All P xs → {count : List ℕ} → Spells number (length xs) count → SpellsAt (counted number form) (λ at. placed spelled made xs (at + length count)) (count ++ flat_map spelled xs)
unfolding counted
at_counted P spelled made each xs all p = at_then _ (λ at mid. placed spelled made xs mid) (anywhere p) (λ at. at_repeated P spelled made each xs all)

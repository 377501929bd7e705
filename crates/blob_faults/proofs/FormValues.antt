-- What holds of each value that stands by a form, wherever it stands: the words of forms hand it on.
use Rattle.std.proofs.Common.{◌≡◌, ◌≤◌, ℕ, zero, suc, List, [], ◌∷◌, refl, sym, ap, subst, length}
use Rattle.std.specs.Prelude.{All}
use Rattle.std.specs.List.{AllZip}
use Rattle.std.proofs.lemmas.List.Elements.{All-cons, All-nil}
use Rattle.blob_grammar.specs.Form.{Form, ◌>>=◌, nothing, judged, at_most, repeated, both, made, counted, each_of}

-- This holds of each value with which the form stands somewhere.
abbrev pub Gives : {V : Type 0} → Form V → (V → Type 0) → Type 0
Gives {V} form P = (bytes : List ℕ) (at : ℕ) (v : V) (next : ℕ) → form.Stands bytes at v next → P v

-- of each value something holds that says nothing
pub gives_any : {V : Type 0} (form : Form V) → Gives form (λ v. Unit {0})
gives_any form bytes at v next stands = tt

-- of the one value of no bytes
pub gives_nothing : {A : Type 0} (P : A → Type 0) (v : A) → P v → Gives (nothing v) P
unfolding nothing
gives_nothing P v holds bytes at w next stands = subst P (sym stands.0) holds

-- of what stands behind another part, where it follows from what holds of that part's value
pub gives_then : {A B : Type 0} (a : Form A) (b : A → Form B) (P : A → Type 0) (Q : B → Type 0) → Gives a P → ((x : A) → P x → Gives (b x) Q) → Gives (a >>= b) Q
unfolding ◌>>=◌
gives_then a b P Q first then bytes at v next stands = then stands.0 (first bytes at stands.0 stands.1 stands.2) bytes stands.1 v next stands.3

-- a count is at most the greatest one
pub gives_at_most : (a : Form ℕ) (most : ℕ) → Gives (at_most a most) (λ n. n ≤ most)
unfolding at_most judged
gives_at_most a most bytes at v next stands = subst (λ n. n ≤ most) (sym stands.2.0) stands.2.1

-- so many values, of each of which it holds
pub gives_repeated : {A : Type 0} (n : ℕ) (a : Form A) (P : A → Type 0) → Gives a P → Gives (repeated n a) (λ xs. (length xs ≡ n) × All P xs)
unfolding repeated
gives_repeated zero a P each = gives_nothing (λ xs. (length xs ≡ zero) × All P xs) [] (refl, All-nil P)
gives_repeated {A} (suc n) a P each =
    gives_then a (λ x. repeated n a >>= λ xs. nothing (x ∷ xs)) P (λ xs. (length xs ≡ suc n) × All P xs) each (λ x here.
    gives_then (repeated n a) (λ xs. nothing (x ∷ xs)) (λ xs. (length xs ≡ n) × All P xs) (λ xs. (length xs ≡ suc n) × All P xs) (gives_repeated n a P each) (λ xs rest.
    gives_nothing (λ xs. (length xs ≡ suc n) × All P xs) (x ∷ xs) (ap suc rest.0, All-cons P x xs here rest.1)))

-- as many values as a number says
pub gives_counted : {A : Type 0} (number : Form ℕ) (a : Form A) (P : ℕ → Type 0) (Q : A → Type 0) → Gives number P → Gives a Q → Gives (counted number a) (λ xs. P (length xs) × All Q xs)
unfolding counted
gives_counted number a P Q count each =
    gives_then number (λ n. repeated n a) P (λ xs. P (length xs) × All Q xs) count
    (λ n here bytes at xs next stands. let rest = gives_repeated n a Q each bytes at xs next stands in (subst P (sym rest.0) here, rest.1))

-- a value for each of some things, beside which it holds
pub gives_each : {A B : Type 0} (f : A → Form B) (P : A → B → Type 0) → ((x : A) → Gives (f x) (P x)) → (xs : List A) → Gives (each_of f xs) (AllZip P xs)
unfolding each_of
gives_each f P each [] = gives_nothing (AllZip P []) [] tt
gives_each f P each (x ∷ xs) =
    gives_then (f x) (λ y. each_of f xs >>= λ ys. nothing (y ∷ ys)) (P x) (AllZip P (x ∷ xs)) (each x) (λ y here.
    gives_then (each_of f xs) (λ ys. nothing (y ∷ ys)) (AllZip P xs) (AllZip P (x ∷ xs)) (gives_each f P each xs) (λ ys rest. gives_nothing (AllZip P (x ∷ xs)) (y ∷ ys) (here, rest)))

-- of what is made of a value
pub gives_made : {A B : Type 0} (f : A → B) (a : Form A) (P : A → Type 0) (Q : B → Type 0) → Gives a P → ((x : A) → P x → Q (f x)) → Gives (made f a) Q
unfolding made
gives_made f a P Q first then = gives_then a (λ x. nothing (f x)) P Q first (λ x here. gives_nothing Q (f x) (then x here))

-- of two values, one behind the other
pub gives_both : {A B : Type 0} (a : Form A) (b : Form B) (P : A → Type 0) (Q : B → Type 0) → Gives a P → Gives b Q → Gives (both a b) (λ p. P p.0 × Q p.1)
unfolding both
gives_both a b P Q first second =
    gives_then a (λ x. b >>= λ y. nothing (x, y)) P (λ p. P p.0 × Q p.1) first (λ x here.
    gives_then b (λ y. nothing (x, y)) Q (λ p. P p.0 × Q p.1) second (λ y there. gives_nothing (λ p. P p.0 × Q p.1) (x, y) (here, there)))

-- What holds of all values that a form gives: the words that forms are made of carry it from the parts to the whole.
use Rattle.std.proofs.Common.{ℕ, zero, suc, List, sym, subst}
use Rattle.std.specs.Prelude.{All}
use Rattle.std.proofs.lemmas.List.Elements.{All-cons, All-nil}
use Rattle.schema_model.specs.declared.reason.Reason.{Reason}
use Rattle.blob_grammar.specs.Decided.{IsJudge}
use Rattle.blob_grammar.specs.Form.{Form, ◌>>=◌, nothing, judged, repeated, both, made, counted}

-- Whatever stands by the form, at whichever place of whichever bytes, is such a value.
abbrev pub Gives : {A : Type 0} → Form A → (A → Type 0) → Type 0
Gives {A} form P = (bytes : List ℕ) (at : ℕ) (value : A) (next : ℕ) → form.Stands bytes at value next → P value

pub nothing_gives : {A : Type 0} (v : A) (P : A → Type 0) → P v → Gives (nothing v) P
unfolding nothing
nothing_gives v P p bytes at value next stands = subst P (sym stands.0) p

pub judged_gives : {A B : Type 0} (a : Form A) (Means : A → B → Type 0) (Refused : A → Reason → Type 0) (judge : IsJudge Means Refused) (P : B → Type 0) → ((x : A) (v : B) → Means x v → P v)
    → Gives (judged a Means Refused judge) P
unfolding judged
judged_gives a Means Refused judge P each bytes at value next (x, stands, means) = each x value means

pub made_gives : {A B : Type 0} (f : A → B) (a : Form A) (P : A → Type 0) (Q : B → Type 0) → Gives a P → ((x : A) → P x → Q (f x)) → Gives (made f a) Q
unfolding made ◌>>=◌ nothing
made_gives f a P Q first each bytes at value next (x, mid, stands, is) = subst Q (sym is.0) (each x (first bytes at x mid stands))

pub both_gives : {A B : Type 0} (a : Form A) (b : Form B) (P : A → Type 0) (Q : B → Type 0) → Gives a P → Gives b Q → Gives (both a b) (λ pair. P pair.0 × Q pair.1)
unfolding both ◌>>=◌ nothing
both_gives {A} {B} a b P Q first second bytes at value next (x, mid, stands, (y, end, behind, is)) =
    subst (λ (pair : A × B). P pair.0 × Q pair.1) (sym is.0) (first bytes at x mid stands, second bytes mid y end behind)

pub repeated_gives : {A : Type 0} (n : ℕ) (a : Form A) (P : A → Type 0) → Gives a P → Gives (repeated n a) (All P)
unfolding repeated ◌>>=◌ nothing
repeated_gives zero a P each bytes at value next stands = subst (All P) (sym stands.0) (All-nil P)
repeated_gives (suc n) a P each bytes at value next (x, mid, stands, (xs, end, behind, is)) =
    subst (All P) (sym is.0) (All-cons P x xs (each bytes at x mid stands) (repeated_gives n a P each bytes mid xs end behind))

pub counted_gives : {A : Type 0} (number : Form ℕ) (a : Form A) (P : A → Type 0) → Gives a P → Gives (counted number a) (All P)
unfolding counted ◌>>=◌
counted_gives number a P each bytes at value next (n, mid, stands, behind) = repeated_gives n a P each bytes mid value next behind

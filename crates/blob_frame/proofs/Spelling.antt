-- What is written stands: the bytes that spell a part are read as it, wherever they stand.
use Rattle.std.proofs.Common.{◌≡◌, ◌≤◌, ◌<◌, ◌+◌, ◌^◌, ℕ, List, [], ◌∷◌, ◌++◌, take, drop, length, refl, ◌∙◌, subst, sym, ap, arith, length-append, append_assoc, append-nil}
use Rattle.std.specs.List.{flat_map, All}
use Rattle.std.specs.Int.{Width, byte_len, from_be_bytes}
use Rattle.std.specs.Str.{IsUtf8}
use Rattle.std.proofs.lemmas.List.{take_at, drop_at}
use Rattle.std.proofs.lemmas.List.Elements.{All-head, All-tail}
use Rattle.hol_varint.specs.Varint.{varint_bytes}
use Rattle.hol_varint.specs.JavaUtf.{java_bytes, utf_bytes}
use Rattle.hol_varint.specs.TextUnits.{AreUnits, text_units}
use Rattle.hol_varint.proofs.VarWriting.{stands_between}
use Rattle.hol_varint.proofs.JavaTexts.{utf_stands_between}
use Rattle.hol_varint.proofs.Characters.{text_units-are}
use Rattle.schema_model.specs.declared.reason.Reason.{Reason}
use Rattle.blob_grammar.specs.Decided.{IsJudge}
use Rattle.blob_grammar.specs.Form.{Form, ◌>>=◌, nothing, judged, repeated, made, both, counted}
use Rattle.blob_frame.specs.Item.{fixed, varint, units, name, run, skipped}

-- Wherever these bytes stand, the part stands there with this value, and up to their end.
pub record Spells {V : Type 0} (form : Form V) (v : V) (bytes : List ℕ) : Type 0 where
  pub stands : (before behind : List ℕ) → form.Stands (before ++ bytes ++ behind) (length before) v (length before + length bytes)

pub spells_same : {V : Type 0} {form : Form V} {v : V} {xs ys : List ℕ} → Spells form v xs → xs ≡ ys → Spells form v ys
spells_same {form = form} {v = v} p is = subst (λ bytes. Spells form v bytes) is p

first_part : (before xs ys behind : List ℕ) → before ++ xs ++ (ys ++ behind) ≡ before ++ (xs ++ ys) ++ behind
first_part before xs ys behind = simp append_assoc

second_part : (before xs ys behind : List ℕ) → before ++ xs ++ ys ++ behind ≡ before ++ (xs ++ ys) ++ behind
second_part before xs ys behind = simp append_assoc

-- one part and what its value calls for
pub spells_then : {A B : Type 0} {a : Form A} (b : A → Form B) {x : A} {v : B} {xs ys : List ℕ} → Spells a x xs → Spells (b x) v ys → Spells (a >>= b) v (xs ++ ys)
unfolding ◌>>=◌
spells_then {a = a} b {x} {v} {xs} {ys} p q = record {
  stands = λ before behind. (
    x,
    length before + length xs,
    subst (λ bytes. a.Stands bytes (length before) x (length before + length xs)) (first_part before xs ys behind) (p.stands before (ys ++ behind)),
    subst (λ bytes. (b x).Stands bytes (length before + length xs) v (length before + length (xs ++ ys))) (second_part before xs ys behind)
        (subst (λ at. (b x).Stands (before ++ xs ++ ys ++ behind) at v (length before + length (xs ++ ys))) (length-append before xs)
        (subst (λ next. (b x).Stands (before ++ xs ++ ys ++ behind) (length (before ++ xs)) v next) (omega (arith, length-append before xs, length-append xs ys))
        (q.stands (before ++ xs) behind))),
  );
}

pub spells_nothing : {V : Type 0} (v : V) → Spells (nothing v) v []
unfolding nothing
spells_nothing v = record { stands = λ before behind. (refl, omega arith) }

-- a last part, and what is made of its value
pub spells_last : {A B : Type 0} {a : Form A} (f : A → B) {x : A} {xs : List ℕ} → Spells a x xs → Spells (a >>= (λ x. nothing (f x))) (f x) xs
spells_last f {x} {xs} p = spells_same (spells_then (λ x. nothing (f x)) p (spells_nothing (f x))) (append-nil xs)

pub spells_made : {A B : Type 0} {a : Form A} (f : A → B) {x : A} {xs : List ℕ} → Spells a x xs → Spells (made f a) (f x) xs
unfolding made
spells_made f p = spells_last f p

pub spells_both : {A B : Type 0} {a : Form A} {b : Form B} {x : A} {y : B} {xs ys : List ℕ} → Spells a x xs → Spells b y ys → Spells (both a b) (x, y) (xs ++ ys)
unfolding both
spells_both {x = x} p q = spells_then _ p (spells_last (λ y. (x, y)) q)

pub spells_judged : {A B : Type 0} {a : Form A} (Means : A → B → Type 0) (F : A → Reason → Type 0) (J : IsJudge Means F) {x : A} {v : B} {xs : List ℕ} →
    Spells a x xs → Means x v → Spells (judged a Means F J) v xs
unfolding judged
spells_judged Means F J {x} p m = record { stands = λ before behind. (x, p.stands before behind, m) }

-- so many parts, each by its own bytes
pub spells_repeated : {A : Type 0} {form : Form A} (P : A → Type 0) (spelled : A → List ℕ) → ((x : A) → P x → Spells form x (spelled x)) →
    (xs : List A) → All P xs → Spells (repeated (length xs) form) xs (flat_map spelled xs)
unfolding repeated
spells_repeated P spelled each [] all = spells_nothing []
spells_repeated P spelled each (x ∷ xs) all =
    spells_then _ (each x (All-head P x xs all)) (spells_last (λ ys. x ∷ ys) (spells_repeated P spelled each xs (All-tail P x xs all)))

pub spells_counted : {A : Type 0} {number : Form ℕ} {form : Form A} (P : A → Type 0) (spelled : A → List ℕ) → ((x : A) → P x → Spells form x (spelled x)) →
    (xs : List A) → All P xs → {count : List ℕ} → Spells number (length xs) count → Spells (counted number form) xs (count ++ flat_map spelled xs)
unfolding counted
spells_counted P spelled each xs all p = spells_then _ p (spells_repeated P spelled each xs all)

-- the bytes that stand behind others
there : (before bytes behind : List ℕ) (n : ℕ) → length bytes ≡ n → take n (drop (length before) (before ++ bytes ++ behind)) ≡ bytes
there before bytes behind n is =
    ap (λ (xs : List ℕ). take n (drop (length before) xs)) (append_assoc before bytes behind)
    ∙ (ap (λ (xs : List ℕ). take n xs) (drop_at before (bytes ++ behind) (length before) refl) ∙ take_at bytes behind n is)

inside : (before bytes behind : List ℕ) → length before + length bytes ≤ length (before ++ bytes ++ behind)
inside before bytes behind = omega (arith, length-append (before ++ bytes) behind, length-append before bytes)

pub spells_fixed : (w : Width) {n : ℕ} (bytes : List ℕ) → length bytes ≡ byte_len w → n ≡ from_be_bytes w bytes → Spells (fixed w) n bytes
unfolding fixed
spells_fixed w bytes long is = record {
  stands = λ before behind. (
    ap (λ n. length before + n) long,
    inside before bytes behind,
    is ∙ ap (from_be_bytes w) (sym (there before bytes behind (byte_len w) long)),
  );
}

pub spells_varint : (limit n : ℕ) → n < limit → Spells (varint limit) n (varint_bytes n)
unfolding varint
spells_varint limit n below = record {
  stands = λ before behind. subst (λ next. (varint limit).Stands (before ++ varint_bytes n ++ behind) (length before) n next) (length-append before (varint_bytes n))
      (stands_between limit before behind n below);
}

pub spells_units : (us : List ℕ) → AreUnits us → length (java_bytes us) < 2 ^ 16 → Spells units us (utf_bytes us)
unfolding units
spells_units us are fits = record {
  stands = λ before behind. subst (λ next. units.Stands (before ++ utf_bytes us ++ behind) (length before) us next) (length-append before (utf_bytes us))
      (utf_stands_between before behind us are fits);
}

pub spells_name : (text : List ℕ) → IsUtf8 text → length (java_bytes (text_units text)) < 2 ^ 16 → Spells name text (utf_bytes (text_units text))
unfolding name
spells_name text utf8 short = spells_judged _ _ _ (spells_units (text_units text) (text_units-are text utf8) short) (record { utf8 = utf8; same = refl })

pub spells_skipped_none : Spells (skipped 0) tt []
unfolding skipped run
spells_skipped_none = spells_judged _ _ _ (record { stands = λ before behind. (omega arith, inside before [] behind, refl) }) tt

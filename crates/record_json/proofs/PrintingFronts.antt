-- Things that are printed one after the other, each for its nodes.
use Rattle.std.proofs.Common.{◌≡◌, ℕ, zero, suc, ◌+◌, ◌<◌, ◌≤◌, List, [], ◌∷◌, ◌++◌, length, map, take, zip, refl, sym, ap, subst, ◌∙◌, arith}
use Rattle.std.specs.Prelude.{slice_index_or}
use Rattle.std.specs.List.{AllZip}
use Rattle.std.proofs.lemmas.List.{length-append, take_all, take_more, map-append}
use Rattle.std.proofs.lemmas.Slice.Zip.{all_zipped_more}
use Rattle.serde_json.specs.Data.{Data}
use Rattle.serde_json.specs.View.{view}
use Rattle.serde_json.specs.declared.value.Value.{Value}
use Rattle.record_json.specs.Printing.{count_of}

-- so many of the things print so, and their nodes were taken off
pub record IsPrintedFront {A : Type 0} (Prints : A → Data → Type 0) (nodes : A → ℕ) (xs : List A) (i before now : ℕ) (printed : List Data) : Type 0 where
  pub parts : AllZip Prints (take i xs) printed
  pub spent : now + count_of nodes (take i xs) ≡ before

pub count_append : {A : Type 0} (nodes : A → ℕ) (xs : List A) (x : A) → count_of nodes (xs ++ x ∷ []) ≡ count_of nodes xs + nodes x
count_append nodes [] x = omega arith
count_append nodes (y ∷ xs) x = let rest = count_append nodes xs x in omega (arith, rest)

-- a front has no more nodes than the whole
pub front_count : {A : Type 0} (nodes : A → ℕ) (xs : List A) (i : ℕ) → count_of nodes (take i xs) ≤ count_of nodes xs
front_count nodes xs zero = omega arith
front_count nodes [] (suc i) = omega arith
front_count nodes (x ∷ xs) (suc i) = let rest = front_count nodes xs i in omega (arith, rest)

-- the front with one thing more
pub longer : {A : Type 0} (xs : List A) (i : ℕ) (x : A) → i < length xs → x ≡ slice_index_or xs i x → take (i + 1) xs ≡ take i xs ++ x ∷ []
longer xs i x inside at = take_more xs i x inside ∙ ap (λ y. take i xs ++ y ∷ []) (sym at)

pub printed_none : {A : Type 0} (Prints : A → Data → Type 0) (nodes : A → ℕ) (xs : List A) (before : ℕ) → IsPrintedFront Prints nodes xs 0 before before []
printed_none Prints nodes xs before = record { parts = tt; spent = omega arith }

pub printed_more : {A : Type 0} (Prints : A → Data → Type 0) (nodes : A → ℕ) (xs : List A) (i before now after : ℕ) (printed : List Data) (x : A) (part : Data)
    → i < length xs → x ≡ slice_index_or xs i x → IsPrintedFront Prints nodes xs i before now printed → Prints x part → after + nodes x ≡ now
    → IsPrintedFront Prints nodes xs (i + 1) before after (printed ++ part ∷ [])
printed_more Prints nodes xs i before now after printed x part inside at front prints spent =
    let e = longer xs i x inside at in
    let count = ap (count_of nodes) e ∙ count_append nodes (take i xs) x in
    let before_is = front.spent in
    record {
      parts = subst (λ ys. AllZip Prints ys (printed ++ part ∷ [])) (sym e) (all_zipped_more Prints (take i xs) printed x part front.parts prints);
      spent = omega (arith, count, before_is, spent);
    }

-- a thing that has more nodes than are left
pub printed_stops : {A : Type 0} (Prints : A → Data → Type 0) (nodes : A → ℕ) (xs : List A) (i before now : ℕ) (printed : List Data) (x : A)
    → i < length xs → x ≡ slice_index_or xs i x → IsPrintedFront Prints nodes xs i before now printed → now < nodes x → before < count_of nodes xs
printed_stops Prints nodes xs i before now printed x inside at front less =
    let count = ap (count_of nodes) (longer xs i x inside at) ∙ count_append nodes (take i xs) x in
    let whole = front_count nodes xs (i + 1) in
    let before_is = front.spent in
    omega (arith, count, whole, before_is, less)

pub printed_whole : {A : Type 0} (Prints : A → Data → Type 0) (nodes : A → ℕ) (xs : List A) (i before now : ℕ) (printed : List Data) → length xs ≤ i
    → IsPrintedFront Prints nodes xs i before now printed → AllZip Prints xs printed × (now + count_of nodes xs ≡ before)
printed_whole {A = A} Prints nodes xs i before now printed past front =
    let e : take i xs ≡ xs = take_all i xs past in (
      subst (λ (ys : List A). AllZip Prints ys printed) e front.parts,
      subst (λ (ys : List A). now + count_of nodes ys ≡ before) e front.spent,
    )

-- the views of the values with one more
pub views_more : (old new : List Value) (value : Value) → new ≡ old ++ value ∷ [] → map view new ≡ map view old ++ view value ∷ []
views_more old new value is = ap (map view) is ∙ map-append view old (value ∷ [])

-- what stands at a place of two lists
pub zipped_at : {A B : Type 0} (xs : List A) (ys : List B) (i : ℕ) (x : A) (y : B) → length xs ≡ length ys → i < length ys → x ≡ slice_index_or xs i x → y ≡ slice_index_or ys i y
    → (i < length (zip xs ys)) × ((x, y) ≡ slice_index_or (zip xs ys) i (x, y))
zipped_at [] ys i x y long inside at at' = absurd (omega arith)
zipped_at (a ∷ xs) [] i x y long inside at at' = absurd (omega arith)
zipped_at (a ∷ xs) (b ∷ ys) zero x y long inside at at' = (omega arith, ap (λ v. (v, y)) at ∙ ap (λ v. (a, v)) at')
zipped_at (a ∷ xs) (b ∷ ys) (suc i) x y long inside at at' =
    let rest = zipped_at xs ys i x y (omega arith) (omega arith) at at' in (omega (arith, rest.0), rest.1)

pub length_zipped : {A B : Type 0} (xs : List A) (ys : List B) → length xs ≡ length ys → length (zip xs ys) ≡ length ys
length_zipped [] [] long = refl
length_zipped [] (b ∷ ys) long = absurd (omega arith)
length_zipped (a ∷ xs) [] long = absurd (omega arith)
length_zipped (a ∷ xs) (b ∷ ys) long = ap suc (length_zipped xs ys (omega arith))

pub longer_by : {A : Type 0} (xs : List A) (x : A) (n : ℕ) → length xs ≡ n → length (xs ++ x ∷ []) ≡ n + 1
longer_by xs x n long = length-append xs (x ∷ []) ∙ ap (λ k. k + 1) long

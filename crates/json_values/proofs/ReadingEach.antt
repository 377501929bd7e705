-- Items that are read one after the other.
use Rattle.std.proofs.Common.{◌≡◌, ℕ, ◌+◌, ◌<◌, ◌≤◌, List, [], ◌∷◌, ◌++◌, length, drop, Result, Ok, Err, refl, sym, ◌∙◌, ap, append_assoc, add-one, drop-cons}
use Rattle.std.specs.Prelude.{slice_index_or}
use Rattle.std.proofs.lemmas.List.{drop_all, append-nil}
use Rattle.serde_json.specs.Data.{Data}
use Rattle.serde_json.specs.View.{view, items_view}
use Rattle.serde_json.specs.declared.value.Value.{Value}
use Rattle.schema_model.specs.declared.reason.Reason.{Reason}
use Rattle.json_values.specs.ReadValue.{before, read_each}

-- what was read before the rest
abbrev pub joined : {A : Type 0} → List A → Result (List A) Reason → Result (List A) Reason
joined xs (Ok ys) = Ok (xs ++ ys)
joined xs (Err reason) = Err reason

-- so many items were read, and gave these
pub record WasRead {A : Type 0} (read : Data → Result A Reason) (values : List Value) (i : ℕ) (xs : List A) : Type 0 where
  pub whole : read_each read (items_view values) ≡ joined xs (read_each read (items_view (drop i values)))

joined_before : {A : Type 0} (xs : List A) (x : A) (rest : Result (List A) Reason) → joined xs (before (Ok x) rest) ≡ joined (xs ++ x ∷ []) rest
joined_before xs x (Ok ys) = ap Ok (sym (append_assoc xs (x ∷ []) ys))
joined_before xs x (Err reason) = refl

none_joined : {A : Type 0} (rest : Result (List A) Reason) → rest ≡ joined [] rest
none_joined (Ok ys) = refl
none_joined (Err reason) = refl

-- the item at a place comes before the rest
at_place : {A : Type 0} (read : Data → Result A Reason) (values : List Value) (i : ℕ) (value : Value) → i < length values → value ≡ slice_index_or values i value
    → read_each read (items_view (drop i values)) ≡ before (read (view value)) (read_each read (items_view (drop (i + 1) values)))
at_place read values i value inside at =
    let front : drop i values ≡ slice_index_or values i value ∷ drop (i + 1) values = rw (add-one, drop-cons values i value) in
    ap (λ vs. read_each read (items_view vs)) front ∙ ap (λ v. before (read (view v)) (read_each read (items_view (drop (i + 1) values)))) (sym at)

pub read_none : {A : Type 0} (read : Data → Result A Reason) (values : List Value) → WasRead read values 0 []
read_none read values = record { whole = none_joined (read_each read (items_view values)) }

pub read_more : {A : Type 0} (read : Data → Result A Reason) (values : List Value) (i : ℕ) (value : Value) (xs new : List A) (x : A) → i < length values → value ≡ slice_index_or values i value
    → WasRead read values i xs → read (view value) ≡ Ok x → new ≡ xs ++ x ∷ [] → WasRead read values (i + 1) new
read_more read values i value xs new x inside at was reads is =
    let rest = read_each read (items_view (drop (i + 1) values)) in
    record { whole = was.whole ∙ ap (joined xs) (at_place read values i value inside at ∙ ap (λ r. before r rest) reads) ∙ joined_before xs x rest ∙ ap (λ ys. joined ys rest) (sym is) }

pub read_stops : {A : Type 0} (read : Data → Result A Reason) (values : List Value) (i : ℕ) (value : Value) (xs : List A) (reason : Reason) → i < length values
    → value ≡ slice_index_or values i value → WasRead read values i xs → read (view value) ≡ Err reason → read_each read (items_view values) ≡ Err reason
read_stops read values i value xs reason inside at was reads =
    let rest = read_each read (items_view (drop (i + 1) values)) in
    was.whole ∙ ap (joined xs) (at_place read values i value inside at ∙ ap (λ r. before r rest) reads)

pub read_whole : {A : Type 0} (read : Data → Result A Reason) (values : List Value) (i : ℕ) (xs : List A) → length values ≤ i → WasRead read values i xs
    → read_each read (items_view values) ≡ Ok xs
read_whole read values i xs all was =
    was.whole ∙ ap (λ vs. joined xs (read_each read (items_view vs))) (drop_all i values all) ∙ ap Ok (append-nil xs)

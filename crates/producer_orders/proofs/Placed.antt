-- Items beside their places, one after another, and the records at theirs.
use Rattle.std.proofs.Common.{◌≡◌, ℕ, zero, suc, ◌+◌, ◌<◌, ◌≤◌, List, [], ◌∷◌, ◌++◌, length, take, drop, map, Some, refl, sym, ap, ◌∙◌, arith, add-one, add-zero, zero-add}
use Rattle.std.specs.Prelude.{slice_get, slice_index_or}
use Rattle.std.specs.List.{flat_map, range_with_len, zip}
use Rattle.std.specs.Option.{option_map}
use Rattle.std.proofs.lemmas.List.{append-nil, length-map, take_all, take-append-drop}
use Rattle.std.proofs.lemmas.Grind.{flat_map-append}
use Rattle.std.proofs.lemmas.Option.{slice_get-get_or, slice_get-map}
use Rattle.serde_json.specs.Data.{Data}
use Rattle.schema_model.specs.declared.schema.Schema.{Schema}
use Rattle.hollow_machine.specs.Records.{Entry, entries, entries_at, entries_of_type, placed, values_under}

-- the record at a place of a type
abbrev pub entry_at : ℕ → ℕ → Data → Entry
entry_at t place value = record { type_index = t; place = place; value = value }

-- a front with one item more
take_next : {A : Type 0} (xs : List A) (i : ℕ) (x : A) → slice_get xs i ≡ Some x → take (i + 1) xs ≡ take i xs ++ x ∷ []
take_next [] i x at = absurd cc
take_next (y ∷ ys) zero x at =
    let same : y ≡ x = cc in
    ap (λ z. z ∷ []) same
take_next (y ∷ ys) (suc i) x at = rw add-one (ap (λ zs. y ∷ zs) (rw add-one at (take_next ys i x at)))

-- the item at a place, beside the place
placed_from : {A : Type 0} (from : ℕ) (xs : List A) (i : ℕ) (x : A) → slice_get xs i ≡ Some x → slice_get (zip (range_with_len from (length xs)) xs) i ≡ Some (from + i, x)
placed_from from [] i x at = absurd cc
placed_from from (y ∷ ys) zero x at =
    let same : y ≡ x = cc in
    rw add-zero (ap (λ z. Some (from, z)) same)
placed_from from (y ∷ ys) (suc i) x at =
    let place : from + 1 + i ≡ from + suc i = omega arith in
    placed_from (from + 1) ys i x at ∙ ap (λ p. Some (p, x)) place

length_from : {A : Type 0} (from : ℕ) (xs : List A) → length (zip (range_with_len from (length xs)) xs) ≡ length xs
length_from from [] = refl
length_from from (y ∷ ys) = ap (λ n. suc n) (length_from (from + 1) ys)

item_placed : {A : Type 0} (xs : List A) (i : ℕ) (x : A) → slice_get xs i ≡ Some x → slice_get (placed xs) i ≡ Some (i, x)
item_placed xs i x at = placed_from 0 xs i x at ∙ ap (λ p. Some (p, x)) (zero-add i)

-- the records of a type: a front, with one more, and all
pub values_more : (t : ℕ) (values : List Data) (place : ℕ) (value : Data) → slice_get values place ≡ Some value
    → take (place + 1) (entries_at t values) ≡ take place (entries_at t values) ++ entry_at t place value ∷ []
values_more t values place value at =
    take_next (entries_at t values) place (entry_at t place value)
    (slice_get-map (λ (p : ℕ × Data). entry_at t p.0 p.1) (placed values) place ∙ ap (option_map (λ (p : ℕ × Data). entry_at t p.0 p.1)) (item_placed values place value at))

pub values_all : (t : ℕ) (values : List Data) (place : ℕ) → length values ≤ place → take place (entries_at t values) ≡ entries_at t values
values_all t values place all =
    let long : length (entries_at t values) ≡ length values = length-map (placed values) (λ (p : ℕ × Data). entry_at t p.0 p.1) ∙ length_from 0 values in
    take_all place (entries_at t values) (omega (arith, long))

-- the records of all types: a front, with one type more, and all
abbrev pub front_entries : List Schema → Data → ℕ → List Entry
front_entries schemas add t = flat_map (entries_of_type add) (take t (placed schemas))

pub types_more : (schemas : List Schema) (add : Data) (t : ℕ) (schema : Schema) (values : List Data) → slice_get schemas t ≡ Some schema → values ≡ values_under add schema.name
    → front_entries schemas add (t + 1) ≡ front_entries schemas add t ++ entries_at t values
types_more schemas add t schema values at are =
    ap (flat_map (entries_of_type add)) (take_next (placed schemas) t (t, schema) (item_placed schemas t schema at))
    ∙ flat_map-append (entries_of_type add) (take t (placed schemas)) ((t, schema) ∷ [])
    ∙ ap (λ es. front_entries schemas add t ++ es) (append-nil (entries_of_type add (t, schema)) ∙ ap (entries_at t) (sym are))

pub types_all : (schemas : List Schema) (add : Data) (t : ℕ) → length schemas ≤ t → front_entries schemas add t ≡ entries schemas add
types_all schemas add t all =
    let long = length_from 0 schemas in
    ap (flat_map (entries_of_type add)) (take_all t (placed schemas) (omega (arith, long)))

-- a front, and what comes behind it
pub values_rest : (t : ℕ) (values : List Data) (place : ℕ) → take place (entries_at t values) ++ drop place (entries_at t values) ≡ entries_at t values
values_rest t values place = take-append-drop place (entries_at t values)

pub types_rest : (schemas : List Schema) (add : Data) (t : ℕ) → front_entries schemas add t ++ flat_map (entries_of_type add) (drop t (placed schemas)) ≡ entries schemas add
types_rest schemas add t =
    sym (flat_map-append (entries_of_type add) (take t (placed schemas)) (drop t (placed schemas))) ∙ ap (flat_map (entries_of_type add)) (take-append-drop t (placed schemas))

-- an item of a list by its place
pub item_at : {A B : Type 0} (f : A → B) (xs : List A) (i : ℕ) (x : A) → i < length xs → x ≡ slice_index_or xs i x → slice_get (map f xs) i ≡ Some (f x)
item_at f xs i x within is = slice_get-map f xs i ∙ ap (option_map f) (slice_get-get_or xs i x within ∙ ap Some (sym is))

pub some_item : {A : Type 0} (xs : List A) (i : ℕ) → i < length xs → (x : A) × (slice_get xs i ≡ Some x)
some_item [] i within = absurd (omega arith)
some_item (y ∷ ys) zero within = (y, refl)
some_item (y ∷ ys) (suc i) within = some_item ys i (omega arith)

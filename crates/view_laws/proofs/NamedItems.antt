-- What stands for a name, found from the front; and how much all that stands for names comes to.
use Rattle.std.proofs.Common.{◌≡◌, inl, inr, ℕ, zero, suc, ◌+◌, ◌<◌, ◌≤◌, Bool, true, false, cond, List, [], ◌∷◌, Option, None, Some, length, get_or, refl, sym, ap, ◌∙◌, arith}
use Rattle.std.specs.Prelude.{option_and_then, slice_get, sum, sum_by, unwrap_or}
use Rattle.std.specs.Str.{bytes_eq}
use Rattle.std.proofs.lemmas.Bool.{cases_Bool}
use Rattle.std.proofs.lemmas.List.Sums.{sum_by-cons}
use Rattle.std.proofs.lemmas.Slice.Eq.{bytes_eq-Decides}
use Rattle.schema_model.specs.declared.schema.Field.{Field}
use Rattle.schema_model.specs.Parts.{AreApart, field_names}
use Rattle.schema_model.proofs.Indexing.{name_found, name_missing}
use Rattle.row_model.specs.declared.row.Value.{Value}
use Rattle.row_model.specs.View.{value_named}
use Rattle.seen_rows.proofs.Views.{cond_not, cond_yes}
use Rattle.seen_patches.specs.ByName.{field_in, item_named}

-- The item of the first field of this name, and another one where no field has it.
abbrev pub first_named : {A : Type 0} → A → List Field → List A → List ℕ → A
first_named other (field ∷ fields) (item ∷ items) name = cond (bytes_eq field.name name) item (first_named other fields items name)
first_named other _ _ name = other

none_first : {A : Type 0} (other : A) (fields : List Field) (items : List A) (name : List ℕ) → ((k : ℕ) → k < length fields → get_or (field_names fields) k [] ≡ name → ⊥) → first_named other fields items name ≡ other
none_first other [] items name none = refl
none_first other (field ∷ fields) [] name none = refl
none_first other (field ∷ fields) (item ∷ items) name none =
    cond_not (bytes_eq field.name name) item (first_named other fields items name) (λ e. none 0 (omega arith) ((bytes_eq-Decides field.name name).0 e))
    ∙ none_first other fields items name (λ k below same. none (suc k) (omega (arith, below)) same)

some_first : {A : Type 0} (other : A) (fields : List Field) (items : List A) (name : List ℕ) (i : ℕ) → i < length fields → get_or (field_names fields) i [] ≡ name
    → ((k : ℕ) → k < i → get_or (field_names fields) k [] ≡ name → ⊥) → first_named other fields items name ≡ unwrap_or (slice_get items i) other
some_first other [] items name i inside is first = absurd (omega (arith, inside))
some_first other (field ∷ fields) [] name zero inside is first = refl
some_first other (field ∷ fields) [] name (suc i) inside is first = refl
some_first other (field ∷ fields) (item ∷ items) name zero inside is first = cond_yes (bytes_eq field.name name) item (first_named other fields items name) ((bytes_eq-Decides field.name name).1 is)
some_first other (field ∷ fields) (item ∷ items) name (suc i) inside is first =
    cond_not (bytes_eq field.name name) item (first_named other fields items name) (λ e. first 0 (omega arith) ((bytes_eq-Decides field.name name).0 e))
    ∙ some_first other fields items name i (omega (arith, inside)) is (λ k below same. first (suc k) (omega (arith, below)) same)

many_names : (fields : List Field) → length (field_names fields) ≡ length fields
many_names [] = refl
many_names (field ∷ fields) = ap suc (many_names fields)

first_by : {A : Type 0} (other : A) (fields : List Field) (items : List A) (name : List ℕ) (o : Option ℕ) → field_in fields name ≡ o → first_named other fields items name ≡ unwrap_or (option_and_then (slice_get items) o) other
first_by other fields items name None found = none_first other fields items name (λ k below. name_missing (field_names fields) name found k (omega (arith, below, many_names fields)))
first_by other fields items name (Some i) found =
    let there = name_found (field_names fields) name i found in
    some_first other fields items name i (omega (arith, there.0, many_names fields)) there.1 there.2

-- what stands for a name is the item of the first field of that name
pub named_first : {A : Type 0} (other : A) (fields : List Field) (items : List A) (name : List ℕ) → unwrap_or (item_named fields items name) other ≡ first_named other fields items name
named_first other fields items name = sym (first_by other fields items name (field_in fields name) refl)

value_first : (fields : List Field) (values : List Value) (name : List ℕ) → value_named fields values name ≡ first_named Value.Null fields values name
unfolding value_named
value_first [] values name = refl
value_first (field ∷ fields) [] name = refl
value_first (field ∷ fields) (value ∷ values) name = ap (cond (bytes_eq field.name name) value) (value_first fields values name)

-- so is the value of the field of a name
pub value_is : (fields : List Field) (values : List Value) (name : List ℕ) → value_named fields values name ≡ unwrap_or (item_named fields values name) Value.Null
value_is fields values name = value_first fields values name ∙ sym (named_first Value.Null fields values name)

-- ---- sums

-- so much of an item counts as there are fields of a name
counted : List Field → List ℕ → ℕ → ℕ
counted mine name item = sum_by (λ field. cond (bytes_eq name field.name) item 0) mine

taken_or : (b : Bool) (item rest : ℕ) → cond b item rest ≤ cond b item 0 + rest
taken_or true item rest = omega arith
taken_or false item rest = omega arith

split_sum : (field : Field) (fields : List Field) (item : ℕ) (items : List ℕ) (mine : List Field)
    → sum_by (λ m. first_named 0 (field ∷ fields) (item ∷ items) m.name) mine ≤ sum_by (λ m. cond (bytes_eq field.name m.name) item 0) mine + sum_by (λ m. first_named 0 fields items m.name) mine
split_sum field fields item items [] = omega arith
split_sum field fields item items (m ∷ mine) =
    let whole = sum_by-cons (λ (m : Field). first_named 0 (field ∷ fields) (item ∷ items) m.name) m mine in
    let own = sum_by-cons (λ (m : Field). cond (bytes_eq field.name m.name) item 0) m mine in
    let others = sum_by-cons (λ (m : Field). first_named 0 fields items m.name) m mine in
    let here = taken_or (bytes_eq field.name m.name) item (first_named 0 fields items m.name) in
    omega (arith, whole, own, others, here, split_sum field fields item items mine)

none_counts : (name : List ℕ) (item : ℕ) (mine : List Field) → ((k : ℕ) (d : Field) → k < length mine → (get_or mine k d).name ≡ name → ⊥) → sum_by (λ (m : Field). cond (bytes_eq name m.name) item 0) mine ≡ 0
none_counts name item [] none = refl
none_counts name item (m ∷ mine) none =
    let here = cond_not (bytes_eq name m.name) item 0 (λ e. none 0 m (omega arith) (sym ((bytes_eq-Decides name m.name).0 e))) in
    omega (arith, sum_by-cons (λ (m : Field). cond (bytes_eq name m.name) item 0) m mine, here, none_counts name item mine (λ k d below. none (suc k) d (omega (arith, below))))

-- a name stands for one field at most
counts_once : (name : List ℕ) (item : ℕ) (mine : List Field) → AreApart mine → sum_by (λ (m : Field). cond (bytes_eq name m.name) item 0) mine ≤ item
counts_once name item [] apart = omega arith
counts_once name item (m ∷ mine) apart =
    let whole = sum_by-cons (λ (m : Field). cond (bytes_eq name m.name) item 0) m mine in
    elim (cases_Bool (bytes_eq name m.name)) [
      | inl same ↦
          let here = cond_yes (bytes_eq name m.name) item 0 same in
          let rest = none_counts name item mine (λ k d below other. apart 0 (suc k) d (omega arith) (omega (arith, below)) (sym ((bytes_eq-Decides name m.name).0 same) ∙ sym other)) in
          omega (arith, whole, here, rest)
      | inr apart_here ↦
          let here = cond_not (bytes_eq name m.name) item 0 (λ e. (let clash : true ≡ false = sym e ∙ apart_here in cc)) in
          let rest = counts_once name item mine (λ i j d before below. apart (suc i) (suc j) d (omega (arith, before)) (omega (arith, below))) in
          omega (arith, whole, here, rest)
    ]

none_named : (mine : List Field) (fields : List Field) (items : List ℕ) → ((m : Field) → first_named 0 fields items m.name ≡ 0) → sum_by (λ (m : Field). first_named 0 fields items m.name) mine ≡ 0
none_named [] fields items none = refl
none_named (m ∷ mine) fields items none = omega (arith, sum_by-cons (λ (m : Field). first_named 0 fields items m.name) m mine, none m, none_named mine fields items none)

sum_first : (mine : List Field) → AreApart mine → (fields : List Field) (items : List ℕ) → sum_by (λ m. first_named 0 fields items m.name) mine ≤ sum items
sum_first mine apart [] items = omega (arith, none_named mine [] items (λ m. refl))
sum_first mine apart (field ∷ fields) [] = omega (arith, none_named mine (field ∷ fields) [] (λ m. refl))
sum_first mine apart (field ∷ fields) (item ∷ items) =
    let whole = sum_by-cons (λ (n : ℕ). n) item items in
    omega (arith, split_sum field fields item items mine, counts_once field.name item mine apart, sum_first mine apart fields items, whole)

sum_same : (f g : Field → ℕ) → ((m : Field) → f m ≡ g m) → (mine : List Field) → sum_by f mine ≡ sum_by g mine
sum_same f g same [] = refl
sum_same f g same (m ∷ mine) = omega (arith, sum_by-cons f m mine, sum_by-cons g m mine, same m, sum_same f g same mine)

-- what stands for names that are apart comes to no more than all items
pub named_sum : (mine fields : List Field) (items : List ℕ) → AreApart mine → sum_by (λ m. unwrap_or (item_named fields items m.name) 0) mine ≤ sum items
named_sum mine fields items apart =
    let same = sum_same (λ (m : Field). unwrap_or (item_named fields items m.name) 0) (λ (m : Field). first_named 0 fields items m.name) (λ m. named_first 0 fields items m.name) mine in
    omega (arith, same, sum_first mine apart fields items)

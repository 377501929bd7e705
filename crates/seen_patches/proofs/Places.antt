-- Where the field of a name stands.
use Rattle.std.proofs.Common.{◌≡◌, inl, inr, ℕ, zero, suc, ◌<◌, List, [], ◌∷◌, length, map, get_or, Option, None, Some, refl, sym, ap, ◌∙◌, arith}
use Rattle.std.specs.Prelude.{option_and_then, option_map, slice_get, unwrap_or}
use Rattle.std.proofs.lemmas.Bool.{cases_lt}
use Rattle.std.proofs.lemmas.List.{length-map, same_lists}
use Rattle.std.proofs.lemmas.Option.{get_or_from_slice_get, slice_get-get_or, slice_get-map, slice_get_within}
use Rattle.schema_model.specs.declared.schema.Field.{Field}
use Rattle.schema_model.specs.Parts.{AreApart, field_names}
use Rattle.schema_model.proofs.Indexing.{item_name, name_found, name_missing}
use Rattle.seen_patches.specs.ByName.{field_in, item_named}

-- two fields of one name are one
pub one_field : (fields : List Field) (k n : ℕ) (field other : Field) → AreApart fields → k < n → slice_get fields k ≡ Some field → slice_get fields n ≡ Some other → field.name ≡ other.name → ⊥
one_field fields k n field other apart before at there same =
    apart k n field before (slice_get_within fields n other there)
    (ap (λ (f : Field). f.name) (get_or_from_slice_get fields k field field at) ∙ same ∙ sym (ap (λ (f : Field). f.name) (get_or_from_slice_get fields n other field there)))

at_place : (fields : List Field) (name : List ℕ) (place : ℕ) → place < length fields → get_or (field_names fields) place [] ≡ name
    → (field : Field) × (slice_get fields place ≡ Some field) × (field.name ≡ name)
at_place [] name place inside is = absurd (omega arith)
at_place (field ∷ fields) name zero inside is = (field, refl, is)
at_place (field ∷ fields) name (suc place) inside is = at_place fields name place (omega arith) is

-- the field of a name that is found
pub field_found : (fields : List Field) (name : List ℕ) (place : ℕ) → field_in fields name ≡ Some place → (field : Field) × (slice_get fields place ≡ Some field) × (field.name ≡ name)
field_found fields name place found =
    let there = name_found (field_names fields) name place found in
    let inside : place < length fields = omega (arith, there.0, length-map fields (λ (f : Field). f.name)) in
    at_place fields name place inside there.1

own_place : (fields : List Field) (index : ℕ) (field : Field) (o : Option ℕ) → AreApart fields → slice_get fields index ≡ Some field → field_in fields field.name ≡ o → o ≡ Some index
own_place fields index field None apart there found =
    absurd (name_missing (field_names fields) field.name found index (let inside = slice_get_within fields index field there in omega (arith, inside, length-map fields (λ (f : Field). f.name)))
    (item_name (λ (f : Field). f.name) fields index field there))
own_place fields index field (Some place) apart there found =
    let at = field_found fields field.name place found in
    elim (cases_lt place index) [
      | inl before ↦ absurd (one_field fields place index at.0 field apart before at.1 there at.2)
      | inr most ↦ elim (cases_lt index place) [
        | inl behind ↦ absurd (one_field fields index place field at.0 apart behind there at.1 (sym at.2))
        | inr least ↦ let same : place ≡ index = omega arith in ap (λ (n : ℕ). Some n) same
      ]
    ]

-- a field stands at its own place
pub place_of_own : (fields : List Field) (index : ℕ) (field : Field) → AreApart fields → slice_get fields index ≡ Some field → field_in fields field.name ≡ Some index
place_of_own fields index field apart there = own_place fields index field (field_in fields field.name) apart there refl

field_at : (fields : List Field) (k : ℕ) → k < length fields → (field : Field) × (slice_get fields k ≡ Some field)
field_at [] k inside = absurd (omega arith)
field_at (field ∷ fields) zero inside = (field, refl)
field_at (field ∷ fields) (suc k) inside = field_at fields k (omega arith)

-- what stands for the name of each field are the items themselves
pub named_self : {A : Type 0} (fields : List Field) (items : List A) (other : Field → A) → AreApart fields → length items ≡ length fields
    → map (λ field. unwrap_or (item_named fields items field.name) (other field)) fields ≡ items
named_self {A} fields items other apart long =
    let f = λ (field : Field). unwrap_or (item_named fields items field.name) (other field) in
    same_lists (map f fields) items (length-map fields f ∙ sym long)
    (λ k d inside.
    let within : k < length fields = omega (arith, inside, length-map fields f) in
    let there = field_at fields k within in
    let of : f there.0 ≡ get_or items k d =
    ap (λ (o : Option ℕ). unwrap_or (option_and_then (slice_get items) o) (other there.0)) (place_of_own fields k there.0 apart there.1)
    ∙ ap (λ (o : Option A). unwrap_or o (other there.0)) (slice_get-get_or items k d (omega (arith, within, long))) in
    get_or_from_slice_get (map f fields) k (get_or items k d) d (slice_get-map f fields k ∙ ap (option_map f) there.1 ∙ ap (λ (x : A). Some x) of))

-- A record that is seen through a model that grows its own has null in each further field.
use Rattle.std.proofs.Common.{◌≡◌, ◌<◌, ◌≤◌, ◌+◌, ℕ, zero, suc, List, [], ◌∷◌, ◌++◌, arith, map, length, take, replicate, refl, sym, ap, ap₂, subst, ◌∙◌, get_or, slice_index_or}
use Rattle.std.specs.Str.{bytes_eq}
use Rattle.std.proofs.lemmas.List.{get_or_append_left, get_or-append-add, length-append, length-replicate, map-append, take_more, take-replicate}
use Rattle.std.proofs.lemmas.Slice.Eq.{bytes_eq-Decides}
use Rattle.schema_model.specs.declared.schema.Field.{Field}
use Rattle.schema_model.specs.declared.schema.Shape.{Shape}
use Rattle.schema_model.specs.Growth.{AreInFront, GrowsShape}
use Rattle.schema_model.specs.Parts.{AreApart, shape_fields}
use Rattle.schema_growth.proofs.Growths.{any_default}
use Rattle.row_model.specs.declared.row.Row.{Row}
use Rattle.row_model.specs.declared.row.Value.{Value}
use Rattle.row_model.specs.Row.{FitsShape}
use Rattle.row_model.specs.View.{seen_row, seen_values, value_named}
use Rattle.seen_rows.proofs.Views.{as_many_fields, cond_not, seen_own}
use Rattle.seen_rows.proofs.ViewTwice.{fields_in_front}
use Rattle.write_engine.specs.Grown.{padded, padded_row}

-- there is no value of a name that no field has
null_without : (fields : List Field) (values : List Value) (name : List ℕ) → ((k : ℕ) (d : Field) → k < length fields → (slice_index_or fields k d).name ≡ name → ⊥) → value_named fields values name ≡ Value.Null
unfolding value_named
null_without [] values name lacks = refl
null_without (f ∷ fields) [] name lacks = refl
null_without (f ∷ fields) (v ∷ values) name lacks =
    cond_not (bytes_eq f.name name) v (value_named fields values name) (λ e. lacks 0 f (omega arith) ((bytes_eq-Decides f.name name).0 e))
    ∙ null_without fields values name (λ k d below is. lacks (suc k) d (omega (arith, below)) is)

-- so the values of fields that have other names are null
all_null : (own more : List Field) (values : List Value)
    → ((k : ℕ) (d : Field) → k < length more → (j : ℕ) (e : Field) → j < length own → (slice_index_or own j e).name ≡ (slice_index_or more k d).name → ⊥)
    → map (λ field. value_named own values field.name) more ≡ replicate (length more) Value.Null
all_null own [] values apart = refl
all_null own (m ∷ more) values apart =
    ap₂ ◌∷◌ (null_without own values m.name (λ j e below is. apart 0 m (omega arith) j e below is)) (all_null own more values (λ k d below. apart (suc k) d (omega (arith, below))))

apart_front : (own more : List Field) → AreApart (own ++ more) → AreApart own
apart_front own more apart i j d before below named =
    apart i j d before (omega (arith, below, length-append own more)) (ap (λ (f : Field). f.name) (get_or_append_left own more d i (omega (arith, before, below))) ∙ named ∙ sym (ap (λ (f : Field). f.name) (get_or_append_left own more d j below)))

apart_behind : (own more : List Field) → AreApart (own ++ more) → (k : ℕ) (d : Field) → k < length more → (j : ℕ) (e : Field) → j < length own → (slice_index_or own j e).name ≡ (slice_index_or more k d).name → ⊥
apart_behind own more apart k d inside j e below named =
    apart j (length own + k) d (omega (arith, below)) (omega (arith, inside, length-append own more))
    (ap (λ (f : Field). f.name) (get_or_append_left own more d j below ∙ any_default own j d e below) ∙ named ∙ sym (ap (λ (f : Field). f.name) (get_or-append-add own more k d)))

null_at : (n k : ℕ) → get_or (replicate n Value.Null) k Value.Null ≡ Value.Null
null_at zero k = refl
null_at (suc n) zero = refl
null_at (suc n) (suc k) = null_at n k

padded_at : (values : List Value) (n k : ℕ) → get_or (values ++ replicate n Value.Null) k Value.Null ≡ get_or values k Value.Null
padded_at [] n k = null_at n k
padded_at (v ∷ values) n zero = refl
padded_at (v ∷ values) n (suc k) = padded_at values n k

-- a value more, or null behind the last one
pub padded_more : (values : List Value) (n k : ℕ) → k < n → take (k + 1) (values ++ replicate n Value.Null) ≡ take k (values ++ replicate n Value.Null) ++ get_or values k Value.Null ∷ []
padded_more values n k inside =
    take_more (values ++ replicate n Value.Null) k Value.Null (omega (arith, inside, length-append values (replicate n Value.Null), length-replicate n Value.Null))
    ∙ ap (λ v. take k (values ++ replicate n Value.Null) ++ v ∷ []) (padded_at values n k)

-- as many as the values and some more are the values and so many nulls
padding : (values : List Value) (m n all : ℕ) → all ≡ length values + m → m ≤ n → take all (values ++ replicate n Value.Null) ≡ values ++ replicate m Value.Null
padding [] m n all is less = let same : all ≡ m = omega (arith, is) in ap (λ x. take x (replicate n Value.Null)) same ∙ take-replicate m n Value.Null less
padding (v ∷ values) m n zero is less = absurd (omega (arith, is))
padding (v ∷ values) m n (suc all) is less = ap (λ (rest : List Value). v ∷ rest) (padding values m n all (omega (arith, is)) less)

padded_seen : (own grown : List Field) (values : List Value) → AreInFront own grown → AreApart grown → length own ≡ length values → seen_values own grown values ≡ padded (length grown) values
padded_seen own grown values (more, is) apart many =
    let named : Field → Value = λ field. value_named own values field.name in
    let both : AreApart (own ++ more) = subst AreApart is apart in
    let long : length grown ≡ length values + length more = ap (λ (fs : List Field). length fs) is ∙ length-append own more ∙ ap (λ n. n + length more) many in
    ap (map named) is ∙ map-append named own more
    ∙ ap₂ ◌++◌ (seen_own own values many (apart_front own more both)) (all_null own more values (apart_behind own more both))
    ∙ sym (padding values (length more) (length grown) (length grown) long (omega (arith, long)))

pub seen_padded : (own mine : Shape) (row : Row) → GrowsShape own mine → AreApart (shape_fields mine) → FitsShape own row → seen_row own mine row ≡ padded_row (length (shape_fields mine)) row
seen_padded own mine (Row.Object values) grows apart fits =
    ap Row.Object (padded_seen (shape_fields own) (shape_fields mine) values (fields_in_front own mine grows) apart (as_many_fields own values fits))
seen_padded own mine (Row.List ordinals) grows apart fits = refl
seen_padded own mine (Row.Set ordinals) grows apart fits = refl
seen_padded own mine (Row.Map pairs) grows apart fits = refl

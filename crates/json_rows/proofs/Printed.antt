-- What rows print as: each row that fits its type prints as some value, which has no number with a fraction.
use Rattle.std.proofs.Common.{◌≡◌, inl, inr, ℕ, ℤ, pos, negsuc, Bool, true, false, ◌||◌, List, [], ◌∷◌, map, refl, sym, ◌∙◌, ap}
use Rattle.std.specs.List.{AllZip, AllByRecursion, fold, zip}
use Rattle.std.specs.Ordering.{nat_cmp, match_ordering}
use Rattle.std.specs.declared.cmp.Ordering.{Ordering}
use Rattle.std.specs.declared.cmp.Ordering.TheVariants.{Less, Equal, Greater}
use Rattle.std.specs.Cmp.Lexicographic.{slice_cmp}
use Rattle.serde_json.specs.Data.{Data, null, boolean, number, unsigned, string, object, Members, no_members, member, put}
use Rattle.serde_json.specs.Find.{of_integer}
use Rattle.serde_json.specs.View.{items_of}
use Rattle.serde_json.specs.Written.{has_float, items_have_float, members_have_float}
use Rattle.row_model.specs.declared.row.Row.{Row}
use Rattle.row_model.specs.declared.row.Value.{Value}
use Rattle.schema_model.specs.declared.schema.Field.{Field}
use Rattle.schema_model.specs.declared.schema.Shape.{Shape}
use Rattle.schema_model.specs.Parts.{field_names}
use Rattle.row_model.specs.Row.{FitsShape}
use Rattle.json_rows.specs.StoredRow.{IsTextData, IsValueData, IsRecordData, IsRowData, members_of_fields, numbers_data, pairs_data}
use Rattle.json_rows.proofs.TextKinds.{text_or_none}

-- each row prints as something
text_prints : (units : List ℕ) → (printed : Data) × IsTextData units printed
text_prints units =
    elim (text_or_none units) [
      | inl text ↦ (string text.0, inl (text.0, text.1, refl))
      | inr none ↦ (numbers_data units, inr (none, refl))
    ]

pub value_prints : (value : Value) → (printed : Data) × IsValueData value printed
value_prints Value.Null = (null, refl)
value_prints (Value.Int n) = (number (of_integer n), refl)
value_prints (Value.Long n) = (number (of_integer n), refl)
value_prints (Value.Bool flag) = (boolean flag, refl)
value_prints (Value.Text units) = text_prints units
value_prints (Value.Bytes bytes) = (_, refl)
value_prints (Value.Ref ordinal) = (number (unsigned ordinal), refl)

values_print : (values : List Value) → (printed : List Data) × AllZip IsValueData values printed
values_print [] = ([], tt)
values_print (value ∷ values) =
    let first = value_prints value in
    let others = values_print values in
    (first.0 ∷ others.0, (first.1, others.1))

record_prints : (fields : List Field) (values : List Value) → (printed : Data) × IsRecordData fields values printed
record_prints fields values =
    let parts = values_print values in
    let members = members_of_fields (zip (field_names fields) parts.0) in
    (object members, (members, (parts.0, parts.1, refl), refl))

pub row_prints : (shape : Shape) (row : Row) → FitsShape shape row → (printed : Data) × IsRowData shape row printed
row_prints (Shape.Object key fields) (Row.Object values) fits = record_prints fields values
row_prints (Shape.List element) (Row.List ordinals) fits = (numbers_data ordinals, refl)
row_prints (Shape.Set element) (Row.Set ordinals) fits = (numbers_data ordinals, refl)
row_prints (Shape.Map key value) (Row.Map pairs) fits = (pairs_data pairs, refl)
row_prints _ _ fits = absurd fits

-- a list has no number with a fraction where none of its items has one
pub items_have_float-items_of : {A : Type 0} (data_of : A → Data) → ((x : A) → has_float (data_of x) ≡ false) → (xs : List A) →
    items_have_float (items_of (map data_of xs)) ≡ false
items_have_float-items_of data_of none [] = refl
items_have_float-items_of data_of none (x ∷ xs) = rw (none x) (items_have_float-items_of data_of none xs)

-- an integer has none
pub integer_has_none : (z : ℤ) → has_float (number (of_integer z)) ≡ false
integer_has_none (pos n) = refl
integer_has_none (negsuc n) = refl

-- what a row prints as has no number with a fraction
numbers_have_none : (numbers : List ℕ) → has_float (numbers_data numbers) ≡ false
numbers_have_none numbers = items_have_float-items_of _ (λ n. refl) numbers

pairs_have_none : (pairs : List (ℕ × ℕ)) → has_float (pairs_data pairs) ≡ false
pairs_have_none pairs = items_have_float-items_of _ (λ pair. refl) pairs

text_has_none : (units : List ℕ) (printed : Data) → IsTextData units printed → has_float printed ≡ false
text_has_none units printed (inl text) = ap has_float text.2
text_has_none units printed (inr none) = ap has_float none.1 ∙ numbers_have_none units

pub value_has_none : (value : Value) (printed : Data) → IsValueData value printed → has_float printed ≡ false
value_has_none Value.Null printed is = ap has_float is
value_has_none (Value.Int n) printed is = ap has_float is ∙ integer_has_none n
value_has_none (Value.Long n) printed is = ap has_float is ∙ integer_has_none n
value_has_none (Value.Bool flag) printed is = ap has_float is
value_has_none (Value.Text units) printed is = text_has_none units printed is
value_has_none (Value.Bytes bytes) printed is = ap has_float is
value_has_none (Value.Ref ordinal) printed is = ap has_float is

values_have_none : (values : List Value) (printed : List Data) → AllZip IsValueData values printed → AllByRecursion (λ d. has_float d ≡ false) printed
values_have_none values [] are = tt
values_have_none [] (d ∷ ds) are = absurd are
values_have_none (value ∷ values) (d ∷ ds) are = (value_has_none value d are.0, values_have_none values ds are.1)

second_false : (x y : Bool) → (x || y) ≡ false → y ≡ false
second_false true y h = absurd cc
second_false false y h = h

placed_has_none : (o : Ordering) (key : List ℕ) (d : Data) (other : List ℕ) (e : Data) (others : Members) → has_float d ≡ false → members_have_float (member other e others) ≡ false →
    members_have_float (put key d others) ≡ false →
    members_have_float (match_ordering o (member key d (member other e others)) (member other d others) (member other e (put key d others))) ≡ false
placed_has_none Less key d other e others none rest deeper = ap (λ b. b || members_have_float (member other e others)) none ∙ rest
placed_has_none Equal key d other e others none rest deeper =
    ap (λ b. b || members_have_float others) none ∙ second_false (has_float e) (members_have_float others) rest
placed_has_none Greater key d other e others none rest deeper =
    ap (λ b. has_float e || b) (deeper ∙ sym (second_false (has_float e) (members_have_float others) rest)) ∙ rest

put_has_none : (key : List ℕ) (d : Data) (others : Members) → has_float d ≡ false → members_have_float others ≡ false → members_have_float (put key d others) ≡ false
put_has_none key d no_members none rest = ap (λ b. b || false) none
put_has_none key d (member other e others) none rest =
    placed_has_none (slice_cmp nat_cmp key other) key d other e others none rest
    (put_has_none key d others none (second_false (has_float e) (members_have_float others) rest))

fields_have_none : (names : List (List ℕ)) (printed : List Data) (others : Members) → AllByRecursion (λ d. has_float d ≡ false) printed → members_have_float others ≡ false →
    members_have_float (fold (λ others part. put part.0 part.1 others) others (zip names printed)) ≡ false
fields_have_none [] printed others none rest = rest
fields_have_none (name ∷ names) [] others none rest = rest
fields_have_none (name ∷ names) (d ∷ ds) others none rest = fields_have_none names ds (put name d others) none.1 (put_has_none name d others none.0 rest)

pub row_has_none : (shape : Shape) (row : Row) (printed : Data) → IsRowData shape row printed → has_float printed ≡ false
row_has_none (Shape.Object key fields) (Row.Object values) printed (_, (parts, are, members_is), is) =
    ap has_float is ∙ ap members_have_float members_is ∙ fields_have_none (field_names fields) parts no_members (values_have_none values parts are) refl
row_has_none (Shape.List element) (Row.List ordinals) printed is = ap has_float is ∙ numbers_have_none ordinals
row_has_none (Shape.Set element) (Row.Set ordinals) printed is = ap has_float is ∙ numbers_have_none ordinals
row_has_none (Shape.Map key value) (Row.Map pairs) printed is = ap has_float is ∙ pairs_have_none pairs
row_has_none _ _ printed is = absurd is

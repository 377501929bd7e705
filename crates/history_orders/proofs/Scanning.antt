-- A pass over the records of a column for those that have a number.
use Rattle.std.proofs.Common.{◌≡◌, ◌≢◌, ℕ, ◌+◌, ◌-◌, ◌^◌, ◌<◌, ◌≤◌, ◌⊎◌, inl, inr, pos, negsuc, List, [], ◌∷◌, ◌++◌, Option, Some, None, cond, ◌%◌, ◌/◌, ◌==◌, ◌*◌, Bool, true, false, refl, sym, ap, ◌∙◌, subst, arith}
use Rattle.std.proofs.lemmas.Bool.Decides.{nat_tests}
use Rattle.std.specs.Prelude.{Contains, ℤ, if◌then◌else◌}
use Rattle.std.proofs.lemmas.Bool.{cases_lt}
use Rattle.std.proofs.lemmas.List.Elements.{Contains-append_left, Contains-push}
use Rattle.hol_varint.specs.Zigzag.{zigzag, unzigzag}
use Rattle.bit_array.proofs.Elements.{element_of-lt}
use Rattle.schema_model.specs.declared.schema.FieldKind.{FieldKind}
use Rattle.row_model.specs.declared.row.Value.{Value}
use Rattle.row_model.specs.Key.{unless_null, value_in}
use Rattle.row_model.specs.Row.{is_least}
use Rattle.row_model.specs.Table.{IsLive, Table, row_at}
use Rattle.object_codec.specs.ObjectPlace.{IsKindWidth}
use Rattle.object_codec.specs.Part.{FieldPart, SpellsInt, SpellsLong, SpellsReference, SpellsBoolean, SpellsText, SpellsBytes, SpellsValue}
use Rattle.object_codec.specs.Stored.{element_number, stored_number}
use Rattle.object_codec.specs.declared.column.Column.{Column}
use Rattle.object_codec.specs.Columns.{part_of}
use Rattle.column_rows.specs.Columns.{IsColumnOf}
use Rattle.column_rows.proofs.FieldValues.{column_value}
use Rattle.history_orders.specs.Left.{HasAll}
use Rattle.history_orders.specs.Scanned.{HasNumbered, LacksNumber, number_at}
use Rattle.history_orders.specs.Valued.{HasValuedBelow}

pub lacks_none : (column : Column) (number from : ℕ) → LacksNumber column number from from
lacks_none column number from = λ place low high. absurd (omega (arith, low, high))

pub lacks_more : (column : Column) (number from to : ℕ) → LacksNumber column number from to → number_at column to ≢ number → LacksNumber column number from (to + 1)
lacks_more column number from to lacks other = λ place low high. by place low high (cases_lt place to)
  where
    by : (place : ℕ) → from ≤ place → place < to + 1 → (place < to) ⊎ (to ≤ place) → number_at column place ≢ number
    by place low high (inl before) = lacks place low before
    by place low high (inr past) =
        let same : to ≡ place = omega (arith, high, past) in
        subst (λ p. number_at column p ≢ number) same other

-- ---- the ordinals that are listed

module _ (table : Table) (t : ℕ) (column : Column) (number : ℕ) where
  pub numbered_none : (among : List ℕ) → HasNumbered table t column number 0 among
  numbered_none among = λ ordinal low. absurd (omega (arith, low))

  -- Up to where the number is not none is missing.
  pub numbered_to : (from to : ℕ) (among : List ℕ) → HasNumbered table t column number from among → LacksNumber column number from to → HasNumbered table t column number to among
  numbered_to from to among has lacks = λ ordinal low live is. by ordinal low live is (cases_lt ordinal from)
    where
      by : (ordinal : ℕ) → ordinal < to → IsLive table t ordinal → number_at column ordinal ≡ number → (ordinal < from) ⊎ (from ≤ ordinal) → Contains among ordinal
      by ordinal low live is (inl before) = has ordinal before live is
      by ordinal low live is (inr past) = absurd (lacks ordinal past low is)

  pub numbered_more : (from to : ℕ) (among listed : List ℕ) → HasNumbered table t column number from among → LacksNumber column number from to → HasAll among listed →
      (IsLive table t to → Contains listed to) → HasNumbered table t column number (to + 1) listed
  numbered_more from to among listed has lacks kept added = λ ordinal low live is. by ordinal low live is (cases_lt ordinal to)
    where
      by : (ordinal : ℕ) → ordinal < to + 1 → IsLive table t ordinal → number_at column ordinal ≡ number → (ordinal < to) ⊎ (to ≤ ordinal) → Contains listed ordinal
      by ordinal low live is (inl before) = kept ordinal (numbered_to from to among has lacks ordinal before live is)
      by ordinal low live is (inr past) =
          let same : to ≡ ordinal = omega (arith, low, past) in
          subst (Contains listed) same (added (subst (IsLive table t) (sym same) live))

-- ---- what a value's number is

zigzag_forth : (number : ℕ) → zigzag (unzigzag number) ≡ number
zigzag_forth number = (elim (number % 2 == 0) as (λ b. (number % 2 == 0) ≡ b → zigzag (cond b (pos (number / 2)) (negsuc (number / 2))) ≡ number) [ true ↦ λ even. grind (arith, nat_tests) | false ↦ λ odd. grind (arith, nat_tests) ]) refl

int_number : (number : ℤ) (stored : ℕ) → stored_number (Value.Int number) ≡ Some stored → zigzag number ≡ stored
int_number number stored is = by (is_least 32 number) is
  where
    by : (least : Bool) → element_number (if least then Value.Null else Value.Int number) ≡ Some stored → zigzag number ≡ stored
    by true is = absurd cc
    by false is = cc

long_number : (number : ℤ) (stored : ℕ) → stored_number (Value.Long number) ≡ Some stored → zigzag number ≡ stored
long_number number stored is = by (is_least 64 number) is
  where
    by : (least : Bool) → element_number (if least then Value.Null else Value.Long number) ≡ Some stored → zigzag number ≡ stored
    by true is = absurd cc
    by false is = cc

-- An element that is the number of a value, and is not the null.
abbrev Held : ℕ → ℕ → ℕ → Type 0
Held width element number = (element ≡ number) × (element < 2 ^ width - 1)

held_int : (width element : ℕ) (value : Value) (number : ℕ) → element < 2 ^ width → SpellsInt width element value → stored_number value ≡ Some number → Held width element number
held_int width element Value.Null number low spells is = absurd cc
held_int width element (Value.Int n) number low spells is =
    (sym (zigzag_forth element) ∙ ap zigzag (sym spells.2) ∙ int_number n number is, omega (arith, low, spells.0))
held_int width element _ number low spells is = absurd spells

held_long : (width element : ℕ) (value : Value) (number : ℕ) → element < 2 ^ width → SpellsLong width element value → stored_number value ≡ Some number → Held width element number
held_long width element Value.Null number low spells is = absurd cc
held_long width element (Value.Long n) number low spells is =
    (sym (zigzag_forth element) ∙ ap zigzag (sym spells.1) ∙ long_number n number is, omega (arith, low, spells.0))
held_long width element _ number low spells is = absurd spells

held_reference : (width element : ℕ) (value : Value) (number : ℕ) → element < 2 ^ width → SpellsReference width element value → stored_number value ≡ Some number → Held width element number
held_reference width element Value.Null number low spells is = absurd cc
held_reference width element (Value.Ref o) number low spells is = let same = spells.2 in (cc, omega (arith, low, spells.0))
held_reference width element _ number low spells is = absurd spells

held_boolean : (element : ℕ) (value : Value) (number : ℕ) → SpellsBoolean element value → stored_number value ≡ Some number → Held 2 element number
held_boolean element Value.Null number spells is = absurd cc
held_boolean element (Value.Bool true) number spells is = (cc, omega (arith, spells))
held_boolean element (Value.Bool false) number spells is = (cc, omega (arith, spells))
held_boolean element _ number spells is = absurd spells

held_text : (part : FieldPart) (value : Value) (number : ℕ) → SpellsText part value → stored_number value ≡ Some number → ⊥
held_text part Value.Null number spells is = cc
held_text part (Value.Text units) number spells is = cc
held_text part _ number spells is = spells

held_bytes : (part : FieldPart) (value : Value) (number : ℕ) → SpellsBytes part value → stored_number value ≡ Some number → ⊥
held_bytes part Value.Null number spells is = cc
held_bytes part (Value.Bytes octets) number spells is = cc
held_bytes part _ number spells is = spells

held : (kind : FieldKind) (part : FieldPart) (value : Value) (number : ℕ) → IsKindWidth kind part.width → part.element < 2 ^ part.width → SpellsValue kind part value → stored_number value ≡ Some number →
    Held part.width part.element number
held (FieldKind.Reference name) part value number wide low spells is = held_reference part.width part.element value number low spells is
held FieldKind.Int part value number wide low spells is = held_int part.width part.element value number low spells is
held FieldKind.Long part value number wide low spells is = held_long part.width part.element value number low spells is
held FieldKind.Boolean part value number wide low spells is = subst (λ width. Held width part.element number) (sym wide) (held_boolean part.element value number spells is)
held FieldKind.Text part value number wide low spells is = absurd (held_text part value number spells is)
held FieldKind.Bytes part value number wide low spells is = absurd (held_bytes part value number spells is)

-- ---- the records that have a value are those that have its number

same_value : (found value : Value) → unless_null (Some found) ≡ Some value → found ≡ value
same_value Value.Null value is = absurd cc
same_value (Value.Int n) value is = cc
same_value (Value.Long n) value is = cc
same_value (Value.Bool flag) value is = cc
same_value (Value.Text units) value is = cc
same_value (Value.Bytes octets) value is = cc
same_value (Value.Ref ordinal) value is = cc

module _ (table : Table) (t field : ℕ) (column : Column) (value : Value) (number : ℕ) (of : IsColumnOf table t field column) (is : stored_number value ≡ Some number) where
  held_at : (ordinal : ℕ) → IsLive table t ordinal → unless_null (value_in (row_at table t ordinal) field) ≡ Some value → Held column.width (number_at column ordinal) number
  held_at ordinal live has =
      let found = column_value table t field ordinal column of live in
      let same = same_value found.0 value (ap unless_null (sym found.2) ∙ has) in
      held column.kind.now (part_of column ordinal) found.0 number found.1.reads.wide (element_of-lt column.first.now (ordinal * column.size + column.before) column.width) found.1.spells
      (ap stored_number same ∙ is)

  pub numbered_valued : (limit : ℕ) (among : List ℕ) → HasNumbered table t column number limit among → HasValuedBelow table t field value limit among
  numbered_valued limit among numbered = λ ordinal low live has. numbered ordinal low live (held_at ordinal live has).0

  -- A number that no element can hold but the null is that of none.
  pub past_valued : (limit : ℕ) (among : List ℕ) → 2 ^ column.width - 1 ≤ number → HasValuedBelow table t field value limit among
  past_valued limit among past = λ ordinal low live has. let at = held_at ordinal live has in absurd (omega (arith, past, at.0, at.1))

-- ---- a list with one more

pub pushed_keeps : (among listed : List ℕ) (ordinal : ℕ) → listed ≡ among ++ ordinal ∷ [] → HasAll among listed
pushed_keeps among listed ordinal is = λ other there. subst (λ (os : List ℕ). Contains os other) (sym is) (Contains-append_left among (ordinal ∷ []) other there)

pub pushed_has : (among listed : List ℕ) (ordinal : ℕ) → listed ≡ among ++ ordinal ∷ [] → Contains listed ordinal
pushed_has among listed ordinal is = subst (λ (os : List ℕ). Contains os ordinal) (sym is) (Contains-push among ordinal)

pub valued_none : (table : Table) (t field : ℕ) (value : Value) (among : List ℕ) → HasValuedBelow table t field value 0 among
valued_none table t field value among = λ ordinal low. absurd (omega (arith, low))

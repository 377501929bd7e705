-- Lemmas on what the values of each field take.
use Rattle.std.proofs.Common.{◌≡◌, ℕ, zero, suc, ◌+◌, ◌-◌, ◌^◌, ◌<◌, ◌≤◌, List, [], ◌∷◌, ◌++◌, length, get_or, drop, refl, sym, ap, ◌∙◌, subst, arith, add-one, inl, inr, max, min, append-nil, append_assoc, set}
use Rattle.std.specs.Prelude.{map, replicate, Option, Some, None}
use Rattle.std.specs.List.{enumerate_from}
use Rattle.std.specs.Option.{option_map_or}
use Rattle.std.proofs.Math.Seq.{drop-cons}
use Rattle.std.proofs.lemmas.Bool.{cases_lt}
use Rattle.std.proofs.lemmas.List.{length-append, get_or-set_same, get_or-set_other, length-set, get_or_default}
use Rattle.bit_array.specs.Digits.{digit_count}
use Rattle.bit_array.proofs.DigitCounts.{digit_count-holds}
use Rattle.schema_model.specs.declared.schema.Field.{Field}
use Rattle.schema_model.specs.declared.schema.FieldKind.{FieldKind}
use Rattle.row_model.specs.declared.row.Row.{Row}
use Rattle.row_model.specs.declared.row.Value.{Value}
use Rattle.row_widths.specs.Walk.{Takes}
use Rattle.row_widths.specs.declared.records.Spread.{Spread}
use Rattle.object_codec.proofs.ByteCounts.{byte_count-append}
use Rattle.object_codec.specs.Stored.{values_of_row, value_at, column, stored_number, value_bytes, values_bytes}
use Rattle.object_codec.specs.Widths.{value_bits, most_bits, byte_count, width_for, widths_for, records_of, rows_bytes}
use Rattle.row_widths.specs.RecordSpread.{spread_at, IsSpreadWith, AreSpreads}

-- ---- what values take

pub digits_some : (number : ℕ) → 1 ≤ digit_count (number + 1)
digits_some number =
    elim (cases_lt (digit_count (number + 1)) 1) [
      | inl few ↦
          let none : digit_count (number + 1) ≡ 0 = omega arith in
          let small : number + 1 < 2 ^ 0 = subst (λ k. number + 1 < 2 ^ k) none (digit_count-holds (number + 1)) in
          absurd (omega arith)
      | inr some ↦ some
    ]

bits_some : (number : Option ℕ) → 1 ≤ option_map_or (λ n. digit_count (n + 1)) number 1
bits_some None = omega arith
bits_some (Some n) = digits_some n

-- where no value takes a bit, there is none
pub boolean_none : (values : List Value) → 0 ≡ most_bits values → 0 ≡ width_for FieldKind.Boolean values
boolean_none [] none = refl
boolean_none (value ∷ rest) none = let some = bits_some (stored_number value) in absurd (omega (arith, some, none))

pub most_bits-append : (xs ys : List Value) → most_bits (xs ++ ys) ≡ max (most_bits xs) (most_bits ys)
most_bits-append [] ys = omega arith
most_bits-append (x ∷ xs) ys = let rest = most_bits-append xs ys in omega arith

-- ---- the values of one record

pub value_here : (values : List Value) (index : ℕ) (value : Value) → index < length values → value ≡ get_or values index value → value_at index values ≡ value ∷ []
value_here [] index value inside is = absurd (omega arith)
value_here (v ∷ vs) zero value inside is = ap (λ (x : Value). x ∷ []) (sym is)
value_here (v ∷ vs) (suc index) value inside is = value_here vs index value (omega arith) is

pub value_past : (values : List Value) (index : ℕ) → length values ≤ index → value_at index values ≡ []
value_past [] index past = refl
value_past (v ∷ vs) zero past = absurd (omega arith)
value_past (v ∷ vs) (suc index) past = value_past vs index (omega arith)

value_bytes_le : (values : List Value) (index : ℕ) → byte_count (value_at index values) ≤ byte_count values
value_bytes_le [] index = omega arith
value_bytes_le (v ∷ vs) zero = omega (arith, byte_count-append (v ∷ []) vs)
value_bytes_le (v ∷ vs) (suc index) = omega (arith, byte_count-append (v ∷ []) vs, value_bytes_le vs index)

-- one value more
with_one : (value : Value) (old new : Spread) → new.bits ≡ max old.bits (value_bits value) → new.bytes ≡ min (old.bytes + length (value_bytes value)) (2 ^ 64 - 1)
    → IsSpreadWith (value ∷ []) old new
with_one value old new bits bytes =
    let long : byte_count (value ∷ []) ≡ length (value_bytes value) = ap (λ (bs : List ℕ). length bs) (append-nil (value_bytes value)) in
    record { bits = omega arith; bytes = omega arith }

-- the spreads of the fields below an index have one value more
pub record AddedSoFar (values : List Value) (old new : List Spread) (index : ℕ) : Type 0 where
  pub long : length new ≡ length old
  pub done : (k : ℕ) → k < index → IsSpreadWith (value_at k values) (spread_at old k) (spread_at new k)
  pub left : (k : ℕ) → index ≤ k → spread_at new k ≡ spread_at old k

pub added_more : (values : List Value) (old new : List Spread) (index : ℕ) (value : Value) (spread : Spread) → AddedSoFar values old new index → index < length new → index < length values
    → value ≡ get_or values index value → spread.bits ≡ max (spread_at new index).bits (value_bits value)
    → spread.bytes ≡ min ((spread_at new index).bytes + length (value_bytes value)) (2 ^ 64 - 1) → AddedSoFar values old (set new index spread) (index + 1)
added_more values old new index value spread done inside within is bits bytes =
    let none : Spread = record { bits = 0; bytes = 0 } in
    let here = get_or-set_same new index spread none inside in
    record {
      long = length-set new index spread ∙ done.long;
      done = λ k before.
          elim (cases_lt k index) [
            | inl earlier ↦ subst (λ (s : Spread). IsSpreadWith (value_at k values) (spread_at old k) s) (sym (get_or-set_other new index k spread none (omega arith))) (done.done k earlier)
            | inr late ↦
                let at : index ≡ k = omega arith in
                subst (λ (n : ℕ). IsSpreadWith (value_at n values) (spread_at old n) (spread_at (set new index spread) n)) at
                (subst (λ (s : Spread). IsSpreadWith (value_at index values) (spread_at old index) s) (sym here)
                (subst (λ (vs : List Value). IsSpreadWith vs (spread_at old index) spread) (sym (value_here values index value within is))
                (subst (λ (s : Spread). IsSpreadWith (value ∷ []) s spread) (done.left index (omega arith)) (with_one value (spread_at new index) spread bits bytes))))
          ];
      left = λ k from. get_or-set_other new index k spread none (omega arith) ∙ done.left k (omega arith);
    }

-- no value more
with_none : (spread : Spread) → spread.bytes ≤ 2 ^ 64 - 1 → IsSpreadWith [] spread spread
with_none spread fits = record { bits = omega arith; bytes = omega arith }

pub added_all : (values : List Value) (old new : List Spread) (index : ℕ) → AddedSoFar values old new index → min (length old) (length values) ≤ index
    → ((k : ℕ) → k < length old → (spread_at old k).bytes ≤ 2 ^ 64 - 1) → (k : ℕ) → k < length old → IsSpreadWith (value_at k values) (spread_at old k) (spread_at new k)
added_all values old new index done past fits k inside =
    elim (cases_lt k index) [
      | inl earlier ↦ done.done k earlier
      | inr late ↦
          subst (λ (s : Spread). IsSpreadWith (value_at k values) (spread_at old k) s) (sym (done.left k late))
          (subst (λ (vs : List Value). IsSpreadWith vs (spread_at old k) (spread_at old k)) (sym (value_past values k (omega arith))) (with_none (spread_at old k) (fits k inside)))
    ]

-- ---- the values of all rows

-- what the rows that are seen take, and what those take that are left, is what all take
pub record IsGathered (fields : ℕ) (all left : List Row) (spreads : List Spread) : Type 0 where
  pub long : length spreads ≡ fields
  pub bits : (index : ℕ) → index < fields → max (spread_at spreads index).bits (most_bits (column index (records_of left))) ≡ most_bits (column index (records_of all))
  pub bytes : (index : ℕ) → index < fields
      → min ((spread_at spreads index).bytes + byte_count (column index (records_of left))) (2 ^ 64 - 1) ≡ min (byte_count (column index (records_of all))) (2 ^ 64 - 1)
  pub fits : (index : ℕ) → index < fields → (spread_at spreads index).bytes ≤ 2 ^ 64 - 1

spread_of_none : (count index : ℕ) → spread_at (replicate count (record { bits = 0; bytes = 0 })) index ≡ record { bits = 0; bytes = 0 }
spread_of_none zero index = refl
spread_of_none (suc count) zero = refl
spread_of_none (suc count) (suc index) = spread_of_none count index

length-replicate_spread : (count : ℕ) (spread : Spread) → length (replicate count spread) ≡ count
length-replicate_spread zero spread = refl
length-replicate_spread (suc count) spread = ap suc (length-replicate_spread count spread)

pub gathered_none : (fields : ℕ) (all left : List Row) (spreads : List Spread) → left ≡ all → spreads ≡ replicate fields (record { bits = 0; bytes = 0 }) → IsGathered fields all left spreads
gathered_none fields all left spreads is none =
    let empty : Spread = record { bits = 0; bytes = 0 } in
    let at = λ (index : ℕ). ap (λ (ss : List Spread). spread_at ss index) none ∙ spread_of_none fields index in
    record {
      long = ap (λ (ss : List Spread). length ss) none ∙ length-replicate_spread fields empty;
      bits = λ index inside.
          subst (λ (s : Spread). max s.bits (most_bits (column index (records_of left))) ≡ most_bits (column index (records_of all))) (sym (at index))
          (let same = ap (λ (rows : List Row). most_bits (column index (records_of rows))) is in omega (arith, same));
      bytes = λ index inside.
          subst (λ (s : Spread). min (s.bytes + byte_count (column index (records_of left))) (2 ^ 64 - 1) ≡ min (byte_count (column index (records_of all))) (2 ^ 64 - 1)) (sym (at index))
          (let same = ap (λ (rows : List Row). byte_count (column index (records_of rows))) is in omega (arith, same));
      fits = λ index inside. subst (λ (s : Spread). s.bytes ≤ 2 ^ 64 - 1) (sym (at index)) (omega arith);
    }

pub gathered_more : (fields : ℕ) (all left rest : List Row) (taken : Option Row) (row : Row) (old new : List Spread) → IsGathered fields all left old → Takes left taken rest → taken ≡ Some row
    → length new ≡ length old → ((index : ℕ) → index < length old → IsSpreadWith (value_at index (values_of_row row)) (spread_at old index) (spread_at new index)) → IsGathered fields all rest new
gathered_more fields all left rest taken row old new done takes found long with =
    let is : left ≡ row ∷ rest = subst (λ (t : Option Row). Takes left t rest) found takes in
    let split = λ (index : ℕ). ap (λ (rows : List Row). column index (records_of rows)) is in
    record {
      long = long ∙ done.long;
      bits = λ index inside.
          let here = with index (omega (arith, done.long)) in
          let parts = ap most_bits (split index) ∙ most_bits-append (value_at index (values_of_row row)) (column index (records_of rest)) in
          omega (arith, here.bits, parts, done.bits index inside);
      bytes = λ index inside.
          let here = with index (omega (arith, done.long)) in
          let parts = ap byte_count (split index) ∙ byte_count-append (value_at index (values_of_row row)) (column index (records_of rest)) in
          omega (arith, here.bytes, parts, done.bytes index inside);
      fits = λ index inside. let here = with index (omega (arith, done.long)) in omega (arith, here.bytes);
    }

pub gathered_all : (fields : ℕ) (all left rest : List Row) (taken : Option Row) (spreads : List Spread) → IsGathered fields all left spreads → Takes left taken rest → taken ≡ None
    → AreSpreads fields all spreads
gathered_all fields all left rest taken spreads done takes ended =
    let none : left ≡ [] = subst (λ (t : Option Row). Takes left t rest) ended takes in
    record {
      long = done.long;
      bits = λ index inside.
          let empty : most_bits (column index (records_of left)) ≡ 0 = ap (λ (rows : List Row). most_bits (column index (records_of rows))) none in
          omega (arith, empty, done.bits index inside);
      bytes = λ index inside.
          let empty : byte_count (column index (records_of left)) ≡ 0 = ap (λ (rows : List Row). byte_count (column index (records_of rows))) none in
          omega (arith, empty, done.bytes index inside, done.fits index inside);
    }

-- ---- the widths

pub column_bytes_le : (index : ℕ) (rows : List Row) → byte_count (column index (records_of rows)) ≤ length (rows_bytes rows)
column_bytes_le index [] = omega arith
column_bytes_le index (row ∷ rows) =
    let parts = byte_count-append (value_at index (values_of_row row)) (column index (records_of rows)) in
    let all = length-append (values_bytes (values_of_row row)) (rows_bytes rows) in
    omega (arith, parts, all, value_bytes_le (values_of_row row) index, column_bytes_le index rows)

-- a spread is that of its field's values, whose bytes are few
pub record IsSpreadOf (values : List Value) (spread : Spread) : Type 0 where
  pub bits : spread.bits ≡ most_bits values
  pub bytes : spread.bytes ≡ byte_count values
  pub few : spread.bytes < 2 ^ 62

pub spread_is : (fields : ℕ) (rows : List Row) (spreads : List Spread) (index : ℕ) (spread : Spread) → AreSpreads fields rows spreads → length (rows_bytes rows) < 2 ^ 62 → index < fields
    → spread ≡ get_or spreads index spread → IsSpreadOf (column index (records_of rows)) spread
spread_is fields rows spreads index spread are few inside is =
    let le = column_bytes_le index rows in
    let here : spread ≡ spread_at spreads index = is ∙ get_or_default spreads index spread (record { bits = 0; bytes = 0 }) (omega (arith, are.long)) in
    subst (λ (s : Spread). IsSpreadOf (column index (records_of rows)) s) (sym here)
    (let bytes = are.bytes index inside in record { bits = are.bits index inside; bytes = omega arith; few = omega arith })

-- the widths of the fields from an index on
abbrev pub widths_from : ℕ → List Field → List Row → List ℕ
widths_from index fields rows = map (λ part. width_for part.1.kind (column part.0 (records_of rows))) (enumerate_from index fields)

pub widths_more : (fields : List Field) (rows : List Row) (index : ℕ) (field : Field) (widths : List ℕ) (width : ℕ) → widths ++ widths_from index (drop index fields) rows ≡ widths_for fields rows
    → index < length fields → field ≡ get_or fields index field → width ≡ width_for field.kind (column index (records_of rows))
    → (widths ++ width ∷ []) ++ widths_from (index + 1) (drop (index + 1) fields) rows ≡ widths_for fields rows
widths_more fields rows index field widths width so_far inside is here =
    let split : drop index fields ≡ field ∷ drop (index + 1) fields = rw (add-one, is) (drop-cons fields index field inside) in
    append_assoc widths (width ∷ []) (widths_from (index + 1) (drop (index + 1) fields) rows)
    ∙ ap (λ (w : ℕ). widths ++ w ∷ widths_from (index + 1) (drop (index + 1) fields) rows) here
    ∙ ap (λ (fs : List Field). widths ++ widths_from index fs rows) (sym split)
    ∙ so_far

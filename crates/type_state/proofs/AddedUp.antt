-- What the rows of a half add up to, by its lengths and its total.
use Rattle.std.proofs.Common.{◌≡◌, ℕ, zero, suc, ◌+◌, ◌≤◌, inl, inr, List, [], ◌∷◌, length, map, get_or, refl, ap, sym, subst, ◌∙◌, add-zero, arith}
use Rattle.std.specs.Prelude.{All, slice_get, slice_index, sum}
use Rattle.std.specs.List.{range_with_len}
use Rattle.std.specs.Option.{option_map_or}
use Rattle.std.specs.FinMap.{entries, values}
use Rattle.std.specs.Map.{values_of}
use Rattle.std.proofs.lemmas.Bool.{cases_lt}
use Rattle.std.proofs.lemmas.List.Elements.{All-head, All-tail}
use Rattle.std.proofs.lemmas.List.FromFn.{get_or-map-range_with_len, length-map-range_with_len}
use Rattle.std.proofs.lemmas.List.Sums.{sum_by-cons}
use Rattle.schema_model.specs.declared.limit.Limit.TheVariants.{Bytes}
use Rattle.schema_model.specs.Limit.{number_of_limit}
use Rattle.schema_model.specs.declared.schema.Shape.{Shape}
use Rattle.schema_model.specs.Parts.{shape_fields}
use Rattle.row_model.specs.declared.row.Value.{Value}
use Rattle.row_model.specs.declared.row.Row.{Row}
use Rattle.packed_half.specs.declared.half.HalfShape.{HalfShape}
use Rattle.packed_half.specs.LaidOut.{lengths_of}
use Rattle.packed_half.proofs.Counts.{bytes_are}
use Rattle.type_rows.specs.declared.totals.Totals.{Totals}
use Rattle.type_rows.specs.Ends.{IsOfKind}
use Rattle.type_rows.specs.Totals.{AreTotals}
use Rattle.type_rows.specs.WordsHeld.{field_bytes, part_bytes, value_bytes}
use Rattle.type_rows.proofs.Entries.{no_entry}
use Rattle.type_state.specs.Kept.{IsHalf, half_rows}
use Rattle.type_state.proofs.Halves.{all_values, bare_rows}

-- ---- the bytes of a field

abbrev value_at : (values : List Value) (k : ℕ) → ℕ
value_at values k = option_map_or value_bytes (slice_get values k) 0

-- A row has no bytes in a field that its type has not.
past_values : (values : List Value) (f : ℕ) → length values ≤ f → value_at values f ≡ 0
past_values [] f past = refl
past_values (v ∷ vs) zero past = absurd (omega arith)
past_values (v ∷ vs) (suc f) past = past_values vs f (omega arith)

past_row : (shape : Shape) (row : Row) (f : ℕ) → IsOfKind shape row → length (shape_fields shape) ≤ f → part_bytes f row ≡ 0
past_row (Shape.Object key fields) (Row.Object values) f kind past = past_values values f (omega (arith, kind, past))
past_row (Shape.Object key fields) _ f kind past = absurd kind
past_row (Shape.List element) (Row.List ordinals) f kind past = refl
past_row (Shape.List element) _ f kind past = absurd kind
past_row (Shape.Set element) (Row.Set ordinals) f kind past = refl
past_row (Shape.Set element) _ f kind past = absurd kind
past_row (Shape.Map key value) (Row.Map pairs) f kind past = refl
past_row (Shape.Map key value) _ f kind past = absurd kind

past_rows : (shape : Shape) (rows : List Row) (f : ℕ) → All (IsOfKind shape) rows → length (shape_fields shape) ≤ f → field_bytes f rows ≡ 0
past_rows shape [] f kinds past = refl
past_rows shape (row ∷ rows) f kinds past =
    let first = past_row shape row f (All-head (IsOfKind shape) row rows kinds) past in
    let rest = past_rows shape rows f (All-tail (IsOfKind shape) row rows kinds) past in
    let all = sum_by-cons (part_bytes f) row rows in
    omega (arith, first, rest, all)

-- Each length is the number of the field's bytes.
pub each_length : (shape : Shape) (rows : List Row) → All (IsOfKind shape) rows → (f : ℕ) → slice_index (lengths_of shape rows) f ≡ field_bytes f rows
each_length shape rows kinds f = elim (cases_lt f (length (shape_fields shape))) [
  | inl inside ↦ get_or-map-range_with_len (λ (field : ℕ). field_bytes field rows) 0 (length (shape_fields shape)) f f 0 inside (omega arith)
  | inr past ↦ (
      let long = length-map-range_with_len (λ (field : ℕ). field_bytes field rows) 0 (length (shape_fields shape)) in
      past_end (lengths_of shape rows) f (omega (arith, long, past)) ∙ sym (past_rows shape rows f kinds past))
]
  where
    past_end : (numbers : List ℕ) (k : ℕ) → length numbers ≤ k → get_or numbers k 0 ≡ 0
    past_end [] k over = refl
    past_end (n ∷ numbers) zero over = absurd (omega arith)
    past_end (n ∷ numbers) (suc k) over = past_end numbers k (omega arith)

-- Numbers that are those of a function are its list.
from_function : (g : ℕ → ℕ) (a : ℕ) (numbers : List ℕ) → ((k : ℕ) → get_or numbers k 0 ≡ g (a + k)) → numbers ≡ map g (range_with_len a (length numbers))
from_function g a [] are = refl
from_function g a (n ∷ numbers) are =
    let first : n ≡ g a = are 0 ∙ ap g (add-zero a) in
    let rest = from_function g (a + 1) numbers (λ k. are (suc k) ∙ ap g (let same : a + suc k ≡ a + 1 + k = omega arith in same)) in
    λ i. first i ∷ rest i

-- The ends of rows are their lengths.
pub ends_are : (shape : Shape) (rows : List Row) (offsets : List ℕ) → length offsets ≡ length (shape_fields shape) → ((f : ℕ) → slice_index offsets f ≡ field_bytes f rows) → offsets ≡ lengths_of shape rows
ends_are shape rows offsets long are =
    from_function (λ (f : ℕ). field_bytes f rows) 0 offsets (λ k. are k ∙ ap (λ (f : ℕ). field_bytes f rows) (let same : k ≡ 0 + k = omega arith in same)) ∙ ap (λ n. map (λ (f : ℕ). field_bytes f rows) (range_with_len 0 n)) long

-- ---- a half

-- The bytes of a half can be counted.
pub few_bytes : (shape : Shape) (half : HalfShape) (words : List ℕ) → IsHalf shape half words → sum half.lengths ≤ number_of_limit Bytes
few_bytes shape half words (inl bare) = let none = ap (λ xs. sum xs) bare.lengths in omega (arith, none)
few_bytes shape half words (inr p) =
    let is = bytes_are shape half words (half_rows shape half words) p.can.kinds p.laid in omega (arith, is, p.can.bytes)

pub half_totals : (shape : Shape) (half : HalfShape) (words : List ℕ) (totals : Totals) → IsHalf shape half words → totals.ends.offsets.items ≡ half.lengths → totals.ends.items ≡ half.total → totals.bytes ≡ sum half.lengths → AreTotals (values (half_rows shape half words)) totals
half_totals shape half words totals (inl bare) ends items bytes =
    let none = ap (λ es. values_of es) (ap entries (bare_rows shape half words bare) ∙ no_entry) in
    subst (λ (rows : List Row). AreTotals rows totals) (sym none) record {
      ends = λ f. ap (λ xs. slice_index xs f) (ends ∙ bare.lengths);
      items = items ∙ bare.total;
      bytes = bytes ∙ ap (λ xs. sum xs) bare.lengths;
    }
half_totals shape half words totals (inr p) ends items bytes =
    let rows = half_rows shape half words in
    let kinds = all_values (IsOfKind shape) rows p.can.kinds in
    record {
      ends = λ f. ap (λ xs. slice_index xs f) (ends ∙ p.can.lengths) ∙ each_length shape (values rows) kinds f;
      items = items ∙ p.can.total;
      bytes = bytes ∙ bytes_are shape half words rows p.can.kinds p.laid;
    }

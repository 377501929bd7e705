-- Lemmas on the walk along the fields of a run of records that are copied: what is moved of each field.
use Rattle.std.proofs.Common.{◌≡◌, ℕ, zero, suc, ◌+◌, ◌-◌, ◌*◌, ◌^◌, ◌<◌, ◌≤◌, ◌⊎◌, List, [], ◌∷◌, ◌++◌, length, get_or, take, drop, set, refl, sym, ap, ◌∙◌, subst, arith, inl, inr}
use Rattle.std.specs.Prelude.{sum}
use Rattle.std.proofs.Math.Nat.{mul-le-mul_right}
use Rattle.std.proofs.lemmas.Bool.{cases_lt}
use Rattle.std.proofs.lemmas.List.{get_or-set_other, get_or-set_same, length-set}
use Rattle.std.proofs.lemmas.List.Sums.{sum_by_more}
use Rattle.std.proofs.lemmas.Option.{unwrap_or-slice_get}
use Rattle.bit_array.specs.Element.{element_of, number_of, SetsBlock}
use Rattle.bit_array.proofs.Blocks.{block_bits}
use Rattle.bit_array.proofs.Elements.{element_of-lt}
use Rattle.row_model.specs.Areas.{area_of}
use Rattle.schema_model.specs.declared.schema.Field.{Field}
use Rattle.object_codec.specs.ObjectPlace.{element_at, start_at}
use Rattle.object_codec.specs.Packing.{HasBytes}
use Rattle.object_codec.proofs.FieldParts.{SameBefore, ends_before}
use Rattle.record_copies.specs.declared.column.Column.{Column}
use Rattle.record_copies.specs.declared.run.Run.{Run}
use Rattle.record_copies.specs.Column.{AreApart, IsIn, IsMoved}

area_set_same : (areas : List (List ℕ)) (k : ℕ) (area : List ℕ) → k < length areas → area_of (set areas k area) k ≡ area
area_set_same areas k area inside = unwrap_or-slice_get (set areas k area) k [] ∙ get_or-set_same areas k area [] inside

area_set_other : (areas : List (List ℕ)) (index k : ℕ) (area : List ℕ) → (k ≡ index → ⊥) → area_of (set areas index area) k ≡ area_of areas k
area_set_other areas index k area apart = unwrap_or-slice_get (set areas index area) k [] ∙ get_or-set_other areas index k area [] apart ∙ sym (unwrap_or-slice_get areas k [])

-- the element of a field at a place, and where its bytes start there
abbrev pub element_of_field : List ℕ → List ℕ → ℕ → ℕ → ℕ
element_of_field widths words k place = element_at words (sum widths) (sum (take k widths)) (get_or widths k 0) place

abbrev pub start_of_field : List ℕ → List ℕ → ℕ → ℕ → ℕ
start_of_field widths words k place = start_at words (sum widths) (sum (take k widths)) (get_or widths k 0) place

-- the column of a field
abbrev pub column_of : List ℕ → ℕ → Column
column_of widths k = record { size = sum widths; before = sum (take k widths); width = get_or widths k 0 }

-- the elements and the bytes of a field are moved, or are as they were copied
pub record FieldMoved (widths there : List ℕ) (areas_there : List (List ℕ)) (old_areas : List (List ℕ)) (run : Run) (first : List ℕ) (areas : List (List ℕ)) (k : ℕ) : Type 0 where
  pub elements : (p : ℕ) → IsIn run p → element_of_field widths first k p ≡ element_of_field widths there k p - start_of_field widths there k run.place + length (area_of old_areas k)
  pub grown : area_of areas k ≡ area_of old_areas k ++ take (start_of_field widths there k run.end - start_of_field widths there k run.place) (drop (start_of_field widths there k run.place) (area_of areas_there k))

pub record FieldKept (widths there : List ℕ) (old_areas : List (List ℕ)) (run : Run) (first : List ℕ) (areas : List (List ℕ)) (k : ℕ) : Type 0 where
  pub elements : (p : ℕ) → IsIn run p → element_of_field widths first k p ≡ element_of_field widths there k p
  pub area : area_of areas k ≡ area_of old_areas k

-- the fields below an index are moved
pub record MovedSoFar (fields : List Field) (widths there : List ℕ) (areas_there : List (List ℕ)) (old_first : List ℕ) (old_areas : List (List ℕ)) (run : Run) (first : List ℕ) (areas : List (List ℕ)) (index before : ℕ) : Type 0 where
  pub summed : before ≡ sum (take index widths)
  pub long : length first ≡ length old_first
  pub same : SameBefore old_first first (run.place * sum widths)
  pub bits : number_of old_first < 2 ^ (run.place * sum widths) → number_of first < 2 ^ (run.end * sum widths)
  pub filled : length areas ≡ length old_areas
  pub moved : (k : ℕ) (field : Field) → k < index → field ≡ get_or fields k field → HasBytes field.kind → FieldMoved widths there areas_there old_areas run first areas k
  pub kept : (k : ℕ) (field : Field) → k < length fields → field ≡ get_or fields k field → (HasBytes field.kind → ⊥) → FieldKept widths there old_areas run first areas k
  pub left : (k : ℕ) → index ≤ k → k < length fields → FieldKept widths there old_areas run first areas k

-- a field ends with its record, or before it
pub field_ends : (widths : List ℕ) (k : ℕ) → k < length widths → sum (take k widths) + get_or widths k 0 ≤ sum widths
field_ends widths k inside = omega (arith, ends_before widths k (length widths) inside, ap sum (all_taken widths))
  where
    all_taken : (ws : List ℕ) → take (length ws) ws ≡ ws
    all_taken [] = refl
    all_taken (w ∷ ws) = ap (λ (rest : List ℕ). w ∷ rest) (all_taken ws)

-- the bits of the records are copied
pub moved_none : (fields : List Field) (widths there : List ℕ) (areas_there : List (List ℕ)) (old_first first : List ℕ) (areas : List (List ℕ)) (run : Run) (start count : ℕ) → length fields ≡ length widths
    → start ≡ run.place * sum widths → count ≡ run.end * sum widths - start → run.place ≤ run.end → length first ≡ length old_first → SetsBlock old_first first start count (element_of there start count)
    → ((i v : ℕ) → i + v ≤ count → element_of first (start + i) v ≡ element_of there (start + i) v) → ((i v : ℕ) → (i + v ≤ start) ⊎ (start + count ≤ i) → element_of first i v ≡ element_of old_first i v)
    → MovedSoFar fields widths there areas_there old_first areas run first areas 0 0
moved_none fields widths there areas_there old_first first areas run start count wide start_is count_is rises long block each others = record {
  summed = refl;
  long = long;
  same = λ i v before. others i v (inl (omega (arith, before, start_is)));
  bits = λ below.
      (let after = block_bits old_first first start count (element_of there start count) (element_of-lt there start count) block (subst (λ n. number_of old_first < 2 ^ n) (sym start_is) below) in
      subst (λ n. number_of first < 2 ^ n) end_is after);
  filled = refl;
  moved = λ k field none. absurd (omega arith);
  kept = λ k field inside is fixed. copied k (omega (arith, inside, wide));
  left = λ k from inside. copied k (omega (arith, inside, wide));
}
  where
    up : run.place * sum widths ≤ run.end * sum widths
    up = mul-le-mul_right (sum widths) rises

    end_is : start + count ≡ run.end * sum widths
    end_is = omega (arith, up, start_is, count_is)

    copied : (k : ℕ) → k < length widths → FieldKept widths there areas run first areas k
    copied k inside = record {
      elements = λ p here.
          (let ends = field_ends widths k inside in
          let least : run.place * sum widths ≤ p * sum widths = mul-le-mul_right (sum widths) here.0 in
          let next : p + 1 ≤ run.end = omega (arith, here.1) in
          let most : (p + 1) * sum widths ≤ run.end * sum widths = mul-le-mul_right (sum widths) next in
          let place : start + (p * sum widths + sum (take k widths) - start) ≡ p * sum widths + sum (take k widths) = omega (arith, least, start_is) in
          let same = each (p * sum widths + sum (take k widths) - start) (get_or widths k 0) (omega (arith, ends, least, most, start_is, count_is)) in
          subst (λ n. element_of first n (get_or widths k 0) ≡ element_of there n (get_or widths k 0)) place same);
      area = refl;
    }

-- the elements of two fields lie apart
pub fields_apart : (widths : List ℕ) (run : Run) (index k p : ℕ) → index < length widths → k < length widths → (k ≡ index → ⊥) → AreApart (column_of widths index) run (p * sum widths + sum (take k widths)) (get_or widths k 0)
fields_apart widths run index k p inside there other = λ q here.
    let ends = field_ends widths k there in
    let own = field_ends widths index inside in
    elim (cases_lt p q) [
      | inl before ↦
          let next : p + 1 ≤ q = omega arith in
          let product : (p + 1) * sum widths ≤ q * sum widths = mul-le-mul_right (sum widths) next in inl (omega arith)
      | inr past ↦
          elim (cases_lt q p) [
            | inl behind ↦
                let next : q + 1 ≤ p = omega arith in
                let product : (q + 1) * sum widths ≤ p * sum widths = mul-le-mul_right (sum widths) next in inr (omega arith)
            | inr not_behind ↦
                let same : q ≡ p = omega arith in
                let product : q * sum widths ≡ p * sum widths = ap (λ n. n * sum widths) same in
                elim (cases_lt k index) [
                  | inl left ↦ let up = ends_before widths k index left in inl (omega arith)
                  | inr right ↦
                      let less : index < k = omega (arith, right, other) in
                      let up = ends_before widths index k less in inr (omega arith)
                ]
          ]
    ]

module _
    (fields : List Field) (widths there : List ℕ) (areas_there : List (List ℕ)) (old_first : List ℕ) (old_areas : List (List ℕ)) (run : Run) (first first' : List ℕ) (areas : List (List ℕ)) (index before : ℕ) (area' : List ℕ)
    (wide : length fields ≡ length widths) (filled : length old_areas ≡ length fields) (inside : index < length fields)
    (so_far : MovedSoFar fields widths there areas_there old_first old_areas run first areas index before)
    (put : IsMoved (column_of widths index) there (area_of areas_there index) run first first' (area_of areas index) area') where
  other_element : (k p : ℕ) → k < length fields → (k ≡ index → ⊥) → element_of_field widths first' k p ≡ element_of_field widths first k p
  other_element k p below other =
      put.shifted.others (p * sum widths + sum (take k widths)) (get_or widths k 0) (fields_apart widths run index k p (omega (arith, inside, wide)) (omega (arith, below, wide)) other)

  kept_field : (k : ℕ) → k < length fields → (k ≡ index → ⊥) → FieldKept widths there old_areas run first areas k → FieldKept widths there old_areas run first' (set areas index area') k
  kept_field k below other was = record {
    elements = λ p here. other_element k p below other ∙ was.elements p here;
    area = area_set_other areas index k area' other ∙ was.area;
  }

  moved_field : (k : ℕ) → k < length fields → (k ≡ index → ⊥) → FieldMoved widths there areas_there old_areas run first areas k → FieldMoved widths there areas_there old_areas run first' (set areas index area') k
  moved_field k below other was = record {
    elements = λ p here. other_element k p below other ∙ was.elements p here;
    grown = area_set_other areas index k area' other ∙ was.grown;
  }

  own_field : FieldMoved widths there areas_there old_areas run first' (set areas index area') index
  own_field =
      let left = so_far.left index (omega arith) inside in
      let room : index < length areas = omega (arith, inside, filled, so_far.filled) in
      record {
        elements = λ p here.
            put.shifted.elements p here ∙ ap (λ n. n - start_of_field widths there index run.place + length (area_of areas index)) (left.elements p here)
            ∙ ap (λ (bytes : List ℕ). element_of_field widths there index p - start_of_field widths there index run.place + length bytes) left.area;
        grown = area_set_same areas index area' room ∙ put.grown
            ∙ ap (λ (bytes : List ℕ). bytes ++ take (start_of_field widths there index run.end - start_of_field widths there index run.place) (drop (start_of_field widths there index run.place) (area_of areas_there index))) left.area;
      }

  -- nothing before the run is moved
  before_apart : (i v : ℕ) → i + v ≤ run.place * sum widths → AreApart (column_of widths index) run i v
  before_apart i v below = λ q here.
      let least : run.place * sum widths ≤ q * sum widths = mul-le-mul_right (sum widths) here.0 in inl (omega (arith, least, below))

  more_summed : before + get_or widths index 0 ≡ sum (take (index + 1) widths)
  more_summed = ap (λ n. n + get_or widths index 0) so_far.summed ∙ sym (sum_by_more (λ (w : ℕ). w) widths index 0 (omega (arith, inside, wide)))

  -- the bytes of one field more are moved
  pub moved_more : (own : (field : Field) → field ≡ get_or fields index field → HasBytes field.kind) → length first' ≡ length first
      → MovedSoFar fields widths there areas_there old_first old_areas run first' (set areas index area') (index + 1) (before + get_or widths index 0)
  moved_more own long = record {
    summed = more_summed;
    long = long ∙ so_far.long;
    same = λ i v below. put.shifted.others i v (before_apart i v below) ∙ so_far.same i v below;
    bits = λ below. put.shifted.bits (so_far.bits below);
    filled = length-set areas index area' ∙ so_far.filled;
    moved = λ k field below is has.
        elim (cases_lt k index) [
          | inl earlier ↦ moved_field k (omega arith) (λ e. omega arith) (so_far.moved k field earlier is has)
          | inr late ↦
              let same : index ≡ k = omega arith in
              subst (λ n. FieldMoved widths there areas_there old_areas run first' (set areas index area') n) same own_field
        ];
    kept = λ k field below is fixed. kept_field k below (λ e. fixed (own field (subst (λ n. field ≡ get_or fields n field) e is))) (so_far.kept k field below is fixed);
    left = λ k from below. kept_field k below (λ e. omega arith) (so_far.left k (omega arith) below);
  }

-- a field without bytes is left as it is
pub moved_past : (fields : List Field) (widths there : List ℕ) (areas_there : List (List ℕ)) (old_first : List ℕ) (old_areas : List (List ℕ)) (run : Run) (first : List ℕ) (areas : List (List ℕ)) (index before : ℕ) (field : Field)
    → length fields ≡ length widths → index < length fields → field ≡ get_or fields index field → (HasBytes field.kind → ⊥) → ((one other : Field) → one ≡ get_or fields index one → other ≡ get_or fields index other → one ≡ other)
    → MovedSoFar fields widths there areas_there old_first old_areas run first areas index before → MovedSoFar fields widths there areas_there old_first old_areas run first areas (index + 1) (before + get_or widths index 0)
moved_past fields widths there areas_there old_first old_areas run first areas index before field wide inside is fixed once so_far = record {
  summed = ap (λ n. n + get_or widths index 0) so_far.summed ∙ sym (sum_by_more (λ (w : ℕ). w) widths index 0 (omega (arith, inside, wide)));
  long = so_far.long;
  same = so_far.same;
  bits = so_far.bits;
  filled = so_far.filled;
  moved = λ k f below at has.
      elim (cases_lt k index) [
        | inl earlier ↦ so_far.moved k f earlier at has
        | inr late ↦
            let same : k ≡ index = omega arith in
            absurd (fixed (subst (λ (g : Field). HasBytes g.kind) (once f field (subst (λ n. f ≡ get_or fields n f) same at) is) has))
      ];
  kept = so_far.kept;
  left = λ k from below. so_far.left k (omega arith) below;
}

-- the field at an index is one
pub field_once : (fields : List Field) (index : ℕ) → index < length fields → (one other : Field) → one ≡ get_or fields index one → other ≡ get_or fields index other → one ≡ other
field_once [] index inside one other is also = absurd (omega arith)
field_once (f ∷ fields) zero inside one other is also = is ∙ sym also
field_once (f ∷ fields) (suc index) inside one other is also = field_once fields index (omega arith) one other is also

-- Lemmas on elements that are written behind one another.
use Rattle.std.proofs.Common.{◌≡◌, ℕ, ◌+◌, ◌-◌, ◌*◌, ◌^◌, ◌<◌, ◌≤◌, ◌⊎◌, suc, zero, List, [], ◌∷◌, ◌++◌, length, get_or, take, refl, sym, ap, ◌∙◌, subst, inl, arith, Fits, w32}
use Rattle.std.specs.Prelude.{map, slice_get, unwrap_or, Some}
use Rattle.std.proofs.lemmas.Option.{unwrap_or-slice_get}
use Rattle.std.specs.List.{range_with_len}
use Rattle.std.proofs.lemmas.List.{take_more}
use Rattle.std.proofs.lemmas.List.Elements.{All-from_get_or}
use Rattle.std.proofs.Math.Nat.{mul-le-mul_right}
use Rattle.std.proofs.lemmas.Nat.{pow-add, pow_pos}
use Rattle.bit_array.specs.Element.{element_of, number_of, SetsBlock}
use Rattle.bit_array.proofs.Blocks.{block_bits}
use Rattle.list_codec.specs.ListPlace.{pointer_width, element_width, pointer_at, pointer_before, start_at, end_at, elements_between, elements_at, SpellsList}
use Rattle.list_codec.specs.Packing.{HasRoom}
use Rattle.list_codec.proofs.ElementRuns.{elements_more}

-- an element before a limit ends before it
pub ends_before : (index limit width : ℕ) → index < limit → index * width + width ≤ limit * width
ends_before index limit width below =
    let product : (index + 1) * width ≤ limit * width = mul-le-mul_right width (let h : index + 1 ≤ limit = omega arith in h) in
    omega arith

map_range : (f g : ℕ → ℕ) (start count : ℕ) → ((k : ℕ) → start ≤ k → k < start + count → f k ≡ g k) → map f (range_with_len start count) ≡ map g (range_with_len start count)
map_range f g start zero same = refl
map_range f g start (suc count) same =
    ap (λ (n : ℕ). n ∷ map f (range_with_len (start + 1) count)) (same start (omega arith) (omega arith))
    ∙ ap (λ (ns : List ℕ). g start ∷ ns) (map_range f g (start + 1) count (λ k from before. same k (omega arith) (omega arith)))

-- bits before a limit are as they were
abbrev pub SameBefore : List ℕ → List ℕ → ℕ → Type 0
SameBefore old new limit = (at v : ℕ) → at + v ≤ limit → element_of new at v ≡ element_of old at v

-- elements before a limit are as they were
pub same_elements : (old new : List ℕ) (width start end limit : ℕ) → SameBefore old new (limit * width) → end ≤ limit → elements_between new width start end ≡ elements_between old width start end
same_elements old new width start end limit same within =
    map_range (λ k. element_of new (k * width) width) (λ k. element_of old (k * width) width) start (end - start)
    (λ k from before. same (k * width) width (ends_before k limit width (omega arith)))

-- pointers before a place are as they were
pub same_pointer : (old new : List ℕ) (width place limit : ℕ) → SameBefore old new (limit * width) → place < limit → pointer_at new width place ≡ pointer_at old width place
same_pointer old new width place limit same below = same (place * width) width (ends_before place limit width below)

pub same_start : (old new : List ℕ) (width place limit : ℕ) → SameBefore old new (limit * width) → place ≤ limit → pointer_before new width place ≡ pointer_before old width place
same_start old new width zero limit same within = refl
same_start old new width (suc earlier) limit same within = same_pointer old new width earlier limit same (omega arith)

-- what a list lends at a place
pub read_is : (xs : List ℕ) (place x : ℕ) → slice_get xs place ≡ Some x → x ≡ get_or xs place 0
read_is xs place x h = ap (λ o. unwrap_or o 0) (sym h) ∙ unwrap_or-slice_get xs place 0

-- ---- a run of elements that is written

-- the elements below an index are written
pub record WrittenSoFar (old words : List ℕ) (width start index at : ℕ) (elements : List ℕ) : Type 0 where
  pub position : at ≡ (start + index) * width
  pub are : elements_between words width start (start + index) ≡ take index elements
  pub before : SameBefore old words (start * width)
  pub bits : number_of old < 2 ^ (start * width) → number_of words < 2 ^ ((start + index) * width)
  pub long : length words ≡ length old

pub written_more : (old words new : List ℕ) (width start index at element : ℕ) (elements : List ℕ) → WrittenSoFar old words width start index at elements → index < length elements
    → element ≡ get_or elements index 0 → element < 2 ^ width → SetsBlock words new at width element → element_of new at width ≡ element
    → ((i v : ℕ) → (i + v ≤ at) ⊎ (at + width ≤ i) → element_of new i v ≡ element_of words i v) → length new ≡ length words
    → WrittenSoFar old new width start (index + 1) (at + width) elements
written_more old words new width start index at element elements done inside is small block there others long =
    let here = done.position in
    let next : start + (index + 1) ≡ (start + index) + 1 = omega arith in
    let same : SameBefore words new ((start + index) * width) = λ i v within. others i v (inl (subst (λ n. i + v ≤ n) (sym here) within)) in
    let last : element_of new ((start + index) * width) width ≡ get_or elements index 0 = ap (λ n. element_of new n width) (sym here) ∙ there ∙ is in
    let early : start * width ≤ (start + index) * width = mul-le-mul_right width (let h : start ≤ start + index = omega arith in h) in
    record {
      position = ap (λ n. n + width) here ∙ (let e : (start + index) * width + width ≡ (start + (index + 1)) * width = omega arith in e);
      are =
          ap (λ n. elements_between new width start n) next
          ∙ elements_more new width start (start + index) (omega arith)
          ∙ ap (λ (es : List ℕ). es ++ element_of new ((start + index) * width) width ∷ []) (same_elements words new width start (start + index) (start + index) same (omega arith) ∙ done.are)
          ∙ ap (λ e. take index elements ++ e ∷ []) last
          ∙ sym (take_more elements index 0 inside);
      before = λ i v within. same i v (let h : i + v ≤ (start + index) * width = omega arith in h) ∙ done.before i v within;
      bits = λ below.
          let grown = block_bits words new at width element small block (subst (λ n. number_of words < 2 ^ n) (sym here) (done.bits below)) in
          let e : at + width ≡ (start + (index + 1)) * width = omega arith in
          subst (λ n. number_of new < 2 ^ n) e grown;
      long = long ∙ done.long;
    }

-- ---- a list that is written at a place

-- a pointer is written, and those before are as they were
pub record PointerPut (widths old new : List ℕ) (place end : ℕ) : Type 0 where
  pub same : SameBefore old new (place * pointer_width widths)
  pub there : end_at widths new place ≡ end
  pub bits : number_of old < 2 ^ (place * pointer_width widths) → number_of new < 2 ^ ((place + 1) * pointer_width widths)

pub pointer_put : (widths old new : List ℕ) (place end width factor : ℕ) → width ≡ pointer_width widths → factor ≡ width → end < 2 ^ pointer_width widths
    → SetsBlock old new (place * factor) width end → element_of new (place * factor) width ≡ end
    → ((i v : ℕ) → (i + v ≤ place * factor) ⊎ (place * factor + width ≤ i) → element_of new i v ≡ element_of old i v)
    → PointerPut widths old new place end
pointer_put widths old new place end width factor is same_factor small block there others =
    let is_factor = same_factor ∙ is in
    record {
      same = λ i v within. others i v (inl (subst (λ w. i + v ≤ place * w) (sym is_factor) within));
      there = subst (λ f. element_of new (place * f) (pointer_width widths) ≡ end) is_factor (subst (λ w. element_of new (place * factor) w ≡ end) is there);
      bits = λ below.
          let pw = pointer_width widths in
          let block' : SetsBlock old new (place * pw) pw end =
          subst (λ f. SetsBlock old new (place * f) pw end) is_factor (subst (λ w. SetsBlock old new (place * factor) w end) is block) in
          let e : place * pw + pw ≡ (place + 1) * pw = omega arith in
          subst (λ n. number_of new < 2 ^ n) e (block_bits old new (place * pw) pw end small block' below);
    }

-- the list stands at its place
pub row_spelled : (widths first first' second second' : List ℕ) (place start end width : ℕ) (elements : List ℕ) → HasRoom widths first second place start elements → PointerPut widths first first' place end
    → end ≡ start + length elements → width ≡ element_width widths → elements_between second' width start (start + length elements) ≡ elements → length second' ≡ length second
    → ((i : ℕ) → Fits w32 (get_or elements i 0)) → SpellsList widths end first' second' place elements
row_spelled widths first first' second second' place start end width elements room put is_end is_width are long fits =
    let from : start_at widths first' place ≡ start = same_start first first' (pointer_width widths) place place put.same (omega arith) ∙ room.follows in
    let to : end_at widths first' place ≡ start + length elements = put.there ∙ is_end in
    let held = room.held in
    record {
      has = record {
        rises = omega arith;
        within = omega arith;
        held = subst (λ n. n * element_width widths ≤ 64 * length second') (sym to) (omega arith);
      };
      are =
          sym are
          ∙ ap (λ w. elements_between second' w start (start + length elements)) is_width
          ∙ ap (λ n. elements_between second' (element_width widths) n (start + length elements)) (sym from)
          ∙ ap (λ n. elements_between second' (element_width widths) (start_at widths first' place) n) (sym to);
      small = All-from_get_or (λ ordinal. ordinal ≤ 2 ^ 32 - 1) elements 0 (λ i inside. let fit = (fits i).fits in omega arith);
    }

-- and the lists before stay where they are
pub row_kept : (widths first first' second second' : List ℕ) (place start end width : ℕ) → PointerPut widths first first' place end → width ≡ element_width widths
    → SameBefore second second' (start * width) → length second' ≡ length second
    → (before total : ℕ) (list : List ℕ) → before < place → total ≤ start → SpellsList widths total first second before list → SpellsList widths total first' second' before list
row_kept widths first first' second second' place start end width put is_width same long before total list earlier few spelled =
    let pw = pointer_width widths in
    let ew = element_width widths in
    let from : start_at widths first' before ≡ start_at widths first before = same_start first first' pw before place put.same (omega arith) in
    let to : end_at widths first' before ≡ end_at widths first before = same_pointer first first' pw before place put.same earlier in
    let has = spelled.has in
    let rises = has.rises in
    let within = has.within in
    let held = has.held in
    let elements : elements_between second' ew (start_at widths first before) (end_at widths first before) ≡ elements_at widths first second before =
    same_elements second second' ew (start_at widths first before) (end_at widths first before) start (subst (λ w. SameBefore second second' (start * w)) is_width same) (omega arith) in
    record {
      has = record {
        rises = omega arith;
        within = omega arith;
        held = subst (λ n. n * ew ≤ 64 * length second') (sym to) (omega arith);
      };
      are =
          spelled.are
          ∙ sym elements
          ∙ ap (λ n. elements_between second' ew n (end_at widths first before)) (sym from)
          ∙ ap (λ n. elements_between second' ew (start_at widths first' before) n) (sym to);
      small = spelled.small;
    }

-- what fits a pointer fits 64 bits
pub end_fits : (end width : ℕ) → width ≤ 64 → end < 2 ^ width → end < 2 ^ 64
end_fits end width narrow below =
    let split : 2 ^ 64 ≡ 2 ^ (64 - width) * 2 ^ width = ap (λ k. 2 ^ k) (let e : 64 ≡ (64 - width) + width = omega arith in e) ∙ pow-add 2 (64 - width) width in
    let some : 1 ≤ 2 ^ (64 - width) = pow_pos (64 - width) in
    let scaled : 1 * 2 ^ width ≤ 2 ^ (64 - width) * 2 ^ width = mul-le-mul_right (2 ^ width) some in
    omega arith

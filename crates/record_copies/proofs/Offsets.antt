-- Lemmas on end offsets: those of a run bound its bytes, and offsets that are all less by one number and greater by another bound the same bytes elsewhere.
use Rattle.std.proofs.Common.{◌≡◌, ℕ, zero, suc, ◌+◌, ◌-◌, ◌*◌, ◌/◌, ◌%◌, ◌^◌, ◌<◌, ◌≤◌, List, [], ◌∷◌, ◌++◌, length, take, drop, sym, ap, ◌∙◌, subst, arith, add-one}
use Rattle.std.specs.Prelude.{map}
use Rattle.std.specs.List.{range_with_len}
use Rattle.std.specs.FinMap.{get}
use Rattle.std.proofs.Math.Nat.{pow-suc}
use Rattle.std.proofs.lemmas.Grind.{flat_map-append}
use Rattle.std.proofs.lemmas.List.{drop-append-le, drop-drop, drop-take, length-append, length-drop, length-take, take-append-le, take-take}
use Rattle.std.proofs.lemmas.Nat.{div_below, mod_below, mod_low, pow_pos, shr_split}
use Rattle.row_model.specs.Table.{RowMap}
use Rattle.object_codec.specs.Packing.{values_of_place}
use Rattle.object_codec.specs.Part.{offset_in}
use Rattle.object_codec.specs.Stored.{column, value_at, value_bytes, values_bytes}
use Rattle.object_codec.proofs.SameParts.{part_of}
use Rattle.record_copies.proofs.Parts.{HaveSameRun, Steps}
use Rattle.record_copies.proofs.WordBytes.{take_both}

-- ---- the bytes of a run

-- the bytes from one offset up to a second, and from there up to a third
both_steps : (from middle to : ℕ) (area low high : List ℕ) → Steps from middle area low → Steps middle to area high → Steps from to area (low ++ high)
both_steps from middle to area low high first second =
    let up = first.rises in
    let more = second.rises in
    let whole : (middle - from) + (to - middle) ≡ to - from = omega arith in
    let there : from + (middle - from) ≡ middle = omega arith in
    record {
      rises = omega arith;
      inside = λ h. second.inside (first.inside h);
      bytes = ap (λ xs. xs ++ high) first.bytes ∙ ap (λ xs. take (middle - from) (drop from area) ++ xs) second.bytes
          ∙ ap (λ n. take (middle - from) (drop from area) ++ take (to - middle) (drop n area)) (sym there)
          ∙ ap (λ xs. take (middle - from) (drop from area) ++ take (to - middle) xs) (sym (drop-drop (middle - from) from area))
          ∙ sym (take_both (middle - from) (to - middle) (drop from area))
          ∙ ap (λ n. take n (drop from area)) whole;
    }

no_steps : (at : ℕ) (area : List ℕ) → Steps at at area []
no_steps at area = record { rises = omega arith; inside = λ h. h; bytes = ap (λ n. take n (drop at area)) (let e : 0 ≡ at - at = omega arith in e) }

-- the bytes of a field at some places
abbrev pub bytes_from : RowMap → ℕ → ℕ → ℕ → List ℕ
bytes_from rows field place count = values_bytes (column field (map values_of_place (map (get rows) (range_with_len place count))))

-- where each place steps from its offset to the next one, all together do
pub run_steps : (rows : RowMap) (field : ℕ) (offset : ℕ → ℕ) (area : List ℕ) (place count : ℕ)
    → ((p : ℕ) → place ≤ p → p < place + count → Steps (offset p) (offset (suc p)) area (values_bytes (value_at field (values_of_place (get rows p)))))
    → Steps (offset place) (offset (place + count)) area (bytes_from rows field place count)
run_steps rows field offset area place zero each =
    subst (λ n. Steps (offset place) (offset n) area []) (let e : place ≡ place + zero = omega arith in e) (no_steps (offset place) area)
run_steps rows field offset area place (suc count) each =
    let here = each place (omega arith) (omega arith) in
    let rest = run_steps rows field offset area (place + 1) count (λ p least below. each p (omega arith) (omega arith)) in
    let next : offset (place + 1) ≡ offset (suc place) = ap offset (add-one place) in
    let last : place + 1 + count ≡ place + suc count = omega arith in
    let both = both_steps (offset place) (offset (suc place)) (offset (place + suc count)) area (values_bytes (value_at field (values_of_place (get rows place)))) (bytes_from rows field (place + 1) count) here
    (subst (λ n. Steps n (offset (place + suc count)) area (bytes_from rows field (place + 1) count)) next
    (subst (λ n. Steps (offset (place + 1)) (offset n) area (bytes_from rows field (place + 1) count)) last rest)) in
    subst (λ xs. Steps (offset place) (offset (place + suc count)) area xs)
    (sym (flat_map-append value_bytes (value_at field (values_of_place (get rows place))) (column field (map values_of_place (map (get rows) (range_with_len (place + 1) count))))))
    both

-- ---- an offset that is shifted

-- what an element is above its offset, and its offset
record Split (width element : ℕ) : Type 0 where
  high : ℕ
  is : element ≡ high * 2 ^ (width - 1) + offset_in width element
  few : element < 2 ^ width → 1 ≤ width → high ≤ 1

split_of : (width element : ℕ) → Split width element
split_of width element = record {
  high = element / 2 ^ (width - 1);
  is = sym (shr_split element (width - 1));
  few = λ below some. few width below some;
}
  where
    few : (w : ℕ) → element < 2 ^ w → 1 ≤ w → element / 2 ^ (w - 1) ≤ 1
    few zero below some = absurd (omega arith)
    few (suc w) below some =
        let down : suc w - 1 ≡ w = omega arith in
        let double : 2 ^ suc w ≡ 2 ^ w * 2 = pow-suc 2 w in
        let less : element / 2 ^ w < 2 = div_below element (2 ^ w) 2 (pow_pos w) (omega (arith, below, double)) in
        let one : element / 2 ^ w ≤ 1 = omega arith in
        subst (λ n. element / 2 ^ n ≤ 1) (sym down) one

-- the element with its offset less by one number and greater by another
pub record Shifted (width element less more : ℕ) : Type 0 where
  pub offset : offset_in width (element - less + more) ≡ offset_in width element - less + more
  pub null : 2 ^ (width - 1) ≤ element → 2 ^ (width - 1) ≤ element - less + more
  pub some : 2 ^ (width - 1) ≤ element - less + more → 2 ^ (width - 1) ≤ element
  pub least : less ≤ element
  pub below : element - less + more < 2 ^ width

pub shifted : (width element less more : ℕ) → 1 ≤ width → element < 2 ^ width → less ≤ offset_in width element → offset_in width element - less + more < 2 ^ (width - 1) → Shifted width element less more
shifted width element less more some below least fits =
    let parts = split_of width element in
    let is = parts.is in
    let few = parts.few below some in
    let new : element - less + more ≡ parts.high * 2 ^ (width - 1) + (offset_in width element - less + more) = omega arith in
    record {
      offset = ap (λ n. n % 2 ^ (width - 1)) new ∙ mod_low parts.high (width - 1) (offset_in width element - less + more) fits;
      null = λ h. top parts.high (offset_in width element) (offset_in width element - less + more) element (element - less + more) few is new (mod_below element (2 ^ (width - 1)) (pow_pos (width - 1))) h;
      some = λ h. top parts.high (offset_in width element - less + more) (offset_in width element) (element - less + more) element few new is fits h;
      least = omega (arith, is, least);
      below = small width some parts.high few new;
    }
  where
    doubled : (w : ℕ) → 1 ≤ w → 2 ^ w ≡ 2 ^ (w - 1) * 2
    doubled zero one = absurd (omega arith)
    doubled (suc w) one = let down : suc w - 1 ≡ w = omega arith in pow-suc 2 w ∙ ap (λ n. 2 ^ n * 2) (sym down)

    top : (high low low' whole whole' : ℕ) → high ≤ 1 → whole ≡ high * 2 ^ (width - 1) + low → whole' ≡ high * 2 ^ (width - 1) + low' → low < 2 ^ (width - 1) → 2 ^ (width - 1) ≤ whole → 2 ^ (width - 1) ≤ whole'
    top zero low low' whole whole' one is is' small h = absurd (omega arith)
    top (suc zero) low low' whole whole' one is is' small h = omega arith
    top (suc (suc high)) low low' whole whole' one is is' small h = absurd (omega arith)

    small : (w : ℕ) → 1 ≤ w → (high : ℕ) → high ≤ 1 → element - less + more ≡ high * 2 ^ (width - 1) + (offset_in width element - less + more) → element - less + more < 2 ^ width
    small w one zero few new = omega (arith, doubled width some, pow_pos (width - 1), fits, new)
    small w one (suc zero) few new = omega (arith, doubled width some, fits, new)
    small w one (suc (suc high)) few new = absurd (omega arith)

-- ---- the bytes of a part that is shifted

-- what is within bytes that are behind others
pub within_run : (from to start end more : ℕ) (area before : List ℕ) → more ≡ length before → from ≤ start → start ≤ end → end ≤ to → to ≤ length area
    → take (end - from + more - (start - from + more)) (drop (start - from + more) (before ++ take (to - from) (drop from area))) ≡ take (end - start) (drop start area)
within_run from to start end more area before is least rises below inside =
    let count : end - from + more - (start - from + more) ≡ end - start = omega arith in
    let place : start - from + more ≡ length before + (start - from) = omega (arith, is) in
    let split : to - from ≡ (start - from) + (to - start) = omega arith in
    let there : from + (start - from) ≡ start = omega arith in
    ap (λ n. take n (drop (start - from + more) (before ++ take (to - from) (drop from area)))) count
    ∙ ap (λ n. take (end - start) (drop n (before ++ take (to - from) (drop from area)))) place
    ∙ ap (take (end - start)) (behind (start - from) before (take (to - from) (drop from area)))
    ∙ ap (λ n. take (end - start) (drop (start - from) (take n (drop from area)))) split
    ∙ ap (take (end - start)) (drop-take (start - from) (to - start) (drop from area))
    ∙ ap (λ xs. take (end - start) (take (to - start) xs)) (drop-drop (start - from) from area)
    ∙ ap (λ n. take (end - start) (take (to - start) (drop n area))) there
    ∙ take-take (end - start) (to - start) (drop start area) (omega arith)
  where
    behind : (n : ℕ) (xs ys : List ℕ) → drop (length xs + n) (xs ++ ys) ≡ drop n ys
    behind n [] ys = ap (λ m. drop m ys) (let e : 0 + n ≡ n = omega arith in e)
    behind n (x ∷ xs) ys = ap (λ m. drop m (x ∷ (xs ++ ys))) (let e : suc (length xs) + n ≡ suc (length xs + n) = omega arith in e) ∙ behind n xs ys

-- the part of a place of a run, and the one that it becomes
pub same_run : (width element start less more to : ℕ) (area before : List ℕ) → more ≡ length before → Shifted width element less more → less ≤ start → start ≤ offset_in width element → offset_in width element ≤ to → to ≤ length area
    → HaveSameRun (part_of width element start area) (part_of width (element - less + more) (start - less + more) (before ++ take (to - less) (drop less area)))
same_run width element start less more to area before is shift least rises below inside = record {
  null = shift.null;
  some = shift.some;
  span = λ span. (
    record {
      rises = omega (arith, shift.offset, rises, least);
      inside = omega (arith, shift.offset, long, is, rises, least, below);
      empty = λ null. (let was = span.empty (shift.some null) in omega (arith, shift.offset, was));
    },
    ap (λ n. take (n - (start - less + more)) (drop (start - less + more) (before ++ take (to - less) (drop less area)))) shift.offset
        ∙ within_run less to start (offset_in width element) more area before is least rises below inside,
  );
  gap = λ same. ap (λ n. n - less + more) same;
}
  where
    long : length (before ++ take (to - less) (drop less area)) ≡ length before + (to - less)
    long = omega (arith, length-append before (take (to - less) (drop less area)), length-take (to - less) (drop less area), length-drop less area, inside)

-- the part of an earlier place, behind whose bytes others come
pub grown_run : (width element start : ℕ) (area more : List ℕ) → HaveSameRun (part_of width element start area) (part_of width element start (area ++ more))
grown_run width element start area more = record {
  null = λ h. h;
  some = λ h. h;
  span = λ span.
      (let end = offset_in width element in
      let rises = span.rises in
      let inside = span.inside in
      let rest = length-drop start area in (
        record { rises = rises; inside = omega (arith, inside, length-append area more); empty = span.empty },
        ap (take (end - start)) (drop-append-le start area more (omega arith)) ∙ take-append-le (end - start) (drop start area) more (omega arith),
      ));
  gap = λ same. same;
}

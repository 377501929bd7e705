-- Lemmas on sets and maps that are written one behind the other: those before stay what they are.
use Rattle.std.proofs.Common.{◌≡◌, ℕ, zero, suc, ◌+◌, ◌-◌, ◌*◌, ◌^◌, ◌<◌, ◌≤◌, inl, inr, List, [], ◌∷◌, length, map, take, get_or, Option, Some, None, cond, eqb, arith, refl, sym, ap, subst, ◌∙◌}
use Rattle.std.specs.List.{range_with_len}
use Rattle.std.proofs.Math.Nat.{mul-le-mul_right}
use Rattle.std.proofs.lemmas.Bool.{cases_lt}
use Rattle.std.proofs.lemmas.List.{take_all}
use Rattle.std.proofs.lemmas.List.Sums.{sum_by_more, sum_by-take-le}
use Rattle.bit_array.specs.Element.{element_of}
use Rattle.row_model.specs.Row.{Rises, FitsShape}
use Rattle.row_model.specs.declared.row.Row.{Row}
use Rattle.schema_model.specs.declared.schema.Shape.{Shape}
use Rattle.bucket_codec.specs.BucketCount.{bucket_count}
use Rattle.bucket_codec.specs.Run.{Bucket, bucket_in, run_in, keys_of, SpellsRun}
use Rattle.bucket_codec.specs.Filled.{KeepsFront}
use Rattle.bucket_codec.specs.BucketPlace.{pointer_width, size_width, key_width, value_width, place_width, bucket_width, start_at, end_at, size_at, run_at, IsSpan, IsRowOf, IsWidthCount}
use Rattle.bucket_codec.specs.Packed.{set_pair, pairs_of, buckets_of, bucket_total, IsPackableRow, IsWritable, PacksPairs, PacksPlace}

-- ---- what stands before a limit stays

end_stays : (widths old new : List ℕ) (limit place : ℕ) → KeepsFront old new limit → (place + 1) * place_width widths ≤ limit → end_at widths new place ≡ end_at widths old place
end_stays widths old new limit place kept inside = kept.front (place * place_width widths) (pointer_width widths) (omega (arith, inside))

size_stays : (widths old new : List ℕ) (limit place : ℕ) → KeepsFront old new limit → (place + 1) * place_width widths ≤ limit → size_at widths new place ≡ size_at widths old place
size_stays widths old new limit place kept inside = kept.front (place * place_width widths + pointer_width widths) (size_width widths) (omega (arith, inside))

start_stays : (widths old new : List ℕ) (limit place : ℕ) → KeepsFront old new limit → place * place_width widths ≤ limit → start_at widths new place ≡ start_at widths old place
start_stays widths old new limit zero kept inside = refl
start_stays widths old new limit (suc earlier) kept inside = end_stays widths old new limit earlier kept (let one : earlier + 1 ≡ suc earlier = omega arith in subst (λ p. p * place_width widths ≤ limit) (sym one) inside)

bucket_stays : (old new : List ℕ) (k v limit index : ℕ) → KeepsFront old new limit → (index + 1) * (k + v) ≤ limit → bucket_in new k v index ≡ bucket_in old k v index
bucket_stays old new k v limit index kept inside =
    let key_is : element_of new (index * (k + v)) k ≡ element_of old (index * (k + v)) k = kept.front (index * (k + v)) k (omega (arith, inside)) in
    let value_is : element_of new (index * (k + v) + k) v ≡ element_of old (index * (k + v) + k) v = kept.front (index * (k + v) + k) v (omega (arith, inside)) in
    ap (λ x. cond (eqb x (2 ^ k - 1)) None (Some (x, element_of new (index * (k + v) + k) v))) key_is
    ∙ ap (λ y. cond (eqb (element_of old (index * (k + v)) k) (2 ^ k - 1)) None (Some (element_of old (index * (k + v)) k, y))) value_is

same_run : (f g : ℕ → Bucket) (start size : ℕ) → ((index : ℕ) → start ≤ index → index < start + size → g index ≡ f index) → map g (range_with_len start size) ≡ map f (range_with_len start size)
same_run f g start zero same = refl
same_run f g start (suc size) same =
    ap (λ (b : Bucket). b ∷ map g (range_with_len (start + 1) size)) (same start (omega arith) (omega arith))
    ∙ ap (λ (bs : List Bucket). f start ∷ bs) (same_run f g (start + 1) size (λ index from before. same index (omega arith) (omega arith)))

run_stays : (old new : List ℕ) (k v limit start size : ℕ) → KeepsFront old new limit → (start + size) * (k + v) ≤ limit → run_in new k v start size ≡ run_in old k v start size
run_stays old new k v limit start size kept inside = same_run (bucket_in old k v) (bucket_in new k v) start size (λ index above below.
    let up : (index + 1) * (k + v) ≤ (start + size) * (k + v) = mul-le-mul_right (k + v) (let l : index + 1 ≤ start + size = omega arith in l) in
    bucket_stays old new k v limit index kept (omega (arith, up, inside)))

run_at_stays : (widths first second first' second' : List ℕ) (limit bound place total : ℕ) → KeepsFront first first' limit → KeepsFront second second' bound
    → (place + 1) * place_width widths ≤ limit → total * bucket_width widths ≤ bound → IsSpan widths total first second place → run_at widths first' second' place ≡ run_at widths first second place
run_at_stays widths first second first' second' limit bound place total kept kept' inside within span =
    let before : place * place_width widths ≤ limit = omega (arith, inside) in
    let ends = end_stays widths first first' limit place kept inside in
    let starts = start_stays widths first first' limit place kept before in
    let under : end_at widths first place * bucket_width widths ≤ total * bucket_width widths = mul-le-mul_right (bucket_width widths) span.counted in
    let reach : start_at widths first place + (end_at widths first place - start_at widths first place) ≡ end_at widths first place = omega (arith, span.rises) in
    ap (λ s. run_in second' (key_width widths) (value_width widths) s (end_at widths first' place - s)) starts
    ∙ ap (λ e. run_in second' (key_width widths) (value_width widths) (start_at widths first place) (e - start_at widths first place)) ends
    ∙ run_stays second second' (key_width widths) (value_width widths) bound (start_at widths first place) (end_at widths first place - start_at widths first place) kept'
    (subst (λ e. e * bucket_width widths ≤ bound) (sym reach) (omega (arith, under, within)))

-- what a place has stays where the bits before stay, and within more buckets
packs_stay : (widths first second first' second' : List ℕ) (limit bound place total total' : ℕ) (row : Option Row) → KeepsFront first first' limit → KeepsFront second second' bound
    → (place + 1) * place_width widths ≤ limit → total * bucket_width widths ≤ bound → total ≤ total' → PacksPairs widths total first second place row → PacksPairs widths total' first' second' place row
packs_stay widths first second first' second' limit bound place total total' None kept kept' inside within more packs =
    let before : place * place_width widths ≤ limit = omega (arith, inside) in (
      end_stays widths first first' limit place kept inside ∙ packs.0 ∙ sym (start_stays widths first first' limit place kept before),
      size_stays widths first first' limit place kept inside ∙ packs.1,
    )
packs_stay widths first second first' second' limit bound place total total' (Some row) kept kept' inside within more packs =
    let before : place * place_width widths ≤ limit = omega (arith, inside) in
    let ends = end_stays widths first first' limit place kept inside in
    let starts = start_stays widths first first' limit place kept before in
    let sizes = size_stays widths first first' limit place kept inside in
    let span = packs.1.span in
    let run = run_at_stays widths first second first' second' limit bound place total kept kept' inside within span in (
      ends ∙ packs.0 ∙ ap (λ s. s + bucket_count (length (pairs_of row))) (sym starts),
      record {
        span = record {
          rises = omega (arith, span.rises, starts, ends);
          counted = omega (arith, span.counted, ends, more);
          held = subst (λ e. e * bucket_width widths ≤ 64 * length second') (sym ends) (omega (arith, span.held, kept'.long));
        };
        run = subst (λ r. SpellsRun r (pairs_of row)) (sym run) packs.1.run;
        sized = sizes ∙ packs.1.sized;
      },
    )

-- ---- the first places are written

pub record IsBegun (widths : List ℕ) (rows : List (Option Row)) (first0 second0 first second : List ℕ) (index end : ℕ) : Type 0 where
  pub ends : end ≡ bucket_total (take index rows)
  pub starts : start_at widths first index ≡ end
  pub long : length first ≡ length first0
  pub wide : length second ≡ length second0
  pub packs : (place : ℕ) → place < index → PacksPairs widths end first second place (get_or rows place None)

pub begun_more : (widths : List ℕ) (rows : List (Option Row)) (first0 second0 first1 second1 first2 second2 : List ℕ) (index end next : ℕ) (row : Option Row) → index < length rows
    → row ≡ get_or rows index None → IsBegun widths rows first0 second0 first1 second1 index end → next ≡ end + buckets_of row → end_at widths first2 index ≡ next
    → PacksPairs widths next first2 second2 index row → KeepsFront first1 first2 (index * place_width widths) → KeepsFront second1 second2 (end * bucket_width widths)
    → IsBegun widths rows first0 second0 first2 second2 (index + 1) next
begun_more widths rows first0 second0 first1 second1 first2 second2 index end next row below is begun next_is pointer packs kept kept' = record {
  ends =
      let more = sum_by_more buckets_of rows index None below in
      let here : buckets_of row ≡ buckets_of (get_or rows index None) = ap buckets_of is in
      omega (arith, more, here, begun.ends, next_is);
  starts = let one : index + 1 ≡ suc index = omega arith in ap (start_at widths first2) one ∙ pointer;
  long = kept.long ∙ begun.long;
  wide = kept'.long ∙ begun.wide;
  packs = λ place less.
      elim (cases_lt place index) [
        | inl earlier ↦
            packs_stay widths first1 second1 first2 second2 (index * place_width widths) (end * bucket_width widths) place end next (get_or rows place None) kept kept'
            (mul-le-mul_right (place_width widths) (let l : place + 1 ≤ index = omega arith in l)) (omega arith) (omega (arith, next_is)) (begun.packs place earlier)
        | inr later ↦
            let same : index ≡ place = omega arith in
            subst (λ p. PacksPairs widths next first2 second2 p (get_or rows p None)) same (subst (λ r. PacksPairs widths next first2 second2 index r) is packs)
      ];
}

pub begun_all : (widths : List ℕ) (rows : List (Option Row)) (first0 second0 first second : List ℕ) (index end : ℕ) → length rows ≤ index → IsBegun widths rows first0 second0 first second index end
    → end ≡ bucket_total rows
begun_all widths rows first0 second0 first second index end all begun = begun.ends ∙ ap bucket_total (take_all index rows all)

-- the next run ends within all buckets
pub within_total : (rows : List (Option Row)) (index end : ℕ) (row : Option Row) → index < length rows → row ≡ get_or rows index None → end ≡ bucket_total (take index rows)
    → end + buckets_of row ≤ bucket_total rows
within_total rows index end row below is ends =
    let more = sum_by_more buckets_of rows index None below in
    let here : buckets_of row ≡ buckets_of (get_or rows index None) = ap buckets_of is in
    omega (arith, more, here, ends, sum_by-take-le buckets_of rows (index + 1))

-- ---- the row of a place

set_keys : (elements : List ℕ) → keys_of (map set_pair elements) ≡ elements
set_keys [] = refl
set_keys (e ∷ elements) = ap (λ l. e ∷ l) (set_keys elements)

-- what can be packed can be written
pub writable : (shape : Shape) (widths : List ℕ) (count : ℕ) (row : Option Row) → IsWidthCount shape count → IsPackableRow shape widths row → IsWritable widths row
writable shape widths count None counted h = tt
writable (Shape.Set element) widths count (Some (Row.Set ordinals)) counted h = (tt, subst (λ l. Rises l) (sym (set_keys ordinals)) h.0, h.1)
writable (Shape.Map key value) widths count (Some (Row.Map pairs)) counted h = (tt, h.0, h.1)
writable (Shape.Set element) widths count (Some _) counted h = absurd h.0
writable (Shape.Map key value) widths count (Some _) counted h = absurd h.0
writable _ widths count (Some _) counted h = absurd counted

row_is : (shape : Shape) (count : ℕ) (row : Row) → IsWidthCount shape count → FitsShape shape row → IsRowOf shape row (pairs_of row)
row_is (Shape.Set element) count (Row.Set ordinals) counted fits = sym (set_keys ordinals)
row_is (Shape.Map key value) count (Row.Map pairs) counted fits = refl
row_is (Shape.Set element) count _ counted fits = absurd fits
row_is (Shape.Map key value) count _ counted fits = absurd fits
row_is _ count _ counted fits = absurd counted

-- a place that has the pairs of its row spells it
pub packs_place : (shape : Shape) (widths : List ℕ) (count total : ℕ) (first second : List ℕ) (place : ℕ) (row : Option Row) → IsWidthCount shape count → IsPackableRow shape widths row
    → PacksPairs widths total first second place row → PacksPlace shape widths total first second place row
packs_place shape widths count total first second place None counted fits packs = packs
packs_place shape widths count total first second place (Some row) counted fits packs = (packs.0, (pairs_of row, row_is shape count row counted fits.0, packs.1))

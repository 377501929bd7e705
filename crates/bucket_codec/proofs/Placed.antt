-- Lemmas on the rows that are written one after another.
use Rattle.std.proofs.Common.{◌≡◌, ℕ, suc, ◌+◌, ◌*◌, ◌^◌, ◌<◌, ◌≤◌, List, [], ◌∷◌, ◌++◌, length, map, take, get_or, slice_get, All, Option, Some, None, arith, refl, sym, ap, subst, ⊎_elim, ◌∙◌}
use Rattle.std.proofs.Math.Nat.{mul-le-mul_right}
use Rattle.std.proofs.Math.Pow.{pow_mono}
use Rattle.std.proofs.Math.Seq.{take-append_seam}
use Rattle.std.proofs.lemmas.Bool.{cases_lt}
use Rattle.std.proofs.lemmas.List.Elements.{All-get_or, All-weaker}
use Rattle.std.proofs.lemmas.List.Sums.{sum_by_more, sum_by-take-le}
use Rattle.std.proofs.lemmas.Option.{get_or_from_slice_get, slice_get_within}
use Rattle.std.proofs.lemmas.List.{get_or_past, take_all}
use Rattle.bit_array.specs.Element.{words_of}
use Rattle.row_model.specs.Row.{Rises, FitsShape}
use Rattle.schema_model.specs.declared.schema.Shape.{Shape}
use Rattle.row_model.specs.declared.row.Row.{Row}
use Rattle.bucket_codec.specs.BucketCount.{IsBucketCount, bucket_count}
use Rattle.bucket_codec.specs.Run.{run_in, keys_of, HoldsRun, IsPairInRange, IsZeroIfEmpty}
use Rattle.bucket_codec.specs.Filled.{KeepsFront, KeepsBack, IsFilled}
use Rattle.bucket_codec.specs.BucketPlace.{pointer_width, key_width, value_width, place_width, bucket_width, start_at, end_at, size_at, SpellsPairs, IsRowOf, IsWidthCount}
use Rattle.bucket_codec.specs.Packed.{set_pair, pairs_of, buckets_of, bucket_total, IsWritable, IsPackableRow, IsPackable, PacksPairs, PacksPlace, PacksRows, LaysRun, LaysRuns, HasZeros}
use Rattle.bucket_codec.specs.Inserted.{inserted}
use Rattle.bucket_codec.proofs.Rows.{count_power, run_at_is, pairs_spelled, start_stays, packs_stay, lays_stay, zero_kept}
use Rattle.bucket_codec.proofs.Behind.{back_both}

-- a place without a row
pub packs_none : (widths first0 first1 second : List ℕ) (place start total : ℕ) (row : Option Row) → row ≡ None → start_at widths first0 place ≡ start
    → KeepsFront first0 first1 (place * place_width widths) → end_at widths first1 place ≡ start → size_at widths first1 place ≡ 0 → PacksPairs widths total first1 second place row
packs_none widths first0 first1 second place start total None is starts kept ends sized =
    (ends ∙ sym (start_stays widths first0 first1 (place * place_width widths) place kept (omega arith) ∙ starts), sized)
packs_none widths first0 first1 second place start total (Some row) is starts kept ends sized = absurd cc

-- a place with one
pub packs_some : (widths first0 first1 second : List ℕ) (place start size count vw : ℕ) (row : Option Row) (r : Row) → row ≡ Some r → IsWritable widths row → start_at widths first0 place ≡ start
    → KeepsFront first0 first1 (place * place_width widths) → end_at widths first1 place ≡ start + size → size_at widths first1 place ≡ count → count ≡ length (pairs_of r) → size ≡ bucket_count count
    → IsBucketCount count size → count + 1 ≤ size → (start + buckets_of row) * bucket_width widths ≤ 64 * length second → vw ≡ value_width widths
    → IsFilled (run_in second (key_width widths) vw start size) (pairs_of r) → All IsPairInRange (pairs_of r) → PacksPairs widths (start + size) first1 second place row
packs_some widths first0 first1 second place start size count vw None r is writable starts kept ends sized long count_is counted room inside value filled ranges = absurd cc
packs_some widths first0 first1 second place start size count vw (Some q) r is writable starts kept ends sized long count_is counted room inside value filled ranges =
    let same : r ≡ q = let e : q ≡ r = cc in sym e in
    let number : length (pairs_of q) ≡ count = sym (long ∙ ap (λ (x : Row). length (pairs_of x)) same) in
    let buckets : size ≡ bucket_count (length (pairs_of q)) = count_is ∙ ap bucket_count (sym number) in
    let stays : start_at widths first1 place ≡ start = start_stays widths first0 first1 (place * place_width widths) place kept (omega arith) ∙ starts in
    let held : (start + size) * bucket_width widths ≤ 64 * length second = subst (λ n. (start + n) * bucket_width widths ≤ 64 * length second) (sym buckets) inside in
    let full : IsFilled (run_in second (key_width widths) (value_width widths) start size) (pairs_of q) =
    subst (λ (x : Row). IsFilled (run_in second (key_width widths) (value_width widths) start size) (pairs_of x)) same
    (subst (λ v. IsFilled (run_in second (key_width widths) v start size) (pairs_of r)) value filled) in (
      ends ∙ ap (λ s. s + size) (sym stays) ∙ ap (λ n. start_at widths first1 place + n) buckets,
      pairs_spelled widths first1 second place start size (pairs_of q) stays ends (sized ∙ sym number) held (count_power count size counted) (omega (arith, number)) full
          (subst (λ (x : Row). All IsPairInRange (pairs_of x)) same ranges) writable.1,
    )

-- where its run is
pub lays_none : (widths first second : List ℕ) (place : ℕ) (row : Option Row) → row ≡ None → LaysRun widths first second place row
lays_none widths first second place None is = tt
lays_none widths first second place (Some row) is = absurd cc

pub lays_some : (widths first0 first1 second : List ℕ) (place start size count vw : ℕ) (row : Option Row) (r : Row) → row ≡ Some r → start_at widths first0 place ≡ start
    → KeepsFront first0 first1 (place * place_width widths) → end_at widths first1 place ≡ start + size → count ≡ length (pairs_of r) → size ≡ bucket_count count → vw ≡ value_width widths
    → run_in second (key_width widths) vw start size ≡ inserted size (pairs_of r) → LaysRun widths first1 second place row
lays_some widths first0 first1 second place start size count vw None r is starts kept ends long count_is value laid = absurd cc
lays_some widths first0 first1 second place start size count vw (Some q) r is starts kept ends long count_is value laid =
    let same : r ≡ q = let e : q ≡ r = cc in sym e in
    let buckets : size ≡ bucket_count (length (pairs_of q)) = count_is ∙ ap bucket_count (long ∙ ap (λ (x : Row). length (pairs_of x)) same) in
    let stays : start_at widths first1 place ≡ start = start_stays widths first0 first1 (place * place_width widths) place kept (omega arith) ∙ starts in
    run_at_is widths first1 second place start size stays ends
    ∙ ap (λ v. run_in second (key_width widths) v start size) (sym value)
    ∙ laid
    ∙ ap (λ n. inserted n (pairs_of r)) buckets
    ∙ ap (λ (x : Row). inserted (bucket_count (length (pairs_of q))) (pairs_of x)) same

-- each width has at most 64 bits, one that is not there 0
pub narrow_any : (widths : List ℕ) (index : ℕ) → All (λ width. width ≤ 64) widths → get_or widths index 0 ≤ 64
narrow_any widths index all =
    ⊎_elim
    (λ (inside : index < length widths). All-get_or (λ (width : ℕ). width ≤ 64) widths index 0 inside all)
    (λ (past : length widths ≤ index). omega (arith, get_or_past widths index 0 past))
    (cases_lt index (length widths))

-- the run of a row lies within the words
pub row_held : (widths second : List ℕ) (start size count kw vw : ℕ) (row : Option Row) (r : Row) → row ≡ Some r → All (λ width. width ≤ 64) widths → start + buckets_of row < 2 ^ pointer_width widths
    → (start + buckets_of row) * bucket_width widths ≤ 64 * length second → 64 * length second < 2 ^ 64 → count ≡ length (pairs_of r) → size ≡ bucket_count count → kw ≡ key_width widths
    → vw ≡ value_width widths → HoldsRun second kw vw start size
row_held widths second start size count kw vw None r is narrow pointer inside few long count_is key value = absurd cc
row_held widths second start size count kw vw (Some q) r is narrow pointer inside few long count_is key value =
    let same : r ≡ q = let e : q ≡ r = cc in sym e in
    let buckets : size ≡ bucket_count (length (pairs_of q)) = count_is ∙ ap bucket_count (long ∙ ap (λ (x : Row). length (pairs_of x)) same) in
    let small : 2 ^ pointer_width widths ≤ 2 ^ 64 = pow_mono (narrow_any widths 0 narrow) in
    let both : kw + vw ≡ bucket_width widths = omega (arith, key, value) in
    record {
      narrow_key = omega (arith, key, narrow_any widths 2 narrow);
      narrow_value = omega (arith, value, narrow_any widths 3 narrow);
      inside = subst (λ w. (start + size) * w ≤ 64 * length second) (sym both) (subst (λ n. (start + n) * bucket_width widths ≤ 64 * length second) (sym buckets) inside);
      few = few;
      ends = omega (arith, pointer, buckets, small);
    }

-- the rows of the first places are written, and the last run ends here
pub record IsBegun (widths : List ℕ) (rows : List (Option Row)) (first0 second0 first second : List ℕ) (index end : ℕ) : Type 0 where
  pub ends : end ≡ bucket_total (take index rows)
  pub starts : start_at widths first index ≡ end
  pub long : length first ≡ length first0
  pub wide : length second ≡ length second0
  pub packs : (place : ℕ) → place < index → PacksPairs widths end first second place (get_or rows place None)
  pub laid : (place : ℕ) → place < index → LaysRun widths first second place (get_or rows place None)
  pub zeros : (bucket : ℕ) → bucket < end → IsZeroIfEmpty second (key_width widths) (value_width widths) bucket
  pub back : KeepsBack first0 first (index * place_width widths)
  pub wide_back : KeepsBack second0 second (end * bucket_width widths)

pub begun_more : (widths : List ℕ) (rows : List (Option Row)) (first0 second0 first1 second1 first2 second2 : List ℕ) (index end next : ℕ) (row : Option Row) → index < length rows
    → row ≡ get_or rows index None → IsBegun widths rows first0 second0 first1 second1 index end → next ≡ end + buckets_of row → end_at widths first2 index ≡ next
    → PacksPairs widths next first2 second2 index row → LaysRun widths first2 second2 index row → KeepsFront first1 first2 (index * place_width widths) → KeepsFront second1 second2 (end * bucket_width widths)
    → ((bucket : ℕ) → end ≤ bucket → bucket < next → IsZeroIfEmpty second2 (key_width widths) (value_width widths) bucket) → KeepsBack first1 first2 ((index + 1) * place_width widths)
    → KeepsBack second1 second2 (next * bucket_width widths) → IsBegun widths rows first0 second0 first2 second2 (index + 1) next
begun_more widths rows first0 second0 first1 second1 first2 second2 index end next row below is begun next_is pointer packs laid kept kept' zeros back back' = record {
  ends =
      let more = sum_by_more buckets_of rows index None below in
      let here : buckets_of row ≡ buckets_of (get_or rows index None) = ap buckets_of is in
      omega (arith, more, here, begun.ends, next_is);
  starts = let one : index + 1 ≡ suc index = omega arith in ap (start_at widths first2) one ∙ pointer;
  long = kept.long ∙ begun.long;
  wide = kept'.long ∙ begun.wide;
  packs = λ place less. ⊎_elim
      (λ (earlier : place < index).
      packs_stay widths first1 second1 first2 second2 (index * place_width widths) (end * bucket_width widths) place end next (get_or rows place None) kept kept'
      (mul-le-mul_right (place_width widths) (let l : place + 1 ≤ index = omega arith in l)) (omega arith) (omega (arith, next_is)) (begun.packs place earlier))
      (λ (later : index ≤ place).
      let same : index ≡ place = omega arith in
      subst (λ p. PacksPairs widths next first2 second2 p (get_or rows p None)) same (subst (λ r. PacksPairs widths next first2 second2 index r) is packs))
      (cases_lt place index);
  laid = λ place less. ⊎_elim
      (λ (earlier : place < index).
      lays_stay widths first1 second1 first2 second2 (index * place_width widths) (end * bucket_width widths) place end (get_or rows place None) kept kept'
      (mul-le-mul_right (place_width widths) (let l : place + 1 ≤ index = omega arith in l)) (omega arith) (begun.packs place earlier) (begun.laid place earlier))
      (λ (later : index ≤ place).
      let same : index ≡ place = omega arith in
      subst (λ p. LaysRun widths first2 second2 p (get_or rows p None)) same (subst (λ r. LaysRun widths first2 second2 index r) is laid))
      (cases_lt place index);
  zeros = λ bucket less. ⊎_elim
      (λ (earlier : bucket < end).
      zero_kept second1 second2 (key_width widths) (value_width widths) (end * bucket_width widths) bucket kept'
      (mul-le-mul_right (bucket_width widths) (let l : bucket + 1 ≤ end = omega arith in l)) (begun.zeros bucket earlier))
      (λ (later : end ≤ bucket). zeros bucket later less)
      (cases_lt bucket end);
  back =
      let up : index * place_width widths ≤ (index + 1) * place_width widths = mul-le-mul_right (place_width widths) (let l : index ≤ index + 1 = omega arith in l) in
      back_both first0 first1 first2 (index * place_width widths) ((index + 1) * place_width widths) ((index + 1) * place_width widths) begun.back back up (omega arith);
  wide_back =
      let up : end * bucket_width widths ≤ next * bucket_width widths = mul-le-mul_right (bucket_width widths) (let l : end ≤ next = omega (arith, next_is) in l) in
      back_both second0 second1 second2 (end * bucket_width widths) (next * bucket_width widths) (next * bucket_width widths) begun.wide_back back' up (omega arith);
}

-- all rows are written
pub begun_all : (widths : List ℕ) (rows : List (Option Row)) (first0 second0 first second : List ℕ) (index end : ℕ) → length rows ≤ index → IsBegun widths rows first0 second0 first second index end
    → end ≡ bucket_total rows
begun_all widths rows first0 second0 first second index end all begun = begun.ends ∙ ap bucket_total (take_all index rows all)

-- the next run ends within all buckets
pub within_total : (rows : List (Option Row)) (index end : ℕ) (row : Option Row) → index < length rows → row ≡ get_or rows index None → end ≡ bucket_total (take index rows)
    → end + buckets_of row ≤ bucket_total rows
within_total rows index end row below is ends =
    let more = sum_by_more buckets_of rows index None below in
    let here : buckets_of row ≡ buckets_of (get_or rows index None) = ap buckets_of is in
    omega (arith, more, here, ends, sum_by-take-le buckets_of rows (index + 1))

pub buckets_held : (all here width long : ℕ) → here ≤ all → all * width ≤ long → here * width ≤ long
buckets_held all here width long below inside = let up : here * width ≤ all * width = mul-le-mul_right width below in omega arith

-- the keys of a set are its elements
pub set_keys : (elements : List ℕ) → keys_of (map set_pair elements) ≡ elements
set_keys [] = refl
set_keys (e ∷ elements) = ap (λ l. e ∷ l) (set_keys elements)

-- what can be packed can be written
pub writable : (shape : Shape) (widths : List ℕ) (count : ℕ) (row : Option Row) → IsWidthCount shape count → IsPackableRow shape widths row → IsWritable widths row
writable shape widths count None counted h = tt
writable (Shape.Set element) widths count (Some (Row.Set ordinals)) counted h = (tt, subst (λ l. Rises l) (sym (set_keys ordinals)) h.0, h.1)
writable (Shape.Map key value) widths count (Some (Row.Map pairs)) counted h = (tt, h.0, h.1)
writable (Shape.Set element) widths count (Some _) counted h = absurd h.0
writable (Shape.Map key value) widths count (Some _) counted h = absurd h.0
writable _ widths count (Some _) counted h = absurd counted

pub all_writable : (shape : Shape) (widths : List ℕ) (rows : List (Option Row)) → IsPackable shape widths rows → All (λ row. IsWritable widths row) rows
all_writable shape widths rows h = All-weaker (λ row. IsPackableRow shape widths row) (λ row. IsWritable widths row) (λ row fits. writable shape widths (length widths) row h.counted fits) rows h.each

-- the row that is packed is that of the place
row_is : (shape : Shape) (count : ℕ) (row : Row) → IsWidthCount shape count → FitsShape shape row → IsRowOf shape row (pairs_of row)
row_is (Shape.Set element) count (Row.Set ordinals) counted fits = sym (set_keys ordinals)
row_is (Shape.Map key value) count (Row.Map pairs) counted fits = refl
row_is (Shape.Set element) count _ counted fits = absurd fits
row_is (Shape.Map key value) count _ counted fits = absurd fits
row_is _ count _ counted fits = absurd counted

spells_more : (widths : List ℕ) (total total' : ℕ) (first second : List ℕ) (place : ℕ) (pairs : List (ℕ × ℕ)) → total ≤ total' → SpellsPairs widths total first second place pairs
    → SpellsPairs widths total' first second place pairs
spells_more widths total total' first second place pairs more spelled = record {
  span = record { rises = spelled.span.rises; counted = omega (arith, spelled.span.counted, more); held = spelled.span.held };
  run = spelled.run;
  sized = spelled.sized;
}

packs_place : (shape : Shape) (widths : List ℕ) (count total total' : ℕ) (first second : List ℕ) (place : ℕ) (row : Option Row) → IsWidthCount shape count → IsPackableRow shape widths row → total ≤ total'
    → PacksPairs widths total first second place row → PacksPlace shape widths total' first second place row
packs_place shape widths count total total' first second place None counted fits more packs = packs
packs_place shape widths count total total' first second place (Some row) counted fits more packs =
    (packs.0, (pairs_of row, row_is shape count row counted fits.0, spells_more widths total total' first second place (pairs_of row) more packs.1))

-- all rows are packed
pub packs_rows : (shape : Shape) (widths : List ℕ) (rows : List (Option Row)) (first second : List ℕ) → IsPackable shape widths rows
    → ((place : ℕ) → place < length rows → PacksPairs widths (bucket_total rows) first second place (get_or rows place None)) → PacksRows shape widths rows first second
packs_rows shape widths rows first second packable packs place total row at more =
    let below : place < length rows = slice_get_within rows place row at in
    let is : get_or rows place None ≡ row = get_or_from_slice_get rows place row None at in
    let fits : IsPackableRow shape widths row = subst (λ r. IsPackableRow shape widths r) is (All-get_or (λ r. IsPackableRow shape widths r) rows place None below packable.each) in
    packs_place shape widths (length widths) (bucket_total rows) total first second place row packable.counted fits more
    (subst (λ r. PacksPairs widths (bucket_total rows) first second place r) is (packs place below))

-- the same of the lists that the code holds
pub packs_all : (shape : Shape) (widths widths' : List ℕ) (rows : List (Option Row)) (first first' second second' : List ℕ) → IsPackable shape widths rows → widths' ≡ widths
    → first ≡ first' → second ≡ second' → ((place : ℕ) → place < length rows → PacksPairs widths' (bucket_total rows) first' second' place (get_or rows place None))
    → PacksRows shape widths rows first second
packs_all shape widths widths' rows first first' second second' packable same_widths same_first same_second packs =
    let Packs : List ℕ → List ℕ → List ℕ → Type 0 = λ w f s. (place : ℕ) → place < length rows → PacksPairs w (bucket_total rows) f s place (get_or rows place None) in
    packs_rows shape widths rows first second packable
    (subst (λ w. Packs w first second) same_widths
    (subst (λ f. Packs widths' f second) (sym same_first)
    (subst (λ s. Packs widths' first' s) (sym same_second) packs)))

pub lays_all : (widths widths' : List ℕ) (rows : List (Option Row)) (first first' second second' : List ℕ) → widths' ≡ widths → first ≡ first' → second ≡ second'
    → ((place : ℕ) → place < length rows → LaysRun widths' first' second' place (get_or rows place None)) → LaysRuns widths rows first second
lays_all widths widths' rows first first' second second' same_widths same_first same_second laid =
    let Lays : List ℕ → List ℕ → List ℕ → Type 0 = λ w f s. (place : ℕ) → place < length rows → LaysRun w f s place (get_or rows place None) in
    let all : Lays widths first second =
    subst (λ w. Lays w first second) same_widths
    (subst (λ f. Lays widths' f second) (sym same_first)
    (subst (λ s. Lays widths' first' s) (sym same_second) laid)) in
    λ place row at.
    subst (λ r. LaysRun widths first second place r) (get_or_from_slice_get rows place row None at) (all place (slice_get_within rows place row at))

pub zeros_all : (widths widths' : List ℕ) (rows : List (Option Row)) (second second' : List ℕ) → widths' ≡ widths → second ≡ second' → HasZeros widths' rows second' → HasZeros widths rows second
zeros_all widths widths' rows second second' same_widths same_second zeros =
    subst (λ w. HasZeros w rows second) same_widths (subst (λ s. HasZeros widths' rows s) (sym same_second) zeros)

pub words_long : (made old new words : List ℕ) (bits bits' : ℕ) → length made ≡ words_of bits' → old ≡ made → length new ≡ length old → words ≡ new → bits' ≡ bits → length words ≡ words_of bits
words_long made old new words bits bits' long is_old same is bits_are = ap length is ∙ same ∙ ap length is_old ∙ long ∙ ap words_of bits_are

-- the row that is lent of a place is the one there
pub lent_is : (rows : List (Option Row)) (place : ℕ) (row lent : Option Row) → slice_get rows place ≡ Some lent → row ≡ lent → row ≡ get_or rows place None
lent_is rows place row lent there is = is ∙ sym (get_or_from_slice_get rows place lent None there)

-- what holds of all places holds of the row that is lent
pub lent_has : (P : Option Row → Type 0) (rows : List (Option Row)) (place : ℕ) (row lent : Option Row) → All P rows → slice_get rows place ≡ Some lent → row ≡ lent → P row
lent_has P rows place row lent all there is = subst P (sym (lent_is rows place row lent there is)) (All-get_or P rows place None (slice_get_within rows place lent there) all)

-- its buckets are counted
pub total_more : (rows : List (Option Row)) (place total count : ℕ) (row lent : Option Row) → slice_get rows place ≡ Some lent → row ≡ lent → count ≡ buckets_of row → total ≡ bucket_total (take place rows)
    → total + count ≡ bucket_total (take (place + 1) rows)
total_more rows place total count row lent there is counted so_far =
    let more = sum_by_more buckets_of rows place None (slice_get_within rows place lent there) in
    let here = ap buckets_of (lent_is rows place row lent there is) in
    omega (arith, more, here, counted, so_far)

-- a vector whose items are all written over
pub written_over : (new behind : List ℕ) (len : ℕ) → len ≡ length new → take len (new ++ behind) ≡ new
written_over new behind len is = subst (λ n. take n (new ++ behind) ≡ new) (sym is) (take-append_seam new behind)

-- Lemmas on two lists of words that are packed of the same rows: they have the same pointers, sizes and buckets, and so are the same.
use Rattle.std.proofs.Common.{◌≡◌, ℕ, zero, suc, ◌+◌, ◌-◌, ◌*◌, ◌^◌, ◌<◌, ◌≤◌, List, length, take, get_or, eqb, true, false, Option, Some, None, arith, refl, sym, ap, subst, ⊎_elim, ◌∙◌}
use Rattle.std.specs.Prelude.{◌==◌, if◌then◌else◌}
use Rattle.std.proofs.lemmas.Bool.{cases_lt, cases_Bool, eqb-true}
use Rattle.std.proofs.lemmas.List.{length-map, take_all}
use Rattle.std.proofs.lemmas.List.Sums.{sum_by_more}
use Rattle.std.proofs.lemmas.Option.{slice_get-get_or, none-some, some_pair_parts}
use Rattle.bit_array.specs.Element.{number_of, element_of, AreWords}
use Rattle.schema_model.specs.declared.schema.Shape.{Shape}
use Rattle.row_model.specs.declared.row.Row.{Row}
use Rattle.bucket_codec.specs.BucketCount.{bucket_count}
use Rattle.bucket_codec.specs.Run.{Bucket, bucket_at, bucket_in, value_in, run_in, IsZeroIfEmpty}
use Rattle.bucket_codec.specs.BucketPlace.{pointer_width, size_width, key_width, value_width, place_width, bucket_width, start_at, end_at, size_at, IsRowOf}
use Rattle.bucket_codec.specs.Packed.{set_pair, pairs_of, buckets_of, bucket_total, PacksPlace, PacksRows, LaysRun, IsPacked}
use Rattle.bucket_codec.proofs.RunBuckets.{bucket_of_run, if_true, if_false}
use Rattle.bucket_codec.proofs.Rows.{run_at_is}
use Rattle.bit_array.proofs.SameWords.{same_both, same_number, same_words}

-- how many pairs the row of a place has, if it has one
abbrev count_of : Option Row → ℕ
count_of None = 0
count_of (Some row) = length (pairs_of row)

row_counted : (shape : Shape) (row : Row) (pairs : List (ℕ × ℕ)) → IsRowOf shape row pairs → length pairs ≡ length (pairs_of row)
row_counted (Shape.Set element) (Row.Set ordinals) pairs is = sym (length-map pairs (λ pair. pair.0)) ∙ ap length (sym is) ∙ sym (length-map ordinals set_pair)
row_counted (Shape.Map key value) (Row.Map entries) pairs is = ap length (sym is)
row_counted _ _ pairs is = absurd is

-- the pointer and the size of a place
end_is : (shape : Shape) (widths : List ℕ) (total : ℕ) (first second : List ℕ) (place : ℕ) (row : Option Row) → PacksPlace shape widths total first second place row
    → end_at widths first place ≡ start_at widths first place + buckets_of row
end_is shape widths total first second place None packs = omega (arith, packs.0)
end_is shape widths total first second place (Some row) packs = packs.0

size_is : (shape : Shape) (widths : List ℕ) (total : ℕ) (first second : List ℕ) (place : ℕ) (row : Option Row) → PacksPlace shape widths total first second place row
    → size_at widths first place ≡ count_of row
size_is shape widths total first second place None packs = packs.1
size_is shape widths total first second place (Some row) packs = packs.1.2.sized ∙ row_counted shape row packs.1.0 packs.1.1

-- what a place has of its row
at_place : (shape : Shape) (widths : List ℕ) (rows : List (Option Row)) (first second : List ℕ) (place : ℕ) → PacksRows shape widths rows first second → place < length rows
    → PacksPlace shape widths (bucket_total rows) first second place (get_or rows place None)
at_place shape widths rows first second place packs below = packs place (bucket_total rows) (get_or rows place None) (slice_get-get_or rows place None below) (omega arith)

-- the run of a place starts behind those of all rows before
start_is : (shape : Shape) (widths : List ℕ) (rows : List (Option Row)) (first second : List ℕ) (place : ℕ) → PacksRows shape widths rows first second → place ≤ length rows
    → start_at widths first place ≡ bucket_total (take place rows)
start_is shape widths rows first second zero packs below = refl
start_is shape widths rows first second (suc place) packs below =
    let here = end_is shape widths (bucket_total rows) first second place (get_or rows place None) (at_place shape widths rows first second place packs (omega arith)) in
    let before = start_is shape widths rows first second place packs (omega arith) in
    let one : place + 1 ≡ suc place = omega arith in
    here
    ∙ ap (λ n. n + buckets_of (get_or rows place None)) before
    ∙ sym (sum_by_more buckets_of rows place None (omega arith))
    ∙ ap (λ n. bucket_total (take n rows)) one

-- two packings have the same pointers and sizes
same_places : (shape : Shape) (widths : List ℕ) (rows : List (Option Row)) (first second first' second' : List ℕ) (place : ℕ) → PacksRows shape widths rows first second
    → PacksRows shape widths rows first' second' → place < length rows
    → element_of first (place * place_width widths) (place_width widths) ≡ element_of first' (place * place_width widths) (place_width widths)
same_places shape widths rows first second first' second' place packs packs' below =
    let ends : end_at widths first place ≡ end_at widths first' place =
    start_is shape widths rows first second (suc place) packs (omega arith) ∙ sym (start_is shape widths rows first' second' (suc place) packs' (omega arith)) in
    let sizes : size_at widths first place ≡ size_at widths first' place =
    size_is shape widths (bucket_total rows) first second place (get_or rows place None) (at_place shape widths rows first second place packs below)
    ∙ sym (size_is shape widths (bucket_total rows) first' second' place (get_or rows place None) (at_place shape widths rows first' second' place packs' below)) in
    same_both first first' (place * place_width widths) (pointer_width widths) (size_width widths) ends sizes

-- and the same buckets in the run of a place
same_in_run : (widths first second first' second' : List ℕ) (place start index : ℕ) (row : Option Row) → LaysRun widths first second place row → LaysRun widths first' second' place row
    → start_at widths first place ≡ start → start_at widths first' place ≡ start → end_at widths first place ≡ start + buckets_of row → end_at widths first' place ≡ start + buckets_of row
    → start ≤ index → index < start + buckets_of row → bucket_in second (key_width widths) (value_width widths) index ≡ bucket_in second' (key_width widths) (value_width widths) index
same_in_run widths first second first' second' place start index None laid laid' starts starts' ends ends' above below = absurd (omega (arith, above, below))
same_in_run widths first second first' second' place start index (Some row) laid laid' starts starts' ends ends' above below =
    let size = bucket_count (length (pairs_of row)) in
    let k = key_width widths in
    let v = value_width widths in
    let runs : run_in second k v start size ≡ run_in second' k v start size =
    sym (run_at_is widths first second place start size starts ends) ∙ laid ∙ sym laid' ∙ run_at_is widths first' second' place start size starts' ends' in
    let at : start + (index - start) ≡ index = omega (arith, above) in
    let inside : index - start < size = omega (arith, above, below) in
    ap (bucket_in second k v) (sym at)
    ∙ sym (bucket_of_run second k v start size (index - start) inside)
    ∙ ap (λ run. bucket_at run (index - start)) runs
    ∙ bucket_of_run second' k v start size (index - start) inside
    ∙ ap (bucket_in second' k v) at

-- and in those of the first rows
same_buckets : (shape : Shape) (widths : List ℕ) (rows : List (Option Row)) (first second first' second' : List ℕ) (count index : ℕ) → IsPacked shape widths rows first second
    → IsPacked shape widths rows first' second' → count ≤ length rows → index < bucket_total (take count rows)
    → bucket_in second (key_width widths) (value_width widths) index ≡ bucket_in second' (key_width widths) (value_width widths) index
same_buckets shape widths rows first second first' second' zero index packed packed' below less = absurd (omega (arith, less))
same_buckets shape widths rows first second first' second' (suc place) index packed packed' below less =
    ⊎_elim
    (λ (earlier : index < bucket_total (take place rows)). same_buckets shape widths rows first second first' second' place index packed packed' (omega arith) earlier)
    (λ (later : bucket_total (take place rows) ≤ index).
    let row = get_or rows place None in
    let at = slice_get-get_or rows place None (let l : place < length rows = omega arith in l) in
    let starts = start_is shape widths rows first second place packed.packs (omega arith) in
    let starts' = start_is shape widths rows first' second' place packed'.packs (omega arith) in
    let ends = end_is shape widths (bucket_total rows) first second place row (at_place shape widths rows first second place packed.packs (omega arith)) in
    let ends' = end_is shape widths (bucket_total rows) first' second' place row (at_place shape widths rows first' second' place packed'.packs (omega arith)) in
    let one : suc place ≡ place + 1 = omega arith in
    let more : bucket_total (take (suc place) rows) ≡ bucket_total (take place rows) + buckets_of row =
    ap (λ n. bucket_total (take n rows)) one ∙ sum_by_more buckets_of rows place None (omega arith) in
    same_in_run widths first second first' second' place (bucket_total (take place rows)) index row (packed.laid place row at) (packed'.laid place row at) starts starts'
    (ends ∙ ap (λ n. n + buckets_of row) starts) (ends' ∙ ap (λ n. n + buckets_of row) starts') later (omega (arith, less, more)))
    (cases_lt index (bucket_total (take place rows)))

-- a bucket by the elements of its key and its value
abbrev bucket_of : ℕ → ℕ → ℕ → Bucket
bucket_of ones key value = if key == ones then None else Some (key, value)

-- buckets that are the same have the same elements, where an empty one has the value 0
same_elements : (ones key value key' value' : ℕ) → bucket_of ones key value ≡ bucket_of ones key' value' → (bucket_of ones key value ≡ None → value ≡ 0)
    → (bucket_of ones key' value' ≡ None → value' ≡ 0) → (key ≡ key') × (value ≡ value')
same_elements ones key value key' value' same zeros zeros' =
    ⊎_elim
    (λ (is : eqb key ones ≡ true).
    let none : bucket_of ones key value ≡ None = if_true (eqb key ones) None (Some (key, value)) is in
    let none' : bucket_of ones key' value' ≡ None = sym same ∙ none in
    ⊎_elim
    (λ (is' : eqb key' ones ≡ true). (eqb-true key ones is ∙ sym (eqb-true key' ones is'), zeros none ∙ sym (zeros' none')))
    (λ (other : eqb key' ones ≡ false).
    absurd (none-some (key', value') (sym none' ∙ if_false (eqb key' ones) None (Some (key', value')) other)))
    (cases_Bool (eqb key' ones)))
    (λ (other : eqb key ones ≡ false).
    let some : bucket_of ones key value ≡ Some (key, value) = if_false (eqb key ones) None (Some (key, value)) other in
    ⊎_elim
    (λ (is' : eqb key' ones ≡ true).
    let none' : bucket_of ones key' value' ≡ None = if_true (eqb key' ones) None (Some (key', value')) is' in
    absurd (none-some (key, value) (sym none' ∙ sym same ∙ some)))
    (λ (other' : eqb key' ones ≡ false).
    let some' : bucket_of ones key' value' ≡ Some (key', value') = if_false (eqb key' ones) None (Some (key', value')) other' in
    some_pair_parts key key' value value' (sym some ∙ same ∙ some'))
    (cases_Bool (eqb key' ones)))
    (cases_Bool (eqb key ones))

same_bits : (a b : List ℕ) (k v index : ℕ) → bucket_in a k v index ≡ bucket_in b k v index → IsZeroIfEmpty a k v index → IsZeroIfEmpty b k v index
    → element_of a (index * (k + v)) (k + v) ≡ element_of b (index * (k + v)) (k + v)
same_bits a b k v index same zeros zeros' =
    let both = same_elements (2 ^ k - 1) (element_of a (index * (k + v)) k) (value_in a k v index) (element_of b (index * (k + v)) k) (value_in b k v index) same zeros zeros' in
    same_both a b (index * (k + v)) k v both.0 both.1

-- the words of rows are determined
pub packed_once : (shape : Shape) (widths : List ℕ) (rows : List (Option Row)) (first second first' second' : List ℕ) → AreWords first → AreWords second → AreWords first' → AreWords second'
    → IsPacked shape widths rows first second → IsPacked shape widths rows first' second' → (first ≡ first') × (second ≡ second')
packed_once shape widths rows first second first' second' words words2 words' words2' packed packed' =
    let places : number_of first ≡ number_of first' =
    same_number first first' (place_width widths) (length rows) packed.first_bits.below packed'.first_bits.below
    (λ place below. same_places shape widths rows first second first' second' place packed.packs packed'.packs below) in
    let whole : take (length rows) rows ≡ rows = take_all (length rows) rows (omega arith) in
    let buckets : number_of second ≡ number_of second' =
    same_number second second' (bucket_width widths) (bucket_total rows) packed.second_bits.below packed'.second_bits.below
    (λ index below. same_bits second second' (key_width widths) (value_width widths) index
    (same_buckets shape widths rows first second first' second' (length rows) index packed packed' (omega arith) (subst (λ r. index < bucket_total r) (sym whole) below))
    (packed.zeros index below) (packed'.zeros index below)) in (
      same_words first first' (packed.first_bits.long ∙ sym packed'.first_bits.long) words words' places,
      same_words second second' (packed.second_bits.long ∙ sym packed'.second_bits.long) words2 words2' buckets,
    )

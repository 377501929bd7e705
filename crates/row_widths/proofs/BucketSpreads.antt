-- Lemmas on the buckets, the sizes, the keys and the values of rows as they are gathered.
use Rattle.std.proofs.Common.{◌≡◌, ℕ, ◌+◌, ◌-◌, ◌^◌, ◌≤◌, List, [], ◌∷◌, ◌++◌, length, Option, Some, None, max, min, arith, refl, sym, ap, subst, ◌∙◌}
use Rattle.std.specs.Prelude.{fold, map, option_map, unwrap_or}
use Rattle.std.specs.List.{reduce}
use Rattle.std.proofs.lemmas.List.Sums.{fold-append, sum_by-cons}
use Rattle.row_model.specs.declared.row.Row.{Row}
use Rattle.row_model.specs.declared.lent.LentRow.{LentRow}
use Rattle.row_model.specs.Lent.{lent_row}
use Rattle.row_widths.specs.Walk.{Takes}
use Rattle.bucket_codec.specs.BucketCount.{bucket_count}
use Rattle.bucket_codec.specs.Run.{keys_of}
use Rattle.bucket_codec.specs.Packed.{set_pair, pairs_of}
use Rattle.bucket_codec.specs.Widths.{sizes_of, buckets_of_rows, keys_of_rows, values_of, values_of_rows}
use Rattle.row_widths.specs.BucketSpread.{IsSpread}

-- the greatest of a number that is seen and of others
pub greatest_from : (seen : ℕ) (numbers : List ℕ) → fold max seen numbers ≡ max seen (fold max 0 numbers)
greatest_from seen [] = omega arith
greatest_from seen (number ∷ rest) =
    let here = greatest_from (max seen number) rest in
    let there = greatest_from (max 0 number) rest in
    omega arith

-- the greatest of two lists
pub greatest-append : (xs ys : List ℕ) → fold max 0 (xs ++ ys) ≡ max (fold max 0 xs) (fold max 0 ys)
greatest-append xs ys = fold-append max 0 xs ys ∙ greatest_from (fold max 0 xs) ys

-- the greatest, where it is picked as the code picks it
pub greatest_picked : (numbers : List ℕ) (found : Option ℕ) → option_map (λ number. number) found ≡ reduce max numbers → unwrap_or found 0 ≡ fold max 0 numbers
greatest_picked [] None picked = refl
greatest_picked [] (Some number) picked = absurd cc
greatest_picked (number ∷ rest) None picked = absurd cc
greatest_picked (number ∷ rest) (Some found) picked =
    let is : found ≡ fold max number rest = cc in
    let same : number ≡ max 0 number = omega arith in
    is ∙ ap (λ seen. fold max seen rest) same

-- the values of the elements of a set are 0
zeros : (elements : List ℕ) → 0 ≡ fold max 0 (values_of (map set_pair elements))
zeros [] = refl
zeros (element ∷ rest) = let none : max 0 0 ≡ 0 = refl in zeros rest ∙ ap (λ seen. fold max seen (values_of (map set_pair rest))) (sym none)

-- the values of a row that is no map are 0
pub no_values : (row : Row) → ((pairs : List (ℕ × ℕ)) → row ≡ Row.Map pairs → ⊥) → 0 ≡ fold max 0 (values_of (pairs_of row))
no_values (Row.Set ordinals) other = zeros ordinals
no_values (Row.Map pairs) other = absurd (other pairs refl)
no_values (Row.List ordinals) other = refl
no_values (Row.Object values) other = refl

-- the rows that are seen, and those that are left, are all
pub record IsGathered (all left : List Row) (buckets size key value : ℕ) : Type 0 where
  pub counted : min (buckets + buckets_of_rows left) (2 ^ 128 - 1) ≡ min (buckets_of_rows all) (2 ^ 128 - 1)
  pub fits : buckets ≤ 2 ^ 128 - 1
  pub sizes : max size (fold max 0 (sizes_of left)) ≡ fold max 0 (sizes_of all)
  pub keys : max key (fold max 0 (keys_of_rows left)) ≡ fold max 0 (keys_of_rows all)
  pub values : max value (fold max 0 (values_of_rows left)) ≡ fold max 0 (values_of_rows all)

pub gathered_more : (all left rest : List Row) (taken : Option LentRow) (lent : LentRow) (row : Row) (buckets size key value buckets' size' key' value' : ℕ) → IsGathered all left buckets size key value
    → Takes left (option_map lent_row taken) rest → taken ≡ Some lent → row ≡ lent_row lent → buckets' ≡ min (buckets + bucket_count (length (pairs_of row))) (2 ^ 128 - 1) → size' ≡ max size (length (pairs_of row))
    → key' ≡ max key (fold max 0 (keys_of (pairs_of row))) → value' ≡ max value (fold max 0 (values_of (pairs_of row))) → IsGathered all rest buckets' size' key' value'
gathered_more all left rest taken lent row buckets size key value buckets' size' key' value' done takes found lends counted sized keyed valued =
    let is : left ≡ row ∷ rest = subst (λ (t : Option Row). Takes left t rest) (ap (option_map lent_row) found ∙ ap Some (sym lends)) takes in
    let count : buckets_of_rows left ≡ bucket_count (length (pairs_of row)) + buckets_of_rows rest =
    ap buckets_of_rows is ∙ sum_by-cons bucket_count (length (pairs_of row)) (sizes_of rest) in
    let sizes : fold max 0 (sizes_of left) ≡ max (length (pairs_of row)) (fold max 0 (sizes_of rest)) =
    ap (λ (rows : List Row). fold max 0 (sizes_of rows)) is ∙ greatest-append (length (pairs_of row) ∷ []) (sizes_of rest) ∙ omega arith in
    let keys = ap (λ (rows : List Row). fold max 0 (keys_of_rows rows)) is ∙ greatest-append (keys_of (pairs_of row)) (keys_of_rows rest) in
    let values = ap (λ (rows : List Row). fold max 0 (values_of_rows rows)) is ∙ greatest-append (values_of (pairs_of row)) (values_of_rows rest) in
    let before_count = done.counted in
    let before_sizes = done.sizes in
    let before_keys = done.keys in
    let before_values = done.values in
    record { counted = omega arith; fits = omega arith; sizes = omega arith; keys = omega arith; values = omega arith }

pub gathered_all : (all left rest : List Row) (taken : Option Row) (buckets size key value : ℕ) → IsGathered all left buckets size key value → Takes left taken rest → taken ≡ None
    → IsSpread all buckets size key value
gathered_all all left rest taken buckets size key value done takes ended =
    let none : left ≡ [] = subst (λ (t : Option Row). Takes left t rest) ended takes in
    let count : buckets_of_rows left ≡ 0 = ap buckets_of_rows none in
    let sizes : fold max 0 (sizes_of left) ≡ 0 = ap (λ (rows : List Row). fold max 0 (sizes_of rows)) none in
    let keys : fold max 0 (keys_of_rows left) ≡ 0 = ap (λ (rows : List Row). fold max 0 (keys_of_rows rows)) none in
    let values : fold max 0 (values_of_rows left) ≡ 0 = ap (λ (rows : List Row). fold max 0 (values_of_rows rows)) none in
    let fits = done.fits in
    let before_count = done.counted in
    let before_sizes = done.sizes in
    let before_keys = done.keys in
    let before_values = done.values in
    record { buckets_are = omega arith; size_is = omega arith; key_is = omega arith; value_is = omega arith }

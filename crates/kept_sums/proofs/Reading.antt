-- Widths, read off the sums of the parts.
use Rattle.std.proofs.Common.{◌≡◌, ◌∙◌, ◌+◌, ◌^◌, ◌<◌, ◌⊎◌, ◌++◌, ℕ, List, [], ◌∷◌, Option, get_or, max, min, length, sum_by, fold, flat_map, inl, inr, sym, ap, subst, arith}
use Rattle.std.proofs.lemmas.List.Concat.{length-flat_map}
use Rattle.bit_array.specs.Digits.{digit_count}
use Rattle.schema_model.specs.declared.schema.name.Name.{Name}
use Rattle.schema_model.specs.declared.schema.Field.{Field}
use Rattle.schema_model.specs.declared.schema.Shape.{Shape}
use Rattle.row_model.specs.declared.row.Row.{Row}
use Rattle.object_codec.specs.Stored.{column}
use Rattle.object_codec.specs.Widths.{byte_count, most_bits, records_of, widths_for as object_widths}
use Rattle.list_codec.specs.Widths.{elements_of_row, greatest, widths_for as list_widths}
use Rattle.bucket_codec.specs.Widths.{buckets_of_rows, keys_of_rows, set_widths, sizes_of, values_of_rows, width_for}
use Rattle.row_widths.proofs.RecordSpreads.{column_bytes_le}
use Rattle.row_packing.specs.Chosen.{chosen_widths}
use Rattle.row_packing.proofs.BucketPlaces.{buckets_sum}
use Rattle.kept_sums.specs.Sums.{AreFew, ArePartsOf, AreSumsOf, HasBuckets, PartSums, TypeSums, bits_at, bytes_at, bytes_in, items_in, most_by, one_if, part_count, part_of}
use Rattle.kept_sums.proofs.Most.{most_is}
use Rattle.kept_sums.proofs.Parts.{bytes_together, column_bytes, column_most, keys_most, list_most, sizes_most, values_most}

-- a number is the last place of a counter above 0
pub record IsLast (counts : List ℕ) (most : ℕ) : Type 0 where
  pub none : (n : ℕ) → most < n → get_or counts n 0 ≡ 0
  pub some : (most ≡ 0) ⊎ (0 < get_or counts most 0)

module _ (shape : Shape) (rows : List Row) (parts : List PartSums) (are : ArePartsOf shape rows parts) (part : ℕ) (inside : part < part_count shape) where
  pub most_read : (read : PartSums) (most : ℕ) → read ≡ part_of parts part → IsLast read.counts most → most ≡ most_by (bits_at shape part) rows
  most_read read most is last =
      most_is (bits_at shape part) most rows (λ k more. sym (are.counts part k inside) ∙ ap (λ (p : PartSums). get_or p.counts k 0) (sym is) ∙ last.none k more) (below last.some)
    where
      below : (most ≡ 0) ⊎ (0 < get_or read.counts most 0) → (most ≡ 0) ⊎ (0 < sum_by (λ row. one_if (bits_at shape part row) most) rows)
      below (inl zero) = inl zero
      below (inr some) = inr (let same = ap (λ (p : PartSums). get_or p.counts most 0) is ∙ are.counts part most inside in omega (arith, some, same))

-- ---- records

module _ (key : Option (List Name)) (fields : List Field) (rows : List Row) (parts : List PartSums) (are : ArePartsOf (Shape.Object key fields) rows parts) (few : sum_by bytes_in rows < 2 ^ 62) (index : ℕ) (inside : index < length fields)
    (read : PartSums) (is : read ≡ part_of parts index) where
  pub field_most : (most : ℕ) → IsLast read.counts most → most ≡ most_bits (column index (records_of rows))
  field_most most last = most_read (Shape.Object key fields) rows parts are index inside read most is last ∙ sym (column_most index rows)

  pub field_bytes : (bytes : ℕ) → (read.bytes < 2 ^ 62 → bytes ≡ read.bytes) → bytes ≡ byte_count (column index (records_of rows))
  field_bytes bytes whole =
      let low = column_bytes_le index rows in
      let all = bytes_together rows in
      let sum = column_bytes index rows in
      let here : read.bytes ≡ sum_by (bytes_at index) rows = ap (λ (p : PartSums). p.bytes) is ∙ are.bytes index inside in
      whole (omega (arith, low, all, sum, here, few)) ∙ here ∙ sym sum

-- ---- lists, sets and maps

pub two_widths : (none one two : List ℕ) (a b first second : ℕ) → none ≡ [] → one ≡ none ++ a ∷ [] → two ≡ one ++ b ∷ [] → a ≡ first → b ≡ second → two ≡ first ∷ second ∷ []
two_widths none one two a b first second start push more is also =
    more ∙ ap (λ (ws : List ℕ). ws ++ b ∷ []) (push ∙ ap (λ (ws : List ℕ). ws ++ a ∷ []) start) ∙ ap (λ n. n ∷ b ∷ []) is ∙ ap (λ n. first ∷ n ∷ []) also

pub three_widths : (none one two three : List ℕ) (a b e first second third : ℕ) → none ≡ [] → one ≡ none ++ a ∷ [] → two ≡ one ++ b ∷ [] → three ≡ two ++ e ∷ [] → a ≡ first → b ≡ second → e ≡ third → three ≡ first ∷ second ∷ third ∷ []
three_widths none one two three a b e first second third start push more last is also then_is =
    last ∙ ap (λ (ws : List ℕ). ws ++ e ∷ []) (two_widths none one two a b first second start push more is also) ∙ ap (λ n. first ∷ second ∷ n ∷ []) then_is

pub has_two : (shape : Shape) → HasBuckets shape → 1 < part_count shape
has_two (Shape.Object key fields) has = absurd has
has_two (Shape.List element) has = absurd has
has_two (Shape.Set element) has = omega arith
has_two (Shape.Map key value) has = omega arith

pub element_width : (element : Name) (rows : List Row) (width : ℕ) → width ≡ max 1 (most_by (bits_at (Shape.List element) 0) rows) → width ≡ max 1 (digit_count (greatest (flat_map elements_of_row rows)))
element_width element rows width is = let most = list_most rows in omega (arith, is, most)

pub size_width : (shape : Shape) (rows : List Row) (width : ℕ) → HasBuckets shape → width ≡ max 1 (most_by (bits_at shape 0) rows) → width ≡ max 1 (digit_count (fold max 0 (sizes_of rows)))
size_width (Shape.Object key fields) rows width has is = absurd has
size_width (Shape.List element) rows width has is = absurd has
size_width (Shape.Set element) rows width has is = let most = sizes_most rows in omega (arith, is, most)
size_width (Shape.Map key value) rows width has is = let most = sizes_most rows in omega (arith, is, most)

pub key_width : (shape : Shape) (rows : List Row) (width : ℕ) → HasBuckets shape → width ≡ max 1 (most_by (bits_at shape 1) rows) → width ≡ digit_count (fold max 0 (keys_of_rows rows) + 1)
key_width (Shape.Object key fields) rows width has is = absurd has
key_width (Shape.List element) rows width has is = absurd has
key_width (Shape.Set element) rows width has is = let most = keys_most rows in omega (arith, is, most)
key_width (Shape.Map key value) rows width has is = let most = keys_most rows in omega (arith, is, most)

pub value_width : (key value : Name) (rows : List Row) (width : ℕ) → width ≡ max 1 (most_by (bits_at (Shape.Map key value) 2) rows) → width ≡ max 1 (digit_count (fold max 0 (values_of_rows rows)))
value_width key value rows width is = let most = values_most rows in omega (arith, is, most)

-- ---- all widths

module _ (shape : Shape) (sums : TypeSums) (rows : List Row) (are : AreSumsOf shape rows sums) (few : AreFew shape rows) (parts : List PartSums) (same_parts : parts ≡ sums.parts) where
  parts_of : (kind : Shape) → shape ≡ kind → ArePartsOf kind rows parts
  parts_of kind is = subst (λ (s : Shape). ArePartsOf s rows parts) is (subst (ArePartsOf shape rows) (sym same_parts) are.parts)

  chosen_of : (kind : Shape) (widths : List ℕ) → shape ≡ kind → widths ≡ chosen_widths kind rows → widths ≡ chosen_widths shape rows
  chosen_of kind widths is read = read ∙ ap (λ (s : Shape). chosen_widths s rows) (sym is)

  items_of : (kind : Shape) (items : ℕ) → shape ≡ kind → items ≡ min sums.items (2 ^ 62) → items ≡ sum_by (items_in kind) rows
  items_of kind items is least =
      let all = are.items in
      let low = few.items in
      let same = ap (λ (s : Shape). sum_by (items_in s) rows) is in
      omega (arith, least, all, low, same)

  pub record_read : (key : Option (List Name)) (fields listed : List Field) (widths : List ℕ) → shape ≡ Shape.Object key fields → listed ≡ fields
      → ((key : Option (List Name)) (rows : List Row) → ArePartsOf (Shape.Object key listed) rows parts → sum_by bytes_in rows < 2 ^ 62 → widths ≡ object_widths listed rows) → widths ≡ chosen_widths shape rows
  record_read key fields listed widths is same read =
      let kind = is ∙ ap (Shape.Object key) (sym same) in
      chosen_of (Shape.Object key listed) widths kind (read key rows (parts_of (Shape.Object key listed) kind) few.bytes)

  pub list_read : (element : Name) (items : ℕ) (widths : List ℕ) → shape ≡ Shape.List element → items ≡ min sums.items (2 ^ 62)
      → ((element : Name) (rows : List Row) → ArePartsOf (Shape.List element) rows parts → items ≡ length (flat_map elements_of_row rows) → widths ≡ list_widths (flat_map elements_of_row rows)) → widths ≡ chosen_widths shape rows
  list_read element items widths is least read =
      let all = length-flat_map elements_of_row rows in
      let count = items_of (Shape.List element) items is least in
      chosen_of (Shape.List element) widths is (read element rows (parts_of (Shape.List element) is) (omega (arith, count, all)))

  pub set_read : (element : Name) (items : ℕ) (widths : List ℕ) → shape ≡ Shape.Set element → items ≡ min sums.items (2 ^ 62)
      → ((kind : Shape) (rows : List Row) → HasBuckets kind → ArePartsOf kind rows parts → items ≡ buckets_of_rows rows → widths ≡ set_widths rows) → widths ≡ chosen_widths shape rows
  set_read element items widths is least read =
      let all = buckets_sum rows in
      let count = items_of (Shape.Set element) items is least in
      chosen_of (Shape.Set element) widths is (read (Shape.Set element) rows tt (parts_of (Shape.Set element) is) (omega (arith, count, all)))

  pub map_read : (key value : Name) (items : ℕ) (widths : List ℕ) → shape ≡ Shape.Map key value → items ≡ min sums.items (2 ^ 62)
      → ((key value : Name) (rows : List Row) → ArePartsOf (Shape.Map key value) rows parts → items ≡ buckets_of_rows rows → widths ≡ set_widths rows ++ width_for (fold max 0 (values_of_rows rows)) ∷ []) → widths ≡ chosen_widths shape rows
  map_read key value items widths is least read =
      let all = buckets_sum rows in
      let count = items_of (Shape.Map key value) items is least in
      chosen_of (Shape.Map key value) widths is (read key value rows (parts_of (Shape.Map key value) is) (omega (arith, count, all)))

-- Lists, sets and maps where they stand: how many items they have, and what the test of their places may lack.
use Rattle.std.specs.Prelude.{◌≡◌, ◌<◌, ◌-◌, ℕ, slice_index}
use Rattle.schema_model.specs.declared.schema.Shape.{Shape}
use Rattle.list_codec.specs.ListPlace as lists
use Rattle.list_codec.specs.declared.list_rows.ListRows.{ListRows}
use Rattle.bucket_codec.specs.BucketCount.{bucket_count}
use Rattle.bucket_codec.specs.BucketPlace as buckets
use Rattle.bucket_codec.specs.declared.bucket_rows.BucketRows.{BucketRows}
use Rattle.type_rows.specs.declared.section.Section.{Section}

-- The items of the row at a place: the elements of a list, and the buckets that the writer makes for the elements of a set or map.
abbrev pub items_at : Shape → Section → ℕ → ℕ
items_at (Shape.Object key fields) section place = 0
items_at (Shape.List element) section place = lists.end_at section.widths section.first place - lists.start_at section.widths section.first place
items_at (Shape.Set element) section place = bucket_count (buckets.size_at section.widths section.first place)
items_at (Shape.Map key value) section place = bucket_count (buckets.size_at section.widths section.first place)

-- The test of the places may end with want of memory: it walks runs of buckets, or elements of more than 32 bits.
abbrev pub MayLackMemory : Shape → Section → Type 0
MayLackMemory (Shape.Object key fields) section = ⊥
MayLackMemory (Shape.List element) section = 32 < slice_index section.widths 1
MayLackMemory (Shape.Set element) section = Unit {0}
MayLackMemory (Shape.Map key value) section = Unit {0}

-- The rows of the type are runs of items.
abbrev pub HasRuns : Shape → Type 0
HasRuns (Shape.Object key fields) = ⊥
HasRuns _ = Unit {0}

-- The sets or maps are those of a section.
pub record IsOfSection (section : Section) (rows : BucketRows) : Type 0 where
  pub widths : rows.widths.now ≡ section.widths
  pub total : rows.total ≡ section.total
  pub first : rows.first.now ≡ section.first
  pub second : rows.second.now ≡ section.second

-- The lists are those of a section.
pub record AreListsOf (section : Section) (rows : ListRows) : Type 0 where
  pub widths : rows.widths.now ≡ section.widths
  pub total : rows.total ≡ section.total
  pub first : rows.first.now ≡ section.first
  pub second : rows.second.now ≡ section.second

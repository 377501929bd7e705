-- What the rows of a SET or MAP type take, as it is gathered.
use Rattle.std.specs.Prelude.{◌≡◌, ℕ, ◌-◌, ◌^◌, List, fold, max, min}
use Rattle.bucket_codec.specs.Widths.{buckets_of_rows, keys_of_rows, sizes_of, values_of_rows}
use Rattle.row_model.specs.declared.row.Row.{Row}

-- What is gathered of rows: how many buckets they take, up to the greatest number of 128 bits, and the greatest size, element or key, and value.
pub record IsSpread (rows : List Row) (buckets size key value : ℕ) : Type 0 where
  pub buckets_are : buckets ≡ min (buckets_of_rows rows) (2 ^ 128 - 1)
  pub size_is : size ≡ fold max 0 (sizes_of rows)
  pub key_is : key ≡ fold max 0 (keys_of_rows rows)
  pub value_is : value ≡ fold max 0 (values_of_rows rows)

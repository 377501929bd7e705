-- The row of a place of a section, computed from its words and bytes, and the rows of its live ordinals: where the place spells a row, it is this one.
use Rattle.std.specs.Prelude.{ℕ, List, [], ◌∷◌, map}
use Rattle.std.specs.Ordering.{nat_cmp}
use Rattle.std.specs.FinMap.{entries, from_entries}
use Rattle.schema_model.specs.declared.schema.Field.{Field}
use Rattle.schema_model.specs.declared.schema.Shape.{Shape}
use Rattle.row_model.specs.declared.row.Value.{Value}
use Rattle.row_model.specs.declared.row.Row.{Row}
use Rattle.row_model.specs.Table.{RowMap}
use Rattle.object_codec.specs.Part.{FieldPart}
use Rattle.object_codec.specs.ObjectPlace.{parts_of}
use Rattle.list_codec.specs.ListPlace.{elements_at}
use Rattle.bucket_codec.specs.Run.{Bucket, keys_of, taken_of}
use Rattle.bucket_codec.specs.BucketPlace.{run_at}
use Rattle.type_rows.specs.declared.section.Section.{Section}
use Rattle.type_rows.specs.Value.{value_in}

-- The values of a record, one for each field.
abbrev pub values_in : List Field → List FieldPart → List Value
values_in (field ∷ fields) (part ∷ parts) = value_in field.kind part ∷ values_in fields parts
values_in _ _ = []

-- The pairs of the taken buckets of a run, by rising key.
unfoldable pub pairs_in : List Bucket → List (ℕ × ℕ)
pairs_in run = entries (from_entries {R = nat_cmp} (taken_of run))

-- The pairs of the run of a place.
abbrev pub pairs_at : Section → ℕ → List (ℕ × ℕ)
pairs_at section place = pairs_in (run_at section.widths section.first section.second place)

-- The row of a place: the values of all fields, the elements that the pointers bound, or the keys or pairs of the run's taken buckets.
abbrev pub row_in : Shape → Section → ℕ → Row
row_in (Shape.Object key fields) section place = Row.Object (values_in fields (parts_of section.widths section.first section.areas place))
row_in (Shape.List element) section place = Row.List (elements_at section.widths section.first section.second place)
row_in (Shape.Set element) section place = Row.Set (keys_of (pairs_at section place))
row_in (Shape.Map key value) section place = Row.Map (pairs_at section place)

-- The rows of the live ordinals.
unfoldable pub rows_in : Shape → Section → RowMap
rows_in shape section = from_entries (map (λ ordinal. (ordinal, row_in shape section ordinal)) section.live)

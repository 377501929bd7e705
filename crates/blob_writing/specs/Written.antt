-- The bytes that are written of a type behind the header of a blob.
use Rattle.std.specs.Prelude.{◌-◌, ◌^◌, ℕ, List, [], ◌∷◌, ◌++◌, Option, Some, None, length, flat_map}
use Rattle.std.specs.Int.{w64, to_be_bytes}
use Rattle.hol_varint.specs.Varint.{varint_bytes}
use Rattle.ordinal_set.specs.Gaps.{gap_bytes}
use Rattle.row_model.specs.declared.packed.Packed.{Packed}
use Rattle.row_packing.specs.declared.chosen.Chosen.{Chosen}
use Rattle.schema_model.specs.declared.schema.Schema.{Schema}
use Rattle.schema_model.specs.declared.schema.Shape.{Shape}
use Rattle.schema_model.specs.Schema.{schema_bytes}
use Rattle.blob_sections.specs.declared.section.PackedRows.{PackedRows}

-- the shard envelope: a number that is not 0, no bytes to skip, and one shard
abbrev pub one_shard_bytes : List ℕ
one_shard_bytes = 2 ∷ 0 ∷ 1 ∷ []

-- the head of a type: its schema and its shard envelope
abbrev pub type_head_bytes : Schema → List ℕ
type_head_bytes schema = schema_bytes schema ++ one_shard_bytes

-- the greatest ordinal that has a place: -1, the greatest VInt, is none
abbrev pub max_bytes : Option ℕ → List ℕ
max_bytes None = varint_bytes (2 ^ 32 - 1)
max_bytes (Some max) = varint_bytes max

-- a word array: how many words there are, and each in 8 bytes, the highest first
abbrev pub word_array_bytes : List ℕ → List ℕ
word_array_bytes words = varint_bytes (length words) ++ flat_map (to_be_bytes w64) words

-- bytes behind their number
abbrev pub area_bytes : List ℕ → List ℕ
area_bytes area = varint_bytes (length area) ++ area

-- behind the widths of an OBJECT: the words of its records, and the bytes of each field
abbrev pub records_bytes : Packed → List ℕ
records_bytes packed = word_array_bytes packed.first ++ flat_map area_bytes packed.areas

-- behind the widths of a LIST, SET or MAP: the total, the words of its places, and those of its elements or buckets
abbrev pub runs_bytes : ℕ → Packed → List ℕ
runs_bytes total packed = varint_bytes total ++ (word_array_bytes packed.first ++ word_array_bytes packed.second)

-- rows that are packed by what was chosen for them
abbrev pub rows_by : Chosen → Packed → PackedRows
rows_by chosen packed = record { widths = chosen.widths; total = chosen.total; packed = packed }

-- the packed rows of a type of this shape: the widths, and what its kind has behind them
abbrev pub packed_bytes : Shape → PackedRows → List ℕ
packed_bytes (Shape.Object key fields) rows = flat_map varint_bytes rows.widths ++ records_bytes rows.packed
packed_bytes shape rows = flat_map varint_bytes rows.widths ++ runs_bytes rows.total rows.packed

-- the ordinals of a delta: those that it removes and those that it adds, each list as a run of gaps behind its number of bytes
abbrev pub ordinals_bytes : List ℕ → List ℕ → List ℕ
ordinals_bytes removed added = area_bytes (gap_bytes removed) ++ area_bytes (gap_bytes added)

-- a type of a snapshot: its head, the max ordinal, the packed rows, and these bytes of its population
abbrev pub snapshot_type_bytes : Schema → Option ℕ → PackedRows → List ℕ → List ℕ
snapshot_type_bytes schema max rows population = type_head_bytes schema ++ (max_bytes max ++ (packed_bytes schema.shape rows ++ population))

-- a type of a delta: its head, the max ordinal, the ordinals that it removes and adds, and the packed rows of the added ones
abbrev pub delta_type_bytes : Schema → Option ℕ → List ℕ → List ℕ → PackedRows → List ℕ
delta_type_bytes schema max removed added rows =
    type_head_bytes schema ++ (max_bytes max ++ (ordinals_bytes removed added ++ packed_bytes schema.shape rows))

-- The header that is written: which spelling is chosen where the format leaves one open.
use Rattle.std.specs.Prelude.{ℕ, ℤ, ◌+◌, List, [], ◌∷◌, ◌++◌, length, slice_get, flat_map}
use Rattle.std.specs.List.{filter_map}
use Rattle.std.specs.Int.{w32, w64, to_be_bytes, cast_unsigned}
use Rattle.hol_varint.specs.Varint.{varint_bytes}
use Rattle.schema_model.specs.declared.schema.Schema.{Schema}
use Rattle.schema_model.specs.Schema.{schema_bytes}
use Rattle.blob_frame.specs.Header.{format_number}

-- the schemas of these types
abbrev pub schemas_at : List Schema → List ℕ → List Schema
schemas_at model types = filter_map (slice_get model) types

-- a list of schemas: their number, and each of them
abbrev pub schema_list_bytes : List Schema → List ℕ
schema_list_bytes listed = varint_bytes (length listed) ++ flat_map schema_bytes listed

-- the header: the number of its schema envelope is the list's length in bytes plus one, and there are no bytes to skip
-- and no header tags
abbrev pub header_bytes : ℤ → ℤ → List Schema → List ℕ
header_bytes origin destination listed =
    to_be_bytes w32 format_number ++ (to_be_bytes w64 (cast_unsigned w64 origin) ++ (to_be_bytes w64 (cast_unsigned w64 destination)
    ++ (varint_bytes (length (schema_list_bytes listed) + 1) ++ (schema_list_bytes listed ++ 0 ∷ 0 ∷ 0 ∷ []))))

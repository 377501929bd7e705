-- The bytes of a delta: its header, and behind it for each type its head and its section.
use Rattle.std.specs.Prelude.{ℕ, List, Option, length}
use Rattle.schema_model.specs.declared.schema.Shape.{Shape}
use Rattle.blob_grammar.specs.Form.{Form, ◌>>=◌, nothing, at_most, counted, both}
use Rattle.blob_frame.specs.declared.header.Header.{Header}
use Rattle.blob_frame.specs.Item.{vint, end}
use Rattle.blob_frame.specs.Header.{header}
use Rattle.blob_sections.specs.declared.section.PackedRows.{PackedRows}
use Rattle.blob_sections.specs.Head.{type_head}
use Rattle.blob_sections.specs.Section.{max_ordinal}
use Rattle.type_rows.specs.declared.patch.PatchSection.{PatchSection}
use Rattle.type_rows.specs.Layout.{own_bits}
use Rattle.type_rows.specs.Patches.{IsWellFormedPatch}
use Rattle.delta_blob.specs.declared.part.DeltaPart.{DeltaPart}
use Rattle.delta_blob.specs.Added.{added_rows}
use Rattle.delta_blob.specs.Ordinals.{ordinals}

-- The section of a type of this shape, of a max ordinal, of removed and added ordinals, and of the packed rows of the added ones; all fields of an
-- OBJECT count.
abbrev pub patch_with : Shape → Option ℕ → List ℕ → List ℕ → PackedRows → PatchSection
patch_with shape max removed added rows = record {
  max = max;
  widths = rows.widths;
  own = own_bits shape rows.widths;
  total = rows.total;
  first = rows.packed.first;
  second = rows.packed.second;
  areas = rows.packed.areas;
  removed = removed;
  added = added;
}

-- The section of a type of this shape: the max ordinal, the removed and the added ordinals, and a place for each added one.
unfoldable pub patch_section : Shape → Form PatchSection
patch_section shape = do
  max ← max_ordinal
  removed ← ordinals
  added ← ordinals
  rows ← added_rows shape max (length added)
  nothing (patch_with shape max removed added rows)

-- A type: its head and its section.
unfoldable pub patch_part : Form DeltaPart
patch_part = do
  head ← type_head
  patch ← patch_section head.schema.shape
  nothing (record { at = head.at; schema = head.schema; section = patch })

-- What stands of the type is well formed.
abbrev pub IsWellFormedPart : DeltaPart → Type 0
IsWellFormedPart part = IsWellFormedPatch part.schema.shape part.section

-- The types of a delta, of which there are 512 at most, and the end of the blob behind them.
unfoldable pub body : Form (List DeltaPart)
body = do
  parts ← counted (at_most vint 512) patch_part
  _ ← end
  nothing parts

-- A delta, up to the end of the blob.
unfoldable pub delta : Form (Header × List DeltaPart)
delta = both header body

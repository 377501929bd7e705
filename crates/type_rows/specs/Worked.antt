-- Worked sections, of which the rows are computed.
use Rattle.std.specs.Prelude.{[], ◌∷◌, None, Some, codes}
use Rattle.schema_model.specs.declared.schema.FieldKind.{FieldKind}
use Rattle.schema_model.specs.declared.schema.Shape.{Shape}
use Rattle.type_rows.specs.declared.section.Section.{Section}

-- Records of one field, an INT.
abbrev pub number_shape : Shape
number_shape = Shape.Object None (record { name = codes "n"; kind = FieldKind.Int } ∷ [])

-- Two of them, in elements of 4 bits: 10, which is the zigzag number of 5, and 15, which is all ones.
abbrev pub number_section : Section
number_section = record { max = Some 1; widths = 4 ∷ []; total = 0; first = 0xFA ∷ []; second = []; areas = [] ∷ []; live = 0 ∷ 1 ∷ [] }

-- Sets of elements of 2 bits, in pointers of 3 bits and sizes of 2.
abbrev pub set_shape : Shape
set_shape = Shape.Set (codes "Text")

-- One set, of 2 elements in 4 buckets: two empty ones, 1 and 0.
abbrev pub set_section : Section
set_section = record { max = Some 0; widths = 3 ∷ 2 ∷ 2 ∷ []; total = 4; first = 20 ∷ []; second = 0x1F ∷ []; areas = []; live = 0 ∷ [] }

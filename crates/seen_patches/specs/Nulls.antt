-- Columns of nulls: what stands for a field that the schema of a blob does not have.
use Rattle.std.specs.Prelude.{ℕ, ◌-◌, ◌^◌}
use Rattle.schema_model.specs.declared.schema.FieldKind.{FieldKind}

-- The width of an element that is null and no more: 2 bits for a BOOLEAN, and 1 for the other kinds.
abbrev pub null_width : FieldKind → ℕ
null_width FieldKind.Boolean = 2
null_width _ = 1

-- The element: all ones.
abbrev pub null_element : FieldKind → ℕ
null_element kind = 2 ^ null_width kind - 1

-- The fields of a type in byte order of their names.
use Rattle.std.specs.Prelude.{◌≡◌, ℕ, ◌<◌, List, [], ◌∷◌, length, slice_index_or, zip, String, string_bytes}
use Rattle.std.specs.List.{AllByRecursion}
use Rattle.std.specs.declared.alloc.Global.{Global}
use Rattle.schema_model.specs.declared.schema.Field.{Field}
use Rattle.schema_model.specs.Parts.{field_names}
use Rattle.serde_json.specs.Data.{Data, null, Members, no_members, member}
use Rattle.json_rows.specs.StoredRow.{members_of_fields}

-- Fields in an order: each name, with the place of the field.
abbrev pub Order : Type 0
Order = List (String Global × ℕ)

-- the members in this order: each name, with the data at its place
abbrev pub members_at : Order → List Data → Members
members_at [] printed = no_members
members_at (named ∷ order) printed = member (string_bytes named.0) (slice_index_or printed named.1 null) (members_at order printed)

-- Each place is below a bound.
abbrev pub AreBelow : ℕ → Order → Type 0
AreBelow bound order = AllByRecursion (λ m. m.1 < bound) order

-- The order is the byte order of the fields' names, whatever the fields print as, and each place is that of a field.
pub record IsByteOrder (fields : List Field) (order : Order) : Type 0 where
  pub members : (printed : List Data) → length printed ≡ length fields → members_at order printed ≡ members_of_fields (zip (field_names fields) printed)
  pub below : AreBelow (length fields) order

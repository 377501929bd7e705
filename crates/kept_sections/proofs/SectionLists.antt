-- Lemmas on the sections of the types of a state.
use Rattle.std.proofs.Common.{◌≡◌, ◌<◌, ℕ, List, length, Option, None, Some, sym, subst, arith}
use Rattle.std.specs.Prelude.{IfSome, option_and_then, slice_get}
use Rattle.schema_model.specs.declared.schema.Schema.{Schema}
use Rattle.schema_model.specs.declared.schema.Shape.{Shape}
use Rattle.row_model.specs.Table.{Table}
use Rattle.row_model.specs.declared.packed.Packed.{Packed}
use Rattle.row_packing.specs.declared.chosen.Chosen.{Chosen}
use Rattle.row_packing.specs.declared.measured.Measured.{Measured}
use Rattle.row_packing.specs.Chosen.{IsChosen, shape_at}
use Rattle.row_packing.specs.Measured.{AreMeasured, IsMeasured}
use Rattle.row_packing.proofs.ByType.{as_many, of_type}
use Rattle.kept_sections.specs.Sections.{AreSections, IsPackedFor, IsPackedOf, IsSection}
use Rattle.kept_sections.specs.declared.section.PackedSection.{PackedSection}

module _ (schemas : List Schema) (table : Table) where
  pub kept_long : (kept : Option (List PackedSection)) (type_index : ℕ) → type_index < length schemas → IfSome kept (AreSections schemas table) → IfSome kept (λ sections. type_index < length sections)
  kept_long None type_index known are = tt
  kept_long (Some sections) type_index known are =
      let long = as_many (λ t section. IsPackedOf (shape_at schemas t) table t section) (length schemas) sections are in omega (arith, long, known)

  -- The kept section of a type is that of its rows.
  pub kept_is : (kept : Option (List PackedSection)) (found : Option PackedSection) (type_index : ℕ) → found ≡ option_and_then (λ sections. slice_get sections type_index) kept → IfSome kept (AreSections schemas table)
      → IfSome found (IsPackedOf (shape_at schemas type_index) table type_index)
  kept_is None found type_index is are = subst (λ (o : Option PackedSection). IfSome o (IsPackedOf (shape_at schemas type_index) table type_index)) (sym is) tt
  kept_is (Some sections) found type_index is are = at found (sym is)
    where
      at : (o : Option PackedSection) → slice_get sections type_index ≡ o → IfSome o (IsPackedOf (shape_at schemas type_index) table type_index)
      at None there = tt
      at (Some section) there = of_type (λ t section. IsPackedOf (shape_at schemas t) table t section) (length schemas) type_index sections section are there

module _ (schemas : List Schema) (old new : Table) (measured : List Measured) (are : AreMeasured schemas old new measured) where
  pub measured_long : length measured ≡ length schemas
  measured_long = as_many (λ t one. IsMeasured (shape_at schemas t) old new t one) (length schemas) measured are

  pub measured_is : (type_index : ℕ) (one : Measured) → slice_get measured type_index ≡ Some one → IsMeasured (shape_at schemas type_index) old new type_index one
  measured_is type_index one there = of_type (λ t one. IsMeasured (shape_at schemas t) old new t one) (length schemas) type_index measured one are there

-- A section has a copy of what was chosen.
pub packed_by_copy : (shape : Shape) (old new : Table) (type_index : ℕ) (chosen copy : Chosen) (packed : Packed) → copy ≡ chosen → IsChosen shape old new type_index chosen → IsSection shape new type_index chosen packed
    → IsPackedFor shape old new type_index (record { chosen = copy; packed = packed })
packed_by_copy shape old new type_index chosen copy packed same is section = record {
  chosen = subst (λ (c : Chosen). IsChosen shape old new type_index c) (sym same) is;
  packed = subst (λ (c : Chosen). IsSection shape new type_index c packed) (sym same) section;
}

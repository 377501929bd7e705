-- A half at the layout of a section, or of a patch, is laid out.
use Rattle.std.proofs.Common.{◌≡◌, length, ap, ◌∙◌}
use Rattle.schema_model.specs.declared.schema.Schema.{Schema}
use Rattle.type_rows.specs.declared.patch.PatchSection.{PatchSection}
use Rattle.type_rows.specs.declared.section.Section.{Section}
use Rattle.type_rows.specs.Loads.{layout_of}
use Rattle.type_rows.specs.Patches.{IsReadablePatch, patch_layout}
use Rattle.type_rows.specs.WellFormed.{IsReadable}
use Rattle.type_rows.proofs.Places.{wide_long, widths_long}
use Rattle.type_state.specs.State.{Half, IsLaidOut}

pub laid_out : (schema : Schema) (section : Section) (half : Half) → IsReadable schema.shape section → half.layout ≡ layout_of section → IsLaidOut schema half
laid_out schema section half h is = ap (λ l. length l.widths) is ∙ widths_long schema.shape section h

pub laid_by : (schema : Schema) (patch : PatchSection) (half : Half) → IsReadablePatch schema.shape patch → half.layout ≡ patch_layout patch → IsLaidOut schema half
laid_by schema patch half h is = ap (λ l. length l.widths) is ∙ wide_long schema.shape patch.max patch.widths h.well.wide

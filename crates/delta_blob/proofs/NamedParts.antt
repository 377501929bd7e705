-- The types of a blob that is a delta against a model, within the limits, are parts of the model.
use Rattle.std.proofs.Common.{◌≤◌, ℕ, ℤ, List, [], ◌∷◌, refl, subst}
use Rattle.std.specs.Prelude.{All}
use Rattle.std.specs.List.{AllZip}
use Rattle.std.proofs.lemmas.List.Elements.{All-cons, All-head, All-nil, All-tail}
use Rattle.schema_model.specs.declared.limit.Limit.TheVariants.{Items, Ordinals}
use Rattle.schema_model.specs.declared.schema.Schema.{Schema}
use Rattle.schema_model.specs.Limit.{number_of_limit}
use Rattle.row_model.specs.Table.{Table}
use Rattle.type_rows.specs.Layout.{Layout, places_of}
use Rattle.seen_patches.proofs.SomeSeen.{each_seen}
use Rattle.blob_frame.specs.Header.{HeaderIs}
use Rattle.delta_blob.specs.declared.part.DeltaPart.{DeltaPart}
use Rattle.delta_blob.specs.declared.patch.PatchPart.{PatchPart}
use Rattle.delta_blob.specs.Patch.{DeltaIs, PartIs, TypePatch, parts_for}
use Rattle.delta_blob.specs.Reads.{IsOfModel, IsPatchAt, KeepsCounts}
use Rattle.delta_blob.specs.Within.{IsTypeWithin, KeepItems, Within}
use Rattle.delta_blob.proofs.WholeDeltas.{begins}

abbrev HasFewItems : DeltaPart → Type 0
HasFewItems part = part.section.total ≤ number_of_limit Items

module _ (schemas : List Schema) (table : Table) where
  abbrev IsNamed : TypePatch → Type 0
  IsNamed named = IsTypeWithin table named.type_index named

  part_named : (part : DeltaPart) (of : TypePatch) → PartIs schemas part of → (named : PatchPart) × IsOfModel schemas part named
  part_named part of is =
      let (seen, section) = each_seen of.schema.shape part.schema.shape part.section is.means.agree in
      (record { type_index = of.type_index; at = part.at; section = seen }, record { mine = of.schema; means = is.means; at = refl; section = section })

  parts_named : (parts : List DeltaPart) (patch : List TypePatch) → AllZip (PartIs schemas) parts patch → All IsNamed patch → All HasFewItems parts
      → (named : List PatchPart) × AllZip (IsOfModel schemas) parts named × All KeepsCounts parts
  parts_named [] [] are named items = ([], tt, All-nil KeepsCounts)
  parts_named (part ∷ parts) (of ∷ patch) are named items =
      let within = All-head IsNamed of patch named in
      let (rest, each, counts) = parts_named parts patch are.1 (All-tail IsNamed of patch named) (All-tail HasFewItems part parts items) in
      let (here, own) = part_named part of are.0 in
      let keeps : KeepsCounts part = record {
        ordinals = subst (λ (layout : Layout). places_of layout.max ≤ number_of_limit Ordinals) are.0.layout within.ordinals;
        items = All-head HasFewItems part parts items;
      } in
      (here ∷ rest, (own, each), All-cons KeepsCounts part parts keeps counts)
  parts_named [] (of ∷ patch) are named items = absurd are
  parts_named (part ∷ parts) [] are named items = absurd are

pub stands_of_model : (schemas : List Schema) (blob : List ℕ) (origin destination : ℤ) (patch : List TypePatch) (table : Table) → (is : DeltaIs schemas blob origin destination patch) → Within table patch
    → KeepItems schemas is.parts → (n : ℕ) × HeaderIs blob n is.head × ((named : List PatchPart) × IsPatchAt blob n schemas named)
stands_of_model schemas blob origin destination patch table is within items =
    let (n, header, stands) = begins schemas blob origin destination patch is in
    let (named, each, counts) = parts_named schemas table (parts_for schemas is.parts) patch is.sees within items in
    (n, header, (named, (is.parts, stands, record { once = is.items.once; agree = is.agree; each = each; counts = counts })))

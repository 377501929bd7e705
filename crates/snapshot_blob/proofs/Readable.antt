-- Parts of a model that keep the limits on ordinals and items can be read, and they are those of one list of halves.
use Rattle.std.proofs.Common.{◌≡◌, ◌≤◌, ◌∙◌, List, Some, length, get_or, slice_get, sym, ap, subst, inl, inr}
use Rattle.std.specs.List.{All, AllZip}
use Rattle.std.specs.Option.{option_map}
use Rattle.std.proofs.lemmas.Bool.{cases_lt}
use Rattle.std.proofs.lemmas.Option.{slice_get-map, slice_get-get_or}
use Rattle.schema_model.specs.declared.schema.Schema.{Schema}
use Rattle.schema_model.specs.declared.model.rule.Rule.TheVariants.{TooMany}
use Rattle.schema_model.specs.Model.{IsModel}
use Rattle.schema_model.specs.Parts.{fields_of}
use Rattle.type_state.specs.State.{Half}
use Rattle.type_rows.specs.WellFormed.{IsReadable, IsWellFormed}
use Rattle.type_rows.proofs.SectionRows.{one_state}
use Rattle.snapshot_blob.specs.declared.part.TypePart.{TypePart}
use Rattle.snapshot_blob.specs.Stated.{TypeIs, KeepsCounts, schemas_of}
use Rattle.snapshot_blob.proofs.Zipped.{zip_once}

one_half : (part : TypePart) (a b : Half) → TypeIs part a → TypeIs part b → a ≡ b
one_half part a b first second =
    let laid : a.layout ≡ b.layout = first.layout ∙ sym second.layout in
    let rows : a.rows ≡ b.rows = one_state part.schema.shape part.section a.rows b.rows first.rows second.rows in λ i. record { layout = laid i; rows = rows i }

-- the parts are those of one list of halves
pub same_halves : (parts : List TypePart) (a b : List Half) → AllZip TypeIs parts a → AllZip TypeIs parts b → a ≡ b
same_halves parts a b = zip_once TypeIs one_half parts a b

-- in a model each type has few fields
few_fields : (parts : List TypePart) → IsModel (schemas_of parts) → All (λ part. length (fields_of part.schema) ≤ 1024) parts
few_fields parts model place part inside =
    let here : TypePart = get_or parts place part in
    let at : slice_get (schemas_of parts) place ≡ Some here.schema =
    slice_get-map (λ (p : TypePart). p.schema) parts place ∙ ap (option_map (λ (p : TypePart). p.schema)) (slice_get-get_or parts place part inside) in
    elim (cases_lt 1024 (length (fields_of here.schema))) [ inl many ↦ absurd (model TooMany place (here.schema, at, inr many)) | inr few ↦ few ]

-- well-formed parts of a model that keep the limits on ordinals and items can be read
pub parts_readable : (parts : List TypePart) (schemas : List Schema) → All (λ part. IsWellFormed part.schema.shape part.section) parts → schemas ≡ schemas_of parts → IsModel schemas → All KeepsCounts parts
    → All (λ part. IsReadable part.schema.shape part.section) parts
parts_readable parts schemas well named model keeps place part inside = record {
  well = well place part inside;
  many = few_fields parts (subst IsModel named model) place part inside;
  few = (keeps place part inside).ordinals;
  items = (keeps place part inside).items;
}

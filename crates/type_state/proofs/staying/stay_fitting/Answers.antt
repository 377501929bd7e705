use Rattle.type_state.specs.Differences.{removal}
use Rattle.std.proofs.Common.{map, List, ℕ, ◌≡◌, Some, subst}
use Rattle.std.specs.Prelude.{slice_get, slice_index}
use Rattle.schema_model.specs.declared.schema.Field.{Field}
use Rattle.type_state.specs.Counted.{IsNoNarrower}
use Rattle.type_state.specs.Staying.{FieldStays}
use Rattle.type_state.proofs.StayingRows.{no_record, others_stay, records_stay}
use Rattle.type_state.proofs.staying.stay_fitting.Goals as goal

pub returns-in-Object : goal.returns-in-Object
returns-in-Object c = λ t.
    records_stay c.args.shape.now c.args.rows.now.widths c.args.widths.now (map removal c.args.removed.now) c.args.rows.now.rows c.in-Object.field-0 c.in-Object.fields c.in-Object.is
    (subst (λ (fields : List Field). (index : ℕ) (field : Field) → slice_get fields index ≡ Some field → FieldStays c.args.rows.now.rows (map removal c.args.removed.now) index field.kind (slice_index c.args.rows.now.widths index) (slice_index c.args.widths.now index)) c.as_slice.ensures
    (c.fields_fit.ensures t)) c.requires.held

pub returns-in_default : goal.returns-in_default
returns-in_default c = λ t.
    others_stay c.args.shape.now c.args.rows.now.widths c.args.widths.now (map removal c.args.removed.now) c.args.rows.now.rows (no_record c.args.shape.now c.in_default.not-Object)
    (subst (λ (widths : List ℕ). IsNoNarrower widths c.args.widths.now) c.widths.ensures (c.are_no_narrower.ensures t)) c.requires.held

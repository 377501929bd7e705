use Rattle.std.proofs.Common.{◌∙◌, List, ap, subst, rules}
use Rattle.std.specs.List.{All}
use Rattle.type_state.specs.Views.{next_halves, table_of}
use Rattle.blob_faults.specs.Judge.{Blames, each_of}
use Rattle.blob_faults.specs.Rows.{closed, loads}
use Rattle.snapshot_blob.specs.declared.body.Body.{Body}
use Rattle.snapshot_blob.specs.declared.part.TypePart.{TypePart}
use Rattle.snapshot_blob.specs.Judged.{offsets_of, types_of}
use Rattle.snapshot_blob.specs.Stated.{IsStateFault, IsWant, KeepsCounts, schemas_of}
use Rattle.snapshot_blob.proofs.Loading.{loaded_next, loaded_accepted, loaded_whole}
use Rattle.snapshot_blob.proofs.Readable.{parts_readable}
use Rattle.snapshot_blob.proofs.Trials.{all_counts_kind, all_rows_kind, as_long, blames_kind, closed_blames, closed_kind, counts_blame, model_blames, rows_blame, told_fault}
use Rattle.snapshot_blob.proofs.types.state_of.Goals as goal

pub returns-in_err-model-clause-blamed : goal.returns-in_err-model-clause-blamed
returns-in_err-model-clause-blamed c = λ can.
    told_fault (λ (found : Body). Unit) (Blames (types_of c.args.parts) IsWant) c.from_residual.result c.in_err-model.field-0.0 (search rules)
    (model_blames c.args.parts c.as_slice.result.now c.as_slice.ensures c.in_err-model.field-0.0 c.in_err-model.ensures.blamed can)

pub returns-in_err-model-clause-kind : goal.returns-in_err-model-clause-kind
returns-in_err-model-clause-kind c = told_fault (λ (found : Body). Unit) IsStateFault c.from_residual.result c.in_err-model.field-0.0 (search rules) c.in_err-model.ensures.kind

pub returns-in_err-check_counts-clause-blamed : goal.returns-in_err-check_counts-clause-blamed
returns-in_err-check_counts-clause-blamed c = λ can.
    told_fault (λ (found : Body). Unit) (Blames (types_of c.args.parts) IsWant) c.from_residual-in_err-check_counts.result c.in_err-check_counts.field-0.0 (search rules)
    (counts_blame c.args.parts c.as_slice-2.result.now c.as_slice-2.ensures c.in_err-check_counts.field-0.0 c.in_ok-model.model (c.in_ok-model.ensures.made.0 ∙ ap schemas_of c.as_slice.ensures)
    c.in_ok-model.ensures.made.1 c.in_err-check_counts.ensures)

pub returns-in_err-check_counts-clause-kind : goal.returns-in_err-check_counts-clause-kind
returns-in_err-check_counts-clause-kind c =
    told_fault (λ (found : Body). Unit) IsStateFault c.from_residual-in_err-check_counts.result c.in_err-check_counts.field-0.0 (search rules)
    (all_counts_kind c.as_slice-2.result.now c.in_err-check_counts.field-0.0 c.in_err-check_counts.ensures)

pub load_types-requires : goal.load_types-requires
load_types-requires c =
    parts_readable c.args.parts c.in_ok-model.model c.requires (c.in_ok-model.ensures.made.0 ∙ ap schemas_of c.as_slice.ensures) c.in_ok-model.ensures.made.1
    (subst (λ (parts : List TypePart). All KeepsCounts parts) c.as_slice-2.ensures c.in_ok-check_counts.ensures)

pub returns-in_err-states-clause-blamed : goal.returns-in_err-states-clause-blamed
returns-in_err-states-clause-blamed c = λ can.
    told_fault (λ (found : Body). Unit) (Blames (types_of c.args.parts) IsWant) c.from_residual-in_err-states.result c.in_err-states.field-0.0 (search rules)
    (rows_blame c.args.parts c.in_ok-model.model (c.in_ok-model.ensures.made.0 ∙ ap schemas_of c.as_slice.ensures) c.in_ok-model.ensures.made.1
    (subst (λ (parts : List TypePart). All KeepsCounts parts) c.as_slice-2.ensures c.in_ok-check_counts.ensures) c.in_err-states.field-0.0 c.in_err-states.ensures)

pub returns-in_err-states-clause-kind : goal.returns-in_err-states-clause-kind
returns-in_err-states-clause-kind c =
    told_fault (λ (found : Body). Unit) IsStateFault c.from_residual-in_err-states.result c.in_err-states.field-0.0 (search rules)
    (blames_kind (each_of (λ (part : TypePart). loads part.at part.schema part.section) c.args.parts) (all_rows_kind c.args.parts) c.in_err-states.field-0.0 c.in_err-states.ensures)

pub check_closed-requires-clause-next : goal.check_closed-requires-clause-next
check_closed-requires-clause-next c =
    loaded_next c.args.parts c.in_ok-states.states c.in_ok-model.model (c.in_ok-model.ensures.made.0 ∙ ap schemas_of c.as_slice.ensures) c.in_ok-states.ensures

pub check_closed-requires-clause-long : goal.check_closed-requires-clause-long
check_closed-requires-clause-long c =
    as_long c.args.parts c.in_ok-model.model c.in_ok-offsets.offsets (c.in_ok-model.ensures.made.0 ∙ ap schemas_of c.as_slice.ensures) (c.in_ok-offsets.ensures ∙ ap offsets_of c.as_slice-3.ensures)

pub returns-in_err-check_closed-clause-blamed : goal.returns-in_err-check_closed-clause-blamed
returns-in_err-check_closed-clause-blamed c = λ can.
    told_fault (λ (found : Body). Unit) (Blames (types_of c.args.parts) IsWant) c.from_residual-in_err-check_closed.result c.in_err-check_closed.field-0.0 (search rules)
    (closed_blames c.args.parts c.in_ok-model.model (c.in_ok-model.ensures.made.0 ∙ ap schemas_of c.as_slice.ensures) c.in_ok-model.ensures.made.1
    (subst (λ (parts : List TypePart). All KeepsCounts parts) c.as_slice-2.ensures c.in_ok-check_counts.ensures) c.in_err-check_closed.field-0.0
    c.in_ok-offsets.offsets c.in_ok-states.states (c.in_ok-offsets.ensures ∙ ap offsets_of c.as_slice-3.ensures) c.in_ok-states.ensures c.in_err-check_closed.ensures)

pub returns-in_err-check_closed-clause-kind : goal.returns-in_err-check_closed-clause-kind
returns-in_err-check_closed-clause-kind c =
    let table = table_of (next_halves c.in_ok-states.states) in
    told_fault (λ (found : Body). Unit) IsStateFault c.from_residual-in_err-check_closed.result c.in_err-check_closed.field-0.0 (search rules)
    (blames_kind (closed c.in_ok-offsets.offsets c.in_ok-model.model table) (closed_kind c.in_ok-offsets.offsets c.in_ok-model.model table) c.in_err-check_closed.field-0.0 c.in_err-check_closed.ensures)

pub returns-clause-accepted : goal.returns-clause-accepted
returns-clause-accepted c =
    loaded_accepted c.args.parts c.in_ok-states.states c.in_ok-model.model (c.in_ok-model.ensures.made.0 ∙ ap schemas_of c.as_slice.ensures) c.in_ok-model.ensures.made.1 c.in_ok-states.ensures c.in_ok-check_closed.ensures

pub returns-clause-whole : goal.returns-clause-whole
returns-clause-whole c =
    loaded_whole c.args.parts c.in_ok-states.states c.in_ok-model.model (c.in_ok-model.ensures.made.0 ∙ ap schemas_of c.as_slice.ensures) c.in_ok-states.ensures c.in_ok-check_closed.ensures

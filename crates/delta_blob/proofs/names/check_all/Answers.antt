use Rattle.std.proofs.Common.{◌∙◌, Ok, ap, arith}
use Rattle.std.specs.Prelude.{All}
use Rattle.std.proofs.lemmas.List.{take_all}
use Rattle.blob_cursor.specs.Scene.{IsFree}
use Rattle.blob_faults.specs.Judge.{Blames}
use Rattle.delta_blob.specs.OfModel.{HasFewFields, names_in}
use Rattle.delta_blob.specs.Patch.{NamesOnce, schemas_in}
use Rattle.delta_blob.proofs.NameTelling.{err_same, model_few, model_once, on_same}
use Rattle.delta_blob.proofs.names.check_all.Goals.{in-Ok, in-Err}
use Rattle.delta_blob.proofs.names.check_all.Goals as goal

pub returns-clause-once : goal.returns-clause-once
returns-clause-once c =
    let parts = c.args.parts.now in
    let all = c.loop-part.invariant ∙ ap schemas_in (take_all c.loop-part.part-index parts (omega (arith, c.loop-part-test.false))) in
    elim c.match-model_of.branch [
      | in-Ok w ↦ on_same (NamesOnce parts) c.match-model_of.result (Ok tt) w.result-is (model_once parts c.loop-part.schemas w.in-Ok.field-0 c.model_of.result all w.in-Ok.is c.model_of.ensures.tells)
      | in-Err w ↦ on_same (NamesOnce parts) c.match-model_of.result w.names_fault.result w.result-is w.names_fault.ensures.once
    ]

pub returns-clause-few : goal.returns-clause-few
returns-clause-few c =
    let parts = c.args.parts.now in
    let all = c.loop-part.invariant ∙ ap schemas_in (take_all c.loop-part.part-index parts (omega (arith, c.loop-part-test.false))) in
    elim c.match-model_of.branch [
      | in-Ok w ↦ on_same (All HasFewFields parts) c.match-model_of.result (Ok tt) w.result-is (model_few parts c.loop-part.schemas w.in-Ok.field-0 c.model_of.result all w.in-Ok.is c.model_of.ensures.tells)
      | in-Err w ↦ on_same (All HasFewFields parts) c.match-model_of.result w.names_fault.result w.result-is w.names_fault.ensures.few
    ]

pub returns-clause-blames : goal.returns-clause-blames
returns-clause-blames c = λ spelled.
    let parts = c.args.parts.now in
    elim c.match-model_of.branch [
      | in-Ok w ↦ err_same (Blames (names_in parts) IsFree) c.match-model_of.result (Ok tt) w.result-is tt
      | in-Err w ↦ err_same (Blames (names_in parts) IsFree) c.match-model_of.result w.names_fault.result w.result-is (w.names_fault.ensures.blames spelled)
    ]

use Rattle.std.proofs.Common.{◌∙◌, ap}
use Rattle.schema_model.specs.declared.schema.Schema.{Schema}
use Rattle.snapshot_blob.proofs.Trials.{row_blames}
use Rattle.snapshot_blob.proofs.types.load_rows.Goals as goal

pub returns-in-Err : goal.returns-in-Err
returns-in-Err c =
    row_blames c.args.at c.args.state.now.schema c.args.section.now c.schema.result.now.name c.in-Err.fault c.blame_rows.result
    (ap (λ (schema : Schema). schema.name) (c.schema.ensures ∙ c.in-Err.ensures.schema)) c.in-Err.ensures.fault c.blame_rows.ensures

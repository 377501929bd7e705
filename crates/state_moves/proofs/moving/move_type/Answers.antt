use Rattle.std.proofs.Common.{◌≡◌, ◌⊎◌, ◌∙◌, subst}
use Rattle.schema_model.specs.declared.schema.Schema.{Schema}
use Rattle.blob_frame.specs.declared.fault.BlobFault.TheVariants.{Memory}
use Rattle.blob_faults.specs.Blame.{row_blame}
use Rattle.state_moves.proofs.Judging.{blames_rows}
use Rattle.state_moves.proofs.moving.move_type.Goals as goal

pub returns-in-Err-clause-blamed : goal.returns-in-Err-clause-blamed
returns-in-Err-clause-blamed c =
    blames_rows c.args.part.now.at c.args.state.now.schema c.args.part.now.section c.args.state.now.current.rows c.in-Err.fault c.blame_rows.result c.in-Err.ensures.fault
    (subst (λ (schema : Schema). (c.blame_rows.result ≡ row_blame c.args.part.now.at schema.name c.in-Err.fault) ⊎ (c.blame_rows.result ≡ Memory)) (c.schema.ensures ∙ c.in-Err.ensures.schema) c.blame_rows.ensures)

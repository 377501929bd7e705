use Rattle.std.proofs.Common.{◌≡◌, ◌⊎◌, ℕ, subst}
use Rattle.schema_model.specs.declared.reason.Reason.TheVariants.{Dangling as dangles}
use Rattle.type_rows.specs.declared.fault.RowFault.{RowFault}
use Rattle.blob_frame.specs.declared.fault.BlobFault.TheVariants.{Memory}
use Rattle.blob_faults.specs.Blame.{row_blame}
use Rattle.state_moves.proofs.Judging.{blames_row}
use Rattle.state_moves.proofs.closing.blame_row.Goals as goal

pub returns : goal.returns
returns c =
    blames_row c.args.model.now c.args.parts.now c.args.size c.args.found c.schema.result.now c.offset_of-at.result c.blame_rows.result c.schema.ensures.value c.offset_of-at.ensures
    (subst (λ (ordinal : ℕ). (c.blame_rows.result ≡ row_blame c.offset_of-at.result c.schema.result.now.name (RowFault.At dangles ordinal)) ⊎ (c.blame_rows.result ≡ Memory)) c.from.ensures c.blame_rows.ensures)

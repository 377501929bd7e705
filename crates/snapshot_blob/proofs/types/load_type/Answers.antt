use Rattle.std.proofs.Common.{ap, subst}
use Rattle.schema_model.specs.declared.schema.Schema.{Schema}
use Rattle.blob_faults.specs.Judge.{Blames}
use Rattle.blob_faults.specs.Rows.{loads}
use Rattle.snapshot_blob.specs.Stated.{IsWant}
use Rattle.snapshot_blob.proofs.types.load_type.Goals as goal

pub returns : goal.returns
returns c = subst (λ (schema : Schema). Blames (loads c.args.part.at schema c.args.part.section) IsWant c.in-Err.fault) (ap (λ state. state.schema) c.new-state.ensures) c.in-Err.ensures

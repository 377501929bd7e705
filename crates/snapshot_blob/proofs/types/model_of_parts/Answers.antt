use Rattle.std.proofs.Common.{◌∙◌, inl, sym, subst}
use Rattle.schema_model.specs.Model.{IsModel}
use Rattle.snapshot_blob.proofs.FirstFailing.{model_fails}
use Rattle.snapshot_blob.proofs.types.model_of_parts.Goals as goal

pub returns-in-Ok-clause-made : goal.returns-in-Ok-clause-made
returns-in-Ok-clause-made c = (
  c.in-Ok.ensures.tells.0 ∙ c.in_ok-copied_schemas.ensures,
  subst IsModel (sym c.in-Ok.ensures.tells.0) c.in-Ok.ensures.tells.1,
)

pub returns-in_ok-first-in-Err-Broken-clause-blamed : goal.returns-in_ok-first-in-Err-Broken-clause-blamed
returns-in_ok-first-in-Err-Broken-clause-blamed c = λ can.
    let found = c.in_ok-first-in-Err-Broken in
    inl (model_fails c.args.parts.now found.first c.index-parts-first.result found.ensures.inside (found.ensures.first can))

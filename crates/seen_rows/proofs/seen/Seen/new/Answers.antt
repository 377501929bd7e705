use Rattle.std.proofs.Common.{subst}
use Rattle.schema_model.specs.Model.{IsKept}
use Rattle.schema_model.specs.declared.model.rule.Rule.TheVariants.{DuplicateName}
use Rattle.seen_rows.proofs.ViewClosed.{view_table}
use Rattle.seen_rows.proofs.seen.Seen.new.Goals as goal

pub invariant_of-result : goal.invariant_of-result
invariant_of-result g c =
    view_table (g.R.Rows.schemas c.args.rows.now) c.args.model.now (g.R.Rows.table c.args.rows.now) (subst (λ schemas. IsKept schemas DuplicateName) c.model.ensures.model (c.len-types.ensures.model DuplicateName))
    c.model.ensures.fits c.requires

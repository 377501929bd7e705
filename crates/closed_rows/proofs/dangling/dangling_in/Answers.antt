use Rattle.std.proofs.Common.{arith, sym, ◌∙◌, ◌≡◌, subst, slice_get, Some, below_more}
use Rattle.std.proofs.lemmas.Bool.{false≢true}
use Rattle.closed_rows.specs.Dangling.{IsClosedAt}
use Rattle.closed_rows.proofs.Danglings.{type_done, plain_closed}
use Rattle.closed_rows.proofs.dangling.dangling_in.Goals as goal

pub loop-ordinal-init : goal.loop-ordinal-init
loop-ordinal-init g c = λ o lt. absurd (omega arith)

pub returns-then-not-branch : goal.returns-then-not-branch
returns-then-not-branch g c = (λ closed. false≢true (sym c.if-not-branch.true ∙ c.in_ok-is_closed_at.ensures.1 closed), c.loop-ordinal.invariant)

pub loop-ordinal-preserved : goal.loop-ordinal-preserved
loop-ordinal-preserved g c = below_more (λ o. IsClosedAt (g.R.Rows.schemas c.args.rows.now) (g.R.Rows.table c.args.rows.now) c.args.type_index o) c.loop-ordinal.ordinal c.loop-ordinal.invariant (c.in_ok-is_closed_at.ensures.0 c.if-not-branch.false)

pub returns : goal.returns
returns g c = type_done (g.R.Rows.schemas c.args.rows.now) (g.R.Rows.table c.args.rows.now) c.args.type_index c.bound-ordinal-end.result c.loop-ordinal.ordinal c.bound-ordinal-end.ensures (omega arith) c.loop-ordinal.invariant

pub returns-then-is_plain_type : goal.returns-then-is_plain_type
returns-then-is_plain_type g c =
    plain_closed (g.R.Rows.schemas c.args.rows.now) (g.R.Rows.table c.args.rows.now) c.args.type_index c.schema-schema.result.now (subst (λ model. slice_get model c.args.type_index ≡ Some c.schema-schema.result.now) c.model.ensures.model c.schema-schema.ensures.value) (c.is_plain_type.ensures.0 c.if-is_plain_type.true)

use Rattle.std.proofs.Common.{ℕ, arith, subst, below_more}
use Rattle.std.specs.Prelude.{slice_index}
use Rattle.row_model.specs.Table.{IsLive}
use Rattle.list_codec.specs.Elements.{elements_of}
use Rattle.column_rows.proofs.Lives.{all_elements}
use Rattle.column_rows.proofs.runs.elements_live.Goals as goal

pub loop-index-preserved : goal.loop-index-preserved
loop-index-preserved g c =
    below_more (λ k. IsLive (g.R.Rows.table c.args.rows.now) c.args.target (slice_index (elements_of c.args.elements.now) k)) c.loop-index.index c.loop-index.invariant
    (subst (λ (number : ℕ). IsLive (g.R.Rows.table c.args.rows.now) c.args.target number) c.element.ensures (c.is_number_live.ensures c.if-not-is_number_live.false))

pub returns : goal.returns
returns g c = λ done. all_elements (IsLive (g.R.Rows.table c.args.rows.now) c.args.target) c.args.elements.now (λ k inside. c.loop-index.invariant k (omega (arith, inside)))

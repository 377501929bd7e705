use Rattle.std.proofs.Common.{arith, sym, ◌≡◌, ◌∙◌, below_more}
use Rattle.std.proofs.lemmas.Bool.{false≢true}
use Rattle.row_model.specs.Table.{row_at}
use Rattle.chain_check.proofs.RowsApart.{first_ordinal, same_past}
use Rattle.chain_check.proofs.states.first_other_ordinal.Goals as goal

pub loop-ordinal-init : goal.loop-ordinal-init
loop-ordinal-init g c = λ o below. absurd (omega (arith, below))

pub loop-ordinal-preserved : goal.loop-ordinal-preserved
loop-ordinal-preserved g c =
    below_more (λ o. row_at (g.A.Rows.table c.args.walked.now) c.args.type_index o ≡ row_at (g.B.Rows.table c.args.fresh.now) c.args.type_index o)
    c.loop-ordinal.ordinal c.loop-ordinal.invariant (c.in_ok-is_same_at.ensures.0 c.if-not-branch.false)

pub returns-then-not-branch : goal.returns-then-not-branch
returns-then-not-branch g c =
    first_ordinal (g.A.Rows.table c.args.walked.now) (g.B.Rows.table c.args.fresh.now) c.args.type_index c.loop-ordinal.ordinal
    (λ same. false≢true (sym c.if-not-branch.true ∙ c.in_ok-is_same_at.ensures.1 same)) c.loop-ordinal.invariant

pub returns : goal.returns
returns g c =
    same_past (g.A.Rows.table c.args.walked.now) (g.B.Rows.table c.args.fresh.now) c.args.type_index c.bound_of_both-ordinal-end.result c.bound_of_both-ordinal-end.ensures.walked
    c.bound_of_both-ordinal-end.ensures.fresh (λ o below. c.loop-ordinal.invariant o (omega (arith, below)))

use Rattle.std.proofs.Common.{arith, subst, sym, ap, ◌∙◌, length}
use Rattle.chain_check.specs.Compare.{FirstOtherOrdinal}
use Rattle.chain_check.proofs.RowsApart.{same_more_types, same_tables}
use Rattle.chain_check.proofs.states.first_other_seen.Goals as goal

pub loop-type_index-init : goal.loop-type_index-init
loop-type_index-init g c = λ t o below. absurd (omega (arith, below))

pub loop-type_index-preserved : goal.loop-type_index-preserved
loop-type_index-preserved g c =
    same_more_types (g.A.Rows.table c.args.walked.now) (g.B.Rows.table c.args.seen.now) c.loop-type_index.type_index c.loop-type_index.invariant
    (subst (FirstOtherOrdinal (g.A.Rows.table c.args.walked.now) (g.B.Rows.table c.args.seen.now) c.loop-type_index.type_index) c.in_default.is c.in_ok-ordinal.ensures)

pub returns-clause-first : goal.returns-clause-first
returns-clause-first g c =
    same_tables (g.A.Rows.table c.args.walked.now) (g.B.Rows.table c.args.seen.now) (c.model-2.ensures.fits.types ∙ ap length c.requires.models ∙ sym c.model.ensures.fits.types)
    (λ t o inside. c.loop-type_index.invariant t o (omega (arith, c.loop-type_index-test.false, inside, c.len-type_index-end.ensures.count, ap length c.model.ensures.model, c.model.ensures.fits.types)))

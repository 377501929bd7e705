use Rattle.std.proofs.Common.{arith, subst, sym, ap, ◌∙◌, length}
use Rattle.chain_check.specs.Compare.{FirstOtherOrdinal}
use Rattle.chain_check.proofs.RowsApart.{same_more_types, same_tables}
use Rattle.chain_check.proofs.states.first_other_row.Goals as goal

pub loop-type_index-init : goal.loop-type_index-init
loop-type_index-init g c = λ t o below. absurd (omega (arith, below))

pub loop-type_index-preserved : goal.loop-type_index-preserved
loop-type_index-preserved g c =
    same_more_types (g.W.Rows.table c.args.walked.now) (g.W.Rows.table c.args.fresh.now) c.loop-type_index.type_index c.loop-type_index.invariant
    (subst (FirstOtherOrdinal (g.W.Rows.table c.args.walked.now) (g.W.Rows.table c.args.fresh.now) c.loop-type_index.type_index) c.in_default.is c.in_ok-ordinal.ensures)

pub returns-clause-first : goal.returns-clause-first
returns-clause-first g c =
    same_tables (g.W.Rows.table c.args.walked.now) (g.W.Rows.table c.args.fresh.now) (c.model.ensures.fits.types ∙ ap length c.requires.models ∙ sym c.requires.fits.types)
    (λ t o inside. c.loop-type_index.invariant t o (omega (arith, inside, c.len-type_index-end.ensures.count, ap length c.model.ensures.model, ap length c.requires.models, c.requires.fits.types)))

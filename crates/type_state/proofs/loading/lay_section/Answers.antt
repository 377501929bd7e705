use Rattle.std.proofs.Common.{sym, subst}
use Rattle.packed_half.specs.LaidOut.{IsLaidOut}
use Rattle.packed_half.specs.Laying.{CanLay}
use Rattle.packed_half.proofs.Parted.{on_ok}
use Rattle.type_state.proofs.SectionHalves.{all_laid, has_rows, rows_lay}
use Rattle.type_state.proofs.loading.lay_section.Goals as goal

pub new-rows-requires : goal.new-rows-requires
new-rows-requires c = has_rows c.args.schema.now.shape c.args.section.now c.args.half.now c.requires.readable c.requires.loads

pub lay_out-requires-clause-can : goal.lay_out-requires-clause-can
lay_out-requires-clause-can c = subst (CanLay c.args.schema.now.shape c.args.half.now) (sym c.new-rows.ensures) (rows_lay c.args.schema.now.shape c.args.section.now c.args.half.now c.requires.loads)

pub returns : goal.returns
returns c =
    let shape = c.args.schema.now.shape in
    let half = c.args.half.now in
    on_ok c.lay_out.result _ _ (λ laid. all_laid shape c.args.section.now half c.lay_out.new.words (subst (IsLaidOut shape half c.lay_out.new.words) c.new-rows.ensures laid)) c.lay_out.ensures

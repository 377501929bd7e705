use Rattle.std.proofs.Common.{◌*◌, ◌+◌, ℕ, ap}
use Rattle.record_copies.proofs.RecordPuts.{cleared, outside_cleared, others_kept}
use Rattle.record_copies.proofs.put.clear_record.Goals as goal

pub returns-clause-clear : goal.returns-clause-clear
returns-clause-clear c = cleared c.args.widths.now c.args.first.now c.clear_bits.new.first c.args.place c.total_width-size.result c.total_width-size.ensures.total c.clear_bits.ensures

pub returns-clause-others : goal.returns-clause-others
returns-clause-others c =
    let size = c.total_width-size.result in
    let start = ap (λ (s : ℕ). c.args.place * s) c.total_width-size.ensures.total in
    others_kept c.args.widths.now c.args.first.now c.clear_bits.new.first c.args.place _ _ start (ap (λ (s : ℕ). c.args.place * size + s) c.total_width-size.ensures.total) (outside_cleared c.args.first.now c.clear_bits.new.first (c.args.place * size) size c.clear_bits.ensures)

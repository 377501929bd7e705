use Rattle.std.proofs.Common.{◌≡◌, rules}
use Rattle.std.specs.Prelude.{replicate}
use Rattle.row_widths.proofs.RecordSpreads.{gathered_none}
use Rattle.row_widths.proofs.records.gather.Goals as goal

pub loop-spreads-init : goal.loop-spreads-init
loop-spreads-init g c =
    let none : c.in_ok-spreads.spreads.items ≡ replicate c.args.fields (record { bits = 0; bytes = 0 }) = search rules in
    gathered_none c.args.fields _ _ c.in_ok-spreads.spreads.items (c.start-walk.ensures _ _ c.args.type_index) none

use Rattle.std.proofs.Common.{map, refl, arith}
use Rattle.std.proofs.lemmas.List.{length-map}
use Rattle.type_state.specs.Differences.{removal}
use Rattle.type_state.proofs.Comings.{marked}
use Rattle.type_state.proofs.CountedRows.{all_counted, begun, counted_more, nothing_more}
use Rattle.type_state.proofs.counting.take_rows.Goals as goal

pub loop-ordinal-init : goal.loop-ordinal-init
loop-ordinal-init c = begun c.args.rows.now.rows (map removal c.args.removed.now) c.args.totals.now

pub loop-ordinal-preserved : goal.loop-ordinal-preserved
loop-ordinal-preserved c =
    let k = c.loop-ordinal.ordinal-index in
    let os = c.args.removed.now in
    let long = length-map os removal in
    counted_more c.args.rows.now.rows (map removal os) c.args.totals.now c.loop-ordinal.totals c.take_under.new.totals c.take_under.new.totals k _
    c.loop-ordinal.invariant c.requires.rising (omega (arith, long, c.loop-ordinal-test.true)) (marked os k _ refl c.loop-ordinal-test.true) c.take_under.ensures (nothing_more c.take_under.new.totals)

pub returns-clause-counted : goal.returns-clause-counted
returns-clause-counted c = all_counted c.args.rows.now.rows (map removal c.args.removed.now) c.args.totals.now c.loop-ordinal.totals c.loop-ordinal.ordinal-index c.loop-ordinal.invariant (let long = length-map c.args.removed.now removal in omega (arith, long, c.loop-ordinal-test.false))

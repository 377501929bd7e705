use Rattle.hol_paths.proofs.Places.{all_places, no_places, places_more}
use Rattle.hol_paths.proofs.reserved.places_of.Goals as goal

pub loop-ordinal-init : goal.loop-ordinal-init
loop-ordinal-init c = no_places c.args.entries.now.slots c.args.removed.now c.new-places.result.items c.new-places.ensures.items

pub loop-ordinal-preserved : goal.loop-ordinal-preserved
loop-ordinal-preserved c =
    places_more c.args.entries.now.slots c.args.removed.now c.loop-ordinal.places.items c.gather_owned.new.found.items c.loop-ordinal.ordinal-index
    c.loop-ordinal-test.true c.loop-ordinal.invariant c.in_ok-gather_owned.ensures

pub returns : goal.returns
returns c = all_places c.args.entries.now.slots c.args.removed.now c.loop-ordinal.places.items c.rising.result c.loop-ordinal.ordinal-index c.loop-ordinal-test.false c.loop-ordinal.invariant c.rising.ensures

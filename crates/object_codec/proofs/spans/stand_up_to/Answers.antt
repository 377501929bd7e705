use Rattle.std.proofs.Common.{◌-◌, ◌*◌, ◌/◌, ◌<◌, ◌≤◌, get_or, arith}
use Rattle.std.proofs.lemmas.Bool.{ltb-true}
use Rattle.object_codec.proofs.UnitReaches.{units_on}
use Rattle.object_codec.proofs.spans.stand_up_to.Goals as goal

pub returns : goal.returns
returns c = λ test.
    (let bytes = c.args.bytes.now in
    let place = c.args.place in
    let end = c.args.end in
    let step = place / 64 in
    let last : get_or bytes (end - 1) 0 < 128 = ltb-true (get_or bytes (end - 1) 0) 128 test in
    let low : 64 * step ≤ place = omega arith in
    units_on (end - place) bytes (64 * step) (get_or c.args.reaches.now step 0) place end (omega arith) (c.requires.reaches step (omega arith)) low (omega arith) c.requires.border (λ some. last))

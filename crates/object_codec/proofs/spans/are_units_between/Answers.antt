use Rattle.std.proofs.Common.{◌+◌, ◌-◌, ◌^◌, ◌≤◌, take, drop, refl, arith}
use Rattle.std.proofs.lemmas.List.{length-take, length-drop}
use Rattle.hol_varint.specs.Varint.{varint_bytes}
use Rattle.hol_varint.proofs.Runs.{read_refused}
use Rattle.object_codec.proofs.Texts.{one_more}
use Rattle.object_codec.proofs.UnitReaches.{border_there, stands_border, stands_further, units_whole}
use Rattle.object_codec.proofs.spans.are_units_between.Goals as goal

pub returns-in_default : goal.returns-in_default
returns-in_default c =
    let span = take (c.args.end - c.args.start) (drop c.args.start c.args.bytes.now) in
    read_refused varint_bytes span c.loop-place.place c.loop-place.invariant.0 c.loop-place.invariant.1 (omega arith) c.in_default.ensures

pub stand_up_to-requires-clause-border : goal.stand_up_to-requires-clause-border
stand_up_to-requires-clause-border c =
    let bytes = c.args.bytes.now in
    let span = take (c.args.end - c.args.start) (drop c.args.start bytes) in
    let there = c.in-Some.ensures in
    let within : c.args.start + c.in-Some.next ≤ c.args.end = omega (arith, there.1.within, length-take (c.args.end - c.args.start) (drop c.args.start bytes), length-drop c.args.start bytes) in
    let further = stands_further (2 ^ 16) span c.loop-place.place there.0 c.in-Some.next there.1 in
    border_there bytes c.args.start c.args.end c.requires.inside c.in-Some.next (omega arith) within (stands_border (2 ^ 16) span c.loop-place.place there.0 c.in-Some.next there.1)

pub returns-then-stand_up_to : goal.returns-then-stand_up_to
returns-then-stand_up_to c =
    let bytes = c.args.bytes.now in
    let span = take (c.args.end - c.args.start) (drop c.args.start bytes) in
    let there = c.in-Some.ensures in
    let within : c.args.start + c.in-Some.next ≤ c.args.end = omega (arith, there.1.within, length-take (c.args.end - c.args.start) (drop c.args.start bytes), length-drop c.args.start bytes) in
    units_whole bytes c.args.start c.args.end c.requires.inside c.in-Some.next within
    (one_more span c.loop-place.place c.in-Some.next (omega arith) c.loop-place.invariant there) (c.if-stand_up_to.ensures refl)

pub loop-place-preserved : goal.loop-place-preserved
loop-place-preserved c =
    let span = take (c.args.end - c.args.start) (drop c.args.start c.args.bytes.now) in
    one_more span c.loop-place.place c.in-Some.next (omega arith) c.loop-place.invariant c.in-Some.ensures

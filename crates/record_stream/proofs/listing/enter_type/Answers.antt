use Rattle.std.proofs.Common.{◌≡◌, arith}
use Rattle.std.proofs.lemmas.Option.{slice_get_within}
use Rattle.record_stream.proofs.Entered.{type_entered, type_known, type_passed}
use Rattle.record_stream.proofs.listing.enter_type.Goals as goal

pub loop-init : goal.loop-init
loop-init c = λ types rest listed within. listed

pub pass_known-requires : goal.pass_known-requires
pass_known-requires c =
    type_known c.args.reader.now c.loop.reader c.next-name.new.self c.args.place c.loop.counter c.loop.invariant c.next-name.result c.next-name.ensures.value c.requires.0 c.requires.1 c.requires.2 c.requires.3 c.loop-test.true

pub loop-preserved : goal.loop-preserved
loop-preserved c =
    type_passed c.args.reader.now c.loop.reader c.next-name.new.self c.args.place c.loop.counter c.loop.invariant c.next-name.result c.next-name.ensures.value c.pass_known.new.reader c.loop-test.true c.pass_known.ensures

pub returns : goal.returns
returns c = λ types rest typed listed at.
    (let all : c.loop.counter ≡ c.args.place = omega arith in
    type_entered c.args.reader.now c.loop.reader c.next-name-2.new.self c.args.place c.loop.counter c.loop.invariant c.next-name-2.result c.next-name-2.ensures.value
    c.next-bracket.new.self c.next-bracket.result c.next-bracket.ensures.value all types rest typed listed (slice_get_within types c.args.place typed at) at)

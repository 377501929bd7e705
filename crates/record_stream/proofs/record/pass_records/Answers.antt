use Rattle.std.proofs.Common.{◌≡◌, arith}
use Rattle.record_stream.proofs.Ahead.{passed_all, passed_known, passed_more}
use Rattle.record_stream.proofs.record.pass_records.Goals as goal

pub pass_known-requires : goal.pass_known-requires
pass_known-requires c = passed_known c.args.reader.now c.loop.reader c.args.count c.loop.counter c.loop.invariant c.loop-test.true c.requires

pub loop-preserved : goal.loop-preserved
loop-preserved c = passed_more c.args.reader.now c.loop.reader c.pass_known.new.reader c.args.count c.loop.counter c.loop.invariant c.loop-test.true c.pass_known.ensures

pub returns : goal.returns
returns c =
    let all : c.loop.counter ≡ c.args.count = omega arith in
    passed_all c.args.reader.now c.loop.reader c.args.count c.loop.counter all c.loop.invariant

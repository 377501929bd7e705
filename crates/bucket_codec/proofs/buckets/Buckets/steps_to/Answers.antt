use Rattle.std.proofs.Common.{arith}
use Rattle.bucket_codec.specs.Buckets.{run_of}
use Rattle.bucket_codec.proofs.RunBuckets.{length-run_in}
use Rattle.bucket_codec.proofs.FoundKeys.{comes_here, stops_before, passed_more, never_comes}
use Rattle.bucket_codec.proofs.buckets.Buckets.steps_to.Goals as goal

pub returns-then-place-index : goal.returns-then-place-index
returns-then-place-index c =
    let long = length-run_in c.args.self.words.now c.args.self.key_width c.args.self.value_width c.args.self.start c.args.self.len in
    comes_here (run_of c.args.self) c.args.self.len c.args.key c.home-home.result c.args.index c.loop-steps.steps c.round-place.result long c.home-home.ensures.is c.round-place.ensures.is
    (omega arith) c.if-place-index.true c.loop-steps.invariant

pub returns-then-not-is_other : goal.returns-then-not-is_other
returns-then-not-is_other c =
    let long = length-run_in c.args.self.words.now c.args.self.key_width c.args.self.value_width c.args.self.start c.args.self.len in
    stops_before (run_of c.args.self) c.args.self.len c.args.key c.home-home.result c.args.index c.loop-steps.steps c.round-place.result long c.home-home.ensures.is c.round-place.ensures.is
    c.if-place-index.false c.if-not-is_other.ensures c.loop-steps.invariant

pub loop-steps-preserved : goal.loop-steps-preserved
loop-steps-preserved c =
    let long = length-run_in c.args.self.words.now c.args.self.key_width c.args.self.value_width c.args.self.start c.args.self.len in
    passed_more (run_of c.args.self) c.args.self.len c.args.key c.home-home.result c.args.index c.loop-steps.steps c.round-place.result long c.home-home.ensures.is c.round-place.ensures.is
    c.if-place-index.false c.if-not-is_other.ensures c.loop-steps.invariant

pub returns : goal.returns
returns c =
    let long = length-run_in c.args.self.words.now c.args.self.key_width c.args.self.value_width c.args.self.start c.args.self.len in
    never_comes (run_of c.args.self) c.args.self.len c.args.key c.args.index c.loop-steps.steps long (omega arith) c.loop-steps.invariant

use Rattle.std.proofs.Common.{◌≡◌, length, arith, subst}
use borrow.Author.Count.{below_more}
use Rattle.bucket_codec.specs.Run.{run_in, taken_of}
use Rattle.bucket_codec.specs.Buckets.{run_of, IsFoundAt}
use Rattle.bucket_codec.proofs.RunBuckets.{length-run_in}
use Rattle.bucket_codec.proofs.FoundKeys.{gone_more, gone_far}
use Rattle.bucket_codec.proofs.TakenBuckets.{counted_more}
use Rattle.bucket_codec.proofs.buckets.Buckets.count_found.Goals as goal

pub returns-in_default : goal.returns-in_default
returns-in_default c = λ finds.
    (let long = length-run_in c.args.self.words.now c.args.self.key_width c.args.self.value_width c.args.self.start c.args.self.len in
    c.in_default.ensures (finds c.loop-index.index (omega arith)))

pub returns-then-gone-most : goal.returns-then-gone-most
returns-then-gone-most c =
    let long = length-run_in c.args.self.words.now c.args.self.key_width c.args.self.value_width c.args.self.start c.args.self.len in
    gone_far (run_of c.args.self) c.args.self.len c.loop-index.index c.loop-index.gone c.in-Some.steps c.saturating_add-gone.result c.args.most long c.loop-index.invariant.0
    c.in-Some.ensures.1 c.saturating_add-gone.ensures (omega arith) c.if-gone-most.true

pub loop-index-preserved : goal.loop-index-preserved
loop-index-preserved c =
    let long = length-run_in c.args.self.words.now c.args.self.key_width c.args.self.value_width c.args.self.start c.args.self.len in (
      gone_more (run_of c.args.self) c.args.self.len c.loop-index.index c.loop-index.gone c.in-Some.steps c.saturating_add-gone.result long c.loop-index.invariant.0 c.in-Some.ensures.1
          c.saturating_add-gone.ensures,
      below_more (IsFoundAt (run_of c.args.self)) c.loop-index.index c.loop-index.invariant.1 c.in-Some.ensures.0,
      omega (arith, c.loop-index.invariant.2, c.taken_at-taken.ensures.one),
      counted_more c.args.self.words.now c.args.self.key_width c.args.self.value_width c.args.self.start c.args.self.len c.loop-index.index c.loop-index.taken c.taken_at-taken.result (omega arith)
          c.loop-index.invariant.3 c.taken_at-taken.ensures.is,
    )

pub returns : goal.returns
returns c =
    let self = c.args.self in
    let long = length-run_in self.words.now self.key_width self.value_width self.start self.len in
    let all : c.loop-index.index ≡ self.len = omega arith in (
      λ place below. c.loop-index.invariant.1 place (omega arith),
      subst (λ n. c.loop-index.taken ≡ length (taken_of (run_in self.words.now self.key_width self.value_width self.start n))) all c.loop-index.invariant.3,
    )

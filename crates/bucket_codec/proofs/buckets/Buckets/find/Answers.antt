use Rattle.std.proofs.Common.{arith, sym, ◌∙◌, ◌≡◌, Some, None, ap}
use Rattle.bucket_codec.specs.Buckets.{run_of}
use Rattle.bucket_codec.proofs.RunBuckets.{length-run_in}
use Rattle.bucket_codec.proofs.LookUps.{passed_more, found_at, none_at_empty, none_at_all, bucket_on_way}
use Rattle.bucket_codec.proofs.buckets.Buckets.find.Goals as goal

pub returns-in_default : goal.returns-in_default
returns-in_default c = λ pairs spelled.
    none_at_empty _ pairs c.args.key c.loop-steps.steps spelled c.loop-steps.invariant
    (bucket_on_way c.args.self.words.now c.args.self.key_width c.args.self.value_width c.args.self.start c.args.self.len c.args.key c.loop-steps.steps c.from.result _ None
    (c.from.ensures ∙ c.hash_int.ensures) c.round-place.ensures.is (sym c.in_default.is ∙ c.wide_bucket.ensures))

pub returns-then-found-from : goal.returns-then-found-from
returns-then-found-from c = λ pairs spelled.
    let long = length-run_in c.args.self.words.now c.args.self.key_width c.args.self.value_width c.args.self.start c.args.self.len in
    let key_is : c.in-Some.found ≡ c.args.key = c.if-found-from.true ∙ c.from-in-loop-steps.ensures in
    found_at (run_of c.args.self) pairs c.round-place.result c.args.key c.in-Some.value spelled
    (omega (arith, long, c.round-place.ensures.inside)) (sym c.in-Some.ensures ∙ ap (λ k. Some (k, c.in-Some.value)) key_is)

pub loop-steps-preserved : goal.loop-steps-preserved
loop-steps-preserved c =
    passed_more _ c.args.key c.loop-steps.steps c.in-Some.found c.in-Some.value c.loop-steps.invariant
    (bucket_on_way c.args.self.words.now c.args.self.key_width c.args.self.value_width c.args.self.start c.args.self.len c.args.key c.loop-steps.steps c.from.result _ _
    (c.from.ensures ∙ c.hash_int.ensures) c.round-place.ensures.is c.in-Some.ensures)
    (λ e. c.if-found-from.false (e ∙ sym c.from-in-loop-steps.ensures))

pub returns : goal.returns
returns c = λ pairs spelled.
    let long = length-run_in c.args.self.words.now c.args.self.key_width c.args.self.value_width c.args.self.start c.args.self.len in
    none_at_all _ pairs c.args.key c.loop-steps.steps (omega (arith, long)) spelled c.loop-steps.invariant

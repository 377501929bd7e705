use Rattle.std.proofs.Common.{arith, ◌≡◌, ◌+◌, ◌%◌, ◌∙◌, sym, ap}
use Rattle.bucket_codec.specs.Run.{bucket_at, place_from}
use Rattle.bucket_codec.proofs.RunBuckets.{length-run_in}
use Rattle.bucket_codec.proofs.Writing.{free_at, way_more, way_ends}
use Rattle.bucket_codec.proofs.run.Run.free_place.Goals as goal

pub returns-in_default : goal.returns-in_default
returns-in_default c =
    let long = length-run_in c.args.words.now c.args.self.key_width c.args.self.value_width c.args.self.start c.args.self.size in
    let there : place_from c.args.self.size c.args.key c.loop-steps.steps ≡ c.round-place.result =
    ap (λ h. (h % c.args.self.size + c.loop-steps.steps) % c.args.self.size) (sym (c.from.ensures ∙ c.hash_int.ensures)) ∙ sym c.round-place.ensures.is in
    free_at _ c.args.self.size c.args.key c.loop-steps.steps c.round-place.result long (omega arith) there
    (sym c.in_default.is ∙ c.wide_bucket.ensures ∙ ap (λ run. bucket_at run c.round-place.result) c.buckets-buckets.ensures.is) c.loop-steps.invariant

pub loop-steps-preserved : goal.loop-steps-preserved
loop-steps-preserved c =
    let there : place_from c.args.self.size c.args.key c.loop-steps.steps ≡ c.round-place.result =
    ap (λ h. (h % c.args.self.size + c.loop-steps.steps) % c.args.self.size) (sym (c.from.ensures ∙ c.hash_int.ensures)) ∙ sym c.round-place.ensures.is in
    way_more _ c.args.self.size c.args.key c.loop-steps.steps c.round-place.result _ there
    (c.in-Some.ensures ∙ ap (λ run. bucket_at run c.round-place.result) c.buckets-buckets.ensures.is) c.loop-steps.invariant

pub unreachable-requires : goal.unreachable-requires
unreachable-requires c =
    let long = length-run_in c.args.words.now c.args.self.key_width c.args.self.value_width c.args.self.start c.args.self.size in
    way_ends _ c.args.self.size c.args.key c.loop-steps.steps long (omega arith) c.requires.room c.loop-steps.invariant

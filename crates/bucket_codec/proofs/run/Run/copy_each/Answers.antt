use Rattle.std.proofs.Common.{◌+◌, ◌-◌, ◌<◌, ◌^◌, ℕ, List, arith, sym, subst, ◌∙◌}
use Rattle.bucket_codec.specs.Buckets.{run_of}
use Rattle.bucket_codec.proofs.CopiedRuns.{IsCopying, copied_all, copied_more, taken_fits}
use Rattle.bucket_codec.proofs.RunBuckets.{length-run_in}
use Rattle.bucket_codec.proofs.Writing.{put_empty, put_taken}
use Rattle.bucket_codec.proofs.run.Run.copy_each.Goals.{in-Some, in-None}
use Rattle.bucket_codec.proofs.run.Run.copy_each.Goals as goal

pub put-requires-clause-key : goal.put-requires-clause-key
put-requires-clause-key c =
    let from = c.args.from in
    let long = length-run_in from.words.now from.key_width from.value_width from.start from.len in
    let below = taken_fits (λ (pair : ℕ × ℕ). pair.0 < 2 ^ c.args.self.key_width - 1) (run_of from) c.loop-index.index (c.in-Some.key, c.in-Some.value) c.requires.keys (omega (arith, c.requires.long)) c.in-Some.ensures in
    omega (arith, below)

pub put-requires-clause-value : goal.put-requires-clause-value
put-requires-clause-value c =
    let from = c.args.from in
    let long = length-run_in from.words.now from.key_width from.value_width from.start from.len in
    taken_fits (λ (pair : ℕ × ℕ). pair.1 < 2 ^ c.args.self.value_width) (run_of from) c.loop-index.index (c.in-Some.key, c.in-Some.value) c.requires.values (omega (arith, c.requires.long)) c.in-Some.ensures

pub loop-index-preserved : goal.loop-index-preserved
loop-index-preserved c =
    let to = c.args.self in
    let from = c.args.from in
    let long = length-run_in from.words.now from.key_width from.value_width from.start from.len in
    let index = c.loop-index.index in
    elim c.match-wide_bucket.branch [
      | in-Some w ↦
          let below = taken_fits (λ (pair : ℕ × ℕ). pair.0 < 2 ^ to.key_width - 1) (run_of from) index (w.in-Some.key, w.in-Some.value) c.requires.keys (omega (arith, c.requires.long)) w.in-Some.ensures in
          subst (λ (words : List ℕ). IsCopying c.args.words.now words to.key_width to.value_width to.start to.size (run_of from) (index + 1)) (sym w.words-is)
          (copied_more c.args.words.now c.loop-index.words w.put.new.words to.key_width to.value_width to.start to.size (run_of from) index (omega arith) c.loop-index.invariant
          (put_taken to.key_width w.in-Some.key _ _ w.put.ensures.is below ∙ w.in-Some.ensures) (λ other apart. (w.put.ensures.others other apart).0) w.put.ensures.front w.put.ensures.back)
      | in-None w ↦
          subst (λ (words : List ℕ). IsCopying c.args.words.now words to.key_width to.value_width to.start to.size (run_of from) (index + 1)) (sym w.words-is)
          (copied_more c.args.words.now c.loop-index.words w.put-in-None.new.words to.key_width to.value_width to.start to.size (run_of from) index (omega arith) c.loop-index.invariant
          (put_empty to.key_width c.all_ones-empty.result _ _ w.put-in-None.ensures.is c.all_ones-empty.ensures ∙ w.in-None.ensures) (λ other apart. (w.put-in-None.ensures.others other apart).0)
          w.put-in-None.ensures.front w.put-in-None.ensures.back)
    ]

pub returns : goal.returns
returns c =
    let from = c.args.from in
    copied_all c.args.words.now c.loop-index.words c.args.self.key_width c.args.self.value_width c.args.self.start c.args.self.size (run_of from) c.loop-index.index (omega arith)
    (length-run_in from.words.now from.key_width from.value_width from.start from.len ∙ c.requires.long) c.loop-index.invariant

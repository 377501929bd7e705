use Rattle.std.proofs.Common.{◌∙◌, sym, ap, ◌+◌, ◌*◌}
use Rattle.bit_array.specs.Element.{element_of}
use Rattle.bucket_codec.proofs.RunBuckets.{bucket_empty, bucket_taken}
use Rattle.bucket_codec.proofs.buckets.Buckets.wide_bucket.Goals as goal

pub returns-then-key-all_ones : goal.returns-then-key-all_ones
returns-then-key-all_ones c =
    bucket_empty c.args.self.words.now c.args.self.key_width c.args.self.value_width _ c.args.self.start c.args.self.len c.args.index c.requires c.from.ensures
    (sym c.element-key.ensures ∙ c.if-key-all_ones.true ∙ c.all_ones.ensures)

pub returns : goal.returns
returns c =
    bucket_taken c.args.self.words.now c.args.self.key_width c.args.self.value_width _ c.args.self.start c.args.self.len c.args.index _ _ c.requires c.from.ensures
    c.element-key.ensures (λ e. c.if-key-all_ones.false (e ∙ sym c.all_ones.ensures))
    (c.element-value.ensures ∙ ap (λ w. element_of c.args.self.words.now ((c.args.self.start + c.args.index) * c.from.result + w) c.args.self.value_width) c.from-2.ensures)

use Rattle.std.proofs.Common.{◌≡◌, ◌+◌, ◌*◌, ◌≤◌, ◌⊎◌, ℕ, List, ap, sym, subst, ◌∙◌}
use Rattle.bit_array.specs.Element.{element_of}
use Rattle.bucket_codec.specs.Buckets.{run_of}
use Rattle.bucket_codec.specs.Filled.{IsCopied}
use Rattle.bucket_codec.specs.Run.{Bucket, run_in}
use Rattle.bucket_codec.proofs.CopiedRuns.{whole_copied}
use Rattle.bucket_codec.proofs.run.Run.copy_whole.Goals as goal

pub returns : goal.returns
returns c =
    let to = c.args.self in
    let from = c.args.from in
    let run : run_in from.words.now to.key_width to.value_width from.start to.size ≡ run_of from =
    ap (λ k. run_in from.words.now k to.value_width from.start to.size) (sym c.requires.key_width)
    ∙ ap (λ v. run_in from.words.now from.key_width v from.start to.size) (sym c.requires.value_width)
    ∙ ap (λ n. run_in from.words.now from.key_width from.value_width from.start n) (sym c.requires.long) in
    subst (λ (r : List Bucket). IsCopied c.args.words.now c.copy_bits.new.to to.key_width to.value_width to.start to.size r) run
    (whole_copied from.words.now c.args.words.now c.copy_bits.new.to to.key_width to.value_width from.start to.start to.size
    (subst (λ (w : ℕ). (bit width : ℕ) → bit + width ≤ to.size * w → element_of c.copy_bits.new.to (to.start * w + bit) width ≡ element_of from.words.now (from.start * w + bit) width) c.from-width.ensures c.copy_bits.ensures.each)
    (subst (λ (w : ℕ). (bit width : ℕ) → (bit + width ≤ to.start * w) ⊎ (to.start * w + to.size * w ≤ bit) → element_of c.copy_bits.new.to bit width ≡ element_of c.args.words.now bit width) c.from-width.ensures c.copy_bits.ensures.others)
    c.copy_bits.auto.to)

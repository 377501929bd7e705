use Rattle.std.proofs.Common.{arith, ◌≡◌, ◌+◌, ◌*◌, ◌≤◌, ◌⊎◌, ap, subst, ℕ}
use Rattle.bit_array.specs.Element.{element_of}
use Rattle.bucket_codec.proofs.RunBuckets.{key_within}
use Rattle.bucket_codec.proofs.Writing.{both_written, buckets_stay}
use Rattle.bucket_codec.proofs.Behind.{back_of_two}
use Rattle.bucket_codec.proofs.run.Run.put.Goals as goal

pub set_element-requires-clause-inside : goal.set_element-requires-clause-inside
set_element-requires-clause-inside c =
    key_within c.args.words.now c.args.self.key_width c.args.self.value_width _ c.args.self.start c.args.self.size c.args.place c.requires.held c.requires.inside c.from.ensures

pub returns-clause-others : goal.returns-clause-others
returns-clause-others c = λ index other.
    let at = (c.args.self.start + c.args.place) * c.from.result in
    buckets_stay c.args.words.now c.set_element-2.new.words at c.args.self.key_width c.args.self.value_width (c.args.self.start + c.args.place) index
    (ap (λ w. (c.args.self.start + c.args.place) * w) c.from.ensures)
    (both_written c.args.words.now c.set_element.new.words c.set_element-2.new.words at c.args.self.key_width c.args.self.value_width c.set_element.ensures.others
    (subst (λ x. (i u : ℕ) → (i + u ≤ at + x) ⊎ (at + x + c.args.self.value_width ≤ i) → element_of c.set_element-2.new.words i u ≡ element_of c.set_element.new.words i u)
    c.from-2.ensures c.set_element-2.ensures.others))
    other

pub returns-clause-back : goal.returns-clause-back
returns-clause-back c =
    let at = (c.args.self.start + c.args.place) * c.from.result in
    let same : at ≡ (c.args.self.start + c.args.place) * (c.args.self.key_width + c.args.self.value_width) = ap (λ w. (c.args.self.start + c.args.place) * w) c.from.ensures in
    back_of_two c.args.words.now c.set_element.new.words c.set_element-2.new.words at c.args.self.key_width c.args.self.value_width _ c.set_element.ensures.others
    (subst (λ x. (i u : ℕ) → (i + u ≤ at + x) ⊎ (at + x + c.args.self.value_width ≤ i) → element_of c.set_element-2.new.words i u ≡ element_of c.set_element.new.words i u)
    c.from-2.ensures c.set_element-2.ensures.others)
    (omega (arith, same))

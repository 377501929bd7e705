use Rattle.std.proofs.Common.{◌≡◌, ◌*◌, List, ℕ, arith, subst}
use Rattle.bit_array.specs.Element.{element_of}
use Rattle.type_state.proofs.TightPlaces.{bits_free, holds_bits}
use Rattle.type_state.proofs.tight.is_record_free.Goals as goal

pub overflow_mul-place : goal.overflow_mul-place
overflow_mul-place c =
    let bits = holds_bits c.args.shape.now c.args.section.now c.args.place c.args.size c.requires.object c.requires.readable c.requires.inside c.requires.size in
    record { fits = omega (arith, bits.counted) }

pub are_clear-requires-clause-counted : goal.are_clear-requires-clause-counted
are_clear-requires-clause-counted c = (holds_bits c.args.shape.now c.args.section.now c.args.place c.args.size c.requires.object c.requires.readable c.requires.inside c.requires.size).counted

pub returns : goal.returns
returns c = λ is.
    bits_free c.args.shape.now c.args.section.now c.args.place c.args.size c.requires.object c.requires.readable c.requires.inside (c.requires.fixed c.if-not-fixed.false) c.requires.size
    (subst (λ (first : List ℕ). element_of first (c.args.place * c.args.size) c.args.size ≡ 0) c.as_slice.ensures (c.are_clear.ensures is))

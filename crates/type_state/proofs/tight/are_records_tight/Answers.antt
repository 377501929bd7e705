use Rattle.std.proofs.Common.{List, ℕ, arith, ap, ◌∙◌}
use Rattle.std.specs.Prelude.{sum}
use Rattle.type_state.proofs.TightPlaces.{one_record_more, section_small}
use Rattle.type_state.proofs.tight.are_records_tight.Goals as goal

pub overflow_cast-size : goal.overflow_cast-size
overflow_cast-size c =
    let whole = c.total_width-size.ensures.total ∙ ap (λ (widths : List ℕ). sum widths) c.as_slice.ensures in
    record { fits = omega (arith, whole, section_small c.args.shape.now c.args.section.now c.requires.object c.requires.readable) }

pub loop-place-preserved : goal.loop-place-preserved
loop-place-preserved c = one_record_more c.args.shape.now c.args.section.now c.loop-place.place c.loop-place.invariant (c.is_record_tight.ensures c.if-not-is_record_tight.false)

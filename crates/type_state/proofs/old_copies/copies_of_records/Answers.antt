use Rattle.std.proofs.Common.{◌∙◌, ◌*◌, Fits, ap, arith, length, subst, sym, w64, ℕ}
use Rattle.std.specs.Prelude.{sum}
use Rattle.type_state.proofs.OldCopies.{copies_small}
use Rattle.type_state.proofs.old_copies.copies_of_records.Goals as goal

pub overflow_cast-size : goal.overflow_cast-size
overflow_cast-size c =
    let small = copies_small c.args.schema.now.shape c.args.current.half.now c.args.current.words.now c.args.ordinals.now c.requires.kept c.requires.can c.requires.live in
    omega (arith, small.0, c.total_width-size.ensures.total, ap sum c.as_slice.ensures)

pub overflow_mul-ordinals : goal.overflow_mul-ordinals
overflow_mul-ordinals c =
    let small = copies_small c.args.schema.now.shape c.args.current.half.now c.args.current.words.now c.args.ordinals.now c.requires.kept c.requires.can c.requires.live in
    subst (λ (size : ℕ). Fits w64 (length c.args.ordinals.now * size)) (sym (c.total_width-size.ensures.total ∙ ap sum c.as_slice.ensures)) (record { fits = small.1 })

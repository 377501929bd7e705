use Rattle.std.proofs.Common.{arith, get_or, refl, subst, sym}
use Rattle.schema_model.specs.declared.schema.Shape.{Shape}
use Rattle.type_state.specs.OldRecords.{CanCopyEach}
use Rattle.type_state.proofs.OldCopies.{copied_one, copies_begun, copies_done, copy_room}
use Rattle.type_state.proofs.old_copies.copy_each_record.Goals as goal

pub loop-place-init : goal.loop-place-init
loop-place-init c =
    let kept = c.args.kept in
    copies_begun kept.shape.now kept.half.now kept.words.now c.args.ordinals.now c.requires.kept.half (subst (λ (s : Shape). CanCopyEach s kept.half.now c.args.ordinals.now) (sym c.requires.shape) c.requires.can) c.requires.live
    c.args.schema.now.shape c.args.first.now c.args.areas.now c.requires.shape c.requires.zeros c.requires.none

pub copy_to-requires-clause-room : goal.copy_to-requires-clause-room
copy_to-requires-clause-room c =
    let kept = c.args.kept in
    copy_room kept.shape.now kept.half.now kept.words.now c.args.ordinals.now c.requires.kept.half (subst (λ (s : Shape). CanCopyEach s kept.half.now c.args.ordinals.now) (sym c.requires.shape) c.requires.can) c.requires.live
    c.args.schema.now.shape c.as_slice-widths.result.now c.loop-place.first c.loop-place.areas c.loop-place.place c.loop-place.place (get_or c.args.ordinals.now c.loop-place.place 0)
    c.requires.shape c.as_slice-widths.ensures refl c.loop-place.invariant (omega arith) refl

pub loop-place-preserved : goal.loop-place-preserved
loop-place-preserved c =
    let kept = c.args.kept in
    copied_one kept.shape.now kept.half.now kept.words.now c.args.ordinals.now c.requires.kept.half (subst (λ (s : Shape). CanCopyEach s kept.half.now c.args.ordinals.now) (sym c.requires.shape) c.requires.can) c.requires.live
    c.args.schema.now.shape c.as_slice-widths.result.now c.loop-place.first c.copy_to.new.first c.loop-place.areas c.copy_to.new.areas c.loop-place.place c.loop-place.place (get_or c.args.ordinals.now c.loop-place.place 0)
    c.as_slice-widths.ensures refl c.loop-place.invariant (omega arith) refl c.in_ok-copy_to.ensures c.copy_to.auto.first

pub returns : goal.returns
returns c =
    let kept = c.args.kept in
    let past = c.loop-place-test.false in
    let within = c.loop-place.auto.place-end in
    copies_done kept.shape.now kept.half.now kept.words.now c.args.ordinals.now c.requires.kept.half (subst (λ (s : Shape). CanCopyEach s kept.half.now c.args.ordinals.now) (sym c.requires.shape) c.requires.can) c.requires.live
    c.args.schema.now.shape c.loop-place.first c.loop-place.areas c.loop-place.place c.requires.shape c.loop-place.invariant (omega arith)

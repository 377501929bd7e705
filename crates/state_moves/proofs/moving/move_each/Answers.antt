use Rattle.std.proofs.Common.{arith, refl}
use Rattle.blob_faults.specs.Judge.{Blames}
use Rattle.state_moves.specs.Judged.{IsFreeMove}
use Rattle.state_moves.specs.Moving.{parts_move}
use Rattle.state_moves.proofs.Moves.{comes_more, comes_none, fault_exit, moved_more, moved_none_yet, part_blamed, readable_now, stays_set, type_within}
use Rattle.state_moves.proofs.moving.move_each.Goals as goal

pub loop-part-init : goal.loop-part-init
loop-part-init c = record {
  stays = record { schemas = refl; halves = refl };
  moved = moved_none_yet c.args.states.now c.args.parts.now c.args.named.now c.args.past.now c.requires.unnamed c.requires.none;
  comes = comes_none c.args.states.now c.args.parts.now c.args.named.now c.requires.unnamed;
}

pub bounds-states-place : goal.bounds-states-place
bounds-states-place c = type_within c.args.states.now c.loop-part.states c.args.parts.now c.loop-part.part-index c.part-item.result c.requires.readable c.loop-part-test.true c.part-item.is c.loop-part.invariant.stays

pub move_type-requires : goal.move_type-requires
move_type-requires c =
    readable_now c.args.states.now c.loop-part.states c.args.parts.now c.loop-part.part-index c.part-item.result c.requires.readable c.loop-part-test.true c.part-item.is c.loop-part.invariant.stays
    c.index-states-place.result

pub returns-in_err-moved-clause-stays : goal.returns-in_err-moved-clause-stays
returns-in_err-moved-clause-stays c =
    stays_set c.args.states.now c.loop-part.states c.part-item.result.type_index c.move_type.new.state c.index-states-place.result c.loop-part.invariant.stays c.move_type.ensures.schema c.move_type.ensures.current

pub returns-in_err-moved-clause-blamed : goal.returns-in_err-moved-clause-blamed
returns-in_err-moved-clause-blamed c =
    fault_exit (Blames (parts_move c.args.states.now c.args.parts.now) IsFreeMove) c.from_residual.result c.in_err-moved.field-0.0 c.from_residual.ensures.1
    (part_blamed c.args.states.now c.loop-part.states c.args.parts.now c.loop-part.part-index c.part-item.result c.requires.readable c.loop-part-test.true c.part-item.is c.loop-part.invariant.stays
    c.index-states-place.result c.in_err-moved.field-0.0 c.loop-part.invariant.comes.rows c.loop-part.invariant.comes.passes c.in_err-moved.ensures.blamed)

pub bounds-named-place : goal.bounds-named-place
bounds-named-place c =
    let within = type_within c.args.states.now c.loop-part.states c.args.parts.now c.loop-part.part-index c.part-item.result c.requires.readable c.loop-part-test.true c.part-item.is c.loop-part.invariant.stays in
    omega (arith, within, c.loop-part.invariant.moved.named_long)

pub bounds-past-place : goal.bounds-past-place
bounds-past-place c =
    let within = type_within c.args.states.now c.loop-part.states c.args.parts.now c.loop-part.part-index c.part-item.result c.requires.readable c.loop-part-test.true c.part-item.is c.loop-part.invariant.stays in
    omega (arith, within, c.loop-part.invariant.moved.past_long)

pub loop-part-preserved : goal.loop-part-preserved
loop-part-preserved c = record {
  stays = stays_set c.args.states.now c.loop-part.states c.part-item.result.type_index c.move_type.new.state c.index-states-place.result c.loop-part.invariant.stays c.move_type.ensures.schema c.move_type.ensures.current;
  moved =
      moved_more c.args.states.now c.loop-part.states c.args.parts.now c.loop-part.part-index c.part-item.result c.requires.readable c.loop-part-test.true c.part-item.is c.loop-part.invariant.stays
      c.loop-part.named c.loop-part.past c.move_type.new.state c.in_ok-moved.moved c.loop-part.invariant.moved c.in_ok-moved.ensures.moved;
  comes =
      comes_more c.args.states.now c.loop-part.states c.args.parts.now c.loop-part.part-index c.part-item.result c.requires.readable c.loop-part-test.true c.part-item.is c.loop-part.invariant.stays
      c.loop-part.named c.index-states-place.result c.move_type.new.state c.loop-part.invariant.moved.named_long c.move_type.ensures.schema c.move_type.ensures.current c.in_ok-moved.ensures.moved.moved
      c.loop-part.invariant.comes;
}

use Rattle.std.proofs.Common.{get_or, refl, subst, arith}
use borrow.Author.Count.{below_more}
use Rattle.row_model.specs.declared.row.Value.{Value}
use Rattle.object_codec.specs.Part.{SpellsValue, FailsValue}
use Rattle.object_codec.specs.ObjectPlace.{part_at}
use Rattle.object_codec.proofs.PlainTexts.{told_given}
use Rattle.object_codec.proofs.sound.first_bad_part.Goals as goal

pub returns-in-Err : goal.returns-in-Err
returns-in-Err c =
    let within = c.requires.within c.loop-index.index (omega arith) in
    record {
      inside = omega arith;
      earlier = c.loop-index.invariant;
      fails = subst (λ o. FailsValue c.args.kind.now (part_at c.args.first.now c.args.size o c.args.before c.args.width c.args.area.now) c.in-Err.reason) c.from.ensures
          (c.in-Err.ensures.tells c.from.result c.args.before c.args.area.now refl within.record_holds refl);
    }

pub loop-index-preserved : goal.loop-index-preserved
loop-index-preserved c =
    let within = c.requires.within c.loop-index.index (omega arith) in
    below_more
    (λ k. (value : Value) × SpellsValue c.args.kind.now (part_at c.args.first.now c.args.size (get_or c.args.places.now k 0) c.args.before c.args.width c.args.area.now) value)
    c.loop-index.index c.loop-index.invariant
    (subst (λ o. (value : Value) × SpellsValue c.args.kind.now (part_at c.args.first.now c.args.size o c.args.before c.args.width c.args.area.now) value) c.from.ensures
    (told_given c.args.kind.now (part_at c.args.first.now c.args.size c.from.result c.args.before c.args.width c.args.area.now) c.in_default.field-0 c.requires.told
    (c.in_default.ensures.tells c.from.result c.args.before c.args.area.now refl within.record_holds refl)))

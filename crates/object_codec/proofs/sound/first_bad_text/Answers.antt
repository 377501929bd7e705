use Rattle.std.proofs.Common.{get_or, refl, subst, arith}
use borrow.Author.Count.{below_more}
use Rattle.schema_model.specs.declared.schema.FieldKind.{FieldKind}
use Rattle.row_model.specs.declared.row.Value.{Value}
use Rattle.object_codec.specs.Part.{SpellsValue, FailsValue}
use Rattle.object_codec.specs.ObjectPlace.{part_at}
use Rattle.object_codec.proofs.Soundness.{was_none, was_some}
use Rattle.object_codec.proofs.sound.first_bad_text.Goals as goal

pub returns-in-Some : goal.returns-in-Some
returns-in-Some c =
    let within = c.requires.within c.loop-index.index (omega arith) in
    let part = part_at c.args.first.now c.args.size c.from.result c.args.before c.args.width c.args.area.now in
    record {
      inside = omega arith;
      earlier = c.loop-index.invariant.1;
      fails = subst (λ o. FailsValue FieldKind.Text (part_at c.args.first.now c.args.size o c.args.before c.args.width c.args.area.now) c.in-Some.reason) c.from.ensures
          (was_some ((value : Value) × SpellsValue FieldKind.Text part value) (FailsValue FieldKind.Text part) c.in_ok-reason.field-0 c.in-Some.reason c.in-Some.is
          (c.in_ok-reason.ensures.tells c.from.result c.args.before refl within.record_holds));
    }

pub loop-index-preserved : goal.loop-index-preserved
loop-index-preserved c =
    let within = c.requires.within c.loop-index.index (omega arith) in
    let part = part_at c.args.first.now c.args.size c.from.result c.args.before c.args.width c.args.area.now in (
      c.in_ok-reason.ensures.reaches,
      below_more
          (λ k. (value : Value) × SpellsValue FieldKind.Text (part_at c.args.first.now c.args.size (get_or c.args.places.now k 0) c.args.before c.args.width c.args.area.now) value)
          c.loop-index.index c.loop-index.invariant.1
          (subst (λ o. (value : Value) × SpellsValue FieldKind.Text (part_at c.args.first.now c.args.size o c.args.before c.args.width c.args.area.now) value) c.from.ensures
          (was_none ((value : Value) × SpellsValue FieldKind.Text part value) (FailsValue FieldKind.Text part) c.in_ok-reason.field-0 c.in_default.is
          (c.in_ok-reason.ensures.tells c.from.result c.args.before refl within.record_holds))),
    )

use Rattle.std.proofs.Common.{◌-◌, take, drop, refl, subst}
use Rattle.schema_model.specs.declared.schema.FieldKind.{FieldKind}
use Rattle.object_codec.specs.ObjectPlace.{part_at}
use Rattle.object_codec.specs.Texts.{TellsAreUnits}
use Rattle.object_codec.proofs.Faults.{text_given, text_bad, other_given}
use Rattle.object_codec.proofs.sound.text_fault.Goals as goal

pub returns-in-Err-clause-tells : goal.returns-in-Err-clause-tells
returns-in-Err-clause-tells c = λ place before is held. c.in-Err.ensures.tells place before c.args.area.now is held refl

pub returns-in_default : goal.returns-in_default
returns-in_default c = record {
  tells = λ place before is held.
      other_given FieldKind.Text (part_at c.args.first.now c.args.size place before c.args.width c.args.area.now) c.in-Ok.part (λ is_text. c.in_default.not-Run)
      (c.in-Ok.ensures.tells place before c.args.area.now is held refl);
  reaches = c.requires.reaches;
}

pub returns-then-branch-clause-tells : goal.returns-then-branch-clause-tells
returns-then-branch-clause-tells c = λ place before is held.
    text_given FieldKind.Text (part_at c.args.first.now c.args.size place before c.args.width c.args.area.now) c.in-Ok.part c.in-Run.start c.in-Run.end refl c.in-Run.is
    (c.in-Ok.ensures.tells place before c.args.area.now is held refl)
    (subst (TellsAreUnits (take (c.in-Run.end - c.in-Run.start) (drop c.in-Run.start c.args.area.now))) c.if-branch.true c.in_ok-are_units.ensures.tells)

pub returns-clause-tells : goal.returns-clause-tells
returns-clause-tells c = λ place before is held.
    text_bad FieldKind.Text (part_at c.args.first.now c.args.size place before c.args.width c.args.area.now) c.in-Ok.part c.in-Run.start c.in-Run.end refl c.in-Run.is
    (c.in-Ok.ensures.tells place before c.args.area.now is held refl)
    (subst (TellsAreUnits (take (c.in-Run.end - c.in-Run.start) (drop c.in-Run.start c.args.area.now))) c.if-branch.false c.in_ok-are_units.ensures.tells)

use Rattle.std.proofs.Common.{ℕ, List, arith, subst, sym}
use Rattle.std.specs.Prelude.{Contains}
use Rattle.std.specs.List.{AllZip}
use Rattle.std.proofs.lemmas.List.{take_all}
use Rattle.schema_model.specs.declared.model.rule.Rule.TheVariants.{DuplicateName, TooMany}
use Rattle.delta_blob.specs.declared.part.DeltaPart.{DeltaPart}
use Rattle.delta_blob.specs.OfModel.{IsOwnAt}
use Rattle.delta_blob.proofs.Indexed.{StandOnce, indexes_more, names_once, once_more, own_few}
use Rattle.delta_blob.proofs.names.are_own.Goals as goal

pub loop-part-preserved : goal.loop-part-preserved
loop-part-preserved c = record {
  each = indexes_more c.args.model.now c.args.parts.now c.loop-part.part-index c.in-Some.type_index c.part-item.result c.loop-part.taken c.push.new.self (omega (arith, c.loop-part-test.true)) c.part-item.is
      c.loop-part.invariant.each c.in-Some.ensures.0 c.in_ok-push.ensures.ok;
  once = subst StandOnce (sym c.in_ok-push.ensures.ok)
      (once_more c.loop-part.taken c.in-Some.type_index c.loop-part.invariant.once (λ taken. c.in-Some.ensures.1 (subst (λ (ns : List ℕ). Contains ns c.in-Some.type_index) (sym c.as_slice.ensures) taken)));
}

pub returns-clause-once : goal.returns-clause-once
returns-clause-once c = λ own.
    let each = subst (λ (ps : List DeltaPart). AllZip (IsOwnAt c.args.model.now) ps c.loop-part.taken) (take_all c.loop-part.part-index c.args.parts.now (omega (arith, c.loop-part-test.false))) c.loop-part.invariant.each in
    names_once c.args.model.now c.args.parts.now c.loop-part.taken each (c.len.ensures.model DuplicateName) c.loop-part.invariant.once

pub returns-clause-few : goal.returns-clause-few
returns-clause-few c = λ own.
    let each = subst (λ (ps : List DeltaPart). AllZip (IsOwnAt c.args.model.now) ps c.loop-part.taken) (take_all c.loop-part.part-index c.args.parts.now (omega (arith, c.loop-part-test.false))) c.loop-part.invariant.each in
    own_few c.args.model.now c.args.parts.now c.loop-part.taken each (c.len.ensures.model TooMany)

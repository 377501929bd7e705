use Rattle.std.proofs.Common.{◌≡◌, ◌∙◌, ◌++◌, List, [], Err, ap, arith, length, refl, rules, subst, sym}
use Rattle.std.specs.Vec.Iter.{into_iter_items}
use Rattle.blob_cursor.specs.Scene.{IsFree}
use Rattle.blob_faults.specs.Judge.{Blames, each_of}
use Rattle.delta_blob.specs.declared.part.DeltaPart.{DeltaPart}
use Rattle.delta_blob.specs.Judged.{of_model}
use Rattle.delta_blob.specs.OfModel.{AreNamed}
use Rattle.delta_blob.proofs.NameTelling.{err_same}
use Rattle.delta_blob.proofs.NamingParts.{all_taken, named_fails, named_more, named_none, one_taken}
use Rattle.delta_blob.proofs.of_model.named_parts.Goals as goal

pub loop-part-init : goal.loop-part-init
loop-part-init c = record { parts = refl; long = (search rules); named = named_none c.args.model.now [] c.in_ok-named.named refl c.in_ok-named.ensures }

pub returns-in_err-index-clause-blames : goal.returns-in_err-index-clause-blames
returns-in_err-index-clause-blames c =
    let e = c.in_err-index.field-0.0 in
    let are = ap (λ (left : List DeltaPart). c.loop-part.yielded ++ left) (sym c.in-Some.ensures.steps.0) ∙ c.loop-part.invariant.parts ∙ c.into_iter-part-iterator.ensures.into_iter_gives.0 ∙ c.into_vec-part-items.ensures in
    err_same (Blames (each_of (of_model c.args.model.now) c.args.parts) IsFree) c.from_residual-in_err-index.result (Err e) (search rules)
    (named_fails c.args.model.now c.args.parts c.loop-part.yielded (into_iter_items c.next.new.self) c.loop-part.named c.in-Some.part e are c.loop-part.invariant.named c.in_err-index.ensures.tells)

pub loop-part-preserved : goal.loop-part-preserved
loop-part-preserved c = record {
  parts = one_taken c.loop-part.yielded (into_iter_items c.next.new.self) c.in-Some.ensures.steps.0 c.loop-part.invariant.parts;
  long = omega (arith, c.loop-part.invariant.long, c.in-Some.ensures.steps.1, ap (λ (left : List DeltaPart). length left) c.in-Some.ensures.steps.0);
  named = named_more c.args.model.now c.loop-part.yielded c.loop-part.named c.push_named.new.named c.in-Some.part c.in_ok-index.index c.loop-part.invariant.named c.in_ok-index.ensures.tells c.in_ok-push_named.ensures;
}

pub returns-clause-found : goal.returns-clause-found
returns-clause-found c =
    let done : c.loop-part.yielded ≡ c.args.parts =
    all_taken c.loop-part.yielded (into_iter_items c.loop-part.part-iterator) c.args.parts
    (c.loop-part.invariant.parts ∙ c.into_iter-part-iterator.ensures.into_iter_gives.0 ∙ c.into_vec-part-items.ensures) (sym c.loop-part.invariant.long ∙ c.in-None.ensures.steps.0) in
    subst (λ (parts : List DeltaPart). AreNamed c.args.model.now parts c.loop-part.named) done c.loop-part.invariant.named

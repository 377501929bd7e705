use Rattle.std.proofs.Common.{◌≡◌, ◌∙◌, ◌++◌, List, ap, arith, length, subst, sym}
use Rattle.std.specs.List.{AllZip}
use Rattle.std.specs.Vec.Iter.{into_iter_items}
use Rattle.delta_blob.specs.declared.of_model.NamedPart.{NamedPart}
use Rattle.delta_blob.specs.Meant.{IsSeenPart}
use Rattle.delta_blob.specs.OfModel.{CanBeSeen}
use Rattle.delta_blob.proofs.NamingParts.{all_taken, next_holds, one_taken, seen_more}
use Rattle.delta_blob.proofs.of_model.seen_parts.Goals as goal

pub seen_part-requires : goal.seen_part-requires
seen_part-requires c =
    let are = ap (λ (left : List NamedPart). c.loop-named.yielded ++ left) (sym c.in-Some.ensures.steps.0) ∙ c.loop-named.invariant.parts ∙ c.into_iter-named-iterator.ensures.into_iter_gives.0 ∙ c.into_vec-named-items.ensures in
    next_holds (CanBeSeen c.args.model.now) c.loop-named.yielded (into_iter_items c.next.new.self) c.args.parts c.in-Some.named c.requires are

pub loop-named-preserved : goal.loop-named-preserved
loop-named-preserved c = record {
  parts = one_taken c.loop-named.yielded (into_iter_items c.next.new.self) c.in-Some.ensures.steps.0 c.loop-named.invariant.parts;
  long = omega (arith, c.loop-named.invariant.long, c.in-Some.ensures.steps.1, ap (λ (left : List NamedPart). length left) c.in-Some.ensures.steps.0);
  seen = seen_more c.args.model.now c.loop-named.yielded c.loop-named.seen c.push.new.self c.in-Some.named c.in_ok-seen_part.field-0 c.loop-named.invariant.seen c.in_ok-seen_part.ensures c.in_ok-push.ensures.ok;
}

pub returns : goal.returns
returns c =
    let done : c.loop-named.yielded ≡ c.args.parts =
    all_taken c.loop-named.yielded (into_iter_items c.loop-named.named-iterator) c.args.parts
    (c.loop-named.invariant.parts ∙ c.into_iter-named-iterator.ensures.into_iter_gives.0 ∙ c.into_vec-named-items.ensures) (sym c.loop-named.invariant.long ∙ c.in-None.ensures.steps.0) in
    subst (λ (parts : List NamedPart). AllZip (IsSeenPart c.args.model.now) parts c.loop-named.seen) done c.loop-named.invariant.seen

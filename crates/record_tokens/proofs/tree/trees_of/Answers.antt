use Rattle.std.proofs.Common.{◌≡◌, ◌∙◌, ◌++◌, ◌∷◌, List, [], ap, arith, length, refl, rules, sym}
use Rattle.std.specs.Vec.Iter.{into_iter_items}
use Rattle.record_trees.specs.declared.tree.Tree.{Tree as RowTree}
use Rattle.record_tokens.proofs.Slots.{all_taken, one_taken}
use Rattle.record_tokens.proofs.tree.trees_of.Goals as goal

pub loop-slot-init : goal.loop-slot-init
loop-slot-init c = record { parts = c.new-parts.ensures; left = refl; long = (search rules) }

pub loop-slot-preserved : goal.loop-slot-preserved
loop-slot-preserved c = record {
  parts = c.in_ok-push.ensures.ok ∙ ap (λ ts. ts ++ c.in-Some.slot ∷ []) c.loop-slot.invariant.parts;
  left = one_taken c.loop-slot.yielded (into_iter_items c.next.new.self) c.in-Some.ensures.steps.0 c.loop-slot.invariant.left;
  long = omega (arith, c.loop-slot.invariant.long, c.in-Some.ensures.steps.1, ap (λ (left : List RowTree). length left) c.in-Some.ensures.steps.0);
}

pub returns : goal.returns
returns c =
    let done = all_taken c.loop-slot.yielded (into_iter_items c.loop-slot.slot-iterator) c.args.slots.items
    (c.loop-slot.invariant.left ∙ c.into_iter-slot-iterator.ensures.into_iter_gives.0) (sym c.loop-slot.invariant.long ∙ c.in-None.ensures.steps.0) in
    c.loop-slot.invariant.parts ∙ done

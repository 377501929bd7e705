use Rattle.std.proofs.Common.{◌+◌, refl, sym, subst, arith}
use Rattle.list_codec.specs.Elements.{elements_of}
use Rattle.list_codec.proofs.ElementRuns.{ReadSoFar, read_more, read_all, past_ordinals}
use Rattle.list_codec.proofs.ListElements.{elements_long}
use Rattle.list_codec.proofs.elements.Elements.ordinals.Goals as goal

pub returns-then-element-from : goal.returns-then-element-from
returns-then-element-from c =
    let long = elements_long c.args.self in
    (refl, past_ordinals (elements_of c.args.self) c.loop-index.index c.element-element.result (omega arith) c.element-element.ensures (omega arith))

pub loop-index-preserved : goal.loop-index-preserved
loop-index-preserved c =
    let long = elements_long c.args.self in
    subst (ReadSoFar (elements_of c.args.self) (c.loop-index.index + 1)) (sym c.in_ok-push.ensures.ok)
    (read_more (elements_of c.args.self) c.loop-index.index c.element-element.result c.loop-index.ordinals c.loop-index.invariant (omega arith) c.element-element.ensures (omega arith))

pub returns : goal.returns
returns c =
    let long = elements_long c.args.self in
    read_all (elements_of c.args.self) c.loop-index.index c.loop-index.ordinals c.loop-index.invariant (omega arith)

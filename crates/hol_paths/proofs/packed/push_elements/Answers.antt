use Rattle.std.proofs.Common.{arith}
use Rattle.list_codec.specs.Elements.{elements_of}
use Rattle.list_codec.proofs.ListElements.{elements_long}
use Rattle.hol_paths.proofs.PackedLists.{element_more, elements_done}
use Rattle.hol_paths.proofs.packed.push_elements.Goals as goal

pub loop-index-preserved : goal.loop-index-preserved
loop-index-preserved c =
    element_more (elements_of c.args.elements.now) c.loop-index.index c.element.result c.args.named.now.items c.loop-index.named.items c.push.new.self.items
    (omega (arith, c.loop-index-test.true, elements_long c.args.elements.now)) c.element.ensures c.loop-index.invariant c.in_ok-push.ensures.items

pub returns : goal.returns
returns c =
    elements_done (elements_of c.args.elements.now) c.loop-index.index c.args.named.now.items c.loop-index.named.items
    (omega (arith, c.loop-index-test.false, elements_long c.args.elements.now)) c.loop-index.invariant

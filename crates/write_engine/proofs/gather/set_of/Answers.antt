use Rattle.std.proofs.Common.{◌++◌, ◌∙◌, ap, subst, sym}
use Rattle.write_engine.specs.Cycle.{IsSetOf}
use Rattle.write_engine.proofs.Gathering.{is_set}
use Rattle.write_engine.proofs.gather.set_of.Goals as goal

pub returns : goal.returns
returns c =
    subst (IsSetOf c.args.elements.now) (sym c.from_vec.ensures)
    (is_set c.args.elements.now c.extend_from_slice.new.self.items c.sort_unstable.new.self.items c.dedup.new.self.items
    (c.in_ok-extend_from_slice.ensures.items ∙ ap (λ ms. ms ++ c.args.elements.now) c.in_ok-members.ensures.items)
    c.sort_unstable.ensures.permutation c.sort_unstable.ensures.sorted c.dedup.ensures.filtered)

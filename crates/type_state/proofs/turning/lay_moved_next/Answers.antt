use Rattle.std.proofs.Common.{rules, sym, subst}
use Rattle.type_state.specs.Kept.{IsPacked}
use Rattle.type_state.specs.Recorded.{CanCopy}
use Rattle.type_state.proofs.FixedHalves.{packed_by}
use Rattle.type_state.proofs.turning.lay_moved_next.Goals as goal

pub lay_copied_next-requires-clause-kept : goal.lay_copied_next-requires-clause-kept
lay_copied_next-requires-clause-kept c =
    let can : CanCopy c.args.schema.now.shape c.args.current.now c.args.next.now.half = c.can_copy.ensures (search rules) in
    subst (λ t. IsPacked c.args.schema.now.shape c.args.current.now t.current) (sym c.clear_next.ensures) (packed_by c.args.schema.now.shape c.args.current.now c.args.twin.now.current c.requires.kept can.places)

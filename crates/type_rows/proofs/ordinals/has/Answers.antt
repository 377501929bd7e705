use Rattle.std.proofs.Common.{arith}
use Rattle.type_rows.proofs.Walks.{no_member}
use Rattle.type_rows.proofs.ordinals.has.Goals as goal

pub returns-then-number-from : goal.returns-then-number-from
returns-then-number-from c =
    (λ e. absurd cc, λ at. absurd (no_member c.args.live.now c.args.number c.bound-bound.ensures.ordinals (omega (arith, c.if-number-from.true, c.from.ensures)) at))

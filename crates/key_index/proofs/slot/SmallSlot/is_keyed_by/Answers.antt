use Rattle.std.proofs.Common.{arith}
use Rattle.key_index.proofs.Forms.{one_long}
use Rattle.key_index.proofs.slot.SmallSlot.is_keyed_by.Goals as goal

pub returns-in_default : goal.returns-in_default
returns-in_default c = ((λ e. absurd cc), (λ h. (let long = one_long c.args.self.now c.args.key.now h in absurd (omega (arith, long, c.in_default.len_below)))))

pub returns-in_default-2 : goal.returns-in_default-2
returns-in_default-2 c = ((λ e. absurd cc), (λ h. (let long = one_long c.args.self.now c.args.key.now h in absurd (omega (arith, long, c.in_default.len_at_least)))))

use Rattle.std.proofs.Common.{sym, subst}
use Rattle.std.specs.Int.{IsPowerOfTwo}
use Rattle.key_index.proofs.Keeping.{greater_power}
use Rattle.hol_paths.proofs.distinct.buckets_for.Goals as goal

pub returns-clause-power : goal.returns-clause-power
returns-clause-power c = subst IsPowerOfTwo (sym c.max.ensures) (greater_power c.next_power_of_two.result c.args.before c.next_power_of_two.ensures.power c.requires)

use Rattle.std.proofs.Common.{rules}
use Rattle.seen_patches.proofs.Naming.{found_inside}
use Rattle.seen_patches.proofs.named_fields.NamedFields.find.Goals as goal

pub returns-clause-is : goal.returns-clause-is
returns-clause-is c = search rules

pub returns-clause-inside : goal.returns-clause-inside
returns-clause-inside c = found_inside c.args.self.now c.args.name.now c.copied.result (returns-clause-is c)

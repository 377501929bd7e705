use Rattle.std.proofs.Common.{sym, arith}
use Rattle.model_rules.proofs.JavaSizes.{size_zero, size_one, size_two, size_three, size_six}
use Rattle.model_rules.proofs.lengths.java_size.Goals as goal

pub returns-in-0-clause-size : goal.returns-in-0-clause-size
returns-in-0-clause-size c = sym (size_zero c.args.character (omega arith))

pub returns-in-1-to-127-clause-size : goal.returns-in-1-to-127-clause-size
returns-in-1-to-127-clause-size c = sym (size_one c.args.character (omega arith) (omega arith))

pub returns-in-128-to-2047-clause-size : goal.returns-in-128-to-2047-clause-size
returns-in-128-to-2047-clause-size c = sym (size_two c.args.character (omega arith) (omega arith))

pub returns-in-2048-to-65535-clause-size : goal.returns-in-2048-to-65535-clause-size
returns-in-2048-to-65535-clause-size c = sym (size_three c.args.character (omega arith) (omega arith))

pub returns-in_default-clause-size : goal.returns-in_default-clause-size
returns-in_default-clause-size c = sym (size_six c.args.character (omega arith))

use Rattle.std.proofs.Common.{subst}
use Rattle.hol_io.specs.Name.{TellsName}
use Rattle.hollow_top.proofs.Orders.{no_show, one_show}
use Rattle.hollow_top.proofs.words.show_of.Goals as goal

pub returns-in-Some-Snapshot : goal.returns-in-Some-Snapshot
returns-in-Some-Snapshot c = one_show c.args.name.now c.in-Some-Snapshot.version c.parse_name.result c.parse_name.ensures.named cc

pub returns-in_default-2 : goal.returns-in_default-2
returns-in_default-2 c = no_show c.args.name.now (subst (TellsName c.args.name.now) c.in_default.is c.parse_name.ensures.tells)

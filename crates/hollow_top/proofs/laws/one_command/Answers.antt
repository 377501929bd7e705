use Rattle.std.proofs.Common.{map, string_bytes}
use Rattle.hollow_top.proofs.OneAnswer.{one_asked}
use Rattle.hollow_top.proofs.laws.one_command.Goals as goal

pub returns : goal.returns
returns c = one_asked (map string_bytes c.args.words.now) c.command_of-command.result c.command_of-command.ensures

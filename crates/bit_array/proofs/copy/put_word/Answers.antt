use Rattle.std.proofs.Common.{rules}
use Rattle.bit_array.proofs.Runs.{word_put}
use Rattle.bit_array.proofs.copy.put_word.Goals as goal

pub returns : goal.returns
returns c = word_put c.args.words.now c.args.place c.args.word (search rules) c.requires

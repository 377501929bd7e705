use Rattle.key_index.proofs.Lists.{are_sorted}
use Rattle.key_index.proofs.key_rows.rising.Goals as goal

pub returns : goal.returns
returns c = are_sorted c.args.ordinals.items c.sort_unstable.new.self.items c.from_vec.result c.from_vec.ensures c.requires c.sort_unstable.ensures.permutation c.sort_unstable.ensures.sorted

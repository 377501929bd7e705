use Rattle.hol_paths.proofs.Pieces.{risen}
use Rattle.hol_paths.proofs.levels.rising.Goals as goal

pub returns : goal.returns
returns c = risen c.args.ordinals.items c.sort_unstable.new.self.items c.dedup.new.self.items c.from_vec.result c.from_vec.ensures c.sort_unstable.ensures.permutation c.sort_unstable.ensures.sorted c.dedup.ensures.filtered

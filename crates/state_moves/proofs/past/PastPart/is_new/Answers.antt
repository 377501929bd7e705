use Rattle.std.proofs.Common.{◌∙◌}
use Rattle.state_moves.proofs.PastRows.{search_new}
use Rattle.state_moves.proofs.past.PastPart.is_new.Goals as goal

pub returns : goal.returns
returns c = c.is_ok.ensures.value ∙ search_new c.args.self.now c.as_slice.result.now c.args.ordinal c.binary_search.result (c.as_slice.ensures ∙ c.came.ensures) c.requires c.binary_search.ensures.position

use Rattle.std.proofs.Common.{◌∙◌}
use Rattle.state_moves.proofs.PastRows.{search_left, search_no_left}
use Rattle.state_moves.proofs.past.PastPart.place_left.Goals as goal

pub returns-in-Ok : goal.returns-in-Ok
returns-in-Ok c = search_left c.args.self.now c.as_slice.result.now c.args.ordinal c.in-Ok.place (c.as_slice.ensures ∙ c.gone.ensures) c.requires.rising c.requires.rows c.in-Ok.ensures.position

pub returns-in-Err : goal.returns-in-Err
returns-in-Err c = search_no_left c.args.self.now c.as_slice.result.now c.args.ordinal c.in-Err.field-0 (c.as_slice.ensures ∙ c.gone.ensures) c.requires.rising c.in-Err.ensures.position

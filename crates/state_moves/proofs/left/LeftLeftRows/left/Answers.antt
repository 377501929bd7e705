use Rattle.std.proofs.Common.{◌<◌, List, Option, length, sym, subst}
use Rattle.std.specs.Prelude.{IsSomeAnd}
use Rattle.row_model.specs.declared.row.Row.{Row}
use Rattle.row_model.specs.Before.{PastPart}
use Rattle.state_moves.proofs.PastRows.{left_there, there_within}
use Rattle.state_moves.proofs.left.LeftLeftRows.left.Goals as goal

pub part_at-requires : goal.part_at-requires
part_at-requires c = there_within c.args.self.now.parts.now c.args.type_index (λ part. c.args.index < length part.rows) c.requires

pub row-requires : goal.row-requires
row-requires c =
    subst (λ (rows : List Row). c.args.index < length rows) (sym c.rows.ensures)
    (subst (λ (found : Option PastPart). IsSomeAnd found (λ part. c.args.index < length part.rows)) c.part_at.ensures c.requires)

pub returns : goal.returns
returns c = left_there c.args.self.now.parts.now c.args.type_index c.args.index c.part_at.result.now c.rows.result.now c.row.result c.part_at.ensures c.rows.ensures c.row.ensures

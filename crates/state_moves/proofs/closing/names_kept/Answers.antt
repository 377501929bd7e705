use Rattle.state_moves.specs.Closing.{KeepsNamed}
use Rattle.state_moves.proofs.Closed.{fields_tell}
use Rattle.state_moves.proofs.closing.names_kept.Goals as goal

pub returns-in-Object : goal.returns-in-Object
returns-in-Object c = fields_tell (KeepsNamed c.args.model.now c.args.past.now) c.args.shape.now c.in-Object.field-0 c.in-Object.fields c.as_slice.result.now c.keeps_referenced.result c.in-Object.is c.as_slice.ensures c.keeps_referenced.ensures

use Rattle.type_state.proofs.FieldBytes.{first_bytes_are}
use Rattle.type_state.proofs.field_bytes.first_bytes.Goals as goal

pub returns : goal.returns
returns c = first_bytes_are c.args.words.now c.args.len c.type_inv.words c.requires.inside

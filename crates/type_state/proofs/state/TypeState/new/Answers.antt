use Rattle.type_state.proofs.HalfRows.{bare_half}
use Rattle.type_state.proofs.state.TypeState.new.Goals as goal

pub returns : goal.returns
returns c = λ i. record {
  schema = c.args.schema;
  current = bare_half c.args.schema.shape c.bare_half.result c.new.result.current c.bare_half.ensures i;
  other = bare_half c.args.schema.shape c.bare_half-2.result c.new.result.other c.bare_half-2.ensures i;
}

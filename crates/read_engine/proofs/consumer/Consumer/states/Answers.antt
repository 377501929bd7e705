use Rattle.std.proofs.Common.{List, ap, map, ◌∙◌}
use Rattle.type_state.specs.State.{State}
use Rattle.type_state.specs.Views.{table_of}
use Rattle.state_moves.specs.Halves.{current_halves}
use Rattle.read_engine.proofs.Consumers.{named_are, table_is}
use Rattle.read_engine.proofs.consumer.Consumer.states.Goals as goal

pub returns-clause-table : goal.returns-clause-table
returns-clause-table c = ap (λ (states : List State). table_of (current_halves states)) c.as_slice.ensures ∙ table_is c.self.inside.tag c.self.inside.model c.self.inside.states c.self.inside.past c.self.inside.indexes c.self.inside.walks c.self.invariant c.args.self.now c.self.view_is

pub returns-clause-schemas : goal.returns-clause-schemas
returns-clause-schemas c = ap (λ (states : List State). map (λ (s : State). s.schema) states) c.as_slice.ensures ∙ named_are c.self.inside.tag c.self.inside.model c.self.inside.states c.self.inside.past c.self.inside.indexes c.self.inside.walks c.self.invariant c.args.self.now c.self.view_is

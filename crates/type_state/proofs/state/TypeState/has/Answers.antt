use Rattle.std.proofs.Common.{ap, refl}
use Rattle.std.proofs.lemmas.Bool.{false≢true}
use Rattle.type_state.specs.State.{State}
use Rattle.type_state.proofs.HalfRows.{has_rows, no_elements}
use Rattle.type_state.proofs.state.TypeState.has.Goals as goal

pub returns-then-not-contains : goal.returns-then-not-contains
returns-then-not-contains c = (
  λ never. absurd (false≢true never),
  λ at. absurd (no_elements c.self.inside.schema.shape c.self.inside.now c.self.inside.twin.current c.args.ordinal c.args.element c.args.self.now.current.rows (ap (λ (s : State). s.current.rows) c.self.view_is) (λ live. false≢true (c.if-not-contains.ensures.member.1 live)) at),
)

pub has-requires : goal.has-requires
has-requires c = has_rows c.self.inside.schema.shape c.self.inside.now c.self.inside.twin.current c.current.result.now c.args.ordinal c.current.ensures c.self.invariant.current_half (c.if-not-contains.ensures.member.0 refl)

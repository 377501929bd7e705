use Rattle.std.proofs.Common.{ap, ◌∙◌, arith}
use Rattle.std.specs.FinMap.{values}
use Rattle.type_rows.specs.WordsHeld.{bytes_held}
use Rattle.type_state.specs.State.{State}
use Rattle.type_state.proofs.AddedUp.{few_bytes}
use Rattle.type_state.proofs.HeldWords.{held_bytes}
use Rattle.type_state.proofs.state.TypeState.bytes_held.Goals as goal

pub bytes_of_half-requires : goal.bytes_of_half-requires
bytes_of_half-requires c = let few = few_bytes c.self.inside.schema.shape c.self.inside.now c.self.inside.twin.current c.self.invariant.current_half in omega (arith, few)

pub returns : goal.returns
returns c =
    c.bytes_of_half.ensures ∙ held_bytes c.self.inside.schema.shape c.self.inside.now c.self.inside.twin.current c.self.invariant.current_half
    ∙ ap (λ (s : State). bytes_held (values s.current.rows)) c.self.view_is

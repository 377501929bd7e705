use Rattle.std.proofs.Common.{List, ℕ, ap, length, ◌∙◌}
use Rattle.type_state.specs.State.{State}
use Rattle.type_state.specs.WordsHeld.{words_held}
use Rattle.type_state.proofs.HeldWords.{held_words}
use Rattle.type_state.proofs.state.TypeState.words_held.Goals as goal

pub returns : goal.returns
returns c =
    ap (λ (ws : List ℕ). length ws) c.current.ensures
    ∙ held_words c.self.inside.schema.shape c.self.inside.now c.self.inside.twin.current c.self.invariant.current_half c.self.invariant.current_long
    ∙ ap (λ (s : State). words_held s.schema.shape s.current) c.self.view_is

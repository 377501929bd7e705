-- The halves of some states, turned.
use Rattle.std.proofs.Common.{◌≡◌, List, [], ◌∷◌, map, refl, ap}
use Rattle.type_state.specs.State.{State}
use Rattle.type_state.specs.Views.{next_halves}
use Rattle.state_moves.specs.Halves.{current_halves}

abbrev pub turned : State → State
turned state = record { schema = state.schema; current = state.other; other = state.current }

pub all_turned : (states : List State) → current_halves (map turned states) ≡ next_halves states
all_turned [] = refl
all_turned (state ∷ states) = ap (λ rest. state.other ∷ rest) (all_turned states)

pub same_schemas : (states : List State) → map (λ (s : State). s.schema) (map turned states) ≡ map (λ (s : State). s.schema) states
same_schemas [] = refl
same_schemas (state ∷ states) = ap (λ rest. state.schema ∷ rest) (same_schemas states)

-- The current halves of the types of a state.
use Rattle.std.specs.Prelude.{List, map}
use Rattle.type_state.specs.State.{Half, State}

-- the current halves
abbrev pub current_halves : List State → List Half
current_halves states = map (λ state. state.current) states

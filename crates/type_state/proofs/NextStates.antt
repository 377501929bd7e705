-- The rows in the next halves of some states, as a table.
use Rattle.std.proofs.Common.{◌≡◌, ℕ, List, None, Some, ap, ◌∙◌}
use Rattle.std.specs.Prelude.{slice_get}
use Rattle.std.specs.Option.{option_map}
use Rattle.std.proofs.lemmas.Option.{slice_get-map}
use Rattle.type_state.specs.State.{Half, State}
use Rattle.type_state.specs.Views.{table_of, next_halves}

pub next_at : (states : List State) (t : ℕ) (state : State) → slice_get states t ≡ Some state → slice_get (table_of (next_halves states)) t ≡ Some state.other.rows
next_at states t state is =
    slice_get-map (λ (half : Half). half.rows) (next_halves states) t
    ∙ ap (option_map (λ (half : Half). half.rows)) (slice_get-map (λ (s : State). s.other) states t ∙ ap (option_map (λ (s : State). s.other)) is)

pub next_off : (states : List State) (t : ℕ) → slice_get states t ≡ None → slice_get (table_of (next_halves states)) t ≡ None
next_off states t none =
    slice_get-map (λ (half : Half). half.rows) (next_halves states) t
    ∙ ap (option_map (λ (half : Half). half.rows)) (slice_get-map (λ (s : State). s.other) states t ∙ ap (option_map (λ (s : State). s.other)) none)

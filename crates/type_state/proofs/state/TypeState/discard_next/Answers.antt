use Rattle.std.proofs.Common.{[], ◌∙◌, ap}
use Rattle.raw_words.specs.Twin.{Twin}
use Rattle.type_state.specs.Kept.{half_in}
use Rattle.type_state.specs.State.{Half, State, empty_half}
use Rattle.type_state.proofs.HalfRows.{bare_half}
use Rattle.type_state.proofs.state.TypeState.discard_next.Goals as goal

pub returns : goal.returns
returns c =
    ap
    (λ (t : Twin). record {
      schema = c.self.inside.schema;
      current = half_in c.self.inside.schema.shape c.self.inside.now t.current;
      other = half_in c.self.inside.schema.shape c.bare_half.result t.other;
    })
    c.clear_next.ensures
    ∙ ap (λ (h : Half). record { schema = c.self.inside.schema; current = half_in c.self.inside.schema.shape c.self.inside.now c.self.inside.twin.current; other = h })
    (bare_half c.self.inside.schema.shape c.bare_half.result [] c.bare_half.ensures)
    ∙ ap (λ (s : State). record s { other = empty_half }) c.self.view_is

use Rattle.std.proofs.Common.{ap, ◌∙◌}
use Rattle.std.specs.FinMap.{keys}
use Rattle.type_state.specs.PackedRows.{Standing}
use Rattle.type_state.proofs.Halves.{half_keys}
use Rattle.type_state.proofs.packed_rows.PackedRows.live.Goals as goal

pub returns : goal.returns
returns c = half_keys c.self.inside.schema.now.shape c.self.inside.half.now c.self.inside.words.now c.self.invariant ∙ ap (λ (s : Standing). keys s.rows) c.self.view_is

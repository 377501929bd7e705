use Rattle.std.proofs.Common.{◌∙◌, ◌++◌, ◌∷◌, [], ℕ, List, ap, arith}
use Rattle.schema_model.specs.declared.schema.Shape.{Shape}
use Rattle.bucket_codec.specs.Widths.{set_widths}
use Rattle.kept_sums.proofs.Reading.{value_width}
use Rattle.kept_sums.proofs.widths.map_widths.Goals as goal

pub returns : goal.returns
returns c = λ key value rows are is.
    let last = value_width key value rows c.part_width.result (c.part_width.ensures (Shape.Map key value) rows are (omega arith)) in
    c.in_ok-push.ensures.ok
    ∙ ap (λ (ws : List ℕ). ws ++ c.part_width.result ∷ []) (c.in_ok-widths.ensures (Shape.Map key value) rows tt are is)
    ∙ ap (λ n. set_widths rows ++ n ∷ []) last

use Rattle.std.proofs.Common.{◌≡◌, ◌∙◌, sym, ap}
use Rattle.std.specs.Bool.{Decides}
use Rattle.std.proofs.lemmas.Slice.Eq.{slice_eq-Decides}
use Rattle.schema_model.specs.declared.model.walk_path.WalkPath.{WalkPath}
use Rattle.read_engine.proofs.SameParts.{same_part}
use Rattle.read_engine.proofs.walks.is_same.Goals as goal

pub returns-then-path-other : goal.returns-then-path-other
returns-then-path-other c =
    let same : Decides c.eq.result (c.as_slice.result.now ≡ c.as_slice-then-path-other.result.now) = slice_eq-Decides same_part c.as_slice.result.now c.as_slice-then-path-other.result.now c.eq.result c.eq.ensures in (
      λ told. let parts = sym c.as_slice.ensures ∙ same.0 told ∙ c.as_slice-then-path-other.ensures in λ i. record { type_index = c.if-path-other.true i; parts = parts i },
      λ e. same.1 (c.as_slice.ensures ∙ ap (λ (p : WalkPath). p.parts) e ∙ sym c.as_slice-then-path-other.ensures),
    )

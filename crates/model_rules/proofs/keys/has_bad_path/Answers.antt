use Rattle.std.proofs.Common.{◌≡◌, false, true, length, ◌≤◌, subst}
use Rattle.schema_model.specs.Model.{IsBadPath}
use Rattle.model_rules.proofs.RuleTests.{none_any}
use Rattle.model_rules.proofs.keys.has_bad_path.Goals as goal

pub returns : goal.returns
returns c =
    let all : length c.args.paths.now ≤ c.loop-path.path-index = subst (λ xs. length xs ≤ c.loop-path.path-index) c.as_slice-path-items.ensures c.loop-path-test.false in (
      λ e. absurd (let bad : false ≡ true = e in cc),
      λ some. absurd (none_any (IsBadPath c.args.schemas.now c.args.type_index) c.args.paths.now c.loop-path.path-index all c.loop-path.invariant some),
    )

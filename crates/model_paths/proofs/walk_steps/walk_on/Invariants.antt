use Rattle.std.proofs.Common.{◌≡◌, ◌++◌, map, take}
use Rattle.schema_model.specs.declared.model.walk_path.WalkPart.TheVariants.{Field as FieldPart}
use Rattle.model_paths.proofs.walk_steps.walk_on.Given as goal

-- the first fields are added as parts
abbrev pub invariant-loop-place : goal.invariant-loop-place
invariant-loop-place l = l.parts ≡ l.fn.parts ++ map FieldPart (take l.place-index l.place-items)

use Rattle.std.proofs.Common.{◌≡◌, ◌++◌, drop, List, Option}
use Rattle.std.specs.Option.{option_map}
use Rattle.schema_model.specs.declared.model.path.Path.{Path}
use Rattle.row_model.specs.declared.row.Value.{Value}
use Rattle.row_model.specs.Key.{key_of}
use Rattle.key_index.proofs.read.read_key.Given as goal

abbrev pub invariant-loop-path : goal.invariant-loop-path
invariant-loop-path g l =
    let whole : List Path → Option (List Value) = λ paths. key_of (g.R.Rows.schemas l.rows) (g.R.Rows.table l.rows) l.type_index paths l.ordinal in
    whole l.paths ≡ option_map (λ rest. l.key ++ rest) (whole (drop l.path-index l.paths))

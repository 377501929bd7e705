use Rattle.std.proofs.Common.{◌≡◌, take}
use Rattle.row_model.specs.View.{seen_values as values_of}
use Rattle.seen_rows.proofs.seen.seen_values.Given as goal

-- the values for the first fields
abbrev pub invariant-loop-field : goal.invariant-loop-field
invariant-loop-field l = l.seen ≡ values_of l.own (take l.field-index l.mine) l.values

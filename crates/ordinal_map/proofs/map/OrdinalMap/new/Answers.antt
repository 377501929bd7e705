use Rattle.std.proofs.Common.{ap, ◌∙◌}
use Rattle.ordinal_map.specs.KeptRows.{rows_of}
use Rattle.ordinal_map.proofs.SetRows.{no_members}
use Rattle.ordinal_map.proofs.map.OrdinalMap.new.Goals as goal

pub returns : goal.returns
returns c = λ i. record {
  previous = (ap (rows_of c.new.result.items) c.new-2.ensures ∙ no_members c.new.result.items) i;
  current = (ap (rows_of c.new.result.items) c.new-3.ensures ∙ no_members c.new.result.items) i;
}

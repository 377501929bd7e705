use Rattle.serde_json.specs.View.{view}
use Rattle.chain_laws.proofs.OldRows.{reader_old, was_as_row, wasget_as_get}
use Rattle.chain_laws.proofs.laws.chain_old_rows.Goals as goal

pub returns : goal.returns
returns c = record {
  rows = λ machine chain now version table of was rows. reader_old machine chain now version table of was rows;
  was = λ machine next chain now version name ordinal answer of at reaches step. was_as_row machine chain of now at version reaches name ordinal answer step.0;
  wasget = λ machine next chain now version name values answer of at reaches step. wasget_as_get machine chain of now at version reaches name (view values) answer step.0;
}

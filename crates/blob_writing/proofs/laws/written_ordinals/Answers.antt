use Rattle.ordinal_set.specs.Gaps.{gap_bytes}
use Rattle.blob_writing.proofs.SpelledItems.{spells_area}
use Rattle.blob_writing.proofs.WrittenGaps.{gaps_stand}
use Rattle.blob_writing.proofs.laws.written_ordinals.Goals as goal

pub returns : goal.returns
returns c = record {
  run = λ list before behind few. (spells_area (gap_bytes list) few).stands before behind;
  gaps = gaps_stand;
}

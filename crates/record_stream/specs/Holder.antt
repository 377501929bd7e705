-- The orders whose records stand in their line: the word of each, the name of the member under which the records are, and that of its other member.
use Rattle.std.specs.Prelude.{ℕ, List, codes}
use Rattle.record_stream.specs.declared.holder.Holder.{Holder}
use Rattle.record_stream.specs.declared.holder.Holder.TheVariants.{Cycle, Change}

abbrev pub word : Holder → List ℕ
word Cycle = codes "cycle"
word Change = codes "change"

abbrev pub records_name : Holder → List ℕ
records_name Cycle = codes "add"
records_name Change = codes "put"

abbrev pub other_name : Holder → List ℕ
other_name Cycle = codes "snapshot"
other_name Change = codes "remove"

use Rattle.row_packing.proofs.WrittenSections as written
use Rattle.row_packing.proofs.laws.written_section.Goals as goal

pub returns : goal.returns
returns c = record { is = written.section_is; readable = written.section_readable; loads = written.section_loads; holds = written.section_holds; holds_before = written.section_holds_before }

use Rattle.column_rows.proofs.SameRows.{same_text}
use Rattle.column_rows.proofs.same_values.is_shown_same.Goals as goal

pub returns-in-Text-Text : goal.returns-in-Text-Text
returns-in-Text-Text c = λ same. same_text c.args.shown c.args.beside c.in-Text-Text.bytes c.in-Text-Text.others c.in-Text-Text.is-0 c.in-Text-Text.is-1 (c.are_bytes_same.ensures same)

use Rattle.answer_laws.proofs.Keeping.{line_keeps}
use Rattle.answer_laws.proofs.Putting.{line_puts_bytes}
use Rattle.answer_laws.proofs.laws.line_keeps_sound.Goals as goal

pub returns : goal.returns
returns c = record { puts = λ machine line sound. line_puts_bytes machine line sound.spelled; sound = line_keeps }

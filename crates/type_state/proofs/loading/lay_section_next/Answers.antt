use Rattle.type_state.proofs.Fitting.{words_fit}
use Rattle.type_state.proofs.loading.lay_section_next.Goals as goal

pub words_of_half-requires : goal.words_of_half-requires
words_of_half-requires c = words_fit c.args.schema.now.shape c.args.section.now c.args.half.now c.requires.loads

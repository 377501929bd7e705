use Rattle.answer_once.proofs.laws.one_order_answer.Goals as goal

pub returns : goal.returns
returns c = record {
  told = λ machine chain asked kept over position sound is settled none. c.some_answer.ensures.told machine asked sound is settled
      (λ answer next step. none answer next step (λ other after too. c.one_answer.ensures machine after next chain asked other answer kept over position too step));
  shown = λ machine chain asked kept over position shown showing none. c.some_answer.ensures.shown machine asked shown showing
      (λ answer next step. none answer next step (λ other after too. c.one_answer.ensures machine after next chain asked other answer kept over position too step));
}

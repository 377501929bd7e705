use Rattle.answer_once.proofs.laws.one_make_answer.Goals as goal

pub returns : goal.returns
returns c = λ store seed rows cycles bytes none.
    c.some_make.ensures store seed rows cycles bytes
    (λ answer next makes. none answer next makes (λ other after too. c.one_make.ensures store after next seed rows cycles other answer too makes))

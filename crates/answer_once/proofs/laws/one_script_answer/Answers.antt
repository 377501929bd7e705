use Rattle.hollow_machine.specs.State.{started}
use Rattle.answer_once.proofs.laws.one_script_answer.Goals as goal

pub returns : goal.returns
returns c = λ store lines bytes none.
    c.some_script.ensures (started store) lines (record { bytes = bytes; producer = tt; spelled = tt; consumer = tt }) tt tt
    (λ text refused next script. none text refused next script (λ other also after too. c.one_script.ensures.run store after next lines other text also refused too script))

use Rattle.hollow_machine.specs.State.{started}
use Rattle.chain_laws.proofs.OneScript.{chain_sound, script_one}
use Rattle.chain_laws.proofs.laws.one_script.Goals as goal

pub returns-clause-run : goal.returns-clause-run
returns-clause-run c = λ store next after lines text other refused also one two.
    script_one (c.one_written_snapshot.ensures, c.one_written_delta.ensures) c.one_order.ensures (started store) next after lines text other refused also (tt, tt) one two

pub returns-clause-lines : goal.returns-clause-lines
returns-clause-lines c = λ machine next after lines text other refused also chain kept over of one two.
    script_one (c.one_written_snapshot.ensures, c.one_written_delta.ensures) c.one_order.ensures machine next after lines text other refused also (chain_sound machine chain kept over of) one two

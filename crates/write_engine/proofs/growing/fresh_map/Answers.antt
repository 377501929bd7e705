use Rattle.std.proofs.Common.{arith}
use Rattle.write_engine.proofs.GrownTypes.{rows_new}
use Rattle.write_engine.proofs.growing.fresh_map.Goals as goal
use Rattle.write_engine.proofs.growing.fresh_map.Goals.{then-type_index-len-via-then-type_index-len, then-type_index-len-via-else-type_index-len+then-has_stayed}

pub returns-then-type_index-len : goal.returns-then-type_index-len
returns-then-type_index-len c = λ not. elim c.then-type_index-len.branch [
  | then-type_index-len-via-then-type_index-len w ↦ rows_new c.args.model.now c.args.grown.now c.args.maps.now c.requires.may c.args.type_index c.new.result (omega (arith, w.if-type_index-len.true, c.len.ensures.count)) c.new.ensures
  | then-type_index-len-via-else-type_index-len+then-has_stayed w ↦ absurd (not (w.has_stayed.ensures.0 w.if-has_stayed.true))
]

use Rattle.std.proofs.Common.{◌≡◌, ◌++◌, take, drop, map}
use Rattle.write_engine.specs.Production.{filled}
use Rattle.write_engine.proofs.states.keep_some.Given as goal

abbrev pub invariant-loop-rows : goal.invariant-loop-rows
invariant-loop-rows l = l.rows-items ≡ map filled (take l.rows-index l.fn.maps.items) ++ drop l.rows-index l.fn.maps.items

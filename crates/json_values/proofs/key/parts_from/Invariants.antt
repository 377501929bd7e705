-- The values that were read are the first of the key.
use Rattle.json_values.proofs.KeyParts.{WasTaken}
use Rattle.json_values.proofs.key.parts_from.Given as goal

abbrev pub invariant-loop-place : goal.invariant-loop-place
invariant-loop-place l = WasTaken l.model l.paths l.values l.place l.key

use Rattle.std.proofs.Common.{take}
use Rattle.std.specs.List.{AllZip}
use Rattle.schema_model.specs.Path.{Resolves}
use Rattle.hol_incremental.proofs.key_paths.resolve_all.Given as goal

abbrev pub invariant-loop-text : goal.invariant-loop-text
invariant-loop-text l = AllZip (λ text path. Resolves l.model l.type_index text path) (take l.text-index l.texts) l.paths

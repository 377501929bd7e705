use Rattle.std.proofs.Common.{List, ap, ◌∙◌, arith, take}
use Rattle.std.specs.List.{list_any}
use Rattle.std.specs.Ordering.{is_eq}
use Rattle.hol_history.specs.declared.spots.Spot.{Spot}
use Rattle.hol_history.specs.Spots.{KeepsOthers, has, names, spot, spot_cmp}
use Rattle.hol_history.proofs.SpotSets.{names_front, none_or, on_err, put_more}
use Rattle.hol_history.proofs.spots.put_spots.Goals as goal

pub returns-in_err-insert-clause-err : goal.returns-in_err-insert-clause-err
returns-in_err-insert-clause-err c =
    on_err c.from_residual.result (KeepsOthers (names c.args.type_index c.args.ordinals.now c.args.number) c.args.spots.now c.insert.new.self) (λ t o n none.
    ap (λ (keys : List Spot). list_any (λ k. is_eq (spot_cmp (spot t o n) k)) keys) c.in_err-insert.ensures.err
    ∙ c.loop-ordinal.invariant t o n
    ∙ none_or (has c.args.spots.now t o n) (names c.args.type_index (take c.loop-ordinal.ordinal-index c.args.ordinals.now) c.args.number t o n) (names_front c.args.type_index c.args.number c.loop-ordinal.ordinal-index t o n c.args.ordinals.now none))

pub loop-ordinal-preserved : goal.loop-ordinal-preserved
loop-ordinal-preserved c =
    put_more c.args.spots.now c.loop-ordinal.spots c.insert.new.self c.args.type_index c.args.number c.loop-ordinal.ordinal-index c.args.ordinals.now (omega arith) c.loop-ordinal.invariant c.in_ok-insert.ensures.updates.0

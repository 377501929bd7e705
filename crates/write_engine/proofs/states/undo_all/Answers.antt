use Rattle.std.proofs.Common.{◌∙◌, ap, sym, arith, slice_set}
use Rattle.std.proofs.lemmas.List.Edits.{map_over_more}
use Rattle.write_engine.specs.Production.{undone}
use Rattle.write_engine.proofs.states.undo_all.Goals as goal

pub loop-rows-preserved : goal.loop-rows-preserved
loop-rows-preserved c =
    ap (slice_set c.loop-rows.rows-items c.loop-rows.rows-index) (c.undo.ensures ∙ ap undone (sym c.rows-item.is))
    ∙ map_over_more undone c.args.maps.now.items c.loop-rows.rows-items c.loop-rows.rows-index c.rows-item.result (omega arith) c.loop-rows.invariant c.rows-item.is

use Rattle.std.proofs.Common.{◌∙◌, ap, sym, arith, slice_set}
use Rattle.std.proofs.lemmas.List.Edits.{map_over_more}
use Rattle.hol_incremental.specs.Keeping.{settled}
use Rattle.hol_incremental.proofs.key_indexes.forget_all.Goals as goal

pub loop-index-preserved : goal.loop-index-preserved
loop-index-preserved c =
    ap (slice_set c.loop-index.index-items c.loop-index.index-index) (c.forget_one.ensures ∙ ap settled (sym c.index-item.is))
    ∙ map_over_more settled c.args.keys.now.items c.loop-index.index-items c.loop-index.index-index c.index-item.result (omega arith) c.loop-index.invariant c.index-item.is

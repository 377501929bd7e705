use Rattle.std.proofs.Common.{◌∙◌, ap, subst, sym, arith, slice_set}
use Rattle.std.proofs.lemmas.List.Edits.{map_over_more}
use Rattle.hol_incremental.specs.Keeping.{IsReserved, moved}
use Rattle.hol_incremental.proofs.IndexRows.{reserved_at}
use Rattle.hol_incremental.proofs.key_indexes.update_all.Goals as goal

pub loop-index-preserved : goal.loop-index-preserved
loop-index-preserved c =
    ap (slice_set c.loop-index.index-items c.loop-index.index-index) (c.update_one.ensures ∙ ap moved (sym c.index-item.is))
    ∙ map_over_more moved c.args.keys.now.items c.loop-index.index-items c.loop-index.index-index c.index-item.result (omega arith) c.loop-index.invariant c.index-item.is

pub update_one-requires : goal.update_one-requires
update_one-requires c =
    subst IsReserved c.index-item.is
    (reserved_at c.args.keys.now.items c.loop-index.index-items c.loop-index.index-index c.index-item.result (omega arith) c.loop-index.invariant c.index-item.is c.requires)

use Rattle.std.proofs.Common.{◌∙◌, ap, sym, arith, get_or, slice_set}
use Rattle.std.proofs.lemmas.List.Edits.{map_over_more}
use Rattle.ordinal_map.specs.States.{States}
use Rattle.write_engine.specs.Production.{filled}
use Rattle.write_engine.proofs.Filling.{none_at, none_filled, on_err, read_behind}
use Rattle.write_engine.proofs.states.keep_some.Goals as goal

pub keep_all-requires : goal.keep_all-requires
keep_all-requires c =
    let maps = c.args.maps.now.items in
    let k = c.loop-rows.rows-index in
    let s = c.rows-item.result in
    ap (λ (states : States). states.current) (sym c.rows-item.is)
    ∙ none_at maps k s c.requires (omega arith) (c.rows-item.is ∙ ap (λ items. get_or items k s) c.loop-rows.invariant ∙ read_behind maps k s (omega arith))

pub returns-in_err-keep_all-clause-refused : goal.returns-in_err-keep_all-clause-refused
returns-in_err-keep_all-clause-refused c =
    on_err c.from_residual.result
    (none_filled c.args.maps.now.items c.loop-rows.rows-items c.loop-rows.rows-index c.args.maps.now.len c.rows-item.result c.keep_all.new.self c.requires c.args.maps.now.ok.0 c.loop-rows.invariant c.rows-item.is
    c.in_err-keep_all.ensures.refused)

pub loop-rows-preserved : goal.loop-rows-preserved
loop-rows-preserved c =
    ap (slice_set c.loop-rows.rows-items c.loop-rows.rows-index) (c.in_ok-keep_all.ensures.kept ∙ ap filled (sym c.rows-item.is))
    ∙ map_over_more filled c.args.maps.now.items c.loop-rows.rows-items c.loop-rows.rows-index c.rows-item.result (omega arith) c.loop-rows.invariant c.rows-item.is

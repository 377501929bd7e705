use Rattle.std.proofs.Common.{◌∙◌, ap, sym, subst}
use Rattle.write_engine.specs.Production.{IsProducing, current_of, previous_of}
use Rattle.record_trees.specs.Tree.{plain}
use Rattle.write_engine.proofs.Producing.{added_producing, count_types, failed_producing, failed_current, undone_previous}
use Rattle.write_engine.proofs.producer.add_or_undo.Goals as goal

pub add_rows-requires-clause-types : goal.add_rows-requires-clause-types
add_rows-requires-clause-types c = count_types c.args.model.now c.args.maps.now.items c.requires.producing

pub returns-in-Ok-clause-producing : goal.returns-in-Ok-clause-producing
returns-in-Ok-clause-producing c =
    added_producing c.args.model.now c.args.maps.now.items c.add_rows.new.maps.items c.args.type_index c.in-Ok.ordinal (plain c.args.tree.now) c.requires.producing c.add_rows.ensures.previous c.in-Ok.ensures.added

pub returns-in-Err-clause-producing : goal.returns-in-Err-clause-producing
returns-in-Err-clause-producing c = subst (IsProducing c.args.model.now) (sym c.undo_all.ensures) (failed_producing c.args.model.now c.args.maps.now.items c.add_rows.new.maps.items c.requires.producing c.add_rows.ensures.previous)

pub returns-in-Err-clause-previous : goal.returns-in-Err-clause-previous
returns-in-Err-clause-previous c = ap previous_of c.undo_all.ensures ∙ undone_previous c.add_rows.new.maps.items ∙ c.add_rows.ensures.previous

pub returns-in-Err-clause-undone : goal.returns-in-Err-clause-undone
returns-in-Err-clause-undone c = ap current_of c.undo_all.ensures ∙ failed_current c.args.model.now c.args.maps.now.items c.add_rows.new.maps.items c.requires.producing c.add_rows.ensures.previous

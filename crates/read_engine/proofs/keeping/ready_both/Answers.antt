use Rattle.std.proofs.Common.{List, map, ap, subst, sym, refl, ◌∙◌}
use Rattle.std.specs.Prelude.{All}
use Rattle.schema_model.specs.declared.schema.Schema.{Schema}
use Rattle.row_model.specs.Table.{Table}
use Rattle.read_engine.specs.Kept.{IsWalkReady, settled, walk_settled}
use Rattle.read_engine.proofs.Those.{done_once}
use Rattle.read_engine.proofs.keeping.ready_both.Goals as goal

pub returns-in-Ok-clause-ready : goal.returns-in-Ok-clause-ready
returns-in-Ok-clause-ready g c =
    subst (λ (table : Table). All (IsWalkReady c.args.model.now table) c.ready_all_of.new.walks) c.coming_of-rows.ensures.table
    (subst (λ (schemas : List Schema). All (IsWalkReady schemas c.coming_of-rows.result.table) c.ready_all_of.new.walks) c.coming_of-rows.ensures.schemas c.in-Ok.ensures.ready)

pub returns-in-Err-clause-kept : goal.returns-in-Err-clause-kept
returns-in-Err-clause-kept g c = ap (map settled) c.settle_all.ensures ∙ done_once settled (λ x. refl) c.ready_all_of.new.indexes ∙ c.in-Err.ensures.kept

pub returns-in-Err-clause-walks_kept : goal.returns-in-Err-clause-walks_kept
returns-in-Err-clause-walks_kept g c = ap (map walk_settled) c.settle_all-in-Err.ensures ∙ done_once walk_settled (λ x. refl) c.ready_all_of.new.walks ∙ c.in-Err.ensures.walks_kept

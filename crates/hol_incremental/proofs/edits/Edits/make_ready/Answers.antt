use Rattle.std.proofs.Common.{◌∙◌, List, ap, arith, map, refl, subst, sym}
use Rattle.std.proofs.lemmas.List.{with_items_is}
use Rattle.schema_model.specs.declared.schema.Schema.{Schema}
use Rattle.row_model.specs.Table.{Table}
use Rattle.hol_incremental.specs.EditKeys.{AreEditsOf}
use Rattle.hol_incremental.specs.Keeping.{AreReadyKeys, settled}
use Rattle.hol_incremental.proofs.KeptEdits.{kept_edits, one_row}
use Rattle.hol_incremental.proofs.edits.Edits.make_ready.Goals as goal

pub reserve_all-requires-clause-agree : goal.reserve_all-requires-clause-agree
reserve_all-requires-clause-agree g c =
    one_row c.args.producer.now.previous c.args.producer.now.current c.previous.result.table c.current.result.table c.previous.ensures.table c.current.ensures.table c.current.ensures.agree

pub returns-in_err-reserve_all-clause-edits : goal.returns-in_err-reserve_all-clause-edits
returns-in_err-reserve_all-clause-edits g c =
    let items = with_items_is c.self.inside.keys c.reserve_all.new.keys (omega (arith, c.reserve_all.auto.keys, c.as_mut_slice.ensures.len)) in
    kept_edits c.args.producer.now.schemas c.args.producer.now.previous _ (subst (AreEditsOf c.args.producer.now.schemas c.args.producer.now.previous) (sym c.self.view_is) c.requires.edits) _ refl refl refl
    (ap (map settled) items ∙ c.reserve_all.ensures.kept ∙ ap (map settled) c.as_mut_slice.ensures.value)

pub returns-clause-edits : goal.returns-clause-edits
returns-clause-edits g c =
    let items = with_items_is c.self.inside.keys c.reserve_all.new.keys (omega (arith, c.reserve_all.auto.keys, c.as_mut_slice.ensures.len)) in
    kept_edits c.args.producer.now.schemas c.args.producer.now.previous _ (subst (AreEditsOf c.args.producer.now.schemas c.args.producer.now.previous) (sym c.self.view_is) c.requires.edits) _ refl refl refl
    (ap (map settled) items ∙ c.reserve_all.ensures.kept ∙ ap (map settled) c.as_mut_slice.ensures.value)

pub returns-clause-ready : goal.returns-clause-ready
returns-clause-ready g c =
    let S = c.args.producer.now.schemas in
    let next = c.args.producer.now.current in
    let items = with_items_is c.self.inside.keys c.reserve_all.new.keys (omega (arith, c.reserve_all.auto.keys, c.as_mut_slice.ensures.len)) in
    record {
      now = kept_edits S c.args.producer.now.previous _ (subst (AreEditsOf S c.args.producer.now.previous) (sym c.self.view_is) c.requires.edits) _ refl refl refl
          (ap (map settled) items ∙ c.reserve_all.ensures.kept ∙ ap (map settled) c.as_mut_slice.ensures.value);
      counts = c.requires.counts;
      sections = tt;
      keys = subst (AreReadyKeys S next) (sym items)
          (subst (λ (table : Table). AreReadyKeys S table c.reserve_all.new.keys) c.current.ensures.table
          (subst (λ (schemas : List Schema). AreReadyKeys schemas c.current.result.table c.reserve_all.new.keys) c.previous.ensures.schemas c.in_ok-reserve_all.ensures.ready));
    }

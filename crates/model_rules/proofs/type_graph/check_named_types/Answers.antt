use Rattle.std.proofs.Common.{sym, ap, ◌∙◌, arith, refl, below_more, map, take, ◌++◌, ◌∷◌, []}
use Rattle.std.specs.BTreeMap.{get_by_text}
use Rattle.schema_model.specs.Model.{named_indexes}
use Rattle.schema_model.specs.declared.model.rule.Rule.TheVariants.{UnknownType}
use Rattle.model_rules.proofs.NamedTypes.{known_row, names_known, names_unknown, rows_more}
use Rattle.model_rules.proofs.RuleTests.{kept_below}
use Rattle.model_rules.proofs.type_graph.check_named_types.Goals as goal

pub returns-in-None-clause-tells : goal.returns-in-None-clause-tells
returns-in-None-clause-tells c =
    (refl, names_unknown c.args.schemas.now (get_by_text c.args.index.now) c.loop-type_index.type_index c.get.result.now c.get.ensures c.requires.indexed (sym c.in-None.is ∙ c.in_ok-row.ensures), c.loop-type_index.invariant.0)

pub loop-type_index-preserved : goal.loop-type_index-preserved
loop-type_index-preserved c =
    let schemas = c.args.schemas.now in
    let schema = c.get.result.now in
    let known = known_row schemas (get_by_text c.args.index.now) schema c.in-Some.row c.requires.indexed (sym c.in-Some.is ∙ c.in_ok-row.ensures) in (
      below_more _ _ c.loop-type_index.invariant.0 (names_known schemas c.loop-type_index.type_index schema c.get.ensures known.0),
      c.in_ok-push-in-Some.ensures.ok
          ∙ ap (λ graph. graph ++ c.in-Some.row ∷ []) c.loop-type_index.invariant.1
          ∙ ap (λ row. map (named_indexes schemas) (take c.loop-type_index.type_index schemas) ++ row ∷ []) known.1
          ∙ sym (rows_more (named_indexes schemas) schemas c.loop-type_index.type_index schema c.get.ensures),
    )

pub returns-clause-tells : goal.returns-clause-tells
returns-clause-tells c = kept_below c.args.schemas.now UnknownType c.loop-type_index.type_index (omega arith) c.loop-type_index.invariant.0

use Rattle.std.proofs.Common.{sym, ap, ◌∙◌, refl, arith}
use Rattle.std.proofs.lemmas.Option.{slice_get_within}
use Rattle.model_rules.specs.RuleTests.{chained}
use Rattle.schema_model.specs.declared.model.rule.Rule.TheVariants.{TooDeep}
use Rattle.model_rules.proofs.ReferenceChains.{depth_marks, first_broken, none_broken}
use Rattle.model_rules.proofs.chains.check_depth.Goals as goal

pub overflow_cast-result : goal.overflow_cast-result
overflow_cast-result c =
    let marks = depth_marks c.args.schemas.now c.as_slice.result.now (c.as_slice.ensures.value ∙ c.in_ok-marks.ensures ∙ ap (λ rs. chained rs 32) c.requires.graph) in
    let broken = (first_broken c.args.schemas.now TooDeep c.as_slice.result.now marks c.in-Some.type_index (sym c.first_mark.ensures ∙ c.in-Some.is)).0 in
    let inside = slice_get_within c.args.schemas.now c.in-Some.type_index broken.0 broken.1 in
    omega arith

pub returns-in-Some : goal.returns-in-Some
returns-in-Some c =
    let marks = depth_marks c.args.schemas.now c.as_slice.result.now (c.as_slice.ensures.value ∙ c.in_ok-marks.ensures ∙ ap (λ rs. chained rs 32) c.requires.graph) in
    let found = first_broken c.args.schemas.now TooDeep c.as_slice.result.now marks c.in-Some.type_index (sym c.first_mark.ensures ∙ c.in-Some.is) in
    (refl, found.0, found.1)

pub returns : goal.returns
returns c =
    let marks = depth_marks c.args.schemas.now c.as_slice.result.now (c.as_slice.ensures.value ∙ c.in_ok-marks.ensures ∙ ap (λ rs. chained rs 32) c.requires.graph) in
    none_broken c.args.schemas.now TooDeep c.as_slice.result.now marks (sym c.first_mark.ensures ∙ c.in-None.is)

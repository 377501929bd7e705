use Rattle.std.proofs.Common.{◌≡◌, sym, ap, ◌∙◌, refl, arith, ◌+◌}
use Rattle.std.proofs.lemmas.Option.{slice_get_within}
use Rattle.model_rules.specs.RuleTests.{chained}
use Rattle.schema_model.specs.Model.{type_graph}
use Rattle.schema_model.specs.declared.model.rule.Rule.TheVariants.{CyclicModel}
use Rattle.model_rules.proofs.ReferenceChains.{cycle_marks, first_broken, none_broken}
use Rattle.model_rules.proofs.chains.check_cycles.Goals as goal

pub overflow_cast-result : goal.overflow_cast-result
overflow_cast-result c =
    let graph = c.requires.graph in
    let k = c.in_ok-marks.ensures.0 in
    let settled : chained (type_graph c.args.schemas.now) (k + 1) ≡ chained (type_graph c.args.schemas.now) k =
    ap (λ rs. chained rs (k + 1)) (sym graph) ∙ c.in_ok-marks.ensures.2 ∙ ap (λ rs. chained rs k) graph in
    let marks = cycle_marks c.args.schemas.now c.as_slice.result.now k (c.as_slice.ensures.value ∙ c.in_ok-marks.ensures.1 ∙ ap (λ rs. chained rs k) graph) settled in
    let broken = (first_broken c.args.schemas.now CyclicModel c.as_slice.result.now marks c.in-Some.type_index (sym c.first_mark.ensures ∙ c.in-Some.is)).0 in
    let inside = slice_get_within c.args.schemas.now c.in-Some.type_index broken.0 broken.1 in
    omega arith

pub returns-in-Some : goal.returns-in-Some
returns-in-Some c =
    let graph = c.requires.graph in
    let k = c.in_ok-marks.ensures.0 in
    let settled : chained (type_graph c.args.schemas.now) (k + 1) ≡ chained (type_graph c.args.schemas.now) k =
    ap (λ rs. chained rs (k + 1)) (sym graph) ∙ c.in_ok-marks.ensures.2 ∙ ap (λ rs. chained rs k) graph in
    let marks = cycle_marks c.args.schemas.now c.as_slice.result.now k (c.as_slice.ensures.value ∙ c.in_ok-marks.ensures.1 ∙ ap (λ rs. chained rs k) graph) settled in
    let found = first_broken c.args.schemas.now CyclicModel c.as_slice.result.now marks c.in-Some.type_index (sym c.first_mark.ensures ∙ c.in-Some.is) in
    (refl, found.0, found.1)

pub returns : goal.returns
returns c =
    let graph = c.requires.graph in
    let k = c.in_ok-marks.ensures.0 in
    let settled : chained (type_graph c.args.schemas.now) (k + 1) ≡ chained (type_graph c.args.schemas.now) k =
    ap (λ rs. chained rs (k + 1)) (sym graph) ∙ c.in_ok-marks.ensures.2 ∙ ap (λ rs. chained rs k) graph in
    let marks = cycle_marks c.args.schemas.now c.as_slice.result.now k (c.as_slice.ensures.value ∙ c.in_ok-marks.ensures.1 ∙ ap (λ rs. chained rs k) graph) settled in
    none_broken c.args.schemas.now CyclicModel c.as_slice.result.now marks (sym c.first_mark.ensures ∙ c.in-None.is)

use Rattle.std.proofs.Common.{◌≡◌, ◌∙◌, ap, sym, ◌+◌, ◌++◌, ◌∷◌, [], take, length, arith}
use Rattle.std.proofs.lemmas.List.{length-take, length-map}
use Rattle.std.proofs.lemmas.Option.{slice_get_within}
use Rattle.schema_model.specs.Parts.{type_names, name_index}
use Rattle.schema_model.proofs.Indexing.{take_names}
use Rattle.model_rules.proofs.name_index.index_types.Goals as goal

pub loop-type_index-preserved : goal.loop-type_index-preserved
loop-type_index-preserved c =
    let names = type_names c.args.schemas.now in
    let front = take c.loop-type_index.type_index names in
    let added : front ++ c.text.result.now ∷ [] ≡ take (c.loop-type_index.type_index + 1) names =
    ap (λ n. front ++ n ∷ []) c.text.ensures ∙ sym (take_names (λ s. s.name) c.args.schemas.now c.loop-type_index.type_index c.get.result.now c.get.ensures) in
    let below = slice_get_within c.args.schemas.now c.loop-type_index.type_index c.get.result.now c.get.ensures in
    let long : length front ≡ c.loop-type_index.type_index = length-take c.loop-type_index.type_index names ∙ omega (arith, length-map c.args.schemas.now (λ s. s.name)) in
    λ n. c.in_ok-add_name.ensures.indexes front c.loop-type_index.invariant long n ∙ ap (λ xs. name_index xs n) added

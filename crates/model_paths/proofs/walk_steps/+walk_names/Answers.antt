use Rattle.std.proofs.Common.{◌≡◌, ◌∙◌, sym, ap, arith, length, subst, ◌<◌, ◌∷◌, []}
use Rattle.schema_model.specs.Ways.{TellsWay}
use Rattle.schema_model.specs.Path.{path_names}
use Rattle.schema_model.specs.WalkPath.{HasPart, LeadsAlong}
use Rattle.schema_model.proofs.BrokenRules.{few_fields}
use Rattle.model_paths.proofs.Walking.{kind_there, no_walk_name, no_walk_on, walk_last, walk_next}
use Rattle.schema_model.proofs.Ways.{behind_first, names_last, names_rest, rest_told, some_name, type_inside}
use Rattle.model_paths.proofs.walk_steps.+walk_names.Goals as goal

pub part_of-requires : goal.part_of-requires
part_of-requires t c = few_fields c.args.schemas.now c.args.type_index c.get.result.now c.get.ensures c.requires.1.1.1.few

pub kind_of_part-requires : goal.kind_of_part-requires
kind_of_part-requires t c = kind_there c.get.result.now.shape c.in-Some.part c.first_name.result.0.now c.in-Some.ensures

pub returns-in_default : goal.returns-in_default
returns-in_default t c =
    let schemas = c.args.schemas.now in
    let behind = behind_first c.first_name.result.1 (λ rest. path_names rest.now) c.first_name.result.0.now (path_names c.args.text.now) c.first_name.ensures.names in
    λ way leads. no_walk_name schemas c.args.type_index c.get.result.now c.first_name.result.0.now behind.0 c.get.ensures c.in_default.ensures way
    (subst (λ names. LeadsAlong schemas c.args.type_index names way) behind.1 leads)

pub returns-in_default-rest : goal.returns-in_default-rest
returns-in_default-rest t c =
    let schemas = c.args.schemas.now in
    let name = c.first_name.result.0.now in
    let has : HasPart schemas c.args.type_index name c.in-Some.part c.in_ok-kind.kind = record { schema = c.get.result.now; at = c.get.ensures; named = c.in-Some.ensures; holds = c.in_ok-kind.ensures } in
    let one : path_names c.args.text.now ≡ name ∷ [] = names_last c.first_name.result.1 (λ rest. path_names rest.now) name (path_names c.args.text.now) c.in_default-rest.is c.first_name.ensures.names in
    subst (λ names. TellsWay (LeadsAlong schemas c.args.type_index names) c.args.parts.now c.walk_on.new.parts c.walk_on.result) (sym one)
    (walk_last schemas c.args.type_index c.in-Some.part c.in_ok-kind.kind name c.args.parts.now c.push.new.self c.walk_on.new.parts c.walk_on.result c.requires.1.1.1.apart has c.in_ok-push.ensures.ok
    c.walk_on.ensures)

pub returns-in_default-referred : goal.returns-in_default-referred
returns-in_default-referred t c =
    let schemas = c.args.schemas.now in
    let name = c.first_name.result.0.now in
    let has : HasPart schemas c.args.type_index name c.in-Some.part c.in_ok-kind.kind = record { schema = c.get.result.now; at = c.get.ensures; named = c.in-Some.ensures; holds = c.in_ok-kind.ensures } in
    let (next, names, some) = some_name c.in-Some-rest.rest.now in
    let all : path_names c.args.text.now ≡ name ∷ next ∷ names = names_rest c.first_name.result.1 (λ rest. path_names rest.now) name (path_names c.args.text.now) c.in-Some-rest.rest c.in-Some-rest.is c.first_name.ensures.names ∙ ap (λ ns. name ∷ ns) some in
    λ way leads. no_walk_on schemas c.args.type_index c.in-Some.part c.in_ok-kind.kind name next names c.requires.1.1.1.apart has c.in_default-referred.ensures way
    (subst (λ ns. LeadsAlong schemas c.args.type_index ns way) all leads)

pub walk_names-requires : goal.walk_names-requires
walk_names-requires t c =
    let shorter = rest_told (λ rest. length rest.now < length c.args.text.now) c.first_name.result.1 c.in-Some-rest.rest c.in-Some-rest.is c.first_name.ensures.shorter in
    let (name, refers, index) = c.in-Some-referred.ensures in
    let known : length c.args.text.now ≡ t = c.requires.1.0 in
    let below : length c.in-Some-rest.rest.now < t = omega arith in
    (below, (type_inside c.args.schemas.now name c.in-Some-referred.next index, c.requires.1.1.1))

pub returns : goal.returns
returns t c =
    let schemas = c.args.schemas.now in
    let name = c.first_name.result.0.now in
    let has : HasPart schemas c.args.type_index name c.in-Some.part c.in_ok-kind.kind = record { schema = c.get.result.now; at = c.get.ensures; named = c.in-Some.ensures; holds = c.in_ok-kind.ensures } in
    let (next, names, some) = some_name c.in-Some-rest.rest.now in
    let all : path_names c.args.text.now ≡ name ∷ next ∷ names = names_rest c.first_name.result.1 (λ rest. path_names rest.now) name (path_names c.args.text.now) c.in-Some-rest.rest c.in-Some-rest.is c.first_name.ensures.names ∙ ap (λ ns. name ∷ ns) some in
    let way = subst (λ ns. TellsWay (LeadsAlong schemas c.in-Some-referred.next ns) c.push.new.self c.walk_names.new.parts c.walk_names.result) some c.walk_names.ensures in
    subst (λ ns. TellsWay (LeadsAlong schemas c.args.type_index ns) c.args.parts.now c.walk_names.new.parts c.walk_names.result) (sym all)
    (walk_next schemas c.args.type_index c.in-Some-referred.next c.in-Some.part c.in_ok-kind.kind name next names c.args.parts.now c.push.new.self c.walk_names.new.parts c.walk_names.result
    c.requires.1.1.1.apart has c.in-Some-referred.ensures c.in_ok-push.ensures.ok way)

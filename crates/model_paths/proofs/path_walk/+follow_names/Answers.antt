use Rattle.std.proofs.Common.{◌≡◌, ◌∙◌, sym, ap, arith, length, subst, List, ◌≤◌, ◌<◌, ◌∷◌, []}
use Rattle.schema_model.specs.Ways.{TellsWay}
use Rattle.schema_model.specs.Path.{GoesOn, Leads, RefersTo, path_names}
use Rattle.schema_model.specs.declared.schema.Field.{Field}
use Rattle.schema_model.proofs.BrokenRules.{few_fields}
use Rattle.schema_model.proofs.Ways.{way_last, way_next, found_field, some_name, none_deep, no_lead_name, no_lead_on, type_inside, behind_first, names_last, names_rest, rest_told}
use Rattle.model_paths.proofs.path_walk.+follow_names.Goals as goal

pub field_of-requires : goal.field_of-requires
field_of-requires t c =
    subst (λ (fields : List Field). length fields ≤ 1024) (sym c.fields-own.ensures)
    (few_fields c.args.schemas.now c.args.type_index c.get.result.now c.get.ensures c.requires.1.1.1.few)

pub follow_only_fields-requires-clause-shallow : goal.follow_only_fields-requires-clause-shallow
follow_only_fields-requires-clause-shallow t c = none_deep c.args.schemas.now c.requires.1.1.1.shallow _

pub returns-in_default : goal.returns-in_default
returns-in_default t c =
    let schemas = c.args.schemas.now in
    let behind = behind_first c.first_name.result.1 (λ rest. path_names rest.now) c.first_name.result.0.now (path_names c.args.text.now) c.first_name.ensures.names in
    λ way leads. no_lead_name schemas c.args.type_index c.get.result.now c.fields-own.result.now c.first_name.result.0.now behind.0 c.get.ensures c.fields-own.ensures c.in_default.ensures way
    (subst (λ names. Leads schemas c.args.type_index names way) behind.1 leads)

pub returns-in_default-rest : goal.returns-in_default-rest
returns-in_default-rest t c =
    let schemas = c.args.schemas.now in
    let own = c.fields-own.result.now in
    let name = c.first_name.result.0.now in
    let item = c.index-own-place.result in
    let has = found_field schemas c.args.type_index c.in-Some.place c.get.result.now own name item c.get.ensures c.fields-own.ensures c.in-Some.ensures c.index-own-place.is in
    let one : path_names c.args.text.now ≡ name ∷ [] = names_last c.first_name.result.1 (λ rest. path_names rest.now) name (path_names c.args.text.now) c.in_default-rest.is c.first_name.ensures.names in
    let way = subst (λ (f : Field). TellsWay (GoesOn schemas f.kind) c.push.new.self c.follow_only_fields.new.fields c.follow_only_fields.result) (sym c.index-own-place.is) c.follow_only_fields.ensures in
    subst (λ names. TellsWay (Leads schemas c.args.type_index names) c.args.fields.now c.follow_only_fields.new.fields c.follow_only_fields.result) (sym one)
    (way_last schemas c.args.type_index c.in-Some.place item name c.args.fields.now c.push.new.self c.follow_only_fields.new.fields c.follow_only_fields.result c.requires.1.1.1.apart has.0 has.1 c.in_ok-push.ensures.ok way)

pub returns-in_default-referred : goal.returns-in_default-referred
returns-in_default-referred t c =
    let schemas = c.args.schemas.now in
    let own = c.fields-own.result.now in
    let name = c.first_name.result.0.now in
    let item = c.index-own-place.result in
    let has = found_field schemas c.args.type_index c.in-Some.place c.get.result.now own name item c.get.ensures c.fields-own.ensures c.in-Some.ensures c.index-own-place.is in
    let (next, names, some) = some_name c.in-Some-rest.rest.now in
    let all : path_names c.args.text.now ≡ name ∷ next ∷ names = names_rest c.first_name.result.1 (λ rest. path_names rest.now) name (path_names c.args.text.now) c.in-Some-rest.rest c.in-Some-rest.is c.first_name.ensures.names ∙ ap (λ ns. name ∷ ns) some in
    λ way leads. no_lead_on schemas c.args.type_index c.in-Some.place item name next names c.requires.1.1.1.apart has.0 has.1
    (λ u refers. c.in_default-referred.ensures u (subst (λ (f : Field). RefersTo schemas f.kind u) c.index-own-place.is refers)) way
    (subst (λ ns. Leads schemas c.args.type_index ns way) all leads)

pub follow_names-requires : goal.follow_names-requires
follow_names-requires t c =
    let shorter = rest_told (λ rest. length rest.now < length c.args.text.now) c.first_name.result.1 c.in-Some-rest.rest c.in-Some-rest.is c.first_name.ensures.shorter in
    let (name, refers, index) = c.in-Some-referred.ensures in
    let known : length c.args.text.now ≡ t = c.requires.1.0 in
    let below : length c.in-Some-rest.rest.now < t = omega arith in
    (below, (type_inside c.args.schemas.now name c.in-Some-referred.next index, c.requires.1.1.1))

pub returns : goal.returns
returns t c =
    let schemas = c.args.schemas.now in
    let own = c.fields-own.result.now in
    let name = c.first_name.result.0.now in
    let item = c.index-own-place.result in
    let has = found_field schemas c.args.type_index c.in-Some.place c.get.result.now own name item c.get.ensures c.fields-own.ensures c.in-Some.ensures c.index-own-place.is in
    let (next, names, some) = some_name c.in-Some-rest.rest.now in
    let all : path_names c.args.text.now ≡ name ∷ next ∷ names = names_rest c.first_name.result.1 (λ rest. path_names rest.now) name (path_names c.args.text.now) c.in-Some-rest.rest c.in-Some-rest.is c.first_name.ensures.names ∙ ap (λ ns. name ∷ ns) some in
    let refers = subst (λ (f : Field). RefersTo schemas f.kind c.in-Some-referred.next) (sym c.index-own-place.is) c.in-Some-referred.ensures in
    let way = subst (λ ns. TellsWay (Leads schemas c.in-Some-referred.next ns) c.push-2.new.self c.follow_names.new.fields c.follow_names.result) some c.follow_names.ensures in
    subst (λ ns. TellsWay (Leads schemas c.args.type_index ns) c.args.fields.now c.follow_names.new.fields c.follow_names.result) (sym all)
    (way_next schemas c.args.type_index c.in-Some.place c.in-Some-referred.next item name next c.args.fields.now c.push-2.new.self c.follow_names.new.fields names c.follow_names.result c.requires.1.1.1.apart has.0 has.1 refers c.in_ok-push-2.ensures.ok way)

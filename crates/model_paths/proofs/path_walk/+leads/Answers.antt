use Rattle.std.proofs.Common.{◌≡◌, ◌∙◌, ◌↔◌, ◌-◌, List, [], ◌∷◌, ℕ, length, arith, sym, ap, subst, take, drop, get_or, false}
use Rattle.std.specs.Prelude.{IsTrue}
use Rattle.schema_model.specs.Path.{Leads, path_names}
use Rattle.schema_model.proofs.Ways.{behind_first, first_and_more, has_field, last_leads, name_agrees, name_differs, names_last, names_rest, next_leads, no_place, none_lead, none_leads, other_name, some_name, type_inside}
use Rattle.model_paths.proofs.path_walk.+leads.Goals as goal

pub returns-in_default : goal.returns-in_default
returns-in_default t c = none_lead c.args.schemas.now c.args.type_index (path_names c.args.text.now) c.args.fields.now (omega (arith, c.in_default.len_below))

pub returns-in_default-get : goal.returns-in_default-get
returns-in_default-get t c =
    let schemas = c.args.schemas.now in
    let fields = c.args.fields.now in
    let place = get_or fields 0 0 in
    let more = take (length fields - 1) (drop 1 fields) in
    let behind = behind_first c.first_name.result.1 (λ rest. path_names rest.now) c.first_name.result.0.now (path_names c.args.text.now) c.first_name.ensures.names in
    subst (λ (fs : List ℕ). IsTrue false ↔ Leads schemas c.args.type_index (path_names c.args.text.now) fs) (sym (first_and_more fields c.in-len1-up.len_at_least))
    (subst (λ ns. IsTrue false ↔ Leads schemas c.args.type_index ns (place ∷ more)) (sym behind.1)
    (no_place schemas c.args.type_index place c.get.result.now c.fields-own.result.now c.first_name.result.0.now behind.0 more c.get.ensures c.fields-own.ensures c.in_default-get.ensures.lookup.3))

pub returns-then-ne : goal.returns-then-ne
returns-then-ne t c =
    let schemas = c.args.schemas.now in
    let fields = c.args.fields.now in
    let place = get_or fields 0 0 in
    let more = take (length fields - 1) (drop 1 fields) in
    let has = has_field schemas c.args.type_index place c.get.result.now c.fields-own.result.now c.in-Some.field.now c.get.ensures c.fields-own.ensures c.in-Some.ensures.lookup.3.0 c.in-Some.ensures.lookup.1 in
    let behind = behind_first c.first_name.result.1 (λ rest. path_names rest.now) c.first_name.result.0.now (path_names c.args.text.now) c.first_name.ensures.names in
    subst (λ (fs : List ℕ). IsTrue false ↔ Leads schemas c.args.type_index (path_names c.args.text.now) fs) (sym (first_and_more fields c.in-len1-up.len_at_least))
    (subst (λ ns. IsTrue false ↔ Leads schemas c.args.type_index ns (place ∷ more)) (sym behind.1)
    (other_name schemas c.args.type_index place c.in-Some.field.now c.first_name.result.0.now behind.0 more has (name_differs c.in-Some.field.now c.text.result.now c.first_name.result.0.now c.text.ensures c.if-ne.ensures)))

pub returns-in_default-rest : goal.returns-in_default-rest
returns-in_default-rest t c =
    let schemas = c.args.schemas.now in
    let fields = c.args.fields.now in
    let name = c.first_name.result.0.now in
    let place = get_or fields 0 0 in
    let more = take (length fields - 1) (drop 1 fields) in
    let has = has_field schemas c.args.type_index place c.get.result.now c.fields-own.result.now c.in-Some.field.now c.get.ensures c.fields-own.ensures c.in-Some.ensures.lookup.3.0 c.in-Some.ensures.lookup.1 in
    let one : path_names c.args.text.now ≡ name ∷ [] = names_last c.first_name.result.1 (λ rest. path_names rest.now) name (path_names c.args.text.now) c.in_default-rest.is c.first_name.ensures.names in
    subst (λ (fs : List ℕ). IsTrue c.goes_on.result ↔ Leads schemas c.args.type_index (path_names c.args.text.now) fs) (sym (first_and_more fields c.in-len1-up.len_at_least))
    (subst (λ ns. IsTrue c.goes_on.result ↔ Leads schemas c.args.type_index ns (place ∷ more)) (sym one)
    (last_leads schemas c.args.type_index place c.in-Some.field.now name more c.goes_on.result has (name_agrees c.in-Some.field.now c.text.result.now name c.text.ensures c.if-ne.ensures) c.goes_on.ensures))

pub leads-requires : goal.leads-requires
leads-requires t c =
    let (name, refers, index) = c.in-Some-referred.ensures in
    let known : length c.args.fields.now ≡ t = c.requires.1.0 in
    (omega (arith, known, c.in-len1-up.len_at_least), (type_inside c.args.schemas.now name c.in-Some-referred.next index, c.requires.1.1.1))

pub returns-in-Some-referred : goal.returns-in-Some-referred
returns-in-Some-referred t c =
    let schemas = c.args.schemas.now in
    let fields = c.args.fields.now in
    let name = c.first_name.result.0.now in
    let place = get_or fields 0 0 in
    let more = take (length fields - 1) (drop 1 fields) in
    let has = has_field schemas c.args.type_index place c.get.result.now c.fields-own.result.now c.in-Some.field.now c.get.ensures c.fields-own.ensures c.in-Some.ensures.lookup.3.0 c.in-Some.ensures.lookup.1 in
    let (next, names, some) = some_name c.in-Some-rest.rest.now in
    let all : path_names c.args.text.now ≡ name ∷ next ∷ names = names_rest c.first_name.result.1 (λ rest. path_names rest.now) name (path_names c.args.text.now) c.in-Some-rest.rest c.in-Some-rest.is c.first_name.ensures.names ∙ ap (λ ns. name ∷ ns) some in
    let below = subst (λ ns. IsTrue c.leads.result ↔ Leads schemas c.in-Some-referred.next ns more) some c.leads.ensures in
    subst (λ (fs : List ℕ). IsTrue c.leads.result ↔ Leads schemas c.args.type_index (path_names c.args.text.now) fs) (sym (first_and_more fields c.in-len1-up.len_at_least))
    (subst (λ ns. IsTrue c.leads.result ↔ Leads schemas c.args.type_index ns (place ∷ more)) (sym all)
    (next_leads schemas c.args.type_index place c.in-Some-referred.next c.in-Some.field.now name next names more c.leads.result has (name_agrees c.in-Some.field.now c.text.result.now name c.text.ensures c.if-ne.ensures) c.in-Some-referred.ensures below))

pub returns-in-None : goal.returns-in-None
returns-in-None t c =
    let schemas = c.args.schemas.now in
    let fields = c.args.fields.now in
    let name = c.first_name.result.0.now in
    let place = get_or fields 0 0 in
    let more = take (length fields - 1) (drop 1 fields) in
    let has = has_field schemas c.args.type_index place c.get.result.now c.fields-own.result.now c.in-Some.field.now c.get.ensures c.fields-own.ensures c.in-Some.ensures.lookup.3.0 c.in-Some.ensures.lookup.1 in
    let (next, names, some) = some_name c.in-Some-rest.rest.now in
    let all : path_names c.args.text.now ≡ name ∷ next ∷ names = names_rest c.first_name.result.1 (λ rest. path_names rest.now) name (path_names c.args.text.now) c.in-Some-rest.rest c.in-Some-rest.is c.first_name.ensures.names ∙ ap (λ ns. name ∷ ns) some in
    subst (λ (fs : List ℕ). IsTrue false ↔ Leads schemas c.args.type_index (path_names c.args.text.now) fs) (sym (first_and_more fields c.in-len1-up.len_at_least))
    (subst (λ ns. IsTrue false ↔ Leads schemas c.args.type_index ns (place ∷ more)) (sym all)
    (none_leads schemas c.args.type_index place c.in-Some.field.now name next names more has c.in-None.ensures))

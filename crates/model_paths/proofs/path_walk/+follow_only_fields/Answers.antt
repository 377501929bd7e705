use Rattle.std.proofs.Common.{◌∙◌, sym, ap, arith, length, subst}
use Rattle.std.specs.BTreeMap.{get_by_text}
use Rattle.schema_model.specs.Parts.{referenced}
use Rattle.schema_model.specs.Ways.{TellsWay}
use Rattle.schema_model.specs.Path.{RefersTo, GoesOn}
use Rattle.schema_model.specs.declared.schema.Field.{Field}
use Rattle.schema_model.proofs.Ways.{no_way_unknown, no_way_many, only_is_field, only_from, type_inside, deep_enough, shallower, way_on, looked_up}
use Rattle.model_paths.proofs.path_walk.+follow_only_fields.Goals as goal

pub returns-in_default-find_name : goal.returns-in_default-find_name
returns-in_default-find_name t c =
    no_way_unknown c.args.schemas.now c.args.kind.now c.in-Reference.name (ap referenced c.in-Reference.is)
    (looked_up c.args.schemas.now (get_by_text c.args.index.now) c.requires.indexed c.in-Reference.name c.text.result.now c.find_name.result c.text.ensures c.find_name.ensures ∙ c.in_default-find_name.is)

pub get-requires : goal.get-requires
get-requires t c =
    type_inside c.args.schemas.now c.in-Reference.name c.in-Some.next
    (looked_up c.args.schemas.now (get_by_text c.args.index.now) c.requires.indexed c.in-Reference.name c.text.result.now c.find_name.result c.text.ensures c.find_name.ensures ∙ c.in-Some.is)

pub returns-then-own-ne1 : goal.returns-then-own-ne1
returns-then-own-ne1 t c =
    let index = looked_up c.args.schemas.now (get_by_text c.args.index.now) c.requires.indexed c.in-Reference.name c.text.result.now c.find_name.result c.text.ensures c.find_name.ensures ∙ c.in-Some.is in
    no_way_many c.args.schemas.now c.args.kind.now c.in-Some.next c.get.result.now (c.in-Reference.name, ap referenced c.in-Reference.is, index) c.get.ensures
    (λ one. c.if-own-ne1.true (ap length c.fields-own.ensures ∙ one))

pub overflow_sub-depth : goal.overflow_sub-depth
overflow_sub-depth t c =
    let index = looked_up c.args.schemas.now (get_by_text c.args.index.now) c.requires.indexed c.in-Reference.name c.text.result.now c.find_name.result c.text.ensures c.find_name.ensures ∙ c.in-Some.is in
    let refers : RefersTo c.args.schemas.now c.args.kind.now c.in-Some.next = (c.in-Reference.name, ap referenced c.in-Reference.is, index) in
    deep_enough c.args.schemas.now c.args.depth c.in-Some.next (type_inside c.args.schemas.now c.in-Reference.name c.in-Some.next index) (c.requires.shallow c.in-Some.next refers)

pub follow_only_fields-requires : goal.follow_only_fields-requires
follow_only_fields-requires t c =
    let schemas = c.args.schemas.now in
    let next = c.in-Some.next in
    let index = looked_up schemas (get_by_text c.args.index.now) c.requires.indexed c.in-Reference.name c.text.result.now c.find_name.result c.text.ensures c.find_name.ensures ∙ c.in-Some.is in
    let refers : RefersTo schemas c.args.kind.now next = (c.in-Reference.name, ap referenced c.in-Reference.is, index) in
    let shallow = c.requires.shallow next refers in
    let deep = deep_enough schemas c.args.depth next (type_inside schemas c.in-Reference.name next index) shallow in
    let has = only_from schemas next c.get.result.now c.fields-own.result.now c.index-own-0.result c.get.ensures c.fields-own.ensures c.if-own-ne1.false c.index-own-0.is in (
      omega arith,
      (
        c.requires.indexed,
        λ u again. shallower schemas c.args.depth next 0 u c.index-own-0.result (only_is_field schemas next c.index-own-0.result has) deep shallow
            (subst (λ (f : Field). RefersTo schemas f.kind u) (sym c.index-own-0.is) again),
      ),
    )

pub returns : goal.returns
returns t c =
    let schemas = c.args.schemas.now in
    let next = c.in-Some.next in
    let index = looked_up schemas (get_by_text c.args.index.now) c.requires.indexed c.in-Reference.name c.text.result.now c.find_name.result c.text.ensures c.find_name.ensures ∙ c.in-Some.is in
    let refers : RefersTo schemas c.args.kind.now next = (c.in-Reference.name, ap referenced c.in-Reference.is, index) in
    let has = only_from schemas next c.get.result.now c.fields-own.result.now c.index-own-0.result c.get.ensures c.fields-own.ensures c.if-own-ne1.false c.index-own-0.is in
    way_on schemas c.args.kind.now next c.index-own-0.result c.args.fields.now c.push.new.self c.follow_only_fields.new.fields c.follow_only_fields.result refers has c.in_ok-push.ensures.ok
    (subst (λ (f : Field). TellsWay (GoesOn schemas f.kind) c.push.new.self c.follow_only_fields.new.fields c.follow_only_fields.result) (sym c.index-own-0.is) c.follow_only_fields.ensures)

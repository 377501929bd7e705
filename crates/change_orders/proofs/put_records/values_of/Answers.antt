use Rattle.std.proofs.Common.{◌≡◌, Global, Some, Vec, map, sym, ap, ◌∙◌}
use Rattle.serde_json.specs.Data.{array}
use Rattle.serde_json.specs.Find.{get}
use Rattle.serde_json.specs.View.{items_view, view}
use Rattle.serde_json.proofs.Views.{view-Array}
use Rattle.serde_json.specs.declared.value.Value.{Value}
use Rattle.schema_model.specs.declared.schema.Schema.{Schema}
use Rattle.producer_orders.proofs.KnownTypes.{values_found}
use Rattle.change_orders.proofs.put_records.values_of.Goals as goal

pub returns-in-Some-Array : goal.returns-in-Some-Array
returns-in-Some-Array c = λ schema at.
    (let add = view c.args.given.now in
    let both : Some c.schema.result.now ≡ Some schema = sym c.schema.ensures.value ∙ at in
    let same : c.schema.result.now ≡ schema = cc in
    let name : c.text.result.now ≡ schema.name = c.text.ensures ∙ ap (λ (s : Schema). s.name) same in
    let found : Some (view c.in-Some-Array.field-0.now) ≡ get c.text.result.now add = c.in-Some-Array.ensures in
    let shown : view c.in-Some-Array.field-0.now ≡ array (items_view c.in-Some-Array.items.items) = ap view c.in-Some-Array.field-0-is ∙ view-Array c.in-Some-Array.items in
    let whole : c.as_slice.result.now ≡ c.in-Some-Array.items.items = c.as_slice.ensures.value ∙ ap (λ (items : Vec Value Global). items.items) c.in-Some-Array.items-is in
    ap (map view) whole ∙ values_found add schema.name c.in-Some-Array.items.items (ap Some (sym shown) ∙ found ∙ ap (λ n. get n add) name))

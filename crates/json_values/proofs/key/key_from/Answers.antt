use Rattle.std.proofs.Common.{◌≡◌, ◌∙◌, sym, ap, subst, List}
use Rattle.serde_json.specs.Data.{Data, array}
use Rattle.serde_json.specs.View.{view, items_view}
use Rattle.serde_json.proofs.Views.{view-Array}
use Rattle.schema_model.specs.declared.model.path.Path.{Path}
use Rattle.json_values.specs.KeyFrom.{TellsKey}
use Rattle.json_values.proofs.key.key_from.Goals as goal

pub returns-in-Array : goal.returns-in-Array
returns-in-Array c =
    let spelled : array (items_view c.as_slice-in-Array.result.now) ≡ view c.args.values.now = ap (λ xs. array (items_view xs)) c.as_slice-in-Array.ensures.value ∙ sym (ap view c.in-Array.is ∙ view-Array c.in-Array.values) in
    let asked = subst (λ (paths : List Path). TellsKey c.args.model.now paths (array (items_view c.as_slice-in-Array.result.now)) c.parts_from.result) c.as_slice.ensures c.parts_from.ensures.tells in
    record { tells = subst (λ (json : Data). TellsKey c.args.model.now c.args.paths.now json c.parts_from.result) spelled asked }

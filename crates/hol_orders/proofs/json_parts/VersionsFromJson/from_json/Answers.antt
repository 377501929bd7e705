use Rattle.std.proofs.Common.{◌∙◌, ap, sym}
use Rattle.serde_json.specs.Data.{array}
use Rattle.serde_json.specs.View.{view, items_view}
use Rattle.serde_json.proofs.Views.{view-Array}
use Rattle.hol_orders.proofs.Walks.{no_walk}
use Rattle.hol_orders.proofs.json_parts.VersionsFromJson.from_json.Goals as goal

pub returns : goal.returns
returns c = no_walk (view c.args.value) c.in_ok-versions.versions c.as_slice-2.result.now c.is_walk.result
    (c.in_ok-versions.ensures.1 ∙ ap (λ xs. array (items_view xs)) c.as_slice.ensures.value ∙ sym (ap view c.in-Array.is ∙ view-Array c.in-Array.items))
    c.as_slice-2.ensures c.is_walk.ensures c.if-is_walk.false

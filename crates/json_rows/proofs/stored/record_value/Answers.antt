use Rattle.std.proofs.Common.{◌≡◌, ap, sym, ◌∙◌}
use Rattle.serde_json.proofs.Views.{view-Object}
use Rattle.serde_json.specs.View.{view, members_view}
use Rattle.serde_json.specs.Data.{put}
use Rattle.json_rows.proofs.Records.{more_members, all_members}
use Rattle.json_rows.proofs.stored.record_value.Goals as goal

pub loop-place-preserved : goal.loop-place-preserved
loop-place-preserved c =
    let field = c.index-fields-place.result in
    let printed = view c.in_ok-printed.printed in
    let text_is : c.text.result.now ≡ field.name = c.text.ensures ∙ ap (λ f. f.name) (sym c.index-fields-place.is) in
    let is_put : members_view c.put.new.map.entries ≡ put field.name printed (members_view c.loop-place.members.entries) =
    c.in_ok-put.ensures.ok ∙ ap (λ name. put name printed (members_view c.loop-place.members.entries)) text_is in
    more_members c.args.fields.now c.args.values.now c.loop-place.place field c.index-values-place.result printed _ _
    c.requires c.loop-place-test.true c.index-fields-place.is c.index-values-place.is c.in_ok-printed.ensures is_put c.loop-place.invariant

pub returns : goal.returns
returns c = (
  members_view c.loop-place.members.entries,
  all_members c.args.fields.now c.args.values.now c.loop-place.place _ c.requires c.loop-place-test.false c.loop-place.invariant,
  view-Object c.loop-place.members,
)

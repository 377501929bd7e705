use Rattle.json_values.proofs.ItemLists.{members_counted, object_counted, none_counted}
use Rattle.std.proofs.Common.{◌∙◌}
use Rattle.serde_json.specs.View.{view}
use Rattle.json_values.proofs.schema_shape.member_count.Goals as goal

pub returns-in-Some : goal.returns-in-Some
returns-in-Some c = c.len.ensures.len ∙ members_counted c.in-Some.members.now.entries ∙ object_counted (view c.args.value.now) _ c.in-Some.ensures

pub returns-in-None : goal.returns-in-None
returns-in-None c = none_counted (view c.args.value.now) c.in-None.ensures

use Rattle.std.proofs.Common.{◌∙◌, ap}
use Rattle.serde_json.specs.View.{view}
use Rattle.serde_json.proofs.Views.{view-Object}
use Rattle.hol_orders.proofs.Lists.{alone}
use Rattle.hol_orders.proofs.json_parts.only_member.Goals as goal

pub returns : goal.returns
returns c = alone (view c.args.value) c.in-Object.members.entries c.pop_first.new.self.entries c.in_ok-first.first
    (ap view c.in-Object.is ∙ view-Object c.in-Object.members) c.in_ok-first.ensures.removal
    (λ none. (let yes = c.is_empty.ensures.1 none in let no = c.if-is_empty.false in cc))

use Rattle.std.proofs.Common.{◌∙◌, ap}
use Rattle.serde_json.specs.View.{view, members_view}
use Rattle.serde_json.proofs.Views.{view-Object}
use Rattle.hol_orders.proofs.Lists.{no_change_tag, no_change_version, no_change_more}
use Rattle.hol_orders.proofs.states.change_members.Goals as goal

pub returns-in_err-tag : goal.returns-in_err-tag
returns-in_err-tag c = no_change_tag (view c.args.value) (members_view c.in-Object.members.entries) (members_view c.next_named.new.members.entries) (members_view c.next_named-2.new.members.entries)
    (members_view c.next_named-3.new.members.entries) (view c.in_ok-put.put) (view c.in_ok-remove.remove) c.from_residual-in_err-tag.result c.in_err-tag.field-0.0 c.from_residual-in_err-tag.ensures.1
    (ap view c.in-Object.is ∙ view-Object c.in-Object.members) c.in_ok-put.ensures c.in_ok-remove.ensures c.in_err-tag.ensures

pub returns-in_err-version : goal.returns-in_err-version
returns-in_err-version c = no_change_version (view c.args.value) (members_view c.in-Object.members.entries) (members_view c.next_named.new.members.entries) (members_view c.next_named-2.new.members.entries)
    (members_view c.next_named-3.new.members.entries) (members_view c.next_named-4.new.members.entries) (view c.in_ok-put.put) (view c.in_ok-remove.remove) (view c.in_ok-tag.tag)
    c.from_residual-in_err-version.result c.in_err-version.field-0.0 c.from_residual-in_err-version.ensures.1
    (ap view c.in-Object.is ∙ view-Object c.in-Object.members) c.in_ok-put.ensures c.in_ok-remove.ensures c.in_ok-tag.ensures c.in_err-version.ensures

pub returns : goal.returns
returns c = no_change_more (view c.args.value) (members_view c.in-Object.members.entries) (members_view c.next_named.new.members.entries) (members_view c.next_named-2.new.members.entries)
    (members_view c.next_named-3.new.members.entries) c.next_named-4.new.members.entries (view c.in_ok-put.put) (view c.in_ok-remove.remove) (view c.in_ok-tag.tag) (view c.in_ok-version.version)
    (ap view c.in-Object.is ∙ view-Object c.in-Object.members) c.in_ok-put.ensures c.in_ok-remove.ensures c.in_ok-tag.ensures c.in_ok-version.ensures
    (λ none. (let yes = c.is_empty.ensures.1 none in let no = c.if-is_empty.false in cc))

use Rattle.std.proofs.Common.{◌∙◌, ap}
use Rattle.serde_json.specs.View.{view, members_view}
use Rattle.serde_json.proofs.Views.{view-Object}
use Rattle.hol_orders.proofs.Saying.{no_state_said, no_state_tag, no_state_version, no_state_more}
use Rattle.hol_orders.proofs.states.state_members.Goals as goal

pub returns-in_err-snapshot : goal.returns-in_err-snapshot
returns-in_err-snapshot c = no_state_said (view c.args.value) (view c.in_ok-add.add) (members_view c.in-Object.members.entries) (members_view c.next_named.new.members.entries) (members_view c.next_said.new.members.entries)
    (ap view c.in-Object.is ∙ view-Object c.in-Object.members) c.in_ok-add.ensures c.from_residual-in_err-snapshot.result c.in_err-snapshot.field-0.0 c.from_residual-in_err-snapshot.ensures.1 c.in_err-snapshot.ensures

pub returns-in_err-tag : goal.returns-in_err-tag
returns-in_err-tag c = no_state_tag (view c.args.value) (view c.in_ok-add.add) (members_view c.in-Object.members.entries) (members_view c.next_named.new.members.entries) (members_view c.next_said.new.members.entries)
    (ap view c.in-Object.is ∙ view-Object c.in-Object.members) c.in_ok-add.ensures c.in_ok-snapshot.snapshot c.in_ok-snapshot.ensures (members_view c.next_named-2.new.members.entries)
    c.from_residual-in_err-tag.result c.in_err-tag.field-0.0 c.from_residual-in_err-tag.ensures.1 c.in_err-tag.ensures

pub returns-in_err-version : goal.returns-in_err-version
returns-in_err-version c = no_state_version (view c.args.value) (view c.in_ok-add.add) (members_view c.in-Object.members.entries) (members_view c.next_named.new.members.entries) (members_view c.next_said.new.members.entries)
    (ap view c.in-Object.is ∙ view-Object c.in-Object.members) c.in_ok-add.ensures c.in_ok-snapshot.snapshot c.in_ok-snapshot.ensures (members_view c.next_named-2.new.members.entries) (view c.in_ok-tag.tag) c.in_ok-tag.ensures
    (members_view c.next_named-3.new.members.entries) c.from_residual-in_err-version.result c.in_err-version.field-0.0 c.from_residual-in_err-version.ensures.1 c.in_err-version.ensures

pub returns : goal.returns
returns c = no_state_more (view c.args.value) (view c.in_ok-add.add) (members_view c.in-Object.members.entries) (members_view c.next_named.new.members.entries) (members_view c.next_said.new.members.entries)
    (ap view c.in-Object.is ∙ view-Object c.in-Object.members) c.in_ok-add.ensures c.in_ok-snapshot.snapshot c.in_ok-snapshot.ensures (members_view c.next_named-2.new.members.entries) (view c.in_ok-tag.tag) c.in_ok-tag.ensures
    c.next_named-3.new.members.entries (view c.in_ok-version.version) c.in_ok-version.ensures
    (λ none. (let yes = c.is_empty.ensures.1 none in let no = c.if-is_empty.false in cc))

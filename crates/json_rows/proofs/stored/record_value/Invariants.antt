use Rattle.std.proofs.Common.{take}
use Rattle.serde_json.specs.View.{members_view}
use Rattle.json_rows.specs.StoredRow.{AreRecordMembers}
use Rattle.json_rows.proofs.stored.record_value.Given as goal

abbrev pub invariant-loop-place : goal.invariant-loop-place
invariant-loop-place l = AreRecordMembers (take l.place l.fields) (take l.place l.values) (members_view l.members.entries)

use Rattle.std.proofs.Common.{◌≤◌, length, map, string_bytes}
use Rattle.serde_json.specs.View.{members_view}
use Rattle.record_stream.proofs.Typing.{HavePassed}
use Rattle.record_stream.proofs.listing.pass_types.Given as goal

abbrev pub invariant-types : goal.invariant-types
invariant-types l = HavePassed l.initial.reader l.reader (members_view l.names.entries) (map string_bytes l.order.items) × (length l.reader ≤ length l.initial.reader)

abbrev pub decreases-types : goal.decreases-types
decreases-types l = length l.reader

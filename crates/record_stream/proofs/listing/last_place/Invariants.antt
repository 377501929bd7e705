use Rattle.std.proofs.Common.{◌≤◌, drop, length, map, string_bytes}
use Rattle.record_stream.specs.RecordLine.{AreOther}
use Rattle.record_stream.proofs.listing.last_place.Given as goal

abbrev pub invariant-names : goal.invariant-names
invariant-names l = AreOther l.name (drop l.left (map string_bytes l.names)) × (l.left ≤ length l.names)

abbrev pub decreases-names : goal.decreases-names
decreases-names l = l.left

use Rattle.std.proofs.Common.{◌<◌, ◌≤◌, length, take}
use Rattle.change_orders.specs.Keys.{AreApartTo, AreHashed}
use Rattle.change_orders.proofs.keyed_records.first_again.Given as goal

-- the keys before the place are linked by their hashes, and stand once each
abbrev pub invariant-loop-place : goal.invariant-loop-place
invariant-loop-place l = record {
  hashed : AreHashed (take l.place l.found) l.chains;
  room : length l.found ≤ l.chains.slots;
  buckets : 0 < length l.chains.chains;
  apart : AreApartTo l.found l.place;
}

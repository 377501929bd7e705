use Rattle.std.proofs.Common.{◌≡◌, length}
use Rattle.key_index.specs.Slots.{slots_in}
use Rattle.key_index.proofs.Linking.{AreLinkedTo}
use Rattle.key_index.proofs.key_chains.link_all.Given as goal

abbrev pub invariant-loop-ordinal : goal.invariant-loop-ordinal
invariant-loop-ordinal l = record {
  linked : AreLinkedTo (slots_in l.slots) l.chains l.ordinal l.keyed;
  slots : l.chains.slots ≡ l.initial.chains.slots;
  buckets : length l.chains.chains ≡ length l.initial.chains.chains;
}

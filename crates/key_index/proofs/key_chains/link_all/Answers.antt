use Rattle.std.proofs.Common.{arith, ◌∙◌, ◌+◌}
use Rattle.key_index.specs.Slots.{slots_in}
use Rattle.key_index.proofs.Linking.{next_linked}
use Rattle.key_index.proofs.key_chains.link_all.Goals as goal

pub loop-ordinal-preserved : goal.loop-ordinal-preserved
loop-ordinal-preserved c = record {
  linked = next_linked (slots_in c.args.slots.now) c.loop-ordinal.chains c.loop-ordinal.ordinal c.loop-ordinal.keyed c.loop-ordinal.invariant.linked c.hash_at.result c.link_hash.new.chains c.link_hash.new.keyed
      c.hash_at.ensures c.link_hash.ensures.hashes c.link_hash.ensures.keyed (c.loop-ordinal.ordinal + 1) (omega arith);
  slots = c.link_hash.ensures.slots ∙ c.loop-ordinal.invariant.slots;
  buckets = c.link_hash.ensures.buckets ∙ c.loop-ordinal.invariant.buckets;
}

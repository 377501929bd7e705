use Rattle.key_index.specs.Slots.{slots_in}
use Rattle.key_index.proofs.Linking.{all_kept, fresh_buckets, fresh_empty, fresh_slots}
use Rattle.key_index.proofs.key_rows.KeyRows.of_slots.Goals as goal

pub link_all-keyed-requires-clause-reserved : goal.link_all-keyed-requires-clause-reserved
link_all-keyed-requires-clause-reserved c = fresh_slots (slots_in c.args.slots) c.new-chains.result c.reserve.new.self c.len-room.result c.buckets_for-buckets.result c.requires.few c.len-room.ensures c.new-chains.ensures c.buckets_for-buckets.ensures.power c.in_ok-reserve.ensures.ok

pub link_all-keyed-requires-clause-buckets : goal.link_all-keyed-requires-clause-buckets
link_all-keyed-requires-clause-buckets c = fresh_buckets (slots_in c.args.slots) c.new-chains.result c.reserve.new.self c.len-room.result c.buckets_for-buckets.result c.requires.few c.len-room.ensures c.new-chains.ensures c.buckets_for-buckets.ensures.power c.in_ok-reserve.ensures.ok

pub link_all-keyed-requires-clause-empty : goal.link_all-keyed-requires-clause-empty
link_all-keyed-requires-clause-empty c = fresh_empty (slots_in c.args.slots) c.new-chains.result c.reserve.new.self c.len-room.result c.buckets_for-buckets.result c.requires.few c.len-room.ensures c.new-chains.ensures c.buckets_for-buckets.ensures.power c.in_ok-reserve.ensures.ok

pub invariant_of-result : goal.invariant_of-result
invariant_of-result c =
    all_kept (slots_in c.args.slots) c.new-chains.result c.reserve.new.self c.len-room.result c.buckets_for-buckets.result c.requires.few c.len-room.ensures c.new-chains.ensures c.buckets_for-buckets.ensures.power c.in_ok-reserve.ensures.ok
    c.link_all-keyed.new.chains c.link_all-keyed.result c.link_all-keyed.ensures.hashed c.link_all-keyed.ensures.slots c.link_all-keyed.ensures.buckets c.link_all-keyed.ensures.count

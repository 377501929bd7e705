use Rattle.std.proofs.Common.{arith, ap, ◌∙◌}
use Rattle.key_index.specs.Slots.{Roomy, slots_in}
use Rattle.key_index.proofs.Keeping.{widened_kept}
use Rattle.key_index.proofs.SlotKeys.{keys_more}
use Rattle.key_index.proofs.key_rows.KeyRows.reserve.Goals as goal

pub invariant_of-self-2 : goal.invariant_of-self-2
invariant_of-self-2 c =
    widened_kept (slots_in c.self.inside.slots) c.self.inside.chains c.self.inside.buckets c.self.inside.keyed c.self.invariant c.args.room c.buckets_for-buckets.result c.reserve.new.self
    c.buckets_for-buckets.ensures.power c.in_ok-reserve.ensures.ok (slots_in c.make_room.new.self) c.make_room.ensures.widens (omega arith)

pub returns-clause-keys : goal.returns-clause-keys
returns-clause-keys c = keys_more (slots_in c.self.inside.slots) (slots_in c.make_room.new.self) c.args.room c.make_room.ensures.widens ∙ ap (λ (r : Roomy). r.keys) c.self.view_is

use Rattle.std.proofs.Common.{ap, slice_set, sym, ◌∙◌}
use Rattle.key_index.specs.Slots.{slots_in}
use Rattle.key_index.proofs.Forms.{small_set}
use Rattle.key_index.proofs.key_slots.KeySlots.set.Goals as goal

pub returns-in-Some-clause-slots : goal.returns-in-Some-clause-slots
returns-in-Some-clause-slots c =
    small_set c.in-Small.slots.items c.args.ordinal c.in-Some.small c.args.slot c.in-Some.ensures.same
    ∙ ap (λ ss. slice_set (slots_in ss) c.args.ordinal c.args.slot) (sym c.in-Small.is)

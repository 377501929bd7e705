use Rattle.std.proofs.Common.{◌∙◌, ◌++◌, List, ap, arith, length, sym}
use Rattle.std.specs.Vec.Iter.{into_iter_items}
use Rattle.row_model.specs.declared.row.Value.{Value}
use Rattle.hol_paths.specs.declared.entries.Slot.{Slot}
use Rattle.hol_paths.specs.Slots.{entries_of}
use Rattle.hol_paths.proofs.Coming.{entries_stay, known_more, one_yielded, owned, values_more, yielded_all}
use Rattle.hol_paths.proofs.reserved.push_entries.Goals as goal

pub loop-value-preserved : goal.loop-value-preserved
loop-value-preserved c =
    let at = c.loop-value.invariant in
    let old = c.loop-value.entries.values in
    let new = c.number.new.self.values in
    let slot : Slot = record { owner = c.args.owner; number = c.in_ok-number.number } in
    record {
      slots = c.number.ensures.slots ∙ at.slots;
      room = c.number.ensures.room ∙ at.room;
      stays = λ place other is. c.number.ensures.stays place other (at.stays place other is);
      entries = entries_stay c.args.entries.now.values old new c.args.entries.now.slots c.loop-value.entries.slots at.slots c.number.ensures.entries at.entries;
      known = known_more old new c.loop-value.coming.items c.push.new.self.items slot c.in-Some.value c.number.ensures.stays at.known c.in_ok-number.ensures.placed c.in_ok-push.ensures.items;
      coming = values_more old new c.loop-value.coming.items c.push.new.self.items slot c.in-Some.value c.number.ensures.stays at.known c.in_ok-number.ensures.placed c.in_ok-push.ensures.items
          (entries_of c.args.entries.now.values c.args.coming.now.items) c.loop-value.yielded at.coming;
      left = one_yielded c.loop-value.yielded (into_iter_items c.next.new.self) (into_iter_items c.loop-value.value-iterator) (into_iter_items c.into_iter-value-iterator.result) c.in-Some.value c.in-Some.ensures.steps.0 at.left;
      long = omega (arith, at.long, c.in-Some.ensures.steps.1, ap (λ (left : List Value). length left) c.in-Some.ensures.steps.0);
    }

pub returns-clause-coming : goal.returns-clause-coming
returns-clause-coming c =
    let done = yielded_all c.loop-value.yielded (into_iter_items c.loop-value.value-iterator) c.args.values
    (c.loop-value.invariant.left ∙ c.into_iter-value-iterator.ensures.into_iter_gives.0 ∙ c.into_vec-value-items.ensures) (sym c.loop-value.invariant.long ∙ c.in-None.ensures.steps.0) in
    c.loop-value.invariant.coming ∙ ap (λ (vs : List Value). entries_of c.args.entries.now.values c.args.coming.now.items ++ owned c.args.owner vs) done

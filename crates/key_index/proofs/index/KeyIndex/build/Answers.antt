use Rattle.std.proofs.Common.{ap, arith, false, length, subst, sym, true, ◌+◌, ◌∙◌, ◌≡◌, ◌<◌, ℕ}
use Rattle.key_index.specs.Slots.{keys_of, placed, slots_in}
use Rattle.key_index.proofs.Following.{IsBuilt, built_dead, built_live, built_none}
use Rattle.key_index.proofs.SlotKeys.{keys_more, keys_placed, length_set, no_slots}
use Rattle.key_index.proofs.index.KeyIndex.build.Goals.{then-is_live+in_ok-slot+in_ok-put, else-is_live}
use Rattle.key_index.proofs.index.KeyIndex.build.Goals as goal

pub loop-ordinal-init : goal.loop-ordinal-init
loop-ordinal-init g c = record {
  built = built_none (g.R.Rows.schemas c.args.rows.now) (g.R.Rows.table c.args.rows.now) c.args.type_index c.args.paths (keys_of (slots_in c.make_room.new.self)) c.args.steps.now
      (keys_more (slots_in c.new-slots.result) (slots_in c.make_room.new.self) _ c.make_room.ensures.widens ∙ ap keys_of c.new-slots.ensures ∙ no_slots);
  room = c.in_ok-make_room.ensures.room;
  few = omega (arith, c.make_room.ensures.widens.short, ap length c.new-slots.ensures);
}

pub loop-ordinal-preserved : goal.loop-ordinal-preserved
loop-ordinal-preserved g c =
    let S = g.R.Rows.schemas c.args.rows.now in
    let T = g.R.Rows.table c.args.rows.now in
    let t = c.args.type_index in
    let o = c.loop-ordinal.ordinal in
    let slots = slots_in c.loop-ordinal.slots in
    elim c.if-is_live.branch [
      | then-is_live+in_ok-slot+in_ok-put w ↦
          let is = ap slots_in w.slots-is ∙ w.in_ok-put.ensures in
          let inside : o < length slots = omega (arith, c.loop-ordinal.invariant.room) in
          record {
            built = built_live S T t c.args.paths (keys_of slots) c.args.steps.now c.loop-ordinal.steps o c.loop-ordinal.invariant.built (keys_of (slots_in c.if-is_live.slots)) (c.is_live.ensures.0 w.if-is_live.true)
                (ap keys_of is ∙ keys_placed slots o w.in_ok-slot.slot inside ∙ ap (placed (keys_of slots) o) w.in_ok-slot.ensures.key)
                c.if-is_live.steps (w.steps-is ∙ w.read_slot.ensures.counted);
            room = omega (arith, c.loop-ordinal.invariant.room, ap length is, length_set slots o w.in_ok-slot.slot);
            few = omega (arith, c.loop-ordinal.invariant.few, ap length is, length_set slots o w.in_ok-slot.slot);
          }
      | else-is_live w ↦ record {
        built =
            subst (λ ss. IsBuilt S T t c.args.paths (keys_of (slots_in ss)) c.args.steps.now c.if-is_live.steps (o + 1)) (sym w.slots-is)
            (subst (λ (n : ℕ). IsBuilt S T t c.args.paths (keys_of slots) c.args.steps.now n (o + 1)) (sym w.steps-is)
            (built_dead S T t c.args.paths (keys_of slots) c.args.steps.now c.loop-ordinal.steps o c.loop-ordinal.invariant.built
            (λ live. (let both : true ≡ false = sym (c.is_live.ensures.1 live) ∙ w.if-is_live.false in cc))));
        room = omega (arith, c.loop-ordinal.invariant.room, ap (λ ss. length (slots_in ss)) w.slots-is);
        few = omega (arith, c.loop-ordinal.invariant.few, ap (λ ss. length (slots_in ss)) w.slots-is);
      }
    ]

pub returns-clause-counted : goal.returns-clause-counted
returns-clause-counted g c =
    let built = c.loop-ordinal.invariant.built in (
      built.live,
      built.rising,
      (λ ordinal. (
        (λ there. ((built.are ordinal).0 there).0),
        (λ live. let below : ordinal < c.bound-bound.result = c.bound-bound.ensures.above ordinal live in (built.are ordinal).1 (live, omega arith)),
      )),
      built.count,
    )

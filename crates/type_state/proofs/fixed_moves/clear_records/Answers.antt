use Rattle.std.proofs.Common.{ℕ, ◌+◌, ◌<◌, List, None, map, length, get_or, refl, sym, subst, arith}
use Rattle.std.proofs.lemmas.List.{length-map}
use Rattle.type_state.specs.Differences.{removal}
use Rattle.type_state.proofs.Comings.{marked}
use Rattle.type_state.proofs.RecordedRows.{begun, bits_there, gone, same_places, unplaced, Writing, written_all, written_more}
use Rattle.type_state.proofs.fixed_moves.clear_records.Goals as goal
use Rattle.type_state.proofs.fixed_moves.clear_records.Goals.{then-ordinal-places, else-ordinal-places}

pub loop-ordinal-init : goal.loop-ordinal-init
loop-ordinal-init c = begun c.args.shape.now c.args.widths.now c.args.first.now c.args.places (map removal c.args.removed.now)

pub clear_record-requires-clause-within : goal.clear_record-requires-clause-within
clear_record-requires-clause-within c =
    let h = same_places c.args.shape.now c.args.widths.now c.args.first.now c.loop-ordinal.first c.args.places c.requires c.loop-ordinal.invariant.long in
    (bits_there c.args.widths.now c.loop-ordinal.first c.args.places _ h.within h.counted (omega arith)).0

pub clear_record-requires-clause-counted : goal.clear_record-requires-clause-counted
clear_record-requires-clause-counted c =
    let h = same_places c.args.shape.now c.args.widths.now c.args.first.now c.loop-ordinal.first c.args.places c.requires c.loop-ordinal.invariant.long in
    (bits_there c.args.widths.now c.loop-ordinal.first c.args.places _ h.within h.counted (omega arith)).1

pub loop-ordinal-preserved : goal.loop-ordinal-preserved
loop-ordinal-preserved c =
    let k = c.loop-ordinal.ordinal-index in
    let os = c.args.removed.now in
    let shape = c.args.shape.now in
    let widths = c.args.widths.now in
    let long = length-map os removal in
    let within : k < length (map removal os) = omega (arith, long, c.loop-ordinal-test.true) in
    elim c.if-ordinal-places.branch [
      | then-ordinal-places w ↦
          subst (λ (first : List ℕ). Writing shape widths c.args.first.now first c.args.places (map removal os) (k + 1)) (sym w.first-is)
          (written_more shape widths c.args.first.now c.loop-ordinal.first w.clear_record.new.first c.args.places (map removal os) k (removal (get_or os k 0)) c.loop-ordinal.invariant within (marked os k (get_or os k 0) refl c.loop-ordinal-test.true) w.clear_record.auto.first
          (gone shape widths c.loop-ordinal.first w.clear_record.new.first c.args.places (get_or os k 0) None c.requires.fixed c.requires.long refl w.clear_record.ensures.clear w.clear_record.ensures.others))
      | else-ordinal-places w ↦
          subst (λ (first : List ℕ). Writing shape widths c.args.first.now first c.args.places (map removal os) (k + 1)) (sym w.first-is)
          (written_more shape widths c.args.first.now c.loop-ordinal.first c.loop-ordinal.first c.args.places (map removal os) k (removal (get_or os k 0)) c.loop-ordinal.invariant within (marked os k (get_or os k 0) refl c.loop-ordinal-test.true) refl
          (unplaced shape widths c.loop-ordinal.first c.args.places (removal (get_or os k 0)) w.if-ordinal-places.false))
    ]

pub returns : goal.returns
returns c = written_all c.args.shape.now c.args.widths.now c.args.first.now c.loop-ordinal.first c.args.places (map removal c.args.removed.now) c.loop-ordinal.ordinal-index c.loop-ordinal.invariant (let long = length-map c.args.removed.now removal in omega (arith, long, c.loop-ordinal-test.false))

use Rattle.std.proofs.Common.{◌≡◌, ℕ, ◌+◌, ◌^◌, ◌<◌, ◌≤◌, List, Some, length, get_or, refl, ap, sym, subst, arith}
use Rattle.std.specs.Prelude.{sum}
use Rattle.type_rows.specs.Patches.{places_in}
use Rattle.type_rows.specs.Rows.{row_in}
use Rattle.type_rows.specs.Differing.{differ_at}
use Rattle.row_model.specs.Table.{RowMap}
use Rattle.type_state.specs.Differences.{added_of, addition}
use Rattle.type_state.specs.Recorded.{AreRecorded}
use Rattle.type_state.proofs.AddedRows.{few_places}
use Rattle.type_state.proofs.Comings.{brought, brought_long, patch_holds, patch_small, spells_record}
use Rattle.type_state.proofs.RecordedRows.{begun, come_copied, others_same, record_same, small_there, unplaced, Writing, written_all, written_more}
use Rattle.type_state.proofs.fixed_moves.bring_records.Goals as goal
use Rattle.type_state.proofs.fixed_moves.bring_records.Goals.{then-ordinal-places, else-ordinal-places}

pub loop-place-init : goal.loop-place-init
loop-place-init c = begun c.args.differences.now.schema.now.shape c.args.widths.now c.args.first.now c.args.places (added_of c.args.differences.now)

pub overflow_cast-size : goal.overflow_cast-size
overflow_cast-size c =
    let few = patch_small c.args.differences.now.schema.now.shape c.args.differences.now.patch.now c.requires.held.object c.requires.apart.readable in
    omega (arith, few, c.total_width-size.ensures.total, ap (λ (widths : List ℕ). sum widths) c.requires.widths)

pub overflow_mul-place : goal.overflow_mul-place
overflow_mul-place c =
    let ds = c.args.differences.now in
    let few = patch_small ds.schema.now.shape ds.patch.now c.requires.held.object c.requires.apart.readable in
    let same = ap length c.as_slice-ordinal-items.ensures in
    let low = few_places ds.schema.now.shape ds.patch.now c.loop-place.place c.requires.apart.readable c.requires.apart.come_rise c.requires.apart.come_placed (omega (arith, same, c.loop-place-test.true)) in
    let narrow : c.total_width-size.result ≤ 65536 = omega (arith, few, c.total_width-size.ensures.total, ap (λ (widths : List ℕ). sum widths) c.requires.widths) in
    let small = small_there c.loop-place.place c.total_width-size.result low narrow in
    omega (arith, small)

pub copy_bits-requires-clause-counted : goal.copy_bits-requires-clause-counted
copy_bits-requires-clause-counted c =
    let ds = c.args.differences.now in
    let few = patch_small ds.schema.now.shape ds.patch.now c.requires.held.object c.requires.apart.readable in
    let same = ap length c.as_slice-ordinal-items.ensures in
    let inside : c.loop-place.place < length ds.patch.now.added = omega (arith, same, c.loop-place-test.true) in
    let low = few_places ds.schema.now.shape ds.patch.now c.loop-place.place c.requires.apart.readable c.requires.apart.come_rise c.requires.apart.come_placed inside in
    let narrow : c.total_width-size.result ≤ 65536 = omega (arith, few, c.total_width-size.ensures.total, ap (λ (widths : List ℕ). sum widths) c.requires.widths) in
    let there = c.requires.apart.come_placed c.loop-place.place 0 inside in
    let is = ap (λ os. get_or os c.loop-place.place 0) c.as_slice-ordinal-items.ensures in
    let high : get_or c.as_slice-ordinal-items.result.now c.loop-place.place 0 < 2 ^ 22 = omega (arith, there, is, c.requires.apart.readable.few) in
    (small_there c.loop-place.place c.total_width-size.result low narrow, small_there (get_or c.as_slice-ordinal-items.result.now c.loop-place.place 0) c.total_width-size.result high narrow)

pub loop-place-preserved : goal.loop-place-preserved
loop-place-preserved c =
    let ds = c.args.differences.now in
    let shape = ds.schema.now.shape in
    let patch = ds.patch.now in
    let widths = c.args.widths.now in
    let k = c.loop-place.place in
    let old = c.loop-place.first in
    let places = c.args.places in
    let d = addition shape patch k in
    let o = get_or c.as_slice-ordinal-items.result.now k 0 in
    let same = ap length c.as_slice-ordinal-items.ensures in
    let long = brought_long ds in
    let inside : k < length patch.added = omega (arith, same, c.loop-place-test.true) in
    let within : k < length (added_of ds) = omega (arith, long, inside) in
    let is : o ≡ d.0 = ap (λ os. get_or os k 0) c.as_slice-ordinal-items.ensures in
    let size = c.total_width-size.result in
    elim c.if-ordinal-places.branch [
      | then-ordinal-places w ↦
          let new = w.copy_bits.new.to in
          let at = record_same widths new c.as_slice-from.result.now size o k c.total_width-size.ensures.total (w.copy_bits.ensures.each 0 size (omega arith)) in
          let others = others_same widths old new size o c.total_width-size.ensures.total w.copy_bits.ensures.others in
          let step = come_copied shape patch widths c.as_slice-from.result.now old new places o k (row_in shape (places_in patch) k) c.requires.held.fixed c.requires.widths c.as_slice-from.ensures
          (patch_holds shape patch k c.requires.held.object c.requires.apart.readable c.requires.apart.come_rise c.requires.apart.come_placed inside)
          (spells_record shape patch k (row_in shape (places_in patch) k) c.requires.held.object (c.requires.apart.spelled.each k inside)) (c.requires.stored k inside) at others in
          subst (λ (first : List ℕ). Writing shape widths c.args.first.now first places (added_of ds) (k + 1)) (sym w.first-is)
          (written_more shape widths c.args.first.now old new places (added_of ds) k d c.loop-place.invariant within (brought ds k inside) w.copy_bits.auto.to
          (subst (λ p. (rows : RowMap) → AreRecorded shape widths old places rows → AreRecorded shape widths new places (differ_at rows (p, Some (row_in shape (places_in patch) k)))) is step))
      | else-ordinal-places w ↦
          subst (λ (first : List ℕ). Writing shape widths c.args.first.now first places (added_of ds) (k + 1)) (sym w.first-is)
          (written_more shape widths c.args.first.now old old places (added_of ds) k d c.loop-place.invariant within (brought ds k inside) refl
          (unplaced shape widths old places d (subst (λ p. places ≤ p) is w.if-ordinal-places.false)))
    ]

pub returns : goal.returns
returns c =
    let ds = c.args.differences.now in
    written_all ds.schema.now.shape c.args.widths.now c.args.first.now c.loop-place.first c.args.places (added_of ds) c.loop-place.place c.loop-place.invariant
    (let same = ap length c.as_slice-ordinal-items.ensures in let long = brought_long ds in omega (arith, same, long, c.loop-place-test.false))

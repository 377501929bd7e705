use Rattle.std.proofs.Common.{◌≡◌, ◌+◌, ◌*◌, List, ℕ, ◌++◌, length, map, sym, ◌∙◌, subst, arith}
use Rattle.row_model.specs.Table.{RowMap}
use Rattle.bit_array.specs.Element.{element_of}
use Rattle.packed_half.specs.Half.{areas_in}
use Rattle.packed_half.specs.LaidOut.{IsLaidOut}
use Rattle.packed_half.proofs.Parted.{cut_zeros}
use Rattle.type_rows.specs.Loads.{Loads}
use Rattle.type_state.proofs.MovedItems.{AreSameUpTo}
use Rattle.type_state.proofs.PartCounts.{item_count_is, place_count_is}
use Rattle.type_state.proofs.CopiedRows.{rows_laid}
use Rattle.type_state.proofs.copied_rows.copy_rows.Goals as goal

pub returns : goal.returns
returns c =
    let shape = c.args.shape.now in
    let section = c.args.section.now in
    let half = c.args.half.now in
    let widths = c.as_slice-widths in
    let items = c.split_at_mut-second.result.0.now in
    let bytes = c.split_at_mut-second.result.1.now in
    let parts = cut_zeros shape half c.args.words.now c.split_at_mut-first.result.0.now c.split_at_mut-first.result.1.now items bytes
    c.words_needed-places.result c.fixed_words-items.result c.requires.zeros (place_count_is shape half widths.result.now c.words_needed-places.result widths.ensures c.words_needed-places.ensures)
    (item_count_is shape half widths.result.now c.fixed_words-items.result widths.ensures c.fixed_words-items.ensures)
    c.split_at_mut-first.ensures.front c.split_at_mut-first.ensures.back c.split_at_mut-second.ensures.front c.split_at_mut-second.ensures.back in
    let first = c.copy_from_slice.ensures.after ∙ c.as_slice.ensures in
    let long : length items ≡ c.fixed_words-items.result = c.split_at_mut-second.ensures.front_len in
    let each : AreSameUpTo section.second c.copy_bits.new.to (64 * length items) = λ bit width below.
    (let here : 0 + bit ≡ bit = omega arith in
    let told = c.copy_bits.ensures.each bit width (omega (arith, below, long)) in
    subst (λ (from : List ℕ). element_of c.copy_bits.new.to bit width ≡ element_of from bit width) c.as_slice-2.ensures
    (subst (λ n. element_of c.copy_bits.new.to n width ≡ element_of c.as_slice-2.result.now n width) here told)) in
    let put = subst (λ (areas : List (List ℕ)). areas_in c.put_areas.new.words (map (λ (area : List ℕ). length area) areas) ≡ areas) c.as_slice-3.ensures c.put_areas.ensures in
    subst (λ (front : List ℕ). (rows : RowMap) → Loads shape section rows → IsLaidOut shape half (front ++ (c.copy_bits.new.to ++ c.put_areas.new.words)) rows) (sym first)
    (rows_laid shape section half c.split_at_mut-first.result.0.now items bytes c.copy_bits.new.to c.put_areas.new.words c.requires.alike c.requires.loads parts c.copy_bits.auto.to each c.put_areas.auto.words put)

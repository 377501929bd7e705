use Rattle.std.proofs.Common.{◌∙◌, ap, arith, length, List, rules, ℕ}
use Rattle.std.specs.Prelude.{slice_index}
use Rattle.std.specs.Vec.{with_items}
use Rattle.std.proofs.lemmas.List.{with_items_is}
use Rattle.type_state.proofs.LeavingRows.{row_less, taken_off}
use Rattle.type_state.proofs.leaving.Leaving.take_off.Goals as goal

pub returns : goal.returns
returns c = λ row stands.
    let taken = taken_off c.args.self.now.columns.items c.as_slice-columns.result.now c.args.ordinal c.from.result row c.deref_mut.result.now c.take_values-bytes.new.ends c.args.totals.now.ends.offsets.items c.take_values-bytes.result
    c.as_slice-columns.ensures.value c.from.ensures c.deref_mut.ensures.value c.take_values-bytes.ensures.ends c.take_values-bytes.ensures.bytes stands.0 in
    let same = with_items_is c.args.totals.now.ends.offsets c.take_values-bytes.new.ends (omega (arith, c.take_values-bytes.auto.ends, c.deref_mut.ensures.len)) in
    let before = ap (λ (es : List ℕ). length es) c.deref_mut.ensures.value in
    let after = ap (λ (es : List ℕ). length es) same in
    row_less c.args.totals.now (record { ends = record { offsets = with_items c.args.totals.now.ends.offsets c.take_values-bytes.new.ends; items = c.saturating_sub-totals-2.result }; bytes = c.saturating_sub-totals.result }) row c.take_values-bytes.result c.items_under-items.result
    (search rules) (λ field. ap (λ (es : List ℕ). slice_index es field) same ∙ taken.0 field) taken.1 (c.items_under-items.ensures row stands.1) (search rules) (search rules) (omega (arith, after, before, c.take_values-bytes.auto.ends))

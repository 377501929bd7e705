use Rattle.std.proofs.Common.{◌≤◌, ℕ, List, length, ap, subst, sym, rules, arith}
use Rattle.std.specs.List.{All}
use Rattle.std.proofs.lemmas.List.Elements.{All-nil, All-push}
use Rattle.blob_cursor.proofs.Counting.{counts_more, counts_stops, counts_free, counts_done, counts_start}
use Rattle.blob_cursor.proofs.Runs.{one_longer}
use Rattle.blob_sections.proofs.Items.{reads_part_widths}
use Rattle.blob_sections.proofs.widths.part_widths.Goals as goal

abbrev Narrow : ℕ → Type 0
Narrow width = width ≤ 64

pub loop-item-init : goal.loop-item-init
loop-item-init g c = record {
  counts = counts_start c.width_count-count.result c.requires.over c.new-widths.ensures;
  long = ap (λ (xs : List ℕ). length xs) c.new-widths.ensures;
  narrow = subst (λ (xs : List ℕ). All Narrow xs) (sym c.new-widths.ensures) (All-nil Narrow);
}

pub returns-in_err-part_width-clause-reads : goal.returns-in_err-part_width-clause-reads
returns-in_err-part_width-clause-reads g c =
    reads_part_widths c.args.shape.now _ c.width_count-count.ensures (counts_stops (omega arith) c.loop-item.invariant.counts c.in_err-part_width.ensures.reads (search rules))

pub returns-in_err-push-clause-reads : goal.returns-in_err-push-clause-reads
returns-in_err-push-clause-reads g c =
    reads_part_widths c.args.shape.now _ c.width_count-count.ensures (counts_free _ c.loop-item.invariant.counts c.in_ok-part_width.ensures.reads (search rules))

pub loop-item-preserved : goal.loop-item-preserved
loop-item-preserved g c = record {
  counts = counts_more (omega arith) c.loop-item.invariant.counts c.in_ok-part_width.ensures.reads c.in_ok-push.ensures.ok;
  long = one_longer _ _ _ c.loop-item.invariant.long c.in_ok-push.ensures.ok;
  narrow = subst (λ (xs : List ℕ). All Narrow xs) (sym c.in_ok-push.ensures.ok) (All-push Narrow c.loop-item.widths c.in_ok-part_width.field-0 c.loop-item.invariant.narrow c.in_ok-part_width.ensures.whole);
}

pub returns-clause-reads : goal.returns-clause-reads
returns-clause-reads g c = reads_part_widths c.args.shape.now _ c.width_count-count.ensures (counts_done c.loop-item.invariant.counts (omega arith))

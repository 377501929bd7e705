use Rattle.std.proofs.Common.{List, subst, sym, rules, arith}
use Rattle.std.specs.List.{All}
use Rattle.std.proofs.lemmas.List.Elements.{All-nil, All-push}
use Rattle.type_rows.specs.WellFormed.{IsWellFormed}
use Rattle.blob_cursor.proofs.Counting.{counts_more, counts_stops, counts_free, counts_done, counts_start}
use Rattle.snapshot_blob.specs.declared.part.TypePart.{TypePart}
use Rattle.snapshot_blob.proofs.part.type_parts.Goals as goal

abbrev WellFormed : TypePart → Type 0
WellFormed part = IsWellFormed part.schema.shape part.section

pub returns-in_err-type_part-clause-reads : goal.returns-in_err-type_part-clause-reads
returns-in_err-type_part-clause-reads g c = counts_stops (omega arith) c.loop-item.invariant.counts c.in_err-type_part.ensures.reads (search rules)

pub returns-in_err-push-clause-reads : goal.returns-in_err-push-clause-reads
returns-in_err-push-clause-reads g c = counts_free _ c.loop-item.invariant.counts c.in_ok-type_part.ensures.reads (search rules)

pub loop-item-preserved : goal.loop-item-preserved
loop-item-preserved g c = record {
  counts = counts_more (omega arith) c.loop-item.invariant.counts c.in_ok-type_part.ensures.reads c.in_ok-push.ensures.ok;
  whole = subst (λ (parts : List TypePart). All WellFormed parts) (sym c.in_ok-push.ensures.ok) (All-push WellFormed c.loop-item.list c.in_ok-type_part.field-0 c.loop-item.invariant.whole c.in_ok-type_part.ensures.whole);
}

pub returns-clause-reads : goal.returns-clause-reads
returns-clause-reads g c = counts_done c.loop-item.invariant.counts (omega arith)

pub loop-item-init : goal.loop-item-init
loop-item-init g c = record {
  counts = counts_start c.args.count c.requires.over c.new-list.ensures;
  whole = subst (λ (parts : List TypePart). All WellFormed parts) (sym c.new-list.ensures) (All-nil WellFormed);
}

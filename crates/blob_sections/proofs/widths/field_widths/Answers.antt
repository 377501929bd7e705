use Rattle.std.proofs.Common.{rules, arith}
use Rattle.blob_sections.proofs.Each.{walks_start, walks_more, walks_stops, walks_free, walks_done, walks_each}
use Rattle.blob_sections.proofs.widths.field_widths.Goals as goal

pub loop-field-init : goal.loop-field-init
loop-field-init g c = walks_start c.requires.over c.new-widths.ensures

pub returns-in_err-field_width-clause-reads : goal.returns-in_err-field_width-clause-reads
returns-in_err-field_width-clause-reads g c = walks_stops c.field-item.result (omega arith) c.field-item.is c.loop-field.invariant c.in_err-field_width.ensures.reads (search rules)

pub returns-in_err-push-clause-reads : goal.returns-in_err-push-clause-reads
returns-in_err-push-clause-reads g c = walks_free c.field-item.result c.loop-field.invariant c.in_ok-field_width.ensures.reads (search rules)

pub loop-field-preserved : goal.loop-field-preserved
loop-field-preserved g c =
    walks_more c.field-item.result (omega arith) c.field-item.is c.loop-field.invariant c.in_ok-field_width.ensures.reads c.in_ok-field_width.ensures.whole c.in_ok-push.ensures.ok

pub returns-clause-reads : goal.returns-clause-reads
returns-clause-reads g c = walks_done c.loop-field.invariant (omega arith)

pub returns-clause-whole : goal.returns-clause-whole
returns-clause-whole g c = walks_each c.loop-field.invariant (omega arith)

use Rattle.std.proofs.Common.{◌∙◌, length, ap, arith}
use Rattle.hol_incremental.specs.Changes.{records}
use Rattle.hol_incremental.specs.Edited.{of_first}
use Rattle.hol_incremental.proofs.PutCalls.{agree_now, kept_then, more_agree, passed, type_added, type_refused}
use Rattle.hol_incremental.proofs.putting.put_all.Goals as goal

pub put_type-requires-clause-agree : goal.put_type-requires-clause-agree
put_type-requires-clause-agree c =
    let start = c.args.producer.now in
    let now = c.loop-type_index.producer in
    agree_now start now c.loop-type_index.invariant.kept
    (more_agree start.schemas start.previous (of_first c.loop-type_index.type_index (records c.args.puts.now)) start.current now.current c.args.tops.now c.loop-type_index.tops c.current.ensures.agree c.loop-type_index.invariant.added)

pub returns-in_err-put_type-clause-too_many : goal.returns-in_err-put_type-clause-too_many
returns-in_err-put_type-clause-too_many c is =
    let start = c.args.producer.now in
    let now = c.loop-type_index.producer in
    let low = c.loop-type_index-test.true in
    let count = c.len-type_index-end.ensures.count in
    let model = ap (λ s. length s) (c.model.ensures.model ∙ c.current.ensures.schemas) in
    type_refused start now c.loop-type_index.invariant.kept c.loop-type_index.type_index (records c.args.puts.now) (length start.schemas) (omega (arith, low, count, model)) start.current c.args.tops.now c.loop-type_index.tops
    c.current.ensures.agree c.loop-type_index.invariant.added (c.in_err-put_type.ensures.too_many (passed c.in_err-put_type.field-0.0 c.from_residual.result is c.from_residual.ensures.1))

pub loop-type_index-preserved : goal.loop-type_index-preserved
loop-type_index-preserved c =
    let start = c.args.producer.now in
    let now = c.loop-type_index.producer in
    let inv = c.loop-type_index.invariant in
    record {
      added = type_added start now inv.kept c.loop-type_index.type_index (records c.args.puts.now) start.current c.put_type.new.producer.current c.args.tops.now c.loop-type_index.tops c.put_type.new.tops inv.added c.in_ok-put_type.ensures.added;
      kept = kept_then start now c.put_type.new.producer inv.kept c.in_ok-put_type.ensures.kept;
    }

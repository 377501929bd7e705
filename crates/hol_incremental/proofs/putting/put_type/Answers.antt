use Rattle.std.proofs.Common.{◌∙◌, ◌+◌, ℕ, List, sym, ap, subst, take}
use Rattle.row_model.specs.Table.{Table}
use Rattle.write_engine.specs.Production.{Production}
use Rattle.hol_incremental.specs.Changes.{records}
use Rattle.hol_incremental.specs.Edited.{of_type}
use Rattle.hol_incremental.specs.Tops.{AddsMore}
use Rattle.hol_incremental.proofs.PutCalls.{item_added, item_fits, item_passed, item_refused, kept_then, passed}
use Rattle.hol_incremental.proofs.putting.put_type.Goals.{then-entry-type_index+in_ok-put_one, else-entry-type_index}
use Rattle.hol_incremental.proofs.putting.put_type.Goals as goal

pub put_one-requires-clause-fits : goal.put_one-requires-clause-fits
put_one-requires-clause-fits c =
    item_fits c.args.producer.now c.loop-entry.producer c.loop-entry.invariant.kept c.args.type_index c.args.puts.now c.loop-entry.entry-index c.entry-item.result c.loop-entry-test.true c.entry-item.is c.requires.fits

pub returns-in_err-put_one-clause-too_many : goal.returns-in_err-put_one-clause-too_many
returns-in_err-put_one-clause-too_many c is =
    item_refused c.args.producer.now c.loop-entry.producer c.loop-entry.invariant.kept c.args.type_index c.args.puts.now c.loop-entry.entry-index c.entry-item.result c.loop-entry-test.true c.entry-item.is c.args.producer.now.current
    c.args.tops.now c.loop-entry.tops c.requires.agree c.if-entry-type_index.true c.loop-entry.invariant.added (c.in_err-put_one.ensures.too_many (passed c.in_err-put_one.field-0.0 c.from_residual.result is c.from_residual.ensures.1))

pub loop-entry-preserved : goal.loop-entry-preserved
loop-entry-preserved c =
    let start = c.args.producer.now in
    let now = c.loop-entry.producer in
    let t = c.args.type_index in
    let puts = c.args.puts.now in
    let i = c.loop-entry.entry-index in
    let inv = c.loop-entry.invariant in
    elim c.if-entry-type_index.branch [
      | then-entry-type_index+in_ok-put_one w ↦ record {
        added =
            subst (λ (x : Table). AddsMore start.schemas start.previous (of_type t (records (take (i + 1) puts))) start.current c.args.tops.now x c.if-entry-type_index.tops) (ap (λ (p : Production). p.current) (sym w.producer-is))
            (subst (λ (rows : List (ℕ × ℕ)). AddsMore start.schemas start.previous (of_type t (records (take (i + 1) puts))) start.current c.args.tops.now w.put_one.new.producer.current rows) (sym w.tops-is)
            (item_added start now inv.kept t puts i c.entry-item.result c.loop-entry-test.true c.entry-item.is start.current w.put_one.new.producer.current c.args.tops.now c.loop-entry.tops w.put_one.new.tops w.if-entry-type_index.true inv.added
            w.in_ok-put_one.ensures.added));
        kept = kept_then start now c.if-entry-type_index.producer inv.kept (w.producer-is ∙ w.in_ok-put_one.ensures.kept ∙ ap (λ (p : Production). record now { current = p.current }) (sym w.producer-is));
      }
      | else-entry-type_index w ↦ record {
        added =
            subst (λ (x : Table). AddsMore start.schemas start.previous (of_type t (records (take (i + 1) puts))) start.current c.args.tops.now x c.if-entry-type_index.tops) (ap (λ (p : Production). p.current) (sym w.producer-is))
            (subst (λ (rows : List (ℕ × ℕ)). AddsMore start.schemas start.previous (of_type t (records (take (i + 1) puts))) start.current c.args.tops.now now.current rows) (sym w.tops-is)
            (item_passed start now inv.kept t puts i c.entry-item.result c.loop-entry-test.true c.entry-item.is start.current c.args.tops.now c.loop-entry.tops w.if-entry-type_index.false inv.added));
        kept = kept_then start now c.if-entry-type_index.producer inv.kept (w.producer-is ∙ ap (λ (p : Production). record now { current = p.current }) (sym w.producer-is));
      }
    ]

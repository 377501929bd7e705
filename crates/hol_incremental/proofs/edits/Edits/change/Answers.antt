use Rattle.std.proofs.Common.{◌≡◌, ◌∙◌, ◌+◌, ◌≤◌, ℕ, List, [], length, sym, ap, subst}
use Rattle.std.specs.Prelude.{filter, nat_eq}
use Rattle.schema_model.specs.declared.schema.Schema.{Schema}
use Rattle.schema_model.specs.Model.{IsModel}
use Rattle.row_model.specs.Table.{IsClosed, Table}
use Rattle.record_trees.specs.declared.tree.Tree.{Tree}
use Rattle.write_engine.specs.Soundness.{IsClosedTableOf}
use Rattle.write_engine.specs.StoredRows.{AreStored}
use Rattle.kept_sums.specs.Sums.{TypeSums}
use Rattle.hol_incremental.specs.Beside.{IsFromEither, IsPartOf}
use Rattle.hol_incremental.specs.Changes.{records}
use Rattle.hol_incremental.specs.Counted.{CountsOf}
use Rattle.hol_incremental.specs.Counts.{keyed_size_of, size_of}
use Rattle.hol_incremental.specs.Drops.{AreUnnamed, IsDropping, IsHeld}
use Rattle.hol_incremental.specs.Edited.{Records, of_first}
use Rattle.hol_incremental.specs.EditKeys.{AreCounts, AreEditsOf, AreReady, count_at}
use Rattle.hol_incremental.specs.Sums.{AreSums, AreSumsOfBoth}
use Rattle.hol_incremental.specs.Tops.{AddsTops}
use Rattle.hol_incremental.proofs.ChangeCalls.{adds_of, closed_of, current_one, free_fault, never_of, once_of, previous_three, previous_two, schemas_one, schemas_three, schemas_two, stored_of}
use Rattle.hol_incremental.proofs.ChangeFacts.{both, counts_change, next, none_next, part, unnamed, whole_types}
use Rattle.hol_incremental.proofs.PutCalls.{passed}
use Rattle.hol_incremental.proofs.LeavingRows.{counts_missing, low_keys}
use Rattle.hol_incremental.proofs.SumLists.{sums_of_both}
use Rattle.hol_incremental.proofs.edits.Edits.change.Goals as goal

pub count_beside-requires-clause-more : goal.count_beside-requires-clause-more
count_beside-requires-clause-more g c =
    let p0 = c.args.producer.now in
    let k1 = c.in_ok-keep_all.ensures.kept in
    let p1 = c.keep_all.new.self in
    let model = subst IsModel c.model.ensures c.len-types.ensures.model in
    let k2 = c.in_ok-put_all.ensures.kept in
    let p2 = c.put_all.new.producer in
    let puts = records c.args.puts.now in
    let tops = c.put_all.new.tops in
    let adds = subst (λ (xs : List (ℕ × Tree)). AddsTops p0.schemas p0.previous (of_first (length p0.schemas) (records xs)) p0.previous tops p2.current) c.as_slice.ensures (adds_of p0 p1 k1 (records c.as_slice.result.now) p2.current tops c.new-tops.result c.new-tops.ensures c.in_ok-put_all.ensures.added) in
    let closed = closed_of p0 p1 k1 p2 k2 c.previous.ensures.closed in
    let stored = stored_of p0 p1 k1 p2 k2 c.previous.ensures.stored in
    let once = once_of p0 p1 k1 c.in_ok-put_all.ensures.agree in
    let s2 = schemas_two p0 p1 k1 p2 k2 in
    let v2 = previous_two p0 p1 k1 p2 k2 in
    subst (λ (x : Table). IsPartOf x c.current.result.table) (sym (c.previous.ensures.table ∙ v2)) (subst (λ (x : Table). IsPartOf p0.previous x) (sym c.current.ensures.table) (part p0.schemas model p0.previous closed stored once puts c.args.removes.now c.requires.fits c.requires.keyed tops p2.current adds))

pub count_beside-requires-clause-types : goal.count_beside-requires-clause-types
count_beside-requires-clause-types g c =
    let p0 = c.args.producer.now in
    let k1 = c.in_ok-keep_all.ensures.kept in
    let p1 = c.keep_all.new.self in
    let model = subst IsModel c.model.ensures c.len-types.ensures.model in
    let k2 = c.in_ok-put_all.ensures.kept in
    let p2 = c.put_all.new.producer in
    let puts = records c.args.puts.now in
    let tops = c.put_all.new.tops in
    let adds = subst (λ (xs : List (ℕ × Tree)). AddsTops p0.schemas p0.previous (of_first (length p0.schemas) (records xs)) p0.previous tops p2.current) c.as_slice.ensures (adds_of p0 p1 k1 (records c.as_slice.result.now) p2.current tops c.new-tops.result c.new-tops.ensures c.in_ok-put_all.ensures.added) in
    let closed = closed_of p0 p1 k1 p2 k2 c.previous.ensures.closed in
    let stored = stored_of p0 p1 k1 p2 k2 c.previous.ensures.stored in
    let once = once_of p0 p1 k1 c.in_ok-put_all.ensures.agree in
    let s2 = schemas_two p0 p1 k1 p2 k2 in
    let v2 = previous_two p0 p1 k1 p2 k2 in
    ap (λ (x : Table). length x) (c.previous.ensures.table ∙ v2) ∙ whole_types p0.schemas model p0.previous closed stored once puts c.args.removes.now c.requires.fits c.requires.keyed tops p2.current adds ∙ ap (λ (x : Table). length x) (sym c.current.ensures.table)

pub count_beside-requires-clause-counts : goal.count_beside-requires-clause-counts
count_beside-requires-clause-counts g c =
    let p0 = c.args.producer.now in
    let k1 = c.in_ok-keep_all.ensures.kept in
    let p1 = c.keep_all.new.self in
    let model = subst IsModel c.model.ensures c.len-types.ensures.model in
    let k2 = c.in_ok-put_all.ensures.kept in
    let p2 = c.put_all.new.producer in
    let puts = records c.args.puts.now in
    let tops = c.put_all.new.tops in
    let adds = subst (λ (xs : List (ℕ × Tree)). AddsTops p0.schemas p0.previous (of_first (length p0.schemas) (records xs)) p0.previous tops p2.current) c.as_slice.ensures (adds_of p0 p1 k1 (records c.as_slice.result.now) p2.current tops c.new-tops.result c.new-tops.ensures c.in_ok-put_all.ensures.added) in
    let closed = closed_of p0 p1 k1 p2 k2 c.previous.ensures.closed in
    let stored = stored_of p0 p1 k1 p2 k2 c.previous.ensures.stored in
    let once = once_of p0 p1 k1 c.in_ok-put_all.ensures.agree in
    let s2 = schemas_two p0 p1 k1 p2 k2 in
    let v2 = previous_two p0 p1 k1 p2 k2 in
    let are = subst (λ (x : List (List ℕ)). AreCounts p0.schemas p0.previous x) (ap (λ e. e.counts) (sym c.self.view_is) ∙ sym c.in_ok-tally.ensures.counts) c.requires.edits.counts in
    subst (λ (s : List Schema). AreCounts s c.previous.result.table c.in_ok-tally.tally.counts) (sym (c.current.ensures.schemas ∙ s2)) (subst (λ (x : Table). AreCounts p0.schemas x c.in_ok-tally.tally.counts) (sym (c.previous.ensures.table ∙ v2)) are)

pub count_beside-requires-clause-sums : goal.count_beside-requires-clause-sums
count_beside-requires-clause-sums g c =
    let p0 = c.args.producer.now in
    let k1 = c.in_ok-keep_all.ensures.kept in
    let p1 = c.keep_all.new.self in
    let model = subst IsModel c.model.ensures c.len-types.ensures.model in
    let k2 = c.in_ok-put_all.ensures.kept in
    let p2 = c.put_all.new.producer in
    let puts = records c.args.puts.now in
    let tops = c.put_all.new.tops in
    let adds = subst (λ (xs : List (ℕ × Tree)). AddsTops p0.schemas p0.previous (of_first (length p0.schemas) (records xs)) p0.previous tops p2.current) c.as_slice.ensures (adds_of p0 p1 k1 (records c.as_slice.result.now) p2.current tops c.new-tops.result c.new-tops.ensures c.in_ok-put_all.ensures.added) in
    let closed = closed_of p0 p1 k1 p2 k2 c.previous.ensures.closed in
    let stored = stored_of p0 p1 k1 p2 k2 c.previous.ensures.stored in
    let once = once_of p0 p1 k1 c.in_ok-put_all.ensures.agree in
    let s2 = schemas_two p0 p1 k1 p2 k2 in
    let v2 = previous_two p0 p1 k1 p2 k2 in
    let are = subst (λ (x : List TypeSums). AreSums p0.schemas p0.previous x) (ap (λ e. e.sums) (sym c.self.view_is) ∙ sym c.in_ok-tally.ensures.sums) c.requires.edits.sums in
    subst (λ (s : List Schema). AreSums s c.previous.result.table c.in_ok-tally.tally.sums.items) (sym (c.current.ensures.schemas ∙ s2)) (subst (λ (x : Table). AreSums p0.schemas x c.in_ok-tally.tally.sums.items) (sym (c.previous.ensures.table ∙ v2)) are)

pub find_leaving-requires-clause-low : goal.find_leaving-requires-clause-low
find_leaving-requires-clause-low g c =
    let p0 = c.args.producer.now in
    let k1 = c.in_ok-keep_all.ensures.kept in
    let p1 = c.keep_all.new.self in
    let model = subst IsModel c.model.ensures c.len-types.ensures.model in
    let k2 = c.in_ok-put_all.ensures.kept in
    let p2 = c.put_all.new.producer in
    let puts = records c.args.puts.now in
    let tops = c.put_all.new.tops in
    let adds = subst (λ (xs : List (ℕ × Tree)). AddsTops p0.schemas p0.previous (of_first (length p0.schemas) (records xs)) p0.previous tops p2.current) c.as_slice.ensures (adds_of p0 p1 k1 (records c.as_slice.result.now) p2.current tops c.new-tops.result c.new-tops.ensures c.in_ok-put_all.ensures.added) in
    let closed = closed_of p0 p1 k1 p2 k2 c.previous.ensures.closed in
    let stored = stored_of p0 p1 k1 p2 k2 c.previous.ensures.stored in
    let once = once_of p0 p1 k1 c.in_ok-put_all.ensures.agree in
    let s2 = schemas_two p0 p1 k1 p2 k2 in
    let v2 = previous_two p0 p1 k1 p2 k2 in
    low_keys p0.schemas model p0.previous c.args.self.now.keys c.requires.edits.keys once

pub make_ready-requires-clause-edits : goal.make_ready-requires-clause-edits
make_ready-requires-clause-edits g c =
    let p0 = c.args.producer.now in
    let k1 = c.in_ok-keep_all.ensures.kept in
    let p1 = c.keep_all.new.self in
    let model = subst IsModel c.model.ensures c.len-types.ensures.model in
    let k2 = c.in_ok-put_all.ensures.kept in
    let p2 = c.put_all.new.producer in
    let puts = records c.args.puts.now in
    let tops = c.put_all.new.tops in
    let adds = subst (λ (xs : List (ℕ × Tree)). AddsTops p0.schemas p0.previous (of_first (length p0.schemas) (records xs)) p0.previous tops p2.current) c.as_slice.ensures (adds_of p0 p1 k1 (records c.as_slice.result.now) p2.current tops c.new-tops.result c.new-tops.ensures c.in_ok-put_all.ensures.added) in
    let closed = closed_of p0 p1 k1 p2 k2 c.previous.ensures.closed in
    let stored = stored_of p0 p1 k1 p2 k2 c.previous.ensures.stored in
    let once = once_of p0 p1 k1 c.in_ok-put_all.ensures.agree in
    let s2 = schemas_two p0 p1 k1 p2 k2 in
    let v2 = previous_two p0 p1 k1 p2 k2 in
    let k3 = c.in_ok-drop_all.ensures.kept in
    let p3 = c.drop_all.new.producer in
    subst (λ (s : List Schema). AreEditsOf s p3.previous c.args.self.now) (sym (schemas_three p0 p1 k1 p2 k2 p3 k3)) (subst (λ (x : Table). AreEditsOf p0.schemas x c.args.self.now) (sym (previous_three p0 p1 k1 p2 k2 p3 k3)) c.requires.edits)

pub make_ready-requires-clause-counts : goal.make_ready-requires-clause-counts
make_ready-requires-clause-counts g c =
    let p0 = c.args.producer.now in
    let k1 = c.in_ok-keep_all.ensures.kept in
    let p1 = c.keep_all.new.self in
    let model = subst IsModel c.model.ensures c.len-types.ensures.model in
    let k2 = c.in_ok-put_all.ensures.kept in
    let p2 = c.put_all.new.producer in
    let puts = records c.args.puts.now in
    let tops = c.put_all.new.tops in
    let adds = subst (λ (xs : List (ℕ × Tree)). AddsTops p0.schemas p0.previous (of_first (length p0.schemas) (records xs)) p0.previous tops p2.current) c.as_slice.ensures (adds_of p0 p1 k1 (records c.as_slice.result.now) p2.current tops c.new-tops.result c.new-tops.ensures c.in_ok-put_all.ensures.added) in
    let closed = closed_of p0 p1 k1 p2 k2 c.previous.ensures.closed in
    let stored = stored_of p0 p1 k1 p2 k2 c.previous.ensures.stored in
    let once = once_of p0 p1 k1 c.in_ok-put_all.ensures.agree in
    let s2 = schemas_two p0 p1 k1 p2 k2 in
    let v2 = previous_two p0 p1 k1 p2 k2 in
    let counts = c.count_beside.new.tally.counts in
    let sums = c.count_beside.new.tally.sums.items in
    let leaving = c.find_leaving.new.leaving in
    let leave = c.in_ok-missing.ensures.leaving in
    let co = subst (λ (s : List Schema). CountsOf s p0.previous p2.current counts sums c.args.steps.now c.count_beside.new.steps) (c.current.ensures.schemas ∙ s2)
    (subst (λ (x : Table). CountsOf c.current.result.schemas x p2.current counts sums c.args.steps.now c.count_beside.new.steps) (c.previous.ensures.table ∙ v2)
    (subst (λ (x : Table). CountsOf c.current.result.schemas c.previous.result.table x counts sums c.args.steps.now c.count_beside.new.steps) c.current.ensures.table c.in_ok-count_beside.ensures)) in
    let pending : c.in_ok-pending.pending.items ≡ filter (λ row. nat_eq (count_at counts row.0 row.1) 0) leaving = c.in_ok-pending.ensures ∙ ap (λ (rows : List (ℕ × ℕ)). filter (λ row. nat_eq (count_at counts row.0 row.1) 0) rows) c.as_slice-3.ensures in
    let k3 = c.in_ok-drop_all.ensures.kept in
    let p3 = c.drop_all.new.producer in
    let s3 = schemas_three p0 p1 k1 p2 k2 p3 k3 in
    let v3 = previous_three p0 p1 k1 p2 k2 p3 k3 in
    let drop = subst (λ (s : List Schema). (start held : Table) → IsHeld s leaving start held → IsDropping s leaving start held p2.current (filter (λ row. nat_eq (count_at counts row.0 row.1) 0) leaving) → IsDropping s leaving start held p3.current []) s2
    (subst (λ (rows : List (ℕ × ℕ)). (start held : Table) → IsHeld p2.schemas leaving start held → IsDropping p2.schemas leaving start held p2.current rows → IsDropping p2.schemas leaving start held p3.current []) pending c.in_ok-drop_all.ensures.left) in
    let whole = both p0.schemas model p0.previous closed stored once puts c.args.removes.now c.requires.fits c.requires.keyed tops p2.current adds c.args.self.now.keys c.requires.edits.keys leaving leave counts co.counted p3.current drop in
    let now = sums_of_both p0.schemas p0.previous p3.current p2.current whole c.in_ok-both.both.items (subst (AreSums p0.schemas p2.current) (sym (c.in_ok-both.ensures ∙ c.as_slice-2.ensures.value)) co.summed) in
    record {
      counts = subst (λ (s : List Schema). AreCounts s p3.current c.drop_all.new.tally.counts) (ap (λ p. p.schemas) (sym k3)) c.in_ok-drop_all.ensures.counts.counts;
      sums = subst (λ (s : List Schema). AreSums s p3.current c.drop_all.new.tally.sums.items) (ap (λ p. p.schemas) (sym k3)) c.in_ok-drop_all.ensures.counts.sums;
      both = subst (λ (s : List Schema). AreSumsOfBoth s p3.previous p3.current c.in_ok-both.both.items) (sym s3)
          (subst (λ (x : Table). AreSumsOfBoth p0.schemas x p3.current c.in_ok-both.both.items) (sym v3) now);
    }

pub returns-clause-ready : goal.returns-clause-ready
returns-clause-ready g c =
    let p0 = c.args.producer.now in
    let k1 = c.in_ok-keep_all.ensures.kept in
    let p1 = c.keep_all.new.self in
    let model = subst IsModel c.model.ensures c.len-types.ensures.model in
    let k2 = c.in_ok-put_all.ensures.kept in
    let p2 = c.put_all.new.producer in
    let puts = records c.args.puts.now in
    let tops = c.put_all.new.tops in
    let adds = subst (λ (xs : List (ℕ × Tree)). AddsTops p0.schemas p0.previous (of_first (length p0.schemas) (records xs)) p0.previous tops p2.current) c.as_slice.ensures (adds_of p0 p1 k1 (records c.as_slice.result.now) p2.current tops c.new-tops.result c.new-tops.ensures c.in_ok-put_all.ensures.added) in
    let closed = closed_of p0 p1 k1 p2 k2 c.previous.ensures.closed in
    let stored = stored_of p0 p1 k1 p2 k2 c.previous.ensures.stored in
    let once = once_of p0 p1 k1 c.in_ok-put_all.ensures.agree in
    let s2 = schemas_two p0 p1 k1 p2 k2 in
    let v2 = previous_two p0 p1 k1 p2 k2 in
    let k3 = c.in_ok-drop_all.ensures.kept in
    let p3 = c.drop_all.new.producer in
    subst (λ (s : List Schema). AreReady s p0.previous p3.current c.make_ready.new.self) (schemas_three p0 p1 k1 p2 k2 p3 k3) (subst (λ (x : Table). AreReady p3.schemas x p3.current c.make_ready.new.self) (previous_three p0 p1 k1 p2 k2 p3 k3) c.in_ok-make_ready.ensures.ready)

pub returns-clause-missing : goal.returns-clause-missing
returns-clause-missing g c =
    let p0 = c.args.producer.now in
    let k1 = c.in_ok-keep_all.ensures.kept in
    let p1 = c.keep_all.new.self in
    let model = subst IsModel c.model.ensures c.len-types.ensures.model in
    counts_missing p0.schemas model p0.previous c.args.self.now.keys c.requires.edits.keys c.args.removes.now c.in_ok-missing.missing c.in_ok-missing.ensures.missing

pub drop_all-requires-clause-counts : goal.drop_all-requires-clause-counts
drop_all-requires-clause-counts g c =
    let p0 = c.args.producer.now in
    let k1 = c.in_ok-keep_all.ensures.kept in
    let p1 = c.keep_all.new.self in
    let model = subst IsModel c.model.ensures c.len-types.ensures.model in
    let k2 = c.in_ok-put_all.ensures.kept in
    let p2 = c.put_all.new.producer in
    let puts = records c.args.puts.now in
    let tops = c.put_all.new.tops in
    let adds = subst (λ (xs : List (ℕ × Tree)). AddsTops p0.schemas p0.previous (of_first (length p0.schemas) (records xs)) p0.previous tops p2.current) c.as_slice.ensures (adds_of p0 p1 k1 (records c.as_slice.result.now) p2.current tops c.new-tops.result c.new-tops.ensures c.in_ok-put_all.ensures.added) in
    let closed = closed_of p0 p1 k1 p2 k2 c.previous.ensures.closed in
    let stored = stored_of p0 p1 k1 p2 k2 c.previous.ensures.stored in
    let once = once_of p0 p1 k1 c.in_ok-put_all.ensures.agree in
    let s2 = schemas_two p0 p1 k1 p2 k2 in
    let v2 = previous_two p0 p1 k1 p2 k2 in
    let counts = c.count_beside.new.tally.counts in
    let sums = c.count_beside.new.tally.sums.items in
    let leaving = c.find_leaving.new.leaving in
    let leave = c.in_ok-missing.ensures.leaving in
    let co = subst (λ (s : List Schema). CountsOf s p0.previous p2.current counts sums c.args.steps.now c.count_beside.new.steps) (c.current.ensures.schemas ∙ s2)
    (subst (λ (x : Table). CountsOf c.current.result.schemas x p2.current counts sums c.args.steps.now c.count_beside.new.steps) (c.previous.ensures.table ∙ v2)
    (subst (λ (x : Table). CountsOf c.current.result.schemas c.previous.result.table x counts sums c.args.steps.now c.count_beside.new.steps) c.current.ensures.table c.in_ok-count_beside.ensures)) in
    let pending : c.in_ok-pending.pending.items ≡ filter (λ row. nat_eq (count_at counts row.0 row.1) 0) leaving = c.in_ok-pending.ensures ∙ ap (λ (rows : List (ℕ × ℕ)). filter (λ row. nat_eq (count_at counts row.0 row.1) 0) rows) c.as_slice-3.ensures in
    record {
      counts = subst (λ (x : List Schema). AreCounts x p2.current counts) (sym s2) co.counted;
      sums = subst (λ (x : List Schema). AreSums x p2.current sums) (sym s2) co.summed;
    }

pub drop_all-requires-clause-unnamed : goal.drop_all-requires-clause-unnamed
drop_all-requires-clause-unnamed g c =
    let p0 = c.args.producer.now in
    let k1 = c.in_ok-keep_all.ensures.kept in
    let p1 = c.keep_all.new.self in
    let model = subst IsModel c.model.ensures c.len-types.ensures.model in
    let k2 = c.in_ok-put_all.ensures.kept in
    let p2 = c.put_all.new.producer in
    let puts = records c.args.puts.now in
    let tops = c.put_all.new.tops in
    let adds = subst (λ (xs : List (ℕ × Tree)). AddsTops p0.schemas p0.previous (of_first (length p0.schemas) (records xs)) p0.previous tops p2.current) c.as_slice.ensures (adds_of p0 p1 k1 (records c.as_slice.result.now) p2.current tops c.new-tops.result c.new-tops.ensures c.in_ok-put_all.ensures.added) in
    let closed = closed_of p0 p1 k1 p2 k2 c.previous.ensures.closed in
    let stored = stored_of p0 p1 k1 p2 k2 c.previous.ensures.stored in
    let once = once_of p0 p1 k1 c.in_ok-put_all.ensures.agree in
    let s2 = schemas_two p0 p1 k1 p2 k2 in
    let v2 = previous_two p0 p1 k1 p2 k2 in
    let counts = c.count_beside.new.tally.counts in
    let sums = c.count_beside.new.tally.sums.items in
    let leaving = c.find_leaving.new.leaving in
    let leave = c.in_ok-missing.ensures.leaving in
    let co = subst (λ (s : List Schema). CountsOf s p0.previous p2.current counts sums c.args.steps.now c.count_beside.new.steps) (c.current.ensures.schemas ∙ s2)
    (subst (λ (x : Table). CountsOf c.current.result.schemas x p2.current counts sums c.args.steps.now c.count_beside.new.steps) (c.previous.ensures.table ∙ v2)
    (subst (λ (x : Table). CountsOf c.current.result.schemas c.previous.result.table x counts sums c.args.steps.now c.count_beside.new.steps) c.current.ensures.table c.in_ok-count_beside.ensures)) in
    let pending : c.in_ok-pending.pending.items ≡ filter (λ row. nat_eq (count_at counts row.0 row.1) 0) leaving = c.in_ok-pending.ensures ∙ ap (λ (rows : List (ℕ × ℕ)). filter (λ row. nat_eq (count_at counts row.0 row.1) 0) rows) c.as_slice-3.ensures in
    subst (λ (x : List Schema). AreUnnamed x p2.current c.in_ok-pending.pending.items) (sym s2) (subst (λ (rows : List (ℕ × ℕ)). AreUnnamed p0.schemas p2.current rows) (sym pending) (unnamed p0.schemas model p0.previous closed stored once puts c.args.removes.now c.requires.fits c.requires.keyed tops p2.current adds c.args.self.now.keys c.requires.edits.keys leaving leave counts co.counted))

pub returns-clause-next : goal.returns-clause-next
returns-clause-next g c =
    let p0 = c.args.producer.now in
    let k1 = c.in_ok-keep_all.ensures.kept in
    let p1 = c.keep_all.new.self in
    let model = subst IsModel c.model.ensures c.len-types.ensures.model in
    let k2 = c.in_ok-put_all.ensures.kept in
    let p2 = c.put_all.new.producer in
    let puts = records c.args.puts.now in
    let tops = c.put_all.new.tops in
    let adds = subst (λ (xs : List (ℕ × Tree)). AddsTops p0.schemas p0.previous (of_first (length p0.schemas) (records xs)) p0.previous tops p2.current) c.as_slice.ensures (adds_of p0 p1 k1 (records c.as_slice.result.now) p2.current tops c.new-tops.result c.new-tops.ensures c.in_ok-put_all.ensures.added) in
    let closed = closed_of p0 p1 k1 p2 k2 c.previous.ensures.closed in
    let stored = stored_of p0 p1 k1 p2 k2 c.previous.ensures.stored in
    let once = once_of p0 p1 k1 c.in_ok-put_all.ensures.agree in
    let s2 = schemas_two p0 p1 k1 p2 k2 in
    let v2 = previous_two p0 p1 k1 p2 k2 in
    let counts = c.count_beside.new.tally.counts in
    let sums = c.count_beside.new.tally.sums.items in
    let leaving = c.find_leaving.new.leaving in
    let leave = c.in_ok-missing.ensures.leaving in
    let co = subst (λ (s : List Schema). CountsOf s p0.previous p2.current counts sums c.args.steps.now c.count_beside.new.steps) (c.current.ensures.schemas ∙ s2)
    (subst (λ (x : Table). CountsOf c.current.result.schemas x p2.current counts sums c.args.steps.now c.count_beside.new.steps) (c.previous.ensures.table ∙ v2)
    (subst (λ (x : Table). CountsOf c.current.result.schemas c.previous.result.table x counts sums c.args.steps.now c.count_beside.new.steps) c.current.ensures.table c.in_ok-count_beside.ensures)) in
    let pending : c.in_ok-pending.pending.items ≡ filter (λ row. nat_eq (count_at counts row.0 row.1) 0) leaving = c.in_ok-pending.ensures ∙ ap (λ (rows : List (ℕ × ℕ)). filter (λ row. nat_eq (count_at counts row.0 row.1) 0) rows) c.as_slice-3.ensures in
    let k3 = c.in_ok-drop_all.ensures.kept in
    let p3 = c.drop_all.new.producer in
    let s3 = schemas_three p0 p1 k1 p2 k2 p3 k3 in
    let v3 = previous_three p0 p1 k1 p2 k2 p3 k3 in
    let closed_left = subst (λ (s : List Schema). IsClosed s p3.current) s3 c.in_ok-make_ready.ensures.closed in
    let drop = subst (λ (s : List Schema). (start held : Table) → IsHeld s leaving start held → IsDropping s leaving start held p2.current (filter (λ row. nat_eq (count_at counts row.0 row.1) 0) leaving) → IsDropping s leaving start held p3.current []) s2
    (subst (λ (rows : List (ℕ × ℕ)). (start held : Table) → IsHeld p2.schemas leaving start held → IsDropping p2.schemas leaving start held p2.current rows → IsDropping p2.schemas leaving start held p3.current []) pending c.in_ok-drop_all.ensures.left) in
    next p0.schemas model p0.previous closed stored once puts c.args.removes.now c.requires.fits c.requires.keyed tops p2.current adds c.args.self.now.keys c.requires.edits.keys leaving leave counts co.counted p3.current drop closed_left

pub returns-clause-too_many : goal.returns-clause-too_many
returns-clause-too_many g c =
    let p0 = c.args.producer.now in
    let k1 = c.in_ok-keep_all.ensures.kept in
    let p1 = c.keep_all.new.self in
    let model = subst IsModel c.model.ensures c.len-types.ensures.model in
    let k2 = c.in_ok-put_all.ensures.kept in
    let p2 = c.put_all.new.producer in
    let puts = records c.args.puts.now in
    let tops = c.put_all.new.tops in
    let adds = subst (λ (xs : List (ℕ × Tree)). AddsTops p0.schemas p0.previous (of_first (length p0.schemas) (records xs)) p0.previous tops p2.current) c.as_slice.ensures (adds_of p0 p1 k1 (records c.as_slice.result.now) p2.current tops c.new-tops.result c.new-tops.ensures c.in_ok-put_all.ensures.added) in
    let closed = closed_of p0 p1 k1 p2 k2 c.previous.ensures.closed in
    let stored = stored_of p0 p1 k1 p2 k2 c.previous.ensures.stored in
    let once = once_of p0 p1 k1 c.in_ok-put_all.ensures.agree in
    let s2 = schemas_two p0 p1 k1 p2 k2 in
    let v2 = previous_two p0 p1 k1 p2 k2 in
    let counts = c.count_beside.new.tally.counts in
    let sums = c.count_beside.new.tally.sums.items in
    let leaving = c.find_leaving.new.leaving in
    let leave = c.in_ok-missing.ensures.leaving in
    let co = subst (λ (s : List Schema). CountsOf s p0.previous p2.current counts sums c.args.steps.now c.count_beside.new.steps) (c.current.ensures.schemas ∙ s2)
    (subst (λ (x : Table). CountsOf c.current.result.schemas x p2.current counts sums c.args.steps.now c.count_beside.new.steps) (c.previous.ensures.table ∙ v2)
    (subst (λ (x : Table). CountsOf c.current.result.schemas c.previous.result.table x counts sums c.args.steps.now c.count_beside.new.steps) c.current.ensures.table c.in_ok-count_beside.ensures)) in
    let pending : c.in_ok-pending.pending.items ≡ filter (λ row. nat_eq (count_at counts row.0 row.1) 0) leaving = c.in_ok-pending.ensures ∙ ap (λ (rows : List (ℕ × ℕ)). filter (λ row. nat_eq (count_at counts row.0 row.1) 0) rows) c.as_slice-3.ensures in
    let k3 = c.in_ok-drop_all.ensures.kept in
    let p3 = c.drop_all.new.producer in
    let s3 = schemas_three p0 p1 k1 p2 k2 p3 k3 in
    let v3 = previous_three p0 p1 k1 p2 k2 p3 k3 in
    let closed_left = subst (λ (s : List Schema). IsClosed s p3.current) s3 c.in_ok-make_ready.ensures.closed in
    let drop = subst (λ (s : List Schema). (start held : Table) → IsHeld s leaving start held → IsDropping s leaving start held p2.current (filter (λ row. nat_eq (count_at counts row.0 row.1) 0) leaving) → IsDropping s leaving start held p3.current []) s2
    (subst (λ (rows : List (ℕ × ℕ)). (start held : Table) → IsHeld p2.schemas leaving start held → IsDropping p2.schemas leaving start held p2.current rows → IsDropping p2.schemas leaving start held p3.current []) pending c.in_ok-drop_all.ensures.left) in
    ((λ e. absurd cc), (λ none. absurd (none p3.current (next p0.schemas model p0.previous closed stored once puts c.args.removes.now c.requires.fits c.requires.keyed tops p2.current adds c.args.self.now.keys c.requires.edits.keys leaving leave counts co.counted p3.current drop closed_left))))

pub returns-clause-counted : goal.returns-clause-counted
returns-clause-counted g c =
    let p0 = c.args.producer.now in
    let k1 = c.in_ok-keep_all.ensures.kept in
    let p1 = c.keep_all.new.self in
    let model = subst IsModel c.model.ensures c.len-types.ensures.model in
    let k2 = c.in_ok-put_all.ensures.kept in
    let p2 = c.put_all.new.producer in
    let puts = records c.args.puts.now in
    let tops = c.put_all.new.tops in
    let adds = subst (λ (xs : List (ℕ × Tree)). AddsTops p0.schemas p0.previous (of_first (length p0.schemas) (records xs)) p0.previous tops p2.current) c.as_slice.ensures (adds_of p0 p1 k1 (records c.as_slice.result.now) p2.current tops c.new-tops.result c.new-tops.ensures c.in_ok-put_all.ensures.added) in
    let closed = closed_of p0 p1 k1 p2 k2 c.previous.ensures.closed in
    let stored = stored_of p0 p1 k1 p2 k2 c.previous.ensures.stored in
    let once = once_of p0 p1 k1 c.in_ok-put_all.ensures.agree in
    let s2 = schemas_two p0 p1 k1 p2 k2 in
    let v2 = previous_two p0 p1 k1 p2 k2 in
    let counts = c.count_beside.new.tally.counts in
    let sums = c.count_beside.new.tally.sums.items in
    let leaving = c.find_leaving.new.leaving in
    let leave = c.in_ok-missing.ensures.leaving in
    let co = subst (λ (s : List Schema). CountsOf s p0.previous p2.current counts sums c.args.steps.now c.count_beside.new.steps) (c.current.ensures.schemas ∙ s2)
    (subst (λ (x : Table). CountsOf c.current.result.schemas x p2.current counts sums c.args.steps.now c.count_beside.new.steps) (c.previous.ensures.table ∙ v2)
    (subst (λ (x : Table). CountsOf c.current.result.schemas c.previous.result.table x counts sums c.args.steps.now c.count_beside.new.steps) c.current.ensures.table c.in_ok-count_beside.ensures)) in
    let pending : c.in_ok-pending.pending.items ≡ filter (λ row. nat_eq (count_at counts row.0 row.1) 0) leaving = c.in_ok-pending.ensures ∙ ap (λ (rows : List (ℕ × ℕ)). filter (λ row. nat_eq (count_at counts row.0 row.1) 0) rows) c.as_slice-3.ensures in
    let k3 = c.in_ok-drop_all.ensures.kept in
    let p3 = c.drop_all.new.producer in
    let s3 = schemas_three p0 p1 k1 p2 k2 p3 k3 in
    let v3 = previous_three p0 p1 k1 p2 k2 p3 k3 in
    let drop = subst (λ (s : List Schema). (start held : Table) → IsHeld s leaving start held → IsDropping s leaving start held p2.current (filter (λ row. nat_eq (count_at counts row.0 row.1) 0) leaving) → IsDropping s leaving start held p3.current []) s2
    (subst (λ (rows : List (ℕ × ℕ)). (start held : Table) → IsHeld p2.schemas leaving start held → IsDropping p2.schemas leaving start held p2.current rows → IsDropping p2.schemas leaving start held p3.current []) pending c.in_ok-drop_all.ensures.left) in
    let went = subst (λ (x : List Schema). c.drop_all.new.steps + size_of x p3.current ≡ c.count_beside.new.steps + size_of x p2.current) s2 c.in_ok-drop_all.ensures.counted in
    let ready = subst (λ (x : List Schema). (both : Table) → IsFromEither p0.previous p3.current both → c.make_ready.new.steps + keyed_size_of x p0.previous ≤ c.drop_all.new.steps + keyed_size_of x both) s3
    (subst (λ (x : Table). (both : Table) → IsFromEither x p3.current both → c.make_ready.new.steps + keyed_size_of p3.schemas x ≤ c.drop_all.new.steps + keyed_size_of p3.schemas both) v3 c.in_ok-make_ready.ensures.counted) in
    counts_change p0.schemas model p0.previous closed stored once puts c.args.removes.now c.requires.fits c.requires.keyed tops p2.current adds c.args.self.now.keys c.requires.edits.keys leaving leave counts co.counted p3.current drop c.args.steps.now c.count_beside.new.steps c.drop_all.new.steps c.make_ready.new.steps co.ticked went ready

pub returns-in_err-put_all-clause-too_many : goal.returns-in_err-put_all-clause-too_many
returns-in_err-put_all-clause-too_many g c =
    let p0 = c.args.producer.now in
    let k1 = c.in_ok-keep_all.ensures.kept in
    let p1 = c.keep_all.new.self in
    let model = subst IsModel c.model.ensures c.len-types.ensures.model in
    let puts = records c.args.puts.now in
    let same = ap (λ (xs : List (ℕ × Tree)). records xs) c.as_slice.ensures in
    let told = c.in_err-put_all.ensures in
    let closed = subst (λ (s : List Schema). IsClosedTableOf s p0.previous) (schemas_one p0 p1 k1) (subst (λ (x : Table). IsClosedTableOf p1.schemas x) (current_one p0 p1 k1) told.closed) in
    let stored = subst AreStored (current_one p0 p1 k1) told.stored in (
      λ is. none_next p0.schemas model p0.previous closed stored (once_of p0 p1 k1 told.agree) puts c.args.removes.now c.requires.fits
          (subst (λ (xs : Records). (rows : List (ℕ × ℕ)) (after : Table) → AddsTops p0.schemas p0.previous (of_first (length p0.schemas) xs) p0.previous rows after → ⊥) same
          (never_of p0 p1 k1 (records c.as_slice.result.now) (told.too_many (passed c.in_err-put_all.field-0.0 c.from_residual-in_err-put_all.result is c.from_residual-in_err-put_all.ensures.1)))),
      λ none. free_fault c.from_residual-in_err-put_all.result c.from_residual-in_err-put_all.ensures.0,
    )

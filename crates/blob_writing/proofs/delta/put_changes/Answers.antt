use Rattle.std.proofs.Common.{◌<◌, ◌≤◌, ◌^◌, ◌∙◌, ◌++◌, ℕ, List, get_or, length, ap, subst, sym, arith}
use Rattle.hol_varint.specs.Varint.{varint_bytes}
use Rattle.blob_writing.specs.Limits.{HasFewPathsAt}
use Rattle.blob_writing.proofs.Progress.{all_written, counted_long, counted_whole, begins_long, one_written}
use Rattle.blob_writing.proofs.Refusing.{means_exit, means_of, where_ok}
use Rattle.blob_writing.specs.Changes.{IsChangeOf}
use Rattle.blob_writing.specs.Delta.{change_bytes}
use Rattle.blob_writing.proofs.OneDelta.{change_once}
use Rattle.blob_writing.proofs.delta.put_changes.Goals as goal

pub returns-in_err-check_length-clause-large : goal.returns-in_err-check_length-clause-large
returns-in_err-check_length-clause-large g c =
    let begins = c.in_ok-put_vlong.ensures.ok ∙ ap (λ (n : ℕ). c.args.out.now.items ++ varint_bytes n) c.len.ensures in
    means_exit c.from_residual-in_err-check_length.result c.in_err-check_length.field-0.0 (2 ^ 28 < length c.as_slice.result.now) _ c.from_residual-in_err-check_length.ensures.1
    c.in_err-check_length.ensures.large
    (λ over.
    counted_long (IsChangeOf (g.B.Rows.schemas c.args.new.now) (g.A.Rows.table c.args.old.now) (g.B.Rows.table c.args.new.now)) change_bytes
    (change_once c.one_packing_of_places.ensures (g.B.Rows.schemas c.args.new.now) c.requires.sound (g.A.Rows.table c.args.old.now) (g.B.Rows.table c.args.new.now) c.requires.states) (2 ^ 28) c.args.plan.now.changed
    c.loop-type_index.type_index-index c.args.out.now.items c.put_vlong.new.out.items c.loop-type_index.out.items begins (subst (λ (xs : List ℕ). 2 ^ 28 < length xs) c.as_slice.ensures.value over)
    c.loop-type_index.invariant)

pub put_change-requires-clause-few : goal.put_change-requires-clause-few
put_change-requires-clause-few g c =
    let i = c.loop-type_index.type_index-index in
    let inside : i < length c.args.plan.now.changed = omega (arith, c.loop-type_index-test.true, ap (λ (ts : List ℕ). length ts) c.as_slice-indexes.ensures) in
    subst (λ (ts : List ℕ). HasFewPathsAt (g.B.Rows.schemas c.args.new.now) (get_or ts i 0)) (sym c.as_slice-indexes.ensures) (c.requires.few i 0 inside)

pub loop-type_index-preserved : goal.loop-type_index-preserved
loop-type_index-preserved g c =
    let are = IsChangeOf (g.B.Rows.schemas c.args.new.now) (g.A.Rows.table c.args.old.now) (g.B.Rows.table c.args.new.now) in
    let i = c.loop-type_index.type_index-index in
    let put = c.in_ok-put_change.ensures in
    let inside : i < length c.args.plan.now.changed = omega (arith, c.loop-type_index-test.true, ap (λ (ts : List ℕ). length ts) c.as_slice-indexes.ensures) in
    one_written are change_bytes c.args.plan.now.changed i c.put_vlong.new.out.items c.loop-type_index.out.items c.put_change.new.out.items put.0 inside c.loop-type_index.invariant
    (subst (λ (ts : List ℕ). are (get_or ts i 0) put.0) c.as_slice-indexes.ensures put.1) put.2

pub returns-clause-written : goal.returns-clause-written
returns-clause-written g c =
    let are = IsChangeOf (g.B.Rows.schemas c.args.new.now) (g.A.Rows.table c.args.old.now) (g.B.Rows.table c.args.new.now) in
    let i = c.loop-type_index.type_index-index in
    let begins = c.in_ok-put_vlong.ensures.ok ∙ ap (λ (n : ℕ). c.args.out.now.items ++ varint_bytes n) c.len.ensures in
    let past : length c.args.plan.now.changed ≤ i = omega (arith, c.loop-type_index-test.false, ap (λ (ts : List ℕ). length ts) c.as_slice-indexes.ensures) in
    where_ok _ c.check_length-2.result
    (counted_whole are change_bytes c.args.plan.now.changed c.args.out.now.items c.put_vlong.new.out.items c.loop-type_index.out.items begins
    (all_written are change_bytes c.args.plan.now.changed i c.put_vlong.new.out.items c.loop-type_index.out.items past c.loop-type_index.invariant))

pub returns-clause-large : goal.returns-clause-large
returns-clause-large g c =
    let begins = c.in_ok-put_vlong.ensures.ok ∙ ap (λ (n : ℕ). c.args.out.now.items ++ varint_bytes n) c.len.ensures in
    means_of (2 ^ 28 < length c.as_slice-2.result.now) _ c.check_length-2.result c.check_length-2.ensures.large
    (λ over.
    counted_long (IsChangeOf (g.B.Rows.schemas c.args.new.now) (g.A.Rows.table c.args.old.now) (g.B.Rows.table c.args.new.now)) change_bytes
    (change_once c.one_packing_of_places.ensures (g.B.Rows.schemas c.args.new.now) c.requires.sound (g.A.Rows.table c.args.old.now) (g.B.Rows.table c.args.new.now) c.requires.states) (2 ^ 28) c.args.plan.now.changed
    c.loop-type_index.type_index-index c.args.out.now.items c.put_vlong.new.out.items c.loop-type_index.out.items begins (subst (λ (xs : List ℕ). 2 ^ 28 < length xs) c.as_slice-2.ensures.value over)
    c.loop-type_index.invariant)

pub returns-in_err-check_length-clause-front : goal.returns-in_err-check_length-clause-front
returns-in_err-check_length-clause-front g c =
    let begins = c.in_ok-put_vlong.ensures.ok ∙ ap (λ (n : ℕ). c.args.out.now.items ++ varint_bytes n) c.len.ensures in
    means_exit c.from_residual-in_err-check_length.result c.in_err-check_length.field-0.0 (2 ^ 28 < length c.as_slice.result.now) _ c.from_residual-in_err-check_length.ensures.1
    c.in_err-check_length.ensures.large
    (λ over.
    begins_long (IsChangeOf (g.B.Rows.schemas c.args.new.now) (g.A.Rows.table c.args.old.now) (g.B.Rows.table c.args.new.now)) change_bytes (2 ^ 28) c.args.plan.now.changed
    c.loop-type_index.type_index-index c.args.out.now.items c.put_vlong.new.out.items c.loop-type_index.out.items begins (subst (λ (xs : List ℕ). 2 ^ 28 < length xs) c.as_slice.ensures.value over)
    c.loop-type_index.invariant)

pub returns-clause-front : goal.returns-clause-front
returns-clause-front g c =
    let begins = c.in_ok-put_vlong.ensures.ok ∙ ap (λ (n : ℕ). c.args.out.now.items ++ varint_bytes n) c.len.ensures in
    means_of (2 ^ 28 < length c.as_slice-2.result.now) _ c.check_length-2.result c.check_length-2.ensures.large
    (λ over.
    begins_long (IsChangeOf (g.B.Rows.schemas c.args.new.now) (g.A.Rows.table c.args.old.now) (g.B.Rows.table c.args.new.now)) change_bytes (2 ^ 28) c.args.plan.now.changed
    c.loop-type_index.type_index-index c.args.out.now.items c.put_vlong.new.out.items c.loop-type_index.out.items begins (subst (λ (xs : List ℕ). 2 ^ 28 < length xs) c.as_slice-2.ensures.value over)
    c.loop-type_index.invariant)

use Rattle.std.proofs.Common.{Err, List, ℕ, ◌+◌, ◌++◌, arith, map, subst, sym, take}
use Rattle.std.proofs.lemmas.List.{length-map}
use Rattle.serde_json.specs.View.{view}
use Rattle.record_json.specs.ReadTree.{TellsAs, read_tree}
use Rattle.json_values.specs.declared.fault.ValueFault.{ValueFault}
use Rattle.record_trees.specs.Tree.{plain}
use Rattle.record_trees.specs.declared.tree.Tree.{Tree}
use Rattle.hollow_machine.specs.Records.{entries_at}
use Rattle.change_orders.specs.Reading.{HaveRead}
use Rattle.producer_orders.proofs.Placed.{item_at}
use Rattle.change_orders.proofs.ReadRecords.{all_read, first_unread, named_at, one_more}
use Rattle.change_orders.proofs.put_records.read_values.Goals as goal

pub returns-in-Err-Field : goal.returns-in-Err-Field
returns-in-Err-Field c = λ before read.
    (let values = c.args.values.now in
    let item = c.index-values-place.result in
    let at = item_at view values c.loop-place.place item c.loop-place-test.true c.index-values-place.is in
    let gives = subst (λ (fault : ValueFault). TellsAs plain (read_tree c.args.model.now c.args.type_index (view item)) (Err fault)) c.in-Err-Field.field-0-is c.in-Err-Field.ensures in
    rw c.in-Err-Field.field-0-is (
      c.args.type_index,
      named_at c.args.model.now c.args.type_index c.schema.result.now c.in_ok-copy-in-Err-Field.field-0 c.schema.ensures.value c.in_ok-copy-in-Err-Field.ensures,
      first_unread c.args.model.now c.args.type_index (map view values) before c.loop-place.found c.loop-place.place (view item) c.in-Err-Field.reason at gives (c.loop-place.invariant before read).read,
    ))

pub loop-place-preserved : goal.loop-place-preserved
loop-place-preserved c = λ before read.
    (let values = c.args.values.now in
    let t = c.args.type_index in
    let item = c.index-values-place.result in
    let at = item_at view values c.loop-place.place item c.loop-place-test.true c.index-values-place.is in
    subst (λ (found : List (ℕ × Tree)). HaveRead c.args.model.now (before ++ take (c.loop-place.place + 1) (entries_at t (map view values))) found) (sym c.in_ok-push-in-Ok.ensures.ok)
    (record { read = one_more c.args.model.now t (map view values) before c.loop-place.found c.loop-place.place (view item) c.in-Ok.tree at c.in-Ok.ensures (c.loop-place.invariant before read).read }))

pub returns : goal.returns
returns c = λ before read.
    (let long = length-map c.args.values.now view in
    record { read = all_read c.args.model.now c.args.type_index (map view c.args.values.now) before c.loop-place.found c.loop-place.place (omega (arith, long, c.loop-place-test.false)) (c.loop-place.invariant before read).read })

use Rattle.std.proofs.Common.{Ok, Err}
use Rattle.serde_json.specs.View.{view}
use Rattle.record_trees.specs.Tree.{plain}
use Rattle.producer_orders.proofs.AddingRecords.{bad_reads, same_reads, value_bad}
use Rattle.producer_orders.proofs.records.add_value.Goals as goal

pub returns-in-Err-Field-clause-tells : goal.returns-in-Err-Field-clause-tells
returns-in-Err-Field-clause-tells c =
    let old = c.args.producer.now in
    let value = view c.args.value.now in
    let told = bad_reads c.model.result.now c.args.type_index value c.in-Err-Field.reason c.in-Err-Field.field-0 c.in-Err-Field.field-0-is c.in-Err-Field.ensures in
    value_bad old.schemas old.previous old.current old.current c.args.type_index c.args.place value c.args.full c.in-Err-Field.reason c.requires.type_in
    (same_reads c.model.result.now old.schemas c.args.type_index value (Err c.in-Err-Field.reason) c.model.ensures told)

pub add_tree-requires-clause-given : goal.add_tree-requires-clause-given
add_tree-requires-clause-given c =
    let value = view c.args.value.now in
    (value, record { gives = same_reads c.model.result.now c.args.producer.now.schemas c.args.type_index value (Ok (plain c.in-Ok.tree)) c.model.ensures c.in-Ok.ensures })

pub returns-clause-tells : goal.returns-clause-tells
returns-clause-tells c = λ done had.
    (let value = view c.args.value.now in
    c.add_tree.ensures.tells c.args.place value done (record { gives = same_reads c.model.result.now c.args.producer.now.schemas c.args.type_index value (Ok (plain c.in-Ok.tree)) c.model.ensures c.in-Ok.ensures }) had)

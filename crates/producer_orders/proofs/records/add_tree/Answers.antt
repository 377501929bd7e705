use Rattle.std.proofs.Common.{Err, ap}
use Rattle.record_trees.specs.Tree.{plain}
use Rattle.producer_orders.proofs.AddingRecords.{value_added, value_passed, value_too_many}
use Rattle.producer_orders.proofs.records.add_tree.Goals as goal

pub returns-then-full-clause-tells : goal.returns-then-full-clause-tells
returns-then-full-clause-tells c = λ place value done read had.
    (let old = c.args.producer.now in
    value_passed old.schemas old.previous old.current old.current c.args.type_index place value c.args.full (plain c.args.tree.now) c.if-full.true read.gives done had)

pub returns-in-Ok-clause-tells : goal.returns-in-Ok-clause-tells
returns-in-Ok-clause-tells c = λ place value done read had.
    (let old = c.args.producer.now in
    value_added old.schemas old.previous old.current c.add.new.self.current c.args.type_index place c.in-Ok.field-0 value c.args.full (plain c.args.tree.now) c.if-full.false read.gives c.in-Ok.ensures.added done had)

pub returns-in-Err-TooMany-clause-tells : goal.returns-in-Err-TooMany-clause-tells
returns-in-Err-TooMany-clause-tells c = λ place value done read had.
    (let old = c.args.producer.now in
    value_too_many old.schemas old.previous old.current c.add.new.self.current c.args.type_index place value c.args.full (plain c.args.tree.now) c.requires.once c.if-full.false read.gives
    (c.in-Err-TooMany.ensures.too_many (ap Err c.in-Err-TooMany.field-0-is)) done had)

pub add-requires-clause-fits : goal.add-requires-clause-fits
add-requires-clause-fits c = c.read_tree_fits.ensures c.args.producer.now.schemas c.args.type_index c.requires.given.0 (plain c.args.tree.now) c.requires.model c.requires.given.1.gives

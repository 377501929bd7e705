use Rattle.std.proofs.Common.{Err, ap}
use Rattle.producer_orders.proofs.AddingRecords.{value_added, value_passed, value_too_many}
use Rattle.producer_orders.proofs.records.add_row.Goals as goal

pub returns-then-full-clause-tells : goal.returns-then-full-clause-tells
returns-then-full-clause-tells c = λ place value tree done read is had.
    (let old = c.args.producer.now in
    value_passed old.schemas old.previous old.current old.current c.args.type_index place value c.args.full tree c.if-full.true read.gives done had)

pub returns-in-Ok-clause-tells : goal.returns-in-Ok-clause-tells
returns-in-Ok-clause-tells c = λ place value tree done read is had.
    (let old = c.args.producer.now in
    let fits = c.read_tree_fits.ensures old.schemas c.args.type_index value tree c.requires.model read.gives in
    value_added old.schemas old.previous old.current c.add_row.new.self.current c.args.type_index place c.in-Ok.field-0 value c.args.full tree c.if-full.false read.gives (c.in-Ok.ensures.added tree fits is) done had)

pub returns-in-Err-TooMany-clause-tells : goal.returns-in-Err-TooMany-clause-tells
returns-in-Err-TooMany-clause-tells c = λ place value tree done read is had.
    (let old = c.args.producer.now in
    value_too_many old.schemas old.previous old.current c.add_row.new.self.current c.args.type_index place value c.args.full tree c.requires.once c.if-full.false read.gives
    (c.in-Err-TooMany.ensures.too_many tree is (ap Err c.in-Err-TooMany.field-0-is)) done had)

pub add_row-requires-clause-fits : goal.add_row-requires-clause-fits
add_row-requires-clause-fits c =
    let given = c.requires.given in
    (given.1, c.read_tree_fits.ensures c.args.producer.now.schemas c.args.type_index given.0 given.1 c.requires.model given.2.gives, given.3)

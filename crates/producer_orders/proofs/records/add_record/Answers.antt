use Rattle.std.proofs.Common.{subst}
use Rattle.record_tokens.specs.Next.{IsReadAs, IsRecordOf}
use Rattle.producer_orders.proofs.records.add_record.Goals as goal

pub returns-in-Row-clause-tells : goal.returns-in-Row-clause-tells
returns-in-Row-clause-tells c = λ place value tree done read is had. c.add_row.ensures.tells place value tree done read (subst (IsRecordOf tree) c.in-Row.is is) had

pub returns-in-Tree-clause-tells : goal.returns-in-Tree-clause-tells
returns-in-Tree-clause-tells c = λ place value tree done read is had.
    c.add_tree.ensures.tells place value done (subst (IsReadAs c.args.producer.now.schemas c.args.type_index value) (subst (IsRecordOf tree) c.in-Tree.is is) read) had

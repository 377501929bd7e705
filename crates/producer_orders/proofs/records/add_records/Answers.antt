use Rattle.hol_orders.specs.Parts.{added}
use Rattle.hollow_machine.specs.Records.{entries}
use Rattle.producer_orders.proofs.AddingRecords.{holds_once, refused_tells}
use Rattle.producer_orders.proofs.records.add_records.Goals as goal

pub add_types-requires-clause-once : goal.add_types-requires-clause-once
add_types-requires-clause-once c = holds_once c.args.producer.now.previous c.args.producer.now.current c.current-agreeing.ensures.agree

pub returns-in-Err-clause-tells : goal.returns-in-Err-clause-tells
returns-in-Err-clause-tells c =
    let old = c.args.producer.now in
    refused_tells old.schemas old.previous c.add_types.new.producer.current (entries old.schemas (added c.args.add.now)) c.in-Err.fault c.in-Err.ensures.tells

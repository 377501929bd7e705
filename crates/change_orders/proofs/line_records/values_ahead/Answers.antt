use Rattle.std.proofs.Common.{List, Option, subst}
use Rattle.json.specs.Token.{Token}
use Rattle.serde_json.specs.Data.{Data}
use Rattle.serde_json.specs.declared.value.Value.{Value}
use Rattle.record_stream.specs.Records.{AreAhead, TellsRecord}
use Rattle.change_orders.proofs.LineRecords.{all_taken, none_taken, still_ahead, value_taken}
use Rattle.change_orders.proofs.line_records.values_ahead.Goals as goal

pub loop-init : goal.loop-init
loop-init c = none_taken c.args.reader.now c.new-values.result.items c.new-values.ensures.items

pub next_record-requires : goal.next_record-requires
next_record-requires c = still_ahead c.args.reader.now c.loop.reader c.loop.reader c.loop.values.items c.loop.invariant c.requires

pub loop-preserved : goal.loop-preserved
loop-preserved c =
    let told = subst (λ (o : Option Value). (records : List Data) (rest : List Token) → AreAhead c.loop.reader records rest → TellsRecord records rest o c.next_record.new.reader) c.in-Ok-Some.field-0-is c.in-Ok-Some.ensures in
    value_taken c.args.reader.now c.loop.reader c.next_record.new.reader c.loop.values.items c.loop.invariant c.in-Ok-Some.value c.push.new.self.items told c.in_ok-push-in-Ok-Some.ensures.items

pub returns-in-Ok-None : goal.returns-in-Ok-None
returns-in-Ok-None c =
    let told = subst (λ (o : Option Value). (records : List Data) (rest : List Token) → AreAhead c.loop.reader records rest → TellsRecord records rest o c.next_record.new.reader) c.in-Ok-None.field-0-is c.in-Ok-None.ensures in
    all_taken c.args.reader.now c.loop.reader c.next_record.new.reader c.loop.values.items c.loop.invariant told

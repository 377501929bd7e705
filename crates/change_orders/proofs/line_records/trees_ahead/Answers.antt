use Rattle.std.proofs.Common.{List, subst}
use Rattle.json.specs.Token.{Token}
use Rattle.serde_json.specs.Data.{Data}
use Rattle.record_stream.specs.Records.{AreAhead}
use Rattle.record_tokens.specs.Next.{TellsWhole}
use Rattle.record_tokens.specs.declared.next.NextWhole.{NextWhole}
use Rattle.change_orders.proofs.LineRecords.{end_read, none_read, tree_read}
use Rattle.change_orders.proofs.line_records.trees_ahead.Goals as goal

pub loop-place-init : goal.loop-place-init
loop-place-init c = none_read c.args.model.now c.args.type_index c.args.reader.now c.args.found.now

pub loop-place-preserved : goal.loop-place-preserved
loop-place-preserved c =
    let told = subst (λ (found : NextWhole). (records : List Data) (rest : List Token) → AreAhead c.loop-place.reader records rest → TellsWhole c.args.model.now c.args.type_index records rest found c.next_whole.new.reader)
    c.in-Ok-Tree.field-0-is c.in-Ok-Tree.ensures in
    tree_read c.args.model.now c.args.type_index c.args.reader.now c.loop-place.reader c.next_whole.new.reader c.args.found.now c.loop-place.found c.loop-place.place c.loop-place.invariant c.in-Ok-Tree.tree c.push.new.self told
    c.in_ok-push-in-Ok-Tree.ensures.ok

pub returns-in-Ok-End : goal.returns-in-Ok-End
returns-in-Ok-End c =
    let told = subst (λ (found : NextWhole). (records : List Data) (rest : List Token) → AreAhead c.loop-place.reader records rest → TellsWhole c.args.model.now c.args.type_index records rest found c.next_whole.new.reader)
    c.in-Ok-End.field-0-is c.in-Ok-End.ensures in
    end_read c.args.model.now c.args.type_index c.args.reader.now c.loop-place.reader c.next_whole.new.reader c.args.found.now c.loop-place.found c.loop-place.place c.loop-place.invariant told

pub returns-in-Ok-Other : goal.returns-in-Ok-Other
returns-in-Ok-Other c = λ records rest before ahead had. (c.loop-place.invariant records rest before ahead had).1

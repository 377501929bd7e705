use Rattle.std.proofs.Common.{◌∙◌, List, ap, map, sym}
use Rattle.std.specs.Prelude.{slice_get}
use Rattle.serde_json.specs.View.{view}
use Rattle.schema_model.specs.declared.schema.Schema.{Schema}
use Rattle.hol_orders.specs.Parts.{added}
use Rattle.hollow_machine.specs.Records.{values_under}
use Rattle.producer_orders.proofs.AheadRecords.{tells_under}
use Rattle.producer_orders.proofs.records.add_type.Goals as goal

pub returns-in-Json-clause-tells : goal.returns-in-Json-clause-tells
returns-in-Json-clause-tells c = λ schema done at had.
    (let old = c.args.producer.now in
    let values = map view c.values_of-values.result.now in
    let are = c.values_of-values.ensures schema (ap (λ (ss : List Schema). slice_get ss c.args.type_index) c.model.ensures ∙ at) in
    tells_under old.schemas old.previous c.add_values.new.producer.current c.args.type_index values (values_under (added c.args.add.now) schema.name) c.add_values.result done
    (are ∙ ap (λ add. values_under add schema.name) (sym (ap added c.in-Json.is))) (c.add_values.ensures.tells done had))

pub returns-in-Line-clause-tells : goal.returns-in-Line-clause-tells
returns-in-Line-clause-tells c = λ schema done at had.
    (let old = c.args.producer.now in
    tells_under old.schemas old.previous c.add_from_line.new.producer.current c.args.type_index _ (values_under (added c.args.add.now) schema.name) c.add_from_line.result done
    (ap (λ add. values_under add schema.name) (sym (ap added c.in-Line.is))) (c.add_from_line.ensures.tells schema done at had))

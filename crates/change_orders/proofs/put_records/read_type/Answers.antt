use Rattle.std.proofs.Common.{◌∙◌, ap, map, sym}
use Rattle.serde_json.specs.Data.{Data}
use Rattle.serde_json.specs.View.{view}
use Rattle.hol_orders.specs.Parts.{added}
use Rattle.hollow_machine.specs.Records.{entries_at, values_under}
use Rattle.change_orders.proofs.ReadRecords.{from_first, tells_under}
use Rattle.change_orders.proofs.put_records.read_type.Goals as goal

pub returns-in-Json : goal.returns-in-Json
returns-in-Json c = λ schema before at had.
    (let schemas = c.args.model.now in
    let t = c.args.type_index in
    let values = map view c.values_of-values.result.now in
    let under = c.values_of-values.ensures schema at ∙ ap (λ (d : Data). values_under d schema.name) (sym (ap added c.in-Json.is)) in
    tells_under schemas before t values (values_under (added c.args.put.now) schema.name) c.read_values.new.found c.read_values.result under
    (c.read_values.ensures before (from_first schemas before (entries_at t values) c.args.found.now had)))

pub returns-in-Line : goal.returns-in-Line
returns-in-Line c = λ schema before at had.
    tells_under c.args.model.now before c.args.type_index _ (values_under (added c.args.put.now) schema.name) c.read_line.new.found c.read_line.result (ap (λ (d : Data). values_under d schema.name) (sym (ap added c.in-Line.is)))
    (c.read_line.ensures schema before at had)

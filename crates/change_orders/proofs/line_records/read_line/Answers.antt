use Rattle.std.proofs.Common.{◌∙◌, List, Option, ℕ, ap, map, subst, sym}
use Rattle.std.specs.Prelude.{◌++◌, take}
use Rattle.serde_json.specs.Data.{Data}
use Rattle.serde_json.specs.View.{view}
use Rattle.record_stream.specs.RecordLine.{added_by}
use Rattle.hollow_machine.specs.Records.{entries_at, values_under}
use Rattle.change_orders.specs.Reading.{HaveRead, TellsFront}
use Rattle.change_orders.proofs.ReadRecords.{tells_under}
use Rattle.change_orders.proofs.line_records.read_line.Goals as goal

pub returns-in-None : goal.returns-in-None
returns-in-None c = λ schema before at had.
    (let recorded = entries_at c.args.type_index (values_under (added_by c.args.line.now) schema.name) in
    subst (λ (o : Option ℕ). TellsFront c.args.model.now before recorded c.trees_in.new.found o) c.in-None.is (c.in_ok-place.ensures schema before at had))

pub returns-in_ok-values-in-Some : goal.returns-in_ok-values-in-Some
returns-in_ok-values-in-Some c = λ schema before at had.
    (let schemas = c.args.model.now in
    let t = c.args.type_index in
    let place = c.in-Some.place in
    let under = values_under (added_by c.args.line.now) schema.name in
    let values = map view c.as_slice.result.now in
    let are = ap (map view) c.as_slice.ensures.value ∙ c.in_ok-values-in-Some.ensures schema at in
    let front = subst (λ (o : Option ℕ). TellsFront schemas before (entries_at t under) c.trees_in.new.found o) c.in-Some.is (c.in_ok-place.ensures schema before at had) in
    tells_under schemas before t values under c.read_values.new.found c.read_values.result are
    (c.read_values.ensures before (subst (λ (vs : List Data). HaveRead schemas (before ++ take place (entries_at t vs)) c.trees_in.new.found) (sym are) front)))

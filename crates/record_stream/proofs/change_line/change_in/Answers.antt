use Rattle.std.proofs.Common.{◌∙◌, Some, ap}
use Rattle.std.specs.Option.{option_map}
use Rattle.serde_json.specs.View.{view}
use Rattle.record_stream.specs.RecordLine.{added_by}
use Rattle.record_stream.proofs.Whole.{change_held}
use Rattle.record_stream.proofs.change_line.change_in.Goals as goal

pub returns-in-Some-clause-read : goal.returns-in-Some-clause-read
returns-in-Some-clause-read c =
    let held = c.in_ok-held.held in
    c.in_ok-held.ensures.read
    ∙ ap Some (change_held (view held.version) (view held.tag) (added_by c.args.line.now) (option_map view held.other) (view c.in-Some.remove) (ap (option_map view) c.in-Some.is))

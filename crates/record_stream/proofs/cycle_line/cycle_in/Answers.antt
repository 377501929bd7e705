use Rattle.std.proofs.Common.{◌∙◌, Some, ap}
use Rattle.std.specs.Option.{option_map}
use Rattle.serde_json.specs.View.{view}
use Rattle.record_stream.specs.RecordLine.{added_by}
use Rattle.record_stream.proofs.Whole.{cycle_held}
use Rattle.record_stream.proofs.cycle_line.cycle_in.Goals as goal

pub returns-clause-read : goal.returns-clause-read
returns-clause-read c =
    let held = c.in_ok-held.held in
    c.in_ok-held.ensures.read ∙ ap Some (cycle_held (view held.version) (view held.tag) (added_by c.args.line.now) (option_map view held.other) c.in_ok-snapshot.snapshot c.in_ok-snapshot.ensures)

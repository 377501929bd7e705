use Rattle.std.proofs.Common.{◌∙◌, ap, sym}
use Rattle.serde_json.specs.Data.{no_members}
use Rattle.record_stream.specs.RecordLine.{added_by, with_types}
use Rattle.record_stream.proofs.Whole.{line_adds}
use Rattle.record_stream.proofs.record_line.RecordLine.names.Goals as goal

pub returns : goal.returns
returns c =
    let kept = c.self.invariant in
    (with_types kept.types no_members, ap added_by (sym c.self.view_is) ∙ line_adds _ _ kept.version kept.tag kept.types kept.other kept.held, kept.named)

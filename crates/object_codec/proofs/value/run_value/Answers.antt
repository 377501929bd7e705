use Rattle.std.proofs.Common.{sym, subst}
use Rattle.row_model.specs.Areas.{area_of}
use Rattle.object_codec.specs.Part.{TellsValue}
use Rattle.object_codec.proofs.PartValues.{bytes_run, text_run}
use Rattle.object_codec.proofs.value.run_value.Goals as goal

pub returns-in-Text : goal.returns-in-Text
returns-in-Text g c = λ part area_is told.
    (let run = text_run c.args.kind.now part c.args.start c.args.end c.in_ok-bytes.bytes (area_of (g.P.Parts.area_bytes c.args.parts.now) c.args.field) c.in-Text.is area_is c.in_ok-bytes.ensures told in
    subst (λ kind. TellsValue kind part c.text_value.result) (sym c.in-Text.is) (c.text_value.ensures part run.0 run.1 run.2))

pub returns-in_default : goal.returns-in_default
returns-in_default g c = λ part area_is told.
    bytes_run c.args.kind.now part c.args.start c.args.end c.in_ok-bytes.bytes (area_of (g.P.Parts.area_bytes c.args.parts.now) c.args.field) c.in_default.not-Text area_is c.in_ok-bytes.ensures told

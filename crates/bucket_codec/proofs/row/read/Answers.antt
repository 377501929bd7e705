use Rattle.bucket_codec.proofs.PlaceRows.{row_exact, reason_exact}
use Rattle.bucket_codec.proofs.PlaceTests.{parts_hold, parts_tell}
use Rattle.bucket_codec.proofs.row.read.Goals as goal

pub row-requires : goal.row-requires
row-requires g c =
    parts_hold c.args.schema.now.shape c.args.total c.args.place c.args.widths.now (g.P.Parts.first_words c.args.parts.now) (g.P.Parts.second_words c.args.parts.now) c.as_slice.result.now c.first.result.now
    c.second.result.now c.as_slice.ensures c.first.ensures c.second.ensures c.requires

pub returns-clause-tells : goal.returns-clause-tells
returns-clause-tells g c =
    parts_tell c.args.schema.now.shape c.args.total c.args.place c.args.widths.now (g.P.Parts.first_words c.args.parts.now) (g.P.Parts.second_words c.args.parts.now) c.as_slice.result.now c.first.result.now
    c.second.result.now c.as_slice.ensures c.first.ensures c.second.ensures c.row.result c.row.ensures

pub returns-clause-spelled : goal.returns-clause-spelled
returns-clause-spelled g c =
    row_exact c.args.schema.now.shape c.args.widths.now c.args.total (g.P.Parts.first_words c.args.parts.now) (g.P.Parts.second_words c.args.parts.now) c.args.place c.row.result
    (parts_tell c.args.schema.now.shape c.args.total c.args.place c.args.widths.now (g.P.Parts.first_words c.args.parts.now) (g.P.Parts.second_words c.args.parts.now) c.as_slice.result.now c.first.result.now
    c.second.result.now c.as_slice.ensures c.first.ensures c.second.ensures c.row.result c.row.ensures)

pub returns-clause-bad : goal.returns-clause-bad
returns-clause-bad g c =
    reason_exact c.args.schema.now.shape c.args.widths.now c.args.total (g.P.Parts.first_words c.args.parts.now) (g.P.Parts.second_words c.args.parts.now) c.args.place c.row.result
    (parts_tell c.args.schema.now.shape c.args.total c.args.place c.args.widths.now (g.P.Parts.first_words c.args.parts.now) (g.P.Parts.second_words c.args.parts.now) c.as_slice.result.now c.first.result.now
    c.second.result.now c.as_slice.ensures c.first.ensures c.second.ensures c.row.result c.row.ensures)

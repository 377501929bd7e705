use Rattle.std.proofs.Common.{sym, ap, ◌∙◌, refl}
use Rattle.std.specs.Prelude.{Err}
use Rattle.std.proofs.lemmas.Bool.{false≢true}
use Rattle.write_engine.proofs.RestoredTypes.{row_more, row_named, row_skipped}
use Rattle.write_engine.proofs.restoring.restore_at.Goals as goal

pub returns-then-not-is_live : goal.returns-then-not-is_live
returns-then-not-is_live g c = row_skipped (g.R.Rows.table c.args.rows.now) c.args.type_index c.args.ordinal c.args.map.now c.requires.below (λ live. false≢true (sym c.if-not-is_live.true ∙ c.is_live.ensures.1 live))

pub returns-in-Ok : goal.returns-in-Ok
returns-in-Ok g c =
    row_more (g.R.Rows.table c.args.rows.now) c.args.type_index c.args.ordinal c.args.map.now c.in_ok-row.row c.requires.below c.in_ok-row.ensures c.restore_row.new.self c.in-Ok.ensures.tells.0 c.in-Ok.ensures.tells.1

pub returns-in-Err-Equal : goal.returns-in-Err-Equal
returns-in-Err-Equal g c =
    let here = (c.restore_row.ensures.equal c.in-Err-Equal.first).0 (c.in-Err-Equal.is ∙ ap Err c.in-Err-Equal.field-0-is) in
    (refl, row_named (g.R.Rows.table c.args.rows.now) c.args.type_index c.args.ordinal c.args.map.now c.in_ok-row.row c.requires.below c.in_ok-row.ensures c.in-Err-Equal.first here)

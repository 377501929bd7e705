use Rattle.std.proofs.Common.{◌⊎◌, List, Option, subst}
use Rattle.schema_model.specs.declared.schema.Schema.{Schema}
use Rattle.closed_rows.specs.declared.dangling.Dangling.{Dangling}
use Rattle.closed_rows.specs.Dangling.{TellsDangling}
use Rattle.blob_faults.specs.Blame.{BlamesRow}
use Rattle.state_moves.specs.Judged.{IsFreeMove, offsets_among}
use Rattle.state_moves.proofs.Judging.{blames_dangling}
use Rattle.state_moves.proofs.closing.check_closed.Goals as goal

pub returns-in-Some : goal.returns-in-Some
returns-in-Some c =
    blames_dangling (offsets_among c.args.rows.now.schemas c.args.parts.now c.args.size) c.args.rows.now.schemas c.args.rows.now.table c.in-Some.found c.blame_row.result
    (subst (λ (found : Option Dangling). TellsDangling c.args.rows.now.schemas c.args.rows.now.table found) c.in-Some.is c.in_ok-found.ensures)
    (subst (λ (schemas : List Schema). BlamesRow (offsets_among schemas c.args.parts.now c.args.size) schemas c.in-Some.found c.blame_row.result ⊎ IsFreeMove c.blame_row.result) c.model.ensures.model c.blame_row.ensures)

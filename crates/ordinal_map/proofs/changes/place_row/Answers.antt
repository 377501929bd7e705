use Rattle.std.proofs.Common.{ap, ◌∙◌, cond}
use Rattle.std.specs.Prelude.{Some, nat_eq}
use Rattle.ordinal_map.proofs.Placing.{set_row}
use Rattle.ordinal_map.proofs.changes.place_row.Goals as goal

pub returns-clause-placed : goal.returns-clause-placed
returns-clause-placed c = record {
  rows_are = set_row c.args.rows.now.items c.make_room.new.rows.items c.args.ordinal c.args.row c.make_room.ensures.same c.in_ok-make_room.ensures.room;
  hashes_are = λ q. c.link.ensures.hashes q ∙ ap (cond (nat_eq q c.args.ordinal) (Some c.args.hash)) (c.make_links.ensures.hashes q);
}

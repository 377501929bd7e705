use Rattle.row_model.specs.Lent.{lent_row}
use Rattle.row_widths.proofs.Steps.{took_old, ended_old, takes_same}
use Rattle.row_widths.proofs.row_walk.RowWalk.next.Goals as goal

pub returns-in_ok-lend-in-Some : goal.returns-in_ok-lend-in-Some
returns-in_ok-lend-in-Some g c =
    took_old (g.A.Rows.table c.args.old.now) (g.B.Rows.table c.args.new.now) c.args.type_index c.args.self.now c.in-Some.ordinal (lent_row c.in_ok-lend-in-Some.field-0)
    c.if-self.false c.in-Some.ensures c.in_ok-lend-in-Some.ensures

pub returns-in-None : goal.returns-in-None
returns-in-None g c =
    takes_same _ _ _ c.next_added-in-None.result
    (ended_old (g.A.Rows.table c.args.old.now) (g.B.Rows.table c.args.new.now) c.args.type_index c.args.self.now c.if-self.false c.in-None.ensures)
    c.next_added-in-None.ensures

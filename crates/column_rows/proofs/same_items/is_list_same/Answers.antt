use Rattle.column_rows.proofs.SameRows.{list_both}
use Rattle.column_rows.proofs.same_items.is_list_same.Goals as goal

pub returns : goal.returns
returns g c = λ same.
    list_both (g.A.Rows.table c.args.rows.now) (g.B.Rows.table c.args.others.now) c.args.type_index c.args.ordinal c.args.lists.now c.args.beside.now c.in-Some.elements c.in-Some-elements.other_elements
    c.requires.lists_of c.requires.beside_of c.in-Some.ensures c.in-Some-elements.ensures (c.are_elements_same.ensures same)

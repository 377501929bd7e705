use Rattle.std.proofs.Common.{rules, ◌≡◌, None}
use Rattle.type_state.proofs.HalfColumns.{lists_given, packed_by_max}
use Rattle.type_state.proofs.columns.lists_in.Goals as goal

pub returns : goal.returns
returns c =
    let shape = c.args.rows.shape.now in
    let half = c.args.rows.half.now in
    let words = c.args.rows.words.now in
    let some : half.max ≡ None → ⊥ = search rules in
    lists_given shape c.in-List.field-0 half words c.items_of.result c.in-List.is (packed_by_max shape half words c.requires some)
    record { widths = c.items_of.ensures.widths; total = c.items_of.ensures.total; first = c.items_of.ensures.first; second = c.items_of.ensures.second }

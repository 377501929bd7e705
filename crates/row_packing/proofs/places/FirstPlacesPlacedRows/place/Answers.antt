use Rattle.std.proofs.Common.{◌≡◌, slice_get, Some, arith}
use Rattle.std.specs.List.{range_with_len}
use Rattle.std.specs.Option.{option_map}
use Rattle.std.proofs.lemmas.Result.{IfOk-weaker}
use Rattle.row_model.specs.Lent.{lent_row}
use Rattle.row_model.specs.Table.{row_at}
use Rattle.row_packing.specs.Places.{places_under}
use Rattle.row_packing.proofs.PlacesLent.{first_count, first_lent}
use Rattle.row_packing.proofs.places.FirstPlacesPlacedRows.place.Goals as goal

pub prove-unreachable-requires : goal.prove-unreachable-requires
prove-unreachable-requires g c =
    omega (arith, c.requires, c.if-prove.true, first_count (g.R.Rows.table c.args.self.now.rows.now) c.args.self.now.type_index c.args.self.now.count)

pub returns : goal.returns
returns g c =
    let table = g.R.Rows.table c.args.self.now.rows.now in
    let type_index = c.args.self.now.type_index in
    let count = c.args.self.now.count in
    IfOk-weaker c.lend_under.result (λ row. row_at table type_index c.args.place ≡ option_map lent_row row)
    (λ row. slice_get (places_under table type_index (range_with_len 0 count)) c.args.place ≡ Some (option_map lent_row row))
    (λ row is. first_lent table type_index count c.args.place (option_map lent_row row) c.requires is) c.lend_under.ensures

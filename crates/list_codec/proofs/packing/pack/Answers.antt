use Rattle.std.proofs.Common.{List, ℕ, subst, sym}
use Rattle.list_codec.specs.Packing.{IsPacked}
use Rattle.list_codec.proofs.Places.{packed}
use Rattle.list_codec.proofs.packing.pack.Goals as goal

pub returns-clause-packed : goal.returns-clause-packed
returns-clause-packed g c =
    let widths = c.args.widths.now in
    let rows = g.P.PlacedRows.places c.args.rows.now in
    let is = packed c.args._schema.now.shape widths rows c.in_ok-first.first.items c.in_ok-first.second.items c.requires c.in_ok-first.ensures in
    subst (λ (ws : List ℕ). IsPacked widths rows ws c.from_vec-2.result) (sym c.from_vec.ensures)
    (subst (λ (ws : List ℕ). IsPacked widths rows c.in_ok-first.first.items ws) (sym c.from_vec-2.ensures) is)

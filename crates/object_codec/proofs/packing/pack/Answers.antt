use Rattle.std.proofs.Common.{◌*◌, ℕ, length, subst, sym, ap, ◌∙◌, arith, Fits, w64}
use Rattle.std.specs.Prelude.{sum}
use Rattle.object_codec.proofs.PlacesPacked.{bits_small}
use Rattle.object_codec.proofs.packing.pack.Goals as goal

pub layout_of-layout-requires : goal.layout_of-layout-requires
layout_of-layout-requires g c =
    let is = ap sum c.as_slice.ensures in
    omega (arith, is, (bits_small _ _ _ c.requires).0)

pub overflow_mul-count : goal.overflow_mul-count
overflow_mul-count g c =
    subst (λ (count : ℕ). Fits w64 (count * c.layout_of-layout.result.size)) (sym c.count.ensures)
    (subst (λ (size : ℕ). Fits w64 (length (g.P.PlacedRows.places c.args.rows.now) * size)) (sym (c.layout_of-layout.ensures.size ∙ ap sum c.as_slice.ensures)) (record { fits = (bits_small _ _ _ c.requires).1 }))

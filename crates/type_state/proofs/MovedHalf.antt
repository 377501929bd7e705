-- The half that a patch moves another one to: its rows can be laid out in it.
use Rattle.std.proofs.Common.{◌≡◌, length, sym, ap, ◌∙◌, subst, arith}
use Rattle.std.specs.FinMap.{keys, values}
use Rattle.schema_model.specs.declared.schema.Shape.{Shape}
use Rattle.schema_model.specs.Parts.{shape_fields}
use Rattle.row_model.specs.Row.{FitsShape, stored_row}
use Rattle.row_model.specs.Table.{RowMap}
use Rattle.packed_half.specs.declared.half.HalfShape.{HalfShape}
use Rattle.packed_half.specs.Half.{layout_in}
use Rattle.packed_half.specs.Laying.{CanLay, EachRowOf}
use Rattle.packed_half.proofs.Parted.{words_few}
use Rattle.type_rows.specs.declared.patch.PatchSection.{PatchSection}
use Rattle.type_rows.specs.declared.totals.Totals.{Totals}
use Rattle.type_rows.specs.Ends.{AreOfKind}
use Rattle.type_rows.specs.Holds.{Holds, KeepsLimits}
use Rattle.type_rows.specs.Layout.{Layout, places_of}
use Rattle.type_rows.specs.Patches.{IsMovedBy, IsReadablePatch, patch_layout, places_in}
use Rattle.type_rows.specs.Totals.{AreTotals}
use Rattle.type_rows.specs.WellFormed.{AreWidths}
use Rattle.type_rows.proofs.MovedRows.{moved_all, moved_fit}
use Rattle.type_state.proofs.AddedUp.{ends_are}
use Rattle.type_state.proofs.StoredPlaces.{stored_place}

-- The rows that a patch leads to are stored ones where the others are.
moved_stored : (shape : Shape) (patch : PatchSection) (old new : RowMap) → IsReadablePatch shape patch → IsMovedBy shape patch old new → EachRowOf old (λ row. stored_row row ≡ row) → EachRowOf new (λ row. stored_row row ≡ row)
moved_stored shape patch old new h m stored =
    moved_all (λ row. stored_row row ≡ row) shape patch old new m.added m.adds m.moves stored (λ place row inside spelled. stored_place shape patch.max (places_in patch) place row h.well.wide spelled)

pub can_lay : (shape : Shape) (patch : PatchSection) (half : HalfShape) (totals : Totals) (old new : RowMap) → IsReadablePatch shape patch → layout_in half ≡ patch_layout patch → keys new ≡ half.live → half.total ≡ totals.ends.items
    → half.lengths ≡ totals.ends.offsets.items → AreTotals (values new) totals → length totals.ends.offsets.items ≡ length (shape_fields shape) → IsMovedBy shape patch old new → AreOfKind shape new → EachRowOf old (FitsShape shape)
    → EachRowOf old (λ row. stored_row row ≡ row) → CanLay shape half new
can_lay shape patch half totals old new h layout live total lengths are long m kinds fits stored = record {
  live = live;
  held = subst (λ (l : Layout). Holds shape l new) (sym layout) m.held;
  total = total ∙ are.items;
  lengths = lengths ∙ ends_are shape (values new) totals.ends.offsets.items long are.ends;
  wide = subst (λ (l : Layout). AreWidths shape l.max l.widths) (sym layout) h.well.wide;
  fits = moved_fit shape patch old new m fits;
  kinds = kinds;
  stored = moved_stored shape patch old new h m stored;
  many = h.many;
  few = (let same = ap (λ (l : Layout). places_of l.max) layout in omega (arith, same, h.few));
  bytes = m.within.bytes;
  room = words_few shape patch.own half new (subst (λ (l : Layout). AreWidths shape l.max l.widths) (sym layout) h.well.wide) h.many
      (let same = ap (λ (l : Layout). places_of l.max) layout in omega (arith, same, h.few)) (total ∙ are.items) (lengths ∙ ends_are shape (values new) totals.ends.offsets.items long are.ends)
      (subst (λ (l : Layout). KeepsLimits shape patch.own l new) (sym layout) m.within);
}

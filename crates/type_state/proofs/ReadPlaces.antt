-- The place of a live ordinal of a section that is that of its rows: it can be read, and spells the row of the ordinal.
use Rattle.std.proofs.Common.{◌≡◌, ℕ, ◌<◌, Option, None, Some, refl, ap, sym, ◌∙◌, subst, arith}
use Rattle.std.specs.Prelude.{All, Contains, IsSome}
use Rattle.std.specs.FinMap.{get}
use Rattle.schema_model.specs.declared.schema.Shape.{Shape}
use Rattle.row_model.specs.declared.row.Row.{Row}
use Rattle.packed_half.proofs.RowPlaces.{entry_of, key_there, placed_in}
use Rattle.type_rows.specs.Rows.{rows_in}
use Rattle.type_rows.proofs.LiveRows.{live_found}
use Rattle.type_rows.proofs.Rows.{spelled}
use Rattle.type_rows.specs.declared.section.Section.{Section}
use Rattle.type_rows.specs.Layout.{places_of}
use Rattle.type_rows.specs.Loads.{IsSpelledIn, Spells, parts_up_to}
use Rattle.type_rows.specs.WellFormed.{IsReadable}
use Rattle.type_rows.proofs.PlacesUpTo.{readable_at}
use Rattle.type_state.specs.SectionRows.{HasRows}

module _ (shape : Shape) (section : Section) (o : ℕ) (has : HasRows shape section) (live : IsSome (get (rows_in shape section) o)) where
  placed : o < places_of section.max
  placed = by_row (get (rows_in shape section) o) refl live
    where
      by_row : (found : Option Row) → get (rows_in shape section) o ≡ found → IsSome found → o < places_of section.max
      by_row None is some = absurd cc
      by_row (Some row) is some = placed_in (rows_in shape section) (places_of section.max) o row (subst (All (λ (k : ℕ). k < places_of section.max)) (sym has.is.live) has.is.places) is

  pub readable_live : IsReadable shape (parts_up_to section.widths 0 section.first section.second section.areas o)
  readable_live =
      let whole = readable_at shape section o has.readable placed in
      record {
        well = record { wide = whole.well.wide; filled = whole.well.filled; enough = whole.well.enough; short = whole.well.short };
        many = whole.many;
        few = whole.few;
        items = omega arith;
      }

  pub never_bad : ((row : Row) → Spells shape section o row → ⊥) → ⊥
  never_bad none = by_row (get (rows_in shape section) o) refl live
    where
      by_row : (found : Option Row) → get (rows_in shape section) o ≡ found → IsSome found → ⊥
      by_row None is some = absurd cc
      by_row (Some row) is some = none row (entry_of (IsSpelledIn shape section) (rows_in shape section) o row has.is.spelled is)

  pub row_live : (row : Row) → Spells shape section o row → get (rows_in shape section) o ≡ Some row
  row_live row spells =
      live_found shape section o (subst (λ ks. Contains ks o) has.is.live (key_there (rows_in shape section) o live)) ∙ ap Some (spelled shape section o row spells)

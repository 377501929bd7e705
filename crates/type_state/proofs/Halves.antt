-- The rows that the words of a half spell: which stand there, and what is known of them.
use Rattle.std.proofs.Common.{◌≡◌, ℕ, inl, inr, List, [], get_or, None, Some, refl, ap, sym, subst, ◌∙◌, arith}
use Rattle.std.specs.Prelude.{All, Contains, IsSome, is_some}
use Rattle.std.specs.Ordering.{nat_cmp}
use Rattle.std.specs.FinMap.{empty, entries, get, get-empty, get-entries, keys, values}
use Rattle.std.specs.Map.{keys_of, values_of}
use Rattle.std.proofs.lemmas.List.{get_or-map, length-map}
use Rattle.ordinal_set.proofs.Members.{no_member}
use Rattle.schema_model.specs.declared.schema.Shape.{Shape}
use Rattle.row_model.specs.declared.row.Row.{Row}
use Rattle.row_model.specs.Row.{FitsShape, stored_row}
use Rattle.row_model.specs.Table.{RowMap}
use Rattle.packed_half.specs.declared.half.HalfShape.{HalfShape}
use Rattle.packed_half.specs.Half.{section_in}
use Rattle.packed_half.specs.Laying.{EachRowOf}
use Rattle.type_rows.proofs.LiveRows.{live_found, none_found}
use Rattle.type_rows.specs.Ends.{AreOfKind}
use Rattle.type_rows.specs.Holds.{HoldsRows}
use Rattle.type_rows.proofs.Entries.{entries_rise, no_entry}
use Rattle.type_rows.proofs.Removal.{has_or}
use Rattle.type_rows.proofs.Rising.{none_is_not}
use Rattle.type_rows.proofs.DifferingAt.{same_rows}
use Rattle.type_state.specs.Kept.{IsBare, IsHalf, IsPacked, half_rows}
use Rattle.type_state.proofs.KindsKept.{empty_held, empty_kinds}
use Rattle.type_state.proofs.Lookups.{found_at}

-- ---- which rows stand there

pub is_there : (shape : Shape) (half : HalfShape) (words : List ℕ) (o : ℕ) → Contains half.live o → IsSome (get (half_rows shape half words) o)
is_there shape half words o at = ap is_some (live_found shape (section_in shape half words) o at)

pub is_live : (shape : Shape) (half : HalfShape) (words : List ℕ) (o : ℕ) → IsSome (get (half_rows shape half words) o) → Contains half.live o
is_live shape half words o some = elim (has_or half.live o) [
  | inl at ↦ at
  | inr out ↦ absurd (none_is_not (get (half_rows shape half words) o) (none_found shape (section_in shape half words) o out) some)
]

pub not_there : (shape : Shape) (half : HalfShape) (words : List ℕ) (o : ℕ) → (Contains half.live o → ⊥) → get (half_rows shape half words) o ≡ None
not_there shape half words o out = none_found shape (section_in shape half words) o out

-- A half in which nothing is laid out has no rows.
pub bare_rows : (shape : Shape) (half : HalfShape) (words : List ℕ) → IsBare half → half_rows shape half words ≡ empty
bare_rows shape half words bare =
    same_rows (half_rows shape half words) empty (λ q. not_there shape half words q (λ at. no_member q (subst (λ (live : List ℕ). Contains live q) bare.live at)) ∙ sym (get-empty nat_cmp q))

-- What holds of each row holds of the list of them.
pub all_values : (P : Row → Type 0) (rows : RowMap) → EachRowOf rows P → All P (values rows)
all_values P rows each k d inside =
    let es = entries rows in
    let e = get_or es k (0, d) in
    let long = length-map es (λ (f : ℕ × Row). f.1) in
    let mapped : get_or (values_of es) k d ≡ e.1 = get_or-map (λ (f : ℕ × Row). f.1) es k (0, d) d (omega (arith, long, inside)) in
    subst P (sym mapped) (each e.0 e.1 (get-entries rows e.0 ∙ found_at 0 es e.0 k (0, d) (entries_rise rows) (omega (arith, long, inside)) refl))

-- What is live is so in a packed half.
pub packed_there : (shape : Shape) (half : HalfShape) (words : List ℕ) (o : ℕ) → IsHalf shape half words → IsSome (get (half_rows shape half words) o) → IsPacked shape half words
packed_there shape half words o (inl bare) some = absurd (no_member o (subst (λ (live : List ℕ). Contains live o) bare.live (is_live shape half words o some)))
packed_there shape half words o (inr p) some = p

-- ---- what is known of the rows of a half

pub half_kinds : (shape : Shape) (half : HalfShape) (words : List ℕ) → IsHalf shape half words → AreOfKind shape (half_rows shape half words)
half_kinds shape half words (inl bare) = empty_kinds shape (half_rows shape half words) (bare_rows shape half words bare)
half_kinds shape half words (inr p) = p.can.kinds

pub half_held : (shape : Shape) (half : HalfShape) (words : List ℕ) → IsHalf shape half words → HoldsRows shape half.widths [] (values (half_rows shape half words))
half_held shape half words (inl bare) = empty_held shape half.widths (half_rows shape half words) (bare_rows shape half words bare)
half_held shape half words (inr p) = p.can.held.parts

bare_each : (P : Row → Type 0) (rows : RowMap) → rows ≡ empty → EachRowOf rows P
bare_each P rows is = subst (λ (m : RowMap). EachRowOf m P) (sym is) (λ o row at. let none : None ≡ Some row = sym (get-empty nat_cmp o) ∙ at in absurd cc)

pub half_fits : (shape : Shape) (half : HalfShape) (words : List ℕ) → IsHalf shape half words → EachRowOf (half_rows shape half words) (FitsShape shape)
half_fits shape half words (inl bare) = bare_each (FitsShape shape) (half_rows shape half words) (bare_rows shape half words bare)
half_fits shape half words (inr p) = p.can.fits

pub half_stored : (shape : Shape) (half : HalfShape) (words : List ℕ) → IsHalf shape half words → EachRowOf (half_rows shape half words) (λ row. stored_row row ≡ row)
half_stored shape half words (inl bare) = bare_each (λ row. stored_row row ≡ row) (half_rows shape half words) (bare_rows shape half words bare)
half_stored shape half words (inr p) = p.can.stored

-- ---- look-ups

-- The live ordinals of a half are those of its rows.
pub half_keys : (shape : Shape) (half : HalfShape) (words : List ℕ) → IsHalf shape half words → half.live ≡ keys (half_rows shape half words)
half_keys shape half words (inl bare) = bare.live ∙ sym (ap keys_of (ap entries (bare_rows shape half words bare) ∙ no_entry))
half_keys shape half words (inr p) = sym p.laid.is.live

-- The rows of a half that is kept: those that were laid out, and none where nothing is.
use Rattle.std.proofs.Common.{true, false, Option, ◌≡◌, inl, inr, ℕ, List, None, sym, subst, ap, ◌∙◌, arith}
use Rattle.std.specs.Prelude.{Contains, IsSome, is_some, map}
use Rattle.std.specs.Ordering.{nat_cmp}
use Rattle.std.specs.FinMap.{empty, from_entries, get, get-empty}
use Rattle.std.proofs.lemmas.Bool.{false≢true}
use Rattle.schema_model.specs.declared.schema.Shape.{Shape}
use Rattle.row_model.specs.declared.row.Row.{Row}
use Rattle.row_model.specs.Table.{RowMap}
use Rattle.packed_half.specs.declared.half.HalfShape.{HalfShape}
use Rattle.packed_half.specs.Half.{section_in}
use Rattle.packed_half.specs.LaidOut.{HasRows, IsLaidOut}
use Rattle.packed_half.specs.Laying.{CanLay}
use Rattle.type_rows.specs.Rows.{row_in, rows_in}
use Rattle.type_rows.proofs.LiveRows.{live_found, none_found, rows_are}
use Rattle.type_state.specs.Lookup.{elements_of, pairs_of}
use Rattle.type_state.specs.State.{empty_half}
use Rattle.type_state.specs.Kept.{IsBare, IsHalf, half_in, half_rows}

pub bare_rows : (shape : Shape) (half : HalfShape) (words : List ℕ) → IsBare half → half_rows shape half words ≡ empty
unfolding rows_in
bare_rows shape half words bare = ap (λ (live : List ℕ). from_entries (map (λ ordinal. (ordinal, row_in shape (section_in shape half words) ordinal)) live)) bare.live

pub bare_half : (shape : Shape) (half : HalfShape) (words : List ℕ) → IsBare half → half_in shape half words ≡ empty_half
bare_half shape half words bare = λ i. record { layout = record { max = bare.max i; widths = bare.widths i }; rows = bare_rows shape half words bare i }

pub laid_rows : (shape : Shape) (half : HalfShape) (words : List ℕ) (rows : RowMap) → IsLaidOut shape half words rows → half_rows shape half words ≡ rows
laid_rows shape half words rows laid = rows_are shape (section_in shape half words) rows laid.is

pub laid_half : (shape : Shape) (half : HalfShape) (words : List ℕ) (rows : RowMap) → CanLay shape half rows → IsLaidOut shape half words rows → IsHalf shape half words
laid_half shape half words rows can laid =
    let same = sym (laid_rows shape half words rows laid) in
    inr record { laid = subst (IsLaidOut shape half words) same laid; can = subst (CanLay shape half) same can }

-- A live ordinal has a row.
pub live_row : (shape : Shape) (half : HalfShape) (words : List ℕ) (ordinal : ℕ) → Contains half.live ordinal → IsSome (get (half_rows shape half words) ordinal)
live_row shape half words ordinal live = ap is_some (live_found shape (section_in shape half words) ordinal live)

none_there : (ordinal : ℕ) → is_some (get {X = Row} (empty {X = Row} {R = nat_cmp}) ordinal) ≡ false
none_there ordinal = ap (λ (row : Option Row). is_some row) (get-empty nat_cmp ordinal)

-- A half that has a row is laid out.
pub row_laid : (shape : Shape) (half : HalfShape) (words : List ℕ) (ordinal : ℕ) → IsHalf shape half words → IsSome (get (half_rows shape half words) ordinal) → IsLaidOut shape half words (half_rows shape half words)
row_laid shape half words ordinal (inl bare) some = absurd (false≢true (sym (none_there ordinal) ∙ subst (λ (rows : RowMap). is_some (get rows ordinal) ≡ true) (bare_rows shape half words bare) some))
row_laid shape half words ordinal (inr packed) some = packed.laid

-- ---- look-ups

pub has_rows : (shape : Shape) (half : HalfShape) (words given : List ℕ) (ordinal : ℕ) → given ≡ words → IsHalf shape half words → Contains half.live ordinal → HasRows shape half given
has_rows shape half words given ordinal same kept live =
    (half_rows shape half words, subst (λ (ws : List ℕ). IsLaidOut shape half ws (half_rows shape half words)) (sym same) (row_laid shape half words ordinal kept (live_row shape half words ordinal live)))

no_element : (element : ℕ) → Contains (elements_of None) element → ⊥
no_element element at = absurd (omega (arith, at.1))

pub no_elements : (shape : Shape) (half : HalfShape) (words : List ℕ) (ordinal element : ℕ) (rows : RowMap) → half_rows shape half words ≡ rows → (Contains half.live ordinal → ⊥) → Contains (elements_of (get rows ordinal)) element → ⊥
no_elements shape half words ordinal element rows are none at =
    no_element element (subst (λ (row : Option Row). Contains (elements_of row) element) (ap (λ (rs : RowMap). get rs ordinal) (sym are) ∙ none_found shape (section_in shape half words) ordinal none) at)

pub no_pairs : (shape : Shape) (half : HalfShape) (words : List ℕ) (ordinal key value : ℕ) (rows : RowMap) → half_rows shape half words ≡ rows → (Contains half.live ordinal → ⊥) → Contains (pairs_of (get rows ordinal)) (key, value) → ⊥
no_pairs shape half words ordinal key value rows are none at =
    no_pair (subst (λ (row : Option Row). Contains (pairs_of row) (key, value)) (ap (λ (rs : RowMap). get rs ordinal) (sym are) ∙ none_found shape (section_in shape half words) ordinal none) at)
  where
    no_pair : Contains (pairs_of None) (key, value) → ⊥
    no_pair there = absurd (omega (arith, there.1))

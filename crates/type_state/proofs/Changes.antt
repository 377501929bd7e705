-- What is told of the rows that others are moved to by those that come and go, and by where all end.
use Rattle.std.proofs.Common.{◌≡◌, inl, inr, map, ℕ, ◌+◌, ◌*◌, ◌<◌, ◌≤◌, List, [], length, get_or, Option, None, Some, refl, ap, sym, subst, ◌∙◌, arith}
use Rattle.std.specs.Prelude.{slice_get, slice_index}
use Rattle.std.specs.Ordering.{nat_cmp}
use Rattle.std.specs.FinMap.{entries, find, get, get-entries, values}
use Rattle.std.specs.Map.{keys_of}
use Rattle.std.proofs.lemmas.Bool.{cases_lt}
use Rattle.std.proofs.lemmas.Option.{slice_get-get_or}
use Rattle.bit_array.specs.Element.{words_of}
use Rattle.schema_model.specs.declared.limit.Limit.TheVariants.{Words, Bytes}
use Rattle.schema_model.specs.Limit.{number_of_limit}
use Rattle.schema_model.specs.declared.schema.Field.{Field}
use Rattle.schema_model.specs.declared.schema.Shape.{Shape}
use Rattle.row_model.specs.declared.row.Row.{Row}
use Rattle.row_model.specs.Table.{RowMap}
use Rattle.type_rows.specs.declared.outline.Outline.{Outline}
use Rattle.type_rows.specs.declared.totals.Totals.{Totals}
use Rattle.type_rows.specs.Differing.{Difference}
use Rattle.type_rows.specs.FieldEnds.{EndFits}
use Rattle.type_rows.specs.Holds.{FitsRow}
use Rattle.type_rows.specs.Layout.{Layout, item_bits, places_counted}
use Rattle.type_rows.specs.Outline.{layout_at}
use Rattle.type_rows.specs.Patches.{patch_layout}
use Rattle.type_rows.specs.Totals.{AreTotals}
use Rattle.type_rows.proofs.Entries.{entries_rise}
use Rattle.type_rows.proofs.OnceFirst.{some_once}
use Rattle.type_rows.proofs.Rising.{from_sorted}
use Rattle.type_state.specs.declared.differences.Differences.{Differences}
use Rattle.type_state.specs.Differences.{AreApart, added_of, differing, removal, removed_of, rows_with}
use Rattle.type_state.specs.Moving.{IsHeld}
use Rattle.type_state.specs.Counted.{AgreeAt, AreEndsHeld, AreFitting, AreOffsetsHeld, ComeFitting, FitsSomewhere, HoldsSums, IsCounted, StayFitting}
use Rattle.type_rows.proofs.Removal.{has_or}
use Rattle.type_state.proofs.Comings.{not_removed}
use Rattle.type_state.proofs.Moves.{removed_found}
use Rattle.type_state.proofs.DifferingRows.{either, get_differing, with_added, with_neither, with_removed}
use Rattle.type_state.proofs.Lookups.{found_at}
use Rattle.type_state.proofs.Widening.{all_held, fits_where}

-- ---- what is counted

-- Under the added ordinals the removal changes nothing.
pub agree_added : (rows : RowMap) (ds : Differences) → AreApart ds → AgreeAt (differing rows (removed_of ds)) rows (added_of ds)
agree_added rows ds apart o live = get_differing 0 rows (removed_of ds) o (from_sorted (keys_of (removed_of ds)) apart.removed) ∙ ap (λ f. either f (get rows o)) (apart.apart o live)

-- The differences of both parts are counted.
pub both_counted : (rows : RowMap) (ds : Differences) (removed : List Difference) (before middle after : Totals) → AreApart ds → removed ≡ removed_of ds → IsCounted rows removed before middle → AreTotals (values rows) before → IsCounted rows (added_of ds) middle after
    → AreTotals (values (rows_with rows ds)) after
both_counted rows ds removed before middle after apart gone one are two =
    let first = subst (λ (xs : List Difference). AreTotals (values (differing rows xs)) middle) gone (one.counted rows are (λ o live. refl)) in
    two.counted (differing rows (removed_of ds)) first (agree_added rows ds apart)

-- No row is among those that are removed.
none_comes : (os : List ℕ) (o : ℕ) (row : Row) → find nat_cmp o (map removal os) ≡ Some (Some row) → ⊥
none_comes os o row at = elim (has_or os o) [
  | inl there ↦ (let is : Some None ≡ Some (Some row) = sym (removed_found os o there) ∙ at in absurd cc)
  | inr out ↦ (let is : None ≡ Some (Some row) = sym (not_removed os o out) ∙ at in absurd cc)
]

pub come_fitting : (shape : Shape) (outline : Outline) (ds : Differences) → layout_at outline ≡ patch_layout ds.patch.now → AreFitting shape ds.patch.now.widths (added_of ds) → ComeFitting shape outline.widths ds
come_fitting shape outline ds same come = record {
  removed = λ o row at. absurd (none_comes ds.patch.now.removed o row at);
  added = subst (λ (layout : Layout). AreFitting shape layout.widths (added_of ds)) (sym same) come;
}

-- ---- the end offsets of fields

-- One field more whose element holds its end.
pub offsets_more : (fields : List Field) (widths ends : List ℕ) (index : ℕ) (field : Field) → index < length fields → field ≡ get_or fields index field → AreOffsetsHeld fields widths ends index
    → EndFits field.kind (get_or widths index 0) (get_or ends index 0) → AreOffsetsHeld fields widths ends (index + 1)
offsets_more fields widths ends index field inside is before fits k other below at = elim (cases_lt k index) [
  | inl low ↦ before k other low at
  | inr high ↦
      (let same : index ≡ k = omega (arith, below, high) in
      let there : slice_get fields index ≡ Some field = slice_get-get_or fields index field inside ∙ ap Some (sym is) in
      let one : field ≡ other = some_once field other (sym there ∙ ap (λ (n : ℕ). slice_get fields n) same ∙ at) in
      subst (λ (n : ℕ). EndFits other.kind (get_or widths n 0) (get_or ends n 0)) same (subst (λ (f : Field). EndFits f.kind (get_or widths index 0) (get_or ends index 0)) one fits))
]

-- ---- each row fits

module _ (shape : Shape) (own : ℕ) (layout : Layout) (old : RowMap) (ds : Differences) (apart : AreApart ds) (stay : StayFitting shape layout.widths (removed_of ds) old) (come : ComeFitting shape layout.widths ds) where
  fits_there : (ends : List ℕ) (items : ℕ) (row : Row) → AreEndsHeld shape layout.widths ends items → FitsSomewhere shape layout.widths row → FitsRow shape layout.widths (λ f. slice_index ends f) items row
  fits_there ends items row held was = fits_where shape layout.widths was.ends ends was.items items row held was.fits

  each_fits : (ends : List ℕ) (items : ℕ) → AreEndsHeld shape layout.widths ends items → (o : ℕ) (row : Row) → get (rows_with old ds) o ≡ Some row → FitsRow shape layout.widths (λ f. slice_index ends f) items row
  each_fits ends items held o row at = elim (find nat_cmp o (added_of ds)) as (λ (f : Option (Option Row)). find nat_cmp o (added_of ds) ≡ f → FitsRow shape layout.widths (λ f. slice_index ends f) items row) [
    | Some slot ↦ λ is. fits_there ends items row held (come.added o row (is ∙ ap Some (sym (with_added old ds o slot apart is) ∙ at)))
    | None ↦ λ none. elim (find nat_cmp o (removed_of ds)) as (λ (f : Option (Option Row)). find nat_cmp o (removed_of ds) ≡ f → FitsRow shape layout.widths (λ f. slice_index ends f) items row) [
      | Some slot ↦ λ is. fits_there ends items row held (come.removed o row (is ∙ ap Some (sym (with_removed old ds o slot apart none is) ∙ at)))
      | None ↦ λ gone. fits_there ends items row held (stay o row (sym (with_neither old ds o apart none gone) ∙ at) gone)
    ] refl
  ] refl

  -- All of them fit where all end.
  all_fit : (ends : List ℕ) (items : ℕ) → AreEndsHeld shape layout.widths ends items → (k : ℕ) (d : ℕ × Row) → k < length (entries (rows_with old ds)) → FitsRow shape layout.widths (λ f. slice_index ends f) items (get_or (entries (rows_with old ds)) k d).1
  all_fit ends items held k d inside =
      let es = entries (rows_with old ds) in
      let e = get_or es k d in
      each_fits ends items held e.0 e.1 (get-entries (rows_with old ds) e.0 ∙ found_at 0 es e.0 k d (entries_rise (rows_with old ds)) inside refl)

  -- The layout holds the new rows.
  pub held_by_sums : (sums : Totals) → AreTotals (values (rows_with old ds)) sums → HoldsSums shape own layout sums → IsHeld shape own layout (rows_with old ds)
  held_by_sums sums are h = record {
    parts = all_held shape layout.widths (λ f. slice_index sums.ends.offsets.items f) sums.ends.items [] (entries (rows_with old ds)) (all_fit sums.ends.offsets.items sums.ends.items h.ends)
        (λ f. let is = are.ends f in omega (arith, is)) (let is = are.items in omega (arith, is));
    within = record {
      words = subst (λ n. places_counted shape own layout + words_of (n * item_bits shape layout.widths) ≤ number_of_limit Words) are.items h.words;
      bytes = subst (λ n. n ≤ number_of_limit Bytes) are.bytes h.few;
    };
  }

-- The rows that a patch adds: under which ordinals they come, and that its places spell them.
use Rattle.std.proofs.Common.{◌≡◌, true, false, ℕ, zero, suc, ◌+◌, ◌-◌, ◌<◌, ◌≤◌, inl, inr, List, [], ◌∷◌, length, map, get_or, Option, None, Some, Err, refl, ap, sym, subst, ◌∙◌, arith}
use Rattle.std.specs.Prelude.{Bool, Contains, IsFalse, IsSome, IsTrue, MatchOption, All, is_some, ltb, slice_get, sum}
use Rattle.std.specs.Ordering.{nat_cmp}
use Rattle.std.specs.FinMap.{find, get}
use Rattle.std.specs.List.{range_with_len}
use Rattle.std.specs.List.Sorted.{IsBinarySearchResult, IsStrictlyIncreasing}
use Rattle.std.specs.Map.{keys_of, values_of}
use Rattle.std.proofs.lemmas.Bool.{cases_lt, false≢true, ltb-true}
use Rattle.std.proofs.lemmas.List.{get_or-map}
use Rattle.std.proofs.lemmas.List.FromFn.{get_or-map-range_with_len, length-map-range_with_len}
use Rattle.std.proofs.lemmas.List.Sorted.{searched}
use Rattle.std.proofs.lemmas.Map.Keys.{below_from_sorted, sorted_from_strictly_increasing}
use Rattle.std.proofs.lemmas.Option.{get_or_from_slice_get, slice_get-get_or, slice_get_within}
use Rattle.schema_model.specs.declared.schema.Shape.{Shape}
use Rattle.schema_model.specs.declared.schema.Field.{Field}
use Rattle.schema_model.specs.declared.schema.FieldKind.{FieldKind}
use Rattle.schema_model.specs.Parts.{shape_fields}
use Rattle.object_codec.specs.ObjectPlace.{HoldsPlace, IsObject, SpellsObjectRow}
use Rattle.object_codec.proofs.FieldWidths.{fields_small}
use Rattle.list_codec.specs.ListPlace.{IsList, elements_at}
use Rattle.list_codec.specs.Packing.{elements_of_place}
use Rattle.row_model.specs.declared.row.Row.{Row}
use Rattle.row_model.specs.Table.{RowMap}
use Rattle.type_rows.specs.declared.patch.PatchSection.{PatchSection}
use Rattle.type_rows.specs.Differing.{Difference}
use Rattle.type_rows.specs.Loads.{Spells, parts_up_to}
use Rattle.type_rows.specs.Layout.{places_of}
use Rattle.type_rows.specs.Patches.{IsReadablePatch, places_in}
use Rattle.type_rows.specs.WellFormed.{IsWidth}
use Rattle.type_rows.proofs.Places.{holds_object}
use Rattle.type_rows.proofs.PlaceReasons.{readable_added}
use Rattle.type_rows.specs.Rows.{row_in}
use Rattle.type_rows.proofs.Removal.{has_or}
use Rattle.type_rows.proofs.Rising.{from_sorted}
use Rattle.type_state.specs.declared.differences.Differences.{Differences}
use Rattle.type_state.specs.Differences.{AreApart, AreSpelled, IsAddedAt, added_of, addition, present, removal, rows_with}
use Rattle.packed_half.specs.Laying.{EachRowOf}
use Rattle.type_state.specs.Moving.{AreAdded}
use Rattle.type_state.specs.Recorded.{IsStored}
use Rattle.type_state.proofs.Lookups.{found_at}
use Rattle.type_state.proofs.DifferingRows.{with_added, with_gone, with_neither}
use Rattle.type_state.proofs.Moves.{lacks, removed_found, removed_keys}

-- ---- an ordinal among some that rise

rises : (xs : List ℕ) → IsStrictlyIncreasing xs → (i j : ℕ) → i ≤ j → j < length xs → get_or xs i 0 ≤ get_or xs j 0
rises xs rise i j le inside = elim (cases_lt i j) [
  | inl lt ↦ (let low = below_from_sorted xs i j 0 (sorted_from_strictly_increasing xs rise) lt inside in omega (arith, low))
  | inr ge ↦ (let same : i ≡ j = omega (arith, le, ge) in let here = ap (λ k. get_or xs k 0) same in omega (arith, here))
]

at_any : (xs : List ℕ) (k d : ℕ) → k < length xs → get_or xs k d ≡ get_or xs k 0
at_any [] k d inside = absurd (omega arith)
at_any (x ∷ xs) zero d inside = refl
at_any (x ∷ xs) (suc k) d inside = at_any xs k d (omega arith)

pub not_among : (xs : List ℕ) (x y gap : ℕ) → x ≡ y → IsStrictlyIncreasing xs → IsBinarySearchResult (λ z. nat_cmp z x) xs (Err gap) → Contains xs y → ⊥
not_among xs x y gap same rise none at =
    let told = searched xs x (Err gap) none (rises xs rise) in
    elim (cases_lt at.0 gap) [
      | inl below ↦ (let low = told.1 at.0 below in let is = at.2 in let one = at_any xs at.0 y at.1 in omega (arith, low, is, one, same))
      | inr above ↦ (let high = told.2 at.0 above at.1 in let is = at.2 in let one = at_any xs at.0 y at.1 in omega (arith, high, is, one, same))
    ]

-- ---- the ordinals that are added

indexed : (a : ℕ) (f : ℕ → Difference) (xs : List ℕ) → ((k : ℕ) → k < length xs → (f (a + k)).0 ≡ get_or xs k 0) → keys_of (map f (range_with_len a (length xs))) ≡ xs
indexed a f [] each = refl
indexed a f (x ∷ xs) each =
    let first : a + 0 ≡ a = omega arith in
    let here : (f a).0 ≡ x = sym (ap (λ i. (f i).0) first) ∙ each 0 (omega arith) in
    ap (λ y. y ∷ keys_of (map f (range_with_len (a + 1) (length xs)))) here
    ∙ ap (λ rest. x ∷ rest) (indexed (a + 1) f xs (λ k inside. (let next : a + 1 + k ≡ a + suc k = omega arith in ap (λ i. (f i).0) next ∙ each (suc k) (omega arith))))

pub added_keys : (shape : Shape) (patch : PatchSection) → keys_of (map (addition shape patch) (range_with_len 0 (length patch.added))) ≡ patch.added
added_keys shape patch = indexed 0 (addition shape patch) patch.added (λ k inside. (let same : 0 + k ≡ k = omega arith in ap (λ i. get_or patch.added i 0) same))

-- ---- what is found under an ordinal

pub added_at : (ds : Differences) (o place : ℕ) → AreApart ds → slice_get ds.patch.now.added place ≡ Some o → IsAddedAt ds o place
added_at ds o place a at =
    let added = ds.patch.now.added in
    let inside = slice_get_within added place o at in
    let es = added_of ds in
    let f = addition ds.schema.now.shape ds.patch.now in
    let same : 0 + place ≡ place = omega arith in
    let here = get_or-map-range_with_len f 0 (length added) place place (f place) inside same in
    let long = length-map-range_with_len f 0 (length added) in
    let key : (f place).0 ≡ o = get_or_from_slice_get added place o 0 at in
    record {
      inside = inside;
      found = found_at 0 es o place (f place) (from_sorted (keys_of es) a.added) (omega (arith, long, inside)) (ap (λ (e : Difference). e.0) here ∙ key) ∙ ap (λ (e : Difference). Some e.1) here;
    }

pub not_added : (ds : Differences) (o : ℕ) → (Contains ds.patch.now.added o → ⊥) → find nat_cmp o (added_of ds) ≡ None
not_added ds o none = lacks o (added_of ds) (λ at. none (subst (λ os. Contains os o) (added_keys ds.schema.now.shape ds.patch.now) at))

pub removed_at : (os : List ℕ) (o place : ℕ) → slice_get os place ≡ Some o → find nat_cmp o (map removal os) ≡ Some None
removed_at os o place at = removed_found os o (place, slice_get_within os place o at, get_or_from_slice_get os place o o at)

pub not_removed : (os : List ℕ) (o : ℕ) → (Contains os o → ⊥) → find nat_cmp o (map removal os) ≡ None
not_removed os o none = lacks o (map removal os) (λ at. none (subst (λ ps. Contains ps o) (removed_keys os) at))

-- ---- the same by what a look-up answers

pub gone_by : (os : List ℕ) (o : ℕ) (found : Option ℕ) (given : List ℕ) (answer : Bool) → given ≡ os → answer ≡ is_some found → MatchOption found (Contains given o → ⊥) (λ place. slice_get given place ≡ Some o)
    → IsTrue answer → find nat_cmp o (map removal os) ≡ Some None
gone_by os o None given answer same is told so = absurd (false≢true (sym is ∙ so))
gone_by os o (Some place) given answer same is told so = removed_at os o place (subst (λ xs. slice_get xs place ≡ Some o) same told)

pub stays_by : (os : List ℕ) (o : ℕ) (found : Option ℕ) (given : List ℕ) (answer : Bool) → given ≡ os → answer ≡ is_some found → MatchOption found (Contains given o → ⊥) (λ place. slice_get given place ≡ Some o)
    → IsFalse answer → find nat_cmp o (map removal os) ≡ None
stays_by os o None given answer same is told so = not_removed os o (subst (λ xs. Contains xs o → ⊥) same told)
stays_by os o (Some place) given answer same is told so = absurd (false≢true (sym so ∙ is))

pub added_by : (ds : Differences) (o : ℕ) (found : Option ℕ) (given : List ℕ) → AreApart ds → given ≡ ds.patch.now.added → MatchOption found (Contains given o → ⊥) (λ place. slice_get given place ≡ Some o)
    → MatchOption found (find nat_cmp o (added_of ds) ≡ None) (IsAddedAt ds o)
added_by ds o None given a same told = not_added ds o (subst (λ xs. Contains xs o → ⊥) same told)
added_by ds o (Some place) given a same told = added_at ds o place a (subst (λ xs. slice_get xs place ≡ Some o) same told)

pub live_added : (rows : RowMap) (ds : Differences) (o : ℕ) (found : Option ℕ) → AreApart ds → MatchOption found (find nat_cmp o (added_of ds) ≡ None) (IsAddedAt ds o) → is_some found ≡ true → IsSome (get (rows_with rows ds) o)
live_added rows ds o None a told some = absurd (false≢true some)
live_added rows ds o (Some place) a told some = ap is_some (with_added rows ds o _ a told.found)

pub none_added : (ds : Differences) (o : ℕ) (found : Option ℕ) → MatchOption found (find nat_cmp o (added_of ds) ≡ None) (IsAddedAt ds o) → is_some found ≡ false → find nat_cmp o (added_of ds) ≡ None
none_added ds o None told none = told
none_added ds o (Some place) told none = absurd (false≢true (sym none))

-- ---- the rows of the places

abbrev row_of : Shape → PatchSection → ℕ → Row
row_of shape patch place = row_in shape (places_in patch) place

values : (shape : Shape) (patch : PatchSection) (a n : ℕ) → values_of (map (addition shape patch) (range_with_len a n)) ≡ map present (map (row_of shape patch) (range_with_len a n))
values shape patch a zero = refl
values shape patch a (suc n) = ap (λ rest. Some (row_of shape patch a) ∷ rest) (values shape patch (a + 1) n)

pub are_added : (shape : Shape) (patch : PatchSection) → AreSpelled shape patch → AreAdded shape patch (map (addition shape patch) (range_with_len 0 (length patch.added)))
are_added shape patch spelled = record {
  keys = added_keys shape patch;
  rows = map (row_of shape patch) (range_with_len 0 (length patch.added));
  are = values shape patch 0 (length patch.added);
  adds = record {
    each = length-map-range_with_len (row_of shape patch) 0 (length patch.added);
    spelled = λ place row at.
        (let rows = map (row_of shape patch) (range_with_len 0 (length patch.added)) in
        let within = slice_get_within rows place row at in
        let long = length-map-range_with_len (row_of shape patch) 0 (length patch.added) in
        let inside : place < length patch.added = omega (arith, within, long) in
        let same : 0 + place ≡ place = omega arith in
        let is = sym (get_or-map-range_with_len (row_of shape patch) 0 (length patch.added) place place row inside same) ∙ get_or_from_slice_get rows place row row at in
        subst (Spells shape (places_in patch) place) is (spelled.each place inside));
  };
}

-- ---- what a step reads of the patch

pub marked : (os : List ℕ) (k o : ℕ) → o ≡ get_or os k 0 → k < length os → removal o ≡ get_or (map removal os) k (removal o)
marked os k o is inside = ap removal is ∙ sym (get_or-map removal os k 0 (removal o) inside)

pub brought : (ds : Differences) (k : ℕ) → k < length ds.patch.now.added
    → addition ds.schema.now.shape ds.patch.now k ≡ get_or (added_of ds) k (addition ds.schema.now.shape ds.patch.now k)
brought ds k inside =
    let same : 0 + k ≡ k = omega arith in
    sym (get_or-map-range_with_len (addition ds.schema.now.shape ds.patch.now) 0 (length ds.patch.now.added) k k (addition ds.schema.now.shape ds.patch.now k) inside same)

pub brought_long : (ds : Differences) → length (added_of ds) ≡ length ds.patch.now.added
brought_long ds = length-map-range_with_len (addition ds.schema.now.shape ds.patch.now) 0 (length ds.patch.now.added)

pub gone_there : (rows : RowMap) (ds : Differences) (ys : List ℕ) (q at e p : ℕ) → AreApart ds → ys ≡ ds.patch.now.removed → true ≡ ltb at (length ys) → e ≡ get_or ys at e → e ≡ p → p ≡ q → get (rows_with rows ds) q ≡ None
gone_there rows ds ys q at e p a same within is one two =
    let inside = ltb-true at (length ys) (sym within) in
    let there : slice_get ys at ≡ Some q = slice_get-get_or ys at e inside ∙ ap Some (sym is ∙ one ∙ two) in
    with_gone rows ds q None a (removed_at ds.patch.now.removed q at (subst (λ xs. slice_get xs at ≡ Some q) same there))

is_narrow : (max : Option ℕ) (kind : FieldKind) (width : ℕ) → IsWidth max kind width → width ≤ 64
is_narrow None kind width is = is
is_narrow (Some max) kind width is = is.0

pub patch_small : (shape : Shape) (patch : PatchSection) → IsObject shape → IsReadablePatch shape patch → sum patch.widths ≤ 65536
patch_small (Shape.Object key fields) patch object h =
    fields_small (λ (field : Field) width. IsWidth patch.max field.kind width) (λ (field : Field) width is. is_narrow patch.max field.kind width is) fields patch.widths h.many h.well.wide
patch_small (Shape.List element) patch object h = absurd object
patch_small (Shape.Set element) patch object h = absurd object
patch_small (Shape.Map key value) patch object h = absurd object

pub patch_holds : (shape : Shape) (patch : PatchSection) (place : ℕ) → IsObject shape → IsReadablePatch shape patch → IsStrictlyIncreasing patch.added → All (λ o. o < places_of patch.max) patch.added → place < length patch.added
    → HoldsPlace (shape_fields shape) patch.widths patch.first patch.areas place
patch_holds shape patch place object readable rise placed inside =
    let there = readable_added shape patch place readable rise placed inside in
    holds_object shape (parts_up_to patch.widths 0 patch.first patch.second patch.areas place) place object there (omega arith)

-- A place of a record spells it where it spells a row.
pub spells_record : (shape : Shape) (patch : PatchSection) (place : ℕ) (row : Row) → IsObject shape → Spells shape (places_in patch) place row → SpellsObjectRow shape patch.widths patch.first patch.areas place row
spells_record (Shape.Object key fields) patch place row object h = h
spells_record (Shape.List element) patch place row object h = absurd object
spells_record (Shape.Set element) patch place row object h = absurd object
spells_record (Shape.Map key value) patch place row object h = absurd object

pub list_is : (shape : Shape) (patch : PatchSection) (place : ℕ) (widths first second : List ℕ) → IsList shape → widths ≡ patch.widths → first ≡ patch.first → second ≡ patch.second
    → elements_of_place (Some (row_in shape (places_in patch) place)) ≡ elements_at widths first second place
list_is (Shape.Object key fields) patch place widths first second list one two three = absurd list
list_is (Shape.List element) patch place widths first second list one two three =
    sym (ap (λ w. elements_at w first second place) one ∙ ap (λ f. elements_at patch.widths f second place) two ∙ ap (λ s. elements_at patch.widths patch.first s place) three)
list_is (Shape.Set element) patch place widths first second list one two three = absurd list
list_is (Shape.Map key value) patch place widths first second list one two three = absurd list

-- ---- the greatest ordinal that is added

pub below_last : (ds : Differences) (last : ℕ) (given : List ℕ) → AreApart ds → given ≡ ds.patch.now.added → Some last ≡ slice_get given (length given - 1) → (k : ℕ) (d : Difference) → k < length (added_of ds) → (get_or (added_of ds) k d).0 ≤ last
below_last ds last given a same is k d inside =
    let at = sym is in
    let added = ds.patch.now.added in
    let here = get_or_from_slice_get given (length given - 1) last 0 at in
    let long = brought_long ds in
    let count = ap length same in
    let within : k < length added = omega (arith, long, inside) in
    let zero_on : 0 + k ≡ k = omega arith in
    let key = ap (λ (e : Difference). e.0) (get_or-map-range_with_len (addition ds.schema.now.shape ds.patch.now) 0 (length added) k k d within zero_on) in
    let end : get_or added (length given - 1) 0 ≡ last = ap (λ xs. get_or xs (length given - 1) 0) (sym same) ∙ here in
    let low = rises added a.come_rise k (length given - 1) (omega (arith, count, within)) (omega (arith, count, within)) in
    omega (arith, key, end, low)

-- The rows of the places are stored as they are, where all rows are.
pub stored_each : (rows : RowMap) (ds : Differences) → AreApart ds → EachRowOf (rows_with rows ds) IsStored → (place : ℕ) → place < length ds.patch.now.added → IsStored (row_in ds.schema.now.shape (places_in ds.patch.now) place)
stored_each rows ds a stored place inside =
    let o = get_or ds.patch.now.added place 0 in
    let at = added_at ds o place a (slice_get-get_or ds.patch.now.added place 0 inside) in
    stored o (row_in ds.schema.now.shape (places_in ds.patch.now) place) (with_added rows ds o _ a at.found)

-- A row that is live, and does not come, is one that stays.
pub stays_live : (rows : RowMap) (ds : Differences) (o : ℕ) → AreApart ds → find nat_cmp o (added_of ds) ≡ None → IsSome (get (rows_with rows ds) o) → get (rows_with rows ds) o ≡ get rows o
stays_live rows ds o a none live = elim (has_or ds.patch.now.removed o) [
  | inl at ↦ absurd (false≢true (sym (ap is_some (with_gone rows ds o None a (removed_found ds.patch.now.removed o at))) ∙ live))
  | inr out ↦ with_neither rows ds o a none (not_removed ds.patch.now.removed o out)
]

-- What holds of a type, a place and what stands there holds of the same ones by other names.
pub carried : (P : Shape → ℕ → Option Row → Type 0) (shape given : Shape) (place there : ℕ) (row slot : Option Row) → shape ≡ given → place ≡ there → row ≡ slot → P shape place row → P given there slot
carried P shape given place there row slot one two three h = subst (λ s. P s there slot) one (subst (λ p. P shape p slot) two (subst (P shape place) three h))

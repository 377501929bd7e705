-- What the types are behind a move: what is kept fits the rows that come, and gives the rows before.
use Rattle.std.proofs.Common.{◌≡◌, ◌<◌, inl, inr, ℕ, zero, suc, List, [], ◌∷◌, length, get_or, map, Bool, true, false, cond, Option, Some, None, refl, sym, ap, ◌∙◌, subst, arith, eqb, eqb-true}
use Rattle.std.specs.Prelude.{All, Contains, IsSome, slice_get, zip, ◌||◌}
use Rattle.std.specs.List.{AllZip, list_any}
use Rattle.std.specs.List.Sorted.{IsStrictlyIncreasing}
use Rattle.std.specs.Ordering.{nat_cmp}
use Rattle.std.specs.Cmp.{nat_cmp_total}
use Rattle.std.specs.FinMap.{find, get, nat_cmp-IsAntisymmetric, same_map}
use Rattle.std.specs.Option.{option_map}
use Rattle.std.proofs.lemmas.Bool.{cases_order, false≢true}
use Rattle.std.proofs.lemmas.List.{get_or_default, length-map}
use Rattle.std.proofs.lemmas.Option.{slice_get-map, slice_get_within, slice_get-get_or}
use Rattle.row_model.specs.declared.row.Row.{Row}
use Rattle.schema_model.specs.declared.schema.Schema.{Schema}
use Rattle.schema_model.specs.declared.schema.Shape.{Shape}
use Rattle.row_model.specs.Row.{FitsShape, IsRowInRange}
use Rattle.row_model.specs.Table.{RowMap, IsTableOf, row_at}
use Rattle.row_model.proofs.RowEntries.{skips, finds}
use Rattle.type_rows.specs.declared.patch.PatchSection.{PatchSection}
use Rattle.type_rows.specs.Patches.{IsMovedBy, IsWellFormedPatch, MovesRows}
use Rattle.type_state.specs.State.{Half, State}
use Rattle.type_state.specs.Views.{table_of}
use Rattle.delta_blob.specs.declared.patch.PatchPart.{PatchPart}
use Rattle.row_model.specs.Before.{FitsPast, PastPart, is_new, left_rows, no_part, rows_before, table_before}
use Rattle.state_moves.specs.Moving.{AreComing, AreMoved, IsComingLaid, MovesState, TypeIs, coming_half, coming_halves}
use Rattle.state_moves.specs.Halves.{current_halves}
use Rattle.state_moves.proofs.Comings.{coming_at}
use Rattle.state_moves.proofs.Unchanged.{fits_none, same_before}
use Rattle.state_moves.proofs.PastRows.{any_at, before_kept, before_left, before_new}
use Rattle.state_moves.proofs.Tables.{current_at, row_of}

-- ---- lists

pub zip_from : {A B : Type 0} (P : A → B → Type 0) (xs : List A) (ys : List B) → length ys ≡ length xs → ((t : ℕ) (x : A) (y : B) → slice_get xs t ≡ Some x → slice_get ys t ≡ Some y → P x y) → AllZip P xs ys
zip_from P [] [] long each = tt
zip_from P [] (y ∷ ys) long each = absurd (omega (arith, long))
zip_from P (x ∷ xs) [] long each = absurd (omega (arith, long))
zip_from P (x ∷ xs) (y ∷ ys) long each = (each 0 x y refl refl, zip_from P xs ys (omega (arith, long)) (λ t. each (suc t)))

zip_long : {A B : Type 0} (P : A → B → Type 0) (xs : List A) (ys : List B) → AllZip P xs ys → length ys ≡ length xs
zip_long P [] [] all = refl
zip_long P (x ∷ xs) (y ∷ ys) all = let rest = zip_long P xs ys all.1 in omega arith
zip_long P [] (y ∷ ys) all = absurd all
zip_long P (x ∷ xs) [] all = absurd all

-- ---- the rows that left

-- what is found is a row that was there
zip_found : (now : RowMap) (os : List ℕ) (rs : List Row) (q : ℕ) (r : Row) → AllZip (λ o row. get now o ≡ Some row) os rs → find nat_cmp q (zip os rs) ≡ Some r → get now q ≡ Some r
zip_found now [] rs q r all is = absurd cc
zip_found now (o ∷ os) [] q r all is = absurd all
zip_found now (o ∷ os) (w ∷ rs) q r all is = elim (cases_order q o) [
  | inl same ↦
      let here : Some w ≡ Some r = sym (ap (λ k. find nat_cmp k ((o, w) ∷ zip os rs)) same ∙ finds (o, w) (zip os rs)) ∙ is in
      ap (get now) same ∙ all.0 ∙ here
  | inr apart ↦
      let behind = skips q (o, w) (zip os rs) (λ same. elim apart [ inl l ↦ omega arith | inr g ↦ omega arith ]) in
      zip_found now os rs q r all.1 (sym behind ∙ is)
]

-- what is not found is not among the ordinals
zip_none : (now : RowMap) (os : List ℕ) (rs : List Row) (q : ℕ) → AllZip (λ o row. get now o ≡ Some row) os rs → find nat_cmp q (zip os rs) ≡ None → (k : ℕ) → k < length os → get_or os k 0 ≡ q → ⊥
zip_none now [] rs q all none k inside at = omega (arith, inside)
zip_none now (o ∷ os) [] q all none k inside at = all
zip_none now (o ∷ os) (w ∷ rs) q all none zero inside at = let here = ap (λ k. find nat_cmp k ((o, w) ∷ zip os rs)) (sym at) ∙ finds (o, w) (zip os rs) in absurd cc
zip_none now (o ∷ os) (w ∷ rs) q all none (suc k) inside at = elim (cases_order q o) [
  | inl same ↦ let here = ap (λ k. find nat_cmp k ((o, w) ∷ zip os rs)) same ∙ finds (o, w) (zip os rs) in absurd cc
  | inr apart ↦
      let behind = skips q (o, w) (zip os rs) (λ same. elim apart [ inl l ↦ omega arith | inr g ↦ omega arith ]) in
      zip_none now os rs q all.1 (sym behind ∙ none) k (omega (arith, inside)) at
]

-- a number that a test finds stands in the list
pub any_place : (xs : List ℕ) (o : ℕ) → list_any (λ n. eqb n o) xs ≡ true → (k : ℕ) × (k < length xs) × (get_or xs k 0 ≡ o)
any_place [] o any = absurd (false≢true any)
any_place (x ∷ xs) o any = by_first (eqb x o) refl any (any_place xs o)
  where
    by_first : (b : Bool) → eqb x o ≡ b → (b || list_any (λ n. eqb n o) xs) ≡ true → (list_any (λ n. eqb n o) xs ≡ true → (k : ℕ) × (k < length xs) × (get_or xs k 0 ≡ o)) → (k : ℕ) × (k < length (x ∷ xs)) × (get_or (x ∷ xs) k 0 ≡ o)
    by_first true is found later = (0, omega arith, eqb-true x o is)
    by_first false is found later = let (k, inside, at) = later found in (suc k, omega (arith, inside), at)

-- ---- a type that was moved

module _ (section : PatchSection) (state : State) (part : PastPart) (moves : MovesState section state part) where
  abbrev pub old : RowMap
  old = state.current.rows

  abbrev pub new : RowMap
  new = state.other.rows

  moved : MovesRows old new section.removed section.added moves.moved.added
  moved = moves.moved.moves

  came : (k : ℕ) → k < length section.added → get new (get_or section.added k 0) ≡ slice_get moves.moved.added k
  came k inside = moved.came k (get_or section.added k 0) (slice_get-get_or section.added k 0 inside)

  live_new : All (λ o. IsSome (get new o)) section.added
  live_new k d inside =
      let some = slice_get-get_or moves.moved.added k (Row.List []) (omega (arith, inside, moves.moved.adds.each)) in
      subst (λ (o : ℕ). IsSome (get new o)) (get_or_default section.added k 0 d inside) (subst IsSome (sym (came k inside ∙ some)) refl)

  free_new : All (λ o. get new o ≡ None) section.removed
  free_new k d inside = moved.gone (get_or section.removed k d) (k, inside, get_or_default section.removed k (get_or section.removed k d) d inside)

  pub fits_moved : FitsPast new part
  fits_moved = record {
    came_rise = subst IsStrictlyIncreasing (sym moves.keeps.came) moves.moved.ordinals.added_rise;
    came_live = subst (All (λ o. IsSome (get new o))) (sym moves.keeps.came) live_new;
    gone_rise = subst IsStrictlyIncreasing (sym moves.keeps.gone) moves.moved.ordinals.removed_rise;
    gone_free = subst (All (λ o. get new o ≡ None)) (sym moves.keeps.gone) free_new;
    gone_small = moves.keeps.small;
    rows = zip_long (λ o row. get old o ≡ Some row) part.gone part.rows moves.keeps.rows;
  }

  by_new : (q : ℕ) → find nat_cmp q (left_rows part) ≡ None → (b : Bool) → is_new part q ≡ b → get (rows_before new part) q ≡ get old q
  by_new q none true is =
      let (k, inside, at) = any_place part.came q is in
      let within : k < length section.added = subst (λ (xs : List ℕ). k < length xs) moves.keeps.came inside in
      let here : get_or section.added k 0 ≡ q = subst (λ (xs : List ℕ). get_or xs k 0 ≡ q) moves.keeps.came at in
      let free : get old q ≡ None = subst (λ (o : ℕ). get old o ≡ None) here (moves.moved.ordinals.added_free k 0 within) in
      before_new new part q none is ∙ sym free
  by_new q none false is =
      before_kept new part q none is
      ∙ moved.kept q
      (λ goes.
      let (k, inside, at) = subst (λ (xs : List ℕ). Contains xs q) (sym moves.keeps.gone) goes in
      zip_none old part.gone part.rows q moves.keeps.rows none k inside (get_or_default part.gone k 0 q inside ∙ at))
      (λ comes.
      let (k, inside, at) = subst (λ (xs : List ℕ). Contains xs q) (sym moves.keeps.came) comes in
      false≢true (sym is ∙ any_at part.came q k inside (get_or_default part.came k 0 q inside ∙ at)))

  by_left : (q : ℕ) (o : Option Row) → find nat_cmp q (left_rows part) ≡ o → get (rows_before new part) q ≡ get old q
  by_left q (Some r) is = before_left new part q r is ∙ sym (zip_found old part.gone part.rows q r moves.keeps.rows is)
  by_left q None is = by_new q is (is_new part q) refl

  pub before_moved : rows_before new part ≡ old
  before_moved = same_map nat_cmp_total nat_cmp-IsAntisymmetric (rows_before new part) old (λ q. by_left q (find nat_cmp q (left_rows part)) refl)

-- the half that comes of a type that is named, and of one that is not
pub comes_named : (state : State) (is_named : Bool) → is_named ≡ true → coming_half state is_named ≡ state.other
comes_named state is_named named = ap (λ (b : Bool). cond b state.other state.current) named

pub comes_unnamed : (state : State) (is_named : Bool) → is_named ≡ false → coming_half state is_named ≡ state.current
comes_unnamed state is_named unnamed = ap (λ (b : Bool). cond b state.other state.current) unnamed

-- ---- each type

-- The half that comes is laid out, what is kept fits it, and gives the rows before.
pub record IsChanged (state : State) (is_named : Bool) (part : PastPart) : Type 0 where
  pub laid : IsComingLaid state is_named
  pub fits : FitsPast (coming_half state is_named).rows part
  pub before : rows_before (coming_half state is_named).rows part ≡ state.current.rows

pub type_changed : (parts : List PatchPart) (t : ℕ) (state : State) (is_named : Bool) (part : PastPart) → TypeIs parts t state is_named part → IsChanged state is_named part
type_changed parts t state is_named part (TypeIs.Unnamed unnamed none all) = subst (IsChanged state is_named) (sym none) record {
  laid = λ named. absurd (false≢true (sym unnamed ∙ named));
  fits = subst (λ (half : Half). FitsPast half.rows no_part) (sym (comes_unnamed state is_named unnamed)) (fits_none state.current.rows);
  before = ap (λ (half : Half). rows_before half.rows no_part) (comes_unnamed state is_named unnamed) ∙ same_before state.current.rows;
}
type_changed parts t state is_named part (TypeIs.Named named place by at same moves) = record {
  laid = λ _. moves.laid;
  fits = subst (λ (half : Half). FitsPast half.rows part) (sym (comes_named state is_named named)) (fits_moved by.section state part moves);
  before = ap (λ (half : Half). rows_before half.rows part) (comes_named state is_named named) ∙ before_moved by.section state part moves;
}

-- The same of each type, with whether it is named and what is kept of it.
abbrev pub AreChanged : List State → List Bool → List PastPart → Type 0
AreChanged [] [] [] = Unit {0}
AreChanged (state ∷ states) (is_named ∷ named) (part ∷ past) = IsChanged state is_named part × AreChanged states named past
AreChanged _ _ _ = ⊥

changed_from : (states : List State) (named : List Bool) (past : List PastPart) → length named ≡ length states → length past ≡ length states
    → ((t : ℕ) (state : State) (is_named : Bool) (part : PastPart) → slice_get states t ≡ Some state → slice_get named t ≡ Some is_named → slice_get past t ≡ Some part → IsChanged state is_named part) → AreChanged states named past
changed_from [] [] [] named_long past_long each = tt
changed_from (s ∷ states) (b ∷ named) (p ∷ past) named_long past_long each = (each 0 s b p refl refl refl, changed_from states named past (omega (arith, named_long)) (omega (arith, past_long)) (λ t. each (suc t)))
changed_from [] (b ∷ named) past named_long past_long each = absurd (omega (arith, named_long))
changed_from [] [] (p ∷ past) named_long past_long each = absurd (omega (arith, past_long))
changed_from (s ∷ states) [] past named_long past_long each = absurd (omega (arith, named_long))
changed_from (s ∷ states) (b ∷ named) [] named_long past_long each = absurd (omega (arith, past_long))

pub all_changed : (parts : List PatchPart) (states : List State) (named : List Bool) (past : List PastPart) → AreMoved parts states named past → AreChanged states named past
all_changed parts states named past moved =
    changed_from states named past moved.named_long moved.past_long (λ t state is_named part at flag there. type_changed parts t state is_named part (moved.types t state is_named part at flag there))

pub all_laid : (states : List State) (named : List Bool) (past : List PastPart) → AreChanged states named past → AllZip IsComingLaid states named
all_laid [] [] [] all = tt
all_laid (s ∷ states) (b ∷ named) (p ∷ past) all = (all.0.laid, all_laid states named past all.1)
all_laid _ _ _ all = absurd all

pub all_fit : (states : List State) (named : List Bool) (past : List PastPart) → AreChanged states named past → AllZip FitsPast (table_of (coming_halves states named)) past
unfolding coming_halves
all_fit [] [] [] all = tt
all_fit (s ∷ states) (b ∷ named) (p ∷ past) all = (all.0.fits, all_fit states named past all.1)
all_fit _ _ _ all = absurd all

pub all_before : (states : List State) (named : List Bool) (past : List PastPart) → AreChanged states named past → table_before (table_of (coming_halves states named)) past ≡ table_of (current_halves states)
unfolding coming_halves table_before
all_before [] [] [] all = refl
all_before (s ∷ states) (b ∷ named) (p ∷ past) all = let one = all.0.before in let rest = all_before states named past all.1 in λ i. one i ∷ rest i
all_before _ _ _ all = absurd all

pub coming_long : (states : List State) (named : List Bool) → length named ≡ length states → length (table_of (coming_halves states named)) ≡ length states
unfolding coming_halves
coming_long [] named long = refl
coming_long (s ∷ states) [] long = absurd (omega (arith, long))
coming_long (s ∷ states) (b ∷ named) long = let rest = coming_long states named (omega (arith, long)) in omega (arith, rest)

-- ---- the rows that come fit the types

abbrev pub FitsLaw : Type 0
FitsLaw = (shape : Shape) (patch : PatchSection) (old new : RowMap) → IsMovedBy shape patch old new → ((ordinal : ℕ) (row : Row) → get old ordinal ≡ Some row → FitsShape shape row)
    → (ordinal : ℕ) (row : Row) → get new ordinal ≡ Some row → FitsShape shape row

abbrev pub RangesLaw : Type 0
RangesLaw = (shape : Shape) (patch : PatchSection) (old new : RowMap) → IsWellFormedPatch shape patch → IsMovedBy shape patch old new → ((ordinal : ℕ) (row : Row) → get old ordinal ≡ Some row → IsRowInRange row)
    → (ordinal : ℕ) (row : Row) → get new ordinal ≡ Some row → IsRowInRange row

pub state_there : (states : List State) (schemas : List Schema) (t : ℕ) (schema : Schema) → map (λ (s : State). s.schema) states ≡ schemas → slice_get schemas t ≡ Some schema → (state : State) × (slice_get states t ≡ Some state) × (state.schema ≡ schema)
state_there states schemas t schema named is = of_option (slice_get states t) refl
  where
    schema_is : option_map (λ (s : State). s.schema) (slice_get states t) ≡ Some schema
    schema_is = sym (slice_get-map (λ (s : State). s.schema) states t) ∙ ap (λ (xs : List Schema). slice_get xs t) named ∙ is

    of_option : (o : Option State) → slice_get states t ≡ o → (state : State) × (slice_get states t ≡ Some state) × (state.schema ≡ schema)
    of_option None e = let none = sym (ap (option_map (λ (s : State). s.schema)) e) ∙ schema_is in absurd cc
    of_option (Some state) e = let one : Some state.schema ≡ Some schema = sym (ap (option_map (λ (s : State). s.schema)) e) ∙ schema_is in (state, e, cc)

module _ (fits_law : FitsLaw) (ranges_law : RangesLaw) (schemas : List Schema) (parts : List PatchPart) (states : List State) (named : List Bool) (past : List PastPart) (moved : AreMoved parts states named past)
    (of_model : map (λ (s : State). s.schema) states ≡ schemas) (was : IsTableOf schemas (table_of (current_halves states))) where
  module _ (t o : ℕ) (schema : Schema) (row : Row) (is : slice_get schemas t ≡ Some schema) (at : row_at (table_of (coming_halves states named)) t o ≡ Some row) where
    abbrev pub state : State
    state = (state_there states schemas t schema of_model is).0

    there : slice_get states t ≡ Some state
    there = (state_there states schemas t schema of_model is).1

    within : t < length states
    within = slice_get_within states t state there

    abbrev pub is_named : Bool
    is_named = get_or named t false

    named_there : slice_get named t ≡ Some is_named
    named_there = slice_get-get_or named t false (omega (arith, within, moved.named_long))

    abbrev pub part : PastPart
    part = get_or past t no_part

    part_there : slice_get past t ≡ Some part
    part_there = slice_get-get_or past t no_part (omega (arith, within, moved.past_long))

    row_is : get (coming_half state is_named).rows o ≡ Some row
    row_is = sym (row_of (table_of (coming_halves states named)) t o (coming_half state is_named).rows (coming_at states named t state is_named there named_there)) ∙ at

    old_fits : (q : ℕ) (r : Row) → get state.current.rows q ≡ Some r → FitsShape schema.shape r
    old_fits q r found = was.rows t q schema r is (row_of (table_of (current_halves states)) t q state.current.rows (current_at states t state there) ∙ found)

    old_ranges : (q : ℕ) (r : Row) → get state.current.rows q ≡ Some r → IsRowInRange r
    old_ranges q r found = was.ranges t q schema r is (row_of (table_of (current_halves states)) t q state.current.rows (current_at states t state there) ∙ found)

    pub row_fits : FitsShape schema.shape row
    row_fits = by_type (moved.types t state is_named part there named_there part_there)
      where
        by_type : TypeIs parts t state is_named part → FitsShape schema.shape row
        by_type (TypeIs.Unnamed unnamed none all) = old_fits o row (ap (λ (half : Half). get half.rows o) (sym (comes_unnamed state is_named unnamed)) ∙ row_is)
        by_type (TypeIs.Named flag place by at_place same moves) =
            fits_law schema.shape by.section state.current.rows state.other.rows (subst (λ (s : Schema). IsMovedBy s.shape by.section state.current.rows state.other.rows) (state_there states schemas t schema of_model is).2 moves.moved) old_fits
            o row (ap (λ (half : Half). get half.rows o) (sym (comes_named state is_named flag)) ∙ row_is)

    pub row_ranges : IsRowInRange row
    row_ranges = by_type (moved.types t state is_named part there named_there part_there)
      where
        by_type : TypeIs parts t state is_named part → IsRowInRange row
        by_type (TypeIs.Unnamed unnamed none all) = old_ranges o row (ap (λ (half : Half). get half.rows o) (sym (comes_unnamed state is_named unnamed)) ∙ row_is)
        by_type (TypeIs.Named flag place by at_place same moves) =
            ranges_law state.schema.shape by.section state.current.rows state.other.rows moves.well moves.moved old_ranges
            o row (ap (λ (half : Half). get half.rows o) (sym (comes_named state is_named flag)) ∙ row_is)

  pub table_comes : IsTableOf schemas (table_of (coming_halves states named))
  table_comes = record {
    types = coming_long states named moved.named_long ∙ sym (length-map states (λ (s : State). s.schema)) ∙ ap length of_model;
    rows = row_fits;
    ranges = row_ranges;
  }

  pub are_coming : AreComing schemas states named
  are_coming = record { of_model = of_model; laid = all_laid states named past (all_changed parts states named past moved); fits = table_comes }

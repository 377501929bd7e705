-- Lemmas on look-ups in the sets and maps of a half: what a run's look-up tells is told of the row.
use Rattle.std.proofs.Common.{◌≡◌, ℕ, ◌^◌, ◌<◌, ◌≤◌, List, [], length, Bool, true, false, Option, Some, None, refl, sym, ap, ◌∙◌, subst, arith}
use Rattle.std.specs.Prelude.{Contains, IsSome, IsTrue, ◌↔◌}
use Rattle.std.specs.FinMap.{get}
use Rattle.std.proofs.lemmas.Bool.{false≢true}
use Rattle.schema_model.specs.declared.schema.Shape.{Shape}
use Rattle.row_model.specs.declared.row.Row.{Row}
use Rattle.row_model.specs.Table.{RowMap}
use Rattle.bucket_codec.specs.BucketPlace.{IsRowOf, IsWidthCount, SpellsPairs}
use Rattle.bucket_codec.specs.BucketRows.{HoldsAt, HoldsBuckets, SpellsAt}
use Rattle.bucket_codec.specs.declared.bucket_rows.BucketRows.{BucketRows}
use Rattle.bucket_codec.specs.Run.{keys_of, FindsIn}
use Rattle.type_rows.specs.Loads.{Spells}
use Rattle.packed_half.specs.declared.half.HalfShape.{HalfShape}
use Rattle.packed_half.specs.Half.{section_in}
use Rattle.packed_half.specs.LaidOut.{IsLaidOut, HasRows}
use Rattle.packed_half.specs.Laying.{HasRuns}
use Rattle.packed_half.specs.Lookup.{elements_of, pairs_of, AreRunsOf}
use Rattle.packed_half.proofs.Looking.{live_inside, runs_hold, spelled_there}
use Rattle.packed_half.proofs.RowPlaces.{not_found, is_found}

-- ---- whether an ordinal is live

none_under : (shape : Shape) (half : HalfShape) (words : List ℕ) (ordinal : ℕ) (b : Bool) → IsTrue b ↔ Contains half.live ordinal → b ≡ false → (rows : RowMap) → IsLaidOut shape half words rows
    → get rows ordinal ≡ None
none_under shape half words ordinal b tells is rows laid = sym (not_found rows half.live ordinal b laid.is.live tells is)

live_under : (shape : Shape) (half : HalfShape) (words : List ℕ) (ordinal : ℕ) (b : Bool) → IsTrue b ↔ Contains half.live ordinal → b ≡ true → (rows : RowMap) → IsLaidOut shape half words rows
    → IsSome (get rows ordinal)
live_under shape half words ordinal b tells is rows laid = is_found rows half.live ordinal b laid.is.live tells is

-- what holds of the parts of a half holds of the sets or maps that are made of them
of_runs : (P : List ℕ → ℕ → List ℕ → List ℕ → Type 0) (shape : Shape) (half : HalfShape) (words : List ℕ) (rows : BucketRows) → AreRunsOf shape half words rows
    → P half.widths half.total (section_in shape half words).first (section_in shape half words).second → P rows.widths.now rows.total rows.first.now rows.second.now
of_runs P shape half words rows are h =
    subst (λ (w : List ℕ). P w rows.total rows.first.now rows.second.now) (sym are.widths)
    (subst (λ (t : ℕ). P half.widths t rows.first.now rows.second.now) (sym are.total)
    (subst (λ (f : List ℕ). P half.widths half.total f rows.second.now) (sym are.first)
    (subst (P half.widths half.total (section_in shape half words).first) (sym are.second) h)))

pub holds_under : (shape : Shape) (half : HalfShape) (words : List ℕ) (runs : BucketRows) (ordinal place : ℕ) (b : Bool) → HasRuns shape → HasRows shape half words → AreRunsOf shape half words runs
    → IsTrue b ↔ Contains half.live ordinal → b ≡ true → place ≡ ordinal → ordinal < 2 ^ 32 → HoldsAt runs place
holds_under shape half words runs ordinal place b kind has are tells is same small =
    let holds = runs_hold shape half words has.0 ordinal kind has.1 (live_inside shape half words ordinal (has.0, has.1, live_under shape half words ordinal b tells is has.0 has.1)) small in
    let long = three_long shape half.widths kind holds.counted in
    subst (HoldsAt runs) (sym same)
    (of_runs (λ widths total first second. HoldsBuckets widths first second ordinal) shape half words runs are (record { three = long; holds = holds.pointers; few = holds.few }))
  where
    three_long : (shape : Shape) (widths : List ℕ) → HasRuns shape → IsWidthCount shape (length widths) → 3 ≤ length widths
    three_long (Shape.Set element) widths kind counted = omega (arith, counted)
    three_long (Shape.Map key value) widths kind counted = omega (arith, counted)
    three_long (Shape.List element) widths kind counted = absurd kind
    three_long (Shape.Object key fields) widths kind counted = absurd kind

-- ---- the run of a set or map

-- the pairs that a place has
record PairsThere (shape : Shape) (half : HalfShape) (words : List ℕ) (ordinal : ℕ) (row : Row) : Type 0 where
  pairs : List (ℕ × ℕ)
  row_of : IsRowOf shape row pairs
  spelled : SpellsPairs half.widths half.total (section_in shape half words).first (section_in shape half words).second ordinal pairs

pairs_there : (shape : Shape) (half : HalfShape) (words : List ℕ) (ordinal : ℕ) (row : Row) → HasRuns shape → Spells shape (section_in shape half words) ordinal row → PairsThere shape half words ordinal row
pairs_there (Shape.Set element) half words ordinal row runs spells = record { pairs = spells.0; row_of = spells.1; spelled = spells.2 }
pairs_there (Shape.Map key value) half words ordinal row runs spells = record { pairs = spells.0; row_of = spells.1; spelled = spells.2 }
pairs_there (Shape.List element) half words ordinal row runs spells = absurd runs
pairs_there (Shape.Object key fields) half words ordinal row runs spells = absurd runs

-- a live ordinal has a row
row_found : (rows : RowMap) (ordinal : ℕ) → IsSome (get rows ordinal) → (row : Row) × (get rows ordinal ≡ Some row)
row_found rows ordinal live = by_row (get rows ordinal) refl live
  where
    by_row : (row : Option Row) → get rows ordinal ≡ row → IsSome row → (found : Row) × (get rows ordinal ≡ Some found)
    by_row None is some = absurd cc
    by_row (Some row) is some = (row, is)

-- what is told of the sets or maps of a half is told of the pairs under an ordinal
told_there : (P : List (ℕ × ℕ) → Type 0) (shape : Shape) (half : HalfShape) (words : List ℕ) (runs : BucketRows) (ordinal place : ℕ) (row : Row) → HasRuns shape → AreRunsOf shape half words runs → place ≡ ordinal
    → ((pairs : List (ℕ × ℕ)) → SpellsAt runs place pairs → P pairs) → Spells shape (section_in shape half words) ordinal row → (pairs : List (ℕ × ℕ)) × IsRowOf shape row pairs × P pairs
told_there P shape half words runs ordinal place row kind are same tells spells =
    let there = pairs_there shape half words ordinal row kind spells in
    let spelled = of_runs (λ widths total first second. SpellsPairs widths total first second ordinal there.pairs) shape half words runs are there.spelled in
    (there.pairs, there.row_of, tells there.pairs (subst (λ (n : ℕ). SpellsAt runs n there.pairs) (sym same) spelled))

-- ---- sets

set_of : (element : List ℕ) (row : Row) (pairs : List (ℕ × ℕ)) → IsRowOf (Shape.Set element) row pairs → elements_of (Some row) ≡ keys_of pairs
set_of element (Row.Set ordinals) pairs is = is
set_of element (Row.Object values) pairs is = absurd is
set_of element (Row.List ordinals) pairs is = absurd is
set_of element (Row.Map entries) pairs is = absurd is

pub set_has : (shape : Shape) (element : List ℕ) (half : HalfShape) (words : List ℕ) (runs : BucketRows) (ordinal place sought : ℕ) (live b : Bool) → shape ≡ Shape.Set element → AreRunsOf shape half words runs
    → IsTrue live ↔ Contains half.live ordinal → live ≡ true → place ≡ ordinal → ((pairs : List (ℕ × ℕ)) → SpellsAt runs place pairs → IsTrue b ↔ Contains (keys_of pairs) sought)
    → (rows : RowMap) → IsLaidOut shape half words rows → IsTrue b ↔ Contains (elements_of (get rows ordinal)) sought
set_has shape element half words runs ordinal place sought live b is are among lives same tells rows laid =
    let found = row_found rows ordinal (live_under shape half words ordinal live among lives rows laid) in
    let spells = spelled_there shape half words rows ordinal found.0 laid found.1 in
    let told =
    told_there (λ pairs. IsTrue b ↔ Contains (keys_of pairs) sought) shape half words runs ordinal place found.0 (subst HasRuns (sym is) tt) are same tells spells in
    let elements = ap elements_of found.1 ∙ set_of element found.0 told.0 (subst (λ (s : Shape). IsRowOf s found.0 told.0) is told.1) in
    subst (λ (os : List ℕ). IsTrue b ↔ Contains os sought) (sym elements) told.2

-- ---- maps

map_of : (key value : List ℕ) (row : Row) (pairs : List (ℕ × ℕ)) → IsRowOf (Shape.Map key value) row pairs → pairs_of (Some row) ≡ pairs
map_of key value (Row.Map entries) pairs is = is
map_of key value (Row.Object values) pairs is = absurd is
map_of key value (Row.List ordinals) pairs is = absurd is
map_of key value (Row.Set ordinals) pairs is = absurd is

pub map_at : (shape : Shape) (key value : List ℕ) (half : HalfShape) (words : List ℕ) (runs : BucketRows) (ordinal place sought : ℕ) (live : Bool) (result : Option ℕ) → shape ≡ Shape.Map key value
    → AreRunsOf shape half words runs → IsTrue live ↔ Contains half.live ordinal → live ≡ true → place ≡ ordinal → ((pairs : List (ℕ × ℕ)) → SpellsAt runs place pairs → FindsIn pairs sought result)
    → (rows : RowMap) → IsLaidOut shape half words rows → FindsIn (pairs_of (get rows ordinal)) sought result
map_at shape key value half words runs ordinal place sought live result is are among lives same tells rows laid =
    let found = row_found rows ordinal (live_under shape half words ordinal live among lives rows laid) in
    let spells = spelled_there shape half words rows ordinal found.0 laid found.1 in
    let told = told_there (λ pairs. FindsIn pairs sought result) shape half words runs ordinal place found.0 (subst HasRuns (sym is) tt) are same tells spells in
    let pairs = ap pairs_of found.1 ∙ map_of key value found.0 told.0 (subst (λ (s : Shape). IsRowOf s found.0 told.0) is told.1) in
    subst (λ (ps : List (ℕ × ℕ)). FindsIn ps sought result) (sym pairs) told.2

-- ---- no set and no map

nothing : {A : Type 0} (a : A) → Contains [] a → ⊥
nothing a at = absurd (omega (arith, at.1))

pub no_element : (elements : List ℕ) (sought : ℕ) → elements ≡ [] → IsTrue false ↔ Contains elements sought
no_element elements sought none = (λ is. absurd (false≢true is), λ at. absurd (nothing sought (subst (λ (es : List ℕ). Contains es sought) none at)))

pub no_pair : (pairs : List (ℕ × ℕ)) (sought : ℕ) → pairs ≡ [] → FindsIn pairs sought None
no_pair pairs sought none = λ value at. nothing (sought, value) (subst (λ (ps : List (ℕ × ℕ)). Contains ps (sought, value)) none at)

no_set : (shape : Shape) (half : HalfShape) (words : List ℕ) (ordinal : ℕ) (row : Row) → ((element : List ℕ) → shape ≡ Shape.Set element → ⊥) → Spells shape (section_in shape half words) ordinal row → elements_of (Some row) ≡ []
no_set shape half words ordinal (Row.Object values) not spells = refl
no_set shape half words ordinal (Row.List ordinals) not spells = refl
no_set shape half words ordinal (Row.Map pairs) not spells = refl
no_set (Shape.Set element) half words ordinal (Row.Set ordinals) not spells = absurd (not element refl)
no_set (Shape.Map key value) half words ordinal (Row.Set ordinals) not spells = absurd spells.1
no_set (Shape.List element) half words ordinal (Row.Set ordinals) not spells = absurd spells
no_set (Shape.Object key fields) half words ordinal (Row.Set ordinals) not spells = absurd spells

no_map : (shape : Shape) (half : HalfShape) (words : List ℕ) (ordinal : ℕ) (row : Row) → ((key value : List ℕ) → shape ≡ Shape.Map key value → ⊥) → Spells shape (section_in shape half words) ordinal row → pairs_of (Some row) ≡ []
no_map shape half words ordinal (Row.Object values) not spells = refl
no_map shape half words ordinal (Row.List ordinals) not spells = refl
no_map shape half words ordinal (Row.Set ordinals) not spells = refl
no_map (Shape.Map key value) half words ordinal (Row.Map pairs) not spells = absurd (not key value refl)
no_map (Shape.Set element) half words ordinal (Row.Map pairs) not spells = absurd spells.1
no_map (Shape.List element) half words ordinal (Row.Map pairs) not spells = absurd spells
no_map (Shape.Object key fields) half words ordinal (Row.Map pairs) not spells = absurd spells

pub never_set : (shape : Shape) (half : HalfShape) (words : List ℕ) (ordinal sought : ℕ) → ((element : List ℕ) → shape ≡ Shape.Set element → ⊥) → (rows : RowMap) → IsLaidOut shape half words rows
    → IsTrue false ↔ Contains (elements_of (get rows ordinal)) sought
never_set shape half words ordinal sought not rows laid = no_element (elements_of (get rows ordinal)) sought (by_row (get rows ordinal) refl)
  where
    by_row : (row : Option Row) → get rows ordinal ≡ row → elements_of row ≡ []
    by_row None is = refl
    by_row (Some row) is = no_set shape half words ordinal row not (spelled_there shape half words rows ordinal row laid is)

pub never_map : (shape : Shape) (half : HalfShape) (words : List ℕ) (ordinal sought : ℕ) → ((key value : List ℕ) → shape ≡ Shape.Map key value → ⊥) → (rows : RowMap) → IsLaidOut shape half words rows
    → FindsIn (pairs_of (get rows ordinal)) sought None
never_map shape half words ordinal sought not rows laid = no_pair (pairs_of (get rows ordinal)) sought (by_row (get rows ordinal) refl)
  where
    by_row : (row : Option Row) → get rows ordinal ≡ row → pairs_of row ≡ []
    by_row None is = refl
    by_row (Some row) is = no_map shape half words ordinal row not (spelled_there shape half words rows ordinal row laid is)

pub dead_set : (shape : Shape) (half : HalfShape) (words : List ℕ) (ordinal sought : ℕ) (live : Bool) → IsTrue live ↔ Contains half.live ordinal → live ≡ false → (rows : RowMap) → IsLaidOut shape half words rows
    → IsTrue false ↔ Contains (elements_of (get rows ordinal)) sought
dead_set shape half words ordinal sought live among dead rows laid = no_element (elements_of (get rows ordinal)) sought (ap elements_of (none_under shape half words ordinal live among dead rows laid))

pub dead_map : (shape : Shape) (half : HalfShape) (words : List ℕ) (ordinal sought : ℕ) (live : Bool) → IsTrue live ↔ Contains half.live ordinal → live ≡ false → (rows : RowMap) → IsLaidOut shape half words rows
    → FindsIn (pairs_of (get rows ordinal)) sought None
dead_map shape half words ordinal sought live among dead rows laid = no_pair (pairs_of (get rows ordinal)) sought (ap pairs_of (none_under shape half words ordinal live among dead rows laid))

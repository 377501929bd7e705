-- The halves of the types of a position behind a step: those that some parts name have the layouts of the parts and other rows.
use Rattle.std.proofs.Common.{◌≡◌, ◌<◌, ℕ, zero, suc, List, [], ◌∷◌, length, get_or, set, Some, refl, sym, ap, ◌∙◌, subst, arith}
use Rattle.std.specs.Prelude.{All, slice_get}
use Rattle.std.proofs.lemmas.List.{length-set, map-set}
use Rattle.std.proofs.lemmas.List.Elements.{All-head, All-tail}
use Rattle.std.proofs.lemmas.Option.{slice_get-get_or}
use Rattle.row_model.specs.Table.{RowMap}
use Rattle.type_rows.specs.Patches.{patch_layout}
use Rattle.type_state.specs.State.{Half}
use Rattle.type_state.specs.Views.{table_of}
use Rattle.delta_blob.specs.declared.patch.PatchPart.{PatchPart}
use Rattle.state_moves.specs.Judged.{moved_table}
use Rattle.state_moves.proofs.Moves.{set_other, set_same}

-- the half of a type that a part moves to these rows
abbrev pub half_by : PatchPart → RowMap → Half
half_by part rows = record { layout = patch_layout part.section; rows = rows }

-- The halves, with other ones for the types that some parts name.
unfoldable pub moved_halves : List Half → List PatchPart → List RowMap → List Half
moved_halves halves (part ∷ parts) (rows ∷ more) = moved_halves (set halves part.type_index (half_by part rows)) parts more
moved_halves halves _ _ = halves

-- their rows
pub halves_table : (halves : List Half) (parts : List PatchPart) (rows : List RowMap) → table_of (moved_halves halves parts rows) ≡ moved_table (table_of halves) parts rows
unfolding moved_halves moved_table
halves_table halves [] rows = refl
halves_table halves (part ∷ parts) [] = refl
halves_table halves (part ∷ parts) (r ∷ rows) =
    halves_table (set halves part.type_index (half_by part r)) parts rows
    ∙ ap (λ table. moved_table table parts rows) (map-set (λ (half : Half). half.rows) halves part.type_index (half_by part r))

-- as many as before
pub moved_long : (halves : List Half) (parts : List PatchPart) (rows : List RowMap) → length (moved_halves halves parts rows) ≡ length halves
unfolding moved_halves
moved_long halves [] rows = refl
moved_long halves (part ∷ parts) [] = refl
moved_long halves (part ∷ parts) (r ∷ rows) = moved_long (set halves part.type_index (half_by part r)) parts rows ∙ length-set halves part.type_index (half_by part r)

-- No part is of this type.
abbrev pub IsOther : ℕ → PatchPart → Type 0
IsOther t part = part.type_index ≡ t → ⊥

-- a type that no part names keeps its half
pub half_stays : (halves : List Half) (parts : List PatchPart) (rows : List RowMap) (t : ℕ) → All (IsOther t) parts → slice_get (moved_halves halves parts rows) t ≡ slice_get halves t
unfolding moved_halves
half_stays halves [] rows t none = refl
half_stays halves (part ∷ parts) [] t none = refl
half_stays halves (part ∷ parts) (r ∷ rows) t none =
    half_stays (set halves part.type_index (half_by part r)) parts rows t (All-tail (IsOther t) part parts none)
    ∙ set_other halves part.type_index t (half_by part r) (All-head (IsOther t) part parts none)

-- No two parts are of one type.
abbrev pub AreApart : List PatchPart → Type 0
AreApart parts = (i j : ℕ) (a b : PatchPart) → slice_get parts i ≡ Some a → slice_get parts j ≡ Some b → a.type_index ≡ b.type_index → i ≡ j

-- nor are those behind the first
apart_behind : (part : PatchPart) (parts : List PatchPart) → AreApart (part ∷ parts) → AreApart parts
apart_behind part parts apart i j a b one other same = let is = apart (suc i) (suc j) a b one other same in omega (arith, is)

none_behind : (part : PatchPart) (parts : List PatchPart) → AreApart (part ∷ parts) → All (IsOther part.type_index) parts
none_behind part parts apart k d inside same =
    let is = apart (suc k) 0 (get_or parts k d) part (slice_get-get_or parts k d inside) refl same in omega (arith, is)

-- a type that a part names has the half of the part
pub half_there : (halves : List Half) (parts : List PatchPart) (rows : List RowMap) (k : ℕ) (part : PatchPart) (r : RowMap) → AreApart parts → slice_get parts k ≡ Some part → slice_get rows k ≡ Some r
    → part.type_index < length halves → slice_get (moved_halves halves parts rows) part.type_index ≡ Some (half_by part r)
unfolding moved_halves
half_there halves [] rows k part r apart at there inside = absurd cc
half_there halves (p ∷ parts) [] k part r apart at there inside = absurd cc
half_there halves (p ∷ parts) (w ∷ rows) zero part r apart at there inside =
    let same : p ≡ part = cc in
    let alike : w ≡ r = cc in
    let within : p.type_index < length halves = subst (λ (x : PatchPart). x.type_index < length halves) (sym same) inside in
    let here : slice_get (moved_halves (set halves p.type_index (half_by p w)) parts rows) p.type_index ≡ Some (half_by p w) =
    half_stays (set halves p.type_index (half_by p w)) parts rows p.type_index (none_behind p parts apart) ∙ set_same halves p.type_index (half_by p w) within in
    subst (λ (x : PatchPart). slice_get (moved_halves (set halves p.type_index (half_by p w)) parts rows) x.type_index ≡ Some (half_by x r)) same
    (subst (λ (x : RowMap). slice_get (moved_halves (set halves p.type_index (half_by p w)) parts rows) p.type_index ≡ Some (half_by p x)) alike here)
half_there halves (p ∷ parts) (w ∷ rows) (suc k) part r apart at there inside =
    half_there (set halves p.type_index (half_by p w)) parts rows k part r (apart_behind p parts apart) at there
    (subst (λ (n : ℕ). part.type_index < n) (sym (length-set halves p.type_index (half_by p w))) inside)

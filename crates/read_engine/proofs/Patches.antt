-- The parts of a patch and the types that they move: which patch a step took.
use Rattle.std.proofs.Common.{◌≡◌, ◌<◌, ◌≤◌, ℕ, zero, suc, Bool, false, true, List, [], ◌∷◌, length, get_or, map, Option, Some, refl, sym, ap, ◌∙◌, subst, arith}
use Rattle.std.specs.Prelude.{All, slice_get, unwrap_or}
use Rattle.std.specs.List.{AllZip}
use Rattle.std.specs.Ordering.{nat_cmp}
use Rattle.std.specs.FinMap.{empty}
use Rattle.std.specs.Option.{option_map}
use Rattle.std.proofs.lemmas.List.Elements.{All-cons, All-head, All-nil, All-tail}
use Rattle.std.proofs.lemmas.List.{length-map}
use Rattle.std.proofs.lemmas.Option.{slice_get-map, slice_get_within, slice_get-get_or, get_or_from_slice_get}
use Rattle.schema_model.specs.declared.model.rule.Rule.TheVariants.{DuplicateName}
use Rattle.schema_model.specs.declared.schema.Schema.{Schema}
use Rattle.schema_model.specs.declared.schema.Shape.{Shape}
use Rattle.schema_model.specs.declared.limit.Limit.TheVariants.{Ordinals}
use Rattle.schema_model.specs.Limit.{number_of_limit}
use Rattle.schema_model.specs.Model.{IsKept}
use Rattle.row_model.specs.Table.{IsClosed, RowMap, Table}
use Rattle.row_model.specs.BothStates.{rows_in}
use Rattle.type_rows.specs.Holds.{Holds, KeepsLimits}
use Rattle.type_rows.specs.Layout.{Layout, places_of}
use Rattle.type_rows.specs.Patches.{AddsRows, FitsOrdinals, MovesRows, patch_layout}
use Rattle.type_state.specs.State.{Half, State}
use Rattle.type_state.specs.Views.{table_of}
use Rattle.seen_patches.proofs.Patched.{ordinals_kept}
use Rattle.delta_blob.specs.declared.part.DeltaPart.{DeltaPart}
use Rattle.delta_blob.specs.declared.patch.PatchPart.{PatchPart}
use Rattle.delta_blob.specs.Fits.{Fits, FitsTable, HoldsTable}
use Rattle.delta_blob.specs.Moved.{EachNamed, IsUnnamed, Moved, MovesType}
use Rattle.delta_blob.specs.Patch.{PartIs, SeesParts, TypePatch, parts_for}
use Rattle.delta_blob.specs.Reads.{AreOfModel, IsOfModel, KeepsCounts}
use Rattle.delta_blob.specs.Within.{IsTypeWithin, Within}
use Rattle.row_model.specs.Before.{PastPart, no_part}
use Rattle.state_moves.specs.Moving.{AreMoved, MovesState, TypeIs, coming_half, coming_halves}
use Rattle.state_moves.specs.Halves.{current_halves}
use Rattle.read_engine.specs.Taking.{layout_at}
use Rattle.delta_blob.proofs.GivenParts.{IsGivenPart}
use Rattle.delta_blob.proofs.Meant.{all_at}
use Rattle.delta_blob.proofs.SeenParts.{IsPlainPart, one_name, part_is, patch_of_rows, there_apart, there_plain}
use Rattle.state_moves.proofs.Changed.{comes_named, comes_unnamed, coming_long, state_there, zip_from}
use Rattle.state_moves.proofs.Comings.{coming_at, half_at}
use Rattle.state_moves.proofs.Tables.{current_at}

pub rows_at : (table : Table) (t : ℕ) (rows : RowMap) → slice_get table t ≡ Some rows → rows_in table t ≡ rows
rows_at table t rows is = ap (λ (o : Option RowMap). unwrap_or o (empty {R = nat_cmp})) is

-- what stands beside one
pub zip_at : {A B : Type 0} (R : A → B → Type 0) (xs : List A) (ys : List B) → AllZip R xs ys → (k : ℕ) (y : B) → slice_get ys k ≡ Some y → (x : A) × (slice_get xs k ≡ Some x) × R x y
zip_at R [] [] all k y is = absurd cc
zip_at R (x ∷ xs) [] all k y is = absurd all
zip_at R [] (w ∷ ys) all k y is = absurd all
zip_at R (x ∷ xs) (w ∷ ys) all zero y is = let same : w ≡ y = cc in (x, refl, subst (R x) same all.0)
zip_at R (x ∷ xs) (w ∷ ys) all (suc k) y is = zip_at R xs ys all.1 k y is

zipped_long : {A B : Type 0} (R : A → B → Type 0) (xs : List A) (ys : List B) → AllZip R xs ys → length ys ≡ length xs
zipped_long R [] [] all = refl
zipped_long R (x ∷ xs) (y ∷ ys) all = let rest = zipped_long R xs ys all.1 in omega arith
zipped_long R [] (y ∷ ys) all = absurd all
zipped_long R (x ∷ xs) [] all = absurd all

some_schema : Schema
some_schema = record { name = []; shape = Shape.Set [] }

-- ---- what a step took

module _ (schemas : List Schema) (mid : List State) (flags : List Bool) (past : List PastPart) (named : List PatchPart) (parts : List DeltaPart) (apart : IsKept schemas DuplicateName) (of : AreOfModel schemas parts named)
    (moved : AreMoved named mid flags past) (are : map (λ (s : State). s.schema) mid ≡ schemas) (given : All IsGivenPart parts) where
  -- the parts of the types that the model has
  abbrev pub known : List DeltaPart
  known = parts_for schemas parts

  plain_at : (k : ℕ) (d : DeltaPart) → slice_get known k ≡ Some d → IsPlainPart d
  plain_at k d at = all_at IsPlainPart known k d (there_plain schemas parts of.once given) at

  abbrev pub old : Table
  old = table_of (current_halves mid)

  abbrev pub new : Table
  new = table_of (coming_halves mid flags)

  -- no two parts are of one type
  pub one_place : (i j : ℕ) (a b : PatchPart) → slice_get named i ≡ Some a → slice_get named j ≡ Some b → a.type_index ≡ b.type_index → i ≡ j
  one_place i j a b one other same =
      let (c, at_c, is_c) = zip_at (IsOfModel schemas) known named of.each i a one in
      let (d, at_d, is_d) = zip_at (IsOfModel schemas) known named of.each j b other in
      there_apart schemas parts of.once i j c d at_c at_d (one_name schemas c.schema d.schema is_c.mine is_d.mine a.type_index b.type_index same is_c.means is_d.means)

  -- What one part did.
  pub record PatchOf (part : DeltaPart) (t : ℕ) (patch : TypePatch) : Type 0 where
    pub is : PartIs schemas part patch
    pub index : patch.type_index ≡ t
    pub fits : FitsTable old patch.type_index patch
    pub holds : HoldsTable new patch.type_index patch
    pub moves : MovesType old new patch.type_index patch
    pub within : IsTypeWithin new patch.type_index patch
    pub layout : layout_at (coming_halves mid flags) patch.type_index ≡ Some patch.layout

  -- whether a type is named, and what is kept of it
  module _ (t : ℕ) (state : State) (there : slice_get mid t ≡ Some state) where
    flag_there : slice_get flags t ≡ Some (get_or flags t false)
    flag_there = slice_get-get_or flags t false (omega (arith, slice_get_within mid t state there, moved.named_long))

    type_is : TypeIs named t state (get_or flags t false) (get_or past t no_part)
    type_is = moved.types t state (get_or flags t false) (get_or past t no_part) there flag_there (slice_get-get_or past t no_part (omega (arith, slice_get_within mid t state there, moved.past_long)))

  -- What a part did to a type.
  pub record MovedBy (n : PatchPart) (d : DeltaPart) (is : IsOfModel schemas d n) : Type 0 where
    pub state : State
    pub flag : Bool
    pub part : PastPart
    pub there : slice_get mid n.type_index ≡ Some state
    pub flagged : slice_get flags n.type_index ≡ Some flag
    pub is_named : flag ≡ true
    pub schema : state.schema ≡ is.mine
    pub moves : MovesState n.section state part

  -- the type that a part moved
  moved_by : (k : ℕ) (d : DeltaPart) (n : PatchPart) → slice_get named k ≡ Some n → (is : IsOfModel schemas d n) → MovedBy n d is
  moved_by k d n at is =
      let (state, there, schema) = state_there mid schemas n.type_index is.mine are is.means.stands in
      by_type state (get_or flags n.type_index false) (get_or past n.type_index no_part) there (flag_there n.type_index state there) schema (type_is n.type_index state there)
    where
      by_type : (state : State) (flag : Bool) (part : PastPart) → slice_get mid n.type_index ≡ Some state → slice_get flags n.type_index ≡ Some flag → state.schema ≡ is.mine → TypeIs named n.type_index state flag part → MovedBy n d is
      by_type state flag part there flagged schema (TypeIs.Unnamed unnamed none all) =
          absurd (subst (λ (p : PatchPart). p.type_index ≡ n.type_index → ⊥) (get_or_from_slice_get named k n n at) (all k n (slice_get_within named k n at)) refl)
      by_type state flag part there flagged schema (TypeIs.Named is_named place other at_place same moves) =
          let here : place ≡ k = one_place place k other n at_place at same in
          let alike : Some other ≡ Some n = sym at_place ∙ ap (slice_get named) here ∙ at in
          let is_same : other ≡ n = cc in
          record {
            state = state;
            flag = flag;
            part = part;
            there = there;
            flagged = flagged;
            is_named = is_named;
            schema = schema;
            moves = subst (λ (p : PatchPart). MovesState p.section state part) is_same moves;
          }

  patch_at : (k : ℕ) (d : DeltaPart) (n : PatchPart) → slice_get known k ≡ Some d → slice_get named k ≡ Some n → IsOfModel schemas d n → (patch : TypePatch) × PatchOf d n.type_index patch
  patch_at k d n at_d at is =
      let by : MovedBy n d is = moved_by k d n at is in
      let state : State = by.state in
      let flag : Bool = by.flag in
      let there : slice_get mid n.type_index ≡ Some state = by.there in
      let flagged : slice_get flags n.type_index ≡ Some flag = by.flagged in
      let schema : state.schema ≡ is.mine = by.schema in
      let moves : MovesState n.section state by.part = by.moves in
      let rows = moves.moved.added in
      let layout : Layout = patch_layout n.section in
      let was : rows_in old n.type_index ≡ state.current.rows = rows_at old n.type_index state.current.rows (current_at mid n.type_index state there) in
      let half : coming_half state flag ≡ state.other = comes_named state flag by.is_named in
      let is_new : rows_in new n.type_index ≡ state.other.rows = rows_at new n.type_index (coming_half state flag).rows (coming_at mid flags n.type_index state flag there flagged) ∙ ap (λ (h : Half). h.rows) half in
      let max : n.section.max ≡ d.section.max = (ordinals_kept is.mine.shape d.schema.shape d.section n.section is.section).max in (
        patch_of_rows schemas d (plain_at k d at_d) n is rows,
        record {
          is = part_is schemas d (plain_at k d at_d) n is rows (subst (λ (s : Schema). AddsRows s.shape n.section rows) schema moves.moved.adds);
          index = refl;
          fits = subst (λ (r : RowMap). FitsOrdinals r layout n.section.removed n.section.added) (sym was) moves.moved.ordinals;
          holds = subst (λ (s : Schema). Holds s.shape layout (rows_in new n.type_index)) schema (subst (Holds state.schema.shape layout) (sym is_new) moves.moved.held);
          moves = subst (λ (r : RowMap). MovesRows r (rows_in new n.type_index) n.section.removed n.section.added rows) (sym was) (subst (λ (r : RowMap). MovesRows state.current.rows r n.section.removed n.section.added rows) (sym is_new) moves.moved.moves);
          within = record {
            ordinals = subst (λ (m : Option ℕ). places_of m ≤ number_of_limit Ordinals) (sym max) (all_at KeepsCounts known k d of.counts at_d).ordinals;
            kept = subst (λ (s : Schema). KeepsLimits s.shape n.section.own layout (rows_in new n.type_index)) schema (subst (KeepsLimits state.schema.shape n.section.own layout) (sym is_new) moves.moved.within);
          };
          layout = ap (option_map (λ (h : Half). h.layout)) (half_at mid flags n.type_index state flag there flagged) ∙ ap (λ (h : Half). Some h.layout) half ∙ ap Some moves.layout;
        },
      )

  -- each part has its patch
  abbrev pub Chosen : DeltaPart → PatchPart → Type 0
  Chosen d n = (patch : TypePatch) × PatchOf d n.type_index patch

  all_chosen : AllZip Chosen known named
  all_chosen = zip_from Chosen known named (zipped_long (IsOfModel schemas) known named of.each) (λ k d n at_d at. patch_at k d n at_d at (beside k d n at_d at))
    where
      beside : (k : ℕ) (d : DeltaPart) (n : PatchPart) → slice_get known k ≡ Some d → slice_get named k ≡ Some n → IsOfModel schemas d n
      beside k d n at_d at =
          let (other, at_other, is) = zip_at (IsOfModel schemas) known named of.each k n at in
          let alike : Some other ≡ Some d = sym at_other ∙ at_d in
          let same : other ≡ d = cc in
          subst (λ (p : DeltaPart). IsOfModel schemas p n) same is

  -- the patches of some parts
  unfoldable pub patches : (ds : List DeltaPart) (ns : List PatchPart) → AllZip Chosen ds ns → List TypePatch
  patches [] [] all = []
  patches [] (n ∷ ns) all = []
  patches (d ∷ ds) [] all = []
  patches (d ∷ ds) (n ∷ ns) all = all.0.0 ∷ patches ds ns all.1

  parts_are : (ds : List DeltaPart) (ns : List PatchPart) (all : AllZip Chosen ds ns) → AllZip (PartIs schemas) ds (patches ds ns all)
  unfolding patches
  parts_are [] [] all = tt
  parts_are [] (n ∷ ns) all = absurd all
  parts_are (d ∷ ds) [] all = absurd all
  parts_are (d ∷ ds) (n ∷ ns) all = (all.0.1.is, parts_are ds ns all.1)

  each_named : (Q : ℕ → TypePatch → Type 0) → ((d : DeltaPart) (t : ℕ) (p : TypePatch) → PatchOf d t p → Q p.type_index p) → (ds : List DeltaPart) (ns : List PatchPart) (all : AllZip Chosen ds ns) → EachNamed (patches ds ns all) Q
  unfolding patches
  each_named Q gives [] [] all = All-nil (λ p. Q p.type_index p)
  each_named Q gives [] (n ∷ ns) all = absurd all
  each_named Q gives (d ∷ ds) [] all = absurd all
  each_named Q gives (d ∷ ds) (n ∷ ns) all =
      All-cons (λ p. Q p.type_index p) all.0.0 (patches ds ns all.1) (gives d n.type_index all.0.0 all.0.1) (each_named Q gives ds ns all.1)

  none_named : (t : ℕ) (ds : List DeltaPart) (ns : List PatchPart) (all : AllZip Chosen ds ns) → IsUnnamed (patches ds ns all) t → All (λ n. n.type_index ≡ t → ⊥) ns
  unfolding patches
  none_named t [] [] all none = All-nil (λ n. n.type_index ≡ t → ⊥)
  none_named t [] (n ∷ ns) all none = absurd all
  none_named t (d ∷ ds) [] all none = absurd all
  none_named t (d ∷ ds) (n ∷ ns) all none =
      All-cons (λ n. n.type_index ≡ t → ⊥) n ns
      (λ same. All-head (λ p. p.type_index ≡ t → ⊥) all.0.0 (patches ds ns all.1) none (all.0.1.index ∙ same))
      (none_named t ds ns all.1 (All-tail (λ p. p.type_index ≡ t → ⊥) all.0.0 (patches ds ns all.1) none))

  pub patch : List TypePatch
  patch = patches known named all_chosen

  pub is_patch : SeesParts schemas parts patch
  unfolding patch
  is_patch = parts_are known named all_chosen

  pub each_of_patch : (Q : ℕ → TypePatch → Type 0) → ((d : DeltaPart) (t : ℕ) (p : TypePatch) → PatchOf d t p → Q p.type_index p) → EachNamed patch Q
  unfolding patch
  each_of_patch Q gives = each_named Q gives known named all_chosen

  -- a type that the patch does not name keeps its half
  pub half_stays : (t : ℕ) → t < length schemas → IsUnnamed patch t → slice_get (coming_halves mid flags) t ≡ slice_get (current_halves mid) t
  unfolding patch
  half_stays t inside none =
      let (state, there, same) = state_there mid schemas t (get_or schemas t some_schema) are (slice_get-get_or schemas t some_schema inside) in
      half_at mid flags t state (get_or flags t false) there (flag_there t state there)
      ∙ ap Some (by_type state (get_or flags t false) (get_or past t no_part) (type_is t state there))
      ∙ sym (slice_get-map (λ (s : State). s.current) mid t ∙ ap (option_map (λ (s : State). s.current)) there)
    where
      none_of : All (λ n. n.type_index ≡ t → ⊥) named
      none_of = none_named t known named all_chosen none

      by_type : (state : State) (flag : Bool) (part : PastPart) → TypeIs named t state flag part → coming_half state flag ≡ state.current
      by_type state flag part (TypeIs.Unnamed unnamed none all) = comes_unnamed state flag unnamed
      by_type state flag part (TypeIs.Named is_named place n at same moves) =
          absurd (subst (λ (p : PatchPart). p.type_index ≡ t → ⊥) (get_or_from_slice_get named place n n at) (none_of place n (slice_get_within named place n at)) same)

  old_long : length old ≡ length schemas
  old_long = length-map (current_halves mid) (λ (h : Half). h.rows) ∙ length-map mid (λ (s : State). s.current) ∙ sym (length-map mid (λ (s : State). s.schema)) ∙ ap (λ (ss : List Schema). length ss) are

  pub moves_patch : Moved patch old new
  moves_patch = record {
    types = coming_long mid flags moved.named_long ∙ sym (length-map mid (λ (s : State). s.current)) ∙ sym (length-map (current_halves mid) (λ (h : Half). h.rows));
    named = each_of_patch (MovesType old new) (λ d t p of_part. of_part.moves);
    others = λ t inside none. ap (λ (o : Option RowMap). unwrap_or o (empty {R = nat_cmp}))
        (slice_get-map (λ (h : Half). h.rows) (coming_halves mid flags) t ∙ ap (option_map (λ (h : Half). h.rows)) (half_stays t (subst (λ (n : ℕ). t < n) old_long inside) none) ∙ sym (slice_get-map (λ (h : Half). h.rows) (current_halves mid) t));
  }

  pub within_patch : Within new patch
  within_patch = each_of_patch (IsTypeWithin new) (λ d t p of_part. of_part.within)

  pub layouts_of_patch : EachNamed patch (λ t p. layout_at (coming_halves mid flags) t ≡ Some p.layout)
  layouts_of_patch = each_of_patch (λ t p. layout_at (coming_halves mid flags) t ≡ Some p.layout) (λ d t p of_part. of_part.layout)

  pub other_layouts : (t : ℕ) → t < length schemas → IsUnnamed patch t → layout_at (coming_halves mid flags) t ≡ layout_at (current_halves mid) t
  other_layouts t inside none = ap (option_map (λ (h : Half). h.layout)) (half_stays t inside none)

  pub fits_patch : IsClosed schemas new → Fits schemas old patch
  fits_patch closed = record {
    ordinals = each_of_patch (FitsTable old) (λ d t p of_part. of_part.fits);
    moved = new;
    moves = moves_patch;
    closed = closed;
    held = each_of_patch (HoldsTable new) (λ d t p of_part. of_part.holds);
  }

-- Which patch the parts of a delta are that move the rows of a position, and where it leads.
use Rattle.std.proofs.Common.{◌≡◌, ◌<◌, ◌≤◌, ℕ, List, [], ◌∷◌, length, Option, Some, refl, sym, ap, ◌∙◌, subst, arith}
use Rattle.std.specs.Prelude.{All, slice_get, unwrap_or}
use Rattle.std.specs.List.{AllZip}
use Rattle.std.specs.Ordering.{nat_cmp}
use Rattle.std.specs.FinMap.{empty}
use Rattle.std.specs.Option.{option_map}
use Rattle.std.proofs.lemmas.List.{length-map}
use Rattle.std.proofs.lemmas.List.Elements.{All-cons, All-head, All-nil, All-tail}
use Rattle.std.proofs.lemmas.Option.{slice_get-map, slice_get_within}
use Rattle.std.proofs.lemmas.Slice.Zip.{AllZip-long}
use Rattle.schema_model.specs.declared.limit.Limit.TheVariants.{Ordinals}
use Rattle.schema_model.specs.declared.schema.Schema.{Schema}
use Rattle.schema_model.specs.Limit.{number_of_limit}
use Rattle.row_model.specs.BothStates.{rows_in}
use Rattle.row_model.specs.Table.{IsClosed, RowMap, Table}
use Rattle.type_rows.specs.Holds.{Holds, KeepsLimits}
use Rattle.type_rows.specs.Layout.{places_of}
use Rattle.type_rows.specs.Patches.{AddsRows, IsMovedBy, MovesRows, patch_layout}
use Rattle.seen_patches.proofs.Patched.{ordinals_kept}
use Rattle.type_state.specs.State.{Half}
use Rattle.type_state.specs.Views.{table_of}
use Rattle.type_rows.proofs.OnceFirst.{some_once}
use Rattle.delta_blob.specs.declared.part.DeltaPart.{DeltaPart}
use Rattle.delta_blob.specs.declared.patch.PatchPart.{PatchPart}
use Rattle.delta_blob.specs.Fits.{Fits, FitsTable, HoldsTable}
use Rattle.delta_blob.specs.Moved.{EachNamed, IsUnnamed, Moved, MovesType}
use Rattle.delta_blob.specs.Patch.{PartIs, SeesParts, TypePatch, parts_for}
use Rattle.delta_blob.specs.Reads.{AreOfModel, IsOfModel, KeepsCounts}
use Rattle.delta_blob.specs.Within.{IsTypeWithin, Within}
use Rattle.delta_blob.proofs.GivenParts.{IsGivenPart}
use Rattle.delta_blob.proofs.Indexed.{zip_at, zip_beside}
use Rattle.delta_blob.proofs.Meant.{all_at}
use Rattle.delta_blob.proofs.SeenParts.{IsPlainPart, one_name, part_is, patch_of_rows, there_apart, there_plain}
use Rattle.state_moves.proofs.Changed.{zip_from}
use Rattle.read_engine.specs.Taking.{layout_at}
use Rattle.step_laws.proofs.MovedHalves.{AreApart, IsOther, half_by, half_stays, half_there, moved_halves, moved_long}
use Rattle.step_laws.proofs.Passing.{IsPartMoved}

rows_at : (halves : List Half) (t : ℕ) (half : Half) → slice_get halves t ≡ Some half → rows_in (table_of halves) t ≡ half.rows
rows_at halves t half is =
    ap (λ (o : Option RowMap). unwrap_or o (empty {R = nat_cmp})) (slice_get-map (λ (h : Half). h.rows) halves t ∙ ap (option_map (λ (h : Half). h.rows)) is)

module _ (schemas : List Schema) (halves : List Half) (long : length halves ≡ length schemas) (parts : List DeltaPart) (named : List PatchPart) (of : AreOfModel schemas parts named) (given : All IsGivenPart parts) (rows : List RowMap)
    (each : AllZip (IsPartMoved schemas (table_of halves)) named rows) where
  abbrev pub old : Table
  old = table_of halves

  abbrev pub coming : List Half
  coming = moved_halves halves named rows

  abbrev pub new : Table
  new = table_of coming

  -- the parts of the types that the model has
  abbrev pub known : List DeltaPart
  known = parts_for schemas parts

  plain_at : (k : ℕ) (d : DeltaPart) → slice_get known k ≡ Some d → IsPlainPart d
  plain_at k d at = all_at IsPlainPart known k d (there_plain schemas parts of.once given) at

  -- no two parts are of one type
  parts_apart : AreApart named
  parts_apart i j a b one other same =
      let (c, at_c, is_c) = zip_beside (IsOfModel schemas) known named i a of.each one in
      let (d, at_d, is_d) = zip_beside (IsOfModel schemas) known named j b of.each other in
      there_apart schemas parts of.once i j c d at_c at_d (one_name schemas c.schema d.schema is_c.mine is_d.mine a.type_index b.type_index same is_c.means is_d.means)

  -- What one part did.
  pub record PatchOf (part : DeltaPart) (t : ℕ) (patch : TypePatch) : Type 0 where
    pub is : PartIs schemas part patch
    pub index : patch.type_index ≡ t
    pub fits : FitsTable old patch.type_index patch
    pub holds : HoldsTable new patch.type_index patch
    pub moves : MovesType old new patch.type_index patch
    pub within : IsTypeWithin new patch.type_index patch
    pub layout : layout_at coming patch.type_index ≡ Some patch.layout

  patch_by : (k : ℕ) (d : DeltaPart) (n : PatchPart) (r : RowMap) (schema : Schema) → slice_get known k ≡ Some d → slice_get named k ≡ Some n → IsOfModel schemas d n → slice_get rows k ≡ Some r
      → slice_get schemas n.type_index ≡ Some schema → IsMovedBy schema.shape n.section (rows_in old n.type_index) r → (patch : TypePatch) × PatchOf d n.type_index patch
  patch_by k d n r schema at_d at is at_r there moved =
      let mine = is.mine in
      let plain = plain_at k d at_d in
      let same : schema ≡ mine = some_once schema mine (sym there ∙ is.means.stands) in
      let inside : n.type_index < length halves = omega (arith, slice_get_within schemas n.type_index mine is.means.stands, long) in
      let half : slice_get coming n.type_index ≡ Some (half_by n r) = half_there halves named rows k n r parts_apart at at_r inside in
      let are : rows_in new n.type_index ≡ r = rows_at coming n.type_index (half_by n r) half in
      let section = n.section in
      let keeps : KeepsCounts d = all_at KeepsCounts known k d of.counts at_d in
      let ordinals = ordinals_kept mine.shape d.schema.shape d.section section is.section in (
        patch_of_rows schemas d plain n is moved.added,
        record {
          is = part_is schemas d plain n is moved.added (subst (λ (s : Schema). AddsRows s.shape section moved.added) same moved.adds);
          index = refl;
          fits = moved.ordinals;
          holds = subst (Holds mine.shape (patch_layout section)) (sym are) (subst (λ (s : Schema). Holds s.shape (patch_layout section) r) same moved.held);
          moves = subst (λ (x : RowMap). MovesRows (rows_in old n.type_index) x section.removed section.added moved.added) (sym are) moved.moves;
          within = record {
            ordinals = subst (λ (max : Option ℕ). places_of max ≤ number_of_limit Ordinals) (sym ordinals.max) keeps.ordinals;
            kept = subst (KeepsLimits mine.shape section.own (patch_layout section)) (sym are) (subst (λ (s : Schema). KeepsLimits s.shape section.own (patch_layout section) r) same moved.within);
          };
          layout = ap (option_map (λ (h : Half). h.layout)) half;
        },
      )

  -- each part has its patch
  abbrev pub Chosen : DeltaPart → PatchPart → Type 0
  Chosen d n = (patch : TypePatch) × PatchOf d n.type_index patch

  all_chosen : AllZip Chosen known named
  all_chosen = zip_from Chosen known named (AllZip-long (IsOfModel schemas) known named of.each) (λ k d n at_d at.
      let (other, at_other, is) = zip_at (IsOfModel schemas) known named k d of.each at_d in
      let alike : other ≡ n = some_once other n (sym at_other ∙ at) in
      let (r, at_r, moved) = zip_at (IsPartMoved schemas old) named rows k n each at in
      patch_by k d n r moved.0 at_d at (subst (IsOfModel schemas d) alike is) at_r moved.1 moved.2)

  -- the patches of some parts
  unfoldable pub patches : (ds : List DeltaPart) (ns : List PatchPart) → AllZip Chosen ds ns → List TypePatch
  patches [] [] all = []
  patches [] (n ∷ ns) all = []
  patches (d ∷ ds) [] all = []
  patches (d ∷ ds) (n ∷ ns) all = all.0.0 ∷ patches ds ns all.1

  parts_are : (ds : List DeltaPart) (ns : List PatchPart) (all : AllZip Chosen ds ns) → AllZip (PartIs schemas) ds (patches ds ns all)
  unfolding patches
  parts_are [] [] all = tt
  parts_are [] (n ∷ ns) all = absurd all
  parts_are (d ∷ ds) [] all = absurd all
  parts_are (d ∷ ds) (n ∷ ns) all = (all.0.1.is, parts_are ds ns all.1)

  each_named : (Q : ℕ → TypePatch → Type 0) → ((d : DeltaPart) (t : ℕ) (p : TypePatch) → PatchOf d t p → Q p.type_index p) → (ds : List DeltaPart) (ns : List PatchPart) (all : AllZip Chosen ds ns) → EachNamed (patches ds ns all) Q
  unfolding patches
  each_named Q gives [] [] all = All-nil (λ p. Q p.type_index p)
  each_named Q gives [] (n ∷ ns) all = absurd all
  each_named Q gives (d ∷ ds) [] all = absurd all
  each_named Q gives (d ∷ ds) (n ∷ ns) all =
      All-cons (λ p. Q p.type_index p) all.0.0 (patches ds ns all.1) (gives d n.type_index all.0.0 all.0.1) (each_named Q gives ds ns all.1)

  none_named : (t : ℕ) (ds : List DeltaPart) (ns : List PatchPart) (all : AllZip Chosen ds ns) → IsUnnamed (patches ds ns all) t → All (IsOther t) ns
  unfolding patches
  none_named t [] [] all none = All-nil (IsOther t)
  none_named t [] (n ∷ ns) all none = absurd all
  none_named t (d ∷ ds) [] all none = absurd all
  none_named t (d ∷ ds) (n ∷ ns) all none =
      All-cons (IsOther t) n ns (λ same. All-head (λ p. p.type_index ≡ t → ⊥) all.0.0 (patches ds ns all.1) none (all.0.1.index ∙ same))
      (none_named t ds ns all.1 (All-tail (λ p. p.type_index ≡ t → ⊥) all.0.0 (patches ds ns all.1) none))

  pub patch : List TypePatch
  patch = patches known named all_chosen

  pub is_patch : SeesParts schemas parts patch
  unfolding patch
  is_patch = parts_are known named all_chosen

  each_of_patch : (Q : ℕ → TypePatch → Type 0) → ((d : DeltaPart) (t : ℕ) (p : TypePatch) → PatchOf d t p → Q p.type_index p) → EachNamed patch Q
  unfolding patch
  each_of_patch Q gives = each_named Q gives known named all_chosen

  -- a type that the patch does not name keeps its half
  stays : (t : ℕ) → IsUnnamed patch t → slice_get coming t ≡ slice_get halves t
  unfolding patch
  stays t none = half_stays halves named rows t (none_named t known named all_chosen none)

  pub moves_patch : Moved patch old new
  moves_patch = record {
    types = length-map coming (λ (h : Half). h.rows) ∙ moved_long halves named rows ∙ sym (length-map halves (λ (h : Half). h.rows));
    named = each_of_patch (MovesType old new) (λ d t p of_part. of_part.moves);
    others = λ t inside none. ap (λ (o : Option RowMap). unwrap_or o (empty {R = nat_cmp}))
        (slice_get-map (λ (h : Half). h.rows) coming t ∙ ap (option_map (λ (h : Half). h.rows)) (stays t none) ∙ sym (slice_get-map (λ (h : Half). h.rows) halves t));
  }

  pub within_patch : Within new patch
  within_patch = each_of_patch (IsTypeWithin new) (λ d t p of_part. of_part.within)

  pub layouts_of_patch : EachNamed patch (λ t p. layout_at coming t ≡ Some p.layout)
  layouts_of_patch = each_of_patch (λ t p. layout_at coming t ≡ Some p.layout) (λ d t p of_part. of_part.layout)

  pub other_layouts : (t : ℕ) → IsUnnamed patch t → layout_at coming t ≡ layout_at halves t
  other_layouts t none = ap (option_map (λ (h : Half). h.layout)) (stays t none)

  pub fits_patch : IsClosed schemas new → Fits schemas old patch
  fits_patch closed = record {
    ordinals = each_of_patch (FitsTable old) (λ d t p of_part. of_part.fits);
    moved = new;
    moves = moves_patch;
    closed = closed;
    held = each_of_patch (HoldsTable new) (λ d t p of_part. of_part.holds);
  }

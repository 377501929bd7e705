-- A blob that is loaded, or that moves a consumer, passes all that is tried of it, so that it has no fault.
use Rattle.std.proofs.Common.{◌≡◌, ◌<◌, ◌⊎◌, inl, inr, ℕ, suc, List, [], ◌∷◌, length, get_or, map, set, Bool, true, false, Some, refl, sym, ap, ◌∙◌, subst, arith, eqb}
use Rattle.std.specs.Prelude.{All, Contains, slice_get}
use Rattle.std.specs.List.{AllZip, list_any}
use Rattle.std.specs.Cmp.{nat_cmp_total}
use Rattle.std.specs.FinMap.{empty, get, nat_cmp-IsAntisymmetric, same_map}
use Rattle.std.specs.Ordering.{nat_cmp}
use Rattle.std.proofs.lemmas.Bool.{cases_eq, false≢true}
use Rattle.std.proofs.lemmas.Grind.{get_or-set_at}
use Rattle.std.proofs.lemmas.List.{get_or-set_other, get_or_default, length-set}
use Rattle.std.proofs.lemmas.List.Elements.{All-cons, All-nil}
use Rattle.std.proofs.lemmas.Option.{get_or_from_slice_get, slice_get-get_or, slice_get_within, unwrap_or-slice_get}
use Rattle.schema_model.specs.declared.model.rule.Rule.TheVariants.{DuplicateName}
use Rattle.schema_model.specs.declared.schema.Schema.{Schema}
use Rattle.schema_model.specs.Model.{IsKept}
use Rattle.row_model.specs.declared.row.Row.{Row}
use Rattle.row_model.specs.Table.{RowMap, Table}
use Rattle.row_model.specs.BothStates.{rows_in}
use Rattle.type_rows.specs.Holds.{Holds, KeepsLimits}
use Rattle.type_rows.specs.Layout.{Layout}
use Rattle.type_rows.specs.Patches.{FitsOrdinals, IsMovedBy, MovesRows, patch_layout}
use Rattle.blob_frame.specs.declared.fault.BlobFault.{BlobFault}
use Rattle.blob_frame.specs.declared.header.Header.{Header}
use Rattle.blob_frame.specs.Header.{header, HeaderIs}
use Rattle.blob_faults.specs.Judge.{◌>>=◌, each_of, item_at, nothing}
use Rattle.blob_faults.specs.Reading.{standing}
use Rattle.blob_faults.specs.Rows.{moves}
use Rattle.blob_faults.proofs.EachOf.{map_passes}
use Rattle.snapshot_blob.specs.Judged.{snapshot_of}
use Rattle.snapshot_blob.proofs.Blamed.{accepted_or_fault}
use Rattle.delta_blob.specs.declared.part.DeltaPart.{DeltaPart}
use Rattle.delta_blob.specs.declared.patch.PatchPart.{PatchPart}
use Rattle.delta_blob.specs.Fits.{FitsTable, HoldsTable}
use Rattle.delta_blob.specs.Judged.{patch_of}
use Rattle.delta_blob.specs.Moved.{EachNamed, IsUnnamed, MovesType}
use Rattle.delta_blob.specs.Parts.{body}
use Rattle.delta_blob.specs.Patch.{PartIs, SeesParts, TypePatch, parts_for}
use Rattle.delta_blob.specs.Reads.{IsOfModel, IsPatchAt}
use Rattle.delta_blob.specs.Within.{IsTypeWithin}
use Rattle.delta_blob.proofs.DeltaTelling.{delta_passes}
use Rattle.delta_blob.proofs.GivenParts.{body_given}
use Rattle.delta_blob.proofs.Indexed.{zip_at, zip_beside}
use Rattle.delta_blob.proofs.JudgedTypes.{model_passes}
use Rattle.delta_blob.proofs.Meant.{all_at}
use Rattle.delta_blob.proofs.NamedParts.{stands_of_model}
use Rattle.delta_blob.proofs.SeenParts.{HasSeen, IsPlainPart, has_seen, there_plain}
use Rattle.delta_blob.proofs.WholeDeltas.{split}
use Rattle.state_moves.specs.Judged.{moved_table, part_moves}
use Rattle.state_moves.proofs.Changed.{any_place}
use Rattle.state_moves.proofs.Judging.{state_passes}
use Rattle.state_moves.proofs.PastRows.{any_at}
use Rattle.read_engine.specs.Judged.{step_of}
use Rattle.read_engine.specs.Position.{Position, rows_now}
use Rattle.read_engine.specs.Taking.{LoadsFrom, StepsBy}

-- ---- loads

pub loaded_or_fault : (blob : List ℕ) (position : Position) (found : BlobFault) → LoadsFrom blob position → (snapshot_of blob).Fails found → ⊥
loaded_or_fault blob position found (head, accepted, tag, before, bare, unwalked) = accepted_or_fault blob head position.schemas position.halves found accepted

-- ---- what a step moves

-- a number stands in a list, or does not
contained_or : (xs : List ℕ) (o : ℕ) → Contains xs o ⊎ (Contains xs o → ⊥)
contained_or xs o = by_test (list_any (λ n. eqb n o) xs) refl
  where
    by_test : (b : Bool) → list_any (λ n. eqb n o) xs ≡ b → Contains xs o ⊎ (Contains xs o → ⊥)
    by_test true is = let (k, inside, at) = any_place xs o is in inl (k, inside, get_or_default xs k o 0 inside ∙ at)
    by_test false is = inr (λ among. let (k, inside, at) = among in false≢true (sym is ∙ any_at xs o k inside (get_or_default xs k 0 o inside ∙ at)))

-- rows are moved to the same ones
pub one_move : (old a b : RowMap) (removed added : List ℕ) (rows : List Row) → MovesRows old a removed added rows → MovesRows old b removed added rows → a ≡ b
one_move old a b removed added rows one other = same_map nat_cmp_total nat_cmp-IsAntisymmetric a b row
  where
    row : (o : ℕ) → get a o ≡ get b o
    row o = elim (contained_or removed o) [
      | inl goes ↦ one.gone o goes ∙ sym (other.gone o goes)
      | inr stays ↦
          elim (contained_or added o) [
            | inl comes ↦
                let (k, within, same) = comes in
                let at = slice_get-get_or added k o within ∙ ap Some same in
                one.came k o at ∙ sym (other.came k o at)
            | inr old_one ↦ one.kept o stays old_one ∙ sym (other.kept o stays old_one)
          ]
    ]

pub same_tables : (a b : Table) → length a ≡ length b → ((t : ℕ) → t < length a → rows_in a t ≡ rows_in b t) → a ≡ b
same_tables [] [] long each = refl
same_tables [] (y ∷ ys) long each = absurd (omega (arith, long))
same_tables (x ∷ xs) [] long each = absurd (omega (arith, long))
same_tables (x ∷ xs) (y ∷ ys) long each =
    let one : x ≡ y = each 0 (omega arith) in
    let rest = same_tables xs ys (omega (arith, long)) (λ t inside. each (suc t) (omega (arith, inside))) in
    λ i. one i ∷ rest i

-- the rows of a type in a table with other rows for another one
rows_set : (table : Table) (u t : ℕ) (rows : RowMap) → t ≡ u → u < length table → rows_in (set table u rows) t ≡ rows
rows_set table u t rows here inside = unwrap_or-slice_get (set table u rows) t (empty {R = nat_cmp}) ∙ get_or-set_at table u t rows (empty {R = nat_cmp}) here inside

rows_beside : (table : Table) (u t : ℕ) (rows : RowMap) → (t ≡ u → ⊥) → rows_in (set table u rows) t ≡ rows_in table t
rows_beside table u t rows apart =
    unwrap_or-slice_get (set table u rows) t (empty {R = nat_cmp}) ∙ get_or-set_other table u t rows (empty {R = nat_cmp}) apart ∙ sym (unwrap_or-slice_get table t (empty {R = nat_cmp}))

moved_long : (table : Table) (parts : List PatchPart) (rows : List RowMap) → length (moved_table table parts rows) ≡ length table
unfolding moved_table
moved_long table [] rows = refl
moved_long table (part ∷ parts) [] = refl
moved_long table (part ∷ parts) (r ∷ rows) = moved_long (set table part.type_index r) parts rows ∙ length-set table part.type_index r

-- a table that some parts lead to has new rows in each type, where the types that no part names have them already
moved_rows : (new : ℕ → RowMap) (parts : List PatchPart) (table : Table) (t : ℕ) → t < length table → (All (λ part. part.type_index ≡ t → ⊥) parts → rows_in table t ≡ new t)
    → rows_in (moved_table table parts (map (λ part. new part.type_index) parts)) t ≡ new t
unfolding moved_table
moved_rows new [] table t inside others = others (All-nil (λ part. part.type_index ≡ t → ⊥))
moved_rows new (part ∷ parts) table t inside others =
    let u = part.type_index in
    let long = length-set table u (new u) in
    moved_rows new parts (set table u (new u)) t (omega (arith, inside, long)) (λ none. elim (cases_eq u t) [
      | inl here ↦ rows_set table u t (new u) (sym here) (omega (arith, inside, here)) ∙ ap new here
      | inr apart ↦ rows_beside table u t (new u) (λ same. apart (sym same)) ∙ others (All-cons (λ part. part.type_index ≡ t → ⊥) part parts apart none)
    ])

-- what holds of each type that a patch names
at_named : (patch : List TypePatch) (Q : ℕ → TypePatch → Type 0) (k t : ℕ) (p : TypePatch) → EachNamed patch Q → slice_get patch k ≡ Some p → p.type_index ≡ t → Q t p
at_named patch Q k t p each there is =
    subst (λ (u : ℕ). Q u p) is (subst (λ (q : TypePatch). Q q.type_index q) (get_or_from_slice_get patch k p p there) (each k p (slice_get_within patch k p there)))

module _ (blob : List ℕ) (n : ℕ) (head : Header) (named : List PatchPart) (from to : Position) (apart : IsKept from.schemas DuplicateName) (read : IsPatchAt blob n from.schemas named) (begins : HeaderIs blob n head) (steps : StepsBy blob from to) where
  same_parts : steps.is.parts ≡ read.0
  same_parts =
      let (m, other, stands) = split blob steps.is.head steps.is.parts (length blob) steps.is.items.items in
      let place = (header.decided.one blob 0 steps.is.head head m n other begins).1 in
      (body.decided.one blob n steps.is.parts read.0 (length blob) (length blob) (subst (λ (k : ℕ). body.Stands blob k steps.is.parts (length blob)) place stands) read.1).0

  -- the parts of the types that the model has
  abbrev known : List DeltaPart
  known = parts_for from.schemas read.0

  types : AllZip (PartIs from.schemas) known steps.patch
  types = subst (λ (ps : List DeltaPart). SeesParts from.schemas ps steps.patch) same_parts steps.is.sees

  plain_at : (k : ℕ) (d : DeltaPart) → slice_get known k ≡ Some d → IsPlainPart d
  plain_at k d at = all_at IsPlainPart known k d (there_plain from.schemas read.0 read.2.once (body_given blob n read.0 (length blob) read.1)) at

  module _ (k : ℕ) (part : PatchPart) (d : DeltaPart) (p : TypePatch) (plain : IsPlainPart d) (is_part : IsOfModel from.schemas d part) (is : PartIs from.schemas d p) (there : slice_get steps.patch k ≡ Some p) where
    has : HasSeen from.schemas d plain part is_part p
    has = has_seen from.schemas d plain part is_part apart p is

    abbrev pub t : ℕ
    t = part.type_index

    abbrev pub old : RowMap
    old = rows_in (rows_now from) t

    abbrev pub new : RowMap
    new = rows_in steps.fits.moved t

    at : p.type_index ≡ t
    at = has.index

    moves_here : MovesType (rows_now from) steps.fits.moved t p
    moves_here = at_named steps.patch (MovesType (rows_now from) steps.fits.moved) k t p steps.fits.moves.named there at

    moves_to : MovesType (rows_now from) (rows_now to) t p
    moves_to = at_named steps.patch (MovesType (rows_now from) (rows_now to)) k t p steps.moved.named there at

    same_rows : rows_in (rows_now to) t ≡ new
    same_rows = one_move old (rows_in (rows_now to) t) new p.removed p.added p.rows moves_to moves_here

    fit : FitsOrdinals old p.layout p.removed p.added
    fit = at_named steps.patch (FitsTable (rows_now from)) k t p steps.fits.ordinals there at

    holds : Holds p.schema.shape p.layout new
    holds = at_named steps.patch (HoldsTable steps.fits.moved) k t p steps.fits.held there at

    within : KeepsLimits p.schema.shape p.own p.layout (rows_in (rows_now to) t)
    within = (at_named steps.patch (IsTypeWithin (rows_now to)) k t p steps.within there at).kept

    -- the part moves the rows of its type
    pub moved_by : IsMovedBy is_part.mine.shape part.section old new
    moved_by = record {
      added = p.rows;
      adds = has.adds;
      ordinals = subst (λ (l : Layout). FitsOrdinals old l part.section.removed part.section.added) has.layout
          (subst (λ (os : List ℕ). FitsOrdinals old p.layout os part.section.added) has.removed (subst (λ (os : List ℕ). FitsOrdinals old p.layout p.removed os) has.added fit));
      moves = subst (λ (os : List ℕ). MovesRows old new os part.section.added p.rows) has.removed (subst (λ (os : List ℕ). MovesRows old new p.removed os p.rows) has.added moves_here);
      held = subst (λ (s : Schema). Holds s.shape (patch_layout part.section) new) has.schema (subst (λ (l : Layout). Holds p.schema.shape l new) has.layout holds);
      within = subst (λ (s : Schema). KeepsLimits s.shape part.section.own (patch_layout part.section) new) has.schema
          (subst (λ (n : ℕ). KeepsLimits p.schema.shape n (patch_layout part.section) new) has.own
          (subst (λ (l : Layout). KeepsLimits p.schema.shape p.own l new) has.layout (subst (KeepsLimits p.schema.shape p.own p.layout) same_rows within)));
    }

  -- so does each part
  pub each_moves : (k : ℕ) (part : PatchPart) → slice_get named k ≡ Some part → (schema : Schema) × (slice_get from.schemas part.type_index ≡ Some schema)
      × IsMovedBy schema.shape part.section (rows_in (rows_now from) part.type_index) (rows_in steps.fits.moved part.type_index)
  each_moves k part is =
      let (d, at_d, is_part) = zip_beside (IsOfModel from.schemas) known named k part read.2.each is in
      let (p, there, is_patch) = zip_at (PartIs from.schemas) known steps.patch k d types at_d in
      (is_part.mine, is_part.means.stands, moved_by k part d p (plain_at k d at_d) is_part is_patch there)

  -- a type that no part names is not named
  pub unnamed : (t : ℕ) → All (λ part. part.type_index ≡ t → ⊥) named → IsUnnamed steps.patch t
  unnamed t none k default inside =
      let p = get_or steps.patch k default in
      let there : slice_get steps.patch k ≡ Some p = slice_get-get_or steps.patch k default inside in
      let (d, at_d, is) = zip_beside (PartIs from.schemas) known steps.patch k p types there in
      let (part, at_part, is_part) = zip_at (IsOfModel from.schemas) known named k d read.2.each at_d in
      let index = (has_seen from.schemas d (plain_at k d at_d) part is_part apart p is).index in
      λ at. none_at k part at_part (sym index ∙ at)
    where
      none_at : (k : ℕ) (part : PatchPart) → slice_get named k ≡ Some part → part.type_index ≡ t → ⊥
      none_at k part at_part = subst (λ (x : PatchPart). x.type_index ≡ t → ⊥) (get_or_from_slice_get named k part part at_part) (none k part (slice_get_within named k part at_part))

  -- ---- what is tried of it

  -- the rows of a part's type behind the step
  abbrev rows_of : PatchPart → RowMap
  rows_of part = rows_in steps.fits.moved part.type_index

  parts_pass : (each_of (part_moves from.schemas (rows_now from)) named).Passes (map rows_of named)
  unfolding part_moves ◌>>=◌ item_at moves
  parts_pass = map_passes (part_moves from.schemas (rows_now from)) rows_of named each_moves

  leads : steps.fits.moved ≡ moved_table (rows_now from) named (map rows_of named)
  leads =
      let long = moved_long (rows_now from) named (map rows_of named) in
      same_tables steps.fits.moved (moved_table (rows_now from) named (map rows_of named)) (steps.fits.moves.types ∙ sym long) (λ t inside.
      let within : t < length (rows_now from) = omega (arith, inside, steps.fits.moves.types) in
      sym (moved_rows (rows_in steps.fits.moved) named (rows_now from) t within (λ none. sym (steps.fits.moves.others t within (unnamed t none)))))

  patch_pass : (patch_of blob n from.schemas).Passes named
  unfolding patch_of ◌>>=◌ standing
  patch_pass = ((read.0, length blob), read.1, model_passes from.schemas apart read.0 named read.2)

  one_header : steps.is.head ≡ head
  one_header =
      let (m, other, stands) = split blob steps.is.head steps.is.parts (length blob) steps.is.items.items in
      (header.decided.one blob 0 steps.is.head head m n other begins).0

  pub step_passes : (step_of blob from).Passes (head.destination, steps.fits.moved)
  unfolding step_of ◌>>=◌ nothing
  step_passes = (
    (head, named),
    delta_passes blob from.tag from.schemas head n steps.short begins named (ap (λ (h : Header). h.origin) (sym one_header) ∙ steps.is.from_tag) patch_pass,
    (
      steps.fits.moved,
      state_passes from.schemas named (length blob) (rows_now from) (map rows_of named) steps.fits.moved parts_pass leads steps.fits.closed,
      refl,
    ),
  )

-- ---- steps

pub stepped_or_fault : (blob : List ℕ) (from to : Position) (found : BlobFault) → IsKept from.schemas DuplicateName → StepsBy blob from to → (step_of blob from).Fails found → ⊥
stepped_or_fault blob from to found apart steps =
    let (n, begins, (named, read)) = stands_of_model from.schemas blob from.tag to.tag steps.patch (rows_now to) steps.is steps.within steps.items in
    (step_of blob from).decided.apart (steps.is.head.destination, steps.fits.moved) found (step_passes blob n steps.is.head named from to apart read begins steps)

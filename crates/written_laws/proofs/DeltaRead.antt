-- A delta that is written is read back as one of a patch that leads from the old state to the new one.
use Rattle.std.proofs.Common.{◌≡◌, ◌≤◌, ◌<◌, ◌+◌, ◌^◌, ℕ, ℤ, List, length, map, Some, refl, ap, ◌∙◌, sym, subst, arith, length-append}
use Rattle.std.specs.Prelude.{All, Contains, FitsSigned, slice_get, zip}
use Rattle.std.specs.Int.{w64}
use Rattle.std.specs.List.{AllZip}
use Rattle.std.proofs.lemmas.List.Elements.{All-map}
use Rattle.std.proofs.lemmas.Slice.Zip.{AllZip-long}
use Rattle.hol_varint.specs.Varint.{varint_bytes}
use Rattle.schema_model.specs.declared.model.rule.Rule.TheVariants.{DuplicateName}
use Rattle.schema_model.specs.declared.schema.Schema.{Schema}
use Rattle.schema_model.specs.Model.{IsKept}
use Rattle.row_model.specs.Table.{Table}
use Rattle.row_model.specs.BothStates.{rows_in}
use Rattle.row_packing.proofs.Greatest.{all_gives, all_images}
use Rattle.blob_frame.specs.Written.{header_bytes, schema_list_bytes}
use Rattle.blob_writing.specs.Placed.{placed}
use Rattle.blob_writing.specs.Limits.{HasFewPaths}
use Rattle.blob_writing.proofs.FewPaths.{all_few}
use Rattle.blob_writing.proofs.ListLength.{header_long}
use Rattle.snapshot_blob.proofs.Zipped.{zip_right, zip_second}
use Rattle.delta_blob.specs.declared.part.DeltaPart.{DeltaPart}
use Rattle.blob_writing.specs.Changes.{IsChangeOf, IsDeltaBetween}
use Rattle.blob_writing.specs.Delta.{TypeChange, IsCarried, body_bytes, IsWrittenDelta, change_bytes, header_of, part_of, schemas_of}
use Rattle.blob_writing.proofs.ChangedTypes.{all_below}
use Rattle.blob_writing.proofs.SpelledDeltas.{delta_stands}
use Rattle.written_laws.specs.Delta.{IsDeltaTo, LeadsTo}
use Rattle.delta_blob.specs.Fits.{FitsTable, HoldsTable}
use Rattle.delta_blob.specs.Moved.{EachNamed, IsUnnamed, Moved, MovesType}
use Rattle.delta_blob.specs.Patch.{NamesOwn, PartIs, TypePatch, parts_for}
use Rattle.delta_blob.proofs.OwnParts.{all_own_agree, all_own_there}
use Rattle.written_laws.specs.States.{AreStates}
use Rattle.delta_blob.specs.Within.{IsTypeWithin}
use Rattle.written_laws.proofs.Beside.{at_index, each_pair, placed_alike, placed_all, placed_beside, placed_seconds}
use Rattle.written_laws.proofs.Carrying.{few_schemas}
use Rattle.written_laws.proofs.DeltaTypes.{patch_of, change_carried, few_items, new_held, new_within, ordinals_fit, part_is, part_own, rows_move}
use Rattle.written_laws.proofs.Gone.{unchanged_rows}
use Rattle.written_laws.proofs.NamedOnce.{few_rising, named_once}

module _ (schemas : List Schema) (old new : Table) (are : AreStates schemas old new) (origin destination : ℤ) (blob : List ℕ) (from : FitsSigned w64 origin) (to : FitsSigned w64 destination)
    (is : IsDeltaBetween schemas old new origin destination blob) (short : length (schema_list_bytes (schemas_of is.changes)) ≤ 2 ^ 28) where
  abbrev types : List ℕ
  types = is.are.types

  abbrev Changes : ℕ × TypeChange → Type 0
  Changes entry = IsChangeOf schemas old new entry.0 entry.1

  -- each type's index, and what is changed of it
  abbrev entries : List (ℕ × TypeChange)
  entries = zip types is.changes

  abbrev front : List ℕ
  front = header_bytes origin destination (schemas_of is.changes)

  abbrev start : ℕ
  start = length front + length (varint_bytes (length is.changes))

  abbrev parts : List DeltaPart
  parts = placed change_bytes part_of is.changes start

  abbrev patch : List TypePatch
  patch = map (patch_of new) entries

  change : All Changes entries
  change = each_pair (IsChangeOf schemas old new) types is.changes is.are.carried

  -- ---- the bytes

  few_changes : length is.changes ≤ 512
  few_changes =
      let below = all_below (length schemas) (length schemas) old new types refl is.are.changed in
      omega (arith, AllZip-long (IsChangeOf schemas old new) types is.changes is.are.carried, few_rising (length schemas) types is.are.changed.rising below, few_schemas schemas are.model)

  carried : All IsCarried is.changes
  carried k d within =
      zip_second (IsChangeOf schemas old new) (λ c. HasFewPaths c.schema → IsCarried c) (λ index c of. change_carried schemas old new are (index, c) of) types is.changes is.are.carried k d within
      (all_images HasFewPaths (λ (c : TypeChange). c.schema) is.changes (all_few (schemas_of is.changes) short) k d within)

  written : IsWrittenDelta blob origin destination is.changes
  written = record {
    is = is.is;
    from_tag = from;
    to_tag = to;
    few = few_changes;
    short = short;
    carried = carried;
  }

  -- ---- the patch

  once : IsKept (map (λ part. part.schema) parts) DuplicateName
  once =
      let at = zip_right (IsChangeOf schemas old new) (IsChangeOf schemas old new) (λ index schema. slice_get schemas index ≡ Some schema) (λ c. c.schema) (λ index c of also. of.schema) types is.changes
      is.are.carried is.are.carried in
      subst (λ (listed : List Schema). IsKept listed DuplicateName) (sym (placed_alike change_bytes part_of (λ part. part.schema) (λ c. c.schema) (λ c at. refl) is.changes start))
      (named_once schemas (are.model.model DuplicateName) types is.are.changed.rising (schemas_of is.changes) at)

  parts_are : AllZip (PartIs schemas) parts patch
  parts_are =
      subst (λ (ps : List DeltaPart). AllZip (PartIs schemas) ps patch) (placed_seconds (IsChangeOf schemas old new) change_bytes part_of types is.changes is.are.carried start)
      (placed_beside Changes (PartIs schemas) (λ entry. change_bytes entry.1) (λ entry at. part_of entry.1 at) (patch_of new) (λ entry at of. part_is schemas old new are entry of at) entries change start)

  -- the schemas are the model's own
  parts_own : NamesOwn schemas parts
  parts_own =
      subst (λ (ps : List DeltaPart). All (λ part. Contains schemas part.schema) ps) (placed_seconds (IsChangeOf schemas old new) change_bytes part_of types is.changes is.are.carried start)
      (placed_all Changes (λ part. Contains schemas part.schema) (λ entry. change_bytes entry.1) (λ entry at. part_of entry.1 at) (λ entry at of. part_own schemas old new are entry of at) entries change start)

  all_there : parts_for schemas parts ≡ parts
  all_there = all_own_there schemas parts parts_own

  each_named : (P : ℕ → TypePatch → Type 0) → ((entry : ℕ × TypeChange) → Changes entry → P entry.0 (patch_of new entry)) → EachNamed patch P
  each_named P each =
      let Of = λ (named : TypePatch). P named.type_index named in
      All-map Of (patch_of new) entries (all_gives Changes (λ entry. Of (patch_of new entry)) entries each change)

  stays : (type_index : ℕ) → type_index < length old → IsUnnamed patch type_index → rows_in new type_index ≡ rows_in old type_index
  stays type_index in_old unnamed =
      let inside : type_index < length schemas = subst (λ (n : ℕ). type_index < n) are.before.rows.types in_old in
      unchanged_rows old new type_index (are.together.agree type_index inside)
      (λ changed.
      let none = all_images (λ named. named.type_index ≡ type_index → ⊥) (patch_of new) entries unnamed in
      let (c, of, not) = at_index (IsChangeOf schemas old new) (λ entry. entry.0 ≡ type_index → ⊥) types is.changes is.are.carried none type_index
      ((is.are.changed.are type_index).1 (inside, changed)) in
      not refl)

  moved : Moved patch old new
  moved = record {
    types = are.after.rows.types ∙ sym are.before.rows.types;
    named = each_named (MovesType old new) (rows_move schemas old new are);
    others = stays;
  }

  pub delta_is : IsDeltaTo schemas old new origin destination blob
  delta_is = record {
    patch = patch;
    is = record {
      head = header_of origin destination is.changes;
      parts = parts;
      items = record { items = delta_stands blob origin destination is.changes written; once = once };
      from_tag = refl;
      to_tag = refl;
      agree = all_own_agree schemas are.model.model parts parts_own;
      sees = subst (λ (ps : List DeltaPart). AllZip (PartIs schemas) ps patch) (sym all_there) parts_are;
    };
    own = parts_own;
    fits = record {
      ordinals = each_named (FitsTable old) (ordinals_fit schemas old new are);
      moved = new;
      moves = moved;
      closed = are.after.closed;
      held = each_named (HoldsTable new) (new_held schemas old new are);
    };
    moved = moved;
    within = each_named (IsTypeWithin new) (new_within schemas old new are);
    items = subst (λ (ps : List DeltaPart). All (λ part. part.section.total ≤ 2 ^ 25) ps) (sym all_there)
        (placed_all (λ c. c.rows.total ≤ 2 ^ 25) (λ part. part.section.total ≤ 2 ^ 25) change_bytes part_of (λ c at few. few) is.changes
        (zip_second (IsChangeOf schemas old new) (λ c. c.rows.total ≤ 2 ^ 25) (λ index c of. few_items schemas old new are (index, c) of) types is.changes is.are.carried) start);
  }

-- a short delta has a short list of schemas
short_list : (schemas : List Schema) (old new : Table) (origin destination : ℤ) (blob : List ℕ) (is : IsDeltaBetween schemas old new origin destination blob) → length blob ≤ 2 ^ 28
    → length (schema_list_bytes (schemas_of is.changes)) ≤ 2 ^ 28
short_list schemas old new origin destination blob is short =
    let listed = schemas_of is.changes in
    let here = ap (λ (xs : List ℕ). length xs) is.is in
    omega (arith, short, here, header_long origin destination listed, length-append (header_bytes origin destination listed) (body_bytes is.changes))

pub delta_read : (schemas : List Schema) (old new : Table) → AreStates schemas old new → (origin destination : ℤ) (blob : List ℕ) → FitsSigned w64 origin → FitsSigned w64 destination
    → length blob ≤ 2 ^ 28 → IsDeltaBetween schemas old new origin destination blob → LeadsTo schemas old new origin destination blob
delta_read schemas old new are origin destination blob from to short is =
    let read = delta_is schemas old new are origin destination blob from to is (short_list schemas old new origin destination blob is short) in
    record { patch = read.patch; is = read.is; own = read.own; fits = read.fits; moved = read.moved; within = read.within; items = read.items; short = short }

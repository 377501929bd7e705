-- A snapshot that is written is read back as the new state.
use Rattle.std.proofs.Common.{◌≡◌, ◌≤◌, ◌+◌, ◌^◌, ℕ, ℤ, List, ◌++◌, length, map, refl, ap, ◌∙◌, sym, subst, arith, length-append}
use Rattle.std.specs.Prelude.{All, FitsSigned, flat_map, zip}
use Rattle.std.specs.Int.{w64}
use Rattle.std.specs.List.{range_with_len}
use Rattle.std.proofs.lemmas.List.FromFn.{length-range_with_len}
use Rattle.std.proofs.lemmas.Slice.Zip.{AllZip-long}
use Rattle.hol_varint.specs.Varint.{varint_bytes}
use Rattle.schema_model.specs.declared.schema.Schema.{Schema}
use Rattle.row_model.specs.Table.{Table, IsClosed}
use Rattle.row_model.specs.BothStates.{rows_in}
use Rattle.type_state.specs.State.{Half}
use Rattle.type_state.specs.Views.{table_of}
use Rattle.blob_frame.specs.Written.{schema_list_bytes, header_bytes}
use Rattle.blob_writing.specs.Placed.{placed}
use Rattle.blob_writing.proofs.Bodies.{header_stands, types_stand}
use Rattle.blob_writing.proofs.FewPaths.{few_at}
use Rattle.blob_writing.proofs.ListLength.{header_long}
use Rattle.blob_writing.proofs.Placing.{SpellsAt}
use Rattle.snapshot_blob.specs.declared.part.TypePart.{TypePart}
use Rattle.snapshot_blob.specs.Parts.{body, snapshot, type_part}
use Rattle.snapshot_blob.specs.Stated.{schemas_of, TypeIs, KeepsTypeLimits}
use Rattle.blob_writing.specs.Snapshot.{TypeRows, body_bytes, type_bytes, IsCarriedOf, IsWrittenSnapshot}
use Rattle.blob_writing.proofs.OneSnapshot.{all_schemas}
use Rattle.written_laws.specs.States.{AreStates}
use Rattle.written_laws.specs.Snapshot.{header_between, IsSnapshotOf, IsSnapshotOfTable}
use Rattle.written_laws.proofs.Beside.{each_pair, firsts, seconds, joined, as_many, listed, placed_beside, placed_alike, made_twice, all_rows}
use Rattle.written_laws.proofs.Carrying.{few_schemas, written_schemas}
use Rattle.written_laws.proofs.SnapshotTypes.{part_of, half_of, type_spelled, type_is, type_keeps}

module _ (schemas : List Schema) (old new : Table) (are : AreStates schemas old new) (origin destination : ℤ) (blob : List ℕ) (from : FitsSigned w64 origin) (to : FitsSigned w64 destination)
    (short : length (schema_list_bytes schemas) ≤ 2 ^ 28) (is : IsWrittenSnapshot schemas old new origin destination blob) where
  abbrev indexes : List ℕ
  indexes = range_with_len 0 (length schemas)

  -- each type's index, and what is carried of it
  abbrev entries : List (ℕ × TypeRows)
  entries = zip indexes is.types

  abbrev Carries : ℕ × TypeRows → Type 0
  Carries entry = IsCarriedOf schemas old new entry.0 entry.1

  abbrev bytes_of : ℕ × TypeRows → List ℕ
  bytes_of entry = type_bytes entry.1

  abbrev front : List ℕ
  front = header_bytes origin destination schemas

  abbrev bytes_behind : List ℕ
  bytes_behind = varint_bytes (length entries) ++ flat_map bytes_of entries

  abbrev parts : List TypePart
  parts = placed bytes_of (part_of new) entries (length front + length (varint_bytes (length entries)))

  abbrev halves : List Half
  halves = map (half_of new) entries

  carry : All Carries entries
  carry = each_pair (IsCarriedOf schemas old new) indexes is.types is.carried

  count : length entries ≡ length schemas
  count = as_many (IsCarriedOf schemas old new) indexes is.types is.carried ∙ length-range_with_len 0 (length schemas)

  blob_is : blob ≡ front ++ bytes_behind
  blob_is =
      let many = AllZip-long (IsCarriedOf schemas old new) indexes is.types is.carried ∙ sym (as_many (IsCarriedOf schemas old new) indexes is.types is.carried) in
      is.is ∙ ap (λ (n : ℕ). front ++ (varint_bytes n ++ flat_map type_bytes is.types)) many
      ∙ ap (λ (rest : List ℕ). front ++ (varint_bytes (length entries) ++ rest)) (sym (joined (IsCarriedOf schemas old new) type_bytes indexes is.types is.carried))

  spelled : (entry : ℕ × TypeRows) → Carries entry → SpellsAt type_part (part_of new entry) (type_bytes entry.1)
  spelled entry carries = type_spelled schemas old new are entry carries (few_at schemas short entry.0 entry.1.schema carries.schema)

  whole : snapshot.Stands (front ++ bytes_behind) 0 (header_between origin destination schemas, parts) (length (front ++ bytes_behind))
  unfolding snapshot body
  whole =
      header_stands body origin destination schemas bytes_behind parts from to (few_schemas schemas are.model) (written_schemas schemas are.model short) short
      (types_stand Carries bytes_of (part_of new) spelled front entries (omega (arith, count, few_schemas schemas are.model)) carry)

  items : snapshot.Stands blob 0 (header_between origin destination schemas, parts) (length blob)
  items = subst (λ (bytes : List ℕ). snapshot.Stands bytes 0 (header_between origin destination schemas, parts) (length bytes)) (sym blob_is) whole

  named : schemas_of parts ≡ schemas
  named =
      placed_alike bytes_of (part_of new) (λ part. part.schema) (λ (entry : ℕ × TypeRows). entry.1.schema) (λ entry at. refl) entries (length front + length (varint_bytes (length entries)))
      ∙ seconds (IsCarriedOf schemas old new) (λ carried. carried.schema) indexes is.types is.carried
      ∙ listed (IsCarriedOf schemas old new) schemas (λ carried. carried.schema) (λ i carried of. of.schema) indexes is.types is.carried
      ∙ all_schemas schemas

  rows : table_of halves ≡ new
  rows =
      made_twice (λ half. half.rows) (half_of new) entries ∙ firsts (IsCarriedOf schemas old new) (rows_in new) indexes is.types is.carried
      ∙ ap (λ (n : ℕ). map (rows_in new) (range_with_len 0 n)) (sym are.after.rows.types) ∙ all_rows new

  pub snapshot_is : IsSnapshotOfTable schemas new (header_between origin destination schemas) blob
  snapshot_is =
      let start = length front + length (varint_bytes (length entries)) in
      record {
        parts = parts;
        halves = halves;
        rows = rows;
        is = record {
          items = items;
          state = record {
            named = named;
            model = are.model.model;
            types = placed_beside Carries TypeIs bytes_of (part_of new) (half_of new) (λ entry at carries. type_is schemas old new are entry carries at) entries carry start;
            closed = subst (IsClosed schemas) (sym rows) are.after.closed;
          };
        };
        types = placed_beside Carries KeepsTypeLimits bytes_of (part_of new) (half_of new) (λ entry at carries. type_keeps schemas old new are entry carries at) entries carry start;
      }

-- a short snapshot has a short list of schemas
pub short_list : (schemas : List Schema) (old new : Table) (origin destination : ℤ) (blob : List ℕ) → IsWrittenSnapshot schemas old new origin destination blob → length blob ≤ 2 ^ 28
    → length (schema_list_bytes schemas) ≤ 2 ^ 28
short_list schemas old new origin destination blob is short =
    let here = ap (λ (xs : List ℕ). length xs) is.is in
    omega (arith, short, here, header_long origin destination schemas, length-append (header_bytes origin destination schemas) (body_bytes is.types))

pub snapshot_read : (schemas : List Schema) (old new : Table) → AreStates schemas old new → (origin destination : ℤ) (blob : List ℕ) → FitsSigned w64 origin → FitsSigned w64 destination
    → length blob ≤ 2 ^ 28 → IsWrittenSnapshot schemas old new origin destination blob → IsSnapshotOf schemas new origin destination blob
snapshot_read schemas old new are origin destination blob from to short is =
    let read = snapshot_is schemas old new are origin destination blob from to (short_list schemas old new origin destination blob is short) is in
    record { halves = read.halves; rows = read.rows; accepted = (read.parts, read.is, record { short = short; types = read.types }) }

-- The blobs of a state, where its model is spelled by bytes and its BYTES are bytes.
use Rattle.std.proofs.Common.{ℕ, ℤ, List, [], ◌∷◌, ◌++◌, ◌+◌, Bool, true, false, Option, None, Some, length, inl, inr, sym, subst, arith}
use Rattle.std.specs.Prelude.{All, decimal, flat_map}
use Rattle.std.specs.Int.{cast_unsigned, to_be_bytes, w32, w64}
use Rattle.std.specs.List.{range_with_len}
use Rattle.std.proofs.lemmas.List.Elements.{All-append, All-cons, All-map, All-nil}
use Rattle.hol_io.specs.declared.name.BlobName.TheVariants.{Announced, Delta, Reverse, Snapshot}
use Rattle.hol_varint.specs.Varint.{varint_bytes}
use Rattle.ordinal_set.specs.Gaps.{gap_bytes}
use Rattle.ordinal_set.specs.Population.{IsPopulation}
use Rattle.blob_grammar.specs.Decided.{AreBytes}
use Rattle.blob_frame.specs.Header.{format_number}
use Rattle.blob_frame.specs.Written.{header_bytes, schema_list_bytes}
use Rattle.blob_sections.specs.declared.section.PackedRows.{PackedRows}
use Rattle.schema_model.specs.declared.schema.Schema.{Schema}
use Rattle.schema_model.specs.declared.schema.Shape.{Shape}
use Rattle.schema_model.specs.Schema.{schema_bytes}
use Rattle.row_model.specs.declared.packed.Packed.{Packed}
use Rattle.row_model.specs.Table.{Table}
use Rattle.row_packing.specs.Chosen.{shape_at}
use Rattle.blob_writing.specs.Changes.{AreChangesOf, IsChangeOf, IsDeltaBetween}
use Rattle.blob_writing.specs.Delta.{TypeChange, body_bytes, change_bytes, schemas_of}
use Rattle.blob_writing.specs.Snapshot.{AreCarriedOf, IsCarriedOf, IsWrittenSnapshot, TypeRows, type_bytes}
use Rattle.blob_writing.specs.Written.{area_bytes, max_bytes, one_shard_bytes, ordinals_bytes, packed_bytes, records_bytes, runs_bytes, type_head_bytes, word_array_bytes}
use Rattle.state_blobs.specs.Published.{Published}
use Rattle.state_blobs.specs.Puts.{AreBlobs, AreWhole, Put, puts_of}
use Rattle.byte_laws.specs.Bytes.{IsByteProducer, IsByteSchema, IsByteTable}
use Rattle.byte_laws.proofs.Areas.{at_place, packed_areas}
use Rattle.byte_laws.proofs.Numbers.{byte_then, bytes_of_all, bytes_of_each, decimal_are, fixed_are, gaps_are, no_bytes, one_behind, varint_are}

-- ---- what is in front

schemas_are : (listed : List Schema) → All IsByteSchema listed → AreBytes (schema_list_bytes listed)
schemas_are listed all = one_behind (varint_bytes (length listed)) (flat_map schema_bytes listed) (varint_are (length listed)) (bytes_of_each schema_bytes listed all)

zeros : AreBytes (0 ∷ 0 ∷ 0 ∷ [])
zeros = byte_then 0 (0 ∷ 0 ∷ []) (omega arith) (byte_then 0 (0 ∷ []) (omega arith) (byte_then 0 [] (omega arith) no_bytes))

header_are : (origin destination : ℤ) (listed : List Schema) → All IsByteSchema listed → AreBytes (header_bytes origin destination listed)
header_are origin destination listed all =
    let size = length (schema_list_bytes listed) + 1 in
    let behind = schema_list_bytes listed ++ 0 ∷ 0 ∷ 0 ∷ [] in
    let from = cast_unsigned w64 origin in
    let to = cast_unsigned w64 destination in
    one_behind (to_be_bytes w32 format_number) (to_be_bytes w64 from ++ (to_be_bytes w64 to ++ (varint_bytes size ++ behind))) (fixed_are w32 format_number)
    (one_behind (to_be_bytes w64 from) (to_be_bytes w64 to ++ (varint_bytes size ++ behind)) (fixed_are w64 from)
    (one_behind (to_be_bytes w64 to) (varint_bytes size ++ behind) (fixed_are w64 to)
    (one_behind (varint_bytes size) behind (varint_are size) (one_behind (schema_list_bytes listed) (0 ∷ 0 ∷ 0 ∷ []) (schemas_are listed all) zeros))))

shard_are : AreBytes one_shard_bytes
shard_are = byte_then 2 (0 ∷ 1 ∷ []) (omega arith) (byte_then 0 (1 ∷ []) (omega arith) (byte_then 1 [] (omega arith) no_bytes))

head_are : (schema : Schema) → IsByteSchema schema → AreBytes (type_head_bytes schema)
head_are schema is = one_behind (schema_bytes schema) one_shard_bytes is shard_are

-- ---- a type

max_are : (max : Option ℕ) → AreBytes (max_bytes max)
max_are None = varint_are _
max_are (Some max) = varint_are max

words_are : (words : List ℕ) → AreBytes (word_array_bytes words)
words_are words = one_behind (varint_bytes (length words)) (flat_map (to_be_bytes w64) words) (varint_are (length words)) (bytes_of_all (to_be_bytes w64) words (fixed_are w64))

area_are : (area : List ℕ) → AreBytes area → AreBytes (area_bytes area)
area_are area are = one_behind (varint_bytes (length area)) area (varint_are (length area)) are

each_area : (areas : List (List ℕ)) → All AreBytes areas → All (λ area. AreBytes (area_bytes area)) areas
each_area areas all k d below = area_are _ (all k d below)

widths_are : (widths : List ℕ) → AreBytes (flat_map varint_bytes widths)
widths_are widths = bytes_of_all varint_bytes widths varint_are

runs_are : (total : ℕ) (packed : Packed) → AreBytes (runs_bytes total packed)
runs_are total packed =
    one_behind (varint_bytes total) _ (varint_are total) (one_behind (word_array_bytes packed.first) (word_array_bytes packed.second) (words_are packed.first) (words_are packed.second))

packed_are : (shape : Shape) (rows : PackedRows) → All AreBytes rows.packed.areas → AreBytes (packed_bytes shape rows)
packed_are (Shape.Object key fields) rows areas =
    one_behind (flat_map varint_bytes rows.widths) (records_bytes rows.packed) (widths_are rows.widths)
    (one_behind (word_array_bytes rows.packed.first) (flat_map area_bytes rows.packed.areas) (words_are rows.packed.first) (bytes_of_each area_bytes rows.packed.areas (each_area rows.packed.areas areas)))
packed_are (Shape.List element) rows areas = one_behind (flat_map varint_bytes rows.widths) (runs_bytes rows.total rows.packed) (widths_are rows.widths) (runs_are rows.total rows.packed)
packed_are (Shape.Set element) rows areas = one_behind (flat_map varint_bytes rows.widths) (runs_bytes rows.total rows.packed) (widths_are rows.widths) (runs_are rows.total rows.packed)
packed_are (Shape.Map key value) rows areas = one_behind (flat_map varint_bytes rows.widths) (runs_bytes rows.total rows.packed) (widths_are rows.widths) (runs_are rows.total rows.packed)

population_are : (set : List ℕ) (greatest : Option ℕ) (bytes : List ℕ) → IsPopulation set greatest bytes → AreBytes bytes
population_are set greatest bytes is =
    subst AreBytes (sym is.is) (one_behind (to_be_bytes w32 (length is.words)) (flat_map (to_be_bytes w64) is.words) (fixed_are w32 (length is.words)) (bytes_of_all (to_be_bytes w64) is.words (fixed_are w64)))

ordinals_are : (removed added : List ℕ) → AreBytes (ordinals_bytes removed added)
ordinals_are removed added = one_behind (area_bytes (gap_bytes removed)) (area_bytes (gap_bytes added)) (area_are (gap_bytes removed) (gaps_are 0 removed)) (area_are (gap_bytes added) (gaps_are 0 added))

-- ---- blobs

module _ (schemas : List Schema) (spelled : All IsByteSchema schemas) where
  carried_are : (old new : Table) (t : ℕ) (carried : TypeRows) → IsByteTable new → IsCarriedOf schemas old new t carried → AreBytes (type_bytes carried)
  carried_are old new t carried is of =
      one_behind (type_head_bytes carried.schema) _ (head_are carried.schema (at_place IsByteSchema schemas t carried.schema spelled of.schema))
      (one_behind (max_bytes carried.max) _ (max_are carried.max)
      (one_behind (packed_bytes carried.schema.shape carried.rows) carried.population
      (packed_are carried.schema.shape carried.rows (packed_areas (shape_at schemas t) carried.rows.widths new t _ _ _ carried.rows.packed.areas is of.packed))
      (population_are _ carried.max carried.population of.population)))

  all_carried : (old new : Table) (types : List ℕ) (carried : List TypeRows) → IsByteTable new → AreCarriedOf schemas old new types carried → AreBytes (flat_map type_bytes carried)
  all_carried old new [] [] is of = no_bytes
  all_carried old new [] (c ∷ carried) is of = absurd of
  all_carried old new (t ∷ types) [] is of = absurd of
  all_carried old new (t ∷ types) (c ∷ carried) is of = one_behind (type_bytes c) (flat_map type_bytes carried) (carried_are old new t c is of.0) (all_carried old new types carried is of.1)

  snapshot_are : (old new : Table) (origin destination : ℤ) (blob : List ℕ) → IsByteTable new → IsWrittenSnapshot schemas old new origin destination blob → AreBytes blob
  snapshot_are old new origin destination blob is written =
      subst AreBytes (sym written.is) (one_behind (header_bytes origin destination schemas) _ (header_are origin destination schemas spelled)
      (one_behind (varint_bytes (length written.types)) (flat_map type_bytes written.types) (varint_are (length written.types)) (all_carried old new (range_with_len 0 (length schemas)) written.types is written.carried)))

  -- The schema of a change is spelled by bytes, and the change is.
  abbrev IsByteChange : TypeChange → Type 0
  IsByteChange change = IsByteSchema change.schema × AreBytes (change_bytes change)

  change_are : (old new : Table) (t : ℕ) (change : TypeChange) → IsByteTable new → IsChangeOf schemas old new t change → IsByteChange change
  change_are old new t change is of =
      let schema = at_place IsByteSchema schemas t change.schema spelled of.schema in (
        schema,
        one_behind (type_head_bytes change.schema) _ (head_are change.schema schema)
            (one_behind (max_bytes change.max) _ (max_are change.max)
            (one_behind (ordinals_bytes change.removed change.added) (packed_bytes change.schema.shape change.rows) (ordinals_are change.removed change.added)
            (packed_are change.schema.shape change.rows (packed_areas (shape_at schemas t) change.rows.widths new t _ _ _ change.rows.packed.areas is of.packed)))),
      )

  all_changes : (old new : Table) (types : List ℕ) (changes : List TypeChange) → IsByteTable new → AreChangesOf schemas old new types changes → All IsByteChange changes
  all_changes old new [] [] is of = All-nil IsByteChange
  all_changes old new [] (c ∷ changes) is of = absurd of
  all_changes old new (t ∷ types) [] is of = absurd of
  all_changes old new (t ∷ types) (c ∷ changes) is of = All-cons IsByteChange c changes (change_are old new t c is of.0) (all_changes old new types changes is of.1)

  delta_are : (old new : Table) (origin destination : ℤ) (blob : List ℕ) → IsByteTable new → IsDeltaBetween schemas old new origin destination blob → AreBytes blob
  delta_are old new origin destination blob is delta =
      let all = all_changes old new delta.are.types delta.changes is delta.are.carried in
      subst AreBytes (sym delta.is) (one_behind (header_bytes origin destination (schemas_of delta.changes)) (body_bytes delta.changes)
      (header_are origin destination (schemas_of delta.changes) (All-map IsByteSchema (λ (change : TypeChange). change.schema) delta.changes (λ k d below. (all k d below).0)))
      (one_behind (varint_bytes (length delta.changes)) (flat_map change_bytes delta.changes) (varint_are (length delta.changes)) (bytes_of_each change_bytes delta.changes (λ k d below. (all k d below).1))))

-- ---- puts

-- What is put are bytes.
abbrev IsBytePut : Put → Type 0
IsBytePut put = AreBytes put.1

module _ (last : Published) (is : IsByteProducer last) (rows : Table) (bytes : IsByteTable rows) (version : ℕ) (tag : ℤ) where
  whole_are : (snapshot : List ℕ) → IsWrittenSnapshot last.model last.rows rows last.tag tag snapshot → All IsBytePut ((Snapshot version, snapshot) ∷ [])
  whole_are snapshot written = All-cons IsBytePut (Snapshot version, snapshot) [] (snapshot_are last.model is.model last.rows rows last.tag tag snapshot bytes written) (All-nil IsBytePut)

  perhaps_whole : (with_snapshot : Bool) (whole : List Put) → AreWhole with_snapshot last rows version tag whole → All IsBytePut whole
  perhaps_whole true whole (snapshot, written, are) = subst (All IsBytePut) (sym are) (whole_are snapshot written)
  perhaps_whole false whole none = subst (All IsBytePut) (sym none) (All-nil IsBytePut)

  blobs_are : (with_snapshot : Bool) (blobs : List Put) → AreBlobs last rows version tag with_snapshot blobs → All IsBytePut blobs
  blobs_are with_snapshot blobs (inl (first, (snapshot, written, are))) = subst (All IsBytePut) (sym are) (whole_are snapshot written)
  blobs_are with_snapshot blobs (inr (later, (delta, reverse, whole, forth, back, whole_is, are))) =
      subst (All IsBytePut) (sym are)
      (All-cons IsBytePut (Delta last.version version, delta) ((Reverse version last.version, reverse) ∷ whole) (delta_are last.model is.model last.rows rows last.tag tag delta bytes forth)
      (All-cons IsBytePut (Reverse version last.version, reverse) whole (delta_are last.model is.model rows last.rows tag last.tag reverse is.rows back) (perhaps_whole with_snapshot whole whole_is)))

  -- what is put for a state
  pub puts_are : (with_snapshot : Bool) (blobs : List Put) → AreBlobs last rows version tag with_snapshot blobs → All IsBytePut (puts_of blobs version)
  puts_are with_snapshot blobs are = All-append IsBytePut blobs ((Announced, decimal version) ∷ []) (blobs_are with_snapshot blobs are)
      (All-cons IsBytePut (Announced, decimal version) [] (decimal_are version) (All-nil IsBytePut))

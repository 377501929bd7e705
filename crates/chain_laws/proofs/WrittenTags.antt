-- What is written has its tags in front.
use Rattle.std.proofs.Common.{◌≡◌, ◌<◌, ◌^◌, ℕ, ℤ, List, ◌++◌, inr, refl, sym, subst, arith}
use Rattle.std.specs.Int.{w32, w64, to_be_bytes, from_be_bytes, cast_unsigned}
use Rattle.std.proofs.lemmas.Nat.{from_be_bytes-to_be_bytes_8}
use Rattle.schema_model.specs.declared.schema.Schema.{Schema}
use Rattle.row_model.specs.Table.{Table}
use Rattle.blob_frame.specs.Header.{format_number}
use Rattle.blob_writing.specs.Changes.{IsDeltaBetween}
use Rattle.blob_writing.specs.Snapshot.{IsWrittenSnapshot}
use Rattle.chain_store.specs.Tags.{HasTag}

tag_in_front : (bits origin destination : ℕ) (rest : List ℕ) → bits < 2 ^ 64 → bits ≡ destination
    → HasTag bits (to_be_bytes w32 format_number ++ (to_be_bytes w64 origin ++ (to_be_bytes w64 destination ++ rest)))
tag_in_front bits origin destination rest small is = (
  omega arith,
  record { format = refl; tagged = inr (subst (λ (n : ℕ). from_be_bytes w64 (to_be_bytes w64 n) ≡ bits) is (from_be_bytes-to_be_bytes_8 bits small)) },
)

pub snapshot_tagged : (schemas : List Schema) (old new : Table) (origin destination : ℤ) (blob : List ℕ) → cast_unsigned w64 destination < 2 ^ 64 → IsWrittenSnapshot schemas old new origin destination blob
    → HasTag (cast_unsigned w64 destination) blob
snapshot_tagged schemas old new origin destination blob small is =
    subst (HasTag (cast_unsigned w64 destination)) (sym is.is) (tag_in_front (cast_unsigned w64 destination) (cast_unsigned w64 origin) (cast_unsigned w64 destination) _ small refl)

pub delta_tagged : (schemas : List Schema) (old new : Table) (origin destination : ℤ) (blob : List ℕ) → cast_unsigned w64 destination < 2 ^ 64 → IsDeltaBetween schemas old new origin destination blob
    → HasTag (cast_unsigned w64 destination) blob
delta_tagged schemas old new origin destination blob small is =
    subst (HasTag (cast_unsigned w64 destination)) (sym is.is) (tag_in_front (cast_unsigned w64 destination) (cast_unsigned w64 origin) (cast_unsigned w64 destination) _ small refl)

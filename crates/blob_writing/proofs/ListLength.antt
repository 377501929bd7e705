-- The length of a list of schemas, measured one by one.
use Rattle.std.proofs.Common.{◌≡◌, ℕ, ℤ, [], ◌∷◌, ◌+◌, ◌<◌, ◌≤◌, ◌^◌, inl, inr, Bool, List, ◌++◌, Some, get_or, take, drop, length, sym, ap, ◌∙◌, subst, arith, length-append}
use Rattle.std.specs.Prelude.{All, MatchBool, flat_map, nat_lt, slice_get}
use Rattle.std.specs.Int.{w32, w64, to_be_bytes, cast_unsigned}
use Rattle.std.proofs.lemmas.Bool.{cases_lt, lt-ltb, le-ltb}
use Rattle.std.proofs.lemmas.List.{take-append-drop}
use Rattle.std.proofs.lemmas.List.Concat.{flat_map-append}
use Rattle.std.proofs.lemmas.List.Elements.{filter_map-append}
use Rattle.hol_varint.specs.Varint.{varint_bytes}
use Rattle.schema_model.specs.declared.schema.Schema.{Schema}
use Rattle.schema_model.specs.Schema.{schema_bytes}
use Rattle.blob_frame.specs.Header.{format_number}
use Rattle.blob_frame.specs.Written.{schemas_at, schema_list_bytes, header_bytes}
use Rattle.blob_frame.proofs.Listing.{listed_more, listed_whole}

-- how many bytes the number of the schemas and the first of them take
abbrev pub length_to : List Schema → List ℕ → ℕ → ℕ
length_to model types i = length (varint_bytes (length types)) + length (flat_map schema_bytes (schemas_at model (take i types)))

pub length_more : (model : List Schema) (types : List ℕ) (i : ℕ) (schema : Schema) → i < length types → slice_get model (get_or types i 0) ≡ Some schema
    → length_to model types (i + 1) ≡ length_to model types i + length (schema_bytes schema)
length_more model types i schema inside is =
    let more = ap (λ (xs : List ℕ). length xs) (listed_more model types i schema inside is) in
    let both = length-append (flat_map schema_bytes (schemas_at model (take i types))) (schema_bytes schema) in
    omega (arith, more, both)

pub length_front : (model : List Schema) (types : List ℕ) (i : ℕ) → All (λ t. t < length model) types → length_to model types i ≤ length (schema_list_bytes (schemas_at model types))
length_front model types i all =
    let front = flat_map schema_bytes (schemas_at model (take i types)) in
    let behind = flat_map schema_bytes (schemas_at model (drop i types)) in
    let split : flat_map schema_bytes (schemas_at model types) ≡ front ++ behind =
    ap (λ (ts : List ℕ). flat_map schema_bytes (schemas_at model ts)) (sym (take-append-drop i types))
    ∙ ap (λ (ss : List Schema). flat_map schema_bytes ss) (filter_map-append (slice_get model) (take i types) (drop i types))
    ∙ flat_map-append schema_bytes (schemas_at model (take i types)) (schemas_at model (drop i types)) in
    let whole = ap (λ (xs : List ℕ). length xs) (listed_whole model types all) in
    let long = ap (λ (xs : List ℕ). length xs) split in
    omega (arith, whole, long, length-append front behind, length-append (varint_bytes (length types)) (flat_map schema_bytes (schemas_at model types)))

pub length_whole : (model : List Schema) (types : List ℕ) → All (λ t. t < length model) types
    → length (varint_bytes (length types)) + length (flat_map schema_bytes (schemas_at model types)) ≡ length (schema_list_bytes (schemas_at model types))
length_whole model types all =
    let whole = ap (λ (xs : List ℕ). length xs) (listed_whole model types all) in
    omega (arith, whole, length-append (varint_bytes (length types)) (flat_map schema_bytes (schemas_at model types)))

-- the test of a length tells whether it is too long
pub long_told : (total long : ℕ) → total ≡ long → MatchBool (nat_lt (2 ^ 28) total) (2 ^ 28 < long) (long ≤ 2 ^ 28)
long_told total long is =
    elim (cases_lt (2 ^ 28) total) [
      | inl over ↦ subst (λ (b : Bool). MatchBool b (2 ^ 28 < long) (long ≤ 2 ^ 28)) (sym (lt-ltb (2 ^ 28) total over)) (omega (arith, over, is))
      | inr within ↦ subst (λ (b : Bool). MatchBool b (2 ^ 28 < long) (long ≤ 2 ^ 28)) (sym (le-ltb (2 ^ 28) total within)) (omega (arith, within, is))
    ]

-- a header is as long as its list of schemas
pub header_long : (origin destination : ℤ) (listed : List Schema) → length (schema_list_bytes listed) ≤ length (header_bytes origin destination listed)
header_long origin destination listed =
    let list = schema_list_bytes listed in
    let number = varint_bytes (length list + 1) in
    let to = to_be_bytes w64 (cast_unsigned w64 destination) in
    let from = to_be_bytes w64 (cast_unsigned w64 origin) in
    omega (
      arith,
      length-append list (0 ∷ 0 ∷ 0 ∷ []),
      length-append number (list ++ 0 ∷ 0 ∷ 0 ∷ []),
      length-append to (number ++ (list ++ 0 ∷ 0 ∷ 0 ∷ [])),
      length-append from (to ++ (number ++ (list ++ 0 ∷ 0 ∷ 0 ∷ []))),
      length-append (to_be_bytes w32 format_number) (from ++ (to ++ (number ++ (list ++ 0 ∷ 0 ∷ 0 ∷ [])))),
    )

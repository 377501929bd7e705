-- Where a list of schemas takes few bytes, each of them has few key paths, since each path takes a byte of it or more.
use Rattle.std.proofs.Common.{◌≡◌, ◌<◌, ◌≤◌, ◌^◌, ℕ, inl, inr, List, Option, Some, None, get_or, length, ap, ◌∙◌, sym, subst, arith}
use Rattle.std.specs.Prelude.{All, IfSome, IsSomeAnd, slice_get}
use Rattle.std.specs.List.{range_with_len}
use Rattle.std.proofs.lemmas.Bool.{cases_lt}
use Rattle.std.proofs.lemmas.List.{get_or_default}
use Rattle.std.proofs.lemmas.List.FromFn.{length-range_with_len, get_or-range_with_len}
use Rattle.std.proofs.lemmas.Option.{slice_get-get_or}
use Rattle.schema_model.specs.declared.schema.Schema.{Schema}
use Rattle.schema_model.specs.Parts.{shape_key}
use Rattle.blob_frame.specs.Written.{schemas_at, schema_list_bytes}
use Rattle.blob_frame.proofs.Listing.{few_keys}
use Rattle.blob_writing.specs.Limits.{HasFewPaths, HasManyPaths, HaveFewPaths}
use Rattle.blob_writing.proofs.Once.{inside}
use Rattle.blob_writing.proofs.OneSnapshot.{all_schemas}

-- those that are listed
pub few_listed : (schemas : List Schema) (types : List ℕ) → length (schema_list_bytes (schemas_at schemas types)) ≤ 2 ^ 28 → HaveFewPaths schemas types
few_listed schemas types short k d within schema at =
    let same : get_or types k 0 ≡ get_or types k d = get_or_default types k 0 d within in
    few_keys schemas types k schema within (ap (slice_get schemas) same ∙ at) short

too_many : (key : Option (List (List ℕ))) → IsSomeAnd key (λ paths. 2 ^ 32 ≤ length paths) → IfSome key (λ paths. length paths < 2 ^ 32) → ⊥
too_many (Some paths) many few = omega (arith, many, few)
too_many None many few = many

-- a listed type with many key paths makes the list too long
pub many_long : (schemas : List Schema) (types : List ℕ) (k : ℕ) (schema : Schema) → k < length types → slice_get schemas (get_or types k 0) ≡ Some schema → HasManyPaths schema
    → 2 ^ 28 < length (schema_list_bytes (schemas_at schemas types))
many_long schemas types k schema within at many =
    elim (cases_lt (2 ^ 28) (length (schema_list_bytes (schemas_at schemas types)))) [
      | inl long ↦ long
      | inr short ↦ absurd (too_many (shape_key schema.shape) many (few_keys schemas types k schema within at short))
    ]

-- all of a list
pub few_at : (listed : List Schema) → length (schema_list_bytes listed) ≤ 2 ^ 28 → (index : ℕ) (schema : Schema) → slice_get listed index ≡ Some schema → HasFewPaths schema
few_at listed short index schema at =
    let types = range_with_len 0 (length listed) in
    let within = inside listed index schema at in
    let long = length-range_with_len 0 (length listed) in
    let here : get_or types index 0 ≡ index = omega (arith, get_or-range_with_len 0 (length listed) index 0 within) in
    few_keys listed types index schema (omega (arith, long, within)) (ap (slice_get listed) here ∙ at)
    (subst (λ (ss : List Schema). length (schema_list_bytes ss) ≤ 2 ^ 28) (sym (all_schemas listed)) short)

pub all_few : (listed : List Schema) → length (schema_list_bytes listed) ≤ 2 ^ 28 → All HasFewPaths listed
all_few listed short k d within = few_at listed short k (get_or listed k d) (slice_get-get_or listed k d within)

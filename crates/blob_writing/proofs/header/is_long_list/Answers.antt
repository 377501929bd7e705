use Rattle.std.proofs.Common.{◌≡◌, ◌+◌, ◌<◌, ◌++◌, ◌∙◌, ℕ, List, Some, get_or, length, take, ap, subst, arith, rules}
use Rattle.std.specs.Prelude.{flat_map, slice_get}
use Rattle.std.proofs.lemmas.List.{take_all}
use Rattle.hol_varint.specs.Varint.{varint_bytes}
use Rattle.schema_model.specs.Schema.{schema_bytes}
use Rattle.blob_frame.specs.Written.{schemas_at, schema_list_bytes}
use Rattle.blob_writing.specs.Limits.{HasFewPaths, HasManyPaths}
use Rattle.blob_writing.proofs.FewPaths.{many_long}
use Rattle.blob_writing.proofs.ListLength.{length_more, length_front, length_whole, long_told}
use Rattle.blob_writing.proofs.header.is_long_list.Goals as goal

pub returns-then-total-gt-MAX_BLOB_BYTES : goal.returns-then-total-gt-MAX_BLOB_BYTES
returns-then-total-gt-MAX_BLOB_BYTES c =
    let front = length_front c.args.model.now c.args.types.now c.loop-type_index.type_index-index c.requires.in_model in
    omega (arith, front, c.loop-type_index.invariant, c.if-total-gt-MAX_BLOB_BYTES.true)

pub returns-then-not-has_few_paths : goal.returns-then-not-has_few_paths
returns-then-not-has_few_paths c =
    let model = c.args.model.now in
    let i = c.loop-type_index.type_index-index in
    let inside : i < length c.args.types.now = omega (arith, c.loop-type_index-test.true, ap (λ (ts : List ℕ). length ts) c.as_slice-indexes.ensures) in
    let there : slice_get model (get_or c.args.types.now i 0) ≡ Some c.schema-schema.result.now =
    subst (λ (ts : List ℕ). slice_get model (get_or ts i 0) ≡ Some c.schema-schema.result.now) c.as_slice-indexes.ensures c.schema-schema.ensures.value in
    let many : HasManyPaths c.schema-schema.result.now = search rules in
    many_long model c.args.types.now i c.schema-schema.result.now inside there many

pub put_schema-requires : goal.put_schema-requires
put_schema-requires c =
    let few : HasFewPaths c.schema-schema.result.now = search rules in
    c.spellable_model.ensures c.args.model.now _ c.schema-schema.result.now c.schema-schema.ensures.model c.schema-schema.ensures.value few

pub loop-type_index-preserved : goal.loop-type_index-preserved
loop-type_index-preserved c =
    let model = c.args.model.now in
    let i = c.loop-type_index.type_index-index in
    let inside : i < length c.args.types.now = omega (arith, c.loop-type_index-test.true, ap (λ (ts : List ℕ). length ts) c.as_slice-indexes.ensures) in
    let there : slice_get model (get_or c.args.types.now i 0) ≡ Some c.schema-schema.result.now =
    subst (λ (ts : List ℕ). slice_get model (get_or ts i 0) ≡ Some c.schema-schema.result.now) c.as_slice-indexes.ensures c.schema-schema.ensures.value in
    let more = length_more model c.args.types.now i c.schema-schema.result.now inside there in
    let one : length c.put_schema.new.out.items ≡ length (schema_bytes c.schema-schema.result.now) =
    ap (λ (xs : List ℕ). length xs) (c.in_ok-put_schema.ensures.ok ∙ ap (λ (xs : List ℕ). xs ++ schema_bytes c.schema-schema.result.now) c.clear.ensures.items) in
    omega (arith, more, one, c.len-in-loop-type_index.ensures, c.loop-type_index.invariant)

pub returns : goal.returns
returns c =
    let model = c.args.model.now in
    let types = c.args.types.now in
    let i = c.loop-type_index.type_index-index in
    let all : take i types ≡ types = take_all i types (omega (arith, c.loop-type_index-test.false, ap (λ (ts : List ℕ). length ts) c.as_slice-indexes.ensures)) in
    let whole : c.loop-type_index.total ≡ length (schema_list_bytes (schemas_at model types)) =
    c.loop-type_index.invariant
    ∙ ap (λ (ts : List ℕ). length (varint_bytes (length types)) + length (flat_map schema_bytes (schemas_at model ts))) all
    ∙ length_whole model types c.requires.in_model in
    long_told c.loop-type_index.total (length (schema_list_bytes (schemas_at model types))) whole

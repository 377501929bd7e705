use Rattle.std.proofs.Common.{◌≡◌, ◌++◌, ℕ, List, Some, get_or, take, length, subst, sym, ap, ◌∙◌, arith, append_assoc}
use Rattle.std.specs.List.{slice_get, flat_map}
use Rattle.std.proofs.lemmas.List.{take_all}
use Rattle.hol_varint.specs.Varint.{varint_bytes}
use Rattle.schema_model.specs.Schema.{schema_bytes}
use Rattle.blob_frame.specs.Written.{schemas_at}
use Rattle.blob_frame.proofs.Listing.{few_types, few_keys, listed_more, listed_whole}
use Rattle.blob_frame.proofs.writing.push_schemas.Goals as goal

pub overflow_cast-len : goal.overflow_cast-len
overflow_cast-len c = omega (arith, few_types c.args.model.now c.args.types.now c.requires.in_model c.requires.short, c.len.ensures)

pub put_schema-requires : goal.put_schema-requires
put_schema-requires c =
    let model = c.args.model.now in
    let s = c.schema.result.now in
    let i = c.loop-type_index.type_index-index in
    let there : slice_get model (get_or c.args.types.now i 0) ≡ Some s =
    subst (λ (ts : List ℕ). slice_get model (get_or ts i 0) ≡ Some s) c.as_slice-indexes.ensures c.schema.ensures.value in
    c.spellable_model.ensures model (get_or c.args.types.now i 0) s c.schema.ensures.model there
    (few_keys model c.args.types.now i s (omega (arith, ap (λ (ts : List ℕ). length ts) c.as_slice-indexes.ensures)) there c.requires.short)

pub loop-type_index-preserved : goal.loop-type_index-preserved
loop-type_index-preserved c =
    let model = c.args.model.now in
    let s = c.schema.result.now in
    let i = c.loop-type_index.type_index-index in
    let indexes = c.as_slice-indexes.result.now in
    let number = varint_bytes (length c.args.types.now) in
    c.in_ok-put_schema.ensures.ok ∙ (ap (λ (xs : List ℕ). xs ++ schema_bytes s) c.loop-type_index.invariant
    ∙ (append_assoc number (flat_map schema_bytes (schemas_at model (take i indexes))) (schema_bytes s)
    ∙ ap (λ (xs : List ℕ). number ++ xs) (sym (listed_more model indexes i s (omega arith) c.schema.ensures.value))))

pub returns : goal.returns
returns c =
    let model = c.args.model.now in
    let whole : take c.loop-type_index.type_index-index c.as_slice-indexes.result.now ≡ c.args.types.now =
    take_all c.loop-type_index.type_index-index c.as_slice-indexes.result.now (omega arith) ∙ c.as_slice-indexes.ensures in
    record {
      ok = c.loop-type_index.invariant ∙ (ap (λ (ts : List ℕ). varint_bytes (length c.args.types.now) ++ flat_map schema_bytes (schemas_at model ts)) whole
          ∙ listed_whole model c.args.types.now c.requires.in_model);
    }

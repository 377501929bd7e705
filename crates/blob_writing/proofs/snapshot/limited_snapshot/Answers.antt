use Rattle.std.proofs.Common.{◌≡◌, ◌<◌, ◌≤◌, ◌^◌, ◌∙◌, List, length, ap, subst, inl, inr, arith}
use Rattle.std.specs.Int.{w64}
use Rattle.std.specs.List.{range_with_len}
use mir.Val.{to_z, of_z}
use Rattle.std.proofs.lemmas.Int.{ints, to_z-of_z}
use Rattle.schema_model.specs.declared.schema.Schema.{Schema}
use Rattle.blob_frame.specs.Written.{schemas_at, schema_list_bytes}
use Rattle.blob_writing.proofs.Refusing.{header_put, means_exit}
use Rattle.blob_writing.proofs.FewPaths.{few_listed}
use Rattle.blob_writing.proofs.OneSnapshot.{long_list}
use Rattle.blob_writing.proofs.WritingSnapshots.{in_types, long_schemas, rising_types, snapshot_front, snapshot_large, snapshot_written}
use Rattle.blob_writing.proofs.snapshot.limited_snapshot.Goals as goal

pub put_limited_header-requires-clause-in_model : goal.put_limited_header-requires-clause-in_model
put_limited_header-requires-clause-in_model g c = in_types (length c.args.model.now) c.in_ok-types.types c.in_ok-types.ensures.all

pub put_limited_header-requires-clause-rising : goal.put_limited_header-requires-clause-rising
put_limited_header-requires-clause-rising g c = rising_types (length c.args.model.now) c.in_ok-types.types c.in_ok-types.ensures.all

pub returns-in_err-put_limited_header-clause-large : goal.returns-in_err-put_limited_header-clause-large
returns-in_err-put_limited_header-clause-large g c =
    let schemas = g.B.Rows.schemas c.args.new.now in
    let types = c.in_ok-types.types in
    let all = c.in_ok-types.ensures.all ∙ ap (λ (ss : List Schema). range_with_len 0 (length ss)) c.requires.same in
    means_exit c.from_residual-in_err-put_limited_header.result c.in_err-put_limited_header.field-0.0 (2 ^ 28 < length (schema_list_bytes (schemas_at c.args.model.now types))) _
    c.from_residual-in_err-put_limited_header.ensures.1 c.in_err-put_limited_header.ensures.large
    (λ over blob is.
    long_list schemas (g.A.Rows.table c.args.old.now) (g.B.Rows.table c.args.new.now) types c.args.origin c.args.destination blob all
    (subst (λ (ss : List Schema). 2 ^ 28 < length (schema_list_bytes (schemas_at ss types))) c.requires.same over) is)

pub put_types-requires-clause-sound : goal.put_types-requires-clause-sound
put_types-requires-clause-sound g c = c.requires.sound

pub put_types-requires-clause-in_model : goal.put_types-requires-clause-in_model
put_types-requires-clause-in_model g c =
    in_types (length (g.B.Rows.schemas c.args.new.now)) c.in_ok-types.types (c.in_ok-types.ensures.all ∙ ap (λ (ss : List Schema). range_with_len 0 (length ss)) c.requires.same)

pub put_types-requires-clause-few : goal.put_types-requires-clause-few
put_types-requires-clause-few g c =
    few_listed (g.B.Rows.schemas c.args.new.now) c.in_ok-types.types
    (subst (λ (ss : List Schema). length (schema_list_bytes (schemas_at ss c.in_ok-types.types)) ≤ 2 ^ 28) c.requires.same c.in_ok-put_limited_header.ensures.short)

pub returns-in_err-put_types-clause-large : goal.returns-in_err-put_types-clause-large
returns-in_err-put_types-clause-large g c =
    let types = c.in_ok-types.types in
    let all = c.in_ok-types.ensures.all ∙ ap (λ (ss : List Schema). range_with_len 0 (length ss)) c.requires.same in
    let from : to_z w64 (of_z w64 c.args.origin) ≡ c.args.origin = grind (arith, ints, to_z-of_z) in
    let to : to_z w64 (of_z w64 c.args.destination) ≡ c.args.destination = grind (arith, ints, to_z-of_z) in
    let header =
    header_put c.put_limited_header.new.out.items c.new-out.result.items (to_z w64 (of_z w64 c.args.origin)) c.args.origin (to_z w64 (of_z w64 c.args.destination)) c.args.destination
    (schemas_at c.args.model.now types) (schemas_at (g.B.Rows.schemas c.args.new.now) types) c.in_ok-put_limited_header.ensures.ok c.new-out.ensures.items from to
    (ap (λ (ss : List Schema). schemas_at ss types) c.requires.same) in
    means_exit c.from_residual-in_err-put_types.result c.in_err-put_types.field-0.0 _ _ c.from_residual-in_err-put_types.ensures.1 c.in_err-put_types.ensures.large
    (snapshot_large (g.B.Rows.schemas c.args.new.now) (g.A.Rows.table c.args.old.now) (g.B.Rows.table c.args.new.now) types c.args.origin c.args.destination c.put_limited_header.new.out.items all header)

pub returns-clause-written : goal.returns-clause-written
returns-clause-written g c =
    let types = c.in_ok-types.types in
    let all = c.in_ok-types.ensures.all ∙ ap (λ (ss : List Schema). range_with_len 0 (length ss)) c.requires.same in
    let from : to_z w64 (of_z w64 c.args.origin) ≡ c.args.origin = grind (arith, ints, to_z-of_z) in
    let to : to_z w64 (of_z w64 c.args.destination) ≡ c.args.destination = grind (arith, ints, to_z-of_z) in
    let header =
    header_put c.put_limited_header.new.out.items c.new-out.result.items (to_z w64 (of_z w64 c.args.origin)) c.args.origin (to_z w64 (of_z w64 c.args.destination)) c.args.destination
    (schemas_at c.args.model.now types) (schemas_at (g.B.Rows.schemas c.args.new.now) types) c.in_ok-put_limited_header.ensures.ok c.new-out.ensures.items from to
    (ap (λ (ss : List Schema). schemas_at ss types) c.requires.same) in
    snapshot_written (g.B.Rows.schemas c.args.new.now) (g.A.Rows.table c.args.old.now) (g.B.Rows.table c.args.new.now) types c.args.origin c.args.destination c.put_limited_header.new.out.items all header
    c.put_types.new.out.items c.in_ok-put_types.ensures.written

pub returns-in_err-put_limited_header-clause-front : goal.returns-in_err-put_limited_header-clause-front
returns-in_err-put_limited_header-clause-front g c =
    let types = c.in_ok-types.types in
    let all = c.in_ok-types.ensures.all ∙ ap (λ (ss : List Schema). range_with_len 0 (length ss)) c.requires.same in
    means_exit c.from_residual-in_err-put_limited_header.result c.in_err-put_limited_header.field-0.0 (2 ^ 28 < length (schema_list_bytes (schemas_at c.args.model.now types))) _
    c.from_residual-in_err-put_limited_header.ensures.1 c.in_err-put_limited_header.ensures.large
    (λ over.
    inl (long_schemas (g.B.Rows.schemas c.args.new.now) types all (subst (λ (ss : List Schema). 2 ^ 28 < length (schema_list_bytes (schemas_at ss types))) c.requires.same over)))

pub returns-in_err-put_types-clause-front : goal.returns-in_err-put_types-clause-front
returns-in_err-put_types-clause-front g c =
    let types = c.in_ok-types.types in
    let all = c.in_ok-types.ensures.all ∙ ap (λ (ss : List Schema). range_with_len 0 (length ss)) c.requires.same in
    let from : to_z w64 (of_z w64 c.args.origin) ≡ c.args.origin = grind (arith, ints, to_z-of_z) in
    let to : to_z w64 (of_z w64 c.args.destination) ≡ c.args.destination = grind (arith, ints, to_z-of_z) in
    let header =
    header_put c.put_limited_header.new.out.items c.new-out.result.items (to_z w64 (of_z w64 c.args.origin)) c.args.origin (to_z w64 (of_z w64 c.args.destination)) c.args.destination
    (schemas_at c.args.model.now types) (schemas_at (g.B.Rows.schemas c.args.new.now) types) c.in_ok-put_limited_header.ensures.ok c.new-out.ensures.items from to
    (ap (λ (ss : List Schema). schemas_at ss types) c.requires.same) in
    means_exit c.from_residual-in_err-put_types.result c.in_err-put_types.field-0.0 _ _ c.from_residual-in_err-put_types.ensures.1 c.in_err-put_types.ensures.front
    (λ front.
    inr (snapshot_front (g.B.Rows.schemas c.args.new.now) (g.A.Rows.table c.args.old.now) (g.B.Rows.table c.args.new.now) types c.args.origin c.args.destination c.put_limited_header.new.out.items all header front))

use Rattle.std.proofs.Common.{◌≡◌, ◌<◌, ◌≤◌, ◌^◌, ℕ, List, length, refl, sym, ap, subst, inl, inr, arith}
use Rattle.std.specs.Int.{w64}
use mir.Val.{to_z, of_z}
use Rattle.std.proofs.lemmas.Int.{ints, to_z-of_z}
use Rattle.schema_model.specs.declared.schema.Schema.{Schema}
use Rattle.blob_frame.specs.Written.{schemas_at, schema_list_bytes}
use Rattle.blob_writing.proofs.Refusing.{header_put, means_exit}
use Rattle.blob_writing.specs.Changes.{IsFrontLong}
use Rattle.blob_writing.proofs.ChangedTypes.{all_below}
use Rattle.blob_writing.proofs.FewPaths.{few_listed}
use Rattle.blob_writing.proofs.OneDelta.{delta_large, delta_written, long_list}
use Rattle.blob_writing.proofs.delta.limited_delta.Goals as goal

pub put_limited_header-requires-clause-in_model : goal.put_limited_header-requires-clause-in_model
put_limited_header-requires-clause-in_model g c =
    all_below (length c.args.model.now) (length (g.B.Rows.schemas c.args.new.now)) (g.A.Rows.table c.args.old.now) (g.B.Rows.table c.args.new.now) c.args.plan.now.changed
    (ap (λ (ss : List Schema). length ss) (sym c.requires.same)) c.requires.plan.changed

pub returns-in_err-put_limited_header-clause-large : goal.returns-in_err-put_limited_header-clause-large
returns-in_err-put_limited_header-clause-large g c =
    let types = c.args.plan.now.changed in
    means_exit c.from_residual.result c.in_err-put_limited_header.field-0.0 (2 ^ 28 < length (schema_list_bytes (schemas_at c.args.model.now types))) _
    c.from_residual.ensures.1 c.in_err-put_limited_header.ensures.large
    (λ over blob is.
    long_list c.one_packing_of_places.ensures (g.B.Rows.schemas c.args.new.now) c.requires.sound (g.A.Rows.table c.args.old.now) (g.B.Rows.table c.args.new.now) c.requires.states types
    c.args.origin c.args.destination blob c.requires.plan.changed
    (subst (λ (ss : List Schema). 2 ^ 28 < length (schema_list_bytes (schemas_at ss types))) c.requires.same over) is)

pub put_changes-requires-clause-in_model : goal.put_changes-requires-clause-in_model
put_changes-requires-clause-in_model g c =
    all_below (length (g.B.Rows.schemas c.args.new.now)) (length (g.B.Rows.schemas c.args.new.now)) (g.A.Rows.table c.args.old.now) (g.B.Rows.table c.args.new.now) c.args.plan.now.changed
    refl c.requires.plan.changed

pub put_changes-requires-clause-few : goal.put_changes-requires-clause-few
put_changes-requires-clause-few g c =
    few_listed (g.B.Rows.schemas c.args.new.now) c.args.plan.now.changed
    (subst (λ (ss : List Schema). length (schema_list_bytes (schemas_at ss c.args.plan.now.changed)) ≤ 2 ^ 28) c.requires.same c.in_ok-put_limited_header.ensures.short)

pub returns-in_err-put_changes-clause-large : goal.returns-in_err-put_changes-clause-large
returns-in_err-put_changes-clause-large g c =
    let types = c.args.plan.now.changed in
    let from : to_z w64 (of_z w64 c.args.origin) ≡ c.args.origin = grind (arith, ints, to_z-of_z) in
    let to : to_z w64 (of_z w64 c.args.destination) ≡ c.args.destination = grind (arith, ints, to_z-of_z) in
    let header =
    header_put c.put_limited_header.new.out.items c.new-out.result.items (to_z w64 (of_z w64 c.args.origin)) c.args.origin (to_z w64 (of_z w64 c.args.destination)) c.args.destination
    (schemas_at c.args.model.now types) (schemas_at (g.B.Rows.schemas c.args.new.now) types) c.in_ok-put_limited_header.ensures.ok c.new-out.ensures.items from to
    (ap (λ (ss : List Schema). schemas_at ss types) c.requires.same) in
    means_exit c.from_residual-in_err-put_changes.result c.in_err-put_changes.field-0.0 _ _ c.from_residual-in_err-put_changes.ensures.1 c.in_err-put_changes.ensures.large
    (delta_large c.one_packing_of_places.ensures (g.B.Rows.schemas c.args.new.now) c.requires.sound (g.A.Rows.table c.args.old.now) (g.B.Rows.table c.args.new.now) c.requires.states types
    c.args.origin c.args.destination c.put_limited_header.new.out.items c.requires.plan.changed header)

pub returns-clause-written : goal.returns-clause-written
returns-clause-written g c =
    let types = c.args.plan.now.changed in
    let from : to_z w64 (of_z w64 c.args.origin) ≡ c.args.origin = grind (arith, ints, to_z-of_z) in
    let to : to_z w64 (of_z w64 c.args.destination) ≡ c.args.destination = grind (arith, ints, to_z-of_z) in
    let header =
    header_put c.put_limited_header.new.out.items c.new-out.result.items (to_z w64 (of_z w64 c.args.origin)) c.args.origin (to_z w64 (of_z w64 c.args.destination)) c.args.destination
    (schemas_at c.args.model.now types) (schemas_at (g.B.Rows.schemas c.args.new.now) types) c.in_ok-put_limited_header.ensures.ok c.new-out.ensures.items from to
    (ap (λ (ss : List Schema). schemas_at ss types) c.requires.same) in
    delta_written c.one_packing_of_places.ensures (g.B.Rows.schemas c.args.new.now) c.requires.sound (g.A.Rows.table c.args.old.now) (g.B.Rows.table c.args.new.now) c.requires.states types
    c.args.origin c.args.destination c.put_limited_header.new.out.items c.requires.plan.changed header c.put_changes.new.out.items c.in_ok-put_changes.ensures.written

pub returns-in_err-put_limited_header-clause-front : goal.returns-in_err-put_limited_header-clause-front
returns-in_err-put_limited_header-clause-front g c =
    let types = c.args.plan.now.changed in
    means_exit c.from_residual.result c.in_err-put_limited_header.field-0.0 (2 ^ 28 < length (schema_list_bytes (schemas_at c.args.model.now types))) _
    c.from_residual.ensures.1 c.in_err-put_limited_header.ensures.large
    (λ over.
    record {
      types = types;
      changed = c.requires.plan.changed;
      long = inl (subst (λ (ss : List Schema). 2 ^ 28 < length (schema_list_bytes (schemas_at ss types))) c.requires.same over);
    })

pub returns-in_err-put_changes-clause-front : goal.returns-in_err-put_changes-clause-front
returns-in_err-put_changes-clause-front g c =
    let types = c.args.plan.now.changed in
    let schemas = g.B.Rows.schemas c.args.new.now in
    let from : to_z w64 (of_z w64 c.args.origin) ≡ c.args.origin = grind (arith, ints, to_z-of_z) in
    let to : to_z w64 (of_z w64 c.args.destination) ≡ c.args.destination = grind (arith, ints, to_z-of_z) in
    let header =
    header_put c.put_limited_header.new.out.items c.new-out.result.items (to_z w64 (of_z w64 c.args.origin)) c.args.origin (to_z w64 (of_z w64 c.args.destination)) c.args.destination
    (schemas_at c.args.model.now types) (schemas_at schemas types) c.in_ok-put_limited_header.ensures.ok c.new-out.ensures.items from to
    (ap (λ (ss : List Schema). schemas_at ss types) c.requires.same) in
    means_exit c.from_residual-in_err-put_changes.result c.in_err-put_changes.field-0.0 _ _ c.from_residual-in_err-put_changes.ensures.1 c.in_err-put_changes.ensures.front
    (λ front.
    record {
      types = types;
      changed = c.requires.plan.changed;
      long = inr (subst (λ (h : List ℕ). IsFrontLong schemas (g.A.Rows.table c.args.old.now) (g.B.Rows.table c.args.new.now) types h) header front);
    })

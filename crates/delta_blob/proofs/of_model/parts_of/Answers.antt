use Rattle.std.proofs.Common.{List, Err, inl, rules, subst, sym}
use Rattle.std.specs.Prelude.{All}
use Rattle.blob_cursor.specs.Scene.{IsFree}
use Rattle.blob_faults.specs.Judge.{Blames}
use Rattle.delta_blob.specs.declared.part.DeltaPart.{DeltaPart}
use Rattle.delta_blob.specs.declared.of_model.NamedPart.{NamedPart}
use Rattle.delta_blob.specs.Judged.{parts_in}
use Rattle.delta_blob.specs.OfModel.{AreSpelled, HasFewFields, IsTypesFault, KeepsNamed, counts_in, names_in}
use Rattle.delta_blob.specs.Patch.{NamesOnce}
use Rattle.delta_blob.proofs.JudgedTypes.{counts_blame, counts_kind, names_blame, type_blames}
use Rattle.delta_blob.proofs.NameTelling.{err_same}
use Rattle.delta_blob.proofs.NamingParts.{named_seen, seen_of_model, seen_whole}
use Rattle.delta_blob.proofs.of_model.parts_of.Goals as goal

pub returns-in_err-check_names-clause-blames : goal.returns-in_err-check_names-clause-blames
returns-in_err-check_names-clause-blames c = λ spelled.
    let e = c.in_err-check_names.field-0.0 in
    let blames = c.in_err-check_names.ensures.blames (subst AreSpelled (sym c.as_slice.ensures) spelled) in
    err_same (Blames (parts_in c.args.model.now c.args.parts) IsFree) c.from_residual.result (Err e) (search rules)
    (names_blame c.args.model.now c.args.parts e (subst (λ (ps : List DeltaPart). Blames (names_in ps) IsFree e) c.as_slice.ensures blames))

pub returns-in_err-named-clause-blames : goal.returns-in_err-named-clause-blames
returns-in_err-named-clause-blames c = λ spelled.
    let e = c.in_err-named.field-0.0 in
    let once = subst NamesOnce c.as_slice.ensures c.in_ok-check_names.ensures.once in
    err_same (Blames (parts_in c.args.model.now c.args.parts) IsFree) c.from_residual-in_err-named.result (Err e) (search rules)
    (type_blames c.args.model.now c.args.parts e once c.in_err-named.ensures.blames)

pub returns-in_err-check_counts-clause-blames : goal.returns-in_err-check_counts-clause-blames
returns-in_err-check_counts-clause-blames c = λ spelled.
    let e = c.in_err-check_counts.field-0.0 in
    let once = subst NamesOnce c.as_slice.ensures c.in_ok-check_names.ensures.once in
    let fails = subst (λ (ns : List NamedPart). (counts_in ns).Fails e) c.as_slice-2.ensures c.in_err-check_counts.ensures in
    err_same (Blames (parts_in c.args.model.now c.args.parts) IsFree) c.from_residual-in_err-check_counts.result (Err e) (search rules)
    (inl (counts_blame c.args.model.now c.args.parts c.in_ok-named.named e once c.in_ok-named.ensures.found fails))

pub returns-in_err-check_counts-clause-kind : goal.returns-in_err-check_counts-clause-kind
returns-in_err-check_counts-clause-kind c =
    let e = c.in_err-check_counts.field-0.0 in
    err_same IsTypesFault c.from_residual-in_err-check_counts.result (Err e) (search rules) (counts_kind c.as_slice-2.result.now e c.in_err-check_counts.ensures)

pub seen_parts-requires : goal.seen_parts-requires
seen_parts-requires c =
    named_seen c.args.model.now c.args.parts c.in_ok-named.named c.in_ok-named.ensures.found (subst (λ (ps : List DeltaPart). All HasFewFields ps) c.as_slice.ensures c.in_ok-check_names.ensures.few) c.requires

pub returns-clause-found : goal.returns-clause-found
returns-clause-found c =
    let once = subst NamesOnce c.as_slice.ensures c.in_ok-check_names.ensures.once in
    let keep = subst (λ (ns : List NamedPart). All KeepsNamed ns) c.as_slice-2.ensures c.in_ok-check_counts.ensures in
    seen_of_model c.args.model.now c.args.parts c.in_ok-named.named c.in_ok-seen_parts.field-0 c.in_ok-named.ensures.model once c.in_ok-named.ensures.found keep c.in_ok-seen_parts.ensures

pub returns-clause-whole : goal.returns-clause-whole
returns-clause-whole c =
    let can = named_seen c.args.model.now c.args.parts c.in_ok-named.named c.in_ok-named.ensures.found (subst (λ (ps : List DeltaPart). All HasFewFields ps) c.as_slice.ensures c.in_ok-check_names.ensures.few) c.requires in
    let keep = subst (λ (ns : List NamedPart). All KeepsNamed ns) c.as_slice-2.ensures c.in_ok-check_counts.ensures in
    seen_whole c.args.model.now c.in_ok-named.named c.in_ok-seen_parts.field-0 c.in_ok-named.ensures.model can keep c.in_ok-seen_parts.ensures

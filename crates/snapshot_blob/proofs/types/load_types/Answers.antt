use Rattle.std.proofs.Common.{◌≡◌, ◌∙◌, [], List, length, ap, sym, subst, refl, rules, arith}
use Rattle.std.specs.List.{All, AllZip}
use Rattle.std.specs.Vec.Iter.{into_iter_items}
use Rattle.type_state.specs.State.{State}
use Rattle.type_rows.specs.WellFormed.{IsReadable}
use Rattle.blob_faults.specs.Judge.{Blames, each_of}
use Rattle.blob_faults.specs.Rows.{loads}
use Rattle.snapshot_blob.specs.declared.part.TypePart.{TypePart}
use Rattle.snapshot_blob.specs.Stated.{IsLoadedFrom, IsWant}
use Rattle.snapshot_blob.proofs.Loading.{parts_are, one_taken, states_more, all_taken}
use Rattle.snapshot_blob.proofs.Trials.{told_fault, type_blames}
use Rattle.snapshot_blob.proofs.Zipped.{all_middle}
use Rattle.snapshot_blob.proofs.types.load_types.Goals as goal

pub loop-part-init : goal.loop-part-init
loop-part-init c = record { parts = refl; long = search rules; loaded = subst (λ (states : List State). AllZip IsLoadedFrom [] states) (sym c.new-states.ensures) tt }

pub load_type-requires : goal.load_type-requires
load_type-requires c =
    let are = parts_are c.loop-part.yielded c.in-Some.ensures.steps.0 c.loop-part.invariant.parts c.into_iter-part-iterator.ensures.into_iter_gives.0 c.into_vec-part-items.ensures in
    let Readable : TypePart → Type 0 = λ part. IsReadable part.schema.shape part.section in
    all_middle Readable c.loop-part.yielded c.in-Some.part (into_iter_items c.next.new.self) (subst (λ (parts : List TypePart). All Readable parts) (sym are) c.requires)

pub returns-in_err-load_type : goal.returns-in_err-load_type
returns-in_err-load_type c =
    let are = parts_are c.loop-part.yielded c.in-Some.ensures.steps.0 c.loop-part.invariant.parts c.into_iter-part-iterator.ensures.into_iter_gives.0 c.into_vec-part-items.ensures in
    told_fault (λ (states : List State). AllZip IsLoadedFrom c.args.parts states) (Blames (each_of (λ (part : TypePart). loads part.at part.schema part.section) c.args.parts) IsWant)
    c.from_residual.result c.in_err-load_type.field-0.0 (search rules)
    (type_blames c.args.parts c.loop-part.yielded c.in-Some.part (into_iter_items c.next.new.self) c.loop-part.states c.in_err-load_type.field-0.0 are c.loop-part.invariant.loaded c.in_err-load_type.ensures)

pub loop-part-preserved : goal.loop-part-preserved
loop-part-preserved c = record {
  parts = one_taken c.loop-part.yielded (into_iter_items c.next.new.self) c.in-Some.ensures.steps.0 c.loop-part.invariant.parts;
  long = let was = c.loop-part.invariant.long in let gone = c.in-Some.ensures.steps.1 in let short = ap length c.in-Some.ensures.steps.0 in omega arith;
  loaded = states_more c.loop-part.yielded c.in-Some.part c.loop-part.states c.push.new.self c.in_ok-load_type.field-0 c.loop-part.invariant.loaded c.in_ok-load_type.ensures c.in_ok-push.ensures.ok;
}

pub returns : goal.returns
returns c =
    let done : c.loop-part.yielded ≡ c.args.parts =
    all_taken c.loop-part.yielded (into_iter_items c.loop-part.part-iterator) c.args.parts
    (c.loop-part.invariant.parts ∙ c.into_iter-part-iterator.ensures.into_iter_gives.0 ∙ c.into_vec-part-items.ensures) (sym c.loop-part.invariant.long ∙ c.in-None.ensures.steps.0) in
    subst (λ (parts : List TypePart). AllZip IsLoadedFrom parts c.loop-part.states) done c.loop-part.invariant.loaded

use Rattle.std.proofs.Common.{length, subst, sym}
use Rattle.std.specs.Prelude.{slice_index}
use Rattle.object_codec.specs.ObjectPlace.{HoldsPlace}
use Rattle.object_codec.specs.Sound.{IsFirstFault, SpellSome}
use Rattle.object_codec.proofs.Soundness.{was_none, was_some}
use Rattle.type_rows.specs.declared.fault.RowFault.{RowFault}
use Rattle.type_rows.specs.LoadFault.{FailsLoad}
use Rattle.type_rows.proofs.RecordFaults.{holds_listed, of_records, record_failed, records_tested, to_records}
use Rattle.type_rows.proofs.records.test_records.Goals as goal

pub first_fault-requires : goal.first_fault-requires
first_fault-requires c = λ k inside.
    to_records (λ fields widths first areas. HoldsPlace fields widths first areas (slice_index c.args.live.now k)) c.args.shape.now c.args.section.now
    c.fields.result.now c.as_slice-widths.result.now c.as_slice-first.result.now c.as_slice-areas.result.now c.fields.ensures c.as_slice-widths.ensures c.as_slice-first.ensures c.as_slice-areas.ensures
    (holds_listed c.args.shape.now c.args.section.now c.args.live.now c.requires.object c.requires.readable c.requires.live c.requires.placed k inside)

pub returns-in-None : goal.returns-in-None
returns-in-None c =
    let told =
    was_none (SpellSome c.fields.result.now c.as_slice-widths.result.now c.as_slice-first.result.now c.as_slice-areas.result.now c.args.live.now (length c.args.live.now))
    (IsFirstFault c.fields.result.now c.as_slice-widths.result.now c.as_slice-first.result.now c.as_slice-areas.result.now c.args.live.now) c.in_ok-found.found c.in-None.is c.in_ok-found.ensures.tells in
    records_tested c.args.shape.now c.args.section.now c.args.live.now c.requires.object c.requires.live c.requires.rising c.requires.placed
    (of_records (λ fields widths first areas. SpellSome fields widths first areas c.args.live.now (length c.args.live.now)) c.args.shape.now c.args.section.now
    c.fields.result.now c.as_slice-widths.result.now c.as_slice-first.result.now c.as_slice-areas.result.now c.fields.ensures c.as_slice-widths.ensures c.as_slice-first.ensures c.as_slice-areas.ensures
    told)

pub returns-in-Some : goal.returns-in-Some
returns-in-Some c =
    let told =
    was_some (SpellSome c.fields.result.now c.as_slice-widths.result.now c.as_slice-first.result.now c.as_slice-areas.result.now c.args.live.now (length c.args.live.now))
    (IsFirstFault c.fields.result.now c.as_slice-widths.result.now c.as_slice-first.result.now c.as_slice-areas.result.now c.args.live.now) c.in_ok-found.found (c.in-Some.place, c.in-Some.reason) c.in-Some.is c.in_ok-found.ensures.tells in
    subst (λ place. FailsLoad c.args.shape.now c.args.section.now (RowFault.At c.in-Some.reason place)) (sym c.from.ensures)
    (record_failed c.args.shape.now c.args.section.now c.args.live.now c.in-Some.place c.in-Some.reason c.requires.object c.requires.live c.requires.placed
    (of_records (λ fields widths first areas. IsFirstFault fields widths first areas c.args.live.now (c.in-Some.place, c.in-Some.reason)) c.args.shape.now c.args.section.now
    c.fields.result.now c.as_slice-widths.result.now c.as_slice-first.result.now c.as_slice-areas.result.now c.fields.ensures c.as_slice-widths.ensures c.as_slice-first.ensures c.as_slice-areas.ensures
    told))

use Rattle.std.proofs.Common.{rules, ◌∙◌, ap}
use Rattle.row_model.specs.Reach.{AreEntries}
use Rattle.hol_paths.specs.Slots.{Slotted, entries_of}
use Rattle.hol_paths.specs.Walked.{HasManyEntries, Walked}
use Rattle.hol_paths.proofs.Beginning.{built, counts_live, from_nothing}
use Rattle.hol_paths.proofs.Reserving.{kept_none, many_passed, never_many}
use Rattle.hol_paths.proofs.index.WalkIndex.build.Goals as goal

pub invariant_of-index : goal.invariant_of-index
invariant_of-index g c = kept_none c.new-entries.result c.new-entries.ensures

pub reserve-requires-clause-follows : goal.reserve-requires-clause-follows
reserve-requires-clause-follows g c =
    from_nothing (g.R.Rows.schemas c.args.rows.now) (g.R.Rows.table c.args.rows.now) c.args.path.type_index c.args.path.parts (entries_of c.new-entries.result.values c.new-entries.result.slots) c.new-none.result c.in_ok-live.live
    (ap (λ (e : Slotted). entries_of e.values e.slots) c.new-entries.ensures) c.new-none.ensures c.in_ok-live.ensures

pub returns-clause-index : goal.returns-clause-index
returns-clause-index g c = record {
  path_is = c.update.ensures.kept ∙ ap (λ (w : Walked). w.path) c.reserve.ensures.kept;
  entries_are = built (AreEntries (g.R.Rows.schemas c.args.rows.now) (g.R.Rows.table c.args.rows.now) c.args.path.type_index c.args.path.parts) c.reserve.new.self.next c.update.new.self.entries c.in_ok-reserve.ensures.reserved
      c.update.ensures.updated;
}

pub returns-clause-counted : goal.returns-clause-counted
returns-clause-counted g c = counts_live (g.R.Rows.table c.args.rows.now) c.args.path.type_index c.in_ok-live.live c.args.steps.now c.reserve.new.steps c.in_ok-live.ensures c.in_ok-reserve.ensures.counted

pub returns-in_err-reserve-clause-many : goal.returns-in_err-reserve-clause-many
returns-in_err-reserve-clause-many g c =
    many_passed c.from_residual-in_err-reserve.result c.in_err-reserve.field-0.0 (HasManyEntries (g.R.Rows.schemas c.args.rows.now) (g.R.Rows.table c.args.rows.now) c.args.path.type_index c.args.path.parts) (search rules)
    (λ same. c.reserve.ensures.many.0 (c.in_err-reserve.was ∙ same))

pub returns-clause-many : goal.returns-clause-many
returns-clause-many g c = (
  λ same. absurd cc,
  λ h. absurd (never_many c.reserve.result c.in_ok-reserve.field-0 (HasManyEntries (g.R.Rows.schemas c.args.rows.now) (g.R.Rows.table c.args.rows.now) c.args.path.type_index c.args.path.parts)
      c.in_ok-reserve.was c.reserve.ensures.many h),
)

use Rattle.std.proofs.Common.{rules, ◌∙◌, None, Some, subst, sym}
use Rattle.std.specs.Prelude.{Err, Ok}
use Rattle.hol_varint.specs.Yields.{Yields}
use Rattle.row_model.specs.Reach.{AreEntries}
use Rattle.hol_paths.specs.declared.fault.WalkFault.TheVariants as fault
use Rattle.hol_paths.specs.Slots.{next_of}
use Rattle.hol_paths.specs.Walked.{FollowsWalk, HasManyEntries, IsFree, Walked}
use Rattle.hol_paths.proofs.Reserving.{kept_still, many_passed, never_many}
use Rattle.hol_paths.proofs.index.WalkIndex.reserve.Goals as goal

pub read_next-requires-clause-follows : goal.read_next-requires-clause-follows
read_next-requires-clause-follows g c =
    subst (λ (a : Walked). FollowsWalk a.entries (g.R.Rows.schemas c.args.next.now) (g.R.Rows.table c.args.next.now) a.path.type_index a.path.parts c.args.removed.now c.args.added.now) (sym c.self.view_is) c.requires.follows

pub invariant_of-self : goal.invariant_of-self
invariant_of-self g c = kept_still c.self.inside.entries c.read_next.new.entries c.self.inside.keyed c.self.inside.next None c.self.invariant c.read_next.ensures.slots c.read_next.ensures.entries tt

pub returns-in_err-reserved-clause-many : goal.returns-in_err-reserved-clause-many
returns-in_err-reserved-clause-many g c =
    subst (λ (a : Walked). Yields IsFree c.from_residual.result (Err fault.Entries) (HasManyEntries (g.R.Rows.schemas c.args.next.now) (g.R.Rows.table c.args.next.now) a.path.type_index a.path.parts)) c.self.view_is
    (many_passed c.from_residual.result c.in_err-reserved.field-0.0 (HasManyEntries (g.R.Rows.schemas c.args.next.now) (g.R.Rows.table c.args.next.now) c.self.inside.path.type_index c.self.inside.path.parts) (search rules)
    (λ same. c.read_next.ensures.many.0 (c.in_err-reserved.was ∙ same)))

pub invariant_of-self-2 : goal.invariant_of-self-2
invariant_of-self-2 g c =
    kept_still c.self.inside.entries c.read_next.new.entries c.self.inside.keyed c.self.inside.next (Some c.in_ok-reserved.reserved) c.self.invariant c.read_next.ensures.slots c.read_next.ensures.entries c.in_ok-reserved.ensures.reserved

pub returns-clause-reserved : goal.returns-clause-reserved
returns-clause-reserved g c =
    subst (λ (a : Walked). AreEntries (g.R.Rows.schemas c.args.next.now) (g.R.Rows.table c.args.next.now) a.path.type_index a.path.parts (next_of c.read_next.new.entries c.in_ok-reserved.reserved)) c.self.view_is
    c.in_ok-reserved.ensures.next

pub returns-clause-many : goal.returns-clause-many
returns-clause-many g c =
    subst (λ (a : Walked). Yields {T = Unit {0}} IsFree (Ok tt) (Err fault.Entries) (HasManyEntries (g.R.Rows.schemas c.args.next.now) (g.R.Rows.table c.args.next.now) a.path.type_index a.path.parts)) c.self.view_is (
      λ same. absurd cc,
      λ h. absurd (never_many c.read_next.result c.in_ok-reserved.reserved (HasManyEntries (g.R.Rows.schemas c.args.next.now) (g.R.Rows.table c.args.next.now) c.self.inside.path.type_index c.self.inside.path.parts)
          c.in_ok-reserved.was c.read_next.ensures.many h),
    )

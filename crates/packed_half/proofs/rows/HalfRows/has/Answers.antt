use Rattle.std.proofs.Common.{subst, sym}
use Rattle.packed_half.specs.Laying.{HasRuns}
use Rattle.packed_half.proofs.Lookups.{never_set, dead_set, set_has, holds_under}
use Rattle.packed_half.proofs.rows.HalfRows.has.Goals as goal

pub returns-in_default : goal.returns-in_default
returns-in_default c =
    let self = c.args.self.now in
    never_set self.shape.now self.half.now self.words.now c.args.ordinal c.args.element c.in_default.not-Set

pub returns-then-not-contains : goal.returns-then-not-contains
returns-then-not-contains c =
    let self = c.args.self.now in
    dead_set self.shape.now self.half.now self.words.now c.args.ordinal c.args.element c.contains.result c.contains.ensures.member c.if-not-contains.true

pub has-requires : goal.has-requires
has-requires c =
    let self = c.args.self.now in
    holds_under self.shape.now self.half.now self.words.now c.runs.result c.args.ordinal c.from.result c.contains.result (subst HasRuns (sym c.in-Set.is) tt) c.requires c.runs.ensures c.contains.ensures.member
    c.if-not-contains.false c.from.ensures c.ranges.ordinal.fits

pub returns : goal.returns
returns c =
    let self = c.args.self.now in
    set_has self.shape.now c.in-Set.field-0 self.half.now self.words.now c.runs.result c.args.ordinal c.from.result c.args.element c.contains.result c.has.result c.in-Set.is c.runs.ensures
    c.contains.ensures.member c.if-not-contains.false c.from.ensures c.has.ensures

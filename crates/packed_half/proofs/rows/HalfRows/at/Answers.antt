use Rattle.std.proofs.Common.{subst, sym}
use Rattle.packed_half.specs.Laying.{HasRuns}
use Rattle.packed_half.proofs.Lookups.{never_map, dead_map, map_at, holds_under}
use Rattle.packed_half.proofs.rows.HalfRows.at.Goals as goal

pub returns-in_default : goal.returns-in_default
returns-in_default c =
    let self = c.args.self.now in
    never_map self.shape.now self.half.now self.words.now c.args.ordinal c.args.key c.in_default.not-Map

pub returns-then-not-contains : goal.returns-then-not-contains
returns-then-not-contains c =
    let self = c.args.self.now in
    dead_map self.shape.now self.half.now self.words.now c.args.ordinal c.args.key c.contains.result c.contains.ensures.member c.if-not-contains.true

pub at-requires : goal.at-requires
at-requires c =
    let self = c.args.self.now in
    holds_under self.shape.now self.half.now self.words.now c.runs.result c.args.ordinal c.from.result c.contains.result (subst HasRuns (sym c.in-Map.is) tt) c.requires c.runs.ensures c.contains.ensures.member
    c.if-not-contains.false c.from.ensures c.ranges.ordinal.fits

pub returns : goal.returns
returns c =
    let self = c.args.self.now in
    map_at self.shape.now c.in-Map.field-0 c.in-Map.field-1 self.half.now self.words.now c.runs.result c.args.ordinal c.from.result c.args.key c.contains.result c.at.result c.in-Map.is c.runs.ensures
    c.contains.ensures.member c.if-not-contains.false c.from.ensures c.at.ensures

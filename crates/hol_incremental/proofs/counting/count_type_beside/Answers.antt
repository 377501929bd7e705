use Rattle.std.proofs.Common.{◌∙◌, ◌+◌, ◌<◌, ◌-◌, ◌^◌, ℕ, sym, subst, arith}
use Rattle.std.proofs.lemmas.List.Elements.{All-contains}
use Rattle.ordinal_set.specs.Ordinals.{TellsNext, lacking}
use Rattle.ordinal_set.proofs.Beside.{lacking_member}
use Rattle.hol_incremental.specs.Counted.{CountsTo}
use Rattle.hol_incremental.proofs.CountedRows.{read_past, read_rest, read_row}
use Rattle.hol_incremental.proofs.LackingRows.{comes, stays}
use Rattle.hol_incremental.proofs.SumLists.{types_added}
use Rattle.hol_incremental.proofs.counting.count_type_beside.Goals as goal

pub count_row-requires-clause-live : goal.count_row-requires-clause-live
count_row-requires-clause-live g c =
    (comes (g.A.Rows.table c.args.rows.now) (g.B.Rows.table c.args.before.now) c.args.type_index c.ordinals-ordinals.result.now c.ordinals-others.result.now c.ordinals-ordinals.ensures c.ordinals-others.ensures
    c.in-Some.ordinal c.in-Some.ensures.tells.member).0

pub overflow_add-from : goal.overflow_add-from
overflow_add-from g c =
    let set = c.ordinals-ordinals.result.now in
    let member = (lacking_member set c.ordinals-others.result.now c.in-Some.ordinal c.in-Some.ensures.tells.member).0 in
    let small = All-contains (λ m. m < 2 ^ 32 - 1) set c.in-Some.ordinal c.in-Some.ensures.ordinals.small member in
    record { fits = omega (arith, small) }

pub loop-ordinal-preserved : goal.loop-ordinal-preserved
loop-ordinal-preserved g c =
    let S = g.A.Rows.schemas c.args.rows.now in
    let W = g.A.Rows.table c.args.rows.now in
    let B = g.B.Rows.table c.args.before.now in
    let t = c.args.type_index in
    let set = c.ordinals-ordinals.result.now in
    let other = c.ordinals-others.result.now in
    let o = c.in-Some.ordinal in
    let next = c.in-Some.ensures.tells in
    let inv = c.loop-ordinal.invariant in
    let come = comes W B t set other c.ordinals-ordinals.ensures c.ordinals-others.ensures o next.member in
    let member = (lacking_member set other o next.member).0 in
    let small = All-contains (λ m. m < 2 ^ 32 - 1) set o c.in-Some.ensures.ordinals.small member in
    record {
      small = omega (arith, small);
      types = c.in_ok-count_row.ensures.types ∙ inv.types;
      sums = types_added S W t o c.loop-ordinal.tally.sums.items c.count_row.new.tally.sums.items come.0 c.in_ok-count_row.ensures.sums ∙ inv.sums;
      read = λ start first.
          subst (λ (n : ℕ). CountsTo S B W t (o + 1) start c.count_row.new.tally.counts c.count_row.new.tally.sums.items n) (sym c.in_ok-count_row.ensures.counted)
          (read_row S B W c.requires.more t o start c.loop-ordinal.steps c.loop-ordinal.tally.counts c.count_row.new.tally.counts c.loop-ordinal.tally.sums.items c.count_row.new.tally.sums.items c.requires.known c.requires.fits.types come.0 come.1
          (read_past S B W c.requires.more t c.loop-ordinal.from o start c.loop-ordinal.steps c.loop-ordinal.tally.counts c.loop-ordinal.tally.sums.items next.from
          (λ q from low live. stays W B t set other c.ordinals-ordinals.ensures c.ordinals-others.ensures q (λ among. (let least = next.least q among from in omega (arith, least, low))) live) (inv.read start first))
          c.in_ok-count_row.ensures.types c.in_ok-count_row.ensures.raised c.in_ok-count_row.ensures.sums);
    }

pub returns : goal.returns
returns g c start first =
    let S = g.A.Rows.schemas c.args.rows.now in
    let W = g.A.Rows.table c.args.rows.now in
    let B = g.B.Rows.table c.args.before.now in
    let set = c.ordinals-ordinals.result.now in
    let other = c.ordinals-others.result.now in
    let from = c.loop-ordinal.from in
    let none = subst (λ answer. TellsNext from (lacking set other) answer) c.in_default.is c.first_beside.ensures.tells in
    read_rest S B W c.requires.more c.args.type_index from start c.loop-ordinal.steps c.loop-ordinal.tally.counts c.loop-ordinal.tally.sums.items
    (λ q late live. stays W B c.args.type_index set other c.ordinals-ordinals.ensures c.ordinals-others.ensures q (λ among. (let low = none q among in omega (arith, low, late))) live)
    (c.loop-ordinal.invariant.read start first)

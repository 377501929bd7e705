use Rattle.std.proofs.Common.{◌∙◌, ℕ, ◌≤◌, List, ap, sym, subst, refl, length, sum, arith}
use Rattle.std.specs.Prelude.{All}
use Rattle.seen_patches.proofs.Columned.{columned, seen_small, sum_small}
use Rattle.seen_patches.proofs.section.with_columns.Goals as goal

pub seen_words-requires-clause-small : goal.seen_words-requires-clause-small
seen_words-requires-clause-small c =
    let is = ap sum c.as_slice-old.ensures in
    let small = sum_small (length c.args.theirs.now) c.args.raw.widths c.requires.columns.long c.requires.theirs_few c.requires.columns.narrow in
    omega (arith, is, small)

pub seen_words-requires-clause-few : goal.seen_words-requires-clause-few
seen_words-requires-clause-few c =
    let narrow = subst (λ (ws : List ℕ). All (λ width. width ≤ 64) ws) (sym c.as_slice-old.ensures) c.requires.columns.narrow in
    let small = seen_small c.args.mine.now c.in_ok-named.named c.as_slice-old.result.now c.as_slice-new.result.now c.requires.few narrow (c.as_slice-new.ensures ∙ c.in_ok-widths.ensures) in
    omega (arith, small)

pub returns : goal.returns
returns c =
    columned c.args.mine.now c.args.theirs.now c.in_ok-named.named c.args.raw _ c.as_slice-old.result.now c.as_slice-new.result.now c.as_slice-from.result.now c.len-places.result
    c.in_ok-named.ensures c.as_slice-old.ensures c.as_slice-new.ensures c.as_slice-from.ensures c.len-places.ensures
    refl c.in_ok-widths.ensures c.shared_bits-own.ensures refl c.in_ok-first.ensures.long c.in_ok-first.ensures.are c.in_ok-first.ensures.elements c.in_ok-first.ensures.bits refl c.in_ok-areas.ensures refl refl

use Rattle.std.proofs.Common.{ℕ, List, arith, subst, sym}
use Rattle.list_codec.specs.ListPlace.{FailsListRow, SpellsList}
use Rattle.list_codec.specs.ListRows.{FailsAt, SpellsAt}
use Rattle.type_rows.specs.RunItems.{AreListsOf}
use Rattle.object_codec.proofs.Soundness.{was_none, was_some}
use Rattle.type_rows.proofs.FirstPlaces.{failed_here, rows_tested, spelled_more}
use Rattle.type_rows.proofs.FoundRows.{listed_below, read_there}
use Rattle.type_rows.proofs.RunFaults.{holds_lists, list_fails, list_spells, of_lists}
use Rattle.type_rows.proofs.SectionPlaces.{list_widths}
use Rattle.type_rows.proofs.runs.test_lists.Goals as goal

pub fault-requires : goal.fault-requires
fault-requires c =
    let section = c.args.section.now in
    let place = c.from-place.result in
    let at = read_there c.args.live.now c.loop-ordinal.ordinal-index place (omega (arith, c.loop-ordinal-test.true)) c.from-place.ensures in
    holds_lists c.args.shape.now section c.loop-ordinal.lists.rows place c.requires.list c.requires.readable c.loop-ordinal.invariant.1
    (listed_below section c.args.live.now c.loop-ordinal.ordinal-index place c.requires.live c.requires.placed at)

pub returns-in-Some-clause-tells : goal.returns-in-Some-clause-tells
returns-in-Some-clause-tells c =
    let section = c.args.section.now in
    let place = c.from-place.result in
    let rows = c.loop-ordinal.lists.rows in
    let at = read_there c.args.live.now c.loop-ordinal.ordinal-index place (omega (arith, c.loop-ordinal-test.true)) c.from-place.ensures in
    let fails = was_some ((ordinals : List ℕ) × SpellsAt rows place ordinals) (FailsAt rows place) c.in_ok-reason.field-0 c.in-Some.reason c.in-Some.is c.in_ok-reason.ensures.tells in
    failed_here c.args.shape.now section c.args.live.now c.loop-ordinal.ordinal-index place c.in-Some.reason c.requires.live c.requires.placed c.loop-ordinal.invariant.0 at
    (list_fails c.args.shape.now section place c.in-Some.reason c.requires.list
    (of_lists (λ w t f s. FailsListRow w t f s place c.in-Some.reason) section rows c.loop-ordinal.invariant.1 fails))

pub loop-ordinal-preserved : goal.loop-ordinal-preserved
loop-ordinal-preserved c =
    let section = c.args.section.now in
    let place = c.from-place.result in
    let rows = c.loop-ordinal.lists.rows in
    let at = read_there c.args.live.now c.loop-ordinal.ordinal-index place (omega (arith, c.loop-ordinal-test.true)) c.from-place.ensures in
    let spells = was_none ((ordinals : List ℕ) × SpellsAt rows place ordinals) (FailsAt rows place) c.in_ok-reason.field-0 c.in_default.is c.in_ok-reason.ensures.tells in (
      spelled_more c.args.shape.now section c.args.live.now c.loop-ordinal.ordinal-index place c.loop-ordinal.invariant.0 at
          (list_spells c.args.shape.now section place c.requires.list
          (of_lists (λ w t f s. (ordinals : List ℕ) × SpellsList w t f s place ordinals) section rows c.loop-ordinal.invariant.1 spells)),
      subst (AreListsOf section) (sym c.in_ok-reason.ensures.rows) c.loop-ordinal.invariant.1,
    )

pub returns-clause-tells : goal.returns-clause-tells
returns-clause-tells c =
    rows_tested c.args.shape.now c.args.section.now c.args.live.now c.loop-ordinal.ordinal-index c.requires.live c.requires.rising c.requires.placed c.loop-ordinal.invariant.0 (omega (arith, c.loop-ordinal-test.false))

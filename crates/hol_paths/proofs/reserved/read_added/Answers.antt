use Rattle.std.proofs.Common.{rules, ◌∙◌, ◌+◌, List, ap, arith, length, subst, sym, take}
use Rattle.std.proofs.lemmas.List.{length-map}
use Rattle.hol_paths.specs.declared.entries.Slot.{Slot}
use Rattle.hol_paths.specs.Slots.{ReachMany, entries_of, entry_of}
use Rattle.hol_paths.specs.Walked.{AreAdded}
use Rattle.hol_paths.proofs.Coming.{added_many, added_more, all_added, entries_stay, none_added}
use Rattle.hol_paths.proofs.MetNumbers.{none_are_met}
use Rattle.hol_paths.proofs.Reserving.{many_passed}
use Rattle.hol_paths.proofs.reserved.read_added.Goals as goal

pub loop-ordinal-init : goal.loop-ordinal-init
loop-ordinal-init g c = record {
  slots = search rules;
  room = search rules;
  entries = search rules;
  known = λ k d within. absurd (omega (arith, within, ap (λ (l : List Slot). length l) c.new-coming.ensures.items));
  added = none_added (g.R.Rows.schemas c.args.rows.now) (g.R.Rows.table c.args.rows.now) c.args.path.now.type_index c.args.path.now.parts c.args.added.now (entries_of c.args.entries.now.values c.new-coming.result.items)
      (ap (entries_of c.args.entries.now.values) c.new-coming.ensures.items);
  met = none_are_met (g.R.Rows.schemas c.args.rows.now) (g.R.Rows.table c.args.rows.now) c.args.path.now.type_index c.args.path.now.parts (entries_of c.args.entries.now.values c.new-coming.result.items) c.in_ok-met.met.items c.in_ok-met.ensures;
  few = omega (arith, ap (λ (l : List Slot). length l) c.new-coming.ensures.items);
  counted = omega arith;
}

pub loop-ordinal-preserved : goal.loop-ordinal-preserved
loop-ordinal-preserved g c =
    let S = g.R.Rows.schemas c.args.rows.now in
    let T = g.R.Rows.table c.args.rows.now in
    let t = c.args.path.now.type_index in
    let parts = c.args.path.now.parts in
    let at = c.loop-ordinal.invariant in
    let k = c.loop-ordinal.ordinal-index in
    let told = c.in_ok-push_row.ensures in
    let old = c.loop-ordinal.entries.values in
    let new = c.push_row.new.entries.values in
    record {
      slots = told.slots ∙ at.slots;
      room = told.room ∙ at.room;
      entries = entries_stay c.args.entries.now.values old new c.args.entries.now.slots c.loop-ordinal.entries.slots at.slots told.entries at.entries;
      known = told.known;
      added = subst (AreAdded S T t parts (take (k + 1) c.args.added.now)) (sym told.pushed.behind)
          (added_more S T t parts c.args.added.now k c.requires.rise c.loop-ordinal-test.true (entries_of old c.loop-ordinal.coming.items) told.pushed.values at.added told.pushed.reached);
      met = told.met;
      few = told.few;
      counted = omega (arith, c.tick.ensures, at.counted);
    }

pub returns-in_err-push_row-clause-many : goal.returns-in_err-push_row-clause-many
returns-in_err-push_row-clause-many g c =
    let S = g.R.Rows.schemas c.args.rows.now in
    let T = g.R.Rows.table c.args.rows.now in
    let t = c.args.path.now.type_index in
    let parts = c.args.path.now.parts in
    let at = c.loop-ordinal.invariant in
    let old = c.loop-ordinal.entries.values in
    let coming = c.loop-ordinal.coming.items in
    (many_passed c.from_residual-in_err-push_row.result c.in_err-push_row.field-0.0 (ReachMany S T t parts c.args.added.now c.args.most) (search rules)
    (λ same. let many = c.push_row.ensures.many (c.in_err-push_row.was ∙ same) in
    added_many S T t parts c.args.added.now c.loop-ordinal.ordinal-index c.requires.rise c.loop-ordinal-test.true (entries_of old coming) many.0 at.added many.1 c.args.most
    (omega (arith, many.2, length-map coming (entry_of old))))).0

pub returns-clause-added : goal.returns-clause-added
returns-clause-added g c = all_added (g.R.Rows.schemas c.args.rows.now) (g.R.Rows.table c.args.rows.now) c.args.path.now.type_index c.args.path.now.parts c.args.added.now c.loop-ordinal.ordinal-index
    (entries_of c.loop-ordinal.entries.values c.loop-ordinal.coming.items) c.loop-ordinal-test.false c.loop-ordinal.invariant.added

use Rattle.std.proofs.Common.{◌<◌, ◌∙◌, length, refl, arith}
use Rattle.type_rows.specs.Patches.{places_in}
use Rattle.type_rows.specs.Rows.{row_in}
use Rattle.type_state.specs.Counted.{Comes}
use Rattle.type_state.specs.Differences.{added_of, addition}
use Rattle.type_state.proofs.Comings.{brought, brought_long}
use Rattle.type_state.proofs.CountedRows.{all_counted, all_fit, begun, come_more, fits_more, fits_so}
use Rattle.type_state.proofs.counting.add_rows.Goals as goal

pub loop-place-init : goal.loop-place-init
loop-place-init c = record { counted = λ rows free. begun rows (added_of c.args.differences.now) c.args.totals.now; fits = λ k row inside. absurd (omega arith); long = refl }

pub loop-place-preserved : goal.loop-place-preserved
loop-place-preserved c =
    let ds = c.args.differences.now in
    let k = c.loop-place.place in
    let shape = ds.schema.now.shape in
    let d = addition shape ds.patch.now k in
    let inside : k < length ds.patch.now.added = omega (arith, c.len-place-end.ensures, c.loop-place-test.true) in
    let long = brought_long ds in
    let within : k < length (added_of ds) = omega (arith, long, inside) in
    let comes : Comes shape ds.patch.now.widths (row_in shape (places_in ds.patch.now) k) c.loop-place.totals c.add_row.new.totals = c.add_row.ensures c.if-not-add_row.false in
    record {
      counted = λ rows free. come_more rows (added_of ds) c.args.totals.now c.loop-place.totals c.add_row.new.totals k d (c.loop-place.invariant.counted rows free) c.requires.apart.added within (brought ds k inside) (free k 0 inside) comes.more;
      fits = fits_more shape ds.patch.now.widths (added_of ds) k d c.loop-place.invariant.fits within (brought ds k inside)
          (λ row at. fits_so shape ds.patch.now.widths c.loop-place.totals c.add_row.new.totals (row_in shape (places_in ds.patch.now) k) row at comes);
      long = comes.more.long ∙ c.loop-place.invariant.long;
    }

pub returns-clause-counted : goal.returns-clause-counted
returns-clause-counted c = λ t rows free.
    all_counted rows (added_of c.args.differences.now) c.args.totals.now c.loop-place.totals c.loop-place.place (c.loop-place.invariant.counted rows free) (let long = brought_long c.args.differences.now in omega (arith, long, c.len-place-end.ensures, c.loop-place-test.false))

pub returns-clause-fits : goal.returns-clause-fits
returns-clause-fits c = λ t.
    all_fit c.args.differences.now.schema.now.shape c.args.differences.now.patch.now.widths (added_of c.args.differences.now) c.loop-place.place c.loop-place.invariant.fits (let long = brought_long c.args.differences.now in omega (arith, long, c.len-place-end.ensures, c.loop-place-test.false))

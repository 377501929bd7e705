use Rattle.type_rows.proofs.PatchOrdinals.{added_first, added_pass, removed_pass, removed_rise, staying_first, staying_pass}
use Rattle.type_rows.proofs.ordinals.first_bad_ordinal.Goals as goal

pub returns-in-Some-first_bad_added : goal.returns-in-Some-first_bad_added
returns-in-Some-first_bad_added c = λ old same.
    added_first c.args.patch.now c.args.live.now old same c.place_count-places.result c.as_slice.result.now c.in-Some-first_bad_added.ordinal c.place_count-places.ensures.is c.as_slice.ensures
    (removed_pass c.args.patch.now c.args.live.now old same c.as_slice-removed.result.now c.as_slice-removed.ensures c.in_default.ensures) c.in-Some-first_bad_added.ensures

pub first_staying_outside-requires : goal.first_staying_outside-requires
first_staying_outside-requires c = removed_rise c.args.live.now c.as_slice-removed.result.now c.in_default.ensures

pub returns-in-Some-first_staying_outside : goal.returns-in-Some-first_staying_outside
returns-in-Some-first_staying_outside c = λ old same.
    staying_first c.args.patch.now c.args.live.now old same c.place_count-places.result c.as_slice-removed.result.now c.in-Some-first_staying_outside.ordinal c.place_count-places.ensures.is c.as_slice-removed.ensures
    (removed_pass c.args.patch.now c.args.live.now old same c.as_slice-removed.result.now c.as_slice-removed.ensures c.in_default.ensures)
    (added_pass c.args.patch.now c.args.live.now old same c.place_count-places.result c.as_slice.result.now c.place_count-places.ensures.is c.as_slice.ensures c.in_default-first_bad_added.ensures)
    c.in-Some-first_staying_outside.ensures

pub returns : goal.returns
returns c = λ old same. record {
  removed = removed_pass c.args.patch.now c.args.live.now old same c.as_slice-removed.result.now c.as_slice-removed.ensures c.in_default.ensures;
  added = added_pass c.args.patch.now c.args.live.now old same c.place_count-places.result c.as_slice.result.now c.place_count-places.ensures.is c.as_slice.ensures c.in_default-first_bad_added.ensures;
  staying = staying_pass c.args.patch.now c.args.live.now old same c.place_count-places.result c.as_slice-removed.result.now c.place_count-places.ensures.is c.as_slice-removed.ensures c.in_default-first_staying_outside.ensures;
}

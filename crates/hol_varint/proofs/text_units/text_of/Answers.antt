use Rattle.hol_varint.proofs.Characters.{text_some, text_none, text_found}
use Rattle.hol_varint.proofs.text_units.text_of.Goals as goal

pub returns-clause-some : goal.returns-clause-some
returns-clause-some c =
    let of = rw c.as_slice.ensures at c.in_ok-from_utf16.ensures.ok in
    rw c.ok.ensures.value (text_some c.args.units.now c.in_ok-from_utf16.field-0 of)

pub returns-clause-none : goal.returns-clause-none
returns-clause-none c =
    let of = rw c.as_slice.ensures at c.in_ok-from_utf16.ensures.ok in
    let unpaired = rw c.as_slice.ensures at c.in_ok-from_utf16.ensures.unpaired in
    rw c.ok.ensures.value (text_none c.args.units.now c.in_ok-from_utf16.field-0 of unpaired)

pub returns-clause-found : goal.returns-clause-found
returns-clause-found c =
    let of = rw c.as_slice.ensures at c.in_ok-from_utf16.ensures.ok in
    let unpaired = rw c.as_slice.ensures at c.in_ok-from_utf16.ensures.unpaired in
    rw c.ok.ensures.value (text_found c.args.units.now c.in_ok-from_utf16.field-0 of unpaired)

use Rattle.json_rows.proofs.Records.{fits_long}
use Rattle.json_rows.proofs.stored.shaped_value.Goals as goal

pub record_value-requires : goal.record_value-requires
record_value-requires c =
    rw (c.as_slice.ensures, c.as_slice-in-Object-Object.ensures)
    (fits_long _ _ _ _ _ c.in-Object-Object.is-0 c.in-Object-Object.is-1 c.requires)

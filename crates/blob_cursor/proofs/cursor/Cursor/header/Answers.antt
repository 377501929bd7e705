use Rattle.std.proofs.Common.{◌≡◌, refl, rules, arith}
use Rattle.std.specs.Int.{w64}
use mir.Val.{to_z, of_z}
use Rattle.std.proofs.lemmas.Int.{ints, to_z-of_z}
use Rattle.blob_frame.specs.Header.{header}
use Rattle.blob_cursor.proofs.Chain.{reads_then, reads_stops, reads_value}
use Rattle.blob_cursor.proofs.cursor.Cursor.header.Goals as goal

pub returns-in_err-format : goal.returns-in_err-format
unfolding header
returns-in_err-format g c = record { reads = reads_stops _ c.in_err-format.ensures.reads (search rules) }

pub returns-in_err-origin : goal.returns-in_err-origin
unfolding header
returns-in_err-origin g c = record { reads = reads_then _ c.in_ok-format.ensures.reads (reads_stops _ c.in_err-origin.ensures.reads (search rules)) }

pub returns-in_err-destination : goal.returns-in_err-destination
unfolding header
returns-in_err-destination g c = record { reads = reads_then _ c.in_ok-format.ensures.reads (reads_then _ c.in_ok-origin.ensures.reads (reads_stops _ c.in_err-destination.ensures.reads (search rules))) }

pub returns-in_err-schemas : goal.returns-in_err-schemas
unfolding header
returns-in_err-schemas g c = record { reads = reads_then _ c.in_ok-format.ensures.reads (reads_then _ c.in_ok-origin.ensures.reads (reads_then _ c.in_ok-destination.ensures.reads (reads_stops _ c.in_err-schemas.ensures.reads (search rules)))) }

pub returns-in_err-tags : goal.returns-in_err-tags
unfolding header
returns-in_err-tags g c = record { reads = reads_then _ c.in_ok-format.ensures.reads (reads_then _ c.in_ok-origin.ensures.reads (reads_then _ c.in_ok-destination.ensures.reads (reads_then _ c.in_ok-schemas.ensures.reads (reads_stops _ c.in_err-tags.ensures.reads (search rules))))) }

pub returns : goal.returns
unfolding header
returns g c =
    let from : to_z w64 (of_z w64 c.in_ok-origin.origin) ≡ c.in_ok-origin.origin = grind (arith, ints, to_z-of_z) in
    let to : to_z w64 (of_z w64 c.in_ok-destination.destination) ≡ c.in_ok-destination.destination = grind (arith, ints, to_z-of_z) in
    record {
      reads = reads_then _ c.in_ok-format.ensures.reads (reads_then _ c.in_ok-origin.ensures.reads (reads_then _ c.in_ok-destination.ensures.reads
          (reads_then _ c.in_ok-schemas.ensures.reads (reads_then _ c.in_ok-tags.ensures.reads (reads_value c.in_ok-tags.ensures.reads.over (rw (from, to) refl))))));
    }

-- How far a reader goes along blobs.
use Rattle.std.specs.Prelude.{ℕ, List, Option, IfSome}
use Rattle.hol_io.specs.declared.name.BlobName.{BlobName}
use Rattle.hol_io.specs.Store.{Store}
use Rattle.hol_answers.specs.declared.refusal.Refusal.{Refusal}
use Rattle.hollow_machine.specs.Kept.{Kept, Reader, kept_with_reader, machine_of}
use Rattle.hollow_machine.specs.PlanOrders.{Goes}

-- Over what the store holds, where it tells it, a reader goes along the blobs, whatever producer is kept: so many are applied, and why the next one was refused,
-- if one was.
abbrev pub GoesAlong : Option Store → Reader → List BlobName → ℕ → Option Refusal → Reader → Type 0
GoesAlong held reader names applied refused reader' =
    IfSome held (λ store. (kept : Kept) → Goes (machine_of store (kept_with_reader kept reader)) names applied refused (machine_of store (kept_with_reader kept reader')))

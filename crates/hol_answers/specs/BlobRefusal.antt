-- The refusal of a blob, by its fault.
use Rattle.std.specs.Prelude.{Some, Result, Ok, Err}
use Rattle.hol_io.specs.declared.name.BlobName.{BlobName}
use Rattle.blob_frame.specs.declared.fault.BlobFault.{BlobFault}
use Rattle.blob_frame.specs.declared.fault.BlobFault.TheVariants as fault
use Rattle.hol_orders.specs.declared.order_stop.OrderStop.{OrderStop}
use Rattle.hol_orders.specs.declared.order_stop.OrderStop.TheVariants as stop
use Rattle.hol_answers.specs.declared.refusal.Refusal.{Refusal}
use Rattle.hol_answers.specs.declared.refusal.Refusal.TheVariants as refusal
use Rattle.hol_answers.specs.Refusal.{bad_item, other_origin}

-- the refusal for a fault of the blob of a name, or why the call stops
abbrev pub refusal_of_blob : BlobName → BlobFault → Result Refusal OrderStop
refusal_of_blob name (fault.NoBlob other) = Ok (refusal.NoBlob name)
refusal_of_blob name (fault.Large limit) = Ok (refusal.TooLarge limit)
refusal_of_blob name (fault.Bad at reason) = Ok (bad_item name at reason)
refusal_of_blob name (fault.BadRow at reason type_name ordinal) = Ok (refusal.BadBlob (record { blob = name; at = at; reason = reason; row = Some (record { type_name = type_name; ordinal = ordinal }) }))
refusal_of_blob name (fault.OtherOrigin found current) = Ok (other_origin name found current)
refusal_of_blob name (fault.OtherModel type_name) = Ok (refusal.OtherModel name type_name)
refusal_of_blob name fault.Store = Err stop.Store
refusal_of_blob name fault.Memory = Err stop.Memory

-- What `head` answers: the header of the blob of a name, or why there is none.
use Rattle.std.specs.Prelude.{ℕ, List, Option, Some}
use Rattle.hol_io.specs.declared.name.BlobName.{BlobName}
use Rattle.hol_io.specs.Store.{Store, told}
use Rattle.blob_frame.specs.Header.{HasHeader}
use Rattle.hol_answers.specs.declared.reply.Reply.{Reply}
use Rattle.hol_answers.specs.declared.reply.Reply.TheVariants.{Head, Refused}
use Rattle.hollow_machine.specs.Blobs.{HeadRefusal}

-- The answer for what a name holds, if anything.
abbrev pub HeadIs : BlobName → Option (List ℕ) → Reply → Type 0
HeadIs name content (Head header) = HasHeader content header
HeadIs name content (Refused refusal) = HeadRefusal name content refusal
HeadIs name content _ = ⊥

-- The answer for the blob of a name in a store.
abbrev pub HeadReply : Store → BlobName → Reply → Type 0
HeadReply store name reply = HeadIs name (told (Some store) name) reply

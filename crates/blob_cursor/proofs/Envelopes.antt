-- Reading what stands behind the number of an envelope.
use Rattle.std.proofs.Common.{◌≡◌, ℕ, zero, suc, Result, Ok, arith}
use Rattle.blob_grammar.specs.Form.{Form, behind_number}
use Rattle.blob_frame.specs.declared.fault.BlobFault.{BlobFault}
use Rattle.blob_cursor.specs.Scene.{Scene, IsOver, Reads}
use Rattle.blob_cursor.proofs.Chain.{reads_value}

-- behind 0 stands nothing
pub reads_unlisted : {V : Type 0} (v : V) (form : Form V) (n : ℕ) {now : Scene} {r : Result V BlobFault} → n ≡ 0 → IsOver now → r ≡ Ok v →
    Reads (behind_number v form n) now now r
unfolding behind_number
reads_unlisted v form zero none over is = reads_value over is
reads_unlisted v form (suc n) none over is = absurd (omega arith)

-- behind another number stands the rest
pub reads_listed : {V : Type 0} (v : V) (form : Form V) (n : ℕ) {before after : Scene} {r : Result V BlobFault} → (n ≡ 0 → ⊥) → Reads form before after r →
    Reads (behind_number v form n) before after r
unfolding behind_number
reads_listed v form zero some p = absurd (some (omega arith))
reads_listed v form (suc n) some p = p

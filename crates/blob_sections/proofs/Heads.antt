-- Reading the offset of a type.
use Rattle.std.proofs.Common.{Ok, refl}
use Rattle.blob_grammar.specs.Form.{here}
use Rattle.blob_cursor.specs.Scene.{Scene, IsOver, Reads}
use Rattle.blob_cursor.proofs.Chain.{reads_found, stays_here}

-- the offset itself
pub reads_here : {now : Scene} → IsOver now → Reads here now now (Ok now.place.at)
unfolding here
reads_here {now} over = reads_found (stays_here now) over (λ blob holds. (refl, refl)) refl

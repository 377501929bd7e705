-- How a cursor reads ahead.
use Rattle.std.specs.Prelude.{◌≡◌, ◌≤◌, ◌<◌, ◌+◌, ◌-◌, ℕ, zero, suc, List, [], ◌∷◌, length, take, drop, min, Bool, Option, Some, Result, Err, OnOk, IfOk, IfErr, IfSome, MatchBool}
use Rattle.std.specs.Int.{w64, from_be_bytes}
use Rattle.hol_varint.specs.Varint.{GoOn}
use Rattle.blob_grammar.specs.Words.{StopsLater}
use Rattle.hol_io.specs.Causes.{Rose}
use Rattle.hol_io.specs.Store.{told}
use Rattle.schema_model.specs.declared.reason.Reason.TheVariants.{Truncated}
use Rattle.blob_frame.specs.declared.fault.BlobFault.{BlobFault}
use Rattle.blob_frame.specs.declared.fault.BlobFault.TheVariants as fault
use Rattle.blob_cursor.specs.Scene.{Scene, Stays, IsOver, IsReadFault}

-- The cursor stays at its place, and as many bytes stand ahead of it as are there, up to this count.
pub record Fills {T : Type 0} (count : ℕ) (before after : Scene) (answer : Result T BlobFault) : Type 0 where
  pub stays : Stays before after
  pub over : IsOver after
  pub place : after.place.at ≡ before.place.at
  pub cause : answer ≡ Err fault.Store → Rose before.faults after.faults
  pub kind : IfErr answer (λ e. e ≡ fault.Store)
  pub enough : OnOk answer (IfSome (told before.held before.place.name)
      (λ blob. min count (length blob - before.place.at) ≤ length after.place.ahead))

-- What an answer says where this many bytes are needed.
abbrev pub TellsNeed : {T : Type 0} → ℕ → Option (List ℕ) → ℕ → Result T BlobFault → Type 0
TellsNeed count (Some blob) at (Err (fault.Bad place why)) = (length blob < at + count) × (place ≡ at) × (why ≡ Truncated)
TellsNeed count blob at answer = Unit {0}

-- The cursor stays at its place, and this many bytes stand ahead of it, or the blob has fewer.
pub record Needs {T : Type 0} (count : ℕ) (before after : Scene) (answer : Result T BlobFault) : Type 0 where
  pub stays : Stays before after
  pub over : IsOver after
  pub place : after.place.at ≡ before.place.at
  pub cause : answer ≡ Err fault.Store → Rose before.faults after.faults
  pub kind : IfErr answer IsReadFault
  pub enough : OnOk answer (count ≤ length after.place.ahead)
  pub tells : TellsNeed count (told before.held before.place.name) before.place.at answer

-- Whether a byte that ends a number comes before the blob ends.
pub record Seeks (before after : Scene) (answer : Result Bool BlobFault) : Type 0 where
  pub stays : Stays before after
  pub over : IsOver after
  pub cause : answer ≡ Err fault.Store → Rose before.faults after.faults
  pub kind : IfErr answer (λ e. e ≡ fault.Store)
  pub tells : IfSome (told before.held before.place.name) (λ blob.
      IfOk answer (λ found. MatchBool found (StopsLater (drop before.place.at blob)) (GoOn (drop before.place.at blob))))

-- As many bytes stand ahead as are there, up to this count.
abbrev pub HasAhead : ℕ → Scene → Type 0
HasAhead count now = IfSome (told now.held now.place.name) (λ blob. min count (length blob - now.place.at) ≤ length now.place.ahead)

-- The first words that bytes spell: 8 bytes each, the highest byte first.
unfoldable pub words_in : ℕ → List ℕ → List ℕ
words_in zero bytes = []
words_in (suc n) bytes = from_be_bytes w64 (take 8 bytes) ∷ words_in n (drop 8 bytes)

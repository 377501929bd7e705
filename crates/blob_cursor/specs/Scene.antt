-- What a reader of a blob starts from and leaves: the store, and the cursor's place in the blob.
use Rattle.std.specs.Prelude.{◌≡◌, ◌≤◌, ◌+◌, ◌⊎◌, ℕ, List, length, take, drop, Option, Some, None, Result, Ok, Err, IfErr, IsErrAnd}
use Rattle.hol_io.specs.Causes.{Rose}
use Rattle.hol_io.specs.Store.{Store, Seen, told}
use Rattle.hol_io.specs.declared.name.BlobName.{BlobName}
use Rattle.schema_model.specs.declared.reason.Reason.{Reason}
use Rattle.blob_frame.specs.declared.fault.BlobFault.{BlobFault}
use Rattle.blob_frame.specs.declared.fault.BlobFault.TheVariants as fault
use Rattle.blob_grammar.specs.Form.{Form}

-- Where a cursor stands: in which blob, how long it is, at which place, and the bytes that it read ahead.
pub record Place : Type 0 where
  pub name : BlobName
  pub size : ℕ
  pub at : ℕ
  pub ahead : List ℕ

-- The content that the store tells, how often it failed and how often something was put, and the cursor's place.
pub record Scene : Type 0 where
  pub held : Option Store
  pub faults : ℕ
  pub puts : ℕ
  pub place : Place

abbrev pub scene : Seen → Place → Scene
scene seen place = record { held = seen.held; faults = seen.faults; puts = seen.puts; place = place }

-- The same store, at this place.
abbrev pub at_place : Scene → Place → Scene
at_place now place = record { held = now.held; faults = now.faults; puts = now.puts; place = place }

-- The place behind so many bytes that were read ahead.
abbrev pub moved : Place → ℕ → Place
moved place count = record { name = place.name; size = place.size; at = place.at + count; ahead = drop count place.ahead }

-- The place is one in these bytes, where they are told.
abbrev pub IsPlaceIn : Place → Option (List ℕ) → Type 0
IsPlaceIn place None = Unit {0}
IsPlaceIn place (Some blob) = (place.size ≡ length blob) × (place.at + length place.ahead ≤ length blob)
    × (place.ahead ≡ take (length place.ahead) (drop place.at blob))

-- The cursor stands in the blob that the store holds under its name.
abbrev pub IsOver : Scene → Type 0
IsOver scene = IsPlaceIn scene.place (told scene.held scene.place.name)

-- The store holds what it held, nothing was put, the count of its faults did not fall, and the cursor is in the same blob.
pub record Stays (before after : Scene) : Type 0 where
  pub store : after.held ≡ before.held
  pub puts : after.puts ≡ before.puts
  pub later : before.faults ≤ after.faults
  pub name : after.place.name ≡ before.place.name
  pub size : after.place.size ≡ before.place.size

-- A reader that takes no memory answers no other fault.
abbrev pub IsReadFault : BlobFault → Type 0
IsReadFault (fault.Bad place why) = Unit {0}
IsReadFault fault.Store = Unit {0}
IsReadFault _ = ⊥

-- A reader of items answers no other fault.
abbrev pub IsItemFault : BlobFault → Type 0
IsItemFault (fault.Bad place why) = Unit {0}
IsItemFault fault.Store = Unit {0}
IsItemFault fault.Memory = Unit {0}
IsItemFault _ = ⊥

-- The answers that come for want of memory or for a fault of the store.
abbrev pub IsFree : BlobFault → Type 0
IsFree fault.Store = Unit {0}
IsFree fault.Memory = Unit {0}
IsFree _ = ⊥

-- What an answer says of the blob, from this place on and up to that one.
abbrev pub Tells : {V : Type 0} → Form V → Option (List ℕ) → ℕ → Result V BlobFault → ℕ → Type 0
Tells form None at answer next = Unit {0}
Tells form (Some blob) at (Ok v) next = form.Stands blob at v next
Tells form (Some blob) at (Err (fault.Bad place why)) next = form.Stuck blob at place why
Tells form (Some blob) at (Err other) next = IsFree other

-- Reading such a part of the blob: the store stays, the cursor stays in its blob, and the answer is what stands there,
-- or the first item that cannot be read.
pub record Reads {V : Type 0} (form : Form V) (before after : Scene) (answer : Result V BlobFault) : Type 0 where
  pub stays : Stays before after
  pub over : IsOver after
  pub cause : answer ≡ Err fault.Store → Rose before.faults after.faults
  pub kind : IfErr answer IsItemFault
  pub tells : Tells form (told before.held before.place.name) before.place.at answer after.place.at

-- The answer is the value exactly where it stands, and the fault exactly where reading is stuck so, but for the free ones.
pub record Exactly {V : Type 0} (form : Form V) (blob : List ℕ) (at : ℕ) (answer : Result V BlobFault) : Type 0 where
  pub found : (value : V) (next : ℕ) → form.Stands blob at value next → (answer ≡ Ok value) ⊎ IsErrAnd answer IsFree
  pub stuck : (place : ℕ) (why : Reason) → form.Stuck blob at place why →
      (answer ≡ Err (fault.Bad place why)) ⊎ IsErrAnd answer IsFree

-- The same, where a store and a cursor go from one state to another.
abbrev pub Leads : {T V : Type 0} → (T → Seen) → Form V → T → Place → T → Place → Result V BlobFault → Type 0
Leads seen form store place next after answer = Reads form (scene (seen store) place) (scene (seen next) after) answer

-- The cursor stands in the blob that this store holds under its name.
abbrev pub IsAbove : {T : Type 0} → (T → Seen) → T → Place → Type 0
IsAbove seen store place = IsOver (scene (seen store) place)

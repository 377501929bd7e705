-- What the items of a body and the state of its types say of the blob from a place on.
use Rattle.std.proofs.Common.{◌≡◌, ◌⊎◌, inl, inr, ℕ, List, length, Option, Some, None, Result, Ok, Err, IfSome, IfErr, refl, ap, sym, ◌∙◌, subst}
use Rattle.std.specs.Prelude.{IfOk, IsErrAnd, map}
use Rattle.std.specs.List.{AllZip}
use Rattle.schema_model.specs.declared.schema.Schema.{Schema}
use Rattle.type_state.specs.State.{Half}
use Rattle.type_state.specs.Views.{next_halves, table_of}
use Rattle.blob_frame.specs.declared.fault.BlobFault.{BlobFault}
use Rattle.blob_frame.specs.declared.fault.BlobFault.TheVariants as fault
use Rattle.blob_cursor.specs.Scene.{IsFree, IsItemFault, Tells}
use Rattle.blob_faults.specs.Judge.{Blames}
use Rattle.snapshot_blob.specs.declared.body.Body.{Body}
use Rattle.snapshot_blob.specs.declared.part.TypePart.{TypePart}
use Rattle.snapshot_blob.specs.Body.{IsBody, IsBodyFault, TellsBody, ReadsBody}
use Rattle.snapshot_blob.specs.Judged.{body_of, types_of}
use Rattle.snapshot_blob.specs.Parts.{body}
use Rattle.snapshot_blob.specs.Stated.{AreAccepted, CanStand, IsStateFault, IsWant, TypeIs, schemas_of}
use Rattle.snapshot_blob.proofs.Blamed.{body_passes, stuck_fails, types_fail}
use Rattle.snapshot_blob.proofs.Items.{body_can_stand, body_ends}
use Rattle.snapshot_blob.proofs.Readable.{same_halves}
use Rattle.snapshot_blob.proofs.Trials.{blames_too}

-- a place has one body
pub same_body : (blob : List ℕ) (at : ℕ) (s t : List Schema) (x y : List Half) → IsBody blob at s x → IsBody blob at t y → (s ≡ t) × (x ≡ y)
same_body blob at s t x y one other =
    let parts : one.0 ≡ other.0 = (body.decided.one blob at one.0 other.0 (length blob) (length blob) one.1 other.1).0 in (
      sym one.2.0.named ∙ ap (map (λ (part : TypePart). part.schema)) parts ∙ other.2.0.named,
      same_halves other.0 x y (subst (λ (ps : List TypePart). AllZip TypeIs ps x) parts one.2.0.types) other.2.0.types,
    )

-- what a fault of the items tells
stop_tells : (blob : List ℕ) (at next : ℕ) (e : BlobFault) → Tells body (Some blob) at (Err e) next → TellsBody blob at (Err e)
stop_tells blob at next (fault.Bad place why) tells = inl (stuck_fails blob at place why tells)
stop_tells blob at next fault.Store tells = inr tt
stop_tells blob at next fault.Memory tells = inr tt
stop_tells blob at next _ tells = absurd tells

pub told_stop : (content : Option (List ℕ)) (at next : ℕ) (e : BlobFault) (answer : Result Body BlobFault) → answer ≡ Err e → Tells body content at (Err e) next → IfSome content (λ blob. TellsBody blob at answer)
told_stop None at next e answer is tells = tt
told_stop (Some blob) at next e answer is tells = subst (λ (a : Result Body BlobFault). TellsBody blob at a) (sym is) (stop_tells blob at next e tells)

-- want of memory is a free answer
want_free : (e : BlobFault) → IsWant e → IsFree e
want_free fault.Memory want = tt
want_free _ want = absurd want

-- what the state of the types tells
state_tells : (blob : List ℕ) (at next : ℕ) (parts : List TypePart) (answer : Result Body BlobFault) → body.Stands blob at parts next
    → IfOk answer (λ found. AreAccepted parts found.model (next_halves found.states)) → (CanStand (schemas_of parts) → IfErr answer (Blames (types_of parts) IsWant)) → TellsBody blob at answer
state_tells blob at next parts (Ok found) stands accepted blamed = (parts, subst (λ n. body.Stands blob at parts n) (body_ends blob at next parts stands) stands, accepted)
state_tells blob at next parts (Err e) stands accepted blamed =
    blames_too (types_of parts) (body_of blob at) IsWant IsFree (λ first fails. types_fail blob at next parts first stands fails) want_free e (blamed (body_can_stand blob at next parts stands))

pub told_state : (content : Option (List ℕ)) (at next : ℕ) (parts : List TypePart) (answer : Result Body BlobFault) → Tells body content at (Ok parts) next
    → IfOk answer (λ found. AreAccepted parts found.model (next_halves found.states)) → (CanStand (schemas_of parts) → IfErr answer (Blames (types_of parts) IsWant)) → IfSome content (λ blob. TellsBody blob at answer)
told_state None at next parts answer tells accepted blamed = tt
told_state (Some blob) at next parts answer tells accepted blamed = state_tells blob at next parts answer tells accepted blamed

-- an answer that tells so much is exact
exact_found : (blob : List ℕ) (at : ℕ) (answer : Result Body BlobFault) → TellsBody blob at answer → (schemas : List Schema) (halves : List Half) → IsBody blob at schemas halves
    → ((found : Body) × (answer ≡ Ok found) × (found.model ≡ schemas) × (next_halves found.states ≡ halves)) ⊎ IsErrAnd answer IsFree
exact_found blob at (Ok found) tells schemas halves is = let same = same_body blob at found.model schemas (next_halves found.states) halves tells is in inl (found, refl, same.0, same.1)
exact_found blob at (Err e) (inl fails) schemas halves is = absurd ((body_of blob at).decided.apart (table_of halves) e (body_passes blob at schemas halves is) fails)
exact_found blob at (Err e) (inr free) schemas halves is = inr free

exact_fails : (blob : List ℕ) (at : ℕ) (answer : Result Body BlobFault) → TellsBody blob at answer → (first : BlobFault) → (body_of blob at).Fails first → (answer ≡ Err first) ⊎ IsErrAnd answer IsFree
exact_fails blob at (Ok found) tells first fails = absurd ((body_of blob at).decided.apart (table_of (next_halves found.states)) first (body_passes blob at found.model (next_halves found.states) tells) fails)
exact_fails blob at (Err e) (inl own) first fails = inl (ap Err ((body_of blob at).decided.once e first own fails))
exact_fails blob at (Err e) (inr free) first fails = inr free

pub exact_body : (content : Option (List ℕ)) (at : ℕ) (answer : Result Body BlobFault) → IfSome content (λ blob. TellsBody blob at answer) → IfSome content (λ blob. ReadsBody blob at answer)
exact_body None at answer tells = tt
exact_body (Some blob) at answer tells = record { found = exact_found blob at answer tells; fails = exact_fails blob at answer tells }

-- the faults of a state are those of a body, and the store is none of them
pub state_kind : (answer : Result Body BlobFault) → IfErr answer IsStateFault → IfErr answer IsBodyFault
state_kind (Ok found) kind = tt
state_kind (Err (fault.Bad place why)) kind = tt
state_kind (Err (fault.BadRow place why of ordinal)) kind = tt
state_kind (Err (fault.Large limit)) kind = kind
state_kind (Err fault.Memory) kind = tt
state_kind (Err _) kind = absurd kind

pub never_store : (answer : Result Body BlobFault) → IfErr answer IsStateFault → answer ≡ Err fault.Store → ⊥
never_store answer kind is = subst (λ (a : Result Body BlobFault). IfErr a IsStateFault) is kind

-- the faults of items are those of a body
pub item_kind : (e : BlobFault) → IsItemFault e → IsBodyFault e
item_kind (fault.Bad place why) kind = tt
item_kind fault.Store kind = tt
item_kind fault.Memory kind = tt
item_kind _ kind = absurd kind

pub stop_kind : (e : BlobFault) (answer : Result Body BlobFault) → answer ≡ Err e → IsItemFault e → IfErr answer IsBodyFault
stop_kind e answer is kind = subst (λ (a : Result Body BlobFault). IfErr a IsBodyFault) (sym is) (item_kind e kind)

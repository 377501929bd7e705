-- What opening a blob and reading its header say of the answer.
use Rattle.std.proofs.Common.{◌≡◌, inl, inr, ℕ, List, length, Option, Some, None, Result, Err, IfErr, IfSome, OnSome, refl, sym, subst}
use Rattle.std.proofs.lemmas.Bool.{cases_lt}
use Rattle.hol_io.specs.declared.name.BlobName.{BlobName}
use Rattle.hol_io.specs.Store.{Store, told}
use Rattle.schema_model.specs.declared.limit.Limit.TheVariants as limit
use Rattle.schema_model.specs.Limit.{number_of_limit}
use Rattle.blob_frame.specs.declared.fault.BlobFault.{BlobFault}
use Rattle.blob_frame.specs.declared.fault.BlobFault.TheVariants as fault
use Rattle.blob_frame.specs.declared.header.Header.{Header}
use Rattle.blob_cursor.specs.Opened.{IsOpeningFault, TellsHeader}
use Rattle.blob_cursor.specs.Scene.{Place, IsFree, IsItemFault}
use Rattle.blob_cursor.specs.Starting.{Starts, IsStartFault}

free_tells : (name : BlobName) (content : Option (List ℕ)) (found : BlobFault) → IsFree found → TellsHeader name content (Err found)
free_tells name content fault.Store free = tt
free_tells name content fault.Memory free = tt
free_tells name content _ free = absurd free

-- what a fault at the start says of the content
unstarted : (name : BlobName) (content : Option (List ℕ)) (found : BlobFault) → Starts name content (Err found) → TellsHeader name content (Err found)
unstarted name None found starts =
    elim (starts.absent refl) [
      | inl is ↦ (let same : found ≡ fault.NoBlob name = cc in subst (λ f. TellsHeader name None (Err f)) (sym same) (refl, refl))
      | inr free ↦ free_tells name None found free
    ]
unstarted name (Some blob) found starts =
    elim (cases_lt (number_of_limit limit.Blob) (length blob)) [
      | inl large ↦ elim (starts.large blob refl large) [
        | inl is ↦ (let same : found ≡ fault.Large limit.Blob = cc in
            subst (λ f. TellsHeader name (Some blob) (Err f)) (sym same) (blob, refl, large, refl))
        | inr free ↦ free_tells name (Some blob) found free
      ]
      | inr fits ↦ elim (starts.found blob refl fits) [
        | inl made ↦ (let is = made.1 in absurd cc)
        | inr free ↦ free_tells name (Some blob) found free
      ]
    ]

pub tells_start : (held : Option Store) (name : BlobName) (found : BlobFault) (answer : Result (Header × Place) BlobFault) → answer ≡ Err found →
    OnSome held (Starts name (told held name) (Err found)) → IfSome held (λ store. TellsHeader name (told held name) answer)
tells_start None name found answer is starts = tt
tells_start (Some store) name found answer is starts =
    subst (λ (a : Result (Header × Place) BlobFault). TellsHeader name (told (Some store) name) a) (sym is) (unstarted name (told (Some store) name) found starts)

-- ---- which faults come

of_start : (name : BlobName) (found : BlobFault) → IsStartFault name found → IsOpeningFault name found
of_start name (fault.NoBlob other) kind = kind
of_start name (fault.Large what) kind = kind
of_start name fault.Store kind = tt
of_start name fault.Memory kind = tt
of_start name _ kind = absurd kind

of_item : (name : BlobName) (found : BlobFault) → IsItemFault found → IsOpeningFault name found
of_item name (fault.Bad at reason) kind = tt
of_item name fault.Store kind = tt
of_item name fault.Memory kind = tt
of_item name _ kind = absurd kind

-- the faults of the start
pub start_kind : {T : Type 0} (name : BlobName) (found : BlobFault) (answer : Result T BlobFault) → answer ≡ Err found → IsStartFault name found → IfErr answer (IsOpeningFault name)
start_kind name found answer is kind = subst (λ a. IfErr a (IsOpeningFault name)) (sym is) (of_start name found kind)

-- the faults of the header
pub item_kind : {T : Type 0} (name : BlobName) (found : BlobFault) (answer : Result T BlobFault) → answer ≡ Err found → IsItemFault found → IfErr answer (IsOpeningFault name)
item_kind name found answer is kind = subst (λ a. IfErr a (IsOpeningFault name)) (sym is) (of_item name found kind)

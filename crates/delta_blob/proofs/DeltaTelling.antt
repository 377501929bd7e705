-- What a delta that is read says of the blob.
use Rattle.std.proofs.Common.{◌≡◌, ◌≤◌, ◌<◌, ◌∙◌, ℕ, ℤ, List, length, Option, Some, None, Result, Ok, Err, IfSome, ap, inl, inr, refl, sym, subst}
use Rattle.std.specs.Prelude.{◌≢◌, OnOk}
use Rattle.hol_io.specs.declared.name.BlobName.{BlobName}
use Rattle.hol_io.specs.Store.{Store, told}
use Rattle.schema_model.specs.declared.limit.Limit.{Limit}
use Rattle.schema_model.specs.declared.limit.Limit.TheVariants.{Blob}
use Rattle.schema_model.specs.declared.reason.Reason.{Reason}
use Rattle.schema_model.specs.declared.schema.Schema.{Schema}
use Rattle.schema_model.specs.Limit.{number_of_limit}
use Rattle.schema_model.specs.Model.{IsModel}
use Rattle.blob_frame.specs.declared.fault.BlobFault.{BlobFault}
use Rattle.blob_frame.specs.declared.fault.BlobFault.TheVariants as fault
use Rattle.blob_frame.specs.declared.header.Header.{Header}
use Rattle.blob_frame.specs.Header.{HeaderIs, StuckInHeader}
use Rattle.blob_cursor.specs.Opened.{TellsHeader}
use Rattle.blob_cursor.specs.Scene.{Place}
use Rattle.blob_faults.specs.Judge.{◌>>=◌, nothing, test}
use Rattle.blob_faults.specs.Reading.{short, standing, starts}
use Rattle.delta_blob.specs.declared.patch.Patch.{Patch}
use Rattle.delta_blob.specs.declared.patch.PatchPart.{PatchPart}
use Rattle.delta_blob.specs.Judged.{delta_of, patch_of}
use Rattle.delta_blob.specs.Reads.{FailsDelta, FindsDelta, TellsDelta, TellsPatch}
use Rattle.delta_blob.proofs.PatchTelling.{blames_once, patch_passes}

-- ---- what is tried

module _ (blob : List ℕ) (current : ℤ) (schemas : List Schema) where
  -- a blob that is too large
  pub long_fails : number_of_limit Blob < length blob → (delta_of blob current schemas).Fails (fault.Large Blob)
  unfolding delta_of ◌>>=◌ short test
  long_fails long = inl (long, refl)

  -- a header that cannot be read
  pub header_fails : (place : ℕ) (why : Reason) → length blob ≤ number_of_limit Blob → StuckInHeader blob place why → (delta_of blob current schemas).Fails (fault.Bad place why)
  unfolding delta_of ◌>>=◌ short test standing
  header_fails place why few stuck = inr (tt, few, inl (place, why, stuck, refl))

  module _ (head : Header) (n : ℕ) (few : length blob ≤ number_of_limit Blob) (begins : HeaderIs blob n head) where
    -- another tag
    pub origin_fails : head.origin ≢ current → (delta_of blob current schemas).Fails (fault.OtherOrigin head.origin current)
    unfolding delta_of ◌>>=◌ short test standing starts
    origin_fails other = inr (tt, few, inr ((head, n), begins, inl (other, refl)))

    -- what is tried of the types
    pub types_fail : (found : BlobFault) → head.origin ≡ current → (patch_of blob n schemas).Fails found → (delta_of blob current schemas).Fails found
    unfolding delta_of ◌>>=◌ short test standing starts
    types_fail found same fails = inr (tt, few, inr ((head, n), begins, inr (tt, same, inl fails)))

    -- where that passes the whole delta does
    pub delta_passes : (named : List PatchPart) → head.origin ≡ current → (patch_of blob n schemas).Passes named → (delta_of blob current schemas).Passes (head, named)
    unfolding delta_of ◌>>=◌ short test standing starts nothing
    delta_passes named same passes = (tt, few, ((head, n), begins, (tt, same, (named, passes, refl))))

-- ---- what is told

-- what follows from what is told, where it is
where_told : {X : Type 0} (o : Option X) (P Q : Type 0) → (P → Q) → IfSome o (λ x. P) → IfSome o (λ x. Q)
where_told None P Q f p = tt
where_told (Some x) P Q f p = f p

one_blob : (blob other : List ℕ) → Some blob ≡ Some other → other ≡ blob
one_blob blob other same = cc

module _ (name : BlobName) (current : ℤ) (schemas : List Schema) where
  opening_tells : (content : Option (List ℕ)) (e : BlobFault) → TellsHeader name content (Err e) → TellsDelta name current schemas content (Err e)
  opening_tells None (fault.NoBlob other) tells = inl (ap (λ (n : BlobName). Err (fault.NoBlob n)) tells.0)
  opening_tells None (fault.Large what) tells = let no : None ≡ Some tells.0 = tells.1 in absurd cc
  opening_tells None (fault.Bad place why) tells = let no : None ≡ Some tells.0 = tells.1 in absurd cc
  opening_tells None fault.Store tells = inr tt
  opening_tells None fault.Memory tells = inr tt
  opening_tells None _ tells = absurd tells
  opening_tells (Some blob) (fault.NoBlob other) tells = let no : Some blob ≡ None = tells.1 in absurd cc
  opening_tells (Some blob) (fault.Large what) (other, same, long, is) =
      let here = subst (λ (b : List ℕ). number_of_limit Blob < length b) (one_blob blob other same) long in
      inl (subst (λ (limit : Limit). (delta_of blob current schemas).Fails (fault.Large limit)) (sym is) (long_fails blob current schemas here))
  opening_tells (Some blob) (fault.Bad place why) (other, same, few, stuck) =
      let is = one_blob blob other same in
      inl (header_fails blob current schemas place why (subst (λ (b : List ℕ). length b ≤ number_of_limit Blob) is few) (subst (λ (b : List ℕ). StuckInHeader b place why) is stuck))
  opening_tells (Some blob) fault.Store tells = inr tt
  opening_tells (Some blob) fault.Memory tells = inr tt
  opening_tells (Some blob) _ tells = absurd tells

  module _ (head : Header) (place : Place) where
    -- the header that was read is that of the blob
    opened_is : (blob : List ℕ) → TellsHeader name (Some blob) (Ok (head, place)) → (length blob ≤ number_of_limit Blob) × HeaderIs blob place.at head
    opened_is blob (other, same, few, begins) =
        let is = one_blob blob other same in
        (subst (λ (b : List ℕ). length b ≤ number_of_limit Blob) is few, subst (λ (b : List ℕ). HeaderIs b place.at head) is begins)

    not_there : {A : Type 0} → TellsHeader name None (Ok (head, place)) → A
    not_there (blob, same, few, begins) = absurd cc

    origin_tells : (content : Option (List ℕ)) → head.origin ≢ current → TellsHeader name content (Ok (head, place)) → TellsDelta name current schemas content (Err (fault.OtherOrigin head.origin current))
    origin_tells None other opened = not_there opened
    origin_tells (Some blob) other opened = let (few, begins) = opened_is blob opened in inl (origin_fails blob current schemas head place.at few begins other)

    stop_tells : (content : Option (List ℕ)) (e : BlobFault) → head.origin ≡ current → IfSome content (λ blob. TellsPatch blob place.at schemas (Err e)) → TellsHeader name content (Ok (head, place))
        → TellsDelta name current schemas content (Err e)
    stop_tells None e same blames opened = not_there opened
    stop_tells (Some blob) e same (inl fails) opened = let (few, begins) = opened_is blob opened in inl (types_fail blob current schemas head place.at few begins e same fails)
    stop_tells (Some blob) e same (inr free) opened = inr free

    delta_tells : (content : Option (List ℕ)) (patch : Patch) → head.origin ≡ current → patch.destination ≡ head.destination → IfSome content (λ blob. TellsPatch blob place.at schemas (Ok patch.parts))
        → IfSome content (λ blob. patch.length ≡ length blob) → TellsHeader name content (Ok (head, place)) → TellsDelta name current schemas content (Ok patch)
    delta_tells None patch same to are ends opened = not_there opened
    delta_tells (Some blob) patch same to are ends opened = let (few, begins) = opened_is blob opened in (head, place.at, begins, same, sym to, sym ends, few, are)

  module _ (held : Option Store) where
    -- What opening the blob answers is told.
    abbrev pub Opens : Result (Header × Place) BlobFault → Type 0
    Opens answer = IfSome held (λ store. TellsHeader name (told held name) answer)

    -- What reading the delta answers is told.
    abbrev pub Tells : Result Patch BlobFault → Type 0
    Tells answer = IfSome held (λ store. TellsDelta name current schemas (told held name) answer)

    -- a blob that cannot be opened
    pub told_opening : (e : BlobFault) (answer : Result Patch BlobFault) → answer ≡ Err e → Opens (Err e) → Tells answer
    told_opening e answer is opened = subst Tells (sym is) (where_told held (TellsHeader name (told held name) (Err e)) (TellsDelta name current schemas (told held name) (Err e)) (opening_tells (told held name) e) opened)

    -- one that starts from another tag
    pub told_origin : (head : Header) (place : Place) (found at : ℤ) → found ≡ head.origin → at ≡ current → head.origin ≢ current → Opens (Ok (head, place)) → Tells (Err (fault.OtherOrigin found at))
    told_origin head place found at origin is other opened =
        subst (λ (e : BlobFault). Tells (Err e)) (sym (ap (λ (t : ℤ). fault.OtherOrigin t at) origin ∙ ap (λ (t : ℤ). fault.OtherOrigin head.origin t) is)) (where_told held (TellsHeader name (told held name) (Ok (head, place))) (TellsDelta name current schemas (told held name) (Err (fault.OtherOrigin head.origin current))) (origin_tells head place (told held name) other) opened)

    -- types that cannot be read, or are not those of the model
    pub told_types : (head : Header) (place : Place) (e : BlobFault) (answer : Result Patch BlobFault) (there : Option (List ℕ)) → answer ≡ Err e → head.origin ≡ current → there ≡ told held name
        → IfSome there (λ blob. TellsPatch blob place.at schemas (Err e)) → Opens (Ok (head, place)) → Tells answer
    told_types head place e answer there is same content tells opened =
        let here = subst (λ (c : Option (List ℕ)). IfSome c (λ blob. TellsPatch blob place.at schemas (Err e))) content tells in
        subst Tells (sym is) (where_told held (TellsHeader name (told held name) (Ok (head, place))) (TellsDelta name current schemas (told held name) (Err e)) (stop_tells head place (told held name) e same here) opened)

    -- a delta against the model
    pub told_delta : (head : Header) (place : Place) (patch : Patch) (there : Option (List ℕ)) → head.origin ≡ current → patch.destination ≡ head.destination → there ≡ told held name
        → IfSome there (λ blob. TellsPatch blob place.at schemas (Ok patch.parts)) → IfSome there (λ blob. patch.length ≡ length blob) → Opens (Ok (head, place)) → Tells (Ok patch)
    told_delta head place patch there same to content tells ends opened =
        let here = subst (λ (c : Option (List ℕ)). IfSome c (λ blob. TellsPatch blob place.at schemas (Ok patch.parts))) content tells in
        let whole = subst (λ (c : Option (List ℕ)). IfSome c (λ blob. patch.length ≡ length blob)) content ends in
        where_told held (TellsHeader name (told held name) (Ok (head, place))) (TellsDelta name current schemas (told held name) (Ok patch)) (delta_tells head place (told held name) patch same to here whole) opened

  -- ---- the answer is that of what is tried

  delta_found : (blob : List ℕ) (answer : Result Patch BlobFault) → OnOk answer (IsModel schemas) → TellsDelta name current schemas (Some blob) answer → FindsDelta current schemas blob answer
  delta_found blob (Ok patch) model (head, n, begins, same, to, long, few, at) = λ other named passes.
      let here = delta_passes blob current schemas head n few begins patch.parts same (patch_passes schemas model blob n patch.parts at) in
      let one = (delta_of blob current schemas).decided.one (head, patch.parts) (other, named) here passes in
      let leads = sym to ∙ ap (λ (p : Header × List PatchPart). p.0.destination) one in
      let long = sym long in
      inl (λ i. Ok (record { destination = leads i; length = long i; parts = (one i).1 }))
  delta_found blob (Err e) model (inl fails) = λ other named passes. absurd ((delta_of blob current schemas).decided.apart (other, named) e passes fails)
  delta_found blob (Err e) model (inr free) = λ other named passes. inr free

  delta_fails : (blob : List ℕ) (answer : Result Patch BlobFault) → OnOk answer (IsModel schemas) → TellsDelta name current schemas (Some blob) answer → FailsDelta current schemas blob answer
  delta_fails blob (Ok patch) model (head, n, begins, same, to, long, few, at) = λ found fails.
      let here = delta_passes blob current schemas head n few begins patch.parts same (patch_passes schemas model blob n patch.parts at) in
      absurd ((delta_of blob current schemas).decided.apart (head, patch.parts) found here fails)
  delta_fails blob (Err e) model blames = λ found fails. blames_once (delta_of blob current schemas) e found (Err e) refl blames fails

  content_found : (content : Option (List ℕ)) (answer : Result Patch BlobFault) → OnOk answer (IsModel schemas) → TellsDelta name current schemas content answer → IfSome content (λ blob. FindsDelta current schemas blob answer)
  content_found None answer model tells = tt
  content_found (Some blob) answer model tells = delta_found blob answer model tells

  content_fails : (content : Option (List ℕ)) (answer : Result Patch BlobFault) → OnOk answer (IsModel schemas) → TellsDelta name current schemas content answer → IfSome content (λ blob. FailsDelta current schemas blob answer)
  content_fails None answer model tells = tt
  content_fails (Some blob) answer model tells = delta_fails blob answer model tells

  -- a delta that passes is found
  pub told_found : (held : Option Store) (answer : Result Patch BlobFault) → OnOk answer (IsModel schemas) → Tells held answer → IfSome (told held name) (λ blob. FindsDelta current schemas blob answer)
  told_found None answer model tells = tt
  told_found (Some store) answer model tells = content_found (told (Some store) name) answer model tells

  -- one that fails has that fault
  pub told_fails : (held : Option Store) (answer : Result Patch BlobFault) → OnOk answer (IsModel schemas) → Tells held answer → IfSome (told held name) (λ blob. FailsDelta current schemas blob answer)
  told_fails None answer model tells = tt
  told_fails (Some store) answer model tells = content_fails (told (Some store) name) answer model tells

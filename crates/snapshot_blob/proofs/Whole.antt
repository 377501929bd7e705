-- What the start at a blob, its header and its body say of the blob as a snapshot.
use Rattle.std.proofs.Common.{◌≡◌, ◌≤◌, ◌⊎◌, inl, inr, ℕ, List, length, Option, Some, None, Result, Ok, Err, IfSome, IfErr, OnSome, refl, ap, sym, ◌∙◌, subst}
use Rattle.std.proofs.lemmas.Bool.{cases_lt}
use Rattle.std.specs.Prelude.{IsErrAnd}
use Rattle.std.specs.List.{AllZip}
use Rattle.hol_io.specs.declared.name.BlobName.{BlobName}
use Rattle.hol_io.specs.Store.{Store, told}
use Rattle.schema_model.specs.declared.limit.Limit.TheVariants.{Blob}
use Rattle.schema_model.specs.declared.schema.Schema.{Schema}
use Rattle.schema_model.specs.Limit.{number_of_limit}
use Rattle.type_state.specs.State.{Half}
use Rattle.type_state.specs.Views.{next_halves}
use Rattle.blob_grammar.specs.Form.{◌>>=◌, nothing, both}
use Rattle.blob_frame.specs.declared.fault.BlobFault.{BlobFault}
use Rattle.blob_frame.specs.declared.fault.BlobFault.TheVariants as fault
use Rattle.blob_frame.specs.declared.header.Header.{Header}
use Rattle.blob_frame.specs.Header.{header, HeaderIs}
use Rattle.blob_cursor.specs.Scene.{Place, Scene, IsFree, Reads, Stays, Tells}
use Rattle.blob_cursor.specs.Starting.{Starts, IsStart, IsStartFault}
use Rattle.blob_cursor.proofs.Chain.{told_stays}
use Rattle.snapshot_blob.specs.declared.body.Body.{Body}
use Rattle.snapshot_blob.specs.declared.loaded.Loaded.{Loaded}
use Rattle.snapshot_blob.specs.declared.part.TypePart.{TypePart}
use Rattle.snapshot_blob.specs.Body.{IsBody, IsBodyFault, TellsBody}
use Rattle.snapshot_blob.specs.Judged.{body_of, snapshot_of}
use Rattle.snapshot_blob.specs.Parts.{body, snapshot}
use Rattle.snapshot_blob.specs.Stated.{TypeIs, schemas_of}
use Rattle.snapshot_blob.specs.Snapshot.{SnapshotIs, IsAccepted, TellsBlob, TellsSnapshot, ReadsExactly, IsSnapshotFault}
use Rattle.snapshot_blob.proofs.Blamed.{accepted_or_fault, body_fails, head_fails, large_fails, one_fault}
use Rattle.snapshot_blob.proofs.Items.{joined}
use Rattle.snapshot_blob.proofs.Readable.{same_halves}
use Rattle.snapshot_blob.proofs.Trials.{blames_too}

-- the items of a snapshot are its header and its body
pub split : (blob : List ℕ) (head : Header) (parts : List TypePart) (next : ℕ) → snapshot.Stands blob 0 (head, parts) next → (n : ℕ) × HeaderIs blob n head × body.Stands blob n parts next
unfolding snapshot both ◌>>=◌ nothing
split blob head parts next (h, n, begins, (ps, m, stands, is)) =
    let of : ps ≡ parts = ap (λ p. p.1) (sym is.0) in
    (n, subst (λ (h : Header). header.Stands blob 0 h n) (ap (λ p. p.0) (sym is.0)) begins, subst (λ k. body.Stands blob n parts k) (sym is.1) (subst (λ (ps : List TypePart). body.Stands blob n ps m) of stands))

-- behind the header of an accepted blob stands its body
behind : (blob : List ℕ) (head other : Header) (n : ℕ) (schemas : List Schema) (halves : List Half) → HeaderIs blob n head → IsAccepted blob other schemas halves → (head ≡ other) × IsBody blob n schemas halves
behind blob head other n schemas halves begins accepted =
    let items = split blob other accepted.0 (length blob) accepted.1.items in
    let same = header.decided.one blob 0 head other n items.0 begins items.1 in
    (same.0, (accepted.0, subst (λ m. body.Stands blob m accepted.0 (length blob)) (sym same.1) items.2, (accepted.1.state, accepted.2.types)))

-- an accepted blob begins with its header
pub begins : (blob : List ℕ) (head : Header) (schemas : List Schema) (halves : List Half) → IsAccepted blob head schemas halves → (n : ℕ) × HeaderIs blob n head × (length blob ≤ number_of_limit Blob)
begins blob head schemas halves accepted = let items = split blob head accepted.0 (length blob) accepted.1.items in (items.0, items.1, accepted.2.short)

-- a header and an accepted body are an accepted blob
pub accepted_body : (blob : List ℕ) (head : Header) (n : ℕ) (found : Body) → HeaderIs blob n head → length blob ≤ number_of_limit Blob → TellsBody blob n (Ok found) → IsAccepted blob head found.model (next_halves found.states)
accepted_body blob head n found begins short is = (is.0, record { items = joined blob head n (length blob) is.0 begins is.1; state = is.2.0 }, record { short = short; types = is.2.1 })

-- a blob is the snapshot of one state
pub one_snapshot : (blob : List ℕ) (a b : Header) (ps qs : List TypePart) (s t : List Schema) (x y : List Half) → SnapshotIs blob a ps s x → SnapshotIs blob b qs t y → (a ≡ b) × (ps ≡ qs) × (s ≡ t) × (x ≡ y)
one_snapshot blob a b ps qs s t x y one other =
    let items = (snapshot.decided.one blob 0 (a, ps) (b, qs) (length blob) (length blob) one.items other.items).0 in
    let parts : ps ≡ qs = ap (λ i. i.1) items in (
      ap (λ i. i.0) items,
      parts,
      sym one.state.named ∙ ap schemas_of parts ∙ other.state.named,
      same_halves qs x y (subst (λ (list : List TypePart). AllZip TypeIs list x) parts one.state.types) other.state.types,
    )

-- the faults of the start
unstarted : (name : BlobName) (content : Option (List ℕ)) (e : BlobFault) → IsStartFault name e → Starts name content (Err e) → TellsSnapshot name content (Err e)
unstarted name None (fault.NoBlob other) kind starts = inl (ap (λ n. Err (fault.NoBlob n)) kind)
unstarted name None fault.Store kind starts = inr tt
unstarted name None fault.Memory kind starts = inr tt
unstarted name None (fault.Large limit) kind starts = elim (starts.absent refl) [ inl is ↦ absurd cc | inr free ↦ absurd free ]
unstarted name None _ kind starts = absurd kind
unstarted name (Some blob) (fault.NoBlob other) kind starts =
    elim (cases_lt (number_of_limit Blob) (length blob)) [
      | inl large ↦ elim (starts.large blob refl large) [ inl is ↦ absurd cc | inr free ↦ inr free ]
      | inr fits ↦ elim (starts.found blob refl fits) [ inl made ↦ absurd (let is = made.1 in cc) | inr free ↦ inr free ]
    ]
unstarted name (Some blob) (fault.Large limit) kind starts =
    elim (cases_lt (number_of_limit Blob) (length blob)) [
      | inl large ↦ inl (subst (λ l. (snapshot_of blob).Fails (fault.Large l)) (sym kind) (large_fails blob large))
      | inr fits ↦ elim (starts.found blob refl fits) [ inl made ↦ absurd (let is = made.1 in cc) | inr free ↦ absurd free ]
    ]
unstarted name (Some blob) fault.Store kind starts = inr tt
unstarted name (Some blob) fault.Memory kind starts = inr tt
unstarted name (Some blob) _ kind starts = absurd kind

-- a cursor that was made stands in a blob that is not too large
fitting : (name : BlobName) (content : Option (List ℕ)) (place : Place) → Starts name content (Ok place) → (blob : List ℕ) × (content ≡ Some blob) × (length blob ≤ number_of_limit Blob)
fitting name None place starts = elim (starts.absent refl) [ inl is ↦ absurd cc | inr free ↦ absurd free ]
fitting name (Some blob) place starts =
    elim (cases_lt (number_of_limit Blob) (length blob)) [
      | inl large ↦ elim (starts.large blob refl large) [ inl is ↦ absurd cc | inr free ↦ absurd free ]
      | inr fits ↦ (blob, refl, fits)
    ]

-- the faults of the header
head_tells : (blob : List ℕ) (n : ℕ) (e : BlobFault) → length blob ≤ number_of_limit Blob → Tells header (Some blob) 0 (Err e) n → TellsBlob blob (Err e)
head_tells blob n (fault.Bad place why) fits tells = inl (head_fails blob place why fits tells)
head_tells blob n fault.Store fits tells = inr tt
head_tells blob n fault.Memory fits tells = inr tt
head_tells blob n _ fits tells = absurd tells

-- the faults of the body
body_tells : (blob : List ℕ) (head : Header) (n : ℕ) (e : BlobFault) → length blob ≤ number_of_limit Blob → HeaderIs blob n head → TellsBody blob n (Err e) → TellsBlob blob (Err e)
body_tells blob head n e fits begins tells = blames_too (body_of blob n) (snapshot_of blob) IsFree IsFree (λ first fails. body_fails blob head n first begins fits fails) (λ found free. free) e tells

module _ (name : BlobName) (content : Option (List ℕ)) (place : Place) (starts : Starts name content (Ok place)) where
  -- at the blob that is there
  at_blob : (answer : Result Loaded BlobFault) → ((blob : List ℕ) → content ≡ Some blob → length blob ≤ number_of_limit Blob → TellsBlob blob answer) → TellsSnapshot name content answer
  at_blob answer tells =
      let blob = fitting name content place starts in subst (λ (c : Option (List ℕ)). TellsSnapshot name c answer) (sym blob.1) (tells blob.0 blob.1 blob.2)

  stopped_head : (n : ℕ) (e : BlobFault) → Tells header content 0 (Err e) n → TellsSnapshot name content (Err e)
  stopped_head n e tells = at_blob (Err e) (λ blob is short. head_tells blob n e short (subst (λ c. Tells header c 0 (Err e) n) is tells))

  stopped_body : (head : Header) (n : ℕ) (e : BlobFault) → Tells header content 0 (Ok head) n → IfSome content (λ blob. TellsBody blob n (Err e)) → TellsSnapshot name content (Err e)
  stopped_body head n e begun tells = at_blob (Err e) (λ blob is short.
      body_tells blob head n e short (subst (λ c. Tells header c 0 (Ok head) n) is begun) (subst (λ c. IfSome c (λ blob. TellsBody blob n (Err e))) is tells))

  loaded_body : (head : Header) (n : ℕ) (found : Body) → Tells header content 0 (Ok head) n → IfSome content (λ blob. TellsBody blob n (Ok found)) → TellsSnapshot name content (Ok (record { header = head; model = found.model; states = found.states }))
  loaded_body head n found begun tells = at_blob (Ok (record { header = head; model = found.model; states = found.states })) (λ blob is short.
      accepted_body blob head n found (subst (λ c. Tells header c 0 (Ok head) n) is begun) short (subst (λ c. IfSome c (λ blob. TellsBody blob n (Ok found))) is tells))

-- what was read from the start on is told of the store's content
begun : (held : Option Store) (name : BlobName) (place : Place) {before after : Scene} (answer : Result Header BlobFault) → before.held ≡ held → before.place ≡ place → IsStart name place → Reads header before after answer
    → Tells header (told held name) 0 answer after.place.at
begun held name place {before} {after} answer kept at start reads =
    let content : told before.held before.place.name ≡ told held name = λ i. told (kept i) ((ap (λ p. p.name) at ∙ start.blob) i) in
    let zero : before.place.at ≡ 0 = ap (λ p. p.at) at ∙ start.start in
    subst (λ n. Tells header (told held name) n answer after.place.at) zero (subst (λ c. Tells header c before.place.at answer after.place.at) content reads.tells)

behind_told : (held : Option Store) (name : BlobName) (place : Place) {before after : Scene} (answer : Result Body BlobFault) → before.held ≡ held → before.place ≡ place → IsStart name place → Stays before after
    → IfSome (told after.held after.place.name) (λ blob. TellsBody blob after.place.at answer) → IfSome (told held name) (λ blob. TellsBody blob after.place.at answer)
behind_told held name place {before} {after} answer kept at start stays tells =
    let content : told before.held before.place.name ≡ told held name = λ i. told (kept i) ((ap (λ p. p.name) at ∙ start.blob) i) in
    subst (λ c. IfSome c (λ blob. TellsBody blob after.place.at answer)) (told_stays stays ∙ content) tells

-- an answer of the reader tells what it tells where the store tells something
held_stop : (held : Option Store) (name : BlobName) (e : BlobFault) (answer : Result Loaded BlobFault) {Started : Type 0} → answer ≡ Err e → OnSome held Started → (Started → TellsSnapshot name (told held name) (Err e))
    → IfSome held (λ store. TellsSnapshot name (told held name) answer)
held_stop None name e answer is starts tells = tt
held_stop (Some store) name e answer is starts tells = subst (λ (a : Result Loaded BlobFault). TellsSnapshot name (told (Some store) name) a) (sym is) (tells starts)

pub tells_start : (held : Option Store) (name : BlobName) (e : BlobFault) (answer : Result Loaded BlobFault) → answer ≡ Err e → IsStartFault name e → OnSome held (Starts name (told held name) (Err e))
    → IfSome held (λ store. TellsSnapshot name (told held name) answer)
tells_start held name e answer is kind starts = held_stop held name e answer is starts (unstarted name (told held name) e kind)

module _ (held : Option Store) (name : BlobName) (place : Place) {before after : Scene} (starts : OnSome held (Starts name (told held name) (Ok place))) (start : IsStart name place) (kept : before.held ≡ held) (at : before.place ≡ place) where
  pub tells_head : (e : BlobFault) (answer : Result Loaded BlobFault) → answer ≡ Err e → Reads header before after (Err e) → IfSome held (λ store. TellsSnapshot name (told held name) answer)
  tells_head e answer is reads = held_stop held name e answer is starts (λ s. stopped_head name (told held name) place s after.place.at e (begun held name place (Err e) kept at start reads))

  pub tells_body : (head : Header) (e : BlobFault) (answer : Result Loaded BlobFault) → answer ≡ Err e → Reads header before after (Ok head)
      → IfSome (told after.held after.place.name) (λ blob. TellsBody blob after.place.at (Err e)) → IfSome held (λ store. TellsSnapshot name (told held name) answer)
  tells_body head e answer is reads tells = held_stop held name e answer is starts (λ s. stopped_body name (told held name) place s head after.place.at e
      (begun held name place (Ok head) kept at start reads) (behind_told held name place (Err e) kept at start reads.stays tells))

pub tells_loaded : (held : Option Store) (name : BlobName) (place : Place) {before after : Scene} (head : Header) (found : Body) → OnSome held (Starts name (told held name) (Ok place)) → IsStart name place
    → before.held ≡ held → before.place ≡ place → Reads header before after (Ok head) → IfSome (told after.held after.place.name) (λ blob. TellsBody blob after.place.at (Ok found))
    → IfSome held (λ store. TellsSnapshot name (told held name) (Ok (record { header = head; model = found.model; states = found.states })))
tells_loaded None name place head found starts start kept at reads tells = tt
tells_loaded (Some store) name place {before} {after} head found starts start kept at reads tells =
    loaded_body name (told (Some store) name) place starts head after.place.at found (begun (Some store) name place (Ok head) kept at start reads)
    (behind_told (Some store) name place (Ok found) kept at start reads.stays tells)

-- an answer that tells so much is exact
exact_found : (blob : List ℕ) (answer : Result Loaded BlobFault) → TellsBlob blob answer → (head : Header) (schemas : List Schema) (halves : List Half) → IsAccepted blob head schemas halves
    → ((loaded : Loaded) × (answer ≡ Ok loaded) × (loaded.header ≡ head) × (loaded.model ≡ schemas) × (next_halves loaded.states ≡ halves)) ⊎ IsErrAnd answer IsFree
exact_found blob (Ok loaded) tells head schemas halves accepted =
    let same = one_snapshot blob loaded.header head tells.0 accepted.0 loaded.model schemas (next_halves loaded.states) halves tells.1 accepted.1 in inl (loaded, refl, same.0, same.2, same.3)
exact_found blob (Err e) (inl fails) head schemas halves accepted = absurd (accepted_or_fault blob head schemas halves e accepted fails)
exact_found blob (Err e) (inr free) head schemas halves accepted = inr free

exact_fails : (blob : List ℕ) (answer : Result Loaded BlobFault) → TellsBlob blob answer → (first : BlobFault) → (snapshot_of blob).Fails first → (answer ≡ Err first) ⊎ IsErrAnd answer IsFree
exact_fails blob (Ok loaded) tells first fails = absurd (accepted_or_fault blob loaded.header loaded.model (next_halves loaded.states) first tells fails)
exact_fails blob (Err e) (inl own) first fails = inl (ap Err (one_fault blob e first own fails))
exact_fails blob (Err e) (inr free) first fails = inr free

exact_content : (name : BlobName) (content : Option (List ℕ)) (answer : Result Loaded BlobFault) → TellsSnapshot name content answer → IfSome content (λ blob. ReadsExactly blob answer)
exact_content name None answer tells = tt
exact_content name (Some blob) answer tells = record { found = exact_found blob answer tells; fails = exact_fails blob answer tells }

pub exact_held : (held : Option Store) (name : BlobName) (answer : Result Loaded BlobFault) → IfSome held (λ store. TellsSnapshot name (told held name) answer) → IfSome (told held name) (λ blob. ReadsExactly blob answer)
exact_held None name answer tells = tt
exact_held (Some store) name answer tells = exact_content name (told (Some store) name) answer tells

-- the faults of the start, of the header and of the body are those of a snapshot
pub start_kind : (name : BlobName) (e : BlobFault) → IsStartFault name e → IsSnapshotFault name e
start_kind name (fault.NoBlob other) kind = kind
start_kind name (fault.Large limit) kind = inl kind
start_kind name fault.Store kind = tt
start_kind name fault.Memory kind = tt
start_kind name _ kind = absurd kind

pub body_kind : (name : BlobName) (e : BlobFault) → IsBodyFault e → IsSnapshotFault name e
body_kind name (fault.Bad place why) kind = tt
body_kind name (fault.BadRow place why of ordinal) kind = tt
body_kind name (fault.Large limit) kind = inr kind
body_kind name fault.Store kind = tt
body_kind name fault.Memory kind = tt
body_kind name _ kind = absurd kind

pub kind_of : (name : BlobName) (e : BlobFault) (answer : Result Loaded BlobFault) → answer ≡ Err e → IsSnapshotFault name e → IfErr answer (IsSnapshotFault name)
kind_of name e answer is kind = subst (λ (a : Result Loaded BlobFault). IfErr a (IsSnapshotFault name)) (sym is) kind

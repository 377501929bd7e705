-- A blob with a header has the tag of its destination in its first 20 bytes, so each state of a chain has a tag that is taken.
use Rattle.std.proofs.Common.{◌≡◌, ◌≤◌, ◌<◌, ◌^◌, ℕ, ℤ, zero, suc, List, [], ◌∷◌, length, take, drop, get_or, Option, Some, inl, inr, sym, ap, subst, ◌∙◌, arith}
use Rattle.std.specs.Prelude.{IfSome}
use Rattle.std.specs.FinMap.{get}
use Rattle.std.specs.Int.{w32, w64, from_be_bytes, cast_unsigned}
use Rattle.std.proofs.lemmas.Int.{of_z-to_z}
use Rattle.std.proofs.lemmas.List.{drop-take, take-take, length-take-le}
use Rattle.std.proofs.lemmas.Nat.{be_bytes_4}
use Rattle.hol_io.specs.declared.name.BlobName.{BlobName}
use Rattle.hol_io.specs.declared.name.BlobName.TheVariants.{Snapshot, Delta}
use Rattle.hol_io.specs.Store.{Store}
use Rattle.schema_model.specs.declared.schema.Schema.{Schema}
use Rattle.blob_grammar.specs.Decided.{AreBytes}
use Rattle.blob_grammar.specs.Form.{◌>>=◌, both, judged, nothing}
use Rattle.blob_frame.specs.declared.header.Header.{Header}
use Rattle.blob_frame.specs.Header.{HeaderIs, format, format_number, header}
use Rattle.blob_frame.specs.Item.{fixed, signed}
use Rattle.delta_blob.specs.declared.part.DeltaPart.{DeltaPart}
use Rattle.delta_blob.specs.Parts.{delta}
use Rattle.delta_blob.specs.Patch.{TypePatch, DeltaIs}
use Rattle.snapshot_blob.proofs.Whole.{begins}
use Rattle.chain_store.specs.Tags.{HasTag, IsTagTaken}
use Rattle.written_laws.specs.Chain.{Chain, ChainState, HasVersion}
use Rattle.written_laws.specs.HoldsChain.{HoldsChain, IsSnapshotOfState, LeadsForth}
use Rattle.chain_laws.specs.Producers.{HoldsBytes, KeepsChain}
use Rattle.chain_laws.proofs.StoreNames.{found, taken}

-- ---- bytes

in_front : (count : ℕ) (bytes : List ℕ) → AreBytes bytes → (i : ℕ) → get_or (take count bytes) i 0 < 256
in_front zero bytes all i = omega arith
in_front (suc count) [] all i = omega arith
in_front (suc count) (byte ∷ bytes) all zero = all 0 0 (omega arith)
in_front (suc count) (byte ∷ bytes) all (suc i) = in_front count bytes (λ k d within. all (suc k) d (omega (arith, within))) i

bytes_behind : (count : ℕ) (bytes : List ℕ) → AreBytes bytes → AreBytes (drop count bytes)
bytes_behind zero bytes all = all
bytes_behind (suc count) [] all = all
bytes_behind (suc count) (byte ∷ bytes) all = bytes_behind count bytes (λ k d within. all (suc k) d (omega (arith, within)))

small_number : (bytes : List ℕ) → ((i : ℕ) → get_or bytes i 0 < 256) → from_be_bytes w64 bytes < 2 ^ 64
small_number bytes small = omega (arith, small 0, small 1, small 2, small 3, small 4, small 5, small 6, small 7)

-- the format, and the tag at 12
front : (blob : List ℕ) (destination : ℤ) (z : ℕ) → AreBytes blob → 20 ≤ length blob → format_number ≡ from_be_bytes w32 (take 4 blob) → z ≡ from_be_bytes w64 (take 8 (drop 12 blob))
    → cast_unsigned w64 destination ≡ z → HasTag (cast_unsigned w64 destination) blob
front blob destination z all long of_format of_tag is = (
  long,
  record {
    format = take-take 4 20 blob (omega arith) ∙ sym (be_bytes_4 (take 4 blob) format_number (length-take-le 4 blob (omega (arith, long))) (in_front 4 blob all) of_format);
    tagged = inr (ap (λ (bytes : List ℕ). from_be_bytes w64 (take 8 bytes)) (drop-take 12 8 blob) ∙ ap (from_be_bytes w64) (take-take 8 8 (drop 12 blob) (omega arith)) ∙ sym of_tag ∙ sym is);
  },
)

pub header_tagged : (blob : List ℕ) (n : ℕ) (head : Header) → AreBytes blob → HeaderIs blob n head → HasTag (cast_unsigned w64 head.destination) blob
unfolding header ◌>>=◌ format signed judged fixed nothing
header_tagged blob n head all (u, m, (x, (m_is, m_in, x_is), of_format), (from, k, (y, (k_is, k_in, y_is), from_is), (to, l, (z, (l_is, l_in, z_is), to_is), (listed, e, of_listed, (pairs, p, of_pairs, (is, last)))))) =
    let at : k ≡ 12 = omega (arith, k_is, m_is) in
    let long : 20 ≤ length blob = omega (arith, l_is, at, l_in) in
    let number : z ≡ from_be_bytes w64 (take 8 (drop 12 blob)) = subst (λ (place : ℕ). z ≡ from_be_bytes w64 (take 8 (drop place blob))) at z_is in
    let small : z < 2 ^ 64 = subst (λ (w : ℕ). w < 2 ^ 64) (sym number) (small_number (take 8 (drop 12 blob)) (in_front 8 (drop 12 blob) (bytes_behind 12 blob all))) in
    front blob head.destination z all long (sym of_format ∙ x_is) number
    (ap (λ (h : Header). cast_unsigned w64 h.destination) is ∙ ap (cast_unsigned w64) to_is ∙ of_z-to_z w64 z small)

-- a delta begins with its header
pub delta_begins : (blob : List ℕ) (head : Header) (parts : List DeltaPart) (next : ℕ) → delta.Stands blob 0 (head, parts) next → (n : ℕ) × HeaderIs blob n head
unfolding delta both ◌>>=◌ nothing
delta_begins blob head parts next (h, n, begin, rest) = (n, subst (λ (x : Header). header.Stands blob 0 x n) (ap (λ (p : Header × List DeltaPart). p.0) (sym rest.3.0)) begin)

delta_tagged : (schemas : List Schema) (blob : List ℕ) (origin destination : ℤ) (patch : List TypePatch) → AreBytes blob → DeltaIs schemas blob origin destination patch → HasTag (cast_unsigned w64 destination) blob
delta_tagged schemas blob origin destination patch all is =
    let (n, begin) = delta_begins blob is.head is.parts (length blob) is.items.items in
    subst (λ (tag : ℤ). HasTag (cast_unsigned w64 tag) blob) is.to_tag (header_tagged blob n is.head all begin)

snapshot_tagged : (state : ChainState) (blob : List ℕ) → AreBytes blob → IsSnapshotOfState state blob → HasTag (cast_unsigned w64 state.tag) blob
snapshot_tagged state blob all (head, tag, is) =
    let (n, begin, short) = begins blob head state.model is.halves is.accepted in
    subst (λ (tag : ℤ). HasTag (cast_unsigned w64 tag) blob) tag (header_tagged blob n head all begin)

-- ---- the states of a chain

module _ (store : Store) (chain : Chain) (holds : HoldsChain store chain) (bytes : HoldsBytes store) where
  one : (version : ℕ) (a b : ChainState) → HasVersion chain version a → HasVersion chain version b → a ≡ b
  one version a b at also = let same : Some a ≡ Some b = sym at ∙ also in cc

  bytes_of : (name : BlobName) (blob : List ℕ) → get store name ≡ Some blob → AreBytes blob
  bytes_of name blob at = subst (λ (content : Option (List ℕ)). IfSome content AreBytes) at (bytes name)

  tag_taken : (version : ℕ) (state : ChainState) → HasVersion chain version state → IsTagTaken store state.tag
  tag_taken version state there =
      elim (holds.all version state there) [
        | inl root ↦
            (let (blob, at) = found (get store (Snapshot version)) root.1 in
            let (other, also, is) = holds.each (Snapshot version) blob at in
            taken store state.tag (Snapshot version) blob tt at
            (snapshot_tagged state blob (bytes_of (Snapshot version) blob at) (subst (λ (s : ChainState). IsSnapshotOfState s blob) (one version other state also there) is)))
        | inr step ↦
            (let (blob, at) = found (get store (Delta state.parent version)) step.forward in
            let (before, after, was, also, parent, leads) = holds.each (Delta state.parent version) blob at in
            let leads_here : LeadsForth before state blob = subst (λ (s : ChainState). LeadsForth before s blob) (one version after state also there) leads in
            taken store state.tag (Delta state.parent version) blob tt at
            (delta_tagged state.model blob before.tag state.tag leads_here.patch (bytes_of (Delta state.parent version) blob at) leads_here.is))
      ]

  pub kept_of_bytes : KeepsChain store chain
  kept_of_bytes = record { holds = holds; tags = tag_taken }

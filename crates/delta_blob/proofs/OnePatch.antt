-- The bytes of a delta are of one patch against a model, between two tags.
use Rattle.std.proofs.Common.{◌≡◌, ◌∙◌, ℕ, ℤ, suc, List, [], ◌∷◌, Some, ap, arith, length, refl, slice_get, subst, sym}
use Rattle.std.specs.Prelude.{All}
use Rattle.std.specs.List.{AllZip}
use Rattle.std.proofs.lemmas.List.Elements.{All-head, All-tail}
use Rattle.schema_model.specs.declared.model.rule.Rule.TheVariants.{DuplicateName}
use Rattle.schema_model.specs.declared.schema.Schema.{Schema}
use Rattle.schema_model.specs.Model.{IsKept}
use Rattle.row_model.specs.declared.row.Row.{Row}
use Rattle.type_rows.specs.Patches.{places_in}
use Rattle.type_rows.proofs.Loading.{one_row}
use Rattle.seen_patches.specs.Patch.{AddsSeen, layout_for, own_for}
use Rattle.seen_patches.proofs.Patched.{rows_seen}
use Rattle.seen_patches.proofs.SomeSeen.{each_seen}
use Rattle.blob_frame.specs.declared.header.Header.{Header}
use Rattle.delta_blob.specs.declared.part.DeltaPart.{DeltaPart}
use Rattle.delta_blob.specs.Parts.{delta}
use Rattle.delta_blob.specs.Patch.{DeltaIs, PartIs, SeesParts, TypePatch, parts_for}
use Rattle.delta_blob.proofs.GivenParts.{IsGivenPart, body_given}
use Rattle.delta_blob.proofs.SeenParts.{IsPlainPart, one_type, there_plain}
use Rattle.delta_blob.proofs.WholeDeltas.{split}

-- lists of rows that are the same at each place
same_rows : (xs ys : List Row) → length xs ≡ length ys → ((k : ℕ) (x y : Row) → slice_get xs k ≡ Some x → slice_get ys k ≡ Some y → x ≡ y) → xs ≡ ys
same_rows [] [] long each = refl
same_rows [] (y ∷ ys) long each = absurd (omega (arith, long))
same_rows (x ∷ xs) [] long each = absurd (omega (arith, long))
same_rows (x ∷ xs) (y ∷ ys) long each =
    let one = each 0 x y refl refl in
    let rest = same_rows xs ys (omega (arith, long)) (λ k. each (suc k)) in
    λ i. one i ∷ rest i

-- a part of a blob is that of one patch
part_once : (schemas : List Schema) → IsKept schemas DuplicateName → (part : DeltaPart) → IsPlainPart part → (p q : TypePatch) → PartIs schemas part p → PartIs schemas part q → p ≡ q
part_once schemas apart part plain p q one other =
    let theirs = part.schema.shape in
    let (index, schema) = one_type schemas apart part.schema part.schema p.schema q.schema p.type_index q.type_index one.means other.means refl in
    let layout = one.layout ∙ ap (λ (s : Schema). layout_for s.shape theirs part.section) schema ∙ sym other.layout in
    let own = one.own ∙ ap (λ (s : Schema). own_for s.shape theirs part.section.widths) schema ∙ sym other.own in
    let removed = one.removed ∙ sym other.removed in
    let added = one.added ∙ sym other.added in
    let (seen, is) = each_seen q.schema.shape theirs part.section other.means.agree in
    let both = λ (rows : List Row). rows_seen q.schema.shape theirs part.section seen rows other.means.agree plain.apart plain.given.columns is in
    let first = (both p.rows).1 (subst (λ (s : Schema). AddsSeen s.shape theirs part.section p.rows) schema one.spelled) in
    let second = (both q.rows).1 other.spelled in
    let long = first.each ∙ sym second.each in
    let rows = same_rows p.rows q.rows long (λ k x y at_x at_y. (one_row q.schema.shape (places_in seen)).once k x y (first.spelled k x at_x) (second.spelled k y at_y)) in
    λ i. record { type_index = index i; schema = schema i; layout = layout i; own = own i; removed = removed i; added = added i; rows = rows i }

-- so are all parts
all_once : (schemas : List Schema) → IsKept schemas DuplicateName → (parts : List DeltaPart) → All IsPlainPart parts → (ps qs : List TypePatch) → AllZip (PartIs schemas) parts ps → AllZip (PartIs schemas) parts qs
    → ps ≡ qs
all_once schemas apart [] plain [] [] one other = refl
all_once schemas apart (part ∷ parts) plain (p ∷ ps) (q ∷ qs) one other =
    let here = part_once schemas apart part (All-head IsPlainPart part parts plain) p q one.0 other.0 in
    let rest = all_once schemas apart parts (All-tail IsPlainPart part parts plain) ps qs one.1 other.1 in
    λ i. here i ∷ rest i
all_once schemas apart [] plain (p ∷ ps) qs one other = absurd one
all_once schemas apart [] plain [] (q ∷ qs) one other = absurd other
all_once schemas apart (part ∷ parts) plain [] qs one other = absurd one
all_once schemas apart (part ∷ parts) plain (p ∷ ps) [] one other = absurd other

-- what holds of each part of a delta, and of those that a model has
pub delta_given : (blob : List ℕ) (schemas : List Schema) (a b : ℤ) (p : List TypePatch) → (is : DeltaIs schemas blob a b p) → All IsGivenPart is.parts
delta_given blob schemas a b p is = let (n, begins, stands) = split blob is.head is.parts (length blob) is.items.items in body_given blob n is.parts (length blob) stands

module _ (schemas others : List Schema) (blob : List ℕ) (a b c d : ℤ) (p q : List TypePatch) (one : DeltaIs schemas blob a b p) (other : DeltaIs others blob c d q) where
  same_items : ◌≡◌ {A = Header × List DeltaPart} (one.head, one.parts) (other.head, other.parts)
  same_items = (delta.decided.one blob 0 (one.head, one.parts) (other.head, other.parts) (length blob) (length blob) one.items.items other.items.items).0

  -- of one list of types
  pub parts_once : one.parts ≡ other.parts
  parts_once = ap (λ (v : Header × List DeltaPart). v.1) same_items

  -- and of one tag each
  pub tags_once : (a ≡ c) × (b ≡ d)
  tags_once =
      let head : one.head ≡ other.head = ap (λ (v : Header × List DeltaPart). v.0) same_items in
      (sym one.from_tag ∙ ap (λ (h : Header). h.origin) head ∙ other.from_tag, sym one.to_tag ∙ ap (λ (h : Header). h.destination) head ∙ other.to_tag)

pub patch_once : (schemas : List Schema) (blob : List ℕ) (a b c d : ℤ) (p q : List TypePatch) → IsKept schemas DuplicateName → DeltaIs schemas blob a b p → DeltaIs schemas blob c d q → p ≡ q
patch_once schemas blob a b c d p q apart one other =
    all_once schemas apart (parts_for schemas one.parts) (there_plain schemas one.parts one.items.once (delta_given blob schemas a b p one)) p q one.sees
    (subst (λ (ps : List DeltaPart). SeesParts schemas ps q) (sym (parts_once schemas schemas blob a b c d p q one other)) other.sees)

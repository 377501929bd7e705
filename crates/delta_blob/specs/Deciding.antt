-- Which type of the model a type of a delta is, and how the model's schema sees it, come out in one way.
use Rattle.std.proofs.Common.{◌≡◌, ◌∙◌, ℕ, List, Option, None, Some, slice_get, ap, refl, subst, sym}
use Rattle.schema_model.specs.declared.schema.Schema.{Schema}
use Rattle.schema_model.specs.Growth.{Agree}
use Rattle.blob_frame.specs.declared.fault.BlobFault.TheVariants as fault
use Rattle.blob_faults.specs.Deciding.{Decides, IsOwn}
use Rattle.seen_patches.specs.Seen.{IsSeen}
use Rattle.seen_patches.proofs.OneSeen.{one_seen}
use Rattle.delta_blob.specs.declared.of_model.NamedPart.{NamedPart}
use Rattle.delta_blob.specs.declared.part.DeltaPart.{DeltaPart}
use Rattle.delta_blob.specs.declared.patch.PatchPart.{PatchPart}
use Rattle.delta_blob.specs.Meant.{Disagrees, IsMeant, IsNamed, IsNamedPart, IsSeenPart}

-- a schema means one type
one_index : (schemas : List Schema) (schema mine other : Schema) (t u : ℕ) → IsMeant schemas schema t mine → IsMeant schemas schema u other → t ≡ u
one_index schemas schema mine other t u one two = let same : Some t ≡ Some u = sym one.first ∙ two.first in cc

one_schema : (schemas : List Schema) (t u : ℕ) (mine other : Schema) → t ≡ u → slice_get schemas t ≡ Some mine → slice_get schemas u ≡ Some other → mine ≡ other
one_schema schemas t u mine other same at_t at_u = let there : Some mine ≡ Some other = sym at_t ∙ ap (slice_get schemas) same ∙ at_u in cc

one_named : (schemas : List Schema) (part : DeltaPart) (v w : NamedPart) → IsNamed schemas part v → IsNamed schemas part w → v ≡ w
one_named schemas part v w p q =
    let types = one_index schemas part.schema p.agrees.mine q.agrees.mine v.type_index w.type_index p.agrees.meant q.agrees.meant in
    let parts = p.same ∙ sym q.same in
    λ i. record { type_index = types i; part = parts i }

one_part : (schemas : List Schema) (part : DeltaPart) (v w : Option NamedPart) → IsNamedPart schemas part v → IsNamedPart schemas part w → v ≡ w
one_part schemas part None None p q = refl
one_part schemas part None (Some w) p q = absurd (let bad : None ≡ Some w.type_index = sym p ∙ q.agrees.meant.first in cc)
one_part schemas part (Some v) None p q = absurd (let bad : None ≡ Some v.type_index = sym q ∙ p.agrees.meant.first in cc)
one_part schemas part (Some v) (Some w) p q = ap (λ (named : NamedPart). Some named) (one_named schemas part v w p q)

-- a type that agrees does not disagree
not_both : (schemas : List Schema) (part : DeltaPart) (v : Option NamedPart) → IsNamedPart schemas part v → Disagrees schemas part.schema → ⊥
not_both schemas part None p q = let bad : None ≡ Some q.index = sym p ∙ q.meant.first in cc
not_both schemas part (Some v) p q =
    let agrees = p.agrees in
    let index = one_index schemas part.schema agrees.mine q.mine v.type_index q.index agrees.meant q.meant in
    let same = one_schema schemas v.type_index q.index agrees.mine q.mine index agrees.meant.stands q.meant.stands in
    q.differs (subst (λ (mine : Schema). Agree mine part.schema) same agrees.agree)

pub decides_named : (schemas : List Schema) (part : DeltaPart) → Decides (IsNamedPart schemas part) (λ found. Disagrees schemas part.schema × (found ≡ fault.OtherModel part.schema.name))
decides_named schemas part = record {
  one = one_part schemas part;
  once = λ a b p q. p.1 ∙ sym q.1;
  apart = λ v found p q. not_both schemas part v p q.0;
  own = λ found p. subst IsOwn (sym p.1) tt;
}

one_seen_part : (schemas : List Schema) (named : NamedPart) (v w : PatchPart) → IsSeenPart schemas named v → IsSeenPart schemas named w → v ≡ w
one_seen_part schemas named v w p q =
    let same = one_schema schemas named.type_index named.type_index p.mine q.mine refl p.stands q.stands in
    let seen = subst (λ (mine : Schema). IsSeen mine.shape named.part.schema.shape named.part.section v.section) same p.section in
    let types = p.type_index ∙ sym q.type_index in
    let places = p.at ∙ sym q.at in
    let sections = one_seen q.mine.shape named.part.schema.shape named.part.section v.section w.section seen q.section in
    λ i. record { type_index = types i; at = places i; section = sections i }

pub decides_seen : (schemas : List Schema) (named : NamedPart) → Decides (IsSeenPart schemas named) (λ found. ⊥)
decides_seen schemas named = record {
  one = one_seen_part schemas named;
  once = λ a b p q. absurd p;
  apart = λ v found p q. q;
  own = λ found p. absurd p;
}

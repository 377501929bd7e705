-- A store without blobs holds the chain without states.
use Rattle.std.proofs.Common.{◌≡◌, ℕ, List, Option, Some, inl, refl, ◌∙◌, sym, subst}
use Rattle.std.specs.Ordering.{nat_cmp}
use Rattle.std.specs.FinMap.{empty, get, get-empty}
use Rattle.hol_io.specs.declared.name.BlobName.{BlobName}
use Rattle.hol_io.specs.declared.name.BlobName.TheVariants.{Announced}
use Rattle.hol_io.specs.Name.{name_cmp}
use Rattle.chain_store.specs.Announced.{Announces}
use Rattle.written_laws.specs.Chain.{ChainState}
use Rattle.written_laws.specs.HoldsChain.{HoldsChain}

no_state : (version : ℕ) (state : ChainState) → get (empty {R = nat_cmp}) version ≡ Some state → ⊥
no_state version state there = let none = sym (get-empty nat_cmp version) ∙ there in absurd cc

no_blob : (name : BlobName) (blob : List ℕ) → get (empty {R = name_cmp}) name ≡ Some blob → ⊥
no_blob name blob there = let none = sym (get-empty name_cmp name) ∙ there in absurd cc

pub holds_none : HoldsChain empty empty
holds_none = record {
  sound = record {
    versions = λ version state there. absurd (no_state version state there);
    sound = λ version state there. absurd (no_state version state there);
    follow = λ version state there. absurd (no_state version state there);
    tags = λ u v a b there also same. absurd (no_state u a there);
    line = λ u v a b there also one other same. absurd (no_state u a there);
  };
  each = λ name blob there. absurd (no_blob name blob there);
  all = λ version state there. absurd (no_state version state there);
  announced = (
    0,
    record { is = inl refl; last = λ other state there one. absurd (no_state other state there) },
    subst (λ (content : Option (List ℕ)). Announces content 0) (sym (get-empty name_cmp Announced)) refl,
  );
}

-- The ordinals under which a type has rows in one state and none in another; and indexes of the first types.
use Rattle.std.proofs.Common.{◌≡◌, ◌∙◌, ◌↔◌, ◌+◌, ◌<◌, ℕ, List, [], ◌∷◌, ◌++◌, Option, Some, length, set, slice_get, refl, sym, ap, subst, inl, inr, arith}
use Rattle.std.specs.Prelude.{Contains}
use Rattle.std.proofs.lemmas.Bool.{cases_eq}
use Rattle.std.proofs.lemmas.List.{length-append}
use Rattle.std.proofs.lemmas.List.Kept.{AllPairs-from_increasing}
use Rattle.schema_model.specs.declared.schema.Schema.{Schema}
use Rattle.key_index.specs.Indexed.{Indexed}
use Rattle.ordinal_set.specs.Ordinals.{AreOrdinals, lacking}
use Rattle.ordinal_set.proofs.Beside.{is_member, lacking_member, member_lacking}
use Rattle.row_model.specs.Table.{IsLive, Table}
use Rattle.hol_incremental.specs.EditKeys.{TellsIndex}
use Rattle.hol_incremental.specs.Keeping.{AreLacking, IsReadyIndex}
use Rattle.hol_incremental.proofs.MappedLists.{behind_at, set_beside, set_here}

-- the ordinals of two states as sets: those of the one that the other one lacks
module _ (table other : Table) (t : ℕ) (mine theirs : List ℕ) (here : (o : ℕ) → Contains mine o ↔ IsLive table t o) (there : (o : ℕ) → Contains theirs o ↔ IsLive other t o) where
  pub comes : (o : ℕ) → Contains (lacking mine theirs) o → IsLive table t o × (IsLive other t o → ⊥)
  comes o among = let both = lacking_member mine theirs o among in ((here o).0 both.0, λ live. both.1 ((there o).1 live))

  pub stays : (o : ℕ) → (Contains (lacking mine theirs) o → ⊥) → IsLive table t o → IsLive other t o
  stays o none live =
      elim (is_member theirs o) [
        | inl among ↦ (there o).0 among
        | inr apart ↦ absurd (none (member_lacking mine theirs o ((here o).1 live) apart))
      ]

  pub lacking_all : AreOrdinals (lacking mine theirs) → (ordinals : List ℕ) → ordinals ≡ lacking mine theirs → AreLacking table other t ordinals
  lacking_all are ordinals is = subst (AreLacking table other t) (sym is) (record {
    rising = AllPairs-from_increasing (lacking mine theirs) are.rising;
    are = λ o. ((λ among. comes o among), (λ both. member_lacking mine theirs o ((here o).1 both.0) (λ among. both.1 ((there o).0 among))));
  })

-- ---- the indexes of the first types

module _ (schemas : List Schema) (table : Table) where
  -- These are the indexes of so many types.
  pub record AreBuilt (count : ℕ) (keys : List (Option Indexed)) : Type 0 where
    pub types : length keys ≡ count
    pub each : (t : ℕ) (index : Option Indexed) → slice_get keys t ≡ Some index → TellsIndex schemas table t index

  pub built_none : (keys : List (Option Indexed)) → keys ≡ [] → AreBuilt 0 keys
  built_none keys none = subst (AreBuilt 0) (sym none) (record { types = refl; each = λ t index at. absurd cc })

  pub built_more : (count : ℕ) (keys keys' : List (Option Indexed)) (index : Option Indexed) → AreBuilt count keys → TellsIndex schemas table count index → keys' ≡ keys ++ index ∷ [] → AreBuilt (count + 1) keys'
  built_more count keys keys' index built tells is = subst (AreBuilt (count + 1)) (sym is) (record {
    types = length-append keys (index ∷ []) ∙ (let types = built.types in omega (arith, types));
    each = λ t found at. (elim (behind_at keys index found t at) [
      | inl there ↦ built.each t found there
      | inr last ↦ subst (TellsIndex schemas table t) last.1 (subst (λ n. TellsIndex schemas table n index) (sym (last.0 ∙ built.types)) tells)
    ]);
  })

-- the indexes of the first types are ready
abbrev pub AreReadyBelow : List Schema → Table → ℕ → List (Option Indexed) → Type 0
AreReadyBelow schemas next count keys = (t : ℕ) (index : Option Indexed) → t < count → slice_get keys t ≡ Some index → IsReadyIndex schemas next index

pub ready_set : (schemas : List Schema) (next : Table) (count : ℕ) (keys : List (Option Indexed)) (index : Option Indexed) → AreReadyBelow schemas next count keys → IsReadyIndex schemas next index
    → AreReadyBelow schemas next (count + 1) (set keys count index)
ready_set schemas next count keys index below ready t found low at =
    elim (cases_eq t count) [
      | inl same ↦ subst (IsReadyIndex schemas next) (set_here keys count index found (ap (slice_get (set keys count index)) (sym same) ∙ at)) ready
      | inr other ↦ below t found (omega (arith, low, other)) (set_beside keys count t index found other at)
    ]

-- What a store has after some puts, one after another: what was put, or what was there before.
use Rattle.std.proofs.Common.{◌≡◌, ◌≤◌, ◌⊎◌, ℕ, zero, suc, List, [], ◌∷◌, ◌++◌, length, take, Some, inl, inr, refl, sym, ◌∙◌, arith}
use Rattle.std.specs.FinMap.{get, insert}
use Rattle.hol_io.specs.declared.name.BlobName.{BlobName}
use Rattle.hol_io.specs.Store.{Store}
use Rattle.state_blobs.specs.Puts.{Put, put_all}
use Rattle.chain_laws.proofs.Inserting.{inserted, beside, here_or_beside}
use Rattle.chain_laws.proofs.NameOrder.{name_cmp_total, name_cmp-IsAntisymmetric}

-- one of the puts puts this under the name
abbrev pub IsPutIn : List Put → BlobName → List ℕ → Type 0
IsPutIn [] name blob = ⊥
IsPutIn (put ∷ puts) name blob = ((name ≡ put.0) × (blob ≡ put.1)) ⊎ IsPutIn puts name blob

-- none of the puts is under the name
abbrev pub IsUntouched : List Put → BlobName → Type 0
IsUntouched [] name = Unit {0}
IsUntouched (put ∷ puts) name = (name ≡ put.0 → ⊥) × IsUntouched puts name

some_is : {A : Type 0} (a b : A) → Some a ≡ Some b → a ≡ b
some_is a b e = cc

pub put_or_before : (puts : List Put) (store : Store) (name : BlobName) (blob : List ℕ) → get (put_all store puts) name ≡ Some blob → IsPutIn puts name blob ⊎ (get store name ≡ Some blob)
put_or_before [] store name blob at = inr at
put_or_before (put ∷ puts) store name blob at =
    elim (put_or_before puts (insert store put.0 put.1) name blob at) [
      | inl among ↦ inl (inr among)
      | inr there ↦ elim (here_or_beside name_cmp_total name_cmp-IsAntisymmetric store put.0 put.1 name) [
        | inl here ↦ inl (inl (here.0, some_is blob put.1 (sym there ∙ here.1)))
        | inr other ↦ inr (sym other.1 ∙ there)
      ]
    ]

pub untouched : (puts : List Put) (store : Store) (name : BlobName) → IsUntouched puts name → get (put_all store puts) name ≡ get store name
untouched [] store name apart = refl
untouched (put ∷ puts) store name apart = untouched puts (insert store put.0 put.1) name apart.1 ∙ beside name_cmp_total name_cmp-IsAntisymmetric store put.0 put.1 name apart.0

pub put_there : (put : Put) (puts : List Put) (store : Store) → IsUntouched puts put.0 → get (put_all store (put ∷ puts)) put.0 ≡ Some put.1
put_there put puts store apart = untouched puts (insert store put.0 put.1) put.0 apart ∙ inserted name_cmp_total name_cmp-IsAntisymmetric store put.0 put.1

-- ---- puts behind others

pub put_in_either : (puts more : List Put) (name : BlobName) (blob : List ℕ) → IsPutIn (puts ++ more) name blob → IsPutIn puts name blob ⊎ IsPutIn more name blob
put_in_either [] more name blob is = inr is
put_in_either (put ∷ puts) more name blob (inl here) = inl (inl here)
put_in_either (put ∷ puts) more name blob (inr among) = elim (put_in_either puts more name blob among) [ inl in_front ↦ inl (inr in_front) | inr behind ↦ inr behind ]

pub both_untouched : (puts more : List Put) (name : BlobName) → IsUntouched puts name → IsUntouched more name → IsUntouched (puts ++ more) name
both_untouched [] more name apart also = also
both_untouched (put ∷ puts) more name apart also = (apart.0, both_untouched puts more name apart.1 also)

-- the last of some puts is there
pub last_there : (puts : List Put) (put : Put) (store : Store) → get (put_all store (puts ++ put ∷ [])) put.0 ≡ Some put.1
last_there [] put store = put_there put [] store tt
last_there (first ∷ puts) put store = last_there puts put (insert store first.0 first.1)

-- ---- the first of some puts

-- the first of some puts are among them
pub front_in : (count : ℕ) (puts : List Put) (name : BlobName) (blob : List ℕ) → IsPutIn (take count puts) name blob → IsPutIn puts name blob
front_in zero puts name blob is = absurd is
front_in (suc count) [] name blob is = absurd is
front_in (suc count) (put ∷ puts) name blob (inl here) = inl here
front_in (suc count) (put ∷ puts) name blob (inr among) = inr (front_in count puts name blob among)

-- what none of some puts touches, none of the first touches
pub front_untouched : (count : ℕ) (puts : List Put) (name : BlobName) → IsUntouched puts name → IsUntouched (take count puts) name
front_untouched zero puts name is = tt
front_untouched (suc count) [] name is = tt
front_untouched (suc count) (put ∷ puts) name is = (is.0, front_untouched count puts name is.1)

-- of the first of some puts and one behind them, where that one is not among them, none touches what none of the others does
pub without_last : (count : ℕ) (puts : List Put) (last : Put) (name : BlobName) → count ≤ length puts → IsUntouched puts name → IsUntouched (take count (puts ++ last ∷ [])) name
without_last zero puts last name few is = tt
without_last (suc count) [] last name few is = absurd (omega (arith, few))
without_last (suc count) (put ∷ puts) last name few is = (is.0, without_last count puts last name (omega (arith, few)) is.1)

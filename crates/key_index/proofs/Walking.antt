-- A walk along the chain of a key's hash, which gathers the ordinals whose rows have the key.
use Rattle.std.proofs.Common.{◌≡◌, ◌↔◌, ℕ, List, [], ◌∷◌, ◌++◌, Option, Some, None, sym, ap, subst, ◌∙◌, inl, inr, append_assoc}
use Rattle.std.specs.Prelude.{Contains, IsSomeAnd}
use Rattle.std.proofs.lemmas.List.{append-nil}
use Rattle.std.proofs.lemmas.List.Elements.{Contains-push_cases}
use Rattle.linked_slots.specs.Chained.{Chained, IsAt, IsWhole, bucket_of, chain_of, hash_of, left_at}
use Rattle.row_hash.specs.Hash.{values_hash}
use Rattle.row_model.specs.declared.row.Value.{Value}
use Rattle.key_index.specs.Slots.{AreHashed, AreOnce, key_hash, key_in, read_at}
use Rattle.key_index.specs.declared.slot.Slot.{Slot}
use Rattle.key_index.proofs.Lists.{contains_none, contains_skipped, once_apart, once_skipped}

module _ (slots : List Slot) (chains : Chained) (key : List Value) (hash : ℕ) where
  -- the row under an ordinal has the key
  abbrev HasKey : ℕ → Type 0
  HasKey o = read_at key_in slots o ≡ Some key

  -- What was found has the key, and with what stands ahead it has each row with the key, and none twice.
  pub record IsWalked (found : List ℕ) (at : Option ℕ) : Type 0 where
    pub stands : IsAt chains hash at
    pub are : (o : ℕ) → Contains found o → HasKey o
    pub ahead : (o : ℕ) → HasKey o → Contains (found ++ left_at chains hash at) o
    pub once : AreOnce (found ++ left_at chains hash at)

  pub walk_starts : (found : List ℕ) (at : Option ℕ) → AreHashed slots chains → hash ≡ values_hash key → found ≡ [] → left_at chains hash at ≡ chain_of chains hash → IsAt chains hash at → IsWhole chains hash → IsWalked found at
  walk_starts found at linked hashed none whole stands chain =
      subst (λ f. IsWalked f at) (sym none) record {
        stands = stands;
        are = λ o h. absurd (contains_none o h);
        ahead = λ o has. subst (λ left. Contains left o) (sym whole) ((chain.holds o).1 (in_bucket (hash_of chains o) (linked o ∙ ap key_hash has ∙ ap Some (sym hashed))));
        once = subst AreOnce (sym whole) (once_apart (chain_of chains hash) chain.once);
      }
    where
      in_bucket : (other : Option ℕ) → other ≡ Some hash → IsSomeAnd other (λ h. bucket_of chains h ≡ bucket_of chains hash)
      in_bucket None is = absurd cc
      in_bucket (Some h) is = let same : h ≡ hash = cc in ap (bucket_of chains) same

  module _ (found : List ℕ) (at next : Option ℕ) (o : ℕ) (walked : IsWalked found at) (here : at ≡ Some o)
      (steps : IsAt chains hash (Some o) → left_at chains hash (Some o) ≡ o ∷ left_at chains hash next) (moves : IsAt chains hash (Some o) → IsAt chains hash next) where
    stands_here : IsAt chains hash (Some o)
    stands_here = subst (IsAt chains hash) here walked.stands

    left_here : left_at chains hash at ≡ o ∷ left_at chains hash next
    left_here = ap (left_at chains hash) here ∙ steps stands_here

    ahead_here : (q : ℕ) → HasKey q → Contains (found ++ o ∷ left_at chains hash next) q
    ahead_here q has = subst (λ left. Contains (found ++ left) q) left_here (walked.ahead q has)

    once_here : AreOnce (found ++ o ∷ left_at chains hash next)
    once_here = subst (λ left. AreOnce (found ++ left)) left_here walked.once

    pub walk_finds : (more : List ℕ) → HasKey o → more ≡ found ++ o ∷ [] → IsWalked more next
    walk_finds more has is =
        let joined : more ++ left_at chains hash next ≡ found ++ o ∷ left_at chains hash next =
        ap (λ f. f ++ left_at chains hash next) is ∙ append_assoc found (o ∷ []) (left_at chains hash next) in
        record {
          stands = moves stands_here;
          are = λ q h. elim (Contains-push_cases found o q (subst (λ f. Contains f q) is h)) [ inl was ↦ walked.are q was | inr e ↦ subst HasKey e has ];
          ahead = λ q q_has. subst (λ f. Contains f q) (sym joined) (ahead_here q q_has);
          once = subst AreOnce (sym joined) once_here;
        }

    pub walk_passes : (HasKey o → ⊥) → IsWalked found next
    walk_passes never = record {
      stands = moves stands_here;
      are = walked.are;
      ahead = λ q has. contains_skipped found (left_at chains hash next) o q (λ e. never (subst HasKey e has)) (ahead_here q has);
      once = once_skipped found (left_at chains hash next) o once_here;
    }

  module _ (found : List ℕ) (at : Option ℕ) (walked : IsWalked found at) (ends : at ≡ None) where
    whole : found ++ left_at chains hash at ≡ found
    whole = ap (λ a. found ++ left_at chains hash a) ends ∙ append-nil found

    pub walk_found : (o : ℕ) → Contains found o ↔ HasKey o
    walk_found o = (walked.are o, λ has. subst (λ f. Contains f o) whole (walked.ahead o has))

    pub walk_once : AreOnce found
    walk_once = subst AreOnce whole walked.once

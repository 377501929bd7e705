-- A walk along the chain of a number, which gathers the slots that have it.
use Rattle.std.proofs.Common.{◌≡◌, ◌⊎◌, ℕ, List, [], ◌∷◌, ◌++◌, Option, Some, None, sym, ap, subst, ◌∙◌, inl, inr, append_assoc}
use Rattle.std.specs.Prelude.{Contains, IsSomeAnd}
use Rattle.std.proofs.lemmas.List.{append-nil}
use Rattle.std.proofs.lemmas.List.Elements.{Contains-append_left, Contains-push, Contains-push_cases}
use Rattle.linked_slots.specs.Chained.{Chained, IsAt, IsWhole, bucket_of, chain_of, hash_of, left_at}
use Rattle.key_index.proofs.Lists.{contains_either, contains_none}
use Rattle.hol_paths.specs.Groups.{AreGathered}

module _ (chains : Chained) (number : ℕ) where
  abbrev HasNumber : ℕ → Type 0
  HasNumber slot = hash_of chains slot ≡ Some number

  -- What was found has the number, and with what stands ahead it has each slot with the number.
  pub record IsGathering (before after : List ℕ) (at : Option ℕ) : Type 0 where
    pub found : List ℕ
    pub behind : after ≡ before ++ found
    pub stands : IsAt chains number at
    pub are : (slot : ℕ) → Contains found slot → HasNumber slot
    pub ahead : (slot : ℕ) → HasNumber slot → Contains found slot ⊎ Contains (left_at chains number at) slot

  pub gathering_starts : (before : List ℕ) (at : Option ℕ) → left_at chains number at ≡ chain_of chains number → IsAt chains number at → IsWhole chains number → IsGathering before before at
  gathering_starts before at whole stands chain = record {
    found = [];
    behind = sym (append-nil before);
    stands = stands;
    are = λ slot h. absurd (contains_none slot h);
    ahead = λ slot has. inr (subst (λ left. Contains left slot) (sym whole) ((chain.holds slot).1 (in_bucket (hash_of chains slot) has)));
  }
    where
      in_bucket : (other : Option ℕ) → other ≡ Some number → IsSomeAnd other (λ h. bucket_of chains h ≡ bucket_of chains number)
      in_bucket None is = absurd cc
      in_bucket (Some h) is = let same : h ≡ number = cc in ap (bucket_of chains) same

  module _ (before after : List ℕ) (at next : Option ℕ) (o : ℕ) (walked : IsGathering before after at) (here : at ≡ Some o)
      (steps : IsAt chains number (Some o) → left_at chains number (Some o) ≡ o ∷ left_at chains number next) (moves : IsAt chains number (Some o) → IsAt chains number next) where
    stands_here : IsAt chains number (Some o)
    stands_here = subst (IsAt chains number) here walked.stands

    left_here : left_at chains number at ≡ o ∷ left_at chains number next
    left_here = ap (left_at chains number) here ∙ steps stands_here

    pub gathering_finds : (more : List ℕ) → HasNumber o → more ≡ after ++ o ∷ [] → IsGathering before more next
    gathering_finds more has is = record {
      found = walked.found ++ o ∷ [];
      behind = is ∙ ap (λ l. l ++ o ∷ []) walked.behind ∙ append_assoc before walked.found (o ∷ []);
      stands = moves stands_here;
      are = λ q h. elim (Contains-push_cases walked.found o q h) [ inl was ↦ walked.are q was | inr e ↦ subst HasNumber e has ];
      ahead = λ q q_has.
          elim (walked.ahead q q_has) [
            | inl was ↦ inl (Contains-append_left walked.found (o ∷ []) q was)
            | inr left ↦ elim (contains_either o q (left_at chains number next) (subst (λ l. Contains l q) left_here left)) [
              | inl e ↦ inl (subst (Contains (walked.found ++ o ∷ [])) e (Contains-push walked.found o))
              | inr later ↦ inr later
            ]
          ];
    }

    pub gathering_passes : (HasNumber o → ⊥) → IsGathering before after next
    gathering_passes never = record {
      found = walked.found;
      behind = walked.behind;
      stands = moves stands_here;
      are = walked.are;
      ahead = λ q q_has.
          elim (walked.ahead q q_has) [
            | inl was ↦ inl was
            | inr left ↦ elim (contains_either o q (left_at chains number next) (subst (λ l. Contains l q) left_here left)) [
              | inl e ↦ absurd (never (subst HasNumber (sym e) q_has))
              | inr later ↦ inr later
            ]
          ];
    }

  pub gathering_ends : (before after : List ℕ) (at : Option ℕ) → IsGathering before after at → at ≡ None → AreGathered (hash_of chains) number before after
  gathering_ends before after at walked ends = record {
    found = walked.found;
    behind = walked.behind;
    are = λ q. (
      walked.are q,
      λ has. elim (walked.ahead q has) [
        | inl was ↦ was
        | inr left ↦ absurd (contains_none q (subst (λ a. Contains (left_at chains number a) q) ends left))
      ],
    );
  }

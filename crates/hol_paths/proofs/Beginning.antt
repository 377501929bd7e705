-- An index that is built: nothing stands there, and each live row comes.
use Rattle.std.proofs.Common.{◌≡◌, ◌↔◌, ℕ, ◌+◌, ◌<◌, ◌≤◌, sym, subst, inl, inr, arith, List, [], ◌∷◌, ◌++◌, length, get_or}
use Rattle.std.specs.Prelude.{Contains, IsSomeAnd, Option, Some}
use Rattle.std.proofs.lemmas.Bool.{cases_eq}
use Rattle.std.proofs.lemmas.List.Elements.{Contains-append_left, Contains-get_or, Contains-push, Contains-push_cases}
use Rattle.std.proofs.lemmas.List.Quantifiers.{all_pairs_push}
use Rattle.key_index.specs.Indexed.{CountsLive}
use Rattle.key_index.proofs.Lists.{contains_none}
use Rattle.schema_model.specs.declared.model.walk_path.WalkPart.{WalkPart}
use Rattle.schema_model.specs.declared.schema.Schema.{Schema}
use Rattle.row_model.specs.Row.{Rises}
use Rattle.row_model.specs.Table.{IsLive, Table}
use Rattle.hol_paths.specs.Walked.{AreLiveOf, Entry, FollowsWalk}

pub from_nothing : (schemas : List Schema) (table : Table) (t : ℕ) (parts : List WalkPart) (entries : List Entry) (none live : List ℕ) → entries ≡ [] → none ≡ [] → AreLiveOf table t live → FollowsWalk entries schemas table t parts none live
from_nothing schemas table t parts entries none live empty nothing are =
    subst (λ es. FollowsWalk es schemas table t parts none live) (sym empty) (subst (λ rs. FollowsWalk [] schemas table t parts rs live) (sym nothing) record {
      once = λ i j d before within. absurd (omega (arith, within));
      removed_rise = λ i j d before within. absurd (omega (arith, within));
      added_rise = are.rising;
      added_live = λ o h. (are.are o).0 h;
      kept = λ o v h. absurd (contains_none (o, v) h);
      apart = λ o v h. absurd (contains_none (o, v) h);
      stays = λ o v live_row reach. inr ((are.are o).1 live_row);
    })

pub counts_live : (table : Table) (t : ℕ) (live : List ℕ) (before after : ℕ) → AreLiveOf table t live → after ≡ before + length live → CountsLive table t before after
counts_live table t live before after are counted = (live, are.rising, are.are, counted)

-- ---- the live ordinals below one

-- These are the live ordinals of a type below one, rising.
pub record AreBelow (table : Table) (t bound : ℕ) (ordinals : List ℕ) : Type 0 where
  pub rising : Rises ordinals
  pub are : (ordinal : ℕ) → Contains ordinals ordinal ↔ (IsLive table t ordinal × (ordinal < bound))

module _ (table : Table) (t : ℕ) where
  pub below_none : (ordinals : List ℕ) → ordinals ≡ [] → AreBelow table t 0 ordinals
  below_none ordinals none = subst (AreBelow table t 0) (sym none) record {
    rising = λ i j d before within. absurd (omega (arith, within));
    are = λ o. ((λ h. absurd (contains_none o h)), (λ h. absurd (omega (arith, h.1))));
  }

  module _ (o : ℕ) (ordinals : List ℕ) (below : AreBelow table t o ordinals) where
    pub below_live : (more : List ℕ) → IsLive table t o → more ≡ ordinals ++ o ∷ [] → AreBelow table t (o + 1) more
    below_live more live is = subst (AreBelow table t (o + 1)) (sym is) record {
      rising = all_pairs_push (λ earlier later. earlier < later) ordinals o below.rising
          (λ k d within. ((below.are (get_or ordinals k d)).0 (Contains-get_or ordinals k d within)).1);
      are = λ q. (
        (λ h. elim (Contains-push_cases ordinals o q h) [
          | inl was ↦ (let at = (below.are q).0 was in let low = at.1 in (at.0, omega (arith, low)))
          | inr e ↦ (subst (IsLive table t) e live, omega (arith, e))
        ]),
        (λ h. elim (cases_eq q o) [
          | inl e ↦ subst (Contains (ordinals ++ o ∷ [])) (sym e) (Contains-push ordinals o)
          | inr other ↦ (let low = h.1 in Contains-append_left ordinals (o ∷ []) q ((below.are q).1 (h.0, omega (arith, low, other))))
        ]),
      );
    }

    pub below_dead : (IsLive table t o → ⊥) → AreBelow table t (o + 1) ordinals
    below_dead dead = record {
      rising = below.rising;
      are = λ q. (
        (λ h. (let at = (below.are q).0 h in let low = at.1 in (at.0, omega (arith, low)))),
        (λ h. elim (cases_eq q o) [
          | inl e ↦ absurd (dead (subst (IsLive table t) e h.0))
          | inr other ↦ (let low = h.1 in (below.are q).1 (h.0, omega (arith, low, other)))
        ]),
      );
    }

  pub below_all : (bound o : ℕ) (ordinals : List ℕ) → ((q : ℕ) → IsLive table t q → q < bound) → bound ≤ o → AreBelow table t o ordinals → AreLiveOf table t ordinals
  below_all bound o ordinals above past below = record {
    rising = below.rising;
    are = λ q. ((λ h. ((below.are q).0 h).0), (λ live. (let low = above q live in (below.are q).1 (live, omega (arith, low, past)))));
  }

-- what was reserved is what stands there once it is turned
pub built : (P : List Entry → Type 0) (next : Option (List Entry)) (entries : List Entry) → IsSomeAnd next P → next ≡ Some entries → P entries
built P next entries is turned = subst (λ (n : Option (List Entry)). IsSomeAnd n P) turned is

-- Lemmas on words of which the records of some places are written, one after the other.
use Rattle.std.proofs.Common.{◌≡◌, ℕ, ◌+◌, ◌*◌, ◌-◌, ◌^◌, ◌<◌, ◌≤◌, inl, inr, List, length, None, sym, subst, ◌∙◌, arith}
use Rattle.std.specs.Prelude.{Contains, sum}
use Rattle.std.proofs.lemmas.Bool.{cases_eq, cases_lt}
use Rattle.bit_array.specs.Element.{number_of}
use Rattle.ordinal_set.specs.Ordinals.{IsNextMember, TellsNext}
use Rattle.record_copies.specs.Fixed.{AreOthersKept, IsEndKept, record_at}
use Rattle.kept_sections.specs.Moved.{AreWritten}

-- What is so of a place is so of it in all words in which its record has the same bits.
abbrev pub IsByBits : (List ℕ → ℕ → Type 0) → List ℕ → Type 0
IsByBits Is widths = (a b : List ℕ) (place : ℕ) → record_at widths a place ≡ record_at widths b place → Is a place → Is b place

-- Of these places those below a number are written.
pub record WrittenBelow (Is : List ℕ → ℕ → Type 0) (widths old first places : List ℕ) (from : ℕ) : Type 0 where
  pub long : length first ≡ length old
  pub others : (place : ℕ) → (Contains places place → place < from → ⊥) → record_at widths first place ≡ record_at widths old place
  pub behind : (limit : ℕ) → ((place : ℕ) → Contains places place → place < from → (place + 1) * sum widths ≤ limit) → number_of old < 2 ^ limit → number_of first < 2 ^ limit
  pub written : (place : ℕ) → Contains places place → place < from → Is first place
  pub small : from < 2 ^ 32

module _ (Is : List ℕ → ℕ → Type 0) (widths old places : List ℕ) where
  pub one_written : IsByBits Is widths → (first first' : List ℕ) (from o : ℕ) → WrittenBelow Is widths old first places from → IsNextMember from places o → o < 2 ^ 32 - 1 → length first' ≡ length first
      → AreOthersKept widths first first' o → IsEndKept widths first first' o → Is first' o → WrittenBelow Is widths old first' places (o + 1)
  one_written moves first first' from o done next small long others end here = record {
    long = long ∙ done.long;
    others = λ place not.
        elim (cases_eq place o) [
          | inl same ↦ absurd (not (subst (Contains places) (sym same) next.member) (omega (arith, same)))
          | inr apart ↦ others place apart ∙ done.others place (λ at low. not at (omega (arith, low, next.from)))
        ];
    behind = λ limit all below. end limit (all o next.member (omega arith)) (done.behind limit (λ place at low. all place at (omega (arith, low, next.from))) below);
    written = λ place at low.
        elim (cases_eq place o) [
          | inl same ↦ subst (Is first') (sym same) here
          | inr apart ↦
              elim (cases_lt place from) [
                | inl earlier ↦ moves first first' place (sym (others place apart)) (done.written place at earlier)
                | inr late ↦ absurd (apart (omega (arith, next.least place at late, low)))
              ]
        ];
    small = omega (arith, small);
  }

  pub all_written : (first : List ℕ) (from : ℕ) → WrittenBelow Is widths old first places from → TellsNext from places None → AreWritten Is widths old first places
  all_written first from done none = record {
    changed = record {
      long = done.long;
      others = λ place not. done.others place (λ at low. not at);
      behind = λ limit all below. done.behind limit (λ place at low. all place at) below;
    };
    written = λ place at. done.written place at (none place at);
  }

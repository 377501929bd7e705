-- Lemmas on the elements of a field in a run that are shifted one after the other.
use Rattle.std.proofs.Common.{◌≡◌, ℕ, ◌+◌, ◌-◌, ◌*◌, ◌^◌, ◌<◌, ◌≤◌, ◌⊎◌, List, [], ◌∷◌, length, refl, sym, ap, ◌∙◌, subst, arith, inl, inr}
use Rattle.std.specs.Prelude.{sum}
use Rattle.std.proofs.Math.Nat.{mul-le-mul_right}
use Rattle.std.proofs.lemmas.Bool.{cases_lt}
use Rattle.bit_array.specs.Element.{element_of, number_of}
use Rattle.record_copies.proofs.RecordBits.{sum-cons}
use Rattle.record_copies.proofs.RecordPuts.{end_kept}
use Rattle.record_copies.specs.declared.column.Column.{Column}
use Rattle.record_copies.specs.declared.run.Run.{Run}
use Rattle.record_copies.specs.Column.{AreApart, CanShift, IsShifted, Lies, element_in}

-- the bits outside of a block are what they were
abbrev pub Outside : List ℕ → List ℕ → ℕ → ℕ → Type 0
Outside old new at width = (i v : ℕ) → (i + v ≤ at) ⊎ (at + width ≤ i) → element_of new i v ≡ element_of old i v

-- where no bit stood behind a limit that is behind the block, none stands there
pub end_stays : (old new : List ℕ) (at width limit : ℕ) → Outside old new at width → at + width ≤ limit → number_of old < 2 ^ limit → number_of new < 2 ^ limit
end_stays old new at width limit outside behind below =
    let whole : sum ((at + width) ∷ []) ≡ at + width = omega (arith, sum-cons (at + width) []) in
    end_kept ((at + width) ∷ []) old new 0 0 (at + width) (omega arith) (omega (arith, whole)) (λ i v h. wider i v h) limit (omega (arith, whole, behind)) below
  where
    wider : (i v : ℕ) → (i + v ≤ 0) ⊎ (at + width ≤ i) → element_of new i v ≡ element_of old i v
    wider i v (inl none) = outside i v (inl (omega arith))
    wider i v (inr above) = outside i v (inr above)

-- the elements of the places below one are shifted
pub record ShiftedSoFar (column : Column) (old new : List ℕ) (run : Run) (less more place : ℕ) : Type 0 where
  pub from : run.place ≤ place
  pub long : length new ≡ length old
  pub done : (p : ℕ) → run.place ≤ p → p < place → element_in column new p ≡ element_in column old p - less + more
  pub left : (p : ℕ) → place ≤ p → element_in column new p ≡ element_in column old p
  pub others : (at bits : ℕ) → AreApart column run at bits → element_of new at bits ≡ element_of old at bits
  pub bits : number_of old < 2 ^ (run.end * column.size) → number_of new < 2 ^ (run.end * column.size)

pub shifted_none : (column : Column) (words : List ℕ) (run : Run) (less more : ℕ) → ShiftedSoFar column words words run less more run.place
shifted_none column words run less more = record {
  from = omega arith;
  long = refl;
  done = λ p from before. absurd (omega (arith, from, before));
  left = λ p from. refl;
  others = λ at bits apart. refl;
  bits = λ below. below;
}

-- where the element of a place lies
pub record StandsIn (column : Column) (words : ℕ) (run : Run) (place : ℕ) : Type 0 where
  pub within : place * column.size + column.before + column.width ≤ words
  pub fits : place * column.size + column.before + column.width < 2 ^ 64
  pub ends : place * column.size + column.before + column.width ≤ run.end * column.size

pub stands_in : (column : Column) (words : List ℕ) (run : Run) (place : ℕ) → Lies column words run → place < run.end → StandsIn column (64 * length words) run place
stands_in column words run place lies below =
    let next : place + 1 ≤ run.end = omega arith in
    let product : (place + 1) * column.size ≤ run.end * column.size = mul-le-mul_right column.size next in
    let held = lies.record_holds in
    let words_hold = lies.words_hold in
    let fits = lies.fits in
    record { within = omega arith; fits = omega arith; ends = omega arith }

-- the elements of two places lie apart
apart_below : (column : Column) (p place : ℕ) → column.before + column.width ≤ column.size → p < place → p * column.size + column.before + column.width ≤ place * column.size + column.before
apart_below column p place held below =
    let next : p + 1 ≤ place = omega arith in
    let product : (p + 1) * column.size ≤ place * column.size = mul-le-mul_right column.size next in
    omega arith

pub shifted_more : (column : Column) (old words new : List ℕ) (run : Run) (less more place at end value : ℕ) → Lies column old run → ShiftedSoFar column old words run less more place → place < run.end
    → at ≡ place * column.size + column.before → end ≡ element_of words at column.width → value ≡ end - less + more → element_of new at column.width ≡ value → Outside words new at column.width → length new ≡ length words
    → ShiftedSoFar column old new run less more (place + 1)
shifted_more column old words new run less more place at end value lies so_far below at_is end_is value_is written outside long =
    let held = lies.record_holds in
    let from = so_far.from in
    let stands = stands_in column old run place lies below in
    let here : end ≡ element_in column old place = end_is ∙ ap (λ n. element_of words n column.width) at_is ∙ so_far.left place (omega arith) in
    let put : element_in column new place ≡ element_in column old place - less + more =
    ap (λ n. element_of new n column.width) (sym at_is) ∙ written ∙ value_is ∙ ap (λ n. n - less + more) here in
    let ends = stands.ends in
    record {
      from = omega arith;
      long = long ∙ so_far.long;
      done = λ p least before.
          elim (cases_lt p place) [
            | inl earlier ↦
                let apart = apart_below column p place held earlier in
                outside (p * column.size + column.before) column.width (inl (omega arith)) ∙ so_far.done p least earlier
            | inr late ↦
                let same : place ≡ p = omega arith in
                subst (λ q. element_in column new q ≡ element_in column old q - less + more) same put
          ];
      left = λ p past.
          let apart = apart_below column place p held (omega arith) in
          outside (p * column.size + column.before) column.width (inr (omega arith)) ∙ so_far.left p (omega arith);
      others = λ i v apart. outside i v (side i v (apart place (from, below))) ∙ so_far.others i v apart;
      bits = λ few. end_stays words new at column.width (run.end * column.size) outside (omega arith) (so_far.bits few);
    }
  where
    side : (i v : ℕ) → (i + v ≤ place * column.size + column.before) ⊎ (place * column.size + column.before + column.width ≤ i) → (i + v ≤ at) ⊎ (at + column.width ≤ i)
    side i v (inl before) = inl (omega arith)
    side i v (inr behind) = inr (omega arith)

pub shifted_all : (column : Column) (old new : List ℕ) (run : Run) (less more place : ℕ) → ShiftedSoFar column old new run less more place → run.end ≤ place → IsShifted column old new run less more
shifted_all column old new run less more place so_far past = record {
  elements = λ p inside. so_far.done p inside.0 (let below = inside.1 in omega arith);
  others = so_far.others;
  bits = so_far.bits;
}

-- the element of a place may be shifted
pub can_shift : (column : Column) (old words : List ℕ) (run : Run) (less more place at end : ℕ) → CanShift column old run less more → ShiftedSoFar column old words run less more place → place < run.end
    → at ≡ place * column.size + column.before → end ≡ element_of words at column.width → (less ≤ end) × (end - less + more < 2 ^ column.width)
can_shift column old words run less more place at end can so_far below at_is end_is =
    let here : element_in column old place ≡ end = sym (end_is ∙ ap (λ n. element_of words n column.width) at_is ∙ so_far.left place (omega arith)) in
    subst (λ n. (less ≤ n) × (n - less + more < 2 ^ column.width)) here (can place (so_far.from, below))

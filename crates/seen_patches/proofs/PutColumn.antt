-- A column that is written record by record.
use Rattle.std.proofs.Common.{◌≡◌, ◌⊎◌, inl, inr, ℕ, ◌+◌, ◌-◌, ◌*◌, ◌^◌, ◌<◌, ◌≤◌, List, length, Option, Some, refl, sym, ap, subst, ◌∙◌, arith}
use Rattle.std.specs.Prelude.{IfSome}
use Rattle.std.proofs.Math.Nat.{mul-le-mul_right}
use Rattle.std.proofs.lemmas.Bool.{cases_lt}
use Rattle.std.proofs.lemmas.Option.{IfSome_then}
use Rattle.bit_array.specs.Element.{element_of}
use Rattle.bit_array.proofs.Elements.{element_of-lt}
use Rattle.seen_patches.specs.declared.column.Column.{Column}
use Rattle.seen_patches.specs.Elements.{IsHeld, column_element, element_or}

-- a record ends before the next one begins
pub ends_before : (place count size : ℕ) → place < count → place * size + size ≤ count * size
ends_before place count size less = let most = mul-le-mul_right size (let less' : place + 1 ≤ count = omega (arith, less) in less') in omega (arith, most)

pub held_less : (words : List ℕ) (places place : ℕ) (column : Column) → place < places → IsHeld words places column → IsHeld words (place + 1) column
held_less words places place column less held =
    let before = ends_before place places column.size less in
    let most = held.held in
    let fits = held.fits in
    record { narrow = held.narrow; inside = held.inside; held = omega (arith, before, most); fits = omega (arith, before, fits) }

pub source_less : (words : List ℕ) (places place width : ℕ) (source : Option Column) → place < places → IfSome source (λ column. IsHeld words places column × (column.width ≡ width))
    → IfSome source (λ column. IsHeld words (place + 1) column × (column.width ≡ width))
source_less words places place width source less held = IfSome_then source held (λ column h. (held_less words places place column less h.0, h.1))

-- the first records have their elements, and no other bit changed
pub record PutSoFar (from : List ℕ) (source : Option Column) (old to : List ℕ) (target : Column) (count : ℕ) : Type 0 where
  pub put : (place : ℕ) → place < count → column_element to place target ≡ element_or from place source (2 ^ target.width - 1)
  pub earlier : (place at v : ℕ) → at + v ≤ target.before → element_of to (place * target.size + at) v ≡ element_of old (place * target.size + at) v
  pub behind : (at v : ℕ) → count * target.size ≤ at → element_of to at v ≡ element_of old at v
  pub long : length to ≡ length old

pub put_none : (from : List ℕ) (source : Option Column) (old : List ℕ) (target : Column) → PutSoFar from source old old target 0
put_none from source old target = record {
  put = λ place less. absurd (omega (arith, less));
  earlier = λ place at v within. refl;
  behind = λ at v behind. refl;
  long = refl;
}

-- no other bit changes where one more record is written
module _ (from : List ℕ) (source : Option Column) (old to new : List ℕ) (target : Column) (count value : ℕ) (inside : target.before + target.width ≤ target.size)
    (so_far : PutSoFar from source old to target count) (is : element_of new (count * target.size + target.before) target.width ≡ value)
    (of : value ≡ element_or from count source (2 ^ target.width - 1)) (long : length new ≡ length to)
    (others : (i v : ℕ) → (i + v ≤ count * target.size + target.before) ⊎ (count * target.size + target.before + target.width ≤ i) → element_of new i v ≡ element_of to i v) where
  put_more_at : (place : ℕ) → place < count + 1 → (place < count) ⊎ (count ≤ place) → column_element new place target ≡ element_or from place source (2 ^ target.width - 1)
  put_more_at place less (inl before) =
      let next = ends_before place count target.size before in
      others (place * target.size + target.before) target.width (inl (omega (arith, next, inside))) ∙ so_far.put place before
  put_more_at place less (inr most) =
      let same : count ≡ place = omega arith in
      subst (λ (p : ℕ). column_element new p target ≡ element_or from p source (2 ^ target.width - 1)) same (is ∙ of)

  earlier_at : (place at v : ℕ) → at + v ≤ target.before → (place < count) ⊎ (count ≤ place) → (count < place) ⊎ (place ≤ count) → element_of new (place * target.size + at) v ≡ element_of to (place * target.size + at) v
  earlier_at place at v within (inl before) other =
      let next = ends_before place count target.size before in
      others (place * target.size + at) v (inl (omega (arith, next, inside, within)))
  earlier_at place at v within (inr most) (inl behind) =
      let next = ends_before count place target.size behind in
      others (place * target.size + at) v (inr (omega (arith, next, inside)))
  earlier_at place at v within (inr most) (inr least) =
      let same : place * target.size ≡ count * target.size = ap (λ (p : ℕ). p * target.size) (omega arith) in
      others (place * target.size + at) v (inl (omega (arith, same, within)))

  pub put_more : PutSoFar from source old new target (count + 1)
  put_more = record {
    put = λ place less. put_more_at place less (cases_lt place count);
    earlier = λ place at v within. earlier_at place at v within (cases_lt place count) (cases_lt count place) ∙ so_far.earlier place at v within;
    behind = λ at v behind. (
        let next = ends_before count (count + 1) target.size (omega arith) in
        others at v (inr (omega (arith, next, inside, behind))) ∙ so_far.behind at v (omega (arith, next, behind)));
    long = long ∙ so_far.long;
  }

-- the element of a column has its width
pub element_small : (words : List ℕ) (place width result : ℕ) (source : Option Column) (column : Column) → source ≡ Some column
    → IfSome source (λ column. IsHeld words (place + 1) column × (column.width ≡ width)) → result ≡ element_of words (place * column.size + column.before) column.width → result < 2 ^ width
element_small words place width result source column is held value =
    let h = subst (λ (o : Option Column). IfSome o (λ column. IsHeld words (place + 1) column × (column.width ≡ width))) is held in
    subst (λ (w : ℕ). result < 2 ^ w) h.1 (subst (λ (r : ℕ). r < 2 ^ column.width) (sym value) (element_of-lt words (place * column.size + column.before) column.width))

-- Lemmas on the number and the greatest of the elements of rows.
use Rattle.std.proofs.Common.{◌≡◌, ℕ, ◌+◌, ◌-◌, ◌^◌, ◌<◌, ◌≤◌, List, [], ◌∷◌, ◌++◌, length, get_or, drop, ap, sym, ◌∙◌, subst, arith, add-one, max, min}
use Rattle.std.specs.Prelude.{flat_map, option_map, Option, Some, None}
use Rattle.std.proofs.Math.Seq.{drop-cons}
use Rattle.std.proofs.lemmas.List.{length-append, drop_all}
use Rattle.row_model.specs.declared.row.Row.{Row}
use Rattle.row_model.specs.declared.lent.LentRow.{LentRow}
use Rattle.row_model.specs.Lent.{lent_row}
use Rattle.row_widths.specs.Walk.{Takes}
use Rattle.list_codec.specs.Widths.{elements_of_row, greatest}

-- the greatest of two lists
pub greatest-append : (xs ys : List ℕ) → greatest (xs ++ ys) ≡ max (greatest xs) (greatest ys)
unfolding greatest
greatest-append [] ys = omega arith
greatest-append (x ∷ xs) ys = let rest = greatest-append xs ys in omega arith

-- the greatest of some numbers by one that is seen and the rest
pub greatest_more : (numbers : List ℕ) (index seen : ℕ) → index < length numbers → max seen (greatest (drop index numbers)) ≡ greatest numbers
    → max (max seen (get_or numbers index 0)) (greatest (drop (index + 1) numbers)) ≡ greatest numbers
unfolding greatest
greatest_more numbers index seen inside so_far =
    let split : drop index numbers ≡ get_or numbers index 0 ∷ drop (index + 1) numbers = rw add-one (drop-cons numbers index 0 inside) in
    let rest : greatest (drop index numbers) ≡ max (get_or numbers index 0) (greatest (drop (index + 1) numbers)) = ap greatest split in
    omega arith

pub greatest_all : (numbers : List ℕ) (index seen : ℕ) → length numbers ≤ index → max seen (greatest (drop index numbers)) ≡ greatest numbers → seen ≡ greatest numbers
unfolding greatest
greatest_all numbers index seen past so_far =
    let none : greatest (drop index numbers) ≡ 0 = ap greatest (drop_all index numbers past) in
    omega arith

-- the elements of rows that are seen, and those of the rows that are left, are all
pub record IsGathered (all left : List Row) (count most : ℕ) : Type 0 where
  pub counted : min (count + length (flat_map elements_of_row left)) (2 ^ 64 - 1) ≡ min (length (flat_map elements_of_row all)) (2 ^ 64 - 1)
  pub fits : count ≤ 2 ^ 64 - 1
  pub highest : max most (greatest (flat_map elements_of_row left)) ≡ greatest (flat_map elements_of_row all)

pub gathered_more : (all left rest : List Row) (taken : Option LentRow) (lent : LentRow) (row : Row) (count most count' most' : ℕ) → IsGathered all left count most
    → Takes left (option_map lent_row taken) rest → taken ≡ Some lent → row ≡ lent_row lent
    → count' ≡ min (count + length (elements_of_row row)) (2 ^ 64 - 1) → most' ≡ max most (greatest (elements_of_row row)) → IsGathered all rest count' most'
gathered_more all left rest taken lent row count most count' most' done takes found lends counted highest =
    let is : left ≡ row ∷ rest = subst (λ (t : Option Row). Takes left t rest) (ap (option_map lent_row) found ∙ ap Some (sym lends)) takes in
    let here = elements_of_row row in
    let behind = flat_map elements_of_row rest in
    let split : flat_map elements_of_row left ≡ here ++ behind = ap (flat_map elements_of_row) is in
    let long = ap (λ (es : List ℕ). length es) split ∙ length-append here behind in
    let high = ap greatest split ∙ greatest-append here behind in
    let before = done.counted in
    let before_high = done.highest in
    record { counted = omega arith; fits = omega arith; highest = omega arith }

pub gathered_all : (all left rest : List Row) (taken : Option Row) (count most : ℕ) → IsGathered all left count most → Takes left taken rest → taken ≡ None
    → (count ≡ min (length (flat_map elements_of_row all)) (2 ^ 64 - 1)) × (most ≡ greatest (flat_map elements_of_row all))
unfolding greatest
gathered_all all left rest taken count most done takes ended =
    let none : left ≡ [] = subst (λ (t : Option Row). Takes left t rest) ended takes in
    let fits = done.fits in
    let long : length (flat_map elements_of_row left) ≡ 0 = ap (λ (rows : List Row). length (flat_map elements_of_row rows)) none in
    let high : greatest (flat_map elements_of_row left) ≡ 0 = ap (λ (rows : List Row). greatest (flat_map elements_of_row rows)) none in
    let before = done.counted in
    let before_high = done.highest in
    (omega arith, omega arith)

-- The lines of rows, joined, and what is left of the sink where the writing of some of them fails.
use Rattle.std.proofs.Common.{◌≡◌, ◌<◌, ◌≤◌, ◌+◌, ℕ, List, [], ◌∷◌, ◌++◌, length, take, Option, Result, Ok, Err, refl, sym, ap, ◌∙◌, subst, arith, append_assoc, append-nil, length-append}
use Rattle.std.proofs.Math.Seq.{take-append-add}
use Rattle.std.proofs.lemmas.List.{take-append-le}
use Rattle.std.proofs.lemmas.List.Folds.{concat-append}
use Rattle.std.proofs.KnownBytes.{Appends-nil, Appends-trans}
use Rattle.std.specs.Io.KnownBytes.{Appends}
use Rattle.std.specs.List.{AllZip}
use Rattle.hollow_top.specs.declared.stop.Stop.{Stop}
use Rattle.hollow_top.specs.declared.stop.Stop.TheVariants.{Memory, Sink, Store as StoreFailed}
use Rattle.hollow_top.specs.HeldLines.{Held, HoldsLines}
use Rattle.hollow_top.specs.RowLines.{Listed, IsRowLine, AreLinesOf, LeavesLines}

AllZip-append : {A B : Type 0} (R : A → B → Type 0) (xs ys : List A) (us vs : List B) → AllZip R xs us → AllZip R ys vs → AllZip R (xs ++ ys) (us ++ vs)
AllZip-append R [] ys [] vs p q = q
AllZip-append R [] ys (u ∷ us) vs p q = absurd p
AllZip-append R (x ∷ xs) ys [] vs p q = absurd p
AllZip-append R (x ∷ xs) ys (u ∷ us) vs p q = (p.0, AllZip-append R xs ys us vs p.1 q)

-- the text of no rows, of one, and of some after others
pub no_lines : AreLinesOf [] []
no_lines = ([], tt, refl)

pub one_line : (row : Listed) (line : List ℕ) → IsRowLine row line → AreLinesOf (row ∷ []) line
one_line row line is = (line ∷ [], (is, tt), sym (append-nil line))

pub lines_append : (xs ys : List Listed) (a b : List ℕ) → AreLinesOf xs a → AreLinesOf ys b → AreLinesOf (xs ++ ys) (a ++ b)
lines_append xs ys a b (ls, ls_are, a_is) (ms, ms_are, b_is) =
    (ls ++ ms, AllZip-append IsRowLine xs ys ls ms ls_are ms_are, (λ i. a_is i ++ b_is i) ∙ sym (concat-append ls ms))

-- nothing was put yet
pub none_written : (at : Held) → HoldsLines [] at at (Ok tt)
none_written at = ([], no_lines, ([], append-nil at.1, Appends-nil at.0))

-- a text was put, and then another
whole : (p a b g q : List ℕ) → p ++ a ≡ g ++ q → p ++ (a ++ b) ≡ g ++ (q ++ b)
whole p a b g q is = sym (append_assoc p a b) ∙ ap (λ t. t ++ b) is ∙ append_assoc g q b

then_part : (p a b g q : List ℕ) (count : ℕ) (before mid after : Option (List ℕ)) → p ++ a ≡ g ++ q → Appends before mid g → Appends mid after (take count (q ++ b))
    → Appends before after (take (length g + count) (p ++ (a ++ b)))
then_part p a b g q count before mid after is gained more =
    subst (Appends before after) (sym (ap (take (length g + count)) (whole p a b g q is) ∙ take-append-add g (q ++ b) count))
    (Appends-trans before mid after g (take count (q ++ b)) gained more)

long : (p a b g q : List ℕ) → p ++ a ≡ g ++ q → length (p ++ (a ++ b)) ≡ length g + length (q ++ b)
long p a b g q is = ap length (whole p a b g q is) ∙ length-append g (q ++ b)

-- the lines of some rows were put, and then those of others
pub then_written : (xs ys : List Listed) (before mid after : Held) (r : Result Unit Stop) → HoldsLines xs before mid (Ok tt) → HoldsLines ys mid after r → HoldsLines (xs ++ ys) before after r
then_written xs ys before mid after (Ok done) (a, a_are, (g, is, gained)) (b, b_are, (h, more_is, more)) = (
  a ++ b,
  lines_append xs ys a b a_are b_are,
  (
    g ++ h,
    whole before.1 a b g mid.1 is ∙ ap (λ t. g ++ t) more_is ∙ sym (append_assoc g h after.1),
    Appends-trans before.0 mid.0 after.0 g h gained more,
  ),
)
then_written xs ys before mid after (Err Sink) (a, a_are, (g, is, gained)) (b, b_are, (count, part, more)) = (
  a ++ b,
  lines_append xs ys a b a_are b_are,
  (
    length g + count,
    omega (arith, long before.1 a b g mid.1 is, part),
    then_part before.1 a b g mid.1 count before.0 mid.0 after.0 is gained more,
  ),
)
then_written xs ys before mid after (Err Memory) (a, a_are, (g, is, gained)) (b, b_are, (count, part, more)) = (
  a ++ b,
  lines_append xs ys a b a_are b_are,
  (
    length g + count,
    omega (arith, long before.1 a b g mid.1 is, part),
    then_part before.1 a b g mid.1 count before.0 mid.0 after.0 is gained more,
  ),
)
then_written xs ys before mid after (Err StoreFailed) done failed = absurd failed.2

cut_part : (p a b : List ℕ) (count : ℕ) (before after : Option (List ℕ)) → count ≤ length (p ++ a) → Appends before after (take count (p ++ a)) → Appends before after (take count (p ++ (a ++ b)))
cut_part p a b count before after part gained =
    subst (Appends before after) (sym (ap (take count) (sym (append_assoc p a b)) ∙ take-append-le count (p ++ a) b part)) gained

longer : (p a b : List ℕ) → length (p ++ (a ++ b)) ≡ length (p ++ a) + length b
longer p a b = ap length (sym (append_assoc p a b)) ∙ length-append (p ++ a) b

-- the putting of the lines of some rows failed, and others were to follow
pub cut_before : (xs ys : List Listed) (before after : Held) (stop : Stop) → (b : List ℕ) → AreLinesOf ys b → HoldsLines xs before after (Err stop) → HoldsLines (xs ++ ys) before after (Err stop)
cut_before xs ys before after Sink b b_are (a, a_are, (count, part, gained)) = (
  a ++ b,
  lines_append xs ys a b a_are b_are,
  (
    count,
    omega (arith, longer before.1 a b, part),
    cut_part before.1 a b count before.0 after.0 (omega (arith, part)) gained,
  ),
)
cut_before xs ys before after Memory b b_are (a, a_are, (count, part, gained)) = (
  a ++ b,
  lines_append xs ys a b a_are b_are,
  (
    count,
    omega (arith, longer before.1 a b, part),
    cut_part before.1 a b count before.0 after.0 part gained,
  ),
)
cut_before xs ys before after StoreFailed b b_are failed = absurd failed.2

-- where no bytes waited at first, a failure leaves a front
pub failure_leaves : (rows : List Listed) (before : Option (List ℕ)) (after : Held) (stop : Stop) → HoldsLines rows (before, []) after (Err stop) → LeavesLines rows before after.0 (Err stop)
failure_leaves rows before after Sink (a, a_are, (count, part, gained)) = (a, count, a_are, part, gained)
failure_leaves rows before after Memory (a, a_are, (count, part, gained)) = (a, count, a_are, part, gained)
failure_leaves rows before after StoreFailed failed = absurd failed.2

-- the bytes that waited were written last
pub last_written : (rows : List Listed) (before after : Option (List ℕ)) (mid : Held) → HoldsLines rows (before, []) mid (Ok tt) → Appends mid.0 after mid.1 → LeavesLines rows before after (Ok tt)
last_written rows before after mid (a, a_are, (g, is, gained)) more =
    (a, a_are, subst (Appends before after) (sym is) (Appends-trans before mid.0 after g mid.1 gained more))

-- or a part of them
pub last_cut : (rows : List Listed) (before after : Option (List ℕ)) (mid : Held) → HoldsLines rows (before, []) mid (Ok tt)
    → ((count : ℕ) × (count < length mid.1) × Appends mid.0 after (take count mid.1)) → LeavesLines rows before after (Err Sink)
last_cut rows before after mid (a, a_are, (g, is, gained)) (count, part, more) = (
  a,
  length g + count,
  a_are,
  omega (arith, ap length is, length-append g mid.1, part),
  subst (Appends before after) (sym (ap (take (length g + count)) is ∙ take-append-add g mid.1 count)) (Appends-trans before mid.0 after g (take count mid.1) gained more),
)

-- Words with any digits are there: a number has words, and so many records of any elements that fit their widths have a number.
use Rattle.std.proofs.Common.{◌≡◌, ℕ, zero, suc, ◌+◌, ◌*◌, ◌/◌, ◌%◌, ◌^◌, ◌<◌, List, [], ◌∷◌, length, sum, refl, sym, ap, subst, ◌∙◌, arith, suc-mul, zero-mul}
use Rattle.std.specs.List.{AllZip}
use Rattle.std.proofs.lemmas.List.Elements.{All-cons, All-nil}
use Rattle.std.proofs.lemmas.Nat.{mod_below, mod_low, mul-add-lt, pow-add, shr-shr, shr_below, shr_high, shr_split}
use Rattle.bit_array.specs.Element.{AreWords, element_of, number_of}
use Rattle.seen_patches.specs.Elements.{columns_from, elements_in}
use Rattle.seen_patches.proofs.ColumnElements.{sum-cons}

-- ---- the words of a number

-- So many words with the lowest digits of a number.
abbrev pub words_from : ℕ → ℕ → List ℕ
words_from zero number = []
words_from (suc count) number = number % 2 ^ 64 ∷ words_from count (number / 2 ^ 64)

pub words_long : (count number : ℕ) → length (words_from count number) ≡ count
words_long zero number = refl
words_long (suc count) number = ap suc (words_long count (number / 2 ^ 64))

pub words_are : (count number : ℕ) → AreWords (words_from count number)
words_are zero number = All-nil (λ word. word < 2 ^ 64)
words_are (suc count) number =
    All-cons (λ word. word < 2 ^ 64) (number % 2 ^ 64) (words_from count (number / 2 ^ 64)) (mod_below number (2 ^ 64) (omega arith)) (words_are count (number / 2 ^ 64))

pub words_number : (count number : ℕ) → number < 2 ^ (64 * count) → number_of (words_from count number) ≡ number
unfolding number_of
words_number zero number below = omega (arith, below)
words_number (suc count) number below =
    let more : 64 * suc count ≡ 64 * count + 64 = omega arith in
    let rest = words_number count (number / 2 ^ 64) (shr_below number (64 * count) 64 (subst (λ (n : ℕ). number < 2 ^ n) more below)) in
    ap (λ (n : ℕ). n * 2 ^ 64 + number % 2 ^ 64) rest ∙ shr_split number 64

-- ---- the number of a record

-- The elements fit the widths.
abbrev pub FitWidths : List ℕ → List ℕ → Type 0
FitWidths widths elements = AllZip (λ width element. element < 2 ^ width) widths elements

-- The number whose digits are these elements, the first the lowest, each in its width.
abbrev pub number_in : List ℕ → List ℕ → ℕ
number_in (width ∷ widths) (element ∷ elements) = number_in widths elements * 2 ^ width + element
number_in _ _ = 0

pub number_fits : (widths elements : List ℕ) → FitWidths widths elements → number_in widths elements < 2 ^ sum widths
number_fits [] [] fit = omega arith
number_fits (width ∷ widths) (element ∷ elements) fit =
    let power : 2 ^ sum (width ∷ widths) ≡ 2 ^ width * 2 ^ sum widths = ap (λ (n : ℕ). 2 ^ n) (sum-cons width widths) ∙ pow-add 2 width (sum widths) in
    subst (λ (n : ℕ). number_in widths elements * 2 ^ width + element < n) (sym power)
    (mul-add-lt (number_in widths elements) (2 ^ width) element (2 ^ sum widths) (number_fits widths elements fit.1) fit.0)
number_fits [] (element ∷ elements) fit = absurd fit
number_fits (width ∷ widths) [] fit = absurd fit

-- what stands in front of an element, and the element
in_front : (high power rest width all element : ℕ) → all ≡ width * power → high * all + (rest * width + element) ≡ (high * power + rest) * width + element
in_front high power rest width all element is = rw is (omega arith)

-- where the digits from a bit on are those of a record, its elements are these
pub elements_back : (words : List ℕ) (size place before high : ℕ) (widths elements : List ℕ) → FitWidths widths elements
    → number_of words / 2 ^ (place * size + before) ≡ high * 2 ^ sum widths + number_in widths elements → elements_in words place (columns_from size before widths) ≡ elements
unfolding element_of
elements_back words size place before high [] [] fit is = refl
elements_back words size place before high (width ∷ widths) (element ∷ elements) fit is =
    let at = place * size + before in
    let number = number_of words in
    let rest = number_in widths elements in
    let above = high * 2 ^ sum widths + rest in
    let power : 2 ^ sum (width ∷ widths) ≡ 2 ^ width * 2 ^ sum widths = ap (λ (n : ℕ). 2 ^ n) (sum-cons width widths) ∙ pow-add 2 width (sum widths) in
    let whole : number / 2 ^ at ≡ above * 2 ^ width + element = is ∙ in_front high (2 ^ sum widths) rest (2 ^ width) (2 ^ sum (width ∷ widths)) element power in
    let here : number / 2 ^ at % 2 ^ width ≡ element = ap (λ (n : ℕ). n % 2 ^ width) whole ∙ mod_low above width element fit.0 in
    let next : place * size + (before + width) ≡ at + width = omega arith in
    let behind : number / 2 ^ (place * size + (before + width)) ≡ above =
    ap (λ (n : ℕ). number / 2 ^ n) next ∙ sym (shr-shr number at width) ∙ ap (λ (n : ℕ). n / 2 ^ width) whole ∙ shr_high above width element fit.0 in
    ap (λ (e : ℕ). e ∷ elements_in words place (columns_from size (before + width) widths)) here
    ∙ ap (λ (es : List ℕ). element ∷ es) (elements_back words size place (before + width) high widths elements fit.1 behind)
elements_back words size place before high [] (element ∷ elements) fit is = absurd fit
elements_back words size place before high (width ∷ widths) [] fit is = absurd fit

-- ---- the number of many records

-- The number of so many records of a size in bits, the first the lowest, each of which has its number.
abbrev pub records_from : ℕ → (ℕ → ℕ) → ℕ → ℕ
records_from size record_at zero = 0
records_from size record_at (suc count) = records_from size (λ place. record_at (suc place)) count * 2 ^ size + record_at 0

pub records_fit : (size : ℕ) (record_at : ℕ → ℕ) (count : ℕ) → ((place : ℕ) → place < count → record_at place < 2 ^ size) → records_from size record_at count < 2 ^ (count * size)
records_fit size record_at zero fit = subst (λ (n : ℕ). 0 < 2 ^ n) (sym (zero-mul size)) (omega arith)
records_fit size record_at (suc count) fit =
    let rest = records_fit size (λ place. record_at (suc place)) count (λ place less. fit (suc place) (omega (arith, less))) in
    let more : suc count * size ≡ size + count * size = suc-mul count size ∙ omega arith in
    let power : 2 ^ (suc count * size) ≡ 2 ^ size * 2 ^ (count * size) = ap (λ (n : ℕ). 2 ^ n) more ∙ pow-add 2 size (count * size) in
    subst (λ (n : ℕ). records_from size (λ place. record_at (suc place)) count * 2 ^ size + record_at 0 < n) (sym power)
    (mul-add-lt (records_from size (λ place. record_at (suc place)) count) (2 ^ size) (record_at 0) (2 ^ (count * size)) rest (fit 0 (omega arith)))

-- the digits from a record on are its number, and behind it others
pub records_at : (size : ℕ) (record_at : ℕ → ℕ) (count place : ℕ) → ((place : ℕ) → place < count → record_at place < 2 ^ size) → place < count
    → (high : ℕ) × (records_from size record_at count / 2 ^ (place * size) ≡ high * 2 ^ size + record_at place)
records_at size record_at zero place fit less = absurd (omega (arith, less))
records_at size record_at (suc count) zero fit less =
    let whole = records_from size record_at (suc count) in
    let none : whole / 2 ^ 0 ≡ whole = omega arith in
    (records_from size (λ place. record_at (suc place)) count, ap (λ (n : ℕ). whole / 2 ^ n) (zero-mul size) ∙ none)
records_at size record_at (suc count) (suc place) fit less =
    let whole = records_from size record_at (suc count) in
    let rest = records_from size (λ place. record_at (suc place)) count in
    let (high, is) = records_at size (λ place. record_at (suc place)) count place (λ place less. fit (suc place) (omega (arith, less))) (omega (arith, less)) in
    let more : suc place * size ≡ size + place * size = suc-mul place size ∙ omega arith in
    (high, ap (λ (n : ℕ). whole / 2 ^ n) more ∙ sym (shr-shr whole size (place * size)) ∙ ap (λ (n : ℕ). n / 2 ^ (place * size)) (shr_high rest size (record_at 0) (fit 0 (omega arith))) ∙ is)

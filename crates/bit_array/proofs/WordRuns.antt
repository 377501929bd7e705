-- Lemmas on whole words that are copied from words to words.
use Rattle.std.proofs.Common.{◌≡◌, ℕ, zero, suc, ◌+◌, ◌*◌, ◌%◌, ◌^◌, ◌<◌, ◌≤◌, List, [], ◌∷◌, ◌++◌, length, get_or, take, drop, sym, ap, ◌∙◌, subst, arith, Fits, w64}
use Rattle.std.proofs.Math.Nat.{mul_comm}
use Rattle.std.proofs.lemmas.List.{take-append-drop, length-take-le, length-drop}
use Rattle.std.proofs.lemmas.Nat.{pow_pos, mod_low, mul-add-lt}
use Rattle.bit_array.specs.Element.{number_of, element_of, SetsBlock}
use Rattle.bit_array.proofs.Elements.{number_of-append, number_of-drop, power_of_words}

-- the number of the first words is below 2 to the power of their bits
front_below : (words : List ℕ) (count : ℕ) → ((k : ℕ) → Fits w64 (get_or words k 0)) → number_of (take count words) < 2 ^ (64 * count)
unfolding number_of
front_below words zero fits = pow_pos (64 * zero)
front_below [] (suc count) fits = pow_pos (64 * suc count)
front_below (word ∷ rest) (suc count) fits =
    subst
    (λ p. number_of (take count rest) * 2 ^ 64 + word < p)
    (mul_comm (2 ^ 64) (2 ^ (64 * count)) ∙ sym (power_of_words count))
    (mul-add-lt (number_of (take count rest)) (2 ^ 64) word (2 ^ (64 * count)) (front_below rest count (λ k. fits (suc k))) (fits 0).fits)

-- the first words are the lowest bits of the number
front_number : (words : List ℕ) (count : ℕ) → ((k : ℕ) → Fits w64 (get_or words k 0)) → count ≤ length words → number_of words % 2 ^ (64 * count) ≡ number_of (take count words)
front_number words count fits inside =
    let split : number_of words ≡ number_of (drop count words) * 2 ^ (64 * count) + number_of (take count words) =
    ap number_of (sym (take-append-drop count words))
    ∙ number_of-append (take count words) (drop count words)
    ∙ ap (λ n. number_of (drop count words) * 2 ^ (64 * n) + number_of (take count words)) (length-take-le count words inside) in
    ap (λ n. n % 2 ^ (64 * count)) split ∙ mod_low (number_of (drop count words)) (64 * count) (number_of (take count words)) (front_below words count fits)

fits_behind : (words : List ℕ) (count : ℕ) → ((k : ℕ) → Fits w64 (get_or words k 0)) → (k : ℕ) → Fits w64 (get_or (drop count words) k 0)
fits_behind words zero fits = fits
fits_behind [] (suc count) fits = fits
fits_behind (word ∷ rest) (suc count) fits = fits_behind rest count (λ k. fits (suc k))

-- the bits of whole words are the number of these words
words_between : (words : List ℕ) (base count : ℕ) → ((k : ℕ) → Fits w64 (get_or words k 0)) → base + count ≤ length words
    → element_of words (64 * base) (64 * count) ≡ number_of (take count (drop base words))
unfolding element_of
words_between words base count fits inside =
    ap (λ n. n % 2 ^ (64 * count)) (number_of-drop words base fits)
    ∙ front_number (drop base words) count (fits_behind words base fits) (omega (arith, inside, length-drop base words))

-- a number in three parts
three : (front middle behind : List ℕ) (place count : ℕ) → length front ≡ place → length middle ≡ count
    → number_of (front ++ (middle ++ behind)) ≡ (number_of behind * 2 ^ (64 * count) + number_of middle) * 2 ^ (64 * place) + number_of front
three front middle behind place count front_long middle_long =
    number_of-append front (middle ++ behind)
    ∙ ap (λ n. n * 2 ^ (64 * length front) + number_of front) (number_of-append middle behind ∙ ap (λ k. number_of behind * 2 ^ (64 * k) + number_of middle) middle_long)
    ∙ ap (λ k. (number_of behind * 2 ^ (64 * count) + number_of middle) * 2 ^ (64 * k) + number_of front) front_long

exchanged : (behind old new front power : ℕ) → (behind + new) * power + front + old * power ≡ (behind + old) * power + front + new * power
exchanged behind old new front power = omega arith

-- words put in place of as many others
pub words_put : (old from part : List ℕ) (place base count : ℕ) → ((k : ℕ) → Fits w64 (get_or old k 0)) → ((k : ℕ) → Fits w64 (get_or from k 0)) → place + count ≤ length old → base + count ≤ length from
    → part ≡ take count (drop base from) → SetsBlock old (take place old ++ (part ++ drop count (drop place old))) (64 * place) (64 * count) (element_of from (64 * base) (64 * count))
words_put old from part place base count fits fits_from inside source is =
    let behind = drop count (drop place old) in
    let middle = take count (drop place old) in
    let power = 2 ^ (64 * place) in
    let rest = number_of behind * 2 ^ (64 * count) in
    let front_long : length (take place old) ≡ place = length-take-le place old (omega (arith, inside)) in
    let middle_long : length middle ≡ count = length-take-le count (drop place old) (omega (arith, inside, length-drop place old)) in
    let part_long : length part ≡ count = ap (λ (xs : List ℕ). length xs) is ∙ length-take-le count (drop base from) (omega (arith, source, length-drop base from)) in
    let whole : old ≡ take place old ++ (middle ++ behind) = sym (take-append-drop place old) ∙ ap (λ (xs : List ℕ). take place old ++ xs) (sym (take-append-drop count (drop place old))) in
    let before : number_of old ≡ (rest + number_of middle) * power + number_of (take place old) = ap number_of whole ∙ three (take place old) middle behind place count front_long middle_long in
    let after : number_of (take place old ++ (part ++ behind)) ≡ (rest + number_of part) * power + number_of (take place old) = three (take place old) part behind place count front_long part_long in
    let stood : element_of old (64 * place) (64 * count) ≡ number_of middle = words_between old place count fits inside in
    let value : element_of from (64 * base) (64 * count) ≡ number_of part = words_between from base count fits_from source ∙ ap number_of (sym is) in
    (λ i. after i + stood i * power) ∙ exchanged rest (number_of middle) (number_of part) (number_of (take place old)) power ∙ (λ i. sym before i + sym value i * power)

-- Reading words, as many at once as stand ahead.
use Rattle.std.proofs.Common.{◌≡◌, ◌≤◌, ◌+◌, ◌-◌, ◌*◌, ◌^◌, ℕ, zero, suc, List, [], ◌∷◌, ◌++◌, take, drop, length, Ok, refl, ◌∙◌, subst, sym, ap, arith, append_assoc, append-nil, length-append}
use Rattle.std.specs.Int.{w64, from_be_bytes}
use Rattle.std.proofs.lemmas.List.{drop-drop, length-drop, take-take}
use Rattle.blob_frame.specs.Item.{fixed, run}
use Rattle.blob_cursor.specs.Scene.{Place, Scene, at_place, moved, IsOver, Reads}
use Rattle.blob_cursor.specs.Filling.{Needs, words_in}
use Rattle.blob_cursor.proofs.Chain.{stays_here, reads_ok}
use Rattle.blob_cursor.proofs.Counting.{Counts, counts_start, counts_more}
use Rattle.blob_cursor.proofs.Fixed.{passed, reads_ahead, reads_fixed}

-- one word more
pub words_one_more : (n : ℕ) (bytes : List ℕ) → words_in (suc n) bytes ≡ words_in n bytes ++ from_be_bytes w64 (take 8 (drop (8 * n) bytes)) ∷ []
unfolding words_in
words_one_more zero bytes = refl
words_one_more (suc n) bytes =
    let rest = words_one_more n (drop 8 bytes) in
    let behind : 8 + 8 * n ≡ 8 * suc n = omega arith in
    let there : drop (8 * n) (drop 8 bytes) ≡ drop (8 * suc n) bytes = drop-drop (8 * n) 8 bytes ∙ ap (λ k. drop k bytes) behind in
    ap (λ (ws : List ℕ). from_be_bytes w64 (take 8 bytes) ∷ ws) (rest ∙ ap (λ (xs : List ℕ). words_in n (drop 8 bytes) ++ from_be_bytes w64 (take 8 xs) ∷ []) there)

-- it is put behind the others
pub one_more_put : (list put all bytes : List ℕ) (n word : ℕ) → put ≡ list ++ words_in n bytes → word ≡ from_be_bytes w64 (take 8 (take (8 * n + 8 - 8 * n) (drop (8 * n) bytes))) → all ≡ put ++ word ∷ []
    → all ≡ list ++ words_in (n + 1) bytes
one_more_put list put all bytes n word before is more =
    let eight : 8 * n + 8 - 8 * n ≡ 8 = omega arith in
    let here : word ≡ from_be_bytes w64 (take 8 (drop (8 * n) bytes)) =
    is ∙ ap (λ k. from_be_bytes w64 (take 8 (take k (drop (8 * n) bytes)))) eight ∙ ap (from_be_bytes w64) (take-take 8 8 (drop (8 * n) bytes) (omega arith)) in
    more ∙ ap (λ (xs : List ℕ). xs ++ word ∷ []) before ∙ append_assoc list (words_in n bytes) (word ∷ [])
    ∙ ap (λ w. list ++ (words_in n bytes ++ w ∷ [])) here ∙ ap (λ (xs : List ℕ). list ++ xs) (sym (words_one_more n bytes)) ∙ ap (λ k. list ++ words_in k bytes) (omega arith)

pub none_put : (list bytes : List ℕ) → list ≡ list ++ words_in 0 bytes
unfolding words_in
none_put list bytes = sym (append-nil list)

pub length_words : (n : ℕ) (bytes : List ℕ) → length (words_in n bytes) ≡ n
unfolding words_in
length_words zero bytes = refl
length_words (suc n) bytes = ap suc (length_words n (drop 8 bytes))

-- a word that stands ahead is read
reads_word : {now : Scene} → IsOver now → 8 ≤ length now.place.ahead → Reads (fixed w64) now (passed now 8) (Ok (from_be_bytes w64 (take 8 now.place.ahead)))
unfolding fixed run
reads_word {now} over enough =
    reads_ok (reads_ahead 8 (stays_here now) over refl enough refl) (λ blob holds q. (q.0, q.1, ap (from_be_bytes w64) q.2)) refl

passed_none : (now : Scene) → passed now (8 * zero) ≡ now
passed_none now = let here : now.place.at + 8 * zero ≡ now.place.at = omega arith in
    ap (λ at. at_place now (record { name = now.place.name; size = now.place.size; at = at; ahead = now.place.ahead })) here

passed_more : (n : ℕ) (now : Scene) → passed (passed now 8) (8 * n) ≡ passed now (8 * suc n)
passed_more n now =
    let behind : 8 + 8 * n ≡ 8 * suc n = omega arith in
    let here : now.place.at + 8 + 8 * n ≡ now.place.at + 8 * suc n = omega arith in
    let left : drop (8 * n) (drop 8 now.place.ahead) ≡ drop (8 * suc n) now.place.ahead = drop-drop (8 * n) 8 now.place.ahead ∙ ap (λ k. drop k now.place.ahead) behind in
    ap (λ at. at_place now (record { name = now.place.name; size = now.place.size; at = at; ahead = drop (8 * n) (drop 8 now.place.ahead) })) here
    ∙ ap (λ (xs : List ℕ). at_place now (record { name = now.place.name; size = now.place.size; at = now.place.at + 8 * suc n; ahead = xs })) left

-- words that stand ahead are read, one behind the other
counts_ahead : (n : ℕ) {count done : ℕ} {before now : Scene} {list : List ℕ} → done + n ≤ count → Counts (fixed w64) count done before now list → 8 * n ≤ length now.place.ahead →
    Counts (fixed w64) count (done + n) before (passed now (8 * n)) (list ++ words_in n now.place.ahead)
unfolding words_in
counts_ahead zero {count} {done} {before} {now} {list} fits c enough =
    let same : done ≡ done + zero = omega arith in
    subst (λ k. Counts (fixed w64) count k before (passed now (8 * zero)) (list ++ [])) same
    (subst (λ s. Counts (fixed w64) count done before s (list ++ [])) (sym (passed_none now))
    (subst (λ (xs : List ℕ). Counts (fixed w64) count done before now xs) (sym (append-nil list)) c))
counts_ahead (suc n) {count} {done} {before} {now} {list} fits c enough =
    let ahead = now.place.ahead in
    let word = from_be_bytes w64 (take 8 ahead) in
    let one : Counts (fixed w64) count (done + 1) before (passed now 8) (list ++ word ∷ []) = counts_more (omega (arith, fits)) c (reads_word c.over (omega (arith, enough))) refl in
    let rest = counts_ahead n (omega (arith, fits)) one (omega (arith, enough, length-drop 8 ahead)) in
    let same : done + 1 + n ≡ done + suc n = omega arith in
    subst (λ k. Counts (fixed w64) count k before (passed now (8 * suc n)) (list ++ word ∷ words_in n (drop 8 ahead))) same
    (subst (λ s. Counts (fixed w64) count (done + 1 + n) before s (list ++ word ∷ words_in n (drop 8 ahead))) (passed_more n now)
    (subst (λ (xs : List ℕ). Counts (fixed w64) count (done + 1 + n) before (passed (passed now 8) (8 * n)) xs) (append_assoc list (word ∷ []) (words_in n (drop 8 ahead))) rest))

-- a piece of words is read, for the first of which was read ahead
pub counts_piece : (more : ℕ) {count : ℕ} {before now mid : Scene} {place : Place} {list all : List ℕ} → 1 ≤ more → length list + more ≤ count →
    Counts (fixed w64) count (length list) before now list → Needs {T = Unit {0}} 8 now mid (Ok tt) → 8 * more ≤ length mid.place.ahead →
    place ≡ moved mid.place (8 * more) → all ≡ list ++ words_in more mid.place.ahead → Counts (fixed w64) count (length all) before (at_place mid place) all
unfolding words_in
counts_piece zero some fits c needs enough behind is = absurd (omega (arith, some))
counts_piece (suc n) {count} {before} {now} {mid} {place} {list} {all} some fits c needs enough behind is =
    let ahead = mid.place.ahead in
    let word = from_be_bytes w64 (take 8 ahead) in
    let one : Counts (fixed w64) count (length list + 1) before (passed mid 8) (list ++ word ∷ []) = counts_more (omega (arith, fits)) c (reads_fixed w64 needs refl refl) refl in
    let rest = counts_ahead n (omega (arith, fits)) one (omega (arith, enough, length-drop 8 ahead)) in
    let long : length list + 1 + n ≡ length all =
    omega (arith, ap (λ (xs : List ℕ). length xs) is, length-append list (word ∷ words_in n (drop 8 ahead)), length_words n (drop 8 ahead)) in
    let words : (list ++ word ∷ []) ++ words_in n (drop 8 ahead) ≡ all = append_assoc list (word ∷ []) (words_in n (drop 8 ahead)) ∙ sym is in
    let there : passed (passed mid 8) (8 * n) ≡ at_place mid place = passed_more n mid ∙ ap (λ (p : Place). at_place mid p) (sym behind) in
    subst (λ k. Counts (fixed w64) count k before (at_place mid place) all) long
    (subst (λ s. Counts (fixed w64) count (length list + 1 + n) before s all) there
    (subst (λ (xs : List ℕ). Counts (fixed w64) count (length list + 1 + n) before (passed (passed mid 8) (8 * n)) xs) words rest))

pub more_words : (list all bytes : List ℕ) (more : ℕ) → all ≡ list ++ words_in more bytes → length all ≡ length list + more
more_words list all bytes more is = omega (arith, ap (λ (xs : List ℕ). length xs) is, length-append list (words_in more bytes), length_words more bytes)

-- where the cursor stands behind so many words
pub behind_words : (list all bytes : List ℕ) (more start now next : ℕ) → now ≡ start + 8 * length list → next ≡ now + 8 * more → next ≤ 2 ^ 28 → all ≡ list ++ words_in more bytes →
    (next ≡ start + 8 * length all) × (8 * length all ≤ 2 ^ 28) × (length all ≡ length list + more)
behind_words list all bytes more start now next at by few is =
    let long = more_words list all bytes more is in
    (omega (arith, at, by, long), omega (arith, at, by, long, few), long)

-- no word is read yet
pub counts_none : {count : ℕ} {now : Scene} {list : List ℕ} → IsOver now → list ≡ [] → Counts (fixed w64) count (length list) now now list
counts_none {count} {now} {list} over is = subst (λ (xs : List ℕ). Counts (fixed w64) count (length xs) now now xs) (sym is) (counts_start count over refl)

pub no_words : (list : List ℕ) (start count : ℕ) → list ≡ [] → (start ≡ start + 8 * length list) × (8 * length list ≤ 2 ^ 28) × (length list ≤ count)
no_words list start count is = let none = ap (λ (xs : List ℕ). length xs) is in (omega (arith, none), omega (arith, none), omega (arith, none))

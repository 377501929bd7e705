-- Lemmas on bytes that are written into words: what is read there is what was written.
use Rattle.std.proofs.Common.{◌≡◌, ℕ, zero, suc, ◌+◌, ◌-◌, ◌*◌, ◌/◌, ◌%◌, ◌^◌, ◌<◌, ◌≤◌, inl, inr, List, [], ◌∷◌, ◌++◌, length, get_or, take, drop, refl, sym, ap, ◌∙◌, subst, arith}
use Rattle.std.specs.Prelude.{map}
use Rattle.std.specs.Int.{from_le_bytes, w64}
use Rattle.std.proofs.Math.Pow.{pow_mono}
use Rattle.std.proofs.Math.Seq.{drop-cons}
use Rattle.std.proofs.lemmas.Bool.{cases_lt}
use Rattle.std.proofs.lemmas.Nat.{pow-add, shr-shr, shr_high, mod_low}
use Rattle.std.proofs.lemmas.List.{drop_all, drop_at, get_or-drop, get_or-take, get_or_append_left, get_or_past, length-drop, length-take}
use Rattle.std.proofs.lemmas.List.FromFn.{fill_by_all}
use Rattle.packed_half.specs.Half.{byte_in, bytes_in, areas_in, packed_bytes, words_for_bytes}
use Rattle.packed_half.proofs.Areas.{byte_there, bytes_long}

abbrev pub AreBytes : List ℕ → Type 0
AreBytes bytes = (k : ℕ) → get_or bytes k 0 < 256

bytes_behind : (byte : ℕ) (rest : List ℕ) → AreBytes (byte ∷ rest) → AreBytes rest
bytes_behind byte rest are k = are (suc k)

-- a byte of a word
word_byte : (bytes : List ℕ) (k : ℕ) → AreBytes bytes → k < length bytes → packed_bytes bytes / 2 ^ (8 * k) % 2 ^ 8 ≡ get_or bytes k 0
unfolding packed_bytes
word_byte [] k are inside = absurd (omega arith)
word_byte (byte ∷ rest) zero are inside =
    let one : (packed_bytes rest * 2 ^ 8 + byte) / 2 ^ 0 ≡ packed_bytes rest * 2 ^ 8 + byte = omega arith in
    ap (λ n. n % 2 ^ 8) one ∙ mod_low (packed_bytes rest) 8 byte (are 0)
word_byte (byte ∷ rest) (suc k) are inside =
    let e : 8 * suc k ≡ 8 + 8 * k = omega arith in
    ap (λ n. (packed_bytes rest * 2 ^ 8 + byte) / 2 ^ n % 2 ^ 8) e
    ∙ ap (λ n. n % 2 ^ 8) (sym (shr-shr (packed_bytes rest * 2 ^ 8 + byte) 8 (8 * k)) ∙ ap (λ n. n / 2 ^ (8 * k)) (shr_high (packed_bytes rest) 8 byte (are 0)))
    ∙ word_byte rest k (bytes_behind byte rest are) (omega arith)

-- ---- a word, from its last byte on

pub record IsWordSoFar (bytes : List ℕ) (step word : ℕ) : Type 0 where
  pub is : word ≡ packed_bytes (drop (length bytes - step) bytes)
  pub small : word < 2 ^ (8 * step)

pub word_begun : (bytes : List ℕ) → IsWordSoFar bytes 0 0
unfolding packed_bytes
word_begun bytes = record { is = sym (ap packed_bytes (drop_all (length bytes - 0) bytes (omega arith))); small = omega arith }

pub word_more : (bytes : List ℕ) (step word byte : ℕ) → IsWordSoFar bytes step word → step < length bytes → byte ≡ get_or bytes (length bytes - 1 - step) 0 → byte < 256
    → IsWordSoFar bytes (step + 1) (word * 256 + byte)
unfolding packed_bytes
word_more bytes step word byte done inside is small =
    let at : length bytes - (step + 1) ≡ length bytes - 1 - step = omega arith in
    let next : suc (length bytes - 1 - step) ≡ length bytes - step = omega arith in
    let first : drop (length bytes - 1 - step) bytes ≡ byte ∷ drop (length bytes - step) bytes =
    drop-cons bytes (length bytes - 1 - step) 0 (omega arith) ∙ ap (λ b. b ∷ drop (suc (length bytes - 1 - step)) bytes) (sym is) ∙ ap (λ n. byte ∷ drop n bytes) next in
    let up : 2 ^ (8 * (step + 1)) ≡ 2 ^ (8 * step) * 2 ^ 8 = ap (λ n. 2 ^ n) (let e : 8 * (step + 1) ≡ 8 * step + 8 = omega arith in e) ∙ pow-add 2 (8 * step) 8 in
    let before = done.small in
    record {
      is = ap (λ n. n * 256 + byte) done.is ∙ sym (ap packed_bytes (ap (λ n. drop n bytes) at ∙ first));
      small = omega (arith, up, before);
    }

pub word_fits : (bytes : List ℕ) (step word byte : ℕ) → IsWordSoFar bytes step word → step < length bytes → length bytes ≤ 8 → byte < 256 → word * 256 + byte < 2 ^ 64
word_fits bytes step word byte done inside few small =
    let before = done.small in
    let top : 2 ^ (8 * step) ≤ 2 ^ 56 = pow_mono {i = 8 * step} {j = 56} (omega arith) in
    omega arith

pub word_done : (bytes : List ℕ) (step word : ℕ) → IsWordSoFar bytes step word → step ≡ length bytes → word ≡ packed_bytes bytes
word_done bytes step word done all = done.is ∙ ap (λ n. packed_bytes (drop n bytes)) (let e : length bytes - step ≡ 0 = omega arith in e)

-- a word of eight bytes at once
pub whole_word : (bytes : List ℕ) → length bytes ≡ 8 → from_le_bytes w64 bytes ≡ packed_bytes bytes
unfolding packed_bytes
whole_word (a ∷ b ∷ c ∷ d ∷ e ∷ f ∷ g ∷ h ∷ []) eight = omega arith
whole_word (a ∷ b ∷ c ∷ d ∷ e ∷ f ∷ g ∷ h ∷ i ∷ rest) eight = absurd (omega arith)
whole_word (a ∷ b ∷ c ∷ d ∷ e ∷ f ∷ g ∷ []) eight = absurd (omega arith)
whole_word (a ∷ b ∷ c ∷ d ∷ e ∷ f ∷ []) eight = absurd (omega arith)
whole_word (a ∷ b ∷ c ∷ d ∷ e ∷ []) eight = absurd (omega arith)
whole_word (a ∷ b ∷ c ∷ d ∷ []) eight = absurd (omega arith)
whole_word (a ∷ b ∷ c ∷ []) eight = absurd (omega arith)
whole_word (a ∷ b ∷ []) eight = absurd (omega arith)
whole_word (a ∷ []) eight = absurd (omega arith)
whole_word [] eight = absurd (omega arith)

-- ---- words, one after the other

abbrev pub AreWordsOf : List ℕ → List ℕ → ℕ → Type 0
AreWordsOf bytes words index = (k : ℕ) → k < index → get_or words k 0 ≡ packed_bytes (take 8 (drop (8 * k) bytes))

-- what a piece has at a place
piece_at : (bytes : List ℕ) (start k : ℕ) → k < 8 → get_or (take 8 (drop start bytes)) k 0 ≡ get_or bytes (start + k) 0
piece_at bytes start k inside = get_or-take 8 (drop start bytes) k 0 inside ∙ get_or-drop start bytes k 0

pub bytes_put : (words bytes : List ℕ) → AreBytes bytes → length words ≡ words_for_bytes (length bytes) → AreWordsOf bytes words (length words) → bytes_in words (length bytes) ≡ bytes
bytes_put words bytes are long written = sym (fill_by_all (byte_in words) bytes (length bytes) 0 refl (λ at inside. sym (there at inside)))
  where
    there : (at : ℕ) → at < length bytes → byte_in words at ≡ get_or bytes at 0
    there at inside =
        let word = at / 8 in
        let place = at % 8 in
        let piece = take 8 (drop (8 * word) bytes) in
        let split : 8 * word + place ≡ at = omega arith in
        let short : place < 8 = omega arith in
        let piece_long : place < length piece = piece_has word place inside split short in
        ap (λ n. n / 2 ^ (8 * place) % 2 ^ 8) (written word (omega arith))
        ∙ word_byte piece place (λ k. piece_bytes (8 * word) k) piece_long
        ∙ piece_at bytes (8 * word) place short
        ∙ ap (λ n. get_or bytes n 0) split
      where
        piece_has : (word place : ℕ) → at < length bytes → 8 * word + place ≡ at → place < 8 → place < length (take 8 (drop (8 * word) bytes))
        piece_has word place inside split short = let long = length-take 8 (drop (8 * word) bytes) in let behind = length-drop (8 * word) bytes in omega arith

        piece_bytes : (start k : ℕ) → get_or (take 8 (drop start bytes)) k 0 < 256
        piece_bytes start k = elim (cases_lt k 8) [
          | inl short ↦ subst (λ n. n < 256) (sym (piece_at bytes start k short)) (are (start + k))
          | inr past ↦
              let none = get_or_past (take 8 (drop start bytes)) k 0 (let long = length-take 8 (drop start bytes) in omega arith) in
              omega arith
        ]

-- ---- fields, one behind the other

pub fields_put : (here behind : List ℕ) (area : List ℕ) (rest : List (List ℕ)) → length here ≡ words_for_bytes (length area) → bytes_in here (length area) ≡ area
    → areas_in behind (map (λ (a : List ℕ). length a) rest) ≡ rest → areas_in (here ++ behind) (map (λ (a : List ℕ). length a) (area ∷ rest)) ≡ area ∷ rest
fields_put here behind area rest long first others =
    ap (λ (bs : List ℕ). bs ∷ areas_in (drop (words_for_bytes (length area)) (here ++ behind)) (map (λ (a : List ℕ). length a) rest)) (front_bytes ∙ first)
    ∙ ap (λ (ws : List ℕ). area ∷ areas_in ws (map (λ (a : List ℕ). length a) rest)) (drop_at here behind (words_for_bytes (length area)) long)
    ∙ ap (λ (behind_it : List (List ℕ)). area ∷ behind_it) others
  where
    front_bytes : bytes_in (here ++ behind) (length area) ≡ bytes_in here (length area)
    front_bytes = fill_by_all (byte_in here) (bytes_in (here ++ behind) (length area)) (length area) 0 (bytes_long (here ++ behind) (length area))
        (λ at inside. byte_there (here ++ behind) (length area) at inside ∙ ap (λ n. n / 2 ^ (8 * (at % 8)) % 2 ^ 8) (get_or_append_left here behind 0 (at / 8) (omega (arith, long))))

pub fields_join : (here behind : List ℕ) (area : List ℕ) (areas rest : List (List ℕ)) → 1 ≤ length areas → area ≡ get_or areas 0 area → rest ≡ drop 1 areas → length here ≡ words_for_bytes (length area)
    → bytes_in here (length area) ≡ area → areas_in behind (map (λ (a : List ℕ). length a) rest) ≡ rest → areas_in (here ++ behind) (map (λ (a : List ℕ). length a) areas) ≡ areas
fields_join here behind area [] rest some is rest_is long first others = absurd (omega arith)
fields_join here behind area (a ∷ areas) rest some is rest_is long first others =
    subst (λ (x : List ℕ). areas_in (here ++ behind) (map (λ (a : List ℕ). length a) (x ∷ areas)) ≡ x ∷ areas) is
    (fields_put here behind area areas long first (subst (λ (r : List (List ℕ)). areas_in behind (map (λ (a : List ℕ). length a) r) ≡ r) rest_is others))

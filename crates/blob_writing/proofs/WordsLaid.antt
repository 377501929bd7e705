-- Words laid out as bytes, one behind another and block by block.
use Rattle.std.proofs.Common.{◌≡◌, ℕ, ◌+◌, ◌-◌, ◌<◌, ◌≤◌, List, [], ◌∷◌, ◌++◌, length, take, drop, get_or, set, map, flat_map, sym, ap, ◌∙◌, append_assoc, arith}
use Rattle.std.proofs.Math.Seq.{take-add}
use Rattle.std.proofs.lemmas.List.{take_all, take_more, take_more_set, map_push}
use Rattle.std.proofs.lemmas.List.Concat.{flat_map-append}
use Rattle.std.proofs.lemmas.List.Folds.{flat_map-map}
use Rattle.std.specs.Prelude.{OnOk, is_ok, if◌then◌else◌, Result, Ok, Err}
use Rattle.std.specs.Int.{w64, to_be_bytes}

-- one word more
pub laid_more : (bytes : List (List ℕ)) (words : List ℕ) (index : ℕ) → index < length bytes → index < length words → take index bytes ≡ map (to_be_bytes w64) (take index words)
    → take (index + 1) (set bytes index (to_be_bytes w64 (get_or words index 0))) ≡ map (to_be_bytes w64) (take (index + 1) words)
laid_more bytes words index inside known laid =
    take_more_set bytes index (to_be_bytes w64 (get_or words index 0)) inside ∙ ap (λ (xs : List (List ℕ)). xs ++ to_be_bytes w64 (get_or words index 0) ∷ []) laid
    ∙ sym (map_push (to_be_bytes w64) (take index words) (get_or words index 0)) ∙ ap (map (to_be_bytes w64)) (sym (take_more words index 0 known))

-- all words of a block
pub laid_all : (bytes : List (List ℕ)) (words : List ℕ) (index : ℕ) → length words ≤ index → index ≤ length words → take index bytes ≡ map (to_be_bytes w64) (take index words)
    → flat_map (λ x. x) (take (length words) bytes) ≡ flat_map (to_be_bytes w64) words
laid_all bytes words index past within laid =
    let e : length words ≡ index = omega arith in
    ap (λ n. flat_map (λ x. x) (take n bytes)) e ∙ ap (flat_map (λ x. x)) (laid ∙ ap (map (to_be_bytes w64)) (take_all index words past)) ∙ flat_map-map (λ x. x) (to_be_bytes w64) words

-- what is appended where memory is there is the block
pub block_put : {T E : Type 0} → (result : Result T E) (before after put bytes : List ℕ) → after ≡ (if is_ok result then before ++ put else before) → put ≡ bytes → OnOk result (after ≡ before ++ bytes)
block_put (Ok _) before after put bytes is same = is ∙ ap (λ (xs : List ℕ). before ++ xs) same
block_put (Err _) before after put bytes is same = tt

-- a block more
pub block_more : (before : List ℕ) (words : List ℕ) (place end : ℕ) → place ≤ end
    → (before ++ flat_map (to_be_bytes w64) (take place words)) ++ flat_map (to_be_bytes w64) (take (end - place) (drop place words)) ≡ before ++ flat_map (to_be_bytes w64) (take end words)
block_more before words place end rises =
    let e : place + (end - place) ≡ end = omega arith in
    append_assoc before (flat_map (to_be_bytes w64) (take place words)) (flat_map (to_be_bytes w64) (take (end - place) (drop place words)))
    ∙ ap (λ (xs : List ℕ). before ++ xs) (sym (flat_map-append (to_be_bytes w64) (take place words) (take (end - place) (drop place words)))
    ∙ ap (flat_map (to_be_bytes w64)) (sym (take-add place (end - place) words) ∙ ap (λ n. take n words) e))

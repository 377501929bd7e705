-- A section is seen in one way.
use Rattle.std.proofs.Common.{◌≡◌, inl, inr, ℕ, ◌+◌, ◌*◌, ◌^◌, ◌<◌, List, [], ◌∷◌, length, sum, get_or, drop, sym, ap, subst, ◌∙◌, arith}
use Rattle.bit_array.specs.Element.{AreWords, element_of, number_of, words_of}
use Rattle.bit_array.proofs.Elements.{element_of_no_width}
use Rattle.bit_array.proofs.SameWords.{same_both, same_number, same_words}
use Rattle.schema_model.specs.declared.schema.Field.{Field}
use Rattle.schema_model.specs.declared.schema.Shape.{Shape}
use Rattle.schema_model.specs.Parts.{shape_fields}
use Rattle.type_rows.specs.declared.patch.PatchSection.{PatchSection}
use Rattle.seen_patches.specs.Elements.{columns_from, elements_in, elements_of}
use Rattle.seen_patches.specs.Seen.{IsColumned, IsSeen, seen_elements, seen_widths}
use Rattle.seen_patches.proofs.ColumnElements.{sum-cons}

-- records of the same elements have the same bits
same_record : (a b : List ℕ) (size place before : ℕ) (widths : List ℕ) → elements_in a place (columns_from size before widths) ≡ elements_in b place (columns_from size before widths)
    → element_of a (place * size + before) (sum widths) ≡ element_of b (place * size + before) (sum widths)
same_record a b size place before [] same = element_of_no_width a (place * size + before) ∙ sym (element_of_no_width b (place * size + before))
same_record a b size place before (width ∷ widths) same =
    let at = place * size + before in
    let next : place * size + (before + width) ≡ at + width = omega arith in
    let rest = same_record a b size place (before + width) widths (ap (λ (es : List ℕ). drop 1 es) same) in
    let behind = subst (λ (n : ℕ). element_of a n (sum widths) ≡ element_of b n (sum widths)) next rest in
    subst (λ (n : ℕ). element_of a at n ≡ element_of b at n) (sym (sum-cons width widths)) (same_both a b at width (sum widths) (ap (λ (es : List ℕ). get_or es 0 0) same) behind)

same_first : (places : ℕ) (widths a b : List ℕ) → AreWords a → AreWords b → length a ≡ length b → number_of a < 2 ^ (places * sum widths) → number_of b < 2 ^ (places * sum widths)
    → ((place : ℕ) → place < places → elements_of widths a place ≡ elements_of widths b place) → a ≡ b
same_first places widths a b words words' long below below' same =
    same_words a b long words words'
    (same_number a b (sum widths) places below below'
    (λ place less.
    let none : place * sum widths + 0 ≡ place * sum widths = omega arith in
    subst (λ (n : ℕ). element_of a n (sum widths) ≡ element_of b n (sum widths)) none (same_record a b (sum widths) place 0 widths (same place less))))

columned_once : (mine theirs : List Field) (raw a b : PatchSection) → IsColumned mine theirs raw a → IsColumned mine theirs raw b → a ≡ b
columned_once mine theirs raw a b is is' =
    let widths = seen_widths mine theirs raw.widths in
    let places = length raw.added in
    let elements = subst (λ (ws : List ℕ). (p : ℕ) → p < places → elements_of ws a.first p ≡ seen_elements mine theirs (elements_of raw.widths raw.first p)) is.widths is.elements in
    let elements' = subst (λ (ws : List ℕ). (p : ℕ) → p < places → elements_of ws b.first p ≡ seen_elements mine theirs (elements_of raw.widths raw.first p)) is'.widths is'.elements in
    let long = subst (λ (ws : List ℕ). length a.first ≡ words_of (places * sum ws)) is.widths is.words in
    let long' = subst (λ (ws : List ℕ). length b.first ≡ words_of (places * sum ws)) is'.widths is'.words in
    let bits = subst (λ (ws : List ℕ). number_of a.first < 2 ^ (places * sum ws)) is.widths is.bits in
    let bits' = subst (λ (ws : List ℕ). number_of b.first < 2 ^ (places * sum ws)) is'.widths is'.bits in
    let max = is.max ∙ sym is'.max in
    let wide = is.widths ∙ sym is'.widths in
    let own = is.own ∙ sym is'.own in
    let total = is.total ∙ sym is'.total in
    let first = same_first places widths a.first b.first is.are is'.are (long ∙ sym long') bits bits' (λ place less. elements place less ∙ sym (elements' place less)) in
    let second = is.second ∙ sym is'.second in
    let areas = is.areas ∙ sym is'.areas in
    let removed = is.removed ∙ sym is'.removed in
    let added = is.added ∙ sym is'.added in
    λ i. record { max = max i; widths = wide i; own = own i; total = total i; first = first i; second = second i; areas = areas i; removed = removed i; added = added i }

pub one_seen : (mine theirs : Shape) (raw a b : PatchSection) → IsSeen mine theirs raw a → IsSeen mine theirs raw b → a ≡ b
one_seen mine theirs raw a b (inl is) (inl is') = is.1 ∙ sym is'.1
one_seen mine theirs raw a b (inl is) (inr is') = absurd (is'.0 is.0)
one_seen mine theirs raw a b (inr is) (inl is') = absurd (is.0 is'.0)
one_seen mine theirs raw a b (inr is) (inr is') = columned_once (shape_fields mine) (shape_fields theirs) raw a b is.1 is'.1

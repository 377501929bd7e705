-- Lemmas on two lists of words that are packed of the same lists: they have the same pointers and elements, and so are the same.
use Rattle.std.proofs.Common.{◌≡◌, ℕ, zero, suc, ◌+◌, ◌-◌, ◌*◌, ◌<◌, ◌≤◌, List, [], ◌∷◌, ◌++◌, length, take, get_or, Option, Some, None, arith, refl, sym, ap, subst, ⊎_elim, ◌∙◌}
use Rattle.std.proofs.lemmas.Bool.{cases_lt}
use Rattle.std.proofs.lemmas.List.{take_all, take_more, length-append, append-nil}
use Rattle.std.proofs.lemmas.List.Concat.{flat_map-append}
use Rattle.std.proofs.lemmas.List.FromFn.{length-map-range_with_len, get_or-map-range_with_len}
use Rattle.std.proofs.lemmas.Option.{slice_get-get_or}
use Rattle.bit_array.specs.Element.{number_of, element_of, AreWords}
use Rattle.row_model.specs.declared.row.Row.{Row}
use Rattle.list_codec.specs.ListPlace.{pointer_width, element_width, start_at, end_at}
use Rattle.list_codec.specs.Packing.{elements_of_place, elements_of_places, SpellsPlace, IsPacked}
use Rattle.bit_array.proofs.SameWords.{same_number, same_words}

-- the elements of one more place
places_more : (rows : List (Option Row)) (place : ℕ) → place < length rows → elements_of_places (take (place + 1) rows) ≡ elements_of_places (take place rows) ++ elements_of_place (get_or rows place None)
places_more rows place below =
    ap elements_of_places (take_more rows place None below)
    ∙ flat_map-append elements_of_place (take place rows) (get_or rows place None ∷ [])
    ∙ ap (λ l. elements_of_places (take place rows) ++ l) (append-nil (elements_of_place (get_or rows place None)))

count_more : (rows : List (Option Row)) (place : ℕ) → place < length rows
    → length (elements_of_places (take (place + 1) rows)) ≡ length (elements_of_places (take place rows)) + length (elements_of_place (get_or rows place None))
count_more rows place below =
    ap length (places_more rows place below) ∙ length-append (elements_of_places (take place rows)) (elements_of_place (get_or rows place None))

-- the pointer of a place
end_is : (widths : List ℕ) (total : ℕ) (first second : List ℕ) (place : ℕ) (row : Option Row) → SpellsPlace widths total first second place row
    → end_at widths first place ≡ start_at widths first place + length (elements_of_place row)
end_is widths total first second place None spelled = omega (arith, spelled)
end_is widths total first second place (Some (Row.List ordinals)) spelled =
    let long : length ordinals ≡ end_at widths first place - start_at widths first place =
    ap length spelled.are
    ∙ length-map-range_with_len (λ index. element_of second (index * element_width widths) (element_width widths)) (start_at widths first place) (end_at widths first place - start_at widths first place) in
    omega (arith, long, spelled.has.rises)
end_is widths total first second place (Some _) spelled = absurd spelled

-- an element of its list
element_is : (widths : List ℕ) (total : ℕ) (first second : List ℕ) (place start index : ℕ) (row : Option Row) → SpellsPlace widths total first second place row
    → start_at widths first place ≡ start → start ≤ index → index < start + length (elements_of_place row)
    → element_of second (index * element_width widths) (element_width widths) ≡ get_or (elements_of_place row) (index - start) 0
element_is widths total first second place start index None spelled starts above below = absurd (omega (arith, above, below))
element_is widths total first second place start index (Some (Row.List ordinals)) spelled starts above below =
    let element : ℕ → ℕ = λ at. element_of second (at * element_width widths) (element_width widths) in
    let count = end_at widths first place - start_at widths first place in
    let long : length ordinals ≡ count = ap length spelled.are ∙ length-map-range_with_len element (start_at widths first place) count in
    sym (ap (λ l. get_or l (index - start) 0) spelled.are
    ∙ get_or-map-range_with_len element (start_at widths first place) count (index - start) index 0 (omega (arith, above, below, long)) (omega (arith, above, starts)))
element_is widths total first second place start index (Some _) spelled starts above below = absurd spelled

-- what a place has
at_place : (widths : List ℕ) (rows : List (Option Row)) (first second : List ℕ) (place : ℕ) → IsPacked widths rows first second → place < length rows
    → SpellsPlace widths (length (elements_of_places rows)) first second place (get_or rows place None)
at_place widths rows first second place packed below = packed.spelled place (get_or rows place None) (slice_get-get_or rows place None below)

-- a list starts behind those of all places before
start_is : (widths : List ℕ) (rows : List (Option Row)) (first second : List ℕ) (place : ℕ) → IsPacked widths rows first second → place ≤ length rows
    → start_at widths first place ≡ length (elements_of_places (take place rows))
start_is widths rows first second zero packed below = refl
start_is widths rows first second (suc place) packed below =
    let here = end_is widths (length (elements_of_places rows)) first second place (get_or rows place None) (at_place widths rows first second place packed (omega arith)) in
    let before = start_is widths rows first second place packed (omega arith) in
    let one : place + 1 ≡ suc place = omega arith in
    here
    ∙ ap (λ n. n + length (elements_of_place (get_or rows place None))) before
    ∙ sym (count_more rows place (omega arith))
    ∙ ap (λ n. length (elements_of_places (take n rows))) one

-- two packings have the same elements
same_elements : (widths : List ℕ) (rows : List (Option Row)) (first second first' second' : List ℕ) (count index : ℕ) → IsPacked widths rows first second
    → IsPacked widths rows first' second' → count ≤ length rows → index < length (elements_of_places (take count rows))
    → element_of second (index * element_width widths) (element_width widths) ≡ element_of second' (index * element_width widths) (element_width widths)
same_elements widths rows first second first' second' zero index packed packed' below less = absurd (omega (arith, less))
same_elements widths rows first second first' second' (suc place) index packed packed' below less =
    let start = length (elements_of_places (take place rows)) in
    ⊎_elim
    (λ (earlier : index < start). same_elements widths rows first second first' second' place index packed packed' (omega arith) earlier)
    (λ (later : start ≤ index).
    let one : suc place ≡ place + 1 = omega arith in
    let more : length (elements_of_places (take (suc place) rows)) ≡ start + length (elements_of_place (get_or rows place None)) =
    ap (λ n. length (elements_of_places (take n rows))) one ∙ count_more rows place (omega arith) in
    let inside : index < start + length (elements_of_place (get_or rows place None)) = omega (arith, less, more) in
    element_is widths (length (elements_of_places rows)) first second place start index (get_or rows place None) (at_place widths rows first second place packed (omega arith))
    (start_is widths rows first second place packed (omega arith)) later inside
    ∙ sym (element_is widths (length (elements_of_places rows)) first' second' place start index (get_or rows place None) (at_place widths rows first' second' place packed' (omega arith))
    (start_is widths rows first' second' place packed' (omega arith)) later inside))
    (cases_lt index start)

-- the words of lists are determined
pub lists_packed_once : (widths : List ℕ) (rows : List (Option Row)) (first second first' second' : List ℕ) → AreWords first → AreWords second → AreWords first' → AreWords second'
    → IsPacked widths rows first second → IsPacked widths rows first' second' → (first ≡ first') × (second ≡ second')
lists_packed_once widths rows first second first' second' words words2 words' words2' packed packed' =
    let pointers : number_of first ≡ number_of first' =
    same_number first first' (pointer_width widths) (length rows) packed.pointer_bits packed'.pointer_bits
    (λ place below. start_is widths rows first second (suc place) packed (omega arith) ∙ sym (start_is widths rows first' second' (suc place) packed' (omega arith))) in
    let whole : take (length rows) rows ≡ rows = take_all (length rows) rows (omega arith) in
    let elements : number_of second ≡ number_of second' =
    same_number second second' (element_width widths) (length (elements_of_places rows)) packed.element_bits packed'.element_bits
    (λ index below. same_elements widths rows first second first' second' (length rows) index packed packed' (omega arith)
    (subst (λ r. index < length (elements_of_places r)) (sym whole) below)) in (
      same_words first first' (packed.pointer_words ∙ sym packed'.pointer_words) words words' pointers,
      same_words second second' (packed.element_words ∙ sym packed'.element_words) words2 words2' elements,
    )

-- Lemmas on the places that are packed one after the other.
use Rattle.std.proofs.Common.{◌≡◌, ℕ, ◌+◌, ◌-◌, ◌*◌, ◌^◌, ◌<◌, ◌≤◌, suc, zero, List, [], ◌∷◌, ◌++◌, length, get_or, take, drop, refl, sym, ap, ◌∙◌, subst, arith, add-one, append-nil, inl, inr}
use Rattle.std.specs.Prelude.{All, replicate, slice_get, unwrap_or, Option, None, Some}
use Rattle.std.proofs.Math.Seq.{drop-cons}
use Rattle.std.proofs.Math.Nat.{mul-le-mul_right}
use Rattle.std.proofs.lemmas.Bool.{cases_lt}
use Rattle.std.proofs.lemmas.Nat.{pow_pos}
use Rattle.std.proofs.lemmas.List.{length-append, drop_all, take_all, take_at, drop_at}
use Rattle.std.proofs.lemmas.List.Elements.{All-take, All-drop}
use Rattle.std.proofs.lemmas.List.FromFn.{length-map-range_with_len}
use Rattle.std.proofs.lemmas.Option.{slice_get_within, unwrap_or-slice_get}
use Rattle.bit_array.specs.Element.{number_of, element_of, words_of}
use Rattle.bit_array.proofs.ZeroWords.{number_zeros}
use Rattle.schema_model.specs.declared.schema.Shape.{Shape}
use Rattle.row_model.specs.declared.row.Row.{Row}
use Rattle.row_model.specs.Row.{FitsShape}
use Rattle.list_codec.specs.ListPlace.{pointer_width, element_width, start_at, end_at, IsList, SpellsList, SpellsListRow}
use Rattle.list_codec.specs.Widths.{elements_of_row}
use Rattle.list_codec.specs.Packing.{HasRoom, CanPack, IsPacked, WordsOf, SpellsPlace, elements_of_place, elements_of_places}
use Rattle.list_codec.proofs.Written.{ends_before}

abbrev pub Place : Type 0
Place = Option Row

-- what a list of places lends is its place
pub place_is : (rows : List Place) (index : ℕ) (row : Place) → slice_get rows index ≡ Some row → row ≡ get_or rows index None
place_is rows index row h = ap (λ o. unwrap_or o None) (sym h) ∙ unwrap_or-slice_get rows index None

-- the elements of one place, and those of the rest
places_from : (rows : List Place) (index : ℕ) (d row : Place) → index < length rows → row ≡ get_or rows index d
    → elements_of_places (drop index rows) ≡ elements_of_place row ++ elements_of_places (drop (index + 1) rows)
places_from rows index d row inside is =
    let split : drop index rows ≡ row ∷ drop (index + 1) rows = rw (add-one, is) (drop-cons rows index d inside) in
    ap elements_of_places split

-- ---- counting

-- the elements of the place that is lent are counted
pub counted_more : (rows : List Place) (place count : ℕ) (lent : Place) (elements : List ℕ) → slice_get rows place ≡ Some lent → elements ≡ elements_of_place lent
    → count + length (elements_of_places (drop place rows)) ≡ length (elements_of_places rows) → count + length elements + length (elements_of_places (drop (place + 1) rows)) ≡ length (elements_of_places rows)
counted_more rows place count lent elements there are counted =
    let parts = places_from rows place None lent (slice_get_within rows place lent there) (place_is rows place lent there) in
    let split = ap (λ (es : List ℕ). length es) parts ∙ length-append (elements_of_place lent) (elements_of_places (drop (place + 1) rows)) in
    let long = ap (λ (es : List ℕ). length es) are in
    omega (arith, counted, split, long)

-- ---- places packed one after the other

pub record PackedSoFar (widths : List ℕ) (rows : List Place) (first second : List ℕ) (place end : ℕ) : Type 0 where
  pub words : WordsOf widths rows first second place end
  pub counted : end + length (elements_of_places (drop place rows)) ≡ length (elements_of_places rows)
  pub small : All (λ element. element < 2 ^ element_width widths) (elements_of_places (drop place rows))
  pub few : 64 * length first < 2 ^ 64
  pub second_few : 64 * length second < 2 ^ 64

pub packed_none : (widths : List ℕ) (rows : List Place) (first second : List ℕ) (count width second_count second_width : ℕ)
    → count ≡ length rows → width ≡ pointer_width widths → second_count ≡ length (elements_of_places rows) → second_width ≡ element_width widths
    → length first ≡ words_of (count * width) → length second ≡ words_of (second_count * second_width) → first ≡ replicate (length first) 0 → second ≡ replicate (length second) 0
    → 64 * length first < 2 ^ 64 → 64 * length second < 2 ^ 64 → All (λ element. element < 2 ^ element_width widths) (elements_of_places rows)
    → PackedSoFar widths rows first second 0 0
packed_none widths rows first second count width second_count second_width is_count is_width is_second_count is_second_width long second_long zeros second_zeros few second_few small =
    let none = ap number_of zeros ∙ number_zeros (length first) in
    let second_none = ap number_of second_zeros ∙ number_zeros (length second) in
    record {
      words = record {
        follows = refl;
        spelled = λ before earlier. absurd (omega arith);
        pointer_words = long ∙ ap words_of (ap (λ n. n * width) is_count ∙ ap (λ n. length rows * n) is_width);
        element_words = second_long ∙ ap words_of (ap (λ n. n * second_width) is_second_count ∙ ap (λ n. length (elements_of_places rows) * n) is_second_width);
        pointer_bits = rw none (pow_pos (0 * pointer_width widths));
        element_bits = rw second_none (pow_pos (0 * element_width widths));
      };
      counted = omega arith;
      small = small;
      few = few;
      second_few = second_few;
    }

pub pack_room : (widths : List ℕ) (rows : List Place) (first second : List ℕ) (place end : ℕ) (row : Place) (elements : List ℕ) → PackedSoFar widths rows first second place end
    → place < length rows → row ≡ get_or rows place None → elements ≡ elements_of_place row
    → length widths ≡ 2 → All (λ width. width ≤ 64) widths → length (elements_of_places rows) < 2 ^ pointer_width widths
    → HasRoom widths first second place end elements
pack_room widths rows first second place end row elements done inside is are two narrow below =
    let here = elements_of_place row in
    let behind = elements_of_places (drop (place + 1) rows) in
    let parts = places_from rows place None row inside is in
    let split = ap (λ (es : List ℕ). length es) parts ∙ length-append here behind in
    let long = ap (λ (es : List ℕ). length es) are in
    let counted = done.counted in
    let total = length (elements_of_places rows) in
    let within : end + length elements ≤ total = omega arith in
    let pointer_words = done.words.pointer_words in
    let element_words = done.words.element_words in
    let pointer = ends_before place (length rows) (pointer_width widths) inside in
    let held : (end + length elements) * element_width widths ≤ total * element_width widths = mul-le-mul_right (element_width widths) within in
    let all : All (λ element. element < 2 ^ element_width widths) (here ++ behind) = subst (All (λ element. element < 2 ^ element_width widths)) parts done.small in
    let first_all = All-take (λ element. element < 2 ^ element_width widths) (length here) (here ++ behind) all in
    record {
      two = two;
      narrow = narrow;
      follows = done.words.follows;
      pointers = omega arith;
      held = omega arith;
      few = done.few;
      second_few = done.second_few;
      below = omega arith;
      small = subst (All (λ element. element < 2 ^ element_width widths)) (take_at here behind (length here) refl ∙ sym are) first_all;
    }

-- a list within a total is within a greater one
wider : (widths first second : List ℕ) (total more place : ℕ) (list : List ℕ) → total ≤ more → SpellsList widths total first second place list → SpellsList widths more first second place list
wider widths first second total more place list le spelled =
    let has = spelled.has in
    let within = has.within in
    record {
      has = record { rises = has.rises; within = omega arith; held = has.held };
      are = spelled.are;
      small = spelled.small;
    }

-- the next list starts where this one ends
ended : (widths first : List ℕ) (place end : ℕ) → end_at widths first place ≡ end → start_at widths first (place + 1) ≡ end
ended widths first place end there = rw (add-one place) there

pub packed_more : (widths : List ℕ) (rows : List Place) (first second first' second' : List ℕ) (place end end' : ℕ) (row : Place) (elements : List ℕ) → PackedSoFar widths rows first second place end
    → place < length rows → row ≡ get_or rows place None → elements ≡ elements_of_place row → end' ≡ end + length elements → SpellsList widths end' first' second' place elements
    → ((before total : ℕ) (list : List ℕ) → before < place → total ≤ end → SpellsList widths total first second before list → SpellsList widths total first' second' before list)
    → (number_of first < 2 ^ (place * pointer_width widths) → number_of first' < 2 ^ ((place + 1) * pointer_width widths))
    → (number_of second < 2 ^ (end * element_width widths) → number_of second' < 2 ^ (end' * element_width widths))
    → end_at widths first' place ≡ end' → length first' ≡ length first → length second' ≡ length second → PackedSoFar widths rows first' second' (place + 1) end'
packed_more widths rows first second first' second' place end end' row elements done inside is are is_end spelled earlier bits second_bits there long second_long =
    let here = elements_of_place row in
    let behind = elements_of_places (drop (place + 1) rows) in
    let parts = places_from rows place None row inside is in
    let split = ap (λ (es : List ℕ). length es) parts ∙ length-append here behind in
    let same = ap (λ (es : List ℕ). length es) are in
    let counted = done.counted in
    let words = done.words in
    let few = done.few in
    let second_few = done.second_few in
    let all : All (λ element. element < 2 ^ element_width widths) (here ++ behind) = subst (All (λ element. element < 2 ^ element_width widths)) parts done.small in
    let rest_all = All-drop (λ element. element < 2 ^ element_width widths) (length here) (here ++ behind) all in
    record {
      words = record {
        follows = ended widths first' place end' there;
        spelled = λ before within.
            elim (cases_lt before place) [
              | inl earlier_place ↦ wider widths first' second' end end' before (elements_of_place (get_or rows before None)) (omega arith) (earlier before end (elements_of_place (get_or rows before None)) earlier_place (omega arith) (words.spelled before earlier_place))
              | inr here_place ↦
                  let at : place ≡ before = omega arith in
                  subst (λ n. SpellsList widths end' first' second' n (elements_of_place (get_or rows n None))) at
                  (subst (λ (es : List ℕ). SpellsList widths end' first' second' place es) (are ∙ ap elements_of_place is) spelled)
            ];
        pointer_words = long ∙ words.pointer_words;
        element_words = second_long ∙ words.element_words;
        pointer_bits = bits words.pointer_bits;
        element_bits = second_bits words.element_bits;
      };
      counted = omega arith;
      small = subst (All (λ element. element < 2 ^ element_width widths)) (drop_at here behind (length here) refl) rest_all;
      few = omega arith;
      second_few = omega arith;
    }

-- ---- the rows that are packed

list_row : (shape : Shape) (row : Row) → IsList shape → FitsShape shape row → row ≡ Row.List (elements_of_row row)
list_row (Shape.List element) (Row.List ordinals) is fits = refl
list_row (Shape.List element) (Row.Object values) is fits = absurd fits
list_row (Shape.List element) (Row.Set ordinals) is fits = absurd fits
list_row (Shape.List element) (Row.Map pairs) is fits = absurd fits
list_row (Shape.Object key fields) row is fits = absurd is
list_row (Shape.Set element) row is fits = absurd is
list_row (Shape.Map key value) row is fits = absurd is

-- no element stands between pointers that are one
no_elements : (widths first second : List ℕ) (total place : ℕ) → SpellsList widths total first second place [] → end_at widths first place ≡ start_at widths first place
no_elements widths first second total place spelled =
    let rises = spelled.has.rises in
    let width = element_width widths in
    let start = start_at widths first place in
    let end = end_at widths first place in
    let none = ap (λ (es : List ℕ). length es) spelled.are ∙ length-map-range_with_len (λ index. element_of second (index * width) width) start (end - start) in
    omega arith

place_spelled : (shape : Shape) (widths first second : List ℕ) (total place : ℕ) (row : Place) → IsList shape → ((found : Row) → row ≡ Some found → FitsShape shape found)
    → SpellsList widths total first second place (elements_of_place row) → SpellsPlace widths total first second place row
place_spelled shape widths first second total place None is fits spelled = no_elements widths first second total place spelled
place_spelled shape widths first second total place (Some row) is fits spelled =
    subst (λ (r : Row). SpellsListRow widths total first second place r) (sym (list_row shape row is (fits row refl))) spelled

inside_of : (rows : List Place) (place : ℕ) (row : Place) → slice_get rows place ≡ Some row → place < length rows
inside_of [] place row h = absurd cc
inside_of (x ∷ rows) zero row h = omega arith
inside_of (x ∷ rows) (suc place) row h = let rest = inside_of rows place row h in omega arith

pub packed : (shape : Shape) (widths : List ℕ) (rows : List Place) (first second : List ℕ) → CanPack shape widths rows
    → WordsOf widths rows first second (length rows) (length (elements_of_places rows)) → IsPacked widths rows first second
packed shape widths rows first second can words = record {
  spelled = λ place row there.
      place_spelled shape widths first second (length (elements_of_places rows)) place row can.list
      (λ found is. can.fit place found (there ∙ ap Some is))
      (subst (λ (r : Place). SpellsList widths (length (elements_of_places rows)) first second place (elements_of_place r)) (sym (place_is rows place row there)) (words.spelled place (inside_of rows place row there)));
  pointer_words = words.pointer_words;
  element_words = words.element_words;
  pointer_bits = words.pointer_bits;
  element_bits = words.element_bits;
}

-- ---- the same of vectors whose words are lent

-- what a vector holds once all its words are written back
put_back : (old given new : List ℕ) (len : ℕ) → given ≡ old → length new ≡ length given → len ≡ length old → take len (new ++ drop (length new) old) ≡ new
put_back old given new len is same all =
    let long = same ∙ ap (λ (ws : List ℕ). length ws) is in
    ap (λ (ws : List ℕ). take len (new ++ ws)) (drop_all (length new) old (omega arith))
    ∙ ap (take len) (append-nil new)
    ∙ take_all len new (omega arith)

pub lent_room : (widths : List ℕ) (rows : List Place) (first second given second_given : List ℕ) (place end : ℕ) (row : Place) (elements : List ℕ) → given ≡ first → second_given ≡ second
    → PackedSoFar widths rows first second place end → place < length rows → slice_get rows place ≡ Some row → elements ≡ elements_of_place row
    → length widths ≡ 2 → All (λ width. width ≤ 64) widths → length (elements_of_places rows) < 2 ^ pointer_width widths → HasRoom widths given second_given place end elements
lent_room widths rows first second given second_given place end row elements is second_is done inside there are two narrow below =
    let room = pack_room widths rows first second place end row elements done inside (place_is rows place row there) are two narrow below in
    subst (λ (ws : List ℕ). HasRoom widths ws second_given place end elements) (sym is) (subst (λ (ws : List ℕ). HasRoom widths first ws place end elements) (sym second_is) room)

pub lent_more : (widths : List ℕ) (rows : List Place) (first second given second_given first' second' : List ℕ) (len second_len place end end' : ℕ) (row : Place) (elements : List ℕ)
    → given ≡ first → second_given ≡ second → len ≡ length first → second_len ≡ length second → PackedSoFar widths rows first second place end → place < length rows
    → slice_get rows place ≡ Some row → elements ≡ elements_of_place row → end' ≡ end + length elements → SpellsList widths end' first' second' place elements
    → ((before total : ℕ) (list : List ℕ) → before < place → total ≤ end → SpellsList widths total given second_given before list → SpellsList widths total first' second' before list)
    → (number_of given < 2 ^ (place * pointer_width widths) → number_of first' < 2 ^ ((place + 1) * pointer_width widths))
    → (number_of second_given < 2 ^ (end * element_width widths) → number_of second' < 2 ^ (end' * element_width widths))
    → end_at widths first' place ≡ end' → length first' ≡ length given → length second' ≡ length second_given
    → PackedSoFar widths rows (take len (first' ++ drop (length first') first)) (take second_len (second' ++ drop (length second') second)) (place + 1) end'
lent_more widths rows first second given second_given first' second' len second_len place end end' row elements is second_is all second_all done inside there are is_end spelled earlier bits second_bits ends long second_long =
    let done' : PackedSoFar widths rows given second_given place end =
    subst (λ (ws : List ℕ). PackedSoFar widths rows ws second_given place end) (sym is) (subst (λ (ws : List ℕ). PackedSoFar widths rows first ws place end) (sym second_is) done) in
    let more = packed_more widths rows given second_given first' second' place end end' row elements done' inside (place_is rows place row there) are is_end spelled earlier bits second_bits ends long second_long in
    subst (λ (ws : List ℕ). PackedSoFar widths rows ws (take second_len (second' ++ drop (length second') second)) (place + 1) end') (sym (put_back first given first' len is long all))
    (subst (λ (ws : List ℕ). PackedSoFar widths rows first' ws (place + 1) end') (sym (put_back second second_given second' second_len second_is second_long second_all)) more)

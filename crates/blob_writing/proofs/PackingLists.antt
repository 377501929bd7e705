-- Lists that can be packed: there are words of them.
use Rattle.std.proofs.Common.{◌≡◌, ℕ, ◌+◌, ◌-◌, ◌*◌, ◌^◌, ◌<◌, ◌≤◌, suc, zero, List, [], ◌∷◌, length, get_or, take, refl, sym, ap, ◌∙◌, subst, arith, inl, inr, Fits, w32}
use Rattle.std.specs.Prelude.{All, Option, None, replicate, map}
use Rattle.std.specs.List.{range_with_len}
use Rattle.std.proofs.Math.Nat.{mul-le-mul}
use Rattle.std.proofs.lemmas.Bool.{cases_lt}
use Rattle.std.proofs.lemmas.List.{get_or_past, drop_all}
use Rattle.std.proofs.lemmas.List.Elements.{All-get_or}
use Rattle.bit_array.specs.Element.{AreWords, element_of, number_of, words_of}
use Rattle.bit_array.proofs.Blocks.{block_is, block_apart}
use Rattle.schema_model.specs.declared.schema.Shape.{Shape}
use Rattle.row_model.specs.declared.row.Row.{Row}
use Rattle.list_codec.specs.ListPlace.{pointer_width, element_width, SpellsList}
use Rattle.list_codec.specs.Packing.{CanPack, HasRoom, IsPacked, WordsOf, elements_of_place, elements_of_places}
use Rattle.list_codec.proofs.Written.{WrittenSoFar, written_more, PointerPut, pointer_put, row_spelled, row_kept, ends_before}
use Rattle.list_codec.proofs.Places.{PackedSoFar, packed_none, pack_room, packed_more, packed}
use Rattle.blob_writing.proofs.SettingBlocks.{sets, zero_words, length-zeros}

-- ---- a run of elements

pub record HasElements (old : List ℕ) (width start count : ℕ) (elements : List ℕ) : Type 0 where
  pub words : List ℕ
  pub are : AreWords words
  pub written : WrittenSoFar old words width start count ((start + count) * width) elements

pub elements_written : (old : List ℕ) (width start : ℕ) (elements : List ℕ) (count : ℕ) → AreWords old → (start + length elements) * width ≤ 64 * length old
    → All (λ element. element < 2 ^ width) elements → count ≤ length elements → HasElements old width start count elements
elements_written old width start elements zero are held small within =
    let here : start + 0 - start ≡ 0 = omega arith in
    let same : start * width ≡ (start + 0) * width = omega arith in
    record {
      words = old;
      are = are;
      written = record {
        position = refl;
        are = ap (λ (n : ℕ). map (λ index. element_of old (index * width) width) (range_with_len start n)) here;
        before = λ i v inside. refl;
        bits = λ below. subst (λ n. number_of old < 2 ^ n) same below;
        long = refl;
      };
    }
elements_written old width start elements (suc count) are held small within =
    let so_far = elements_written old width start elements count are held small (omega arith) in
    let at = (start + count) * width in
    let element = get_or elements count 0 in
    let long = so_far.written.long in
    let ends = ends_before (start + count) (start + length elements) width (omega arith) in
    let below : element < 2 ^ width = small count 0 (omega arith) in
    let put = sets so_far.words at width element so_far.are (omega arith) below in
    let more =
    written_more old so_far.words put.words width start count at element elements so_far.written (omega arith) refl below put.block
    (block_is so_far.words put.words at width element below put.block) (block_apart so_far.words put.words at width element below put.block) put.long in
    let next : count + 1 ≡ suc count = omega arith in
    let place : at + width ≡ (start + suc count) * width = omega arith in
    record {
      words = put.words;
      are = put.are;
      written = subst (λ (n : ℕ). WrittenSoFar old put.words width start n ((start + suc count) * width) elements) next
          (subst (λ (n : ℕ). WrittenSoFar old put.words width start (count + 1) n elements) place more);
    }

-- ---- a list at its place

record ListPut (widths first second : List ℕ) (place start : ℕ) (elements : List ℕ) : Type 0 where
  first' : List ℕ
  second' : List ℕ
  first_words : AreWords first'
  second_words : AreWords second'
  pointer : PointerPut widths first first' place (start + length elements)
  spelled : SpellsList widths (start + length elements) first' second' place elements
  earlier : (before total : ℕ) (list : List ℕ) → before < place → total ≤ start → SpellsList widths total first second before list → SpellsList widths total first' second' before list
  bits : number_of second < 2 ^ (start * element_width widths) → number_of second' < 2 ^ ((start + length elements) * element_width widths)
  long : length first' ≡ length first
  second_long : length second' ≡ length second

fit_ordinals : (elements : List ℕ) → All (λ element. element < 2 ^ 32) elements → (i : ℕ) → Fits w32 (get_or elements i 0)
fit_ordinals elements all i =
    elim (cases_lt i (length elements)) [
      | inl inside ↦ record { fits = all i 0 inside }
      | inr past ↦ let none = get_or_past elements i 0 past in record { fits = omega (arith, none) }
    ]

list_put : (widths first second : List ℕ) (place start : ℕ) (elements : List ℕ) → AreWords first → AreWords second → All (λ element. element < 2 ^ 32) elements
    → HasRoom widths first second place start elements → ListPut widths first second place start elements
list_put widths first second place start elements are second_are ordinals room =
    let pw = pointer_width widths in
    let ew = element_width widths in
    let end = start + length elements in
    let pointers = room.pointers in
    let below = room.below in
    let put = sets first (place * pw) pw end are (omega arith) below in
    let pointer =
    pointer_put widths first put.words place end pw pw refl refl below put.block (block_is first put.words (place * pw) pw end below put.block)
    (block_apart first put.words (place * pw) pw end below put.block) in
    let run = elements_written second ew start elements (length elements) second_are room.held room.small (omega arith) in
    let all = run.written.are ∙ take_whole elements in
    record {
      first' = put.words;
      second' = run.words;
      first_words = put.are;
      second_words = run.are;
      pointer = pointer;
      spelled = row_spelled widths first put.words second run.words place start end ew elements room pointer refl refl all run.written.long (fit_ordinals elements ordinals);
      earlier = row_kept widths first put.words second run.words place start end ew pointer refl run.written.before run.written.long;
      bits = run.written.bits;
      long = put.long;
      second_long = run.written.long;
    }
  where
    take_whole : (xs : List ℕ) → take (length xs) xs ≡ xs
    take_whole [] = refl
    take_whole (x ∷ xs) = ap (λ (l : List ℕ). x ∷ l) (take_whole xs)

-- ---- all places

record PlacesPut (widths : List ℕ) (rows : List (Option Row)) (count : ℕ) : Type 0 where
  first : List ℕ
  second : List ℕ
  end : ℕ
  first_words : AreWords first
  second_words : AreWords second
  so_far : PackedSoFar widths rows first second count end

-- what is asked for besides that the widths hold the lists: they are few, and of ordinals
pub record AreFewLists (rows : List (Option Row)) : Type 0 where
  pub places : length rows < 2 ^ 32
  pub elements : length (elements_of_places rows) < 2 ^ 32
  pub ordinals : All (λ row. All (λ element. element < 2 ^ 32) (elements_of_place row)) rows

places_put : (shape : Shape) (widths : List ℕ) (rows : List (Option Row)) (count : ℕ) → CanPack shape widths rows → AreFewLists rows → count ≤ length rows → PlacesPut widths rows count
places_put shape widths rows zero can few within =
    let total = length (elements_of_places rows) in
    let first_count = words_of (length rows * pointer_width widths) in
    let second_count = words_of (total * element_width widths) in
    let narrow = All-get_or (λ (width : ℕ). width ≤ 64) widths 0 0 (omega (arith, can.two)) can.narrow in
    let second_narrow = All-get_or (λ (width : ℕ). width ≤ 64) widths 1 0 (omega (arith, can.two)) can.narrow in
    let bits : length rows * pointer_width widths ≤ 2 ^ 32 * 64 = mul-le-mul (let l : length rows ≤ 2 ^ 32 = omega (arith, few.places) in l) narrow in
    let second_bits : total * element_width widths ≤ 2 ^ 32 * 64 = mul-le-mul (let l : total ≤ 2 ^ 32 = omega (arith, few.elements) in l) second_narrow in
    let long = length-zeros first_count in
    let second_long = length-zeros second_count in
    record {
      first = replicate first_count 0;
      second = replicate second_count 0;
      end = 0;
      first_words = zero_words first_count;
      second_words = zero_words second_count;
      so_far = packed_none widths rows (replicate first_count 0) (replicate second_count 0) (length rows) (pointer_width widths) total (element_width widths) refl refl refl refl long second_long
          (ap (λ (n : ℕ). replicate n 0) (sym long)) (ap (λ (n : ℕ). replicate n 0) (sym second_long)) (omega (arith, long, bits)) (omega (arith, second_long, second_bits)) can.small;
    }
places_put shape widths rows (suc place) can few within =
    let before = places_put shape widths rows place can few (omega arith) in
    let inside : place < length rows = omega arith in
    let row = get_or rows place None in
    let elements = elements_of_place row in
    let room = pack_room widths rows before.first before.second place before.end row elements before.so_far inside refl refl can.two can.narrow can.below in
    let put = list_put widths before.first before.second place before.end elements before.first_words before.second_words (few.ordinals place None inside) room in
    let more =
    packed_more widths rows before.first before.second put.first' put.second' place before.end (before.end + length elements) row elements before.so_far inside refl refl refl put.spelled put.earlier
    put.pointer.bits put.bits put.pointer.there put.long put.second_long in
    record {
      first = put.first';
      second = put.second';
      end = before.end + length elements;
      first_words = put.first_words;
      second_words = put.second_words;
      so_far = let next : place + 1 ≡ suc place = omega arith in subst (λ (n : ℕ). PackedSoFar widths rows put.first' put.second' n (before.end + length elements)) next more;
    }

-- words of lists
pub record PacksLists (widths : List ℕ) (rows : List (Option Row)) : Type 0 where
  pub first : List ℕ
  pub second : List ℕ
  pub first_words : AreWords first
  pub second_words : AreWords second
  pub packed : IsPacked widths rows first second

pub packs_lists : (shape : Shape) (widths : List ℕ) (rows : List (Option Row)) → CanPack shape widths rows → AreFewLists rows → PacksLists widths rows
packs_lists shape widths rows can few =
    let all = places_put shape widths rows (length rows) can few (omega arith) in
    let rest = ap (λ (rs : List (Option Row)). length (elements_of_places rs)) (drop_all (length rows) rows (omega arith)) in
    let counted = all.so_far.counted in
    let end : all.end ≡ length (elements_of_places rows) = omega (arith, counted, rest) in
    record {
      first = all.first;
      second = all.second;
      first_words = all.first_words;
      second_words = all.second_words;
      packed = packed shape widths rows all.first all.second can (subst (λ (n : ℕ). WordsOf widths rows all.first all.second (length rows) n) end all.so_far.words);
    }

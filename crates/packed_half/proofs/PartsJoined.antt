-- Lemmas on the words of a half, cut into those of its places, its items and its bytes.
use Rattle.std.proofs.Common.{◌≡◌, ℕ, ◌^◌, ◌<◌, List, ◌++◌, length, take, drop, sym, ap, ◌∙◌, subst}
use Rattle.std.specs.Prelude.{All}
use Rattle.std.specs.FinMap.{get}
use Rattle.std.proofs.lemmas.List.{take_at, drop_at}
use Rattle.schema_model.specs.declared.schema.Shape.{Shape}
use Rattle.row_model.specs.Table.{RowMap}
use Rattle.type_rows.specs.declared.section.Section.{Section}
use Rattle.type_rows.specs.Layout.{places_of}
use Rattle.type_rows.specs.Loads.{Spells, SectionIs}
use Rattle.packed_half.specs.declared.half.HalfShape.{HalfShape}
use Rattle.packed_half.specs.Half.{place_words, item_words, words_for, areas_in, section_in}
use Rattle.packed_half.specs.LaidOut.{IsTight, IsLaidOut}
use Rattle.packed_half.specs.Laying.{CanLay, ArePlaced, parts_in}
use Rattle.packed_half.proofs.RowPlaces.{all_found}

pub cut : (shape : Shape) (half : HalfShape) (first second bytes : List ℕ) → length first ≡ place_words shape half → length second ≡ item_words shape half
    → section_in shape half (first ++ (second ++ bytes)) ≡ parts_in half first second (areas_in bytes half.lengths)
cut shape half first second bytes long second_long =
    let behind : drop (place_words shape half) (first ++ (second ++ bytes)) ≡ second ++ bytes = drop_at first (second ++ bytes) (place_words shape half) long in
    ap (λ (ws : List ℕ). parts_in half ws (take (item_words shape half) (drop (place_words shape half) (first ++ (second ++ bytes)))) (areas_in (drop (item_words shape half) (drop (place_words shape half) (first ++ (second ++ bytes)))) half.lengths))
    (take_at first (second ++ bytes) (place_words shape half) long)
    ∙ ap (λ (ws : List ℕ). parts_in half first (take (item_words shape half) ws) (areas_in (drop (item_words shape half) ws) half.lengths)) behind
    ∙ ap (λ (ws : List ℕ). parts_in half first ws (areas_in (drop (item_words shape half) (second ++ bytes)) half.lengths)) (take_at second bytes (item_words shape half) second_long)
    ∙ ap (λ (ws : List ℕ). parts_in half first second (areas_in ws half.lengths)) (drop_at second bytes (item_words shape half) second_long)

-- placed rows are the rows of the words
pub laid_out : (shape : Shape) (half : HalfShape) (rows : RowMap) (words first second bytes : List ℕ) → CanLay shape half rows → words ≡ first ++ (second ++ bytes)
    → length first ≡ place_words shape half → length second ≡ item_words shape half → length words ≡ words_for shape half → length words < 2 ^ 58
    → ArePlaced shape half rows first second (areas_in bytes half.lengths) → IsLaidOut shape half words rows
laid_out shape half rows words first second bytes can joined long second_long all_long short placed =
    let section : section_in shape half words ≡ parts_in half first second (areas_in bytes half.lengths) = ap (section_in shape half) joined ∙ cut shape half first second bytes long second_long in
    let is : SectionIs shape (parts_in half first second (areas_in bytes half.lengths)) rows =
    record {
      live = can.live;
      places = subst (All (λ ordinal. ordinal < places_of half.max)) can.live can.held.places;
      spelled = all_found (λ entry. Spells shape (parts_in half first second (areas_in bytes half.lengths)) entry.0 entry.1) rows placed.spelled;
    } in
    record {
      is = subst (λ (s : Section). SectionIs shape s rows) (sym section) is;
      tight = λ place inside. subst (λ (s : Section). IsTight shape s place (get rows place)) (sym section) (placed.tight place inside);
      long = all_long;
      total = can.total;
      lengths = can.lengths;
      wide = can.wide;
      many = can.many;
      short = short;
    }

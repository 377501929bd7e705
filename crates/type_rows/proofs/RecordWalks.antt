-- One record more, laid out field by field.
use Rattle.std.proofs.Common.{◌≡◌, ℕ, zero, suc, ◌+◌, ◌-◌, ◌*◌, ◌^◌, ◌<◌, ◌≤◌, List, [], ◌∷◌, Some, length, take, set, get_or, min, refl, ap, sym, ◌∙◌, subst, arith, zero-add}
use Rattle.std.specs.Prelude.{slice_get, sum, sum_by}
use Rattle.std.proofs.lemmas.List.{length-set, take_all}
use Rattle.std.proofs.lemmas.List.Sums.{sum_by-cons, sum_by_more}
use Rattle.std.proofs.lemmas.Option.{slice_get-get_or, slice_get_within}
use Rattle.bit_array.proofs.Elements.{element_of-lt}
use Rattle.schema_model.specs.declared.schema.Field.{Field}
use Rattle.row_model.specs.Areas.{area_of}
use Rattle.row_model.specs.declared.row.Value.{Value}
use Rattle.object_codec.specs.Cell.{IsWithin}
use Rattle.object_codec.specs.Part.{FieldPart, SpellsValue}
use Rattle.object_codec.specs.ObjectPlace.{HoldsPlace, SpellsFields, SpellsObject, part_at, parts_from}
use Rattle.object_codec.proofs.FieldWidths.{wide_at, widths_long, within}
use Rattle.type_rows.specs.Ends.{end_after}
use Rattle.type_rows.specs.Holds.{FitsWidths}
use Rattle.type_rows.specs.WordsHeld.{value_bytes}
use Rattle.type_rows.proofs.Offsets.{Progress, Turn, all_ends, finished, refused, stepped}
use Rattle.type_rows.specs.FieldEnds.{AddsRecord, EndFits}
use Rattle.type_rows.proofs.OnceFirst.{some_once}
use Rattle.type_rows.proofs.RecordLengths.{end_fits, value_fits}

-- The value of a field, which its part gives.
pub field_at : (fields : List Field) (widths first : List ℕ) (areas : List (List ℕ)) (size place before k : ℕ) (field : Field) (values : List Value) → SpellsFields fields (parts_from first size place before widths areas) values
    → k < length fields → field ≡ get_or fields k field
    → (value : Value) × (slice_get values k ≡ Some value) × SpellsValue field.kind (part_at first size place (before + sum (take k widths)) (get_or widths k 0) (area_of areas k)) value
field_at [] widths first areas size place before k field values spells inside is = absurd (omega (arith, inside))
field_at (f ∷ fields) [] first areas size place before k field values spells inside is = absurd spells
field_at (f ∷ fields) (width ∷ widths) first [] size place before k field values spells inside is = absurd spells
field_at (f ∷ fields) (width ∷ widths) first (area ∷ areas) size place before k field [] spells inside is = absurd spells
field_at (f ∷ fields) (width ∷ widths) first (area ∷ areas) size place before zero field (value ∷ values) spells inside is =
    let none : before ≡ before + 0 = omega arith in
    (value, refl, subst (λ (b : ℕ). SpellsValue field.kind (part_at first size place b width area) value) none (subst (λ (g : Field). SpellsValue g.kind (part_at first size place before width area) value) (sym is) spells.0))
field_at (f ∷ fields) (width ∷ widths) first (area ∷ areas) size place before (suc k) field (value ∷ values) spells inside is =
    let rest = field_at fields widths first areas size place (before + width) k field values spells.1 (omega (arith, inside)) is in
    let e : before + width + sum (take k widths) ≡ before + sum (width ∷ take k widths) = omega (arith, sum_by-cons (λ (w : ℕ). w) width (take k widths)) in
    (rest.0, rest.1, subst (λ (b : ℕ). SpellsValue field.kind (part_at first size place b (get_or widths k 0) (area_of areas k)) rest.0) e rest.2)

pub fields_long : (fields : List Field) (parts : List FieldPart) (values : List Value) → SpellsFields fields parts values → length values ≡ length fields
fields_long [] [] [] h = refl
fields_long (f ∷ fs) (p ∷ ps) (v ∷ vs) h = ap (λ n. suc n) (fields_long fs ps vs h.1)
fields_long _ _ _ h = absurd h

-- The fields below an index of a record of these values are laid out.
pub record Added (fields : List Field) (widths : List ℕ) (values : List Value) (ends now : List ℕ) (index bytes : ℕ) : Type 0 where
  pub progress : Progress fields widths values ends now index
  pub counted : bytes ≡ min (sum_by value_bytes (take index values)) (2 ^ 64 - 1)

-- The same of the record of a place, whatever its values; the element of the next field begins at a bit.
pub record Adding (fields : List Field) (widths first : List ℕ) (areas : List (List ℕ)) (place : ℕ) (ends now : List ℕ) (index at bytes : ℕ) : Type 0 where
  pub at_is : at ≡ place * sum widths + sum (take index widths)
  pub long : length now ≡ length ends
  pub added : (values : List Value) → SpellsObject fields widths first areas place values → Added fields widths values ends now index bytes

module _ (fields : List Field) (widths first : List ℕ) (areas : List (List ℕ)) (place : ℕ) (holds : HoldsPlace fields widths first areas place) (ends : List ℕ) (ends_long : length ends ≡ length fields) where
  pub adding_begun : (size : ℕ) → size ≡ sum widths → Adding fields widths first areas place ends ends 0 (place * size) 0
  adding_begun size is = record {
    at_is = ap (λ s. place * s) is ∙ sym (add_none (place * sum widths));
    long = refl;
    added = λ values spells. record {
      progress = record { fits = λ f below. absurd (omega (arith, below)); done = λ f below. absurd (omega (arith, below)); rest = λ f above. refl; long = refl };
      counted = omega arith;
    };
  }
    where
      add_none : (n : ℕ) → n + 0 ≡ n
      add_none n = omega arith

  -- The element of the next field lies within the words.
  pub next_within : (index : ℕ) → index < length fields → IsWithin first (sum widths) place (sum (take index widths)) (get_or widths index 0)
  next_within index inside = within fields widths first areas place index (sum (take index widths)) holds inside refl

  pub next_inside : (now : List ℕ) (index at bytes : ℕ) → index < length fields → Adding fields widths first areas place ends now index at bytes → at + get_or widths index 0 ≤ 64 * length first
  next_inside now index at bytes inside a = (let w = next_within index inside in omega (arith, w.words_hold, a.at_is))

  pub next_fits : (now : List ℕ) (index at bytes : ℕ) → index < length fields → Adding fields widths first areas place ends now index at bytes → at + get_or widths index 0 < 2 ^ 64
  next_fits now index at bytes inside a = (let w = next_within index inside in omega (arith, w.fits, a.at_is))

  value_here : (values : List Value) (index : ℕ) (field : Field) → SpellsObject fields widths first areas place values → index < length fields → field ≡ get_or fields index field
      → (value : Value) × (slice_get values index ≡ Some value) × SpellsValue field.kind (part_at first (sum widths) place (sum (take index widths)) (get_or widths index 0) (area_of areas index)) value
  value_here values index field spells inside is =
      let there = field_at fields widths first areas (sum widths) place 0 index field values spells inside is in
      (there.0, there.1, subst (λ (b : ℕ). SpellsValue field.kind (part_at first (sum widths) place b (get_or widths index 0) (area_of areas index)) there.0) (zero-add (sum (take index widths))) there.2)

  -- What is told of the length of the next value, wherever its record begins.
  abbrev pub TellsLength : ℕ → Field → ℕ → ℕ → ℕ → List ℕ → Type 0
  TellsLength index field size at count area =
      (p before : ℕ) (value : Value) → at ≡ p * size + before → before + get_or widths index 0 ≤ size → SpellsValue field.kind (part_at first size p before (get_or widths index 0) area) value → count ≡ value_bytes value

  -- The next field, whose values end there.
  pub record Next (now : List ℕ) (index at : ℕ) (field : Field) (area : List ℕ) (size count end : ℕ) : Type 0 where
    pub inside : index < length fields
    pub is : field ≡ get_or fields index field
    pub area_is : area ≡ area_of areas index
    pub whole : size ≡ sum widths
    pub small : get_or now index 0 < 2 ^ 64
    pub count_small : count < 2 ^ 64
    pub told : TellsLength index field size at count area
    pub added : end ≡ min (get_or now index 0 + count) (2 ^ 64 - 1)

  length_here : (now : List ℕ) (index at bytes : ℕ) (field : Field) (area : List ℕ) (size count end : ℕ) (value : Value) → Next now index at field area size count end → Adding fields widths first areas place ends now index at bytes
      → SpellsValue field.kind (part_at first (sum widths) place (sum (take index widths)) (get_or widths index 0) (area_of areas index)) value → count ≡ value_bytes value
  length_here now index at bytes field area size count end value next a spells =
      let w = next_within index next.inside in
      next.told place (sum (take index widths)) value (subst (λ (s : ℕ). at ≡ place * s + sum (take index widths)) (sym next.whole) a.at_is)
      (subst (λ (s : ℕ). sum (take index widths) + get_or widths index 0 ≤ s) (sym next.whole) w.record_holds)
      (subst (λ (s : ℕ). SpellsValue field.kind (part_at first s place (sum (take index widths)) (get_or widths index 0) area) value) (sym next.whole)
      (subst (λ (bytes : List ℕ). SpellsValue field.kind (part_at first (sum widths) place (sum (take index widths)) (get_or widths index 0) bytes) value) (sym next.area_is) spells))

  turn : (now : List ℕ) (index at bytes : ℕ) (field : Field) (area : List ℕ) (size count end : ℕ) (values : List Value) (value : Value) → Next now index at field area size count end → Adding fields widths first areas place ends now index at bytes
      → SpellsObject fields widths first areas place values → slice_get values index ≡ Some value → count ≡ value_bytes value → Turn fields widths values now index field value count end
  turn now index at bytes field area size count end values value next a spells stands is = record {
    inside = next.inside;
    inside_values = slice_get_within values index value stands;
    inside_ends = omega (arith, next.inside, a.long, ends_long);
    field_is = next.is;
    value_is = some_once value (get_or values index value) (sym stands ∙ slice_get-get_or values index value (slice_get_within values index value stands));
    narrow = (next_within index next.inside).narrow;
    small = next.small;
    counted = omega (arith, is, next.count_small);
    added = next.added;
  }

  -- It is laid out.
  pub adding_more : (now : List ℕ) (index at bytes more : ℕ) (field : Field) (area : List ℕ) (size count end : ℕ) → Next now index at field area size count end → Adding fields widths first areas place ends now index at bytes
      → EndFits field.kind (get_or widths index 0) end → more ≡ min (bytes + count) (2 ^ 64 - 1) → Adding fields widths first areas place ends (set now index end) (index + 1) (at + get_or widths index 0) more
  adding_more now index at bytes more field area size count end next a fits up = record {
    at_is = omega (arith, a.at_is, sum_by_more (λ (w : ℕ). w) widths index 0 (omega (arith, next.inside, widths_long fields widths first areas place holds)));
    long = length-set now index end ∙ a.long;
    added = λ values spells. (
        let here = value_here values index field spells next.inside next.is in
        let before = a.added values spells in
        let long = length_here now index at bytes field area size count end here.0 next a here.2 in
        let t = turn now index at bytes field area size count end values here.0 next a spells here.1 long in
        let low = element_of-lt first (place * sum widths + sum (take index widths)) (get_or widths index 0) in
        let fit = value_fits field.kind (part_at first (sum widths) place (sum (take index widths)) (get_or widths index 0) (area_of areas index)) end here.0
        (wide_at fields widths first areas place index field holds next.inside next.is) low here.2 fits in
        let total = sum_by_more value_bytes values index here.0 t.inside_values in
        let same : value_bytes (get_or values index here.0) ≡ value_bytes here.0 = ap value_bytes (sym t.value_is) in
        record {
          progress = stepped fields widths values ends now index field here.0 count end before.progress t fit;
          counted = omega (arith, up, before.counted, total, same, long);
        });
  }

  -- Its element does not hold the end.
  pub adding_fails : (now : List ℕ) (index at bytes : ℕ) (field : Field) (area : List ℕ) (size count end : ℕ) → Next now index at field area size count end → Adding fields widths first areas place ends now index at bytes
      → (EndFits field.kind (get_or widths index 0) end → ⊥) → (values : List Value) → SpellsObject fields widths first areas place values → FitsWidths fields widths (end_after ends values) values → ⊥
  adding_fails now index at bytes field area size count end next a wide values spells =
      let here = value_here values index field spells next.inside next.is in
      let long = length_here now index at bytes field area size count end here.0 next a here.2 in
      refused fields widths values ends now index field here.0 count end (a.added values spells).progress (turn now index at bytes field area size count end values here.0 next a spells here.1 long)
      (λ fits. wide (end_fits field.kind (get_or widths index 0) end here.0 fits))

  -- All fields are laid out.
  pub adding_ends : (now : List ℕ) (index at bytes : ℕ) → length fields ≤ index → Adding fields widths first areas place ends now index at bytes → (values : List Value) → SpellsObject fields widths first areas place values
      → AddsRecord fields widths ends values now bytes
  adding_ends now index at bytes past a values spells =
      let done = a.added values spells in
      let long = fields_long fields (parts_from first (sum widths) place 0 widths areas) values spells in
      record {
        fits = finished fields widths values ends now index done.progress past;
        grown = all_ends fields widths values ends now index done.progress (omega (arith, long, past));
        counted = done.counted ∙ ap (λ some. min (sum_by value_bytes some) (2 ^ 64 - 1)) (take_all index values (omega (arith, long, past)));
      }

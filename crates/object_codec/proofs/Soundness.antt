-- Lemmas on places whose fields all have values.
use Rattle.std.proofs.Common.{◌≡◌, ℕ, zero, suc, ◌+◌, ◌-◌, ◌^◌, ◌<◌, ◌≤◌, List, [], ◌∷◌, ◌++◌, Option, None, Some, length, take, get_or, arith, ap, sym, refl, ◌∙◌, subst, inl, inr}
use Rattle.std.specs.Prelude.{sum, MatchOption}
use Rattle.std.specs.List.{AllZip}
use Rattle.std.proofs.Math.Pow.{pow_mono}
use Rattle.std.proofs.lemmas.Bool.{cases_lt}
use Rattle.std.proofs.lemmas.List.{get_or_default, get_or-take, length-take}
use borrow.Author.Count.{below_more}
use Rattle.std.proofs.lemmas.List.Sums.{sum_by_more}
use Rattle.hol_varint.specs.Zigzag.{unzigzag}
use Rattle.row_model.specs.Areas.{area_of}
use Rattle.schema_model.specs.declared.schema.Field.{Field}
use Rattle.schema_model.specs.declared.schema.FieldKind.{FieldKind}
use Rattle.row_model.specs.declared.row.Value.{Value}
use Rattle.schema_model.specs.declared.reason.Reason.{Reason}
use Rattle.row_model.specs.declared.packed.PlaceFault.{PlaceFault}
use Rattle.object_codec.specs.Part.{FieldPart, SpellsInt, SpellsLong, SpellsReference, SpellsValue, FailsValue}
use Rattle.object_codec.specs.ObjectPlace.{part_at, parts_from, SpellsFields, FailsObject, HoldsPlace}
use Rattle.object_codec.proofs.Fields.{Progress, stepped, failed}
use Rattle.object_codec.proofs.FieldWidths.{widths_long}
use Rattle.object_codec.proofs.FieldParts.{zip_all}
use Rattle.object_codec.specs.Sound.{SpellSome, IsFirstFault, IsFirstBad, HaveValues, TellsColumn, parts_in}

-- ---- elements that always have a value

int_free : (width element : ℕ) → width ≤ 32 → element < 2 ^ width → (value : Value) × SpellsInt width element value
int_free width element narrow below =
    let most : 2 ^ width ≤ 2 ^ 32 = pow_mono narrow in
    elim (cases_lt element (2 ^ width - 1)) [
      | inl lt ↦ (Value.Int (unzigzag element), (λ is. absurd (omega (arith, is, lt)), omega arith, refl))
      | inr ge ↦ (Value.Null, omega arith)
    ]

reference_free : (width element : ℕ) → width ≤ 32 → element < 2 ^ width → (value : Value) × SpellsReference width element value
reference_free width element narrow below =
    let most : 2 ^ width ≤ 2 ^ 32 = pow_mono narrow in
    elim (cases_lt element (2 ^ width - 1)) [
      | inl lt ↦ (Value.Ref element, (λ is. absurd (omega (arith, is, lt)), omega arith, refl))
      | inr ge ↦ (Value.Null, omega arith)
    ]

long_free : (width element : ℕ) → element < 2 ^ width → (value : Value) × SpellsLong width element value
long_free width element below =
    elim (cases_lt element (2 ^ width - 1)) [
      | inl lt ↦ (Value.Long (unzigzag element), (λ is. absurd (omega (arith, is, lt)), refl))
      | inr ge ↦ (Value.Null, omega arith)
    ]

module _ (kind : FieldKind) (width : ℕ) where
  pub free_reference : (name : List ℕ) → kind ≡ FieldKind.Reference name → width ≤ 32 → (part : FieldPart) → part.width ≡ width → part.element < 2 ^ part.width → (value : Value) × SpellsValue kind part value
  free_reference name is narrow part of below =
      subst (λ k. (value : Value) × SpellsValue k part value) (sym is) (reference_free part.width part.element (omega arith) below)

  pub free_int : kind ≡ FieldKind.Int → width ≤ 32 → (part : FieldPart) → part.width ≡ width → part.element < 2 ^ part.width → (value : Value) × SpellsValue kind part value
  free_int is narrow part of below = subst (λ k. (value : Value) × SpellsValue k part value) (sym is) (int_free part.width part.element (omega arith) below)

  pub free_long : kind ≡ FieldKind.Long → (part : FieldPart) → part.width ≡ width → part.element < 2 ^ part.width → (value : Value) × SpellsValue kind part value
  free_long is part of below = subst (λ k. (value : Value) × SpellsValue k part value) (sym is) (long_free part.width part.element below)

-- ---- all fields

-- a value for each field is a record
spells_list : (fields : List Field) (parts : List FieldPart) → AllZip (λ field part. (value : Value) × SpellsValue field.kind part value) fields parts → (values : List Value) × SpellsFields fields parts values
spells_list [] [] each = ([], tt)
spells_list [] (part ∷ parts) each = absurd each
spells_list (field ∷ fields) [] each = absurd each
spells_list (field ∷ fields) (part ∷ parts) each =
    let rest = spells_list fields parts each.1 in
    (each.0.0 ∷ rest.0, (each.0.1, rest.1))

-- the fields below an index have values at each of the first so many of the places
pub record SoundSoFar (fields : List Field) (widths first : List ℕ) (areas : List (List ℕ)) (places : List ℕ) (count index before : ℕ) : Type 0 where
  pub summed : before ≡ sum (take index widths)
  pub sound : (j k : ℕ) (field : Field) → j < index → k < count → field ≡ get_or fields j field
      → (value : Value) × SpellsValue field.kind (part_at first (sum widths) (get_or places k 0) (sum (take j widths)) (get_or widths j 0) (area_of areas j)) value

pub sound_none : (fields : List Field) (widths first : List ℕ) (areas : List (List ℕ)) (places : List ℕ) (count : ℕ) → SoundSoFar fields widths first areas places count 0 0
sound_none fields widths first areas places count = record { summed = refl; sound = λ j k field below inside is. absurd (omega arith) }

-- one field more has values at the first places, as many as before or fewer
pub sound_more : (fields : List Field) (widths first : List ℕ) (areas : List (List ℕ)) (places : List ℕ) (count fewer size index before : ℕ) (field : Field) (area : List ℕ) → index < length fields → index < length widths
    → field ≡ get_or fields index field → area ≡ area_of areas index → size ≡ sum widths → fewer ≤ count → SoundSoFar fields widths first areas places count index before
    → ((k : ℕ) → k < fewer → (value : Value) × SpellsValue field.kind (part_at first size (get_or places k 0) before (get_or widths index 0) area) value)
    → SoundSoFar fields widths first areas places fewer (index + 1) (before + get_or widths index 0)
sound_more fields widths first areas places count fewer size index before field area inside there is area_is whole less so_far told =
    let P : ℕ → Type 0 = λ j. (k : ℕ) (f : Field) → k < fewer → f ≡ get_or fields j f
    → (value : Value) × SpellsValue f.kind (part_at first (sum widths) (get_or places k 0) (sum (take j widths)) (get_or widths j 0) (area_of areas j)) value in
    let here : P index = λ k f within same.
    (let one : field ≡ f = is ∙ get_or_default fields index field f inside ∙ sym same in
    subst (λ g. (value : Value) × SpellsValue g.kind (part_at first (sum widths) (get_or places k 0) (sum (take index widths)) (get_or widths index 0) (area_of areas index)) value) one
    (subst (λ a. (value : Value) × SpellsValue field.kind (part_at first (sum widths) (get_or places k 0) (sum (take index widths)) (get_or widths index 0) a) value) area_is
    (subst (λ b. (value : Value) × SpellsValue field.kind (part_at first (sum widths) (get_or places k 0) b (get_or widths index 0) area) value) so_far.summed
    (subst (λ s. (value : Value) × SpellsValue field.kind (part_at first s (get_or places k 0) before (get_or widths index 0) area) value) whole (told k within))))) in
    record {
      summed = ap (λ n. n + get_or widths index 0) so_far.summed ∙ sym (sum_by_more (λ width. width) widths index 0 there);
      sound = λ j k f below within same. below_more P index (λ i lt m g w e. so_far.sound i m g lt (omega (arith, w, less)) e) here j below k f within same;
    }

pub sound_all : (fields : List Field) (widths first : List ℕ) (areas : List (List ℕ)) (places : List ℕ) (count index before : ℕ) → ((k : ℕ) → k < count → HoldsPlace fields widths first areas (get_or places k 0))
    → length fields ≤ index → SoundSoFar fields widths first areas places count index before → SpellSome fields widths first areas places count
sound_all fields widths first areas places count index before holds past so_far k inside =
    let h = holds k inside in
    spells_list fields (parts_from first (sum widths) (get_or places k 0) 0 widths areas)
    (zip_all (λ field part. (value : Value) × SpellsValue field.kind part value) fields widths first areas (sum widths) (get_or places k 0) 0
    (widths_long fields widths first areas (get_or places k 0) h) h.filled
    (λ j field within is.
    let e : sum (take j widths) ≡ 0 + sum (take j widths) = omega arith in
    subst (λ (b : ℕ). (value : Value) × SpellsValue field.kind (part_at first (sum widths) (get_or places k 0) b (get_or widths j 0) (area_of areas j)) value) e
    (so_far.sound j k field (omega arith) inside is)))

-- ---- the first fault

-- the fields below an index have values at a place, and the rest decides
reached : (fields : List Field) (widths first : List ℕ) (areas : List (List ℕ)) (place index : ℕ) (some : Field) → HoldsPlace fields widths first areas place → index ≤ length fields
    → ((j : ℕ) (field : Field) → j < index → field ≡ get_or fields j field
    → (value : Value) × SpellsValue field.kind (part_at first (sum widths) place (sum (take j widths)) (get_or widths j 0) (area_of areas j)) value)
    → (values : List Value) × Progress fields widths first areas place index (sum (take index widths)) values
reached fields widths first areas place zero some holds inside each = ([], record { summed = refl; spells = λ rest h. h; fails = λ reason h. h })
reached fields widths first areas place (suc less) some holds inside each =
    let so_far = reached fields widths first areas place less some holds (omega arith) (λ j field below is. each j field (omega arith) is) in
    let field = get_or fields less some in
    let is : field ≡ get_or fields less field = get_or_default fields less some field (omega arith) in
    let there = each less field (omega arith) is in
    let more = stepped fields widths first areas (sum widths) place less (sum (take less widths)) so_far.0 field there.0 holds (omega arith) is refl so_far.1 there.1 in
    let next : less + 1 ≡ suc less = omega arith in (
      so_far.0 ++ there.0 ∷ [],
      subst (λ i. Progress fields widths first areas place i (sum (take i widths)) (so_far.0 ++ there.0 ∷ [])) next
          (subst (λ b. Progress fields widths first areas place (less + 1) b (so_far.0 ++ there.0 ∷ [])) more.summed more),
    )

pub was_some : {A : Type 0} (P : Type 0) (Q : A → Type 0) (found : Option A) (item : A) → found ≡ Some item → MatchOption found P Q → Q item
was_some P Q found item is told = subst (λ o. MatchOption o P Q) is told

pub was_none : {A : Type 0} (P : Type 0) (Q : A → Type 0) (found : Option A) → found ≡ None → MatchOption found P Q → P
was_none P Q found is told = subst (λ o. MatchOption o P Q) is told

-- no fault is found, or one at the place at an index, where all places are left that come before
abbrev pub Failing : List Field → List ℕ → List ℕ → List (List ℕ) → List ℕ → ℕ → ℕ × Reason → Type 0
Failing fields widths first areas places left found = (left < length places) × (get_or places left 0 ≡ found.0) × FailsObject fields widths first areas found.0 found.1

pub record FoundSoFar (fields : List Field) (widths first : List ℕ) (areas : List (List ℕ)) (places : List ℕ) (left index before : ℕ) (found : Option (ℕ × Reason)) : Type 0 where
  pub within : left ≤ length places
  pub sound : SoundSoFar fields widths first areas places left index before
  pub told : MatchOption found (left ≡ length places) (Failing fields widths first areas places left)

module _ (fields : List Field) (widths first : List ℕ) (areas : List (List ℕ)) (places : List ℕ) (holds : (k : ℕ) → k < length places → HoldsPlace fields widths first areas (get_or places k 0)) where
  pub found_none : FoundSoFar fields widths first areas places (length places) 0 0 None
  found_none = record { within = omega arith; sound = sound_none fields widths first areas places (length places); told = refl }

  -- the next field has values at all places that are left
  pub found_same : (left size index before : ℕ) (found : Option (ℕ × Reason)) (field : Field) (area : List ℕ) → index < length fields → index < length widths
      → field ≡ get_or fields index field → area ≡ area_of areas index → size ≡ sum widths → FoundSoFar fields widths first areas places left index before found
      → HaveValues field.kind (parts_in first size before (get_or widths index 0) area) (take left places) (length (take left places))
      → FoundSoFar fields widths first areas places left (index + 1) (before + get_or widths index 0) found
  found_same left size index before found field area inside there is area_is whole so_far told =
      let within = so_far.within in
      record {
        within = within;
        sound = sound_more fields widths first areas places left left size index before field area inside there is area_is whole (omega arith) so_far.sound
            (λ k below. subst (λ p. (value : Value) × SpellsValue field.kind (part_at first size p before (get_or widths index 0) area) value) (get_or-take left places k 0 below)
            (told k (omega (arith, length-take left places))));
        told = so_far.told;
      }

  -- it has none at one of them
  pub found_one : (left size index before : ℕ) (found : Option (ℕ × Reason)) (field : Field) (area : List ℕ) (at : ℕ) (reason : Reason) → index < length fields → index < length widths
      → field ≡ get_or fields index field → area ≡ area_of areas index → size ≡ sum widths → FoundSoFar fields widths first areas places left index before found
      → IsFirstBad field.kind (parts_in first size before (get_or widths index 0) area) (take left places) (at, reason)
      → FoundSoFar fields widths first areas places at (index + 1) (before + get_or widths index 0) (Some (get_or places at 0, reason))
  found_one left size index before found field area at reason inside there is area_is whole so_far bad =
      let within = so_far.within in
      let less : at < left = omega (arith, bad.inside, length-take left places) in
      let place = get_or places at 0 in
      let h = holds at (omega arith) in
      let done = reached fields widths first areas place index field h (omega arith) (λ j f below same. so_far.sound.sound j at f below less same) in
      let here : FailsValue field.kind (part_at first size place before (get_or widths index 0) area) reason =
      subst (λ p. FailsValue field.kind (part_at first size p before (get_or widths index 0) area) reason) (get_or-take left places at 0 less) bad.fails in
      let at_sum : FailsValue field.kind (part_at first size place (sum (take index widths)) (get_or widths index 0) (area_of areas index)) reason =
      subst (λ a. FailsValue field.kind (part_at first size place (sum (take index widths)) (get_or widths index 0) a) reason) area_is
      (subst (λ b. FailsValue field.kind (part_at first size place b (get_or widths index 0) area) reason) so_far.sound.summed here) in
      record {
        within = omega arith;
        sound = sound_more fields widths first areas places left at size index before field area inside there is area_is whole (omega arith) so_far.sound
            (λ k below. subst (λ p. (value : Value) × SpellsValue field.kind (part_at first size p before (get_or widths index 0) area) value) (get_or-take left places k 0 (omega arith))
            (bad.earlier k below));
        told = (
          omega arith,
          refl,
          failed fields widths first areas size place index (sum (take index widths)) done.0 field (PlaceFault.Bad reason) h inside is whole done.1 at_sum,
        );
      }

  -- the same by what is told of the field
  pub found_on : (left after size index before : ℕ) (found more : Option (ℕ × Reason)) (field : Field) (area : List ℕ) (given : Option (ℕ × Reason)) → index < length fields → index < length widths
      → field ≡ get_or fields index field → area ≡ area_of areas index → size ≡ sum widths → FoundSoFar fields widths first areas places left index before found
      → given ≡ None → TellsColumn field.kind (parts_in first size before (get_or widths index 0) area) (take left places) given → after ≡ left → more ≡ found
      → FoundSoFar fields widths first areas places after (index + 1) (before + get_or widths index 0) more
  found_on left after size index before found more field area given inside there is area_is whole so_far none told same_left same_found =
      let part = parts_in first size before (get_or widths index 0) area in
      let all = was_none (HaveValues field.kind part (take left places) (length (take left places))) (IsFirstBad field.kind part (take left places)) given none told in
      subst (λ l. FoundSoFar fields widths first areas places l (index + 1) (before + get_or widths index 0) more) (sym same_left)
      (subst (λ f. FoundSoFar fields widths first areas places left (index + 1) (before + get_or widths index 0) f) (sym same_found)
      (found_same left size index before found field area inside there is area_is whole so_far all))

  pub found_at : (left after size index before : ℕ) (found more : Option (ℕ × Reason)) (field : Field) (area : List ℕ) (given : Option (ℕ × Reason)) (at : ℕ) (reason : Reason) → index < length fields → index < length widths
      → field ≡ get_or fields index field → area ≡ area_of areas index → size ≡ sum widths → FoundSoFar fields widths first areas places left index before found
      → given ≡ Some (at, reason) → TellsColumn field.kind (parts_in first size before (get_or widths index 0) area) (take left places) given → after ≡ at → more ≡ Some (get_or places at 0, reason)
      → FoundSoFar fields widths first areas places after (index + 1) (before + get_or widths index 0) more
  found_at left after size index before found more field area given at reason inside there is area_is whole so_far some told same_left same_found =
      let part = parts_in first size before (get_or widths index 0) area in
      let bad = was_some (HaveValues field.kind part (take left places) (length (take left places))) (IsFirstBad field.kind part (take left places)) given (at, reason) some told in
      subst (λ l. FoundSoFar fields widths first areas places l (index + 1) (before + get_or widths index 0) more) (sym same_left)
      (subst (λ f. FoundSoFar fields widths first areas places at (index + 1) (before + get_or widths index 0) f) (sym same_found)
      (found_one left size index before found field area at reason inside there is area_is whole so_far bad))

  pub found_end : (left index before : ℕ) (found : Option (ℕ × Reason)) → length fields ≤ index → FoundSoFar fields widths first areas places left index before found
      → MatchOption found (SpellSome fields widths first areas places (length places)) (IsFirstFault fields widths first areas places)
  found_end left index before None past so_far =
      subst (λ n. SpellSome fields widths first areas places n) so_far.told
      (sound_all fields widths first areas places left index before (λ k below. holds k (omega (arith, below, so_far.within))) past so_far.sound)
  found_end left index before (Some found) past so_far = record {
    index = left;
    inside = so_far.told.0;
    is = so_far.told.1;
    earlier = sound_all fields widths first areas places left index before (λ k below. holds k (omega (arith, below, so_far.within))) past so_far.sound;
    fails = so_far.told.2;
  }

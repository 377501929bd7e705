-- Lemmas on values where they stand: what is shown is the value that the place spells.
use Rattle.std.proofs.Common.{◌≡◌, ℕ, ◌-◌, List, [], ◌∷◌, take, drop, refl, sym, ◌∙◌, subst, inl}
use Rattle.hol_varint.specs.TextUnits.{AreUnitsIn}
use Rattle.schema_model.specs.declared.schema.FieldKind.{FieldKind}
use Rattle.schema_model.specs.declared.schema.Field.{Field}
use Rattle.schema_model.specs.declared.reason.Reason.{Reason}
use Rattle.row_model.specs.declared.row.Value.{Value}
use Rattle.object_codec.specs.Part.{FieldPart, SpellsInt, SpellsLong, SpellsReference, SpellsBoolean, SpellsText, SpellsBytes, SpellsValue, FailsValue}
use Rattle.object_codec.proofs.Values.{spelled_once, spelled_or_failed}
use Rattle.object_codec.specs.declared.part.Part.{Part}
use Rattle.object_codec.specs.declared.value_ref.ValueRef.{ValueRef}
use Rattle.object_codec.specs.Parts.{fixed_value, GivesRun, GivesPart}
use Rattle.object_codec.specs.Columns.{Shows, ShowsPart, ShowsRun}
use Rattle.object_codec.proofs.Faults.{span_is}

field_of : FieldKind → Field
field_of kind = record { name = []; kind = kind }

-- a part gives one value
module _ (kind : FieldKind) (part : FieldPart) where
  value_once : (a b : Value) → SpellsValue kind part a → SpellsValue kind part b → a ≡ b
  unfolding field_of
  value_once a b h k = let e : a ∷ [] ≡ b ∷ [] = spelled_once (field_of kind ∷ []) (part ∷ []) (a ∷ []) (b ∷ []) (h, tt) (k, tt) in cc

  -- and not both a value and a reason
  pub value_or_reason : (value : Value) (reason : Reason) → SpellsValue kind part value → FailsValue kind part reason → ⊥
  unfolding field_of
  value_or_reason value reason h bad = spelled_or_failed (field_of kind ∷ []) (part ∷ []) (value ∷ []) reason (h, tt) (inl bad)

-- a part without bytes is shown as its value
fixed_shown : (kind : FieldKind) (area : List ℕ) (given : Part) (shown : ValueRef) → ((start end : ℕ) → given ≡ Part.Run start end → ⊥) → ShowsPart kind area given shown → Shows shown (fixed_value given)
fixed_shown kind area Part.Null shown not h = subst (λ r. Shows r Value.Null) (sym h) tt
fixed_shown kind area (Part.Int number) shown not h = subst (λ r. Shows r (Value.Int number)) (sym h) refl
fixed_shown kind area (Part.Long number) shown not h = subst (λ r. Shows r (Value.Long number)) (sym h) refl
fixed_shown kind area (Part.Bool flag) shown not h = subst (λ r. Shows r (Value.Bool flag)) (sym h) refl
fixed_shown kind area (Part.Ref ordinal) shown not h = subst (λ r. Shows r (Value.Ref ordinal)) (sym h) refl
fixed_shown kind area (Part.Run start end) shown not h = absurd (not start end refl)

text_run_shown : (run : List ℕ) (units : List ℕ) (shown : ValueRef) → ShowsRun FieldKind.Text run shown → AreUnitsIn run units → Shows shown (Value.Text units)
text_run_shown run units (ValueRef.Text bytes) h are = subst (λ b. AreUnitsIn b units) (sym h) are
text_run_shown run units _ h are = absurd h

bytes_run_shown : (run : List ℕ) (shown : ValueRef) → ShowsRun FieldKind.Bytes run shown → Shows shown (Value.Bytes run)
bytes_run_shown run (ValueRef.Bytes bytes) h = h
bytes_run_shown run _ h = absurd h

text_shown : (part : FieldPart) (given : Part) (shown : ValueRef) (value : Value) → GivesRun part given → ShowsPart FieldKind.Text part.area given shown → SpellsText part value → Shows shown value
text_shown part Part.Null shown Value.Null told h spelled = subst (λ r. Shows r Value.Null) (sym h) tt
text_shown part Part.Null shown (Value.Text units) told h spelled = absurd (spelled.1 told.1)
text_shown part (Part.Run start end) shown Value.Null told h spelled = absurd (told.1 spelled.1)
text_shown part (Part.Run start end) shown (Value.Text units) told h spelled =
    text_run_shown (take (end - start) (drop start part.area)) units shown h
    (subst (λ b. AreUnitsIn b units) (sym (span_is part start end told.2 told.3)) spelled.2)
text_shown part Part.Null shown _ told h spelled = absurd spelled
text_shown part (Part.Run start end) shown _ told h spelled = absurd spelled
text_shown part _ shown value told h spelled = absurd told

bytes_shown : (part : FieldPart) (given : Part) (shown : ValueRef) (value : Value) → GivesRun part given → ShowsPart FieldKind.Bytes part.area given shown → SpellsBytes part value → Shows shown value
bytes_shown part Part.Null shown Value.Null told h spelled = subst (λ r. Shows r Value.Null) (sym h) tt
bytes_shown part Part.Null shown (Value.Bytes bytes) told h spelled = absurd (spelled.1 told.1)
bytes_shown part (Part.Run start end) shown Value.Null told h spelled = absurd (told.1 spelled.1)
bytes_shown part (Part.Run start end) shown (Value.Bytes bytes) told h spelled =
    subst (λ b. Shows shown (Value.Bytes b)) (span_is part start end told.2 told.3 ∙ sym spelled.2) (bytes_run_shown (take (end - start) (drop start part.area)) shown h)
bytes_shown part Part.Null shown _ told h spelled = absurd spelled
bytes_shown part (Part.Run start end) shown _ told h spelled = absurd spelled
bytes_shown part _ shown value told h spelled = absurd told

-- what is shown of a part is the value that it spells
pub part_shown : (kind : FieldKind) (part : FieldPart) (given : Part) (shown : ValueRef) (value : Value) → GivesPart kind part given → ShowsPart kind part.area given shown → SpellsValue kind part value → Shows shown value
part_shown (FieldKind.Reference name) part given shown value told h spelled =
    subst (Shows shown) (value_once (FieldKind.Reference name) part (fixed_value given) value told spelled)
    (fixed_shown (FieldKind.Reference name) part.area given shown (λ start end is. subst (λ g. SpellsReference part.width part.element (fixed_value g)) is told) h)
part_shown FieldKind.Int part given shown value told h spelled =
    subst (Shows shown) (value_once FieldKind.Int part (fixed_value given) value told spelled)
    (fixed_shown FieldKind.Int part.area given shown (λ start end is. subst (λ g. SpellsInt part.width part.element (fixed_value g)) is told) h)
part_shown FieldKind.Long part given shown value told h spelled =
    subst (Shows shown) (value_once FieldKind.Long part (fixed_value given) value told spelled)
    (fixed_shown FieldKind.Long part.area given shown (λ start end is. subst (λ g. SpellsLong part.width part.element (fixed_value g)) is told) h)
part_shown FieldKind.Boolean part given shown value told h spelled =
    subst (Shows shown) (value_once FieldKind.Boolean part (fixed_value given) value told spelled)
    (fixed_shown FieldKind.Boolean part.area given shown (λ start end is. subst (λ g. SpellsBoolean part.element (fixed_value g)) is told) h)
part_shown FieldKind.Text part given shown value told h spelled = text_shown part given shown value told h spelled
part_shown FieldKind.Bytes part given shown value told h spelled = bytes_shown part given shown value told h spelled

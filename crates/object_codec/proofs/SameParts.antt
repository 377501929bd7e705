-- Lemmas on the element of one field: the value that it gives, and where its bytes start, determine it.
use Rattle.std.proofs.Common.{◌≡◌, ℕ, zero, suc, ◌+◌, ◌-◌, ◌*◌, ◌/◌, ◌%◌, ◌^◌, ◌<◌, ◌≤◌, List, length, drop, arith, sym, ap, ⊎_elim, ◌∙◌}
use Rattle.std.proofs.Math.Nat.{mod-eq_of_lt, pow-suc}
use Rattle.std.proofs.lemmas.Bool.{cases_lt}
use Rattle.std.proofs.lemmas.List.{length-take, length-drop}
use Rattle.std.proofs.lemmas.Nat.{pow_pos, shr_split, le-div, div_below}
use Rattle.hol_varint.specs.Zigzag.{zigzag, unzigzag}
use Rattle.schema_model.specs.declared.schema.FieldKind.{FieldKind}
use Rattle.row_model.specs.declared.row.Value.{Value}
use Rattle.object_codec.specs.Part.{FieldPart, HasNullBit, IsSpan, span_of, end_of, SpellsValue}
use Rattle.object_codec.specs.Packing.{IsGap}

-- what a field has at a place
abbrev pub part_of : ℕ → ℕ → ℕ → List ℕ → FieldPart
part_of width element start area = record { width = width; element = element; start = start; area = area }

-- a zigzag number is that of one number
abbrev pub ZigzagsBack : Type 0
ZigzagsBack = (number : ℕ) → zigzag (unzigzag number) ≡ number

same_zigzag : ZigzagsBack → (a b : ℕ) → unzigzag a ≡ unzigzag b → a ≡ b
same_zigzag back a b same = sym (back a) ∙ ap zigzag same ∙ back b

-- the null of a STRING or BYTES
null_is : (width element start : ℕ) → element < 2 ^ width → 2 ^ (width - 1) ≤ element → element % 2 ^ (width - 1) ≡ start → element ≡ 2 ^ (width - 1) + start
null_is zero element start below top ends = absurd (omega (arith, below, top))
null_is (suc width) element start below top ends =
    let down : suc width - 1 ≡ width = omega arith in
    let power : 2 ^ (suc width - 1) ≡ 2 ^ width = ap (λ k. 2 ^ k) down in
    let double : 2 ^ suc width ≡ 2 ^ width * 2 = pow-suc 2 width in
    let rest : element % 2 ^ width ≡ start = ap (λ k. element % 2 ^ k) (sym down) ∙ ends in
    let some : 0 < 2 ^ width = pow_pos width in
    let least : 1 ≤ element / 2 ^ width = le-div 1 element (2 ^ width) some (omega (arith, top, power)) in
    let most : element / 2 ^ width < 2 = div_below element (2 ^ width) 2 some (omega (arith, below, double)) in
    let one : element / 2 ^ width ≡ 1 = omega (arith, least, most) in
    let split : 1 * 2 ^ width + element % 2 ^ width ≡ element = ap (λ q. q * 2 ^ width + element % 2 ^ width) (sym one) ∙ shr_split element width in
    omega (arith, split, rest, power)

-- where the bytes of one end that is not null
end_is : (width element start : ℕ) (area : List ℕ) → (HasNullBit (part_of width element start area) → ⊥) → element % 2 ^ (width - 1) ≡ element
end_is width element start area some =
    let below : element < 2 ^ (width - 1) = ⊎_elim (λ (l : element < 2 ^ (width - 1)). l) (λ (m : 2 ^ (width - 1) ≤ element). absurd (some m)) (cases_lt element (2 ^ (width - 1))) in
    mod-eq_of_lt below

span_long : (part : FieldPart) → IsSpan part → length (span_of part) ≡ end_of part - part.start
span_long part span =
    let taken = length-take (end_of part - part.start) (drop part.start part.area) in
    let left = length-drop part.start part.area in
    omega (arith, taken, left, span.inside, span.rises)

same_end : (width a b start : ℕ) (area : List ℕ) → IsSpan (part_of width a start area) → (HasNullBit (part_of width a start area) → ⊥) → IsSpan (part_of width b start area)
    → (HasNullBit (part_of width b start area) → ⊥) → span_of (part_of width a start area) ≡ span_of (part_of width b start area) → a ≡ b
same_end width a b start area span some span' some' same =
    let long = span_long (part_of width a start area) span in
    let long' = span_long (part_of width b start area) span' in
    let lengths = ap length same in
    let rises = span.rises in
    let rises' = span'.rises in
    omega (arith, long, long', lengths, rises, rises', end_is width a start area some, end_is width b start area some')

same_null : (width a b start : ℕ) (area : List ℕ) → a < 2 ^ width → b < 2 ^ width → IsSpan (part_of width a start area) × HasNullBit (part_of width a start area)
    → IsSpan (part_of width b start area) × HasNullBit (part_of width b start area) → a ≡ b
same_null width a b start area below below' one two =
    null_is width a start below one.1 (one.0.empty one.1) ∙ sym (null_is width b start below' two.1 (two.0.empty two.1))

-- two elements that give one value
pub same_element : (kind : FieldKind) (width a b start : ℕ) (area : List ℕ) (value : Value) → ZigzagsBack → a < 2 ^ width → b < 2 ^ width → SpellsValue kind (part_of width a start area) value
    → SpellsValue kind (part_of width b start area) value → a ≡ b
same_element (FieldKind.Reference name) width a b start area Value.Null back below below' one two = one ∙ sym two
same_element (FieldKind.Reference name) width a b start area (Value.Ref ordinal) back below below' one two = sym one.2 ∙ two.2
same_element FieldKind.Int width a b start area Value.Null back below below' one two = one ∙ sym two
same_element FieldKind.Int width a b start area (Value.Int number) back below below' one two = same_zigzag back a b (sym one.2 ∙ two.2)
same_element FieldKind.Long width a b start area Value.Null back below below' one two = one ∙ sym two
same_element FieldKind.Long width a b start area (Value.Long number) back below below' one two = same_zigzag back a b (sym one.1 ∙ two.1)
same_element FieldKind.Boolean width a b start area Value.Null back below below' one two = one ∙ sym two
same_element FieldKind.Boolean width a b start area (Value.Bool flag) back below below' one two = one ∙ sym two
same_element FieldKind.Text width a b start area Value.Null back below below' one two = same_null width a b start area below below' one two
same_element FieldKind.Text width a b start area (Value.Text units) back below below' one two =
    same_end width a b start area one.0 one.1 two.0 two.1 (one.2.1 ∙ sym two.2.1)
same_element FieldKind.Bytes width a b start area Value.Null back below below' one two = same_null width a b start area below below' one two
same_element FieldKind.Bytes width a b start area (Value.Bytes bytes) back below below' one two = same_end width a b start area one.0 one.1 two.0 two.1 (sym one.2 ∙ two.2)
same_element (FieldKind.Reference name) width a b start area _ back below below' one two = absurd one
same_element FieldKind.Int width a b start area _ back below below' one two = absurd one
same_element FieldKind.Long width a b start area _ back below below' one two = absurd one
same_element FieldKind.Boolean width a b start area _ back below below' one two = absurd one
same_element FieldKind.Text width a b start area _ back below below' one two = absurd one
same_element FieldKind.Bytes width a b start area _ back below below' one two = absurd one

-- or none, where a place has no row
pub same_gap : (kind : FieldKind) (width a b start : ℕ) (area : List ℕ) → IsGap kind (part_of width a start area) → IsGap kind (part_of width b start area) → a ≡ b
same_gap (FieldKind.Reference name) width a b start area one two = one ∙ sym two
same_gap FieldKind.Int width a b start area one two = one ∙ sym two
same_gap FieldKind.Long width a b start area one two = one ∙ sym two
same_gap FieldKind.Boolean width a b start area one two = one ∙ sym two
same_gap FieldKind.Text width a b start area one two = one ∙ sym two
same_gap FieldKind.Bytes width a b start area one two = one ∙ sym two

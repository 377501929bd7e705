-- Lemmas on the part of one field that is copied.
use Rattle.std.proofs.Common.{◌≡◌, ℕ, ◌+◌, ◌-◌, ◌^◌, ◌<◌, ◌≤◌, ◌⊎◌, List, [], ◌++◌, length, take, drop, refl, sym, ap, ◌∙◌, subst, arith, rules, append-nil, true, false, Some, None, inl, inr, Result, Ok, Err, IfOk, eq-eqb, ne_eqb}
use Rattle.std.specs.Prelude.{ℤ, pos, negsuc, IfSome, unwrap_or, if◌then◌else◌}
use Rattle.std.proofs.Math.Pow.{pow_mono}
use Rattle.std.proofs.lemmas.List.{length-take, length-drop}
use Rattle.hol_varint.specs.TextUnits.{AreUnits}
use Rattle.hol_varint.specs.Zigzag.{zigzag, unzigzag}
use Rattle.row_model.specs.Row.{FitsKind, is_least, stored_value}
use Rattle.schema_model.specs.declared.schema.FieldKind.{FieldKind}
use Rattle.row_model.specs.declared.row.Value.{Value}
use Rattle.object_codec.specs.Encoded.{element_for, IsTaken}
use Rattle.object_codec.specs.ObjectPlace.{IsKindWidth}
use Rattle.object_codec.specs.Packing.{HasBytes, HoldsValue}
use Rattle.object_codec.specs.Part.{FieldPart, IsOnes, IsSpan, span_of, end_of, SpellsInt, SpellsLong, SpellsReference, SpellsBoolean, SpellsText, SpellsBytes, SpellsValue}
use Rattle.object_codec.specs.Stored.{element_number, stored_number, greatest_number, value_bytes}
use Rattle.object_codec.proofs.ValueElements.{found_taken}
use Rattle.record_copies.specs.Parts.{HasRoomFor, IsRunTaken, widened}

-- ---- the number that the element of a value without bytes holds

zigzag_forth : (number : ℕ) → zigzag (unzigzag number) ≡ number
zigzag_forth number = search rules

-- a number below the greatest zigzag number is not that of the least one
above_least : (bits n : ℕ) (number : ℤ) → 2 ^ bits ≡ 2 ^ (bits - 1) + 2 ^ (bits - 1) → zigzag number ≡ n → n + 2 ≤ 2 ^ bits → is_least bits number ≡ false
above_least bits n (pos k) twice is small = refl
above_least bits n (negsuc k) twice is small = ne_eqb k (2 ^ (bits - 1) - 1) (λ e. omega arith)

-- it is all ones where there is none, and else it is the number of the value
abbrev Numbered : ℕ → ℕ → Value → Type 0
Numbered width element value =
    ((stored_number value ≡ None) × IsOnes width element)
    ⊎ ((stored_number value ≡ Some element) × (IsOnes width element → ⊥) × (element ≤ greatest_number value))

int_numbered : (width element : ℕ) (value : Value) → SpellsInt width element value → Numbered width element value
int_numbered width element Value.Null h = inl (refl, h)
int_numbered width element (Value.Int number) h =
    let is : zigzag number ≡ element = ap zigzag h.2 ∙ zigzag_forth element in
    let least : is_least 32 number ≡ false = above_least 32 element number refl is (omega (arith, h.1)) in
    inr (ap (λ b. element_number (if b then Value.Null else Value.Int number)) least ∙ ap Some is, h.0, h.1)
int_numbered width element _ h = absurd h

long_numbered : (width element : ℕ) (value : Value) → width ≤ 64 → element < 2 ^ width → SpellsLong width element value → Numbered width element value
long_numbered width element Value.Null narrow below h = inl (refl, h)
long_numbered width element (Value.Long number) narrow below h =
    let most : 2 ^ width ≤ 2 ^ 64 = pow_mono narrow in
    let is : zigzag number ≡ element = ap zigzag h.1 ∙ zigzag_forth element in
    let ones = h.0 in
    let small : element + 2 ≤ 2 ^ 64 = omega (arith, ones, below, most) in
    let least : is_least 64 number ≡ false = above_least 64 element number refl is small in
    inr (ap (λ b. element_number (if b then Value.Null else Value.Long number)) least ∙ ap Some is, h.0, omega (arith, small))
long_numbered width element _ narrow below h = absurd h

reference_numbered : (width element : ℕ) (value : Value) → SpellsReference width element value → Numbered width element value
reference_numbered width element Value.Null h = inl (refl, h)
reference_numbered width element (Value.Ref ordinal) h = inr (ap Some h.2, h.0, h.1)
reference_numbered width element _ h = absurd h

boolean_numbered : (element : ℕ) (value : Value) → SpellsBoolean element value → Numbered 2 element value
boolean_numbered element Value.Null h = inl (refl, h)
boolean_numbered element (Value.Bool true) h = inr (ap Some (sym h), λ ones. omega (arith, ones, h), omega (arith, h))
boolean_numbered element (Value.Bool false) h = inr (ap Some (sym h), λ ones. omega (arith, ones, h), omega (arith, h))
boolean_numbered element _ h = absurd h

numbered : (kind : FieldKind) (part : FieldPart) (value : Value) → (HasBytes kind → ⊥) → IsKindWidth kind part.width → part.width ≤ 64 → part.element < 2 ^ part.width → SpellsValue kind part value
    → Numbered part.width part.element value
numbered (FieldKind.Reference name) part value not wide narrow below h = reference_numbered part.width part.element value h
numbered FieldKind.Int part value not wide narrow below h = int_numbered part.width part.element value h
numbered FieldKind.Long part value not wide narrow below h = long_numbered part.width part.element value narrow below h
numbered FieldKind.Boolean part value not wide narrow below h = subst (λ w. Numbered w part.element value) (sym wide) (boolean_numbered part.element value h)
numbered FieldKind.Text part value not wide narrow below h = absurd (not tt)
numbered FieldKind.Bytes part value not wide narrow below h = absurd (not tt)

-- in another width it is the number that this one is to hold
widened_number : (there width element : ℕ) (value : Value) → Numbered there element value → widened there width element ≡ unwrap_or (stored_number value) (2 ^ width - 1)
widened_number there width element value (inl null) =
    ap (λ b. if b then 2 ^ width - 1 else element) (eq-eqb element (2 ^ there - 1) null.1) ∙ sym (ap (λ n. unwrap_or n (2 ^ width - 1)) null.0)
widened_number there width element value (inr some) =
    ap (λ b. if b then 2 ^ width - 1 else element) (ne_eqb element (2 ^ there - 1) some.1) ∙ sym (ap (λ n. unwrap_or n (2 ^ width - 1)) some.0)

small_number : (width element : ℕ) (value : Value) → Numbered width element value → IfSome (stored_number value) (λ n. n ≤ greatest_number value)
small_number width element value (inl null) = subst (λ o. IfSome o (λ n. n ≤ greatest_number value)) (sym null.0) tt
small_number width element value (inr some) = subst (λ o. IfSome o (λ n. n ≤ greatest_number value)) (sym some.0) some.2

-- ---- values of a kind

fits_kind : (kind : FieldKind) (part : FieldPart) (value : Value) → SpellsValue kind part value → FitsKind kind value
fits_kind (FieldKind.Reference name) part Value.Null h = tt
fits_kind (FieldKind.Reference name) part (Value.Ref ordinal) h = tt
fits_kind FieldKind.Int part Value.Null h = tt
fits_kind FieldKind.Int part (Value.Int number) h = tt
fits_kind FieldKind.Long part Value.Null h = tt
fits_kind FieldKind.Long part (Value.Long number) h = tt
fits_kind FieldKind.Boolean part Value.Null h = tt
fits_kind FieldKind.Boolean part (Value.Bool flag) h = tt
fits_kind FieldKind.Text part Value.Null h = tt
fits_kind FieldKind.Text part (Value.Text units) h = tt
fits_kind FieldKind.Bytes part Value.Null h = tt
fits_kind FieldKind.Bytes part (Value.Bytes bytes) h = tt
fits_kind (FieldKind.Reference name) part _ h = absurd h
fits_kind FieldKind.Int part _ h = absurd h
fits_kind FieldKind.Long part _ h = absurd h
fits_kind FieldKind.Boolean part _ h = absurd h
fits_kind FieldKind.Text part _ h = absurd h
fits_kind FieldKind.Bytes part _ h = absurd h

-- those of a kind without bytes have none
no_text : (kind : FieldKind) (part : FieldPart) (units : List ℕ) → (HasBytes kind → ⊥) → SpellsValue kind part (Value.Text units) → ⊥
no_text (FieldKind.Reference name) part units not h = h
no_text FieldKind.Int part units not h = h
no_text FieldKind.Long part units not h = h
no_text FieldKind.Boolean part units not h = h
no_text FieldKind.Text part units not h = not tt
no_text FieldKind.Bytes part units not h = not tt

no_octets : (kind : FieldKind) (part : FieldPart) (bytes : List ℕ) → (HasBytes kind → ⊥) → SpellsValue kind part (Value.Bytes bytes) → ⊥
no_octets (FieldKind.Reference name) part bytes not h = h
no_octets FieldKind.Int part bytes not h = h
no_octets FieldKind.Long part bytes not h = h
no_octets FieldKind.Boolean part bytes not h = h
no_octets FieldKind.Text part bytes not h = not tt
no_octets FieldKind.Bytes part bytes not h = not tt

pub no_bytes : (kind : FieldKind) (part : FieldPart) (value : Value) → (HasBytes kind → ⊥) → SpellsValue kind part value → value_bytes value ≡ []
no_bytes kind part (Value.Text units) not h = absurd (no_text kind part units not h)
no_bytes kind part (Value.Bytes bytes) not h = absurd (no_octets kind part bytes not h)
no_bytes kind part _ not h = refl

number_element : (kind : FieldKind) (width end : ℕ) (value : Value) → (HasBytes kind → ⊥) → element_for kind width end value ≡ unwrap_or (stored_number value) (2 ^ width - 1)
number_element FieldKind.Text width end value not = absurd (not tt)
number_element FieldKind.Bytes width end value not = absurd (not tt)
number_element _ width end value not = refl

-- ---- what is written

taken : (kind : FieldKind) (width element : ℕ) (before area : List ℕ) (value : Value) → element ≡ element_for kind width (length area) value → area ≡ before ++ value_bytes value → IsKindWidth kind width
    → FitsKind kind value → HoldsValue width value → IfSome (stored_number value) (λ n. n ≤ greatest_number value) → ((units : List ℕ) → value ≡ Value.Text units → AreUnits units)
    → (HasBytes kind → length before + length (value_bytes value) < 2 ^ (width - 1)) → IsTaken kind width element before area (Some value)
taken kind width element before area value is grown wide fits held small are below =
    found_taken kind width element before area (Some value) value refl is grown wide fits held small are
    (λ has. subst (λ (bytes : List ℕ). length before + length bytes < 2 ^ (width - 1)) (sym (append-nil (value_bytes value))) (below has))

-- the bytes of a null are none
null_run : (part : FieldPart) → end_of part ≡ part.start → span_of part ≡ []
null_run part same =
    let none : end_of part - part.start ≡ 0 = omega (arith, same) in
    ap (λ n. take n (drop part.start part.area)) none

pub span_long : (part : FieldPart) → IsSpan part → length (span_of part) ≡ end_of part - part.start
span_long part span = omega (arith, length-take (end_of part - part.start) (drop part.start part.area), length-drop part.start part.area, span.inside, span.rises)

text_taken : (part : FieldPart) (width element : ℕ) (before area : List ℕ) (value : Value) → 1 ≤ width → IsRunTaken part width element before area → HasRoomFor FieldKind.Text part width before value
    → IsTaken FieldKind.Text width element before area (Some value)
text_taken part width element before area Value.Null wide put room =
    taken FieldKind.Text width element before area Value.Null (put.null room.spelled.1)
    (put.grown ∙ ap (λ (bytes : List ℕ). before ++ bytes) (null_run part (room.spelled.0.empty room.spelled.1))) wide tt tt tt (λ units e. absurd cc) room.ends
text_taken part width element before area (Value.Text units) wide put room =
    taken FieldKind.Text width element before area (Value.Text units) (put.some room.spelled.1)
    (put.grown ∙ ap (λ (bytes : List ℕ). before ++ bytes) room.spelled.2.1) wide tt tt tt
    (λ others e. let same : units ≡ others = cc in subst AreUnits same room.spelled.2.0) room.ends
text_taken part width element before area _ wide put room = absurd room.spelled

bytes_taken : (part : FieldPart) (width element : ℕ) (before area : List ℕ) (value : Value) → 1 ≤ width → IsRunTaken part width element before area → HasRoomFor FieldKind.Bytes part width before value
    → IsTaken FieldKind.Bytes width element before area (Some value)
bytes_taken part width element before area Value.Null wide put room =
    taken FieldKind.Bytes width element before area Value.Null (put.null room.spelled.1)
    (put.grown ∙ ap (λ (bytes : List ℕ). before ++ bytes) (null_run part (room.spelled.0.empty room.spelled.1))) wide tt tt tt (λ units e. absurd cc) room.ends
bytes_taken part width element before area (Value.Bytes bytes) wide put room =
    taken FieldKind.Bytes width element before area (Value.Bytes bytes) (put.some room.spelled.1)
    (put.grown ∙ ap (λ (all : List ℕ). before ++ all) (sym room.spelled.2)) wide tt tt tt (λ units e. absurd cc) room.ends
bytes_taken part width element before area _ wide put room = absurd room.spelled

-- the bytes of a STRING or BYTES
pub run_taken : (kind : FieldKind) (part : FieldPart) (width element : ℕ) (before area : List ℕ) → HasBytes kind → 1 ≤ width → IsRunTaken part width element before area
    → (value : Value) → HasRoomFor kind part width before value → IsTaken kind width element before area (Some value)
run_taken FieldKind.Text part width element before area has wide put value room = text_taken part width element before area value wide put room
run_taken FieldKind.Bytes part width element before area has wide put value room = bytes_taken part width element before area value wide put room
run_taken _ part width element before area has wide put value room = absurd has

-- ---- what is known of a run that has room

pub some_bits : (kind : FieldKind) (width : ℕ) → HasBytes kind → IsKindWidth kind width → 1 ≤ width
some_bits FieldKind.Text width has wide = wide
some_bits FieldKind.Bytes width has wide = wide
some_bits _ width has wide = absurd has

text_span : (part : FieldPart) (value : Value) → SpellsText part value → IsSpan part × (span_of part ≡ value_bytes value)
text_span part Value.Null h = (h.0, null_run part (h.0.empty h.1))
text_span part (Value.Text units) h = (h.0, h.2.1)
text_span part _ h = absurd h

bytes_span : (part : FieldPart) (value : Value) → SpellsBytes part value → IsSpan part × (span_of part ≡ value_bytes value)
bytes_span part Value.Null h = (h.0, null_run part (h.0.empty h.1))
bytes_span part (Value.Bytes bytes) h = (h.0, sym h.2)
bytes_span part _ h = absurd h

pub run_span : (kind : FieldKind) (part : FieldPart) (value : Value) → HasBytes kind → SpellsValue kind part value → IsSpan part × (span_of part ≡ value_bytes value)
run_span FieldKind.Text part value has h = text_span part value h
run_span FieldKind.Bytes part value has h = bytes_span part value h
run_span _ part value has h = absurd has

pub text_has : (kind : FieldKind) → kind ≡ FieldKind.Text → HasBytes kind
text_has kind is = subst HasBytes (sym is) tt

pub bytes_has : (kind : FieldKind) → kind ≡ FieldKind.Bytes → HasBytes kind
bytes_has kind is = subst HasBytes (sym is) tt

-- the same of the answer that gives the element
pub run_told : {E : Type 0} (kind : FieldKind) (part : FieldPart) (width : ℕ) (before area : List ℕ) (result : Result ℕ E) → HasBytes kind → 1 ≤ width
    → IfOk result (λ element. IsRunTaken part width element before area)
    → IfOk result (λ element. (value : Value) → HasRoomFor kind part width before value → IsTaken kind width element before area (Some value))
run_told kind part width before area (Ok element) has wide told = λ value room. run_taken kind part width element before area has wide told value room
run_told kind part width before area (Err fault) has wide told = tt

-- ---- what a part gives is stored as it is

int_stored : (width element : ℕ) (value : Value) → SpellsInt width element value → stored_value value ≡ value
int_stored width element Value.Null h = refl
int_stored width element (Value.Int number) h =
    ap (λ b. if b then Value.Null else Value.Int number) (above_least 32 element number refl (ap zigzag h.2 ∙ zigzag_forth element) (omega (arith, h.1)))
int_stored width element _ h = absurd h

long_stored : (width element : ℕ) (value : Value) → width ≤ 64 → element < 2 ^ width → SpellsLong width element value → stored_value value ≡ value
long_stored width element Value.Null narrow below h = refl
long_stored width element (Value.Long number) narrow below h =
    let most : 2 ^ width ≤ 2 ^ 64 = pow_mono narrow in
    let ones = h.0 in
    let small : element + 2 ≤ 2 ^ 64 = omega (arith, ones, below, most) in
    ap (λ b. if b then Value.Null else Value.Long number) (above_least 64 element number refl (ap zigzag h.1 ∙ zigzag_forth element) small)
long_stored width element _ narrow below h = absurd h

pub stored_as_is : (kind : FieldKind) (part : FieldPart) (value : Value) → part.width ≤ 64 → part.element < 2 ^ part.width → SpellsValue kind part value → stored_value value ≡ value
stored_as_is FieldKind.Int part value narrow below h = int_stored part.width part.element value h
stored_as_is FieldKind.Long part value narrow below h = long_stored part.width part.element value narrow below h
stored_as_is (FieldKind.Reference name) part Value.Null narrow below h = refl
stored_as_is (FieldKind.Reference name) part (Value.Ref ordinal) narrow below h = refl
stored_as_is (FieldKind.Reference name) part _ narrow below h = absurd h
stored_as_is FieldKind.Boolean part Value.Null narrow below h = refl
stored_as_is FieldKind.Boolean part (Value.Bool flag) narrow below h = refl
stored_as_is FieldKind.Boolean part _ narrow below h = absurd h
stored_as_is FieldKind.Text part Value.Null narrow below h = refl
stored_as_is FieldKind.Text part (Value.Text units) narrow below h = refl
stored_as_is FieldKind.Text part _ narrow below h = absurd h
stored_as_is FieldKind.Bytes part Value.Null narrow below h = refl
stored_as_is FieldKind.Bytes part (Value.Bytes bytes) narrow below h = refl
stored_as_is FieldKind.Bytes part _ narrow below h = absurd h

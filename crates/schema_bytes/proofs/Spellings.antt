-- A schema has one spelling, and none begins another one.
use Rattle.std.proofs.Common.{◌≡◌, ℕ, ◌/◌, ◌%◌, suc, List, [], ◌∷◌, ◌++◌, Some, None, length, get_or, drop, All, flat_map, refl, sym, ap, ◌∙◌, arith, append_assoc}
use Rattle.std.proofs.lemmas.List.{append_cancel_left}
use Rattle.std.specs.Str.{IsUtf8}
use Rattle.hol_varint.specs.JavaUtf.{utf_bytes, unit_bytes}
use Rattle.hol_varint.specs.TextUnits.{text_units, IsTextOf}
use Rattle.hol_varint.specs.Varint.{varint_bytes}
use Rattle.hol_varint.proofs.JavaTexts.{utf_apart}
use Rattle.hol_varint.proofs.Characters.{text_units-are, text_once}
use Rattle.hol_varint.proofs.VarWriting.{varint_is}
use Rattle.hol_varint.proofs.Varints.{varint_once}
use Rattle.schema_model.specs.declared.schema.FieldKind.{FieldKind}
use Rattle.schema_model.specs.declared.schema.Shape.{Shape}
use Rattle.schema_model.specs.declared.schema.Schema.{Schema}
use Rattle.schema_model.specs.Schema.{name_bytes, kind_name, target_bytes, field_bytes, paths_bytes, fields_bytes, kind_number, shape_bytes, schema_bytes, EachNameOfKind, EachNameOfField, EachNameOfShape, EachName}

-- the spelling tells the value and where it ends, among such values
abbrev Apart : {A : Type 0} → (A → List ℕ) → (A → Type 0) → Type 0
Apart {A} spelling P = (a b : A) (x y : List ℕ) → P a → P b → spelling a ++ x ≡ spelling b ++ y → (a ≡ b) × (x ≡ y)

name_apart : Apart name_bytes IsUtf8
name_apart a b x y is_a is_b e =
    let units = utf_apart (text_units a) (text_units b) x y (text_units-are a is_a) (text_units-are b is_b) e in
    let of_a : IsTextOf (text_units a) a = record { utf8 = is_a; same = refl } in
    let of_b : IsTextOf (text_units a) b = record { utf8 = is_b; same = sym units.0 } in
    (text_once (text_units a) a b of_a of_b, units.1)

varint_apart : (m n : ℕ) (x y : List ℕ) → varint_bytes m ++ x ≡ varint_bytes n ++ y → (m ≡ n) × (x ≡ y)
varint_apart m n x y e =
    let same = varint_once (varint_bytes m) (varint_bytes n) x y m n (varint_is m) (varint_is n) e in
    (same.1, append_cancel_left (varint_bytes m) x y (e ∙ ap (λ (bytes : List ℕ). bytes ++ y) (sym same.0)))

list_apart : {A : Type 0} (spelling : A → List ℕ) (P : A → Type 0) → Apart spelling P → (ls rs : List A) (x y : List ℕ) → length ls ≡ length rs → All P ls → All P rs → flat_map spelling ls ++ x ≡ flat_map spelling rs ++ y → (ls ≡ rs) × (x ≡ y)
list_apart spelling P apart [] [] x y n h k e = (refl, e)
list_apart spelling P apart [] (b ∷ rs) x y n h k e = absurd (omega arith)
list_apart spelling P apart (a ∷ ls) [] x y n h k e = absurd (omega arith)
list_apart spelling P apart (a ∷ ls) (b ∷ rs) x y n h k e =
    let first = apart a b (flat_map spelling ls ++ x) (flat_map spelling rs ++ y) (h 0 a (omega arith)) (k 0 b (omega arith)) (sym (append_assoc (spelling a) (flat_map spelling ls) x) ∙ e ∙ append_assoc (spelling b) (flat_map spelling rs) y) in
    let rest = list_apart spelling P apart ls rs x y (omega arith) (λ i d lt. h (suc i) d (omega arith)) (λ i d lt. k (suc i) d (omega arith)) first.1 in
    ((λ i. first.0 i ∷ rest.0 i), rest.1)

kind_length : FieldKind → ℕ
kind_length (FieldKind.Reference name) = 9
kind_length FieldKind.Int = 3
kind_length FieldKind.Long = 4
kind_length FieldKind.Boolean = 7
kind_length FieldKind.Text = 6
kind_length FieldKind.Bytes = 5

second_byte : (kind : FieldKind) (x : List ℕ) → get_or (utf_bytes (kind_name kind) ++ x) 1 0 ≡ kind_length kind
unfolding utf_bytes unit_bytes kind_length
second_byte (FieldKind.Reference name) x = refl
second_byte FieldKind.Int x = refl
second_byte FieldKind.Long x = refl
second_byte FieldKind.Boolean x = refl
second_byte FieldKind.Text x = refl
second_byte FieldKind.Bytes x = refl

same_kind_name : (a b : FieldKind) → kind_length a ≡ kind_length b → utf_bytes (kind_name a) ≡ utf_bytes (kind_name b)
unfolding kind_length
same_kind_name (FieldKind.Reference a) (FieldKind.Reference b) n = refl
same_kind_name FieldKind.Int FieldKind.Int n = refl
same_kind_name FieldKind.Long FieldKind.Long n = refl
same_kind_name FieldKind.Boolean FieldKind.Boolean n = refl
same_kind_name FieldKind.Text FieldKind.Text n = refl
same_kind_name FieldKind.Bytes FieldKind.Bytes n = refl
same_kind_name _ _ n = absurd (omega arith)

target_apart : (a b : FieldKind) (x y : List ℕ) → kind_length a ≡ kind_length b → EachNameOfKind IsUtf8 a → EachNameOfKind IsUtf8 b → target_bytes a ++ x ≡ target_bytes b ++ y → (a ≡ b) × (x ≡ y)
unfolding kind_length
target_apart (FieldKind.Reference a) (FieldKind.Reference b) x y n h k e = let same = name_apart a b x y h k e in (ap FieldKind.Reference same.0, same.1)
target_apart FieldKind.Int FieldKind.Int x y n h k e = (refl, e)
target_apart FieldKind.Long FieldKind.Long x y n h k e = (refl, e)
target_apart FieldKind.Boolean FieldKind.Boolean x y n h k e = (refl, e)
target_apart FieldKind.Text FieldKind.Text x y n h k e = (refl, e)
target_apart FieldKind.Bytes FieldKind.Bytes x y n h k e = (refl, e)
target_apart _ _ x y n h k e = absurd (omega arith)

kind_apart : (a b : FieldKind) (x y : List ℕ) → EachNameOfKind IsUtf8 a → EachNameOfKind IsUtf8 b → utf_bytes (kind_name a) ++ (target_bytes a ++ x) ≡ utf_bytes (kind_name b) ++ (target_bytes b ++ y) → (a ≡ b) × (x ≡ y)
kind_apart a b x y h k e =
    let lengths : kind_length a ≡ kind_length b = sym (second_byte a (target_bytes a ++ x)) ∙ ap (λ (s : List ℕ). get_or s 1 0) e ∙ second_byte b (target_bytes b ++ y) in
    let named = same_kind_name a b lengths in
    target_apart a b x y lengths h k (append_cancel_left (utf_bytes (kind_name a)) _ _ (e ∙ ap (λ (s : List ℕ). s ++ (target_bytes b ++ y)) (sym named)))

three : (a b c x : List ℕ) → (a ++ b ++ c) ++ x ≡ a ++ (b ++ (c ++ x))
three a b c x = simp append_assoc

field_apart : Apart field_bytes (EachNameOfField IsUtf8)
field_apart a b x y h k e =
    let apart = three (name_bytes a.name) (utf_bytes (kind_name a.kind)) (target_bytes a.kind) x in
    let apart' = three (name_bytes b.name) (utf_bytes (kind_name b.kind)) (target_bytes b.kind) y in
    let names = name_apart a.name b.name _ _ h.name k.name (sym apart ∙ e ∙ apart') in
    let kinds = kind_apart a.kind b.kind x y h.kind k.kind names.1 in
    ((λ i. record { name = names.0 i; kind = kinds.0 i }), kinds.1)

paths_apart : Apart paths_bytes (All IsUtf8)
paths_apart ls rs x y h k e =
    let counts = varint_apart (length ls) (length rs) (flat_map name_bytes ls ++ x) (flat_map name_bytes rs ++ y) (sym (append_assoc (varint_bytes (length ls)) (flat_map name_bytes ls) x) ∙ e ∙ append_assoc (varint_bytes (length rs)) (flat_map name_bytes rs) y) in
    list_apart name_bytes IsUtf8 name_apart ls rs x y counts.0 h k counts.1

same_count : (m n : ℕ) → m / 256 ≡ n / 256 → m % 256 ≡ n % 256 → m ≡ n
same_count m n high low = omega arith

fields_apart : Apart fields_bytes (All (EachNameOfField IsUtf8))
fields_apart ls rs x y h k e =
    let high : length ls / 256 ≡ length rs / 256 = ap (λ (s : List ℕ). get_or s 0 0) e in
    let low : length ls % 256 ≡ length rs % 256 = ap (λ (s : List ℕ). get_or s 1 0) e in
    list_apart field_bytes (EachNameOfField IsUtf8) field_apart ls rs x y (same_count (length ls) (length rs) high low) h k (ap (drop 2) e)

shape_apart : (a b : Shape) (x y : List ℕ) → kind_number a ≡ kind_number b → EachNameOfShape IsUtf8 a → EachNameOfShape IsUtf8 b → shape_bytes a ++ x ≡ shape_bytes b ++ y → (a ≡ b) × (x ≡ y)
shape_apart (Shape.Object None ls) (Shape.Object None rs) x y n h k e =
    let fields = fields_apart ls rs x y h.parts k.parts e in (ap (Shape.Object None) fields.0, fields.1)
shape_apart (Shape.Object (Some ps) ls) (Shape.Object (Some qs) rs) x y n h k e =
    let paths = paths_apart ps qs (fields_bytes ls ++ x) (fields_bytes rs ++ y) h.paths k.paths (sym (append_assoc (paths_bytes ps) (fields_bytes ls) x) ∙ e ∙ append_assoc (paths_bytes qs) (fields_bytes rs) y) in
    let fields = fields_apart ls rs x y h.parts k.parts paths.1 in
    ((λ i. Shape.Object (Some (paths.0 i)) (fields.0 i)), fields.1)
shape_apart (Shape.Set a) (Shape.Set b) x y n h k e = let same = name_apart a b x y h k e in (ap Shape.Set same.0, same.1)
shape_apart (Shape.List a) (Shape.List b) x y n h k e = let same = name_apart a b x y h k e in (ap Shape.List same.0, same.1)
shape_apart (Shape.Map a c) (Shape.Map b d) x y n h k e =
    let keys = name_apart a b (name_bytes c ++ x) (name_bytes d ++ y) h.0 k.0 (sym (append_assoc (name_bytes a) (name_bytes c) x) ∙ e ∙ append_assoc (name_bytes b) (name_bytes d) y) in
    let values = name_apart c d x y h.1 k.1 keys.1 in
    ((λ i. Shape.Map (keys.0 i) (values.0 i)), values.1)
shape_apart (Shape.Object None ls) _ x y n h k e = absurd (omega arith)
shape_apart (Shape.Object (Some ps) ls) _ x y n h k e = absurd (omega arith)
shape_apart _ (Shape.Object None rs) x y n h k e = absurd (omega arith)
shape_apart _ (Shape.Object (Some qs) rs) x y n h k e = absurd (omega arith)
shape_apart _ _ x y n h k e = absurd (omega arith)

pub schema_apart : (a b : Schema) (x y : List ℕ) → EachName IsUtf8 a → EachName IsUtf8 b → schema_bytes a ++ x ≡ schema_bytes b ++ y → (a ≡ b) × (x ≡ y)
schema_apart a b x y h k e =
    let kinds : kind_number a.shape ≡ kind_number b.shape = ap (λ (s : List ℕ). get_or s 0 0) e in
    let names = name_apart a.name b.name (shape_bytes a.shape ++ x) (shape_bytes b.shape ++ y) h.name k.name (sym (append_assoc (name_bytes a.name) (shape_bytes a.shape) x) ∙ ap (drop 1) e ∙ append_assoc (name_bytes b.name) (shape_bytes b.shape) y) in
    let shapes = shape_apart a.shape b.shape x y kinds h.shape k.shape names.1 in
    ((λ i. record { name = names.0 i; shape = shapes.0 i }), shapes.1)

-- What the words of a schema mean, and why others are refused.
use Rattle.std.proofs.Common.{◌≡◌, ◌<◌, ◌⊎◌, ℕ, List, [], ◌∷◌, get_or, length, ◌==◌, if◌then◌else◌, inl, inr, refl, ◌∙◌, subst, sym, ap, arith}
use Rattle.std.specs.Prelude.{codes}
use Rattle.std.proofs.lemmas.Bool.{cases_lt, cases_eq}
use Rattle.hol_varint.proofs.Characters.{text_once}
use Rattle.blob_grammar.proofs.SomeCharacters.{some_text}
use Rattle.hol_varint.specs.TextUnits.{IsTextOf}
use Rattle.schema_model.specs.declared.reason.Reason.{Reason}
use Rattle.schema_model.specs.declared.reason.Reason.TheVariants.{BadName, BadSchema, KeyedHash, FloatField}
use Rattle.blob_grammar.specs.declared.kind.SchemaKind.{SchemaKind}
use Rattle.blob_grammar.specs.declared.kind.SchemaKind.TheVariants as kind
use Rattle.blob_grammar.specs.declared.kind.FieldType.{FieldType}
use Rattle.blob_grammar.specs.declared.kind.FieldType.TheVariants as type_
use Rattle.blob_grammar.specs.Decided.{IsJudge}
use Rattle.blob_grammar.specs.Words.{kind_byte, IsRefusedKind, type_text, IsFloatText, IsRefusedType}

unfoldable kind_at : ℕ → SchemaKind
kind_at byte = if byte == 0 then kind.Object else (if byte == 1 then kind.Set else (if byte == 2 then kind.List else (if byte == 3 then kind.Map else kind.KeyedObject)))

kind_at_byte : (k : SchemaKind) → kind_at (kind_byte k) ≡ k
unfolding kind_at
kind_at_byte kind.Object = refl
kind_at_byte kind.Set = refl
kind_at_byte kind.List = refl
kind_at_byte kind.Map = refl
kind_at_byte kind.KeyedObject = refl

kinds_once : (k l : SchemaKind) → kind_byte k ≡ kind_byte l → k ≡ l
kinds_once k l e = sym (kind_at_byte k) ∙ (ap kind_at e ∙ kind_at_byte l)

refused_kind_once : (byte : ℕ) (why because : Reason) → IsRefusedKind byte why → IsRefusedKind byte because → why ≡ because
refused_kind_once byte why because (inl p) (inl q) = p.1 ∙ sym q.1
refused_kind_once byte why because (inl (inl p, is)) (inr q) = absurd (omega (arith, p, q.0))
refused_kind_once byte why because (inl (inr p, is)) (inr q) = absurd (omega (arith, p, q.0))
refused_kind_once byte why because (inr p) (inl (inl q, is)) = absurd (omega (arith, q, p.0))
refused_kind_once byte why because (inr p) (inl (inr q, is)) = absurd (omega (arith, q, p.0))
refused_kind_once byte why because (inr p) (inr q) = p.1 ∙ sym q.1

-- a kind's byte is none of those that are refused
kind_small : (k : SchemaKind) → (kind_byte k < 4) ⊎ (kind_byte k ≡ 6)
kind_small kind.Object = inl (omega arith)
kind_small kind.Set = inl (omega arith)
kind_small kind.List = inl (omega arith)
kind_small kind.Map = inl (omega arith)
kind_small kind.KeyedObject = inr refl

kind_not_refused : (byte : ℕ) (k : SchemaKind) (why : Reason) → byte ≡ kind_byte k → IsRefusedKind byte why → ⊥
kind_not_refused byte k why is (inl (inl p, e)) = elim (kind_small k) [ inl h ↦ omega (arith, is, p, h) | inr h ↦ omega (arith, is, p, h) ]
kind_not_refused byte k why is (inl (inr p, e)) = elim (kind_small k) [ inl h ↦ omega (arith, is, p, h) | inr h ↦ omega (arith, is, p, h) ]
kind_not_refused byte k why is (inr p) = elim (kind_small k) [ inl h ↦ omega (arith, is, p.0, h) | inr h ↦ omega (arith, is, p.0, h) ]

-- the texts of the field types differ by their length
unfoldable type_at : ℕ → FieldType
type_at long = if long == 9 then type_.Reference else (if long == 3 then type_.Int else (if long == 4 then type_.Long else (if long == 7 then type_.Boolean else (if long == 6 then type_.Text else type_.Bytes))))

type_at_text : (t : FieldType) → type_at (length (type_text t)) ≡ t
unfolding type_at
type_at_text type_.Reference = refl
type_at_text type_.Int = refl
type_at_text type_.Long = refl
type_at_text type_.Boolean = refl
type_at_text type_.Text = refl
type_at_text type_.Bytes = refl

types_once : (t u : FieldType) → type_text t ≡ type_text u → t ≡ u
types_once t u e = sym (type_at_text t) ∙ (ap (λ (text : List ℕ). type_at (length text)) e ∙ type_at_text u)

refused_type_once : (text : List ℕ) (why because : Reason) → IsRefusedType text why → IsRefusedType text because → why ≡ because
refused_type_once text why because (inl p) (inl q) = p.1 ∙ sym q.1
refused_type_once text why because (inl p) (inr q) = absurd (q.1 p.0)
refused_type_once text why because (inr p) (inl q) = absurd (p.1 q.0)
refused_type_once text why because (inr p) (inr q) = p.2 ∙ sym q.2

-- no type's text is one with a fraction
no_float : (t : FieldType) → IsFloatText (type_text t) → ⊥
no_float type_.Reference (inl p) = absurd (omega (arith, ap (λ (xs : List ℕ). length xs) p))
no_float type_.Reference (inr p) = absurd (omega (arith, ap (λ (xs : List ℕ). length xs) p))
no_float type_.Int (inl p) = absurd (omega (arith, ap (λ (xs : List ℕ). length xs) p))
no_float type_.Int (inr p) = absurd (omega (arith, ap (λ (xs : List ℕ). length xs) p))
no_float type_.Long (inl p) = absurd (omega (arith, ap (λ (xs : List ℕ). length xs) p))
no_float type_.Long (inr p) = absurd (omega (arith, ap (λ (xs : List ℕ). length xs) p))
no_float type_.Boolean (inl p) = absurd (omega (arith, ap (λ (xs : List ℕ). length xs) p))
no_float type_.Boolean (inr p) = absurd (omega (arith, ap (λ (xs : List ℕ). length xs) p))
no_float type_.Text (inl p) = absurd (omega (arith, ap (λ (xs : List ℕ). length xs) p))
no_float type_.Text (inr p) = absurd (omega (arith, ap (λ (xs : List ℕ). get_or xs 0 0) p))
no_float type_.Bytes (inl p) = absurd (omega (arith, ap (λ (xs : List ℕ). get_or xs 0 0) p))
no_float type_.Bytes (inr p) = absurd (omega (arith, ap (λ (xs : List ℕ). length xs) p))

type_not_refused : (text : List ℕ) (t : FieldType) (why : Reason) → text ≡ type_text t → IsRefusedType text why → ⊥
type_not_refused text t why is (inl p) = no_float t (subst (λ (xs : List ℕ). IsFloatText xs) is p.0)
type_not_refused text t why is (inr p) = p.0 t is

some_kind : (byte : ℕ) → ((k : SchemaKind) × (byte ≡ kind_byte k)) ⊎ ((why : Reason) × IsRefusedKind byte why)
some_kind byte = elim (cases_lt byte 4) [
  | inl small ↦ elim (cases_eq byte 0) [
    | inl is ↦ inl (kind.Object, is)
    | inr not0 ↦ elim (cases_eq byte 1) [
      | inl is ↦ inl (kind.Set, is)
      | inr not1 ↦ elim (cases_eq byte 2) [ inl is ↦ inl (kind.List, is) | inr not2 ↦ inl (kind.Map, omega (arith, small, not0, not1, not2)) ]
    ]
  ]
  | inr from ↦ elim (cases_eq byte 6) [
    | inl is ↦ inl (kind.KeyedObject, is)
    | inr not6 ↦ elim (cases_lt 6 byte) [
      | inl over ↦ inr (BadSchema, inr (over, refl))
      | inr below ↦ elim (cases_eq byte 4) [
        | inl is ↦ inr (KeyedHash, inl (inl is, refl))
        | inr not4 ↦ inr (KeyedHash, inl (inr (omega (arith, from, not6, below, not4)), refl))
      ]
    ]
  ]
]

-- texts are one or another
text_dec : (xs ys : List ℕ) → (xs ≡ ys) ⊎ (xs ≡ ys → ⊥)
text_dec [] [] = inl refl
text_dec [] (y ∷ ys) = inr (λ e. absurd (cc))
text_dec (x ∷ xs) [] = inr (λ e. absurd (cc))
text_dec (x ∷ xs) (y ∷ ys) = elim (cases_eq x y) [
  | inr apart ↦ inr (λ e. apart (cc))
  | inl same ↦ elim (text_dec xs ys) [ inr apart ↦ inr (λ e. apart (cc)) | inl rest ↦ inl (cc) ]
]

some_type : (text : List ℕ) → ((t : FieldType) × (text ≡ type_text t)) ⊎ ((why : Reason) × IsRefusedType text why)
some_type text = elim (text_dec text (codes "REFERENCE")) [
  | inl is ↦ inl (type_.Reference, is)
  | inr not_reference ↦ elim (text_dec text (codes "INT")) [
    | inl is ↦ inl (type_.Int, is)
    | inr not_int ↦ elim (text_dec text (codes "LONG")) [
      | inl is ↦ inl (type_.Long, is)
      | inr not_long ↦ elim (text_dec text (codes "BOOLEAN")) [
        | inl is ↦ inl (type_.Boolean, is)
        | inr not_boolean ↦ elim (text_dec text (codes "STRING")) [
          | inl is ↦ inl (type_.Text, is)
          | inr not_text ↦ elim (text_dec text (codes "BYTES")) [
            | inl is ↦ inl (type_.Bytes, is)
            | inr not_bytes ↦ elim (text_dec text (codes "FLOAT")) [
              | inl is ↦ inr (FloatField, inl (inl is, refl))
              | inr not_float ↦ elim (text_dec text (codes "DOUBLE")) [
                | inl is ↦ inr (FloatField, inl (inr is, refl))
                | inr not_double ↦ inr (
                  BadSchema,
                  inr (
                    no_type text not_reference not_int not_long not_boolean not_text not_bytes,
                    λ float. elim float [ inl is ↦ not_float is | inr is ↦ not_double is ],
                    refl,
                  ),
                )
              ]
            ]
          ]
        ]
      ]
    ]
  ]
]
  where
    no_type : (text : List ℕ) → (text ≡ codes "REFERENCE" → ⊥) → (text ≡ codes "INT" → ⊥) → (text ≡ codes "LONG" → ⊥) → (text ≡ codes "BOOLEAN" → ⊥)
        → (text ≡ codes "STRING" → ⊥) → (text ≡ codes "BYTES" → ⊥) → (t : FieldType) → text ≡ type_text t → ⊥
    no_type text a b c d e f type_.Reference is = a is
    no_type text a b c d e f type_.Int is = b is
    no_type text a b c d e f type_.Long is = c is
    no_type text a b c d e f type_.Boolean is = d is
    no_type text a b c d e f type_.Text is = e is
    no_type text a b c d e f type_.Bytes is = f is

pub judge_kind : IsJudge (λ byte k. byte ≡ kind_byte k) IsRefusedKind
judge_kind = record {
  one = λ x v u p q. kinds_once v u (sym p ∙ q);
  once = λ x why because p q. refused_kind_once x why because p q;
  apart = λ x v why p q. kind_not_refused x v why p q;
  some = some_kind;
}

pub judge_type : IsJudge (λ text t. text ≡ type_text t) IsRefusedType
judge_type = record {
  one = λ x v u p q. types_once v u (sym p ∙ q);
  once = λ x why because p q. refused_type_once x why because p q;
  apart = λ x v why p q. type_not_refused x v why p q;
  some = some_type;
}

pub judge_text : IsJudge IsTextOf (λ us why. (why ≡ BadName) × ((text : List ℕ) → IsTextOf us text → ⊥))
judge_text = record {
  one = λ x v u p q. text_once x v u p q;
  once = λ x why because p q. p.0 ∙ sym q.0;
  apart = λ x v why p q. q.1 v p;
  some = λ x. elim (some_text x) [ inl p ↦ inl p | inr none ↦ inr (BadName, (refl, none)) ];
}

-- Why single words of a blob cannot be read, and the bytes of a schema's words.
use Rattle.std.specs.Prelude.{◌≡◌, ◌<◌, ◌⊎◌, ℕ, List, ◌∷◌, ◌++◌, codes}
use Rattle.hol_varint.specs.Varint.{GoOn, VarEndsInside, IsNullVar, IsLongVar}
use Rattle.hol_varint.specs.JavaUtf.{UtfEndsInside, IsBadUtf}
use Rattle.schema_model.specs.declared.reason.Reason.{Reason}
use Rattle.schema_model.specs.declared.reason.Reason.TheVariants.{Truncated, BadVarint, BadName, BadSchema, FloatField, KeyedHash}
use Rattle.blob_grammar.specs.declared.kind.SchemaKind.{SchemaKind}
use Rattle.blob_grammar.specs.declared.kind.SchemaKind.TheVariants as kind
use Rattle.blob_grammar.specs.declared.kind.FieldType.{FieldType}
use Rattle.blob_grammar.specs.declared.kind.FieldType.TheVariants as type_

-- Why a variable-length number below the limit cannot be read from these bytes on.
abbrev pub VarFails : ℕ → List ℕ → Reason → Type 0
VarFails limit rest why = (VarEndsInside rest × (why ≡ Truncated)) ⊎ ((IsNullVar rest ⊎ IsLongVar limit rest) × (why ≡ BadVarint))

-- A byte that ends a number comes later, and each byte before it goes on.
pub record StopsLater (rest : List ℕ) : Type 0 where
  pub front : List ℕ
  pub stop : ℕ
  pub behind : List ℕ
  pub is : rest ≡ front ++ stop ∷ behind
  pub on : GoOn front
  pub ends : stop < 128

-- Why a Java UTF text cannot be read from these bytes on.
abbrev pub UtfFails : List ℕ → Reason → Type 0
UtfFails rest why = (UtfEndsInside rest × (why ≡ Truncated)) ⊎ (IsBadUtf rest × (why ≡ BadName))

-- the byte of a kind
abbrev pub kind_byte : SchemaKind → ℕ
kind_byte kind.Object = 0
kind_byte kind.Set = 1
kind_byte kind.List = 2
kind_byte kind.Map = 3
kind_byte kind.KeyedObject = 6

-- why a byte is no kind: a hash key, or no kind at all
abbrev pub IsRefusedKind : ℕ → Reason → Type 0
IsRefusedKind byte why = (((byte ≡ 4) ⊎ (byte ≡ 5)) × (why ≡ KeyedHash)) ⊎ ((6 < byte) × (why ≡ BadSchema))

-- the text of a field's type
abbrev pub type_text : FieldType → List ℕ
type_text type_.Reference = codes "REFERENCE"
type_text type_.Int = codes "INT"
type_text type_.Long = codes "LONG"
type_text type_.Boolean = codes "BOOLEAN"
type_text type_.Text = codes "STRING"
type_text type_.Bytes = codes "BYTES"

-- the text of a field type with a fraction
abbrev pub IsFloatText : List ℕ → Type 0
IsFloatText text = (text ≡ codes "FLOAT") ⊎ (text ≡ codes "DOUBLE")

-- why a text is no field type: one with a fraction, or none at all
abbrev pub IsRefusedType : List ℕ → Reason → Type 0
IsRefusedType text why = (IsFloatText text × (why ≡ FloatField))
    ⊎ (((t : FieldType) → text ≡ type_text t → ⊥) × (IsFloatText text → ⊥) × (why ≡ BadSchema))

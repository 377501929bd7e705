-- The names of the field types as Java UTF texts.
use Rattle.std.proofs.Common.{◌≡◌, ◌∷◌, codes, refl}
use Rattle.hol_varint.specs.JavaUtf.{utf_bytes, unit_bytes}

pub reference_text : 0 ∷ 9 ∷ codes "REFERENCE" ≡ utf_bytes (codes "REFERENCE")
unfolding utf_bytes unit_bytes
reference_text = refl

pub int_text : 0 ∷ 3 ∷ codes "INT" ≡ utf_bytes (codes "INT")
unfolding utf_bytes unit_bytes
int_text = refl

pub long_text : 0 ∷ 4 ∷ codes "LONG" ≡ utf_bytes (codes "LONG")
unfolding utf_bytes unit_bytes
long_text = refl

pub boolean_text : 0 ∷ 7 ∷ codes "BOOLEAN" ≡ utf_bytes (codes "BOOLEAN")
unfolding utf_bytes unit_bytes
boolean_text = refl

pub string_text : 0 ∷ 6 ∷ codes "STRING" ≡ utf_bytes (codes "STRING")
unfolding utf_bytes unit_bytes
string_text = refl

pub bytes_text : 0 ∷ 5 ∷ codes "BYTES" ≡ utf_bytes (codes "BYTES")
unfolding utf_bytes unit_bytes
bytes_text = refl

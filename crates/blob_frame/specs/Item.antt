-- The items of a blob: a number of a fixed size, a variable-length number, a text, a run of bytes, and the end.
use Rattle.std.specs.Prelude.{◌≡◌, ◌≤◌, ◌<◌, ◌+◌, ◌^◌, ℕ, ℤ, List, length, take, drop}
use Rattle.std.specs.Int.{Width, w64, byte_len, from_be_bytes, cast_signed}
use Rattle.hol_varint.specs.Varint.{VarStandsBelow}
use Rattle.hol_varint.specs.JavaUtf.{UtfStandsAt}
use Rattle.hol_varint.specs.TextUnits.{IsTextOf}
use Rattle.schema_model.specs.declared.reason.Reason.TheVariants.{Truncated, BadName, TrailingBytes}
use Rattle.blob_grammar.specs.Form.{Form, ◌>>=◌, judged}
use Rattle.blob_grammar.specs.Words.{VarFails, UtfFails}
use Rattle.blob_grammar.specs.Deciding.{judge_as, judge_any}
use Rattle.blob_grammar.proofs.DecidedItems.{decided_fixed, decided_varint, decided_units, decided_run, decided_end}
use Rattle.blob_grammar.proofs.Judges.{judge_text}

-- A number of a fixed size, its highest byte first.
unfoldable pub fixed : Width → Form ℕ
fixed width = record {
  Stands = λ bytes at value next. (next ≡ at + byte_len width) × (next ≤ length bytes)
      × (value ≡ from_be_bytes width (take (byte_len width) (drop at bytes)));
  Stuck = λ bytes at place why. (length bytes < at + byte_len width) × (place ≡ at) × (why ≡ Truncated);
  decided = decided_fixed width;
}

-- A signed number of 8 bytes.
unfoldable pub signed : Form ℤ
signed = judged (fixed w64) (λ n z. z ≡ cast_signed w64 n) (λ n why. ⊥) (judge_as (λ n. cast_signed w64 n))

-- A variable-length number below the limit.
unfoldable pub varint : ℕ → Form ℕ
varint limit = record {
  Stands = VarStandsBelow limit;
  Stuck = λ bytes at place why. VarFails limit (drop at bytes) why × (place ≡ at);
  decided = decided_varint limit;
}

-- A VInt, a number below 2^32.
abbrev pub vint : Form ℕ
vint = varint (2 ^ 32)

-- A VLong, a number below 2^64.
abbrev pub vlong : Form ℕ
vlong = varint (2 ^ 64)

-- A Java UTF text with its length: its UTF-16 units.
unfoldable pub units : Form (List ℕ)
units = record {
  Stands = UtfStandsAt;
  Stuck = λ bytes at place why. (place ≡ at) × UtfFails (drop at bytes) why;
  decided = decided_units;
}

-- A name: a Java UTF text whose units are well-formed UTF-16. Its value is the name's UTF-8 bytes.
unfoldable pub name : Form (List ℕ)
name = judged units IsTextOf (λ us why. (why ≡ BadName) × ((text : List ℕ) → IsTextOf us text → ⊥)) judge_text

-- A run of this many bytes.
unfoldable pub run : ℕ → Form (List ℕ)
run count = record {
  Stands = λ bytes at value next. (next ≡ at + count) × (next ≤ length bytes) × (value ≡ take count (drop at bytes));
  Stuck = λ bytes at place why. (length bytes < at + count) × (place ≡ at) × (why ≡ Truncated);
  decided = decided_run count;
}

-- A run of bytes behind their number.
unfoldable pub counted_run : Form (List ℕ)
counted_run = do
  count ← vlong
  run count

-- A run of this many bytes that mean nothing.
unfoldable pub skipped : ℕ → Form Unit
skipped n = judged (run n) (λ bytes u. Unit {0}) (λ bytes why. ⊥) judge_any

-- The end of the blob.
unfoldable pub end : Form Unit
end = record {
  Stands = λ bytes at value next. (at ≡ length bytes) × (next ≡ at);
  Stuck = λ bytes at place why. (at < length bytes) × (place ≡ at) × (why ≡ TrailingBytes);
  decided = decided_end;
}

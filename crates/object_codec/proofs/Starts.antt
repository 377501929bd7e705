-- Lemmas on where the bytes of a STRING or BYTES start.
use Rattle.std.proofs.Common.{◌≡◌, ℕ, zero, suc, ◌+◌, ◌-◌, ◌*◌, ◌%◌, ◌^◌, ◌<◌, ◌≤◌, List, Result, Ok, Err, refl, sym, ap, subst, arith}
use Rattle.schema_model.specs.declared.schema.FieldKind.{FieldKind}
use Rattle.schema_model.specs.declared.reason.Reason.{Reason}
use Rattle.object_codec.specs.Part.{FieldPart, FailsValue}
use Rattle.object_codec.specs.declared.part.Part.{Part}
use Rattle.object_codec.specs.Parts.{TellsPart, TellsRun}
use Rattle.bit_array.specs.Element.{element_of}
use Rattle.object_codec.specs.ObjectPlace.{start_at}

-- an element that begins within the first record is one of the first place
pub first_start : (first : List ℕ) (at size width place before : ℕ) → at < size → at ≡ place * size + before → 0 ≡ start_at first size before width place
first_start first at size width zero before below is = refl
first_start first at size width (suc earlier) before below is = absurd (omega arith)

-- else the start is at the end offset of the record before
pub later_start : (first : List ℕ) (at size width place before : ℕ) → size ≤ at → at ≡ place * size + before → before + width ≤ size → 1 ≤ width
    → element_of first (at - size) width % 2 ^ (width - 1) ≡ start_at first size before width place
later_start first at size width zero before above is held wide = absurd (omega arith)
later_start first at size width (suc earlier) before above is held wide =
    let there : at - size ≡ earlier * size + before = omega arith in
    ap (λ k. element_of first k width % 2 ^ (width - 1)) there

text_told : (part : FieldPart) (result : Result Part Reason) → TellsRun part result → TellsPart FieldKind.Text part result
text_told part (Ok given) told = told
text_told part (Err reason) told = subst (λ r. FailsValue FieldKind.Text part r) (sym told.0) told.1

bytes_told : (part : FieldPart) (result : Result Part Reason) → TellsRun part result → TellsPart FieldKind.Bytes part result
bytes_told part (Ok given) told = told
bytes_told part (Err reason) told = subst (λ r. FailsValue FieldKind.Bytes part r) (sym told.0) told.1

-- what the reader of a run tells, of a field of such a kind
pub text_run_told : (kind : FieldKind) (part : FieldPart) (result : Result Part Reason) → kind ≡ FieldKind.Text → TellsRun part result → TellsPart kind part result
text_run_told kind part result is told = subst (λ k. TellsPart k part result) (sym is) (text_told part result told)

pub bytes_run_told : (kind : FieldKind) (part : FieldPart) (result : Result Part Reason) → kind ≡ FieldKind.Bytes → TellsRun part result → TellsPart kind part result
bytes_run_told kind part result is told = subst (λ k. TellsPart k part result) (sym is) (bytes_told part result told)

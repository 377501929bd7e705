-- Lemmas on the row of a place: there is at most one, and not both a row and a reason.
use Rattle.std.proofs.Common.{◌≡◌, ℕ, List, Result, Ok, Err, ap, subst, inl, inr}
use Rattle.hol_varint.specs.Yields.{Yields}
use Rattle.schema_model.specs.Parts.{shape_fields}
use Rattle.schema_model.specs.declared.schema.Shape.{Shape}
use Rattle.row_model.specs.declared.row.Row.{Row}
use Rattle.schema_model.specs.declared.reason.Reason.{Reason}
use Rattle.row_model.specs.declared.packed.PlaceFault.{PlaceFault}
use Rattle.object_codec.specs.ObjectPlace.{parts_of, SpellsObjectRow, FailsObjectRow, TellsObjectRow, IsFreePlace}
use Rattle.object_codec.proofs.Values.{spelled_once, spelled_or_failed, failed_once}

-- a place spells at most one row
pub row_once : (shape : Shape) (widths first : List ℕ) (areas : List (List ℕ)) (place : ℕ) (a b : Row) → SpellsObjectRow shape widths first areas place a
    → SpellsObjectRow shape widths first areas place b → a ≡ b
row_once shape widths first areas place (Row.Object a) (Row.Object b) h k =
    ap Row.Object (spelled_once (shape_fields shape) (parts_of widths first areas place) a b h k)
row_once shape widths first areas place (Row.Object a) _ h k = absurd k
row_once shape widths first areas place _ _ h k = absurd h

-- it does not both spell a row and fail
pub row_or_reason : (shape : Shape) (widths first : List ℕ) (areas : List (List ℕ)) (place : ℕ) (row : Row) (reason : Reason) → SpellsObjectRow shape widths first areas place row
    → FailsObjectRow shape widths first areas place reason → ⊥
row_or_reason shape widths first areas place (Row.Object values) reason h k =
    spelled_or_failed (shape_fields shape) (parts_of widths first areas place) values reason h k
row_or_reason shape widths first areas place _ reason h k = h

-- it fails for at most one reason
pub reason_once : (shape : Shape) (widths first : List ℕ) (areas : List (List ℕ)) (place : ℕ) (a b : Reason) → FailsObjectRow shape widths first areas place a
    → FailsObjectRow shape widths first areas place b → a ≡ b
reason_once shape widths first areas place a b h k = failed_once (shape_fields shape) (parts_of widths first areas place) a b h k

-- the reader answers a row exactly where the place spells it
pub row_exact : (shape : Shape) (widths first : List ℕ) (areas : List (List ℕ)) (place : ℕ) (result : Result Row PlaceFault) → TellsObjectRow shape widths first areas place result
    → (row : Row) → Yields IsFreePlace result (Ok row) (SpellsObjectRow shape widths first areas place row)
row_exact shape widths first areas place (Ok found) told row = (
  λ e. let same : found ≡ row = cc in subst (λ r. SpellsObjectRow shape widths first areas place r) same told,
  λ h. inl (ap Ok (row_once shape widths first areas place found row told h)),
)
row_exact shape widths first areas place (Err (PlaceFault.Bad reason)) told row = (λ e. absurd cc, λ h. absurd (row_or_reason shape widths first areas place row reason h told))
row_exact shape widths first areas place (Err PlaceFault.Memory) told row = (λ e. absurd cc, λ h. inr tt)

-- and a reason exactly where the place fails for it
pub reason_exact : (shape : Shape) (widths first : List ℕ) (areas : List (List ℕ)) (place : ℕ) (result : Result Row PlaceFault) → TellsObjectRow shape widths first areas place result
    → (reason : Reason) → Yields IsFreePlace result (Err (PlaceFault.Bad reason)) (FailsObjectRow shape widths first areas place reason)
reason_exact shape widths first areas place (Ok found) told reason = (λ e. absurd cc, λ h. absurd (row_or_reason shape widths first areas place found reason told h))
reason_exact shape widths first areas place (Err (PlaceFault.Bad found)) told reason = (
  λ e. let same : found ≡ reason = cc in subst (λ r. FailsObjectRow shape widths first areas place r) same told,
  λ h. inl (ap (λ r. Err (PlaceFault.Bad r)) (reason_once shape widths first areas place found reason told h)),
)
reason_exact shape widths first areas place (Err PlaceFault.Memory) told reason = (λ e. absurd cc, λ h. inr tt)

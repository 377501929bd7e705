-- The bytes of a STRING, unit by unit.
use Rattle.std.proofs.Common.{◌≡◌, ℕ, ◌^◌, ◌<◌, ◌≤◌, List, ◌++◌, length, drop, Result, Ok, Err, inl, inr, sym, ◌∙◌, ap, subst, arith}
use Rattle.hol_varint.specs.Varint.{varint_bytes, VintStandsAt}
use Rattle.hol_varint.specs.TextUnits.{AreUnitsIn, IsFreeUnits, TellsUnits}
use Rattle.hol_varint.specs.Yields.{Yields}
use Rattle.hol_varint.specs.declared.fault.UnitsFault.{UnitsFault}
use Rattle.hol_varint.specs.declared.fault.UnitsFault.TheVariants.{BadText, Memory}
use Rattle.hol_varint.proofs.Runs.{codes_once}
use Rattle.hol_varint.proofs.Varints.{stands_once}
use Rattle.hol_varint.proofs.VarWriting.{varint_code, begins_stands}

-- a number that is no unit stands there, so no unit does
pub unit_over : (bytes : List ℕ) (place number next : ℕ) → place ≤ length bytes → VintStandsAt bytes place number next → 2 ^ 16 ≤ number → (unit : ℕ) (behind : List ℕ) → unit < 2 ^ 16 → drop place bytes ≡ varint_bytes unit ++ behind → ⊥
unit_over bytes place number next within stands over unit behind small begins =
    let same = stands_once (2 ^ 32) bytes place number next stands unit _ (begins_stands (2 ^ 32) bytes place unit behind within begins (omega arith)) in
    let number_is = same.0 in
    omega arith

pub found_units : (bytes : List ℕ) (r : Result (List ℕ) UnitsFault) → TellsUnits bytes r → (units : List ℕ) → Yields IsFreeUnits r (Ok units) (AreUnitsIn bytes units)
found_units bytes (Ok us) tells units = (
  λ e. let us_is : us ≡ units = cc in subst (AreUnitsIn bytes) us_is tells,
  λ are. inl (ap Ok (codes_once varint_bytes varint_code us units tells.0 are.0 (sym tells.1 ∙ are.1))),
)
found_units bytes (Err BadText) tells units = (λ e. absurd cc, λ are. absurd (tells units are))
found_units bytes (Err Memory) tells units = (λ e. absurd cc, λ are. inr tt)

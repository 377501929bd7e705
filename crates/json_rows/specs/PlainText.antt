-- Units that stand in JSON as they are.
use Rattle.std.specs.Prelude.{◌≢◌, ◌≤◌, ℕ}

-- The unit is printable ASCII, and neither a quotation mark nor a backslash.
abbrev pub IsPlainUnit : ℕ → Type 0
IsPlainUnit unit = (32 ≤ unit) × (unit ≤ 126) × (unit ≢ 34) × (unit ≢ 92)

-- JSON values that can be written: those in which no number has a fraction or an exponent.
use Rattle.std.specs.Prelude.{◌≡◌, false}
use Rattle.serde_json.specs.View.{view}
use Rattle.serde_json.specs.Written.{has_float}
use Rattle.serde_json.specs.declared.value.Value.{Value}

-- No number in the value has a fraction or an exponent.
abbrev pub IsPlain : Value → Type 0
IsPlain value = has_float (view value) ≡ false

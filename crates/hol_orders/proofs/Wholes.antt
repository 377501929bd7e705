-- Numbers of JSON values.
use Rattle.std.proofs.Common.{◌≡◌, ◌≢◌, ℕ, Option, Some, None}
use Rattle.std.specs.Prelude.{MatchOption, option_and_then}
use Rattle.serde_json.specs.Data.{unsigned, negative, float, Data, null, boolean, number, string, array, object}
use Rattle.serde_json.specs.Find.{as_number, as_u64}
use Rattle.hol_orders.specs.Parts.{whole}

-- the whole number that a value is
pub whole_number : (json : Data) (found : Option ℕ) → found ≡ option_and_then as_u64 (as_number json) →
    MatchOption found ((n : ℕ) → whole n ≢ json) (λ n. whole n ≡ json)
whole_number null None is = λ n e. cc
whole_number null (Some m) is = cc
whole_number (boolean b) None is = λ n e. cc
whole_number (boolean b) (Some m) is = cc
whole_number (number (unsigned k)) None is = cc
whole_number (number (unsigned k)) (Some m) is = cc
whole_number (number (negative z)) None is = λ n e. cc
whole_number (number (negative z)) (Some m) is = cc
whole_number (number (float x)) None is = λ n e. cc
whole_number (number (float x)) (Some m) is = cc
whole_number (string s) None is = λ n e. cc
whole_number (string s) (Some m) is = cc
whole_number (array ds) None is = λ n e. cc
whole_number (array ds) (Some m) is = cc
whole_number (object ms) None is = λ n e. cc
whole_number (object ms) (Some m) is = cc

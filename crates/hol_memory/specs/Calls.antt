-- Objects in memory: their calls are numbered from 1, and the calls of given numbers fail.
use Rattle.std.specs.Prelude.{ℕ, ◌+◌, ◌-◌, ◌^◌, min, Bool, true, false, List, Result, Ok, Err, if◌then◌else◌, refl}
use Rattle.std.specs.Coded.{Coded, code_by, coded×, coded_ℕ, coded_list}
use Rattle.std.specs.List.{Contains}
use Rattle.hol_io.specs.declared.store.PutFault.{PutFault}
use Rattle.hol_io.specs.declared.store.PutFault.TheVariants.{Failed, Memory}

-- The numbers of the calls that fail, how many calls were made, and how many of them failed.
pub record Calls : Type 0 where
  pub fails : List ℕ
  pub made : ℕ
  pub faults : ℕ

-- Calls are told apart by their fields.
abbrev pub calls_code : Coded Calls
calls_code =
    code_by (List ℕ × (ℕ × ℕ)) (coded× (coded_list coded_ℕ) (coded× coded_ℕ coded_ℕ)) (λ c. (c.fails, (c.made, c.faults)))
    (λ p. record { fails = p.0; made = p.1.0; faults = p.1.1 }) (λ _. refl)

-- No call was made, and those of these numbers fail.
abbrev pub first_calls : List ℕ → Calls
first_calls fails = record { fails = fails; made = 0; faults = 0 }

-- One more, up to the last 64-bit number.
abbrev pub one_more : ℕ → ℕ
one_more count = min (count + 1) (2 ^ 64 - 1)

-- The next call is one of those that fail.
abbrev pub FailsNext : Calls → Type 0
FailsNext calls = Contains calls.fails (one_more calls.made)

-- One call was made, and it failed or not.
abbrev pub after_call : Calls → Bool → Calls
after_call calls failed =
    record { fails = calls.fails; made = one_more calls.made; faults = (if failed then one_more calls.faults else calls.faults) }

-- Whether the answer is the failure.
abbrev pub is_failed : {T : Type 0} → Result T PutFault → Bool
is_failed (Ok value) = false
is_failed (Err Failed) = true
is_failed (Err Memory) = false

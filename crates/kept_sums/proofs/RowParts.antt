-- What one row has in its parts.
use Rattle.std.proofs.Common.{◌≡◌, ◌∙◌, ◌-◌, ◌<◌, ℕ, zero, suc, List, [], ◌∷◌, Option, Some, None, get_or, length, max, fold, slice_get, inl, inr, refl, sym, ap, arith, append-nil}
use Rattle.std.specs.Option.{option_to_list}
use Rattle.std.proofs.lemmas.Bool.{cases_eq}
use Rattle.std.proofs.lemmas.List.{get_or_past}
use Rattle.bit_array.specs.Digits.{digit_count}
use Rattle.row_model.specs.declared.row.Row.{Row}
use Rattle.row_model.specs.declared.row.Value.{Value}
use Rattle.object_codec.specs.Stored.{value_at, value_bytes}
use Rattle.object_codec.specs.Widths.{byte_count, most_bits, value_bits}
use Rattle.bucket_codec.specs.Packed.{pairs_of}
use Rattle.bucket_codec.specs.Widths.{values_of}
use Rattle.kept_sums.specs.Sums.{bucket_bits}

-- ---- the value of a field

pub most_there : (values : List Value) (part bits : ℕ) (value : Value) → slice_get values part ≡ Some value → bits ≡ value_bits value → bits ≡ most_bits (value_at part values)
most_there values part bits value at is = let one : bits ≡ most_bits (value ∷ []) = omega (arith, is) in one ∙ ap (λ (found : Option Value). most_bits (option_to_list found)) (sym at)

pub most_none : (values : List Value) (part : ℕ) → slice_get values part ≡ None → 0 ≡ most_bits (value_at part values)
most_none values part at = ap (λ (found : Option Value). most_bits (option_to_list found)) (sym at)

pub bytes_there : (values : List Value) (part bytes : ℕ) (value : Value) → slice_get values part ≡ Some value → bytes ≡ length (value_bytes value) → bytes ≡ byte_count (value_at part values)
bytes_there values part bytes value at is =
    is ∙ ap (λ (bs : List ℕ). length bs) (sym (append-nil (value_bytes value))) ∙ ap (λ (found : Option Value). byte_count (option_to_list found)) (sym at)

pub bytes_none : (values : List Value) (part : ℕ) → slice_get values part ≡ None → 0 ≡ byte_count (value_at part values)
bytes_none values part at = ap (λ (found : Option Value). byte_count (option_to_list found)) (sym at)

-- ---- a set or a map

pub values_part : (part : ℕ) (row : Row) → (part ≡ 0 → ⊥) → (part ≡ 1 → ⊥) → bucket_bits part row ≡ digit_count (fold max 0 (values_of (pairs_of row)))
values_part zero row some more = absurd (some refl)
values_part (suc zero) row some more = absurd (more refl)
values_part (suc (suc part)) row some more = refl

-- ---- the last counter above 0

pub last_start : (counts : List ℕ) → length counts ≡ 65 → (n : ℕ) → 64 < n → get_or counts n 0 ≡ 0
last_start counts long n past = get_or_past counts n 0 (omega (arith, long, past))

pub last_lower : (counts : List ℕ) (bits : ℕ) → 0 < bits → get_or counts bits 0 ≡ 0 → ((n : ℕ) → bits < n → get_or counts n 0 ≡ 0) → (n : ℕ) → bits - 1 < n → get_or counts n 0 ≡ 0
last_lower counts bits some here none n above =
    elim (cases_eq n bits) [
      | inl same ↦ ap (λ k. get_or counts k 0) same ∙ here
      | inr apart ↦ none n (omega (arith, above, apart))
    ]

-- End offsets from which the bytes of a record are taken off value by value.
use Rattle.std.proofs.Common.{◌≡◌, ◌≢◌, inl, inr, set, get_or-set_other, get_or-set_same, below_more, ℕ, ◌+◌, ◌-◌, ◌^◌, ◌<◌, ◌≤◌, min, List, length, get_or, refl, ap, ◌∙◌, arith}
use Rattle.std.specs.Prelude.{slice_index}
use Rattle.std.specs.Option.{option_map_or}
use Rattle.std.proofs.lemmas.Bool.{cases_lt}
use Rattle.std.proofs.lemmas.List.{length-set}
use Rattle.std.proofs.lemmas.Option.{slice_get_past, slice_get_read}
use Rattle.row_model.specs.declared.row.Value.{Value}
use Rattle.type_rows.specs.WordsHeld.{value_bytes}
use Rattle.type_rows.specs.Ends.{end_before}

-- The values below an index are taken off.
pub record Taking (values : List Value) (ends now : List ℕ) (index : ℕ) : Type 0 where
  pub done : (f : ℕ) → f < index → slice_index now f ≡ end_before ends values f
  pub rest : (f : ℕ) → index ≤ f → slice_index now f ≡ slice_index ends f
  pub long : length now ≡ length ends

pub begun : (values : List Value) (ends : List ℕ) → Taking values ends ends 0
begun values ends = record { done = λ f below. absurd (omega arith); rest = λ f above. refl; long = refl }

-- One more is taken off.
pub taken_more : (values : List Value) (ends now : List ℕ) (index : ℕ) (value : Value) (count end : ℕ) → Taking values ends now index → index < length values → length values ≤ length ends → value ≡ get_or values index value → get_or now index 0 < 2 ^ 64
    → count ≡ min (value_bytes value) (2 ^ 64 - 1) → end ≡ get_or now index 0 - count → Taking values ends (set now index end) (index + 1)
taken_more values ends now index value count end t inside enough is small counted less =
    let room : index < length now = omega (arith, t.long, inside, enough) in
    let before : get_or now index 0 ≡ get_or ends index 0 = t.rest index (omega arith) in
    let bytes = ap (λ o. option_map_or value_bytes o 0) (slice_get_read values (length values) index value refl inside is) in
    let here : end ≡ end_before ends values index = omega (arith, before, bytes, small, counted, less) in
    record {
      done = below_more _ _ (λ f lt. let ne : f ≢ index = omega arith in get_or-set_other now index f end 0 ne ∙ t.done f lt) (get_or-set_same now index end 0 room ∙ here);
      rest = λ f le. let ne : f ≢ index = omega arith in get_or-set_other now index f end 0 ne ∙ t.rest f (omega arith);
      long = length-set now index end ∙ t.long;
    }

-- All are taken off.
pub all_taken : (values : List Value) (ends now : List ℕ) (index : ℕ) → Taking values ends now index → length values ≤ index → (f : ℕ) → slice_index now f ≡ end_before ends values f
all_taken values ends now index t over f = elim (cases_lt f index) [
  | inl lt ↦ t.done f lt
  | inr le ↦ (let none = ap (λ o. option_map_or value_bytes o 0) (slice_get_past values f (omega arith)) in let same = t.rest f le in omega (arith, none, same))
]

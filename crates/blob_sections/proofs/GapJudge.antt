-- Bytes are an ordinal run of one list, or of none.
use Rattle.std.proofs.Common.{◌≡◌, ◌≢◌, ◌⊎◌, ◌≤◌, ◌<◌, ◌+◌, ◌-◌, ◌*◌, ◌^◌, ℕ, zero, suc, List, [], ◌∷◌, ◌++◌, get_or, length, Ok, inl, inr, refl, ◌∙◌, sym, ap, subst, arith, append_assoc, length-append}
use Rattle.std.proofs.lemmas.Bool.{cases_lt, cases_eq}
use Rattle.std.proofs.lemmas.List.{append_cancel_left}
use Rattle.hol_varint.specs.Varint.{SpellsOn, IsVarint}
use Rattle.hol_varint.proofs.Varints.{varint_once}
use Rattle.ordinal_set.specs.Gaps.{GapsAfter, Gaps}
use Rattle.ordinal_set.proofs.GapRuns.{run_found}
use Rattle.schema_model.specs.declared.reason.Reason.{Reason}
use Rattle.schema_model.specs.declared.reason.Reason.TheVariants.{BadVarint}
use Rattle.blob_grammar.specs.Decided.{IsJudge}
use Rattle.blob_grammar.specs.Words.{StopsLater}
use Rattle.blob_grammar.proofs.SomeNumbers.{grouped, stopped}

-- No number of variable length begins the bytes.
abbrev HasNoNumber : List ℕ → Type 0
HasNoNumber bytes = (high : ℕ) (vint behind : List ℕ) (n : ℕ) → bytes ≡ vint ++ behind → SpellsOn high vint n → ⊥

none_in_nothing : HasNoNumber []
none_in_nothing high [] behind n is spelled = spelled
none_in_nothing high (c ∷ cs) behind n is spelled = cc

-- where a byte goes on, and none begins behind it
none_behind : (b : ℕ) (bytes : List ℕ) → 128 ≤ b → HasNoNumber bytes → HasNoNumber (b ∷ bytes)
none_behind b bytes goes_on none high [] behind n is spelled = spelled
none_behind b bytes goes_on none high (c ∷ []) behind n is spelled = let same : b ≡ c = cc in omega (arith, same, goes_on, spelled.0)
none_behind b bytes goes_on none high (c ∷ d ∷ ds) behind n is spelled =
    let rest : bytes ≡ d ∷ (ds ++ behind) = cc in
    none (high * 128 + (c - 128)) (d ∷ ds) behind n rest spelled.2

-- where the first number is no byte
none_past_bytes : (b : ℕ) (bytes : List ℕ) → 256 ≤ b → HasNoNumber (b ∷ bytes)
none_past_bytes b bytes over high [] behind n is spelled = spelled
none_past_bytes b bytes over high (c ∷ []) behind n is spelled = let same : b ≡ c = cc in omega (arith, same, over, spelled.0)
none_past_bytes b bytes over high (c ∷ d ∷ ds) behind n is spelled = let same : b ≡ c = cc in omega (arith, same, over, spelled.1)

-- a byte ends a number, or none begins
stops_or_none : (bytes : List ℕ) → StopsLater bytes ⊎ HasNoNumber bytes
stops_or_none [] = inr none_in_nothing
stops_or_none (b ∷ bytes) = elim (cases_lt b 128) [
  | inl small ↦ inl (record { front = []; stop = b; behind = bytes; is = refl; on = tt; ends = small })
  | inr high ↦ elim (cases_lt b 256) [
    | inr over ↦ inr (none_past_bytes b bytes over)
    | inl byte ↦ elim (stops_or_none bytes) [
      | inr none ↦ inr (none_behind b bytes high none)
      | inl s ↦ inl (record {
        front = b ∷ s.front;
        stop = s.stop;
        behind = s.behind;
        is = ap (λ (xs : List ℕ). b ∷ xs) s.is;
        on = (high, byte, s.on);
        ends = s.ends;
      })
    ]
  ]
]

-- The bytes begin with a VInt.
record BeginsWithVint (bytes : List ℕ) : Type 0 where
  vint : List ℕ
  behind : List ℕ
  gap : ℕ
  begins : bytes ≡ vint ++ behind
  spelled : IsVarint vint gap
  below : gap < 2 ^ 32

-- They begin with none.
abbrev HasNoVint : List ℕ → Type 0
HasNoVint bytes = (vint behind : List ℕ) (gap : ℕ) → bytes ≡ vint ++ behind → IsVarint vint gap → gap < 2 ^ 32 → ⊥

first_byte : (high : ℕ) (vint behind : List ℕ) (n : ℕ) → SpellsOn high vint n → get_or (vint ++ behind) 0 0 ≡ get_or vint 0 0
first_byte high [] behind n p = absurd p
first_byte high (b ∷ bs) behind n p = refl

null_begins : (bytes : List ℕ) → get_or bytes 0 0 ≡ 128 → HasNoVint bytes
null_begins bytes null vint behind gap is spelled below =
    spelled.first (sym (first_byte 0 vint behind gap spelled.groups) ∙ (ap (λ (xs : List ℕ). get_or xs 0 0) (sym is) ∙ null))

long_begins : (bytes : List ℕ) (s : StopsLater bytes) → get_or bytes 0 0 ≢ 128 → 2 ^ 32 ≤ grouped 0 s.front * 128 + s.stop → HasNoVint bytes
long_begins bytes s first over vint behind gap is spelled below =
    let same = varint_once (s.front ++ s.stop ∷ []) vint s.behind behind (grouped 0 s.front * 128 + s.stop) gap (stopped bytes s first) spelled
    (append_assoc s.front (s.stop ∷ []) s.behind ∙ (sym s.is ∙ is)) in
    omega (arith, over, below, same.1)

-- they begin with one, or with none
vint_or : (bytes : List ℕ) → BeginsWithVint bytes ⊎ HasNoVint bytes
vint_or bytes = elim (cases_eq (get_or bytes 0 0) 128) [
  | inl null ↦ inr (null_begins bytes null)
  | inr first ↦ elim (stops_or_none bytes) [
    | inr none ↦ inr (λ vint behind gap is spelled below. none 0 vint behind gap is spelled.groups)
    | inl s ↦ elim (cases_lt (grouped 0 s.front * 128 + s.stop) (2 ^ 32)) [
      | inr over ↦ inr (long_begins bytes s first over)
      | inl below ↦ inl (record {
        vint = s.front ++ s.stop ∷ [];
        behind = s.behind;
        gap = grouped 0 s.front * 128 + s.stop;
        begins = s.is ∙ sym (append_assoc s.front (s.stop ∷ []) s.behind);
        spelled = stopped bytes s first;
        below = below;
      })
    ]
  ]
]

some_byte : (vint : List ℕ) (gap : ℕ) → IsVarint vint gap → 0 < length vint
some_byte [] gap spelled = absurd spelled.groups
some_byte (b ∷ bs) gap spelled = omega arith

-- no run begins where no VInt does
no_run : (before b : ℕ) (bs : List ℕ) → HasNoVint (b ∷ bs) → (list : List ℕ) → GapsAfter before (b ∷ bs) list → ⊥
no_run before b bs none [] h = cc
no_run before b bs none (n ∷ rest) h = none h.1.vint h.0 h.1.gap h.1.begins h.1.spelled h.1.below

-- nor where none goes on behind the first one
no_rest : (before b : ℕ) (bs : List ℕ) (f : BeginsWithVint (b ∷ bs)) → ((list : List ℕ) → GapsAfter (before + f.gap) f.behind list → ⊥) →
    (list : List ℕ) → GapsAfter before (b ∷ bs) list → ⊥
no_rest before b bs f none [] h = cc
no_rest before b bs f none (n ∷ rest) h =
    let split : f.vint ++ f.behind ≡ h.1.vint ++ h.0 = sym f.begins ∙ h.1.begins in
    let same = varint_once f.vint h.1.vint f.behind h.0 f.gap h.1.gap f.spelled h.1.spelled split in
    let behind : f.behind ≡ h.0 = append_cancel_left f.vint f.behind h.0 (split ∙ ap (λ (v : List ℕ). v ++ h.0) (sym same.0)) in
    let number : n ≡ before + f.gap = h.1.is ∙ ap (λ gap. before + gap) (sym same.1) in
    none rest (subst (λ m. GapsAfter m f.behind rest) number (subst (λ (bytes : List ℕ). GapsAfter n bytes rest) (sym behind) h.2))

-- a run of some list, or of none
run_or : (fuel before : ℕ) (bytes : List ℕ) → length bytes ≤ fuel → ((list : List ℕ) × GapsAfter before bytes list) ⊎ ((list : List ℕ) → GapsAfter before bytes list → ⊥)
run_or zero before [] enough = inl ([], refl)
run_or zero before (b ∷ bs) enough = absurd (omega (arith, enough))
run_or (suc fuel) before [] enough = inl ([], refl)
run_or (suc fuel) before (b ∷ bs) enough = elim (vint_or (b ∷ bs)) [
  | inr none ↦ inr (no_run before b bs none)
  | inl f ↦ elim (run_or fuel (before + f.gap) f.behind (omega (arith, enough, ap (λ (xs : List ℕ). length xs) f.begins, length-append f.vint f.behind, some_byte f.vint f.gap f.spelled))) [
    | inr none ↦ inr (no_rest before b bs f none)
    | inl r ↦ inl (
      (before + f.gap) ∷ r.0,
      (f.behind, record { gap = f.gap; vint = f.vint; begins = f.begins; spelled = f.spelled; below = f.below; is = refl }, r.1),
    )
  ]
]

gaps_once : (bytes a b : List ℕ) → Gaps bytes a → Gaps bytes b → a ≡ b
gaps_once bytes a b p q = elim ((run_found bytes (Ok a) p b).1 q) [ inl e ↦ cc | inr free ↦ absurd free ]

-- what an ordinal run means: its list, or none
pub judge_gaps : IsJudge Gaps (λ (bytes : List ℕ) (why : Reason). ((list : List ℕ) → Gaps bytes list → ⊥) × (why ≡ BadVarint))
judge_gaps = record {
  one = λ bytes v w p q. gaps_once bytes v w p q;
  once = λ bytes why because p q. p.1 ∙ sym q.1;
  apart = λ bytes v why p q. q.0 v p;
  some = λ bytes. elim (run_or (length bytes) 0 bytes (omega arith)) [ inl r ↦ inl r | inr none ↦ inr (BadVarint, (none, refl)) ];
}

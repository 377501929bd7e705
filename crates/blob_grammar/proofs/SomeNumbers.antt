-- At each place of a blob a number of variable length stands, or it cannot be read.
use Rattle.std.proofs.Common.{◌≡◌, ◌≢◌, ◌≤◌, ◌<◌, ◌+◌, ◌-◌, ◌*◌, ◌⊎◌, ℕ, List, [], ◌∷◌, ◌++◌, get_or, drop, length, inl, inr, refl, ◌∙◌, sym, ap, arith, append_assoc}
use Rattle.std.proofs.lemmas.Bool.{cases_lt, cases_eq}
use Rattle.std.proofs.lemmas.List.Elements.{All-head, All-tail}
use Rattle.std.proofs.lemmas.List.{get_or-drop, length-drop}
use Rattle.hol_varint.specs.Varint.{GoOn, SpellsOn, IsVarint, VarStandsBelow, varint_bytes}
use Rattle.hol_varint.proofs.VarWriting.{varint_only, begins_stands}
use Rattle.schema_model.specs.declared.reason.Reason.TheVariants.{Truncated, BadVarint}
use Rattle.blob_grammar.specs.Decided.{AreBytes, StandsThere, StuckThere}
use Rattle.blob_grammar.specs.Words.{VarFails, StopsLater}

-- what the groups of the bytes make, behind those that make high
abbrev pub grouped : ℕ → List ℕ → ℕ
grouped high [] = high
grouped high (b ∷ bs) = grouped (high * 128 + (b - 128)) bs

-- a front that goes on and a byte that ends it spell a number
pub spells-push : (high : ℕ) (bs : List ℕ) (b : ℕ) → GoOn bs → b < 128 → SpellsOn high (bs ++ b ∷ []) (grouped high bs * 128 + b)
spells-push high [] b on last = (last, refl)
spells-push high (c ∷ []) b on last = (on.0, on.1, spells-push (high * 128 + (c - 128)) [] b tt last)
spells-push high (c ∷ d ∷ ds) b on last = (on.0, on.1, spells-push (high * 128 + (c - 128)) (d ∷ ds) b on.2 last)

-- the bytes behind a place are bytes
pub bytes_behind : (bytes : List ℕ) (at : ℕ) → AreBytes bytes → AreBytes (drop at bytes)
bytes_behind bytes at all = λ k d within. rw (get_or-drop at bytes k d) (all (at + k) d (omega (arith, within, length-drop at bytes)))

-- all bytes go on, or one ends the number
pub stops_or : (bytes : List ℕ) → AreBytes bytes → GoOn bytes ⊎ StopsLater bytes
stops_or [] all = inl tt
stops_or (b ∷ bytes) all = elim (cases_lt b 128) [
  | inl small ↦ inr (record { front = []; stop = b; behind = bytes; is = refl; on = tt; ends = small })
  | inr high ↦ elim (stops_or bytes (All-tail (λ byte. byte < 256) b bytes all)) [
    | inl on ↦ inl (high, All-head (λ byte. byte < 256) b bytes all, on)
    | inr s ↦ inr (record {
      front = b ∷ s.front;
      stop = s.stop;
      behind = s.behind;
      is = ap (λ (xs : List ℕ). b ∷ xs) s.is;
      on = (high, All-head (λ byte. byte < 256) b bytes all, s.on);
      ends = s.ends;
    })
  ]
]

front_same : (front : List ℕ) (stop : ℕ) (behind : List ℕ) → get_or (front ++ stop ∷ []) 0 0 ≡ get_or (front ++ stop ∷ behind) 0 0
front_same [] stop behind = refl
front_same (b ∷ front) stop behind = refl

-- a number that ends is spelled
pub stopped : (rest : List ℕ) (s : StopsLater rest) → get_or rest 0 0 ≢ 128 → IsVarint (s.front ++ s.stop ∷ []) (grouped 0 s.front * 128 + s.stop)
stopped rest s first = record {
  groups = spells-push 0 s.front s.stop s.on s.ends;
  first = λ e. first (ap (λ (xs : List ℕ). get_or xs 0 0) s.is ∙ (sym (front_same s.front s.stop s.behind) ∙ e));
}

stands_or_long : (limit : ℕ) (bytes : List ℕ) (at : ℕ) → at ≤ length bytes → (s : StopsLater (drop at bytes)) → get_or (drop at bytes) 0 0 ≢ 128 →
    StandsThere (VarStandsBelow limit) bytes at ⊎ StuckThere (λ bytes at place why. VarFails limit (drop at bytes) why × (place ≡ at)) bytes at
stands_or_long limit bytes at within s first =
    let number = grouped 0 s.front * 128 + s.stop in
    let begins : drop at bytes ≡ (s.front ++ s.stop ∷ []) ++ s.behind = s.is ∙ sym (append_assoc s.front (s.stop ∷ []) s.behind) in
    elim (cases_lt number limit) [
      | inl below ↦ (let stands = begins_stands limit bytes at number s.behind within
          (begins ∙ ap (λ (xs : List ℕ). xs ++ s.behind) (varint_only (s.front ++ s.stop ∷ []) number (stopped (drop at bytes) s first))) below in
          inl (number, at + length (varint_bytes number), stands, stands.within))
      | inr over ↦ inr (
        at,
        BadVarint,
        (
          inr (
            inr (record {
              bytes = s.front ++ s.stop ∷ [];
              behind = s.behind;
              number = number;
              begins = begins;
              spelled = stopped (drop at bytes) s first;
              over = over;
            }),
            refl,
          ),
          refl,
        ),
      )
    ]

-- a number stands, or it cannot be read
pub some_varint : (limit : ℕ) (bytes : List ℕ) (at : ℕ) → AreBytes bytes → at ≤ length bytes →
    StandsThere (VarStandsBelow limit) bytes at ⊎ StuckThere (λ bytes at place why. VarFails limit (drop at bytes) why × (place ≡ at)) bytes at
some_varint limit bytes at all within = elim (cases_eq (get_or (drop at bytes) 0 0) 128) [
  | inl null ↦ inr (at, BadVarint, (inr (inl null, refl), refl))
  | inr first ↦ elim (stops_or (drop at bytes) (bytes_behind bytes at all)) [
    | inl on ↦ inr (at, Truncated, (inl (record { on = on; first = first }, refl), refl))
    | inr s ↦ stands_or_long limit bytes at within s first
  ]
]

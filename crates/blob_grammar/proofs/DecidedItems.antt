-- Each item of a blob is decided, and so are the schemas and the header that are made of them.
use Rattle.std.proofs.Common.{◌≡◌, ◌<◌, ◌⊎◌, ℕ, List, length, take, drop, ◌+◌, ◌≤◌, Ok, Err, inl, inr, refl, ◌∙◌, sym, ap, arith}
use Rattle.std.specs.Int.{Width, byte_len, from_be_bytes}
use Rattle.hol_varint.specs.Varint.{VarStandsBelow, VarEndsInside, IsNullVar, IsLongVar}
use Rattle.hol_varint.specs.JavaUtf.{UtfStandsAt, UtfEndsInside, IsBadUtf}
use Rattle.hol_varint.specs.declared.fault.VarFault.TheVariants.{Short}
use Rattle.hol_varint.proofs.Varints as varints
use Rattle.hol_varint.proofs.Varints.{stands_once, stands_inside, stands_null, stands_long}
use Rattle.hol_varint.proofs.JavaTexts as texts
use Rattle.schema_model.specs.declared.reason.Reason.{Reason}
use Rattle.schema_model.specs.declared.reason.Reason.TheVariants.{Truncated, BadName, TrailingBytes}
use Rattle.blob_grammar.specs.Decided.{IsDecided}
use Rattle.blob_grammar.specs.Words.{VarFails, UtfFails}
use Rattle.blob_grammar.proofs.SomeNumbers.{some_varint}
use Rattle.blob_grammar.proofs.SomeTexts.{some_units}
use Rattle.std.proofs.lemmas.Bool.{cases_lt}

pub decided_fixed : (w : Width) → IsDecided (λ bytes at v next. (next ≡ at + byte_len w) × (next ≤ length bytes) × (v ≡ from_be_bytes w (take (byte_len w) (drop at bytes))))
    (λ bytes at place why. (length bytes < at + byte_len w) × (place ≡ at) × (why ≡ Truncated))
decided_fixed w = record {
  one = λ bytes at v u next end p q. (p.2 ∙ sym q.2, p.0 ∙ sym q.0);
  once = λ bytes at place other why because p q. (p.1 ∙ sym q.1, p.2 ∙ sym q.2);
  apart = λ bytes at v next place why p q. omega (arith, p.0, p.1, q.0);
  some = λ bytes at all within. elim (cases_lt (length bytes) (at + byte_len w)) [
    | inl less ↦ inr (at, Truncated, (less, refl, refl))
    | inr there ↦ inl (from_be_bytes w (take (byte_len w) (drop at bytes)), at + byte_len w, (refl, there, refl), there)
  ];
}

pub decided_run : (n : ℕ) → IsDecided (λ bytes at v next. (next ≡ at + n) × (next ≤ length bytes) × (v ≡ take n (drop at bytes)))
    (λ bytes at place why. (length bytes < at + n) × (place ≡ at) × (why ≡ Truncated))
decided_run n = record {
  one = λ bytes at v u next end p q. (p.2 ∙ sym q.2, p.0 ∙ sym q.0);
  once = λ bytes at place other why because p q. (p.1 ∙ sym q.1, p.2 ∙ sym q.2);
  apart = λ bytes at v next place why p q. omega (arith, p.0, p.1, q.0);
  some = λ bytes at all within. elim (cases_lt (length bytes) (at + n)) [
    | inl less ↦ inr (at, Truncated, (less, refl, refl))
    | inr there ↦ inl (take n (drop at bytes), at + n, (refl, there, refl), there)
  ];
}

pub decided_end : IsDecided {V = Unit} (λ bytes at v next. (at ≡ length bytes) × (next ≡ at)) (λ bytes at place why. (at < length bytes) × (place ≡ at) × (why ≡ TrailingBytes))
decided_end = record {
  one = λ bytes at v u next end p q. (refl, p.1 ∙ sym q.1);
  once = λ bytes at place other why because p q. (p.1 ∙ sym q.1, p.2 ∙ sym q.2);
  apart = λ bytes at v next place why p q. omega (arith, p.0, q.0);
  some = λ bytes at all within. elim (cases_lt at (length bytes)) [
    | inl less ↦ inr (at, TrailingBytes, (less, refl, refl))
    | inr past ↦ (let whole : at ≡ length bytes = omega (arith, past, within) in inl (tt, at, (whole, refl), within))
  ];
}

inside_or : (limit : ℕ) (rest : List ℕ) → VarEndsInside rest → IsNullVar rest ⊎ IsLongVar limit rest → ⊥
inside_or limit rest inside (inl null) = inside.first null
inside_or limit rest inside (inr long) = let e = (varints.long limit rest 0 (Err Short) inside).1 long in absurd (cc)

once_varint : (limit : ℕ) (rest : List ℕ) (why because : Reason) → VarFails limit rest why → VarFails limit rest because → why ≡ because
once_varint limit rest why because (inl p) (inl q) = p.1 ∙ sym q.1
once_varint limit rest why because (inl p) (inr q) = absurd (inside_or limit rest p.0 q.0)
once_varint limit rest why because (inr p) (inl q) = absurd (inside_or limit rest q.0 p.0)
once_varint limit rest why because (inr p) (inr q) = p.1 ∙ sym q.1

apart_varint : (limit : ℕ) (bytes : List ℕ) (at number next : ℕ) (why : Reason) → VarStandsBelow limit bytes at number next → VarFails limit (drop at bytes) why → ⊥
apart_varint limit bytes at number next why p (inl q) = stands_inside limit bytes at number next p q.0
apart_varint limit bytes at number next why p (inr (inl null, is)) = stands_null limit bytes at number next p null
apart_varint limit bytes at number next why p (inr (inr long, is)) = stands_long limit bytes at number next p long

pub decided_varint : (limit : ℕ) → IsDecided (VarStandsBelow limit) (λ bytes at place why. VarFails limit (drop at bytes) why × (place ≡ at))
decided_varint limit = record {
  one = λ bytes at v u next end p q. stands_once limit bytes at v next p u end q;
  once = λ bytes at place other why because p q. (p.1 ∙ sym q.1, once_varint limit (drop at bytes) why because p.0 q.0);
  apart = λ bytes at v next place why p q. apart_varint limit bytes at v next why p q.0;
  some = λ bytes at all within. some_varint limit bytes at all within;
}

utf_once : (bytes : List ℕ) (at : ℕ) (us vs : List ℕ) (j k : ℕ) → UtfStandsAt bytes at us j → UtfStandsAt bytes at vs k → (us ≡ vs) × (j ≡ k)
utf_once bytes at us vs j k p q = elim ((texts.found bytes at (Ok (us, j)) p vs k).1 q) [
  | inl e ↦ let same : ◌≡◌ {A = List ℕ × ℕ} (us, j) (vs, k) = cc in (ap (λ (r : List ℕ × ℕ). r.0) same, ap (λ (r : List ℕ × ℕ). r.1) same)
  | inr free ↦ absurd free
]

utf_inside : (bytes : List ℕ) (at : ℕ) (us : List ℕ) (j : ℕ) → UtfStandsAt bytes at us j → UtfEndsInside (drop at bytes) → ⊥
utf_inside bytes at us j p inside = elim ((texts.short bytes at (Ok (us, j)) p).1 inside) [ inl e ↦ absurd (cc) | inr free ↦ free ]

utf_bad : (bytes : List ℕ) (at : ℕ) (us : List ℕ) (j : ℕ) → UtfStandsAt bytes at us j → IsBadUtf (drop at bytes) → ⊥
utf_bad bytes at us j p bad = elim ((texts.bad bytes at (Ok (us, j)) p).1 bad) [ inl e ↦ absurd (cc) | inr free ↦ free ]

once_units : (rest : List ℕ) (why because : Reason) → (UtfEndsInside rest × (why ≡ Truncated)) ⊎ (IsBadUtf rest × (why ≡ BadName)) →
    (UtfEndsInside rest × (because ≡ Truncated)) ⊎ (IsBadUtf rest × (because ≡ BadName)) → why ≡ because
once_units rest why because (inl p) (inl q) = p.1 ∙ sym q.1
once_units rest why because (inl p) (inr q) = absurd (omega (arith, p.0, q.0.whole))
once_units rest why because (inr p) (inl q) = absurd (omega (arith, q.0, p.0.whole))
once_units rest why because (inr p) (inr q) = p.1 ∙ sym q.1

apart_units : (bytes : List ℕ) (at : ℕ) (us : List ℕ) (next : ℕ) (why : Reason) → UtfStandsAt bytes at us next →
    (UtfEndsInside (drop at bytes) × (why ≡ Truncated)) ⊎ (IsBadUtf (drop at bytes) × (why ≡ BadName)) → ⊥
apart_units bytes at us next why p (inl q) = utf_inside bytes at us next p q.0
apart_units bytes at us next why p (inr q) = utf_bad bytes at us next p q.0

pub decided_units : IsDecided UtfStandsAt (λ bytes at place why. (place ≡ at) × UtfFails (drop at bytes) why)
decided_units = record {
  one = λ bytes at v u next end p q. utf_once bytes at v u next end p q;
  once = λ bytes at place other why because p q. (p.0 ∙ sym q.0, once_units (drop at bytes) why because p.1 q.1);
  apart = λ bytes at v next place why p q. apart_units bytes at v next why p q.1;
  some = λ bytes at all within. some_units bytes at all within;
}

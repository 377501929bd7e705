-- Reading a number of variable length from the bytes that stand ahead.
use Rattle.std.proofs.Common.{◌≡◌, ◌≢◌, ◌≤◌, ◌<◌, ◌-◌, ◌^◌, ◌⊎◌, ℕ, zero, suc, List, [], ◌∷◌, ◌++◌, get_or, take, drop, length, min, cond, Bool, true, false, Some, Result, Ok, Err, inl, inr, refl, ◌∙◌, subst, sym, ap, arith, length-append, length-drop, append_assoc}
use Rattle.std.specs.Option.{IfSome}
use Rattle.std.specs.Bool.{MatchBool}
use Rattle.std.proofs.lemmas.List.{take-append-drop}
use Rattle.std.proofs.lemmas.Bool.{cases_lt}
use Rattle.std.proofs.lemmas.Grind.{common_steps}
use Rattle.hol_varint.specs.Varint.{GoOn, IsVarint, VarStandsBelow, VarEndsInside, IsNullVar, IsLongVar}
use Rattle.hol_varint.proofs.Varints.{stands_below, stands_over, long_over}
use Rattle.schema_model.specs.declared.reason.Reason.{Reason}
use Rattle.schema_model.specs.declared.reason.Reason.TheVariants.{Truncated, BadVarint}
use Rattle.blob_frame.specs.declared.fault.BlobFault.{BlobFault}
use Rattle.blob_frame.specs.declared.fault.BlobFault.TheVariants as fault
use Rattle.blob_frame.specs.Item.{varint, run}
use Rattle.blob_grammar.specs.Words.{VarFails, StopsLater}
use Rattle.blob_cursor.specs.Scene.{Place, Scene, at_place, moved, IsPlaceIn, Reads}
use Rattle.blob_cursor.specs.Filling.{Fills, Seeks}
use Rattle.blob_cursor.proofs.Chain.{told_stays, stays_then, reads_missed, reads_ok, reads_bad, reads_err}
use Rattle.blob_cursor.proofs.Fixed.{place_in, reads_ahead}
use Rattle.blob_cursor.proofs.Seeking.{long_run}

-- each byte of those that go on has its high bit set
GoOn-at : (bytes : List ℕ) (i : ℕ) → GoOn bytes → i < length bytes → 128 ≤ get_or bytes i 0
GoOn-at [] i on h = absurd (omega arith)
GoOn-at (b ∷ bytes) zero on h = on.0
GoOn-at (b ∷ bytes) (suc i) on h = GoOn-at bytes i on.2 (omega arith)

-- what stands ahead is the front of what is left
whole_ahead : (blob : List ℕ) (place : Place) → IsPlaceIn place (Some blob) → drop place.at blob ≡ place.ahead ++ drop (length place.ahead) (drop place.at blob)
whole_ahead blob place over =
    sym (take-append-drop (length place.ahead) (drop place.at blob))
    ∙ ap (λ (xs : List ℕ). xs ++ drop (length place.ahead) (drop place.at blob)) (sym over.2)

-- a number is read from the bytes ahead
pub reads_number : (limit : ℕ) {before mid : Scene} {place : Place} {n next : ℕ} → Fills {T = Unit {0}} 10 before mid (Ok tt) →
    VarStandsBelow limit mid.place.ahead 0 n next → place ≡ moved mid.place next → Reads (varint limit) before (at_place mid place) (Ok n)
unfolding varint run
reads_number limit {before} {mid} {place} {n} {next} f p is = reads_ok (reads_ahead next f.stays f.over f.place p.within is) (λ blob holds q. record {
  from = omega (arith, q.0);
  within = q.1;
  spelled = subst (λ (bytes : List ℕ). IsVarint bytes n)
      (ap (λ k. take k mid.place.ahead) first ∙ (q.2 ∙ ap (λ k. take k (drop before.place.at blob)) (omega (arith, q.0)))) p.spelled;
  below = p.below;
}) refl
  where
    first : next - 0 ≡ next
    first = omega arith

null_told : (blob : List ℕ) (place : Place) → IsPlaceIn place (Some blob) → IsNullVar place.ahead → IsNullVar (drop place.at blob)
null_told blob place over is = rw (whole_ahead blob place over) (front_null place.ahead (drop (length place.ahead) (drop place.at blob)) is)
  where
    front_null : (xs ys : List ℕ) → get_or xs 0 0 ≡ 128 → get_or (xs ++ ys) 0 0 ≡ 128
    front_null [] ys is = absurd (omega arith)
    front_null (x ∷ xs) ys is = is

long_told : (limit : ℕ) (blob : List ℕ) (place : Place) → IsPlaceIn place (Some blob) → IsLongVar limit place.ahead → IsLongVar limit (drop place.at blob)
long_told limit blob place over is =
    let left = drop (length place.ahead) (drop place.at blob) in
    record {
      bytes = is.bytes;
      behind = is.behind ++ left;
      number = is.number;
      begins = whole_ahead blob place over ∙ (ap (λ (xs : List ℕ). xs ++ left) is.begins ∙ append_assoc is.bytes is.behind left);
      spelled = is.spelled;
      over = is.over;
    }

-- the null, or a number that is too large, stands ahead
pub reads_bad_number : (limit : ℕ) {before mid : Scene} {r : Result ℕ BlobFault} → Fills {T = Unit {0}} 10 before mid (Ok tt) →
    IsNullVar mid.place.ahead ⊎ IsLongVar limit mid.place.ahead → r ≡ Err (fault.Bad mid.place.at BadVarint) → Reads (varint limit) before mid r
unfolding varint
reads_bad_number limit {before} {mid} f p is = reads_missed f.stays f.over (λ blob holds.
    (subst (λ at. VarFails limit (drop at blob) BadVarint) f.place (inr (bad blob (place_in f.stays f.over blob holds) p, refl)), f.place)) is
  where
    bad : (blob : List ℕ) → IsPlaceIn mid.place (Some blob) → IsNullVar mid.place.ahead ⊎ IsLongVar limit mid.place.ahead →
        IsNullVar (drop mid.place.at blob) ⊎ IsLongVar limit (drop mid.place.at blob)
    bad blob over (inl null) = inl (null_told blob mid.place over null)
    bad blob over (inr long) = inr (long_told limit blob mid.place over long)

first_same : (xs ys : List ℕ) → 0 < length xs → get_or (xs ++ ys) 0 0 ≡ get_or xs 0 0
first_same [] ys h = absurd (omega arith)
first_same (x ∷ xs) ys h = refl

first_told : (blob : List ℕ) (place : Place) → IsPlaceIn place (Some blob) → min 10 (length blob - place.at) ≤ length place.ahead →
    get_or place.ahead 0 0 ≢ 128 → get_or (drop place.at blob) 0 0 ≢ 128
first_told blob place over enough first =
    by_length (drop place.at blob) place.ahead (drop (length place.ahead) (drop place.at blob)) (whole_ahead blob place over)
    (omega (arith, length-drop place.at blob)) first
  where
    by_length : (rest ahead left : List ℕ) → rest ≡ ahead ++ left → min 10 (length rest) ≤ length ahead → get_or ahead 0 0 ≢ 128 → get_or rest 0 0 ≢ 128
    by_length [] ahead left is h first = λ e. absurd (omega arith)
    by_length (x ∷ rest) [] left is h first = absurd (omega arith)
    by_length (x ∷ rest) (y ∷ ahead) left is h first = λ e. first (sym (ap (λ (xs : List ℕ). get_or xs 0 0) is) ∙ e)

stop_far : (rest ahead left front behind : List ℕ) (stop : ℕ) → rest ≡ ahead ++ left → min 10 (length rest) ≤ length ahead → GoOn ahead →
    rest ≡ front ++ stop ∷ behind → stop < 128 → 10 ≤ length front
stop_far rest ahead left front behind stop is enough on at ends =
    elim (cases_lt (length front) 10) [
      | inl near ↦ absurd (omega (arith, GoOn-at ahead (length front) on (here near), same near))
      | inr far ↦ far
    ]
  where
    here : length front < 10 → length front < length ahead
    here near = omega (arith, ap (λ (xs : List ℕ). length xs) at, length-append front (stop ∷ behind))

    at_front : (xs : List ℕ) (y : ℕ) (ys : List ℕ) → get_or (xs ++ y ∷ ys) (length xs) 0 ≡ y
    at_front [] y ys = refl
    at_front (x ∷ xs) y ys = at_front xs y ys

    in_front : (xs ys : List ℕ) (i : ℕ) → i < length xs → get_or (xs ++ ys) i 0 ≡ get_or xs i 0
    in_front xs ys i h = grind (arith, common_steps)

    same : length front < 10 → get_or ahead (length front) 0 ≡ stop
    same near = sym (in_front ahead left (length front) (here near))
        ∙ (ap (λ (xs : List ℕ). get_or xs (length front) 0) (sym is ∙ at) ∙ at_front front stop behind)

unended_told : (limit : ℕ) (blob : List ℕ) (place : Place) (stops : Bool) → limit ≤ 2 ^ 64 → IsPlaceIn place (Some blob) → min 10 (length blob - place.at) ≤ length place.ahead →
    VarEndsInside place.ahead → MatchBool stops (StopsLater (drop place.at blob)) (GoOn (drop place.at blob)) →
    VarFails limit (drop place.at blob) (cond stops BadVarint Truncated)
unended_told limit blob place false small over enough inside on =
    inl (record { on = on; first = first_told blob place over enough inside.first }, refl)
unended_told limit blob place true small over enough inside s =
    let rest = drop place.at blob in
    let far : 10 ≤ length s.front = stop_far rest place.ahead (drop (length place.ahead) rest) s.front s.behind s.stop (whole_ahead blob place over)
    (omega (arith, enough, length-drop place.at blob)) inside.on s.is s.ends in
    let first : get_or s.front 0 0 ≢ 128 = λ e. first_told blob place over enough inside.first
    (ap (λ (xs : List ℕ). get_or xs 0 0) s.is ∙ (first_same s.front (s.stop ∷ s.behind) (omega arith) ∙ e)) in
    let found = long_run s.front s.stop s.on s.ends first far in
    inr (
      inr (record {
        bytes = s.front ++ s.stop ∷ [];
        behind = s.behind;
        number = found.0;
        begins = s.is ∙ sym (append_assoc s.front (s.stop ∷ []) s.behind);
        spelled = found.1;
        over = omega (arith, small, found.2);
      }),
      refl,
    )

-- the bytes ahead all go on, so the number is too large or the blob ends inside it
pub reads_unended : (limit : ℕ) {before mid after : Scene} {stops : Bool} {r : Result ℕ BlobFault} → limit ≤ 2 ^ 64 → Fills {T = Unit {0}} 10 before mid (Ok tt) →
    VarEndsInside mid.place.ahead → Seeks mid after (Ok stops) → r ≡ Err (fault.Bad mid.place.at (cond stops BadVarint Truncated)) → Reads (varint limit) before after r
unfolding varint
reads_unended limit {before} {mid} {after} {stops} small f inside s is = reads_missed (stays_then f.stays s.stays) s.over (λ blob holds.
    let enough = subst (λ at. min 10 (length blob - at) ≤ length mid.place.ahead) (sym f.place)
    (subst (λ content. IfSome content (λ blob. min 10 (length blob - before.place.at) ≤ length mid.place.ahead)) holds f.enough) in
    let later = subst (λ content. IfSome content (λ blob. MatchBool stops (StopsLater (drop mid.place.at blob)) (GoOn (drop mid.place.at blob)))) (told_stays f.stays ∙ holds) s.tells in (
      subst (λ at. VarFails limit (drop at blob) (cond stops BadVarint Truncated)) f.place
          (unended_told limit blob mid.place stops small (place_in f.stays f.over blob holds) enough inside later),
      f.place,
    )) is

-- a number below a smaller limit
pub reads_lower : (limit lower : ℕ) {before after : Scene} {n : ℕ} → Reads (varint limit) before after (Ok n) → n < lower → Reads (varint lower) before after (Ok n)
unfolding varint
reads_lower limit lower {before} {after} {n} p below = reads_ok p (λ blob holds stands. stands_below limit lower blob before.place.at n after.place.at stands below) refl

-- a number that is not
pub reads_over : (limit lower : ℕ) {before after : Scene} {n : ℕ} {r : Result ℕ BlobFault} → Reads (varint limit) before after (Ok n) → lower ≤ n →
    r ≡ Err (fault.Bad before.place.at BadVarint) → Reads (varint lower) before after r
unfolding varint
reads_over limit lower {before} {after} {n} p over is =
    reads_bad p (λ blob holds stands. (inr (inr (stands_over limit lower blob before.place.at n after.place.at stands over), refl), refl)) is

-- no number
pub reads_no_number : (limit lower : ℕ) {before after : Scene} {e : BlobFault} {r : Result ℕ BlobFault} → lower ≤ limit → Reads (varint limit) before after (Err e) → r ≡ Err e →
    Reads (varint lower) before after r
unfolding varint
reads_no_number limit lower {before} smaller p is = reads_err p (λ blob place why holds stuck. (fails (drop before.place.at blob) why stuck.0, stuck.1)) is
  where
    fails : (rest : List ℕ) (why : Reason) → VarFails limit rest why → VarFails lower rest why
    fails rest why (inl p) = inl p
    fails rest why (inr (inl null, is)) = inr (inl null, is)
    fails rest why (inr (inr long, is)) = inr (inr (long_over limit lower rest smaller long), is)

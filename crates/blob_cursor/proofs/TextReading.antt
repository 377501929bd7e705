-- Reading a Java UTF text: its bytes are gathered, and its units are read from them.
use Rattle.std.proofs.Common.{◌≡◌, ◌≤◌, ◌+◌, ◌-◌, ◌*◌, ◌/◌, ◌%◌, ℕ, List, ◌∷◌, get_or, take, drop, length, Some, Result, Ok, Err, inl, inr, refl, ◌∙◌, subst, sym, ap, arith, length-drop}
use Rattle.std.proofs.lemmas.List.{get_or-take, length-take-le}
use Rattle.hol_io.specs.Store.{told}
use Rattle.hol_varint.specs.JavaUtf.{UtfStandsAt, UtfEndsInside, IsBadUtf, text_length, utf_bytes, java_bytes}
use Rattle.hol_varint.proofs.Windows.{window_utf, window_bad}
use Rattle.schema_model.specs.declared.reason.Reason.TheVariants.{Truncated, BadName}
use Rattle.blob_frame.specs.declared.fault.BlobFault.{BlobFault}
use Rattle.blob_frame.specs.declared.fault.BlobFault.TheVariants as fault
use Rattle.blob_frame.specs.Item.{units, run}
use Rattle.blob_cursor.specs.Scene.{Place, Scene, IsPlaceIn, Tells, Reads}
use Rattle.blob_grammar.specs.Form.{Form}
use Rattle.blob_cursor.specs.Filling.{Needs}
use Rattle.blob_cursor.proofs.Chain.{Holds, told_stays, stays_then, rose_earlier, reads_ok, reads_bad, reads_err}
use Rattle.blob_cursor.proofs.Fixed.{place_in, reads_short}

-- a text that stands in its gathered bytes takes them all
utf_whole : (spelled us : List ℕ) (next : ℕ) → UtfStandsAt spelled 0 us next → length spelled ≡ 2 + text_length spelled → next ≡ length spelled
unfolding utf_bytes
utf_whole spelled us next p whole =
    let n = length (java_bytes us) in
    let cells : take next spelled ≡ n / 256 ∷ n % 256 ∷ java_bytes us = ap (λ k. take k spelled) (sym first) ∙ is in
    let long : next ≡ 2 + n = sym (length-take-le next spelled p.within) ∙ (ap (λ (xs : List ℕ). length xs) cells ∙ omega arith) in
    let high : get_or spelled 0 0 ≡ n / 256 = sym (get_or-take next spelled 0 0 (omega arith)) ∙ ap (λ (xs : List ℕ). get_or xs 0 0) cells in
    let low : get_or spelled 1 0 ≡ n % 256 = sym (get_or-take next spelled 1 0 (omega arith)) ∙ ap (λ (xs : List ℕ). get_or xs 1 0) cells in
    omega (arith, whole, long, high, low)
  where
    first : next - 0 ≡ next
    first = omega arith

    is : take (next - 0) spelled ≡ length (java_bytes us) / 256 ∷ length (java_bytes us) % 256 ∷ java_bytes us
    is = p.spelled

-- the length that the two bytes ahead give
length_ahead : (blob : List ℕ) (place : Place) → IsPlaceIn place (Some blob) → 2 ≤ length place.ahead →
    get_or place.ahead 0 0 * 256 + get_or place.ahead 1 0 ≡ text_length (drop place.at blob)
length_ahead blob place over enough =
    let rest = drop place.at blob in
    let high : get_or place.ahead 0 0 ≡ get_or rest 0 0 = ap (λ (xs : List ℕ). get_or xs 0 0) over.2 ∙ get_or-take (length place.ahead) rest 0 0 (omega arith) in
    let low : get_or place.ahead 1 0 ≡ get_or rest 1 0 = ap (λ (xs : List ℕ). get_or xs 1 0) over.2 ∙ get_or-take (length place.ahead) rest 1 0 (omega arith) in
    omega (arith, high, low)

-- the gathered bytes are as many as their length says
whole_gathered : (rest spelled : List ℕ) (len : ℕ) → spelled ≡ take len rest → len ≤ length rest → len ≡ text_length rest + 2 → length spelled ≡ 2 + text_length spelled
whole_gathered rest spelled len is fits long =
    let count : length spelled ≡ len = ap (λ (xs : List ℕ). length xs) is ∙ length-take-le len rest fits in
    let high : get_or spelled 0 0 ≡ get_or rest 0 0 = ap (λ (xs : List ℕ). get_or xs 0 0) is ∙ get_or-take len rest 0 0 (omega arith) in
    let low : get_or spelled 1 0 ≡ get_or rest 1 0 = ap (λ (xs : List ℕ). get_or xs 1 0) is ∙ get_or-take len rest 1 0 (omega arith) in
    omega (arith, count, high, low, long)

-- the length of the text, of the told blob
length_told : {before mid : Scene} (len : ℕ) → Needs {T = Unit {0}} 2 before mid (Ok tt) → len ≡ get_or mid.place.ahead 0 0 * 256 + get_or mid.place.ahead 1 0 + 2 →
    (blob : List ℕ) → Holds before blob → len ≡ text_length (drop before.place.at blob) + 2
length_told {before} {mid} len n long blob holds =
    let here = length_ahead blob mid.place (place_in n.stays n.over blob holds) n.enough in
    long ∙ (ap (λ k. k + 2) here ∙ ap (λ at. text_length (drop at blob) + 2) n.place)

-- what is read behind a need is read from its place
reads_needed : {V : Type 0} {form : Form V} {before mid after : Scene} {count : ℕ} {r : Result V BlobFault} → Needs {T = Unit {0}} count before mid (Ok tt) →
    Reads form mid after r → Reads form before after r
reads_needed {form = form} {before} {mid} {after} {r = r} n p = record {
  stays = stays_then n.stays p.stays;
  over = p.over;
  cause = λ e. rose_earlier before.faults mid.faults after.faults n.stays.later (p.cause e);
  kind = p.kind;
  tells = subst (λ content. Tells form content before.place.at r after.place.at) (told_stays n.stays)
      (subst (λ at. Tells form (told mid.held mid.place.name) at r after.place.at) n.place p.tells);
}

-- the blob ends before the length does, or the store failed
pub reads_no_length : {before after : Scene} {e : BlobFault} {r : Result (List ℕ) BlobFault} → Needs {T = Unit {0}} 2 before after (Err e) → r ≡ Err e → Reads units before after r
unfolding units run
reads_no_length {before} n is =
    reads_err (reads_short 2 n) (λ blob place why holds stuck. (stuck.1, inl (omega (arith, stuck.0, length-drop before.place.at blob), stuck.2))) is

-- the text is read
pub reads_units : {before mid after : Scene} (len k : ℕ) {spelled us : List ℕ} → Needs {T = Unit {0}} 2 before mid (Ok tt) →
    len ≡ get_or mid.place.ahead 0 0 * 256 + get_or mid.place.ahead 1 0 + 2 → Reads (run len) mid after (Ok spelled) → UtfStandsAt spelled 0 us k → Reads units before after (Ok us)
unfolding units run
reads_units {before} {mid} {after} len k {spelled} {us} n long q u = reads_ok (reads_needed n q) (λ blob holds p.
    let fits : len ≤ length (drop before.place.at blob) = omega (arith, p.0, p.1, length-drop before.place.at blob) in
    let whole = whole_gathered (drop before.place.at blob) spelled len p.2 fits (length_told len n long blob holds) in
    let count : length spelled ≡ len = ap (λ (xs : List ℕ). length xs) p.2 ∙ length-take-le len (drop before.place.at blob) fits in
    let to_end : before.place.at + k ≡ after.place.at = omega (arith, utf_whole spelled us k u whole, count, p.0) in
    subst (λ n. UtfStandsAt blob before.place.at us n) to_end (window_utf spelled blob before.place.at len p.2 us k u)) refl

-- the bytes of the text are those of none
pub reads_bad_units : {before mid after : Scene} (len : ℕ) {spelled : List ℕ} {r : Result (List ℕ) BlobFault} → Needs {T = Unit {0}} 2 before mid (Ok tt) →
    Reads (run len) mid after (Ok spelled) → IsBadUtf spelled → r ≡ Err (fault.Bad before.place.at BadName) → Reads units before after r
unfolding units run
reads_bad_units {before} len {spelled} n q u is =
    reads_bad (reads_needed n q) (λ blob holds p. (refl, inr (window_bad spelled blob before.place.at len p.2 u, refl))) is

-- the gathered bytes are as many as their length says
pub reads_short_units : {before mid after : Scene} (len : ℕ) {spelled : List ℕ} {r : Result (List ℕ) BlobFault} → Needs {T = Unit {0}} 2 before mid (Ok tt) →
    len ≡ get_or mid.place.ahead 0 0 * 256 + get_or mid.place.ahead 1 0 + 2 →
    Reads (run len) mid after (Ok spelled) → UtfEndsInside spelled → r ≡ Err (fault.Bad before.place.at Truncated) → Reads units before after r
unfolding units run
reads_short_units {before} len {spelled} n long q u is = reads_bad (reads_needed n q) (λ blob holds p.
    let fits : len ≤ length (drop before.place.at blob) = omega (arith, p.0, p.1, length-drop before.place.at blob) in
    let whole = whole_gathered (drop before.place.at blob) spelled len p.2 fits (length_told len n long blob holds) in
    absurd (omega (arith, whole, u))) is

-- the blob ends before the text does
pub reads_cut_units : {before mid after : Scene} (len : ℕ) {e : BlobFault} {r : Result (List ℕ) BlobFault} → Needs {T = Unit {0}} 2 before mid (Ok tt) →
    len ≡ get_or mid.place.ahead 0 0 * 256 + get_or mid.place.ahead 1 0 + 2 →
    Reads (run len) mid after (Err e) → r ≡ Err e → Reads units before after r
unfolding units run
reads_cut_units {before} len n long q is = reads_err (reads_needed n q) (λ blob place why holds stuck.
    (stuck.1, inl (omega (arith, stuck.0, length_told len n long blob holds, length-drop before.place.at blob), stuck.2))) is

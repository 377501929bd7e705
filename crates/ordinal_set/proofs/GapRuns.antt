-- Lemmas on ordinal runs: one list for each, and one place where a run is none.
use Rattle.std.proofs.Common.{◌≡◌, ℕ, ◌+◌, ◌-◌, ◌*◌, ◌^◌, ◌<◌, ◌≤◌, List, [], ◌∷◌, ◌++◌, Result, Ok, Err, length, get_or, take, drop, refl, sym, ap, ◌∙◌, subst, inl, inr, arith, Fits, w32, append_assoc, append-nil, add-one}
use Rattle.std.specs.Prelude.{All}
use Rattle.std.specs.List.Sorted.{IsStrictlyIncreasing}
use Rattle.std.proofs.lemmas.Bool.{cases_lt, cases_order}
use Rattle.std.proofs.lemmas.List.{append_cancel_left, take-append-drop, length-drop, length-take-le, drop_all}
use Rattle.std.proofs.lemmas.List.Elements.{All-weaker, All-head, All-tail, All-from_get_or}
use Rattle.std.proofs.Math.Seq.{take-add, drop-cons}
use Rattle.hol_varint.specs.Yields.{Yields}
use Rattle.hol_varint.specs.Varint.{IsVarint, VintStandsAt, varint_bytes}
use Rattle.hol_varint.proofs.Varints.{varint_once}
use Rattle.hol_varint.proofs.VarWriting.{varint_is, varint_only, begins_stands}
use Rattle.ordinal_set.specs.Gaps.{GapsAfter, Gaps, gap_bytes, gap_bytes_after, IsGapFault, IsFreeGaps, TellsGaps}
use Rattle.ordinal_set.specs.declared.gaps.GapFault.{GapFault}
use Rattle.ordinal_set.specs.declared.gaps.GapFault.TheVariants.{Bad, Memory}
use Rattle.ordinal_set.proofs.Members.{rising-head, rising-tail}

-- a VInt takes a byte at least
no_empty : (vint : List ℕ) (gap : ℕ) (behind : List ℕ) → IsVarint vint gap → [] ≡ vint ++ behind → ⊥
no_empty [] gap behind spelled e = spelled.groups
no_empty (b ∷ bs) gap behind spelled e = cc

-- behind whole VInts the rest of a run begins
pub rest_of_run : (front rest : List ℕ) (before : ℕ) (list all : List ℕ) → GapsAfter before front list → GapsAfter before (front ++ rest) all
    → (last : ℕ) × (others : List ℕ) × GapsAfter last rest others × (all ≡ list ++ others)
rest_of_run front rest before [] all here whole = (before, all, subst (λ (bytes : List ℕ). GapsAfter before (bytes ++ rest) all) here whole, refl)
rest_of_run front rest before (number ∷ list) [] here whole =
    absurd (no_empty here.1.vint here.1.gap (here.0 ++ rest) here.1.spelled (sym whole ∙ ap (λ (bytes : List ℕ). bytes ++ rest) here.1.begins ∙ append_assoc here.1.vint here.0 rest))
rest_of_run front rest before (number ∷ list) (other ∷ all) here whole =
    let split : here.1.vint ++ (here.0 ++ rest) ≡ whole.1.vint ++ whole.0 =
    sym (ap (λ (bytes : List ℕ). bytes ++ rest) here.1.begins ∙ append_assoc here.1.vint here.0 rest) ∙ whole.1.begins in
    let same = varint_once here.1.vint whole.1.vint (here.0 ++ rest) whole.0 here.1.gap whole.1.gap here.1.spelled whole.1.spelled split in
    let behind : here.0 ++ rest ≡ whole.0 = append_cancel_left here.1.vint (here.0 ++ rest) whole.0 (split ∙ ap (λ (v : List ℕ). v ++ whole.0) (sym same.0)) in
    let numbers : other ≡ number = whole.1.is ∙ ap (λ gap. before + gap) (sym same.1) ∙ sym here.1.is in
    let there : GapsAfter number (here.0 ++ rest) all =
    subst (λ n. GapsAfter n (here.0 ++ rest) all) numbers (subst (λ (bytes : List ℕ). GapsAfter other bytes all) (sym behind) whole.2) in
    let found = rest_of_run here.0 rest number list all here.2 there in
    (found.0, found.1, found.2, ap (λ n. n ∷ all) numbers ∙ ap (λ ns. number ∷ ns) found.3)

-- no run of no bytes has a number
none_left : (before : ℕ) (others : List ℕ) → GapsAfter before [] others → others ≡ []
none_left before [] h = refl
none_left before (number ∷ rest) h = absurd (no_empty h.1.vint h.1.gap h.0 h.1.spelled h.1.begins)

-- the bytes of a run have one list
gaps_once : (bytes a b : List ℕ) → Gaps bytes a → Gaps bytes b → a ≡ b
gaps_once bytes a b here other =
    let whole : Gaps (bytes ++ []) b = subst (λ bs. Gaps bs b) (sym (append-nil bytes)) other in
    let found = rest_of_run bytes [] 0 a b here whole in
    sym (append-nil a) ∙ ap (λ ns. a ++ ns) (sym (none_left found.0 found.1 found.2)) ∙ sym found.3

-- a run of some bytes begins with a VInt
run_stands : (bytes : List ℕ) (place : ℕ) (rest more : List ℕ) (before : ℕ) (others : List ℕ) → place ≤ length bytes → drop place bytes ≡ rest ++ more → 0 < length rest
    → GapsAfter before rest others → (gap : ℕ) × (next : ℕ) × VintStandsAt bytes place gap next
run_stands bytes place rest more before [] within is some h = let none = ap (λ (bs : List ℕ). length bs) h in absurd (omega arith)
run_stands bytes place rest more before (number ∷ others) within is some h =
    let gap = h.1.gap in
    let spelled : rest ≡ varint_bytes gap ++ h.0 = h.1.begins ∙ ap (λ (v : List ℕ). v ++ h.0) (varint_only h.1.vint gap h.1.spelled) in
    let begins : drop place bytes ≡ varint_bytes gap ++ (h.0 ++ more) =
    is ∙ ap (λ (bs : List ℕ). bs ++ more) spelled ∙ append_assoc (varint_bytes gap) h.0 more in
    (gap, place + length (varint_bytes gap), begins_stands (2 ^ 32) bytes place gap (h.0 ++ more) within begins h.1.below)

-- a run has no place where none stands
fault_or_run : (bytes : List ℕ) (place : ℕ) (list : List ℕ) → IsGapFault bytes place → Gaps bytes list → ⊥
fault_or_run bytes place list fault whole =
    let inside = fault.inside in
    let split : Gaps (take place bytes ++ drop place bytes) list = subst (λ bs. Gaps bs list) (sym (take-append-drop place bytes)) whole in
    let found = rest_of_run (take place bytes) (drop place bytes) 0 fault.list list fault.whole split in
    let stands = run_stands bytes place (drop place bytes) [] found.0 found.1 (omega arith) (sym (append-nil (drop place bytes))) (omega (arith, length-drop place bytes)) found.2 in
    fault.none stands.0 stands.1 stands.2

-- and there is one such place
no_earlier : (bytes : List ℕ) (i j : ℕ) → IsGapFault bytes i → IsGapFault bytes j → i < j → ⊥
no_earlier bytes i j first second before =
    let inside = second.inside in
    let middle = take (j - i) (drop i bytes) in
    let count : j ≡ i + (j - i) = omega arith in
    let cut : take j bytes ≡ take i bytes ++ middle = ap (λ n. take n bytes) count ∙ take-add i (j - i) bytes in
    let found = rest_of_run (take i bytes) middle 0 first.list second.list first.whole (subst (λ bs. Gaps bs second.list) cut second.whole) in
    let long : length middle ≡ j - i = length-take-le (j - i) (drop i bytes) (omega (arith, length-drop i bytes)) in
    let stands = run_stands bytes i middle (drop (j - i) (drop i bytes)) found.0 found.1 (omega arith) (sym (take-append-drop (j - i) (drop i bytes))) (omega arith) found.2 in
    first.none stands.0 stands.1 stands.2

fault_once : (bytes : List ℕ) (i j : ℕ) → IsGapFault bytes i → IsGapFault bytes j → i ≡ j
fault_once bytes i j first second =
    elim (cases_order i j) [
      | inl same ↦ same
      | inr apart ↦
          elim apart [
            | inl before ↦ absurd (no_earlier bytes i j first second before)
            | inr after ↦ absurd (no_earlier bytes j i second first after)
          ]
    ]

-- the reader answers a list exactly where the bytes are its run
pub run_found : (bytes : List ℕ) (result : Result (List ℕ) GapFault) → TellsGaps bytes result → (list : List ℕ) → Yields IsFreeGaps result (Ok list) (Gaps bytes list)
run_found bytes (Ok found) told list = (
  λ e. let same : found ≡ list = cc in subst (λ ns. Gaps bytes ns) same told,
  λ h. inl (ap Ok (gaps_once bytes found list told h)),
)
run_found bytes (Err (Bad place)) told list = (λ e. absurd cc, λ h. absurd (fault_or_run bytes place list told h))
run_found bytes (Err Memory) told list = (λ e. absurd cc, λ h. inr tt)

-- and a place exactly where none stands there
pub fault_found : (bytes : List ℕ) (result : Result (List ℕ) GapFault) → TellsGaps bytes result → (place : ℕ) → Yields IsFreeGaps result (Err (Bad place)) (IsGapFault bytes place)
fault_found bytes (Ok found) told place = (λ e. absurd cc, λ h. absurd (fault_or_run bytes place found h told))
fault_found bytes (Err (Bad found)) told place = (
  λ e. let same : found ≡ place = cc in subst (λ n. IsGapFault bytes n) same told,
  λ h. inl (ap (λ n. Err (Bad n)) (fault_once bytes found place told h)),
)
fault_found bytes (Err Memory) told place = (λ e. absurd cc, λ h. inr tt)

-- ---- reading

-- the last number of a list, or the one before it
pub last_of : ℕ → List ℕ → ℕ
last_of before [] = before
last_of before (number ∷ rest) = last_of number rest

last_of-push : (before : ℕ) (list : List ℕ) (number : ℕ) → last_of before (list ++ number ∷ []) ≡ number
unfolding last_of
last_of-push before [] number = refl
last_of-push before (x ∷ list) number = last_of-push x list number

-- a run with one VInt more
run_more : (before gap : ℕ) (front vint list : List ℕ) → GapsAfter before front list → IsVarint vint gap → gap < 2 ^ 32
    → GapsAfter before (front ++ vint) (list ++ (last_of before list + gap) ∷ [])
unfolding last_of
run_more before gap front vint [] here spelled below = (
  [],
  record {
    gap = gap;
    vint = vint;
    begins = ap (λ (bs : List ℕ). bs ++ vint) here ∙ sym (append-nil vint);
    spelled = spelled;
    below = below;
    is = refl;
  },
  refl,
)
run_more before gap front vint (number ∷ list) here spelled below =
    let first = here.1 in (
      here.0 ++ vint,
      record {
        gap = first.gap;
        vint = first.vint;
        begins = ap (λ (bs : List ℕ). bs ++ vint) first.begins ∙ append_assoc first.vint here.0 vint;
        spelled = first.spelled;
        below = first.below;
        is = first.is;
      },
      run_more number gap here.0 vint list here.2 spelled below,
    )

-- the VInts up to a place are read
pub record ReadSoFar (bytes : List ℕ) (place number : ℕ) (list : List ℕ) : Type 0 where
  pub whole : Gaps (take place bytes) list
  pub within : place ≤ length bytes
  pub last : number ≡ last_of 0 list
  pub small : number ≤ place * (2 ^ 32 - 1)

pub read_none : (bytes : List ℕ) → ReadSoFar bytes 0 0 []
unfolding last_of
read_none bytes = record { whole = refl; within = omega arith; last = refl; small = omega arith }

-- a VInt takes a byte at least
further : (bytes : List ℕ) (place gap next : ℕ) → VintStandsAt bytes place gap next → place < next
further bytes place gap next stands =
    let from = stands.from in
    elim (cases_lt place next) [
      | inl before ↦ before
      | inr not_before ↦
          let none : next - place ≡ 0 = omega arith in
          absurd (subst (λ n. IsVarint (take n (drop place bytes)) gap) none stands.spelled).groups
    ]

pub read_more : (bytes : List ℕ) (place number gap next : ℕ) (list : List ℕ) → ReadSoFar bytes place number list → VintStandsAt bytes place gap next
    → ReadSoFar bytes next (number + gap) (list ++ (number + gap) ∷ [])
read_more bytes place number gap next list done stands =
    let from = stands.from in
    let within = stands.within in
    let below = stands.below in
    let small = done.small in
    let vint = take (next - place) (drop place bytes) in
    let count : next ≡ place + (next - place) = omega arith in
    let cut : take next bytes ≡ take place bytes ++ vint = ap (λ n. take n bytes) count ∙ take-add place (next - place) bytes in
    let more = run_more 0 gap (take place bytes) vint list done.whole stands.spelled below in
    record {
      whole = subst (λ bs. Gaps bs (list ++ (number + gap) ∷ [])) (sym cut) (subst (λ n. Gaps (take place bytes ++ vint) (list ++ (n + gap) ∷ [])) (sym done.last) more);
      within = within;
      last = sym (last_of-push 0 list (number + gap));
      small = let ahead : place < next = further bytes place gap next stands in omega arith;
    }

-- ---- writing

-- the numbers of a run that is written
pub gaps_written : (before : ℕ) (list : List ℕ) → IsStrictlyIncreasing list → All (λ n. before ≤ n) list → All (λ n. n < 2 ^ 32) list → GapsAfter before (gap_bytes_after before list) list
unfolding gap_bytes_after
gaps_written before [] rising above small = refl
gaps_written before (number ∷ rest) rising above small =
    let first : before ≤ number = above 0 0 (omega arith) in
    let fits : number < 2 ^ 32 = small 0 0 (omega arith) in (
      gap_bytes_after number rest,
      record {
        gap = number - before;
        vint = varint_bytes (number - before);
        begins = refl;
        spelled = varint_is (number - before);
        below = omega arith;
        is = omega arith;
      },
      gaps_written number rest (rising-tail number rest rising) (All-weaker (λ n. number < n) (λ n. number ≤ n) (λ n h. omega arith) rest (rising-head number rest rising))
          (All-tail (λ n. n < 2 ^ 32) number rest small),
    )

pub gaps_of : (list : List ℕ) → IsStrictlyIncreasing list → ((i : ℕ) → Fits w32 (get_or list i 0)) → Gaps (gap_bytes list) list
gaps_of list rising fits =
    gaps_written 0 list rising (λ k d h. omega arith) (All-from_get_or (λ n. n < 2 ^ 32) list 0 (λ i h. (fits i).fits))

-- the numbers below an index are written
pub record WrittenSoFar (start out list : List ℕ) (before index : ℕ) : Type 0 where
  pub written : List ℕ
  pub is : out ≡ start ++ written
  pub rest : written ++ gap_bytes_after before (drop index list) ≡ gap_bytes list
  pub rising : IsStrictlyIncreasing (drop index list)
  pub above : All (λ n. before ≤ n) (drop index list)

pub written_more : (start out out' list : List ℕ) (before index : ℕ) → index < length list → WrittenSoFar start out list before index
    → out' ≡ out ++ varint_bytes (get_or list index 0 - before) → WrittenSoFar start out' list (get_or list index 0) (index + 1)
unfolding gap_bytes_after
written_more start out out' list before index inside done is' =
    let number = get_or list index 0 in
    let bytes = varint_bytes (number - before) in
    let split : drop index list ≡ number ∷ drop (index + 1) list = rw add-one (drop-cons list index 0 inside) in
    let rising : IsStrictlyIncreasing (number ∷ drop (index + 1) list) = subst IsStrictlyIncreasing split done.rising in
    record {
      written = done.written ++ bytes;
      is = is' ∙ ap (λ (bs : List ℕ). bs ++ bytes) done.is ∙ append_assoc start done.written bytes;
      rest =
          append_assoc done.written bytes (gap_bytes_after number (drop (index + 1) list))
          ∙ ap (λ ns. done.written ++ gap_bytes_after before ns) (sym split)
          ∙ done.rest;
      rising = rising-tail number (drop (index + 1) list) rising;
      above = All-weaker (λ n. number < n) (λ n. number ≤ n) (λ n h. omega arith) (drop (index + 1) list) (rising-head number (drop (index + 1) list) rising);
    }

-- the next number is not below the one before it
pub next_above : (start out list : List ℕ) (before index : ℕ) → index < length list → WrittenSoFar start out list before index → before ≤ get_or list index 0
next_above start out list before index inside done =
    let split : drop index list ≡ get_or list index 0 ∷ drop (index + 1) list = rw add-one (drop-cons list index 0 inside) in
    All-head (λ n. before ≤ n) (get_or list index 0) (drop (index + 1) list) (subst (All (λ n. before ≤ n)) split done.above)

pub written_all : (start out list : List ℕ) (before index : ℕ) → length list ≤ index → WrittenSoFar start out list before index → out ≡ start ++ gap_bytes list
unfolding gap_bytes_after
written_all start out list before index past done =
    done.is
    ∙ ap (λ (bs : List ℕ). start ++ bs)
    (sym (append-nil done.written) ∙ ap (λ ns. done.written ++ gap_bytes_after before ns) (sym (drop_all index list past)) ∙ done.rest)

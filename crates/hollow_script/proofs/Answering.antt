-- One more line is answered, and the last ones are written.
use Rattle.std.proofs.Common.{◌≡◌, ℕ, List, [], ◌∷◌, ◌++◌, Bool, true, false, if◌then◌else◌, Option, Some, None, Result, Ok, Err, IfSome, inl, inr, ◌⊎◌, refl, sym, ap, ◌∙◌, subst, append_assoc, append-nil, arith, length-append, ◌<◌}
use Rattle.std.specs.Prelude.{IsErrAnd, IsErrOf}
use Rattle.std.specs.Io.KnownBytes.{Appends}
use Rattle.std.proofs.KnownBytes.{Appends-nil, Appends-trans, Consumes-nil, Consumes-trans}
use Rattle.hol_io.specs.Lines.{IsAhead, Reading, Takes, cut, starts}
use Rattle.hol_io.specs.Store.{Store}
use Rattle.hol_io.specs.Turn.{IsEnded}
use Rattle.hol_answers.specs.declared.reply.Reply.{Reply}
use Rattle.hol_answers.specs.Reply.{is_refusal, line_of}
use Rattle.std.specs.Option.{option_map}
use Rattle.state_blobs.specs.Published.{published_of}
use Rattle.hollow_machine.specs.Kept.{machine_of, reader_of}
use Rattle.hollow_machine.specs.Script.{LineStep, Script, longest_line}
use Rattle.hollow_machine.specs.State.{Machine, started}
use Rattle.hollow_machine.proofs.Scripts.{join}
use Rattle.hollow_script.proofs.Lining.{begins}
use Rattle.hollow_script.specs.Kept.{KeepsNothing, machine_with}
use Rattle.hollow_script.specs.declared.keep.Keep.{Keep}
use Rattle.hollow_script.specs.declared.script_stop.ScriptStop.{ScriptStop}
use Rattle.hollow_script.specs.declared.script_stop.ScriptStop.TheVariants as stop
use Rattle.hollow_script.specs.Scripted.{AllAnswered, AllWritten, AnswersNext, HasAnswered, HasAsked, HasGiven, HasStopped, IsAnswered, PutsAnswer, ServesNext, TakesPast, Waits, longest_input}

-- one piece of the source behind the other
pub takes_then : (a b c : Option (List ℕ)) (m n k : ℕ) → Takes a b m n → Takes b c n k → Takes a c m k
takes_then a b c m n k first second = record {
  took = first.took ++ second.took;
  consumes = Consumes-trans a b c first.took second.took first.consumes second.consumes;
  counted = omega (arith, first.counted, second.counted, length-append first.took second.took);
}

pub takes_none : (a : Option (List ℕ)) (n : ℕ) → n ≡ 0 → Takes a a 0 n
takes_none a n none = record { took = []; consumes = Consumes-nil a; counted = none }

pub takes_past : (a b : Option (List ℕ)) (n budget : ℕ) → Takes a b 0 n → budget ≡ longest_input → budget < n → TakesPast a b
takes_past a b n budget takes is over = (takes.took, takes.consumes, omega (arith, takes.counted, is, over))

-- the reader of lines at its start
pub reader_starts : (reading : Reading) (most budget : ℕ) → reading ≡ starts most budget →
    (reading.line_max ≡ most) × (reading.taken ≡ 0) × (reading.budget ≡ budget) × ((left : Option (List ℕ)) → IsEnded reading left)
reader_starts reading most budget is = (
  ap (λ (r : Reading). r.line_max) is,
  ap (λ (r : Reading). r.taken) is,
  ap (λ (r : Reading). r.budget) is,
  λ left e. absurd (let both : true ≡ false = sym e ∙ ap (λ (r : Reading). r.ended) is in cc),
)

-- the stop of a call that a caller hands on
pub handed_on : {T U : Type 0} (r : Result T ScriptStop) (stop other : ScriptStop) → IsErrAnd r (λ e. e ≡ stop) → r ≡ Err other → IsErrOf {T = U} {E = ScriptStop} (Err stop) other
handed_on (Ok x) stop other is was = absurd is
handed_on (Err e) stop other is was = let same : e ≡ other = cc in ap Err (sym is ∙ same)

-- what follows where both are told
pub told_both : {A B : Type 0} (a : Option A) (b : Option B) (P Q : A → B → Type 0) → IfSome a (λ x. IfSome b (P x)) → ((x : A) (y : B) → P x y → Q x y) → IfSome a (λ x. IfSome b (Q x))
told_both None b P Q holds gives = tt
told_both (Some x) None P Q holds gives = tt
told_both (Some x) (Some y) P Q holds gives = gives x y holds

one_flag : (b : Bool) → b ≡ (if b then true else false)
one_flag true = refl
one_flag false = refl

-- ---- answers that wait

-- lines whose answers wait are a script
waits_script : (machine next : Machine) (lines : List (List ℕ)) (text : List ℕ) (refused : Bool) → Waits machine lines text refused next → Script machine lines text refused next
waits_script machine next [] text refused is = is
waits_script machine next (line ∷ lines) text refused (reply, between, rest, others, step, same, waits, text_is, flag) =
    (reply, between, rest, others, step, waits_script between next lines rest others waits, text_is, flag)

-- one line alone
waits_one : (machine next : Machine) (line : List ℕ) (reply : Reply) → LineStep machine line reply next → Waits machine (line ∷ []) (line_of reply) (is_refusal reply) next
waits_one machine next line reply step = (reply, next, [], false, step, refl, (refl, refl, refl), sym (append-nil (line_of reply)), one_flag (is_refusal reply))

either_either : (a b c : Bool) → (if a then true else (if b then true else c)) ≡ (if (if a then true else b) then true else c)
either_either true b c = refl
either_either false b c = refl

-- one more line, which leaves the store
waits_more : (machine between next : Machine) (lines : List (List ℕ)) (line text : List ℕ) (reply : Reply) (refused : Bool) → Waits machine lines text refused between → LineStep between line reply next →
    next.store ≡ between.store → Waits machine (lines ++ line ∷ []) (text ++ line_of reply) (if refused then true else is_refusal reply) next
waits_more machine between next [] line text reply refused (none, not, same) step stays =
    subst (λ (t : List ℕ). Waits machine (line ∷ []) (t ++ line_of reply) (if refused then true else is_refusal reply) next) (sym none)
    (subst (λ (b : Bool). Waits machine (line ∷ []) (line_of reply) (if b then true else is_refusal reply) next) (sym not)
    (subst (λ (m : Machine). Waits m (line ∷ []) (line_of reply) (is_refusal reply) next) same (waits_one between next line reply step)))
waits_more machine between next (first ∷ lines) line text reply refused (answer, mid, rest, others, first_step, same, waits, text_is, flag) step stays = (
  answer,
  mid,
  rest ++ line_of reply,
  (if others then true else is_refusal reply),
  first_step,
  same ∙ sym stays,
  waits_more mid between next lines line rest reply others waits step stays,
  ap (λ t. t ++ line_of reply) text_is ∙ append_assoc (line_of answer) rest (line_of reply),
  ap (λ b. (if b then true else is_refusal reply)) flag ∙ sym (either_either (is_refusal answer) others (is_refusal reply)),
)

-- ---- what is answered

module _ (first : Store) (lines : List (List ℕ)) (before mid : Option (List ℕ)) (waiting : List ℕ) (refused : Bool) (machine : Machine) (is : HasAnswered first lines before mid waiting refused machine) where
  -- all the text
  pub whole_script : Script (started first) lines (is.gone ++ waiting) refused machine
  whole_script =
      subst (λ (ls : List (List ℕ)). Script (started first) ls (is.gone ++ waiting) refused machine) (sym is.lines_are)
      (subst (λ (b : Bool). Script (started first) (is.written ++ is.pending) (is.gone ++ waiting) b machine) (sym is.refused_is)
      (join (started first) is.middle machine is.written is.pending is.gone waiting is.flag is.also is.script (waits_script is.middle machine is.pending waiting is.also is.waits)))

  -- what waited is written
  pub flushed : (after : Option (List ℕ)) → Appends mid after waiting → HasAnswered first lines before after [] refused machine
  flushed after gained = record {
    written = lines;
    pending = [];
    lines_are = sym (append-nil lines);
    gone = is.gone ++ waiting;
    flag = refused;
    middle = machine;
    script = whole_script;
    also = false;
    waits = (refl, refl, refl);
    refused_is = one_flag refused;
    gained = Appends-trans before mid after is.gone waiting is.gained gained;
  }

  -- nothing is written
  pub unwritten : (after : Option (List ℕ)) → Appends mid after [] → HasAnswered first lines before after waiting refused machine
  unwritten after gained = record {
    written = is.written;
    pending = is.pending;
    lines_are = is.lines_are;
    gone = is.gone;
    flag = is.flag;
    middle = is.middle;
    script = is.script;
    also = is.also;
    waits = is.waits;
    refused_is = is.refused_is;
    gained = subst (Appends before after) (append-nil is.gone) (Appends-trans before mid after is.gone [] is.gained gained);
  }

-- one more line behind answers that wait, where it leaves the store
answered_behind : (first : Store) (lines : List (List ℕ)) (before mid : Option (List ℕ)) (waiting : List ℕ) (refused : Bool) (machine next : Machine) (line : List ℕ) (reply : Reply) →
    HasAnswered first lines before mid waiting refused machine → LineStep machine line reply next → next.store ≡ machine.store →
    HasAnswered first (lines ++ line ∷ []) before mid (waiting ++ line_of reply) (if refused then true else is_refusal reply) next
answered_behind first lines before mid waiting refused machine next line reply is step stays = record {
  written = is.written;
  pending = is.pending ++ line ∷ [];
  lines_are = ap (λ ls. ls ++ line ∷ []) is.lines_are ∙ append_assoc is.written is.pending (line ∷ []);
  gone = is.gone;
  flag = is.flag;
  middle = is.middle;
  script = is.script;
  also = (if is.also then true else is_refusal reply);
  waits = waits_more is.middle machine next is.pending line waiting reply is.also is.waits step stays;
  refused_is = ap (λ b. (if b then true else is_refusal reply)) is.refused_is ∙ sym (either_either is.flag is.also (is_refusal reply));
  gained = is.gained;
}

-- one more line where none waits
answered_first : (first : Store) (lines : List (List ℕ)) (before mid : Option (List ℕ)) (refused : Bool) (machine next : Machine) (line : List ℕ) (reply : Reply) →
    HasAnswered first lines before mid [] refused machine → LineStep machine line reply next → HasAnswered first (lines ++ line ∷ []) before mid (line_of reply) (if refused then true else is_refusal reply) next
answered_first first lines before mid refused machine next line reply is step = record {
  written = lines;
  pending = line ∷ [];
  lines_are = refl;
  gone = is.gone ++ [];
  flag = refused;
  middle = machine;
  script = whole_script first lines before mid [] refused machine is;
  also = is_refusal reply;
  waits = waits_one machine next line reply step;
  refused_is = refl;
  gained = subst (Appends before mid) (sym (append-nil is.gone)) is.gained;
}

-- One more line, which leaves the store or finds no answer waiting.
pub answered_more : (first : Store) (lines : List (List ℕ)) (before mid : Option (List ℕ)) (waiting : List ℕ) (refused : Bool) (machine next : Machine) (line : List ℕ) (reply : Reply) →
    HasAnswered first lines before mid waiting refused machine → LineStep machine line reply next → (next.store ≡ machine.store) ⊎ (waiting ≡ []) →
    HasAnswered first (lines ++ line ∷ []) before mid (waiting ++ line_of reply) (if refused then true else is_refusal reply) next
answered_more first lines before mid waiting refused machine next line reply is step (inl stays) = answered_behind first lines before mid waiting refused machine next line reply is step stays
answered_more first lines before mid waiting refused machine next line reply is step (inr none) =
    subst (λ (w : List ℕ). HasAnswered first (lines ++ line ∷ []) before mid (w ++ line_of reply) (if refused then true else is_refusal reply) next) (sym none)
    (answered_first first lines before mid refused machine next line reply (subst (λ (w : List ℕ). HasAnswered first lines before mid w refused machine) none is) step)

-- What waited is put, or waits still.
pub answered_put : (first : Store) (lines : List (List ℕ)) (before mid after : Option (List ℕ)) (waiting line waiting' : List ℕ) (refused : Bool) (machine : Machine) →
    HasAnswered first lines before mid (waiting ++ line) refused machine → PutsAnswer line mid after waiting waiting' → HasAnswered first lines before after waiting' refused machine
answered_put first lines before mid after waiting line waiting' refused machine is (inl (same, gained)) =
    subst (λ (w : List ℕ). HasAnswered first lines before after w refused machine) (sym same) (unwritten first lines before mid (waiting ++ line) refused machine is after gained)
answered_put first lines before mid after waiting line waiting' refused machine is (inr (none, gained)) =
    subst (λ (w : List ℕ). HasAnswered first lines before after w refused machine) (sym none) (flushed first lines before mid (waiting ++ line) refused machine is after gained)

pub answered_on : (first : Store) (lines : List (List ℕ)) (before mid after : Option (List ℕ)) (waiting waiting' : List ℕ) (refused : Bool) (machine : Machine) →
    HasAnswered first lines before mid waiting refused machine → PutsAnswer [] mid after waiting waiting' → HasAnswered first lines before after waiting' refused machine
answered_on first lines before mid after waiting waiting' refused machine is puts =
    answered_put first lines before mid after waiting [] waiting' refused machine (subst (λ (w : List ℕ). HasAnswered first lines before mid w refused machine) (sym (append-nil waiting)) is) puts

-- ---- the begin of a run

-- nothing is answered yet
none_has : (first : Store) (before : Option (List ℕ)) (waiting : List ℕ) (machine : Machine) → machine ≡ started first → waiting ≡ [] → HasAnswered first [] before before waiting false machine
none_has first before waiting machine at_start nothing = record {
  written = [];
  pending = [];
  lines_are = refl;
  gone = [];
  flag = false;
  middle = started first;
  script = (refl, refl, refl);
  also = false;
  waits = (nothing, refl, at_start);
  refused_is = refl;
  gained = Appends-nil before;
}

at_start : (first : Store) (kept : Keep) → KeepsNothing kept → machine_with first kept ≡ started first
at_start first kept none = (λ i. machine_of first (record { producer = none.producer i; reader = reader_of (none.consumer i) (none.version i) (none.history i) }))

pub starts_answered : (left : Option (List ℕ)) (held : Option Store) (reading : Reading) (kept : Keep) (before : Option (List ℕ)) (waiting : List ℕ) → KeepsNothing kept → waiting ≡ [] →
    ((bytes : List ℕ) → IsAhead reading bytes bytes longest_input) → reading.line_max ≡ longest_line →
    IfSome left (λ bytes. IfSome held (λ first. IsAnswered bytes first left held reading kept before before waiting false))
starts_answered None held reading kept before waiting none nothing ahead most = tt
starts_answered (Some bytes) None reading kept before waiting none nothing ahead most = tt
starts_answered (Some bytes) (Some first) reading kept before waiting none nothing ahead most = record {
  lines = [];
  store = first;
  given = begins bytes reading most (ahead bytes);
  told = refl;
  answered = none_has first before waiting (machine_with first kept) (at_start first kept none) nothing;
}

-- a run that stops before its first line
pub stops_at_start : (left : Option (List ℕ)) (held : Option Store) (keep : Keep) (before : Option (List ℕ)) (waiting : List ℕ) → KeepsNothing keep → waiting ≡ [] →
    IfSome left (λ bytes. IfSome held (λ first. HasStopped bytes first left keep.lines held keep before before waiting stop.Memory))
stops_at_start None held keep before waiting none nothing = tt
stops_at_start (Some bytes) None keep before waiting none nothing = tt
stops_at_start (Some bytes) (Some first) keep before waiting none nothing =
    let asked = subst (λ (lines : Option Reading). HasAsked bytes (Some bytes) lines []) (sym none.lines) refl in (
      [],
      cut bytes,
      false,
      started first,
      first,
      refl,
      none_has first before waiting (started first) refl nothing,
      refl,
      inl refl,
      inl (asked, refl, ap (option_map published_of) none.producer),
    )

pub some_store : (a b : Store) → Some a ≡ Some b → a ≡ b
some_store a b same = cc

module _ (bytes : List ℕ) (first : Store) (left left' : Option (List ℕ)) (held held' : Option Store) (r r' : Reading) (kept kept' : Keep) (before mid : Option (List ℕ)) (waiting : List ℕ) (refused : Bool) where
  -- one more line is answered, over what waited before it
  pub more_answered : (is : IsAnswered bytes first left held r kept before mid waiting refused) (line : List ℕ) (reply : Reply) (next : Store) → held' ≡ Some next →
      LineStep (machine_with is.store kept) line reply (machine_with next kept') → (held' ≡ held) ⊎ (waiting ≡ []) →
      HasAnswered first (is.lines ++ line ∷ []) before mid (waiting ++ line_of reply) (if refused then true else is_refusal reply) (machine_with next kept')
  more_answered is line reply next told step (inl same) =
      answered_more first is.lines before mid waiting refused (machine_with is.store kept) (machine_with next kept') line reply is.answered step (inl (some_store next is.store (sym told ∙ same ∙ is.told)))
  more_answered is line reply next told step (inr none) =
      answered_more first is.lines before mid waiting refused (machine_with is.store kept) (machine_with next kept') line reply is.answered step (inr none)

  -- one more line is answered
  pub answered_next : (after : Option (List ℕ)) (waiting' : List ℕ) (also : Bool) (reply : Reply) (found : Option Reply) → found ≡ Some reply → also ≡ is_refusal reply →
      IsAnswered bytes first left held r kept before mid waiting refused →
      ((given : List (List ℕ)) (now : Store) → HasGiven bytes left r given → held ≡ Some now → AnswersNext bytes given now left' r' kept held' kept' (Ok found)) →
      (held' ≡ held) ⊎ (waiting ≡ []) → PutsAnswer (line_of reply) mid after waiting waiting' →
      ServesNext bytes first left' held' r' kept' before after waiting' refused (Ok (Some also))
  answered_next after waiting' also reply found some flag is answers quiet puts =
      let (line, given, (next, told, step)) = subst (λ f. AnswersNext bytes is.lines is.store left' r' kept held' kept' (Ok f)) some (answers is.lines is.store is.given is.told) in
      record {
        lines = is.lines ++ line ∷ [];
        store = next;
        given = given;
        told = told;
        answered = subst (λ (b : Bool). HasAnswered first (is.lines ++ line ∷ []) before after waiting' (if refused then true else b) (machine_with next kept')) (sym flag)
            (answered_put first (is.lines ++ line ∷ []) before mid after waiting (line_of reply) waiting' (if refused then true else is_refusal reply) (machine_with next kept')
            (more_answered is line reply next told step quiet) puts);
      }

  -- some of what waited was written
  pub is_answered_on : (after : Option (List ℕ)) (waiting' : List ℕ) → PutsAnswer [] mid after waiting waiting' →
      IsAnswered bytes first left held r kept before mid waiting refused → IsAnswered bytes first left held r kept before after waiting' refused
  is_answered_on after waiting' puts is = record {
    lines = is.lines;
    store = is.store;
    given = is.given;
    told = is.told;
    answered = answered_on first is.lines before mid after waiting waiting' refused (machine_with is.store kept) is.answered puts;
  }

  -- all lines are answered
  pub answered_all : (found : Option Reply) → found ≡ None → IsAnswered bytes first left held r kept before mid waiting refused →
      ((given : List (List ℕ)) (now : Store) → HasGiven bytes left r given → held ≡ Some now → AnswersNext bytes given now left' r' kept held' kept' (Ok found)) →
      AllAnswered bytes first held' kept' before mid waiting refused
  answered_all found none is answers =
      let (cut_is, short, told, same) = subst (λ f. AnswersNext bytes is.lines is.store left' r' kept held' kept' (Ok f)) none (answers is.lines is.store is.given is.told) in
      record {
        store = is.store;
        told = told;
        short = short;
        answered = subst (λ k. HasAnswered first (cut bytes) before mid waiting refused (machine_with is.store k)) (sym same)
            (subst (λ ls. HasAnswered first ls before mid waiting refused (machine_with is.store kept)) (sym cut_is) is.answered);
      }

-- what is answered where source and store are told, with one more line
module _ (left left' : Option (List ℕ)) (held held' : Option Store) (r r' : Reading) (kept kept' : Keep) (before mid after : Option (List ℕ)) (waiting waiting' : List ℕ) (refused also next : Bool) (found : Option Bool) where
  pub told_next : (source : Option (List ℕ)) (store : Option Store) → found ≡ Some also → next ≡ (if refused then true else also) →
      IfSome source (λ bytes. IfSome store (λ first. IsAnswered bytes first left held r kept before mid waiting refused)) →
      ((bytes : List ℕ) (first : Store) (start : Option (List ℕ)) (flag : Bool) → IsAnswered bytes first left held r kept start mid waiting flag → ServesNext bytes first left' held' r' kept' start after waiting' flag (Ok found)) →
      IfSome source (λ bytes. IfSome store (λ first. IsAnswered bytes first left' held' r' kept' before after waiting' next))
  told_next None store some flag is serves = tt
  told_next (Some bytes) None some flag is serves = tt
  told_next (Some bytes) (Some first) some flag is serves =
      subst (λ b. IsAnswered bytes first left' held' r' kept' before after waiting' b) (sym flag)
      (subst (λ f. ServesNext bytes first left' held' r' kept' before after waiting' refused (Ok f)) some (serves bytes first before refused is))

-- and all answers are written
pub all_written : (bytes : List ℕ) (first : Store) (held : Option Store) (kept : Keep) (before mid after : Option (List ℕ)) (waiting : List ℕ) (refused : Bool) →
    AllAnswered bytes first held kept before mid waiting refused → Appends mid after waiting → AllWritten bytes first held kept before after refused
all_written bytes first held kept before mid after waiting refused is gained = record {
  store = is.store;
  text = is.answered.gone ++ waiting;
  told = is.told;
  script = whole_script first (cut bytes) before mid waiting refused (machine_with is.store kept) is.answered;
  short = is.short;
  gained = Appends-trans before mid after is.answered.gone waiting is.answered.gained gained;
}

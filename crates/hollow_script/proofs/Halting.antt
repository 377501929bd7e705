-- Why serving the lines of an input stops, and what it leaves then.
use Rattle.std.proofs.Common.{◌≡◌, ◌<◌, ◌⊎◌, inl, inr, ℕ, List, [], ◌∷◌, ◌++◌, ◌+◌, ◌-◌, Bool, true, false, Option, Some, Result, Ok, Err, IfErr, IfOk, IfSome, length, length-append, take, drop, if◌then◌else◌, refl, sym, ap, ◌∙◌, subst, append_assoc, append-nil, arith}
use Rattle.std.specs.Io.KnownBytes.{Appends}
use Rattle.std.proofs.KnownBytes.{Appends-trans}
use Rattle.std.proofs.lemmas.Bool.{cases_lt}
use Rattle.std.proofs.lemmas.List.{take-append-le, take_at, drop_at}
use Rattle.std.proofs.Math.Seq.{take-add}
use Rattle.hol_io.specs.Lines.{Reading, cut, finished}
use Rattle.hol_io.specs.Store.{Store}
use Rattle.hol_answers.specs.declared.reply.Reply.{Reply}
use Rattle.hol_answers.specs.Reply.{is_refusal, line_of}
use Rattle.hollow_machine.specs.Script.{LineStep, Script}
use Rattle.hollow_machine.specs.State.{Machine, started}
use Rattle.hollow_machine.specs.Left.{HasAll}
use Rattle.hollow_machine.specs.Puts.{LinePuts}
use Rattle.hollow_machine.specs.Stopped.{LeavesAhead, StopsAfter, StopsBetween, StopsWithin}
use Rattle.hollow_machine.proofs.LinePuts.{line_puts}
use Rattle.hollow_machine.proofs.Scripts.{join}
use Rattle.hollow_script.specs.Kept.{FailsAt, LacksMemoryAt, SameProducer, machine_with}
use Rattle.hollow_script.specs.Scripted.{AllAnswered, AnswersNext, FailsWithin, HaltsNext, HasAnswered, HasAsked, HasGiven, HasStopped, IsAnswered, PutsAnswer, StandsBehind, StopsAhead, StopsReply, StopsWaiting, Waits, longest_input}
use Rattle.hollow_script.specs.Stopping.{LeavesStopped}
use Rattle.hollow_script.specs.declared.keep.Keep.{Keep}
use Rattle.hollow_script.specs.declared.script_stop.ScriptStop.{ScriptStop}
use Rattle.hollow_script.specs.declared.script_stop.ScriptStop.TheVariants as stop
use Rattle.hollow_script.proofs.Answering.{answered_on, more_answered, some_store, told_both, unwritten, whole_script}
use Rattle.hollow_script.proofs.Lining.{finished_within, given_front, taken_front}

-- ---- before the next line is answered

module _ (bytes : List ℕ) (first : Store) (left left' : Option (List ℕ)) (held held' : Option Store) (r r' : Reading) (kept kept' : Keep) (before mid after : Option (List ℕ)) (waiting waiting' : List ℕ)
    (refused : Bool) (is : IsAnswered bytes first left held r kept before mid waiting refused) where
  abbrev Answers : Result (Option Reply) ScriptStop → Type 0
  Answers result = (given : List (List ℕ)) (now : Store) → HasGiven bytes left r given → held ≡ Some now → AnswersNext bytes given now left' r' kept held' kept' result

  -- the store has the first puts of the next line, and then no answer waits
  stops_ahead : (Keeps : List (List ℕ) → Machine → List (List ℕ) → Store → Type 0) (ahead : List (List ℕ)) (next : Store) → cut bytes ≡ is.lines ++ ahead → held' ≡ Some next → LeavesAhead (machine_with is.store kept) ahead next →
      (held' ≡ held) ⊎ (waiting' ≡ []) → HasAnswered first is.lines before after waiting' refused (machine_with is.store kept) → Keeps is.lines (machine_with is.store kept) ahead next →
      StopsAhead Keeps bytes first held' before after waiting'
  stops_ahead Keeps ahead next cut_is told leaves (inl same) has keeps =
      (is.lines, ahead, refused, machine_with is.store kept, next, cut_is, has, told, inl (some_store next is.store (sym told ∙ same ∙ is.told)), keeps)
  stops_ahead Keeps ahead next cut_is told leaves (inr none) has keeps = (is.lines, ahead, refused, machine_with is.store kept, next, cut_is, has, told, inr (none, leaves), keeps)

  -- the next line was given, and is not answered
  halts_next : (Keeps : List (List ℕ) → Machine → List (List ℕ) → Store → Type 0) → HaltsNext bytes is.lines is.store left' r' kept held' kept' → (held' ≡ held) ⊎ (waiting' ≡ []) →
      PutsAnswer [] mid after waiting waiting' →
      ((line : List ℕ) (lines : List (List ℕ)) (next : Store) → HasGiven bytes left' r' (is.lines ++ line ∷ []) → SameProducer kept kept' → Keeps is.lines (machine_with is.store kept) (line ∷ lines) next) →
      StopsAhead Keeps bytes first held' before after waiting'
  halts_next Keeps (line, given, (next, told, leaves), same) quiet puts keeps =
      let front = given_front bytes left' r' (is.lines ++ line ∷ []) given in
      stops_ahead Keeps (line ∷ front.0) next (front.1 ∙ append_assoc is.lines (line ∷ []) front.0) told leaves quiet
      (answered_on first is.lines before mid after waiting waiting' refused (machine_with is.store kept) is.answered puts) (keeps line front.0 next given same)

  pub reply_stops : (why : ScriptStop) → Answers (Err why) → (held' ≡ held) ⊎ (waiting' ≡ []) → StopsWaiting mid after waiting waiting' why →
      HasStopped bytes first left' (Some r') held' kept' before after waiting' why
  reply_stops stop.Source answers quiet puts =
      let (taken, told) = answers is.lines is.store is.given is.told in
      let has = answered_on first is.lines before mid after waiting waiting' refused (machine_with is.store kept) is.answered puts in
      (taken.0, taken.1, subst (λ (ls : List (List ℕ)). StandsBehind first ls held' before after waiting') taken.2 (refused, machine_with is.store kept, has, told))
  reply_stops stop.Sink answers quiet (same, fails) =
      let front = given_front bytes left r is.lines is.given in
      let has = subst (λ (w : List ℕ). HasAnswered first is.lines before mid w refused (machine_with is.store kept)) (sym same) is.answered in
      (mid, (is.lines, front.0, front.1, (refused, machine_with is.store kept, has, answers is.lines is.store is.given is.told)), fails)
  reply_stops stop.TooLong answers quiet puts =
      let (finished_are, told) = answers is.lines is.store is.given is.told in
      let has = answered_on first is.lines before mid after waiting waiting' refused (machine_with is.store kept) is.answered puts in
      subst (λ (ls : List (List ℕ)). StandsBehind first ls held' before after waiting') finished_are (refused, machine_with is.store kept, has, told)
  reply_stops stop.Store answers quiet puts =
      halts_next (FailsAt (HasAsked bytes left' (Some r')) kept') (answers is.lines is.store is.given is.told) quiet puts (λ line lines next given same. (given, same))
  reply_stops stop.Memory answers quiet puts =
      elim (answers is.lines is.store is.given is.told) [
        | inl (given, told, same) ↦
            (let front = given_front bytes left' r' is.lines given in
            let has = answered_on first is.lines before mid after waiting waiting' refused (machine_with is.store kept) is.answered puts in
            (is.lines, front.0, refused, machine_with is.store kept, is.store, front.1, has, told, inl refl, inl (given, refl, same)))
        | inr halts ↦ halts_next (LacksMemoryAt (HasAsked bytes left' (Some r')) kept') halts quiet puts (λ line lines next given same. inr (given, inl same))
      ]

  -- ---- behind it

  -- all puts of the next line are its first
  all_ahead : (machine : Machine) (line : List ℕ) (lines : List (List ℕ)) (next : Store) → HasAll (LinePuts line machine) machine.store next → LeavesAhead machine (line ∷ lines) next
  all_ahead machine line lines next (inl same) = inl same
  all_ahead machine line lines next (inr (puts, are, put, all)) = inr (puts, are, put)

  pub put_stops : (why : ScriptStop) (reply : Reply) (found : Option Reply) → found ≡ Some reply → Answers (Ok found) → (held' ≡ held) ⊎ (waiting ≡ []) →
      StopsReply (line_of reply) mid after waiting waiting' why → HasStopped bytes first left' (Some r') held' kept' before after waiting' why
  put_stops stop.Source reply found some answers quiet puts = absurd puts
  put_stops stop.TooLong reply found some answers quiet puts = absurd puts
  put_stops stop.Store reply found some answers quiet puts = absurd puts
  put_stops stop.Sink reply found some answers quiet (same, fails) =
      let (line, given, (next, told, step)) = subst (λ f. AnswersNext bytes is.lines is.store left' r' kept held' kept' (Ok f)) some (answers is.lines is.store is.given is.told) in
      let lines = is.lines ++ line ∷ [] in
      let front = given_front bytes left' r' lines given in
      let flag = (if refused then true else is_refusal reply) in
      let has = more_answered bytes first left left' held held' r r' kept kept' before mid waiting refused is line reply next told step quiet in
      let here = subst (λ (w : List ℕ). HasAnswered first lines before mid w flag (machine_with next kept')) (sym same) has in
      (mid, (lines, front.0, front.1, (flag, machine_with next kept', here, told)), fails)
  put_stops stop.Memory reply found some answers quiet (same, nothing) =
      let (line, given, (next, told, step)) = subst (λ f. AnswersNext bytes is.lines is.store left' r' kept held' kept' (Ok f)) some (answers is.lines is.store is.given is.told) in
      let front = given_front bytes left' r' (is.lines ++ line ∷ []) given in
      let machine = machine_with is.store kept in
      let leaves = all_ahead machine line front.0 next (line_puts machine (machine_with next kept') line reply step) in
      let still = unwritten first is.lines before mid waiting refused machine is.answered after nothing in
      let has = subst (λ (w : List ℕ). HasAnswered first is.lines before after w refused machine) (sym same) still in
      stops_ahead (LacksMemoryAt (HasAsked bytes left' (Some r')) kept') (line ∷ front.0) next (front.1 ∙ append_assoc is.lines (line ∷ []) front.0) told leaves (over quiet) has
      (inr (given, inr (reply, machine_with next kept', step, refl)))
    where
      over : (held' ≡ held) ⊎ (waiting ≡ []) → (held' ≡ held) ⊎ (waiting' ≡ [])
      over (inl kept_is) = inl kept_is
      over (inr none) = inr (same ∙ none)

-- a run that stops between two lines
pub stays_stopped : (bytes : List ℕ) (first : Store) (left : Option (List ℕ)) (held : Option Store) (r : Reading) (kept : Keep) (before after : Option (List ℕ)) (waiting : List ℕ) (refused : Bool) → IsAnswered bytes first left held r kept before after waiting refused →
    HasStopped bytes first left (Some r) held kept before after waiting stop.Memory
stays_stopped bytes first left held r kept before after waiting refused is =
    let front = given_front bytes left r is.lines is.given in (is.lines, front.0, refused, machine_with is.store kept, is.store, front.1, is.answered, is.told, inl refl, inl (is.given, refl, refl))

-- ---- the end of a run

-- A front of the text of lines that wait, and not all of it, ends within the answer to one of them.
pub record EndsWithin (machine : Machine) (lines : List (List ℕ)) (waiting : List ℕ) (count : ℕ) (last : Machine) : Type 0 where
  pub answered : List (List ℕ)
  pub line : List ℕ
  pub ahead : List (List ℕ)
  pub lines_are : lines ≡ answered ++ line ∷ ahead
  pub text : List ℕ
  pub flag : Bool
  pub between : Machine
  pub script : Script machine answered text flag between
  pub reply : Reply
  pub next : Machine
  pub step : LineStep between line reply next
  pub stays : next.store ≡ last.store
  pub rest : ℕ
  pub part : rest < length (line_of reply)
  pub front : take count waiting ≡ text ++ take rest (line_of reply)

take_past : (xs ys : List ℕ) (more : ℕ) → take (length xs + more) (xs ++ ys) ≡ xs ++ take more ys
take_past xs ys more =
    take-add (length xs) more (xs ++ ys) ∙ ap (λ t. t ++ take more (drop (length xs) (xs ++ ys))) (take_at xs ys (length xs) refl)
    ∙ ap (λ t. xs ++ take more t) (drop_at xs ys (length xs) refl)

-- a front that goes past the first answer
front_past : (line rest waiting text part : List ℕ) (count more : ℕ) → count ≡ length line + more → waiting ≡ line ++ rest → take more rest ≡ text ++ part → take count waiting ≡ (line ++ text) ++ part
front_past line rest waiting text part count more split waiting_is front =
    ap (λ (n : ℕ). take n waiting) split ∙ ap (take (length line + more)) waiting_is ∙ take_past line rest more ∙ ap (λ t. line ++ t) front ∙ sym (append_assoc line text part)

waits_within : (machine last : Machine) (lines : List (List ℕ)) (waiting : List ℕ) (refused : Bool) (count : ℕ) → Waits machine lines waiting refused last → count < length waiting →
    EndsWithin machine lines waiting count last
waits_within machine last [] waiting refused count (none, not, same) inside = absurd (omega (arith, ap length none, inside))
waits_within machine last (line ∷ lines) waiting refused count (reply, between, rest, others, step, same, waits, text_is, flag) inside =
    elim (cases_lt count (length (line_of reply))) [
      | inl here ↦ record {
        answered = [];
        line = line;
        ahead = lines;
        lines_are = refl;
        text = [];
        flag = false;
        between = machine;
        script = (refl, refl, refl);
        reply = reply;
        next = between;
        step = step;
        stays = same;
        rest = count;
        part = here;
        front = ap (take count) text_is ∙ take-append-le count (line_of reply) rest (omega (arith, here));
      }
      | inr past ↦
          (let size = length (line_of reply) in
          let more = count - size in
          let within : more < length rest = omega (arith, inside, past, ap length text_is, length-append (line_of reply) rest) in
          let later = waits_within between last lines rest others more waits within in
          let split : count ≡ size + more = omega (arith, past) in
          record {
            answered = line ∷ later.answered;
            line = later.line;
            ahead = later.ahead;
            lines_are = ap (λ ls. line ∷ ls) later.lines_are;
            text = line_of reply ++ later.text;
            flag = (if is_refusal reply then true else later.flag);
            between = later.between;
            script = (reply, between, later.text, later.flag, step, later.script, refl, refl);
            reply = later.reply;
            next = later.next;
            step = later.step;
            stays = later.stays;
            rest = later.rest;
            part = later.part;
            front = front_past (line_of reply) rest waiting later.text (take later.rest (line_of later.reply)) count more split text_is later.front;
          })
    ]

module _ (bytes : List ℕ) (first : Store) (left : Option (List ℕ)) (held : Option Store) (keep : Keep) (before mid after : Option (List ℕ)) (waiting : List ℕ) where
  -- the sink failed within the answers that wait
  fails_within : (lines ahead : List (List ℕ)) → cut bytes ≡ lines ++ ahead → StandsBehind first lines held before mid waiting → FailsWithin waiting mid after → LeavesStopped bytes first left held keep before after stop.Sink
  fails_within lines ahead cut_is (refused, machine, is, told) (count, inside, gained) =
      let within = waits_within is.middle machine is.pending waiting is.also count is.waits inside in
      let text = is.gone ++ take count waiting in
      let so : StopsWithin first (cut bytes) text machine.store = record {
        answered = is.written ++ within.answered;
        line = within.line;
        ahead = within.ahead ++ ahead;
        lines_are = cut_is ∙ ap (λ ls. ls ++ ahead) is.lines_are ∙ ap (λ ls. (is.written ++ ls) ++ ahead) within.lines_are
            ∙ ap (λ ls. ls ++ ahead) (sym (append_assoc is.written within.answered (within.line ∷ within.ahead))) ∙ append_assoc (is.written ++ within.answered) (within.line ∷ within.ahead) ahead;
        before = is.gone ++ within.text;
        refused = (if is.flag then true else within.flag);
        between = within.between;
        script = join (started first) is.middle within.between is.written within.answered is.gone within.text is.flag within.flag is.script within.script;
        reply = within.reply;
        machine = within.next;
        step = within.step;
        count = within.rest;
        part = within.part;
        text_is = ap (λ t. is.gone ++ t) within.front ∙ sym (append_assoc is.gone within.text (take within.rest (line_of within.reply)));
        store_is = sym within.stays;
      } in
      (text, machine.store, so, told, Appends-trans before mid after is.gone (take count waiting) is.gained gained)

  -- the sink fails behind all lines
  pub all_failed : (kept : Keep) (refused : Bool) → AllAnswered bytes first held kept before mid waiting refused → FailsWithin waiting mid after → LeavesStopped bytes first left held keep before after stop.Sink
  all_failed kept refused is fails =
      fails_within (cut bytes) [] (sym (append-nil (cut bytes))) (refused, machine_with is.store kept, is.answered, is.told) fails

  none_fails : waiting ≡ [] → FailsWithin waiting mid after → ⊥
  none_fails none (count, inside, gained) = omega (arith, inside, ap length none)

  -- the sink fails behind another stop
  pub fails_behind : (asked : Option Reading) (why : ScriptStop) → (why ≡ stop.Sink → ⊥) → HasStopped bytes first left asked held keep before mid waiting why → FailsWithin waiting mid after → LeavesStopped bytes first left held keep before after stop.Sink
  fails_behind asked stop.Sink other is fails = absurd (other refl)
  fails_behind asked stop.Source other (took, consumes, stands) fails =
      let front = taken_front bytes left took consumes in
      fails_within (finished took) front.0 front.1 stands fails
  fails_behind asked stop.TooLong other stands fails =
      let front = finished_within longest_input bytes in
      fails_within (finished (take longest_input bytes)) front.0 front.1 stands fails
  fails_behind asked stop.Store other (lines, ahead, refused, machine, store, cut_is, is, told, inl same, keeps) fails = fails_within lines ahead cut_is (refused, machine, is, told ∙ ap Some same) fails
  fails_behind asked stop.Store other (lines, ahead, refused, machine, store, cut_is, is, told, inr (none, leaves), keeps) fails = absurd (none_fails none fails)
  fails_behind asked stop.Memory other (lines, ahead, refused, machine, store, cut_is, is, told, inl same, keeps) fails = fails_within lines ahead cut_is (refused, machine, is, told ∙ ap Some same) fails
  fails_behind asked stop.Memory other (lines, ahead, refused, machine, store, cut_is, is, told, inr (none, leaves), keeps) fails = absurd (none_fails none fails)

  -- all that waits is written
  gains : (lines : List (List ℕ)) (refused : Bool) (machine : Machine) (is : HasAnswered first lines before mid waiting refused machine) → Appends mid after waiting → Appends before after (is.gone ++ waiting)
  gains lines refused machine is gained = Appends-trans before mid after is.gone waiting is.gained gained

  behind : (lines : List (List ℕ)) → StandsBehind first lines held before mid waiting → Appends mid after waiting →
      (text : List ℕ) × (store : Store) × StopsAfter first lines text store × (held ≡ Some store) × Appends before after text
  behind lines (refused, machine, is, told) gained = (
    is.gone ++ waiting,
    machine.store,
    (refused, machine, whole_script first lines before mid waiting refused machine is, refl),
    told,
    gains lines refused machine is gained,
  )

  between : (lines ahead : List (List ℕ)) (refused : Bool) (machine : Machine) (store : Store) → cut bytes ≡ lines ++ ahead → HasAnswered first lines before mid waiting refused machine → held ≡ Some store →
      LeavesAhead machine ahead store → Appends mid after waiting → (Keeps : List (List ℕ) → Machine → List (List ℕ) → Store → Type 0) → Keeps lines machine ahead store →
      (text : List ℕ) × (store : Store) × ((so : StopsBetween first (cut bytes) text store) × Keeps so.answered so.machine so.ahead store) × (held ≡ Some store) × Appends before after text
  between lines ahead refused machine store cut_is is told leaves gained Keeps keeps = (
    is.gone ++ waiting,
    store,
    (
      record {
        answered = lines;
        ahead = ahead;
        lines_are = cut_is;
        refused = refused;
        machine = machine;
        script = whole_script first lines before mid waiting refused machine is;
        left = leaves;
      },
      keeps,
    ),
    told,
    gains lines refused machine is gained,
  )

  same_ahead : (machine : Machine) (ahead : List (List ℕ)) (store : Store) → store ≡ machine.store → LeavesAhead machine ahead store
  same_ahead machine [] store same = same
  same_ahead machine (line ∷ lines) store same = inl same

  left_ahead : (machine : Machine) (ahead : List (List ℕ)) (store : Store) → (store ≡ machine.store) ⊎ ((waiting ≡ []) × LeavesAhead machine ahead store) → LeavesAhead machine ahead store
  left_ahead machine ahead store (inl same) = same_ahead machine ahead store same
  left_ahead machine ahead store (inr (none, leaves)) = leaves

  -- what waits is written behind a stop
  pub written_behind : (why : ScriptStop) → (why ≡ stop.Sink → ⊥) → HasStopped bytes first left keep.lines held keep before mid waiting why → Appends mid after waiting → LeavesStopped bytes first left held keep before after why
  written_behind stop.Sink other is gained = absurd (other refl)
  written_behind stop.Source other (took, consumes, stands) gained =
      let (text, store, so, told, all) = behind (finished took) stands gained in (text, store, (took, consumes, so), told, all)
  written_behind stop.TooLong other stands gained = behind (finished (take longest_input bytes)) stands gained
  written_behind stop.Store other (lines, ahead, refused, machine, store, cut_is, is, told, leaves, keeps) gained =
      between lines ahead refused machine store cut_is is told (left_ahead machine ahead store leaves) gained (FailsAt (HasAsked bytes left keep.lines) keep) keeps
  written_behind stop.Memory other (lines, ahead, refused, machine, store, cut_is, is, told, leaves, keeps) gained =
      between lines ahead refused machine store cut_is is told (left_ahead machine ahead store leaves) gained (LacksMemoryAt (HasAsked bytes left keep.lines) keep) keeps

-- The sink failed before.
pub failed_before : (bytes : List ℕ) (first : Store) (left : Option (List ℕ)) (asked : Option Reading) (held : Option Store) (keep : Keep) (before after : Option (List ℕ)) (waiting : List ℕ) → HasStopped bytes first left asked held keep before after waiting stop.Sink →
    LeavesStopped bytes first left held keep before after stop.Sink
failed_before bytes first left asked held keep before after waiting (mid, (lines, ahead, cut_is, stands), fails) = fails_within bytes first left held keep before mid after waiting lines ahead cut_is stands fails

-- ---- the reader of lines is kept

-- what is kept, with the reader of lines
abbrev pub with_lines : Keep → Reading → Keep
with_lines keep reading = record keep { lines = Some reading }

module _ (input : Option (List ℕ)) (store : Option Store) (left : Option (List ℕ)) (held : Option Store) (keep : Keep) (reading : Reading) (before after : Option (List ℕ)) (waiting : List ℕ) where
  stopped_with : (bytes : List ℕ) (first : Store) (why : ScriptStop) → HasStopped bytes first left (Some reading) held keep before after waiting why →
      HasStopped bytes first left (Some reading) held (with_lines keep reading) before after waiting why
  stopped_with bytes first stop.Source is = is
  stopped_with bytes first stop.Sink is = is
  stopped_with bytes first stop.Store is = is
  stopped_with bytes first stop.Memory is = is
  stopped_with bytes first stop.TooLong is = is

  answered_with : (bytes : List ℕ) (first : Store) (refused : Bool) → AllAnswered bytes first held keep before after waiting refused → AllAnswered bytes first held (with_lines keep reading) before after waiting refused
  answered_with bytes first refused is = record { store = is.store; told = is.told; short = is.short; answered = is.answered }

  pub kept_stopped : (result : Result Bool ScriptStop) → IfSome input (λ bytes. IfSome store (λ first. IfErr result (HasStopped bytes first left (Some reading) held keep before after waiting))) →
      IfSome input (λ bytes. IfSome store (λ first. IfErr result (HasStopped bytes first left (Some reading) held (with_lines keep reading) before after waiting)))
  kept_stopped (Ok refused) is = is
  kept_stopped (Err why) is =
      told_both input store (λ bytes first. HasStopped bytes first left (Some reading) held keep before after waiting why)
      (λ bytes first. HasStopped bytes first left (Some reading) held (with_lines keep reading) before after waiting why) is (λ bytes first so. stopped_with bytes first why so)

  pub kept_answered : (result : Result Bool ScriptStop) → IfSome input (λ bytes. IfSome store (λ first. IfOk result (AllAnswered bytes first held keep before after waiting))) →
      IfSome input (λ bytes. IfSome store (λ first. IfOk result (AllAnswered bytes first held (with_lines keep reading) before after waiting)))
  kept_answered (Err why) is = is
  kept_answered (Ok refused) is =
      told_both input store (λ bytes first. AllAnswered bytes first held keep before after waiting refused)
      (λ bytes first. AllAnswered bytes first held (with_lines keep reading) before after waiting refused) is (λ bytes first so. answered_with bytes first refused so)

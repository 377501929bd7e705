-- What a command leaves where it writes one line, or the lines of rows, and the store stays.
use Rattle.std.proofs.Common.{◌≡◌, ℕ, List, Bool, true, false, Option, Some, None, Result, Ok, Err, IfOk, IfSome, IsErrOf, refl, sym, ap, ◌∙◌, subst}
use Rattle.std.specs.Prelude.{IsSome}
use mir.Val.{bool_byte}
use Rattle.hol_io.specs.declared.name.BlobName.{BlobName}
use Rattle.hol_io.specs.Store.{Store}
use Rattle.hol_answers.specs.declared.reply.Reply.{Reply}
use Rattle.hol_orders.specs.declared.order_stop.OrderStop.{OrderStop}
use Rattle.std.specs.Io.KnownBytes.{Appends}
use Rattle.hollow_machine.specs.MakeCommand.{Makes}
use Rattle.hollow_machine.specs.State.{Machine}
use Rattle.hollow_make.specs.Parts.{TellsMake, machine_at}
use Rattle.hollow_machine.specs.Kept.{machine_of, no_history, reader_of}
use Rattle.hollow_machine.specs.State.{started}
use Rattle.hollow_script.specs.Kept.{KeepsNothing, machine_with}
use Rattle.hollow_script.specs.Scripted.{AllWritten}
use Rattle.hollow_script.specs.declared.keep.Keep.{Keep}
use Rattle.hollow_top.specs.declared.stop.Stop.{Stop}
use Rattle.hollow_top.specs.declared.stop.Stop.TheVariants.{Memory, Sink, Store as StoreFailed}
use Rattle.hollow_top.specs.declared.words.Command.{Command}
use Rattle.hollow_top.specs.declared.words.Command.TheVariants.{Run, Head, Show, Make}
use Rattle.hollow_top.specs.Command.{IsLineOf, IsReading, Serves, Writes, WritesMade}
use Rattle.hollow_top.specs.Head.{HeadReply}
use Rattle.hollow_top.specs.Run.{AskScript, AskToRead, EndsMake, Finishes, MakesPart, WritesPart, status_of}
use Rattle.hollow_top.specs.Show.{Shows}
use Rattle.hollow_top.specs.Stopping.{Leaves}
use Rattle.hollow_top.specs.Words.{Asks}

module _ (input : Option (List ℕ)) (held after_held : Option Store) (command : Command) (before after : Option (List ℕ)) where
  abbrev pub ServesHeld : Result Bool Stop → Type 0
  ServesHeld r = IfSome held (λ store. Serves input store command after_held before after r)

serves : (input : Option (List ℕ)) (store : Store) (held : Option Store) (command : Command) (before after : Option (List ℕ)) (IsWritten : List ℕ → Bool → Type 0) (r : Result Bool Stop) →
    held ≡ Some store → ((text : List ℕ) (refused : Bool) → IsWritten text refused → Writes input store command text refused (started store)) →
    Leaves IsWritten before after r → Serves input store command held before after r
serves input store held command before after IsWritten (Ok refused) same gives (text, is, gained) = (text, store, gives text refused is, same, gained)
serves input store held command before after IsWritten (Err Sink) same gives (text, refused, count, is, part, gained) =
    (text, refused, count, (started store, gives text refused is), part, gained)
serves input store held command before after IsWritten (Err StoreFailed) same gives left = tt
serves input store held command before after IsWritten (Err Memory) same gives left = tt

-- `head` writes the line of its answer
pub head_serves : (input : Option (List ℕ)) (held after_held : Option Store) (command : Command) (blob : BlobName) (reply : Reply) (before after : Option (List ℕ)) (r : Result Bool Stop) →
    after_held ≡ held → command ≡ Head blob → IfSome held (λ store. HeadReply store blob reply) →
    Leaves (IsLineOf (λ answer. answer ≡ reply)) before after r → ServesHeld input held after_held command before after r
head_serves input None after_held command blob reply before after r same is answers left = tt
head_serves input (Some store) after_held command blob reply before after r same is answers left =
    subst (λ asked. Serves input store asked after_held before after r) (sym is)
    (serves input store after_held (Head blob) before after (IsLineOf (λ answer. answer ≡ reply)) r same
    (λ text refused (answer, answer_is, text_is, verdict). ((answer, subst (HeadReply store blob) (sym answer_is) answers, text_is, verdict), (λ i. started store))) left)

-- `show` writes what it shows
pub show_serves : (input : Option (List ℕ)) (held after_held : Option Store) (command : Command) (version : ℕ) (before after : Option (List ℕ)) (r : Result Bool Stop) →
    after_held ≡ held → command ≡ Show version → IfSome held (λ store. Leaves (Shows store version) before after r) →
    ServesHeld input held after_held command before after r
show_serves input None after_held command version before after r same is left = tt
show_serves input (Some store) after_held command version before after r same is left =
    subst (λ asked. Serves input store asked after_held before after r) (sym is)
    (serves input store after_held (Show version) before after (Shows store version) r same (λ text refused shows. (shows, (λ i. started store))) left)

-- the status of a verdict, as it is cast
pub cast_status : (status : ℕ) (refused : Bool) → status ≡ bool_byte refused → status ≡ status_of refused
cast_status status true is = is
cast_status status false is = is

-- the words that ask for a command finish as it serves
pub finishes : (words : List (List ℕ)) (input : Option (List ℕ)) (held after_held : Option Store) (kept : Keep) (command : Command) (before after : Option (List ℕ)) (refused : Bool) (status : ℕ) →
    KeepsNothing kept → Asks words command → status ≡ status_of refused → ServesHeld input held after_held command before after (Ok refused) →
    IfSome held (λ store. Finishes words input store after_held kept before after status)
finishes words input None after_held kept command before after refused status none asked is served = tt
finishes words input (Some store) after_held kept command before after refused status none asked is (text, next, writes, same, gained) =
    (text, refused, next, (command, asked, subst (λ machine. Writes input store command text refused machine) (λ i. machine_of next (record { producer = sym none.producer i; reader = reader_of (sym none.consumer i) (sym none.version i) (sym none.history i) })) writes), same, gained, is)

-- what only reads leaves the store
reading_stays : (input : Option (List ℕ)) (store : Store) (command : Command) (text : List ℕ) (refused : Bool) (next : Machine) → IsReading command → Writes input store command text refused next → next.store ≡ store
reading_stays input store (Head blob) text refused next reads writes = ap (λ (m : Machine). m.store) writes.1
reading_stays input store (Show version) text refused next reads writes = ap (λ (m : Machine). m.store) writes.1
reading_stays input store _ text refused next reads writes = absurd reads

pub part_written : (words : List (List ℕ)) (input : Option (List ℕ)) (held after_held : Option Store) (command : Command) (before after : Option (List ℕ)) (stop : Stop) → stop ≡ Sink →
    Asks words command → IsReading command → after_held ≡ held → ServesHeld input held after_held command before after (Err stop) →
    IfSome held (λ store. WritesPart words input store after_held before after)
part_written words input None after_held command before after stop is asked reads same served = tt
part_written words input (Some store) after_held command before after stop is asked reads same served =
    let (text, refused, count, writes, part, gained) = subst (λ e. Serves input store command after_held before after (Err e)) is served in
    let stays = same ∙ ap Some (sym (reading_stays input store command text refused writes.0 reads writes.1)) in
    (text, refused, count, (writes.0, (command, asked, writes.1), stays), part, gained)

-- words that ask for a script, or for a chain to be made, do not ask to read
pub script_reads : (words : List (List ℕ)) → AskScript words → AskToRead words → ⊥
script_reads words asked reads = reads Run asked

pub make_reads : (words : List (List ℕ)) (command : Command) (seed rows cycles : ℕ) → Asks words command → command ≡ Make seed rows cycles → AskToRead words → ⊥
make_reads words command seed rows cycles asked is reads = subst IsReading is (reads command asked)

-- the command is `run`, or the words ask for no script
pub asks_script : (words : List (List ℕ)) (command : Command) → Asks words command → command ≡ Run → AskScript words
asks_script words command asked is = subst (Asks words) is asked

pub asks_no_script : (words : List (List ℕ)) (command : Command) → ((other : Command) → Asks words other → other ≡ command) → (command ≡ Run → ⊥) → AskScript words → ⊥
asks_no_script words command one apart asked = apart (sym (one Run asked))

-- What a script leaves where it ends: with this status, all that it writes.
abbrev pub EndsScript : List ℕ → Store → Option Store → Keep → Option (List ℕ) → Option (List ℕ) → ℕ → Type 0
EndsScript bytes first held kept before after status = (refused : Bool) × AllWritten bytes first held kept before after refused × (status ≡ status_of refused)

pub ends_script : (input : Option (List ℕ)) (held after_held : Option Store) (kept : Keep) (before after : Option (List ℕ)) (refused : Bool) (status : ℕ) → status ≡ status_of refused →
    IfSome input (λ bytes. IfSome held (λ first. AllWritten bytes first after_held kept before after refused)) →
    IfSome input (λ bytes. IfSome held (λ first. EndsScript bytes first after_held kept before after status))
ends_script None held after_held kept before after refused status is written = tt
ends_script (Some bytes) None after_held kept before after refused status is written = tt
ends_script (Some bytes) (Some first) after_held kept before after refused status is written = (refused, written, is)

-- words that ask for a script finish as it ends
pub script_finishes : (words : List (List ℕ)) (input : Option (List ℕ)) (held after_held : Option Store) (kept : Keep) (before after : Option (List ℕ)) (status : ℕ) → AskScript words → IsSome input →
    IfSome input (λ bytes. IfSome held (λ first. EndsScript bytes first after_held kept before after status)) →
    IfSome held (λ first. Finishes words input first after_held kept before after status)
script_finishes words None held after_held kept before after status asked some ends = absurd cc
script_finishes words (Some bytes) None after_held kept before after status asked some ends = tt
script_finishes words (Some bytes) (Some first) after_held kept before after status asked some (refused, written, is) =
    (written.text, refused, written.store, (Run, asked, (bytes, refl, written.short, written.script)), written.told, written.gained, is)

-- the line of its reply is written
pub made_line : (seed rows cycles : ℕ) (held after_held : Option Store) (kept : Keep) (reply : Reply) (before after : Option (List ℕ)) (r : Result Bool Stop) →
    kept.consumer ≡ None → kept.version ≡ None → kept.history ≡ no_history → TellsMake {E = OrderStop} seed rows cycles held after_held kept.producer (Ok reply) →
    Leaves (IsLineOf (λ answer. answer ≡ reply)) before after r →
    IfOk r (λ refused. IfSome held (λ first. (text : List ℕ) × (next : Store) × WritesMade seed rows cycles first text refused (machine_with next kept) × (after_held ≡ Some next) × Appends before after text))
made_line seed rows cycles held after_held kept reply before after (Err stop) none unmoved empty tells left = tt
made_line seed rows cycles None after_held kept reply before after (Ok refused) none unmoved empty tells left = tt
made_line seed rows cycles (Some first) after_held kept reply before after (Ok refused) none unmoved empty (next, told, makes) (text, (answer, answer_is, text_is, verdict), gained) =
    let machine_is : machine_at next kept.producer ≡ machine_with next kept = λ i. machine_of next (record { producer = kept.producer; reader = reader_of (sym none i) (sym unmoved i) (sym empty i) }) in
    let made = subst (λ (m : Machine). Makes first seed rows cycles reply m) machine_is makes in
    (text, next, (answer, subst (λ (a : Reply). Makes first seed rows cycles a (machine_with next kept)) (sym answer_is) made, text_is, verdict), told, gained)

-- so is a part of it, where the sink fails
pub made_part : (seed rows cycles : ℕ) (held after_held : Option Store) (kept : Keep) (reply : Reply) (before after : Option (List ℕ)) (r : Result Bool Stop) →
    TellsMake {E = OrderStop} seed rows cycles held after_held kept.producer (Ok reply) → Leaves (IsLineOf (λ answer. answer ≡ reply)) before after r → IsErrOf r Sink →
    IfSome held (λ first. MakesPart seed rows cycles first after_held before after)
made_part seed rows cycles None after_held kept reply before after r tells left failed = tt
made_part seed rows cycles (Some first) after_held kept reply before after r (next, told, makes) left failed =
    let (text, refused, count, (answer, answer_is, text_is, verdict), part, gained) = subst (Leaves (IsLineOf (λ answer. answer ≡ reply)) before after) failed left in
    let made = subst (λ (a : Reply). Makes first seed rows cycles a (machine_at next kept.producer)) (sym answer_is) makes in
    (text, refused, count, (machine_at next kept.producer, (answer, made, text_is, verdict), told), part, gained)

-- it ends with the status of its line
pub ends_make : (seed rows cycles : ℕ) (held after_held : Option Store) (kept : Keep) (before after : Option (List ℕ)) (refused : Bool) (status : ℕ) → status ≡ status_of refused →
    IfSome held (λ first. (text : List ℕ) × (next : Store) × WritesMade seed rows cycles first text refused (machine_with next kept) × (after_held ≡ Some next) × Appends before after text) →
    IfSome held (λ first. EndsMake seed rows cycles first after_held kept before after status)
ends_make seed rows cycles None after_held kept before after refused status is made = tt
ends_make seed rows cycles (Some first) after_held kept before after refused status is (text, next, writes, told, gained) = (text, refused, next, writes, told, gained, is)

-- words that ask for it finish as it ends
pub make_finishes : (words : List (List ℕ)) (input : Option (List ℕ)) (held after_held : Option Store) (kept : Keep) (command : Command) (seed rows cycles : ℕ) (before after : Option (List ℕ)) (status : ℕ) →
    Asks words command → command ≡ Make seed rows cycles → IfSome held (λ first. EndsMake seed rows cycles first after_held kept before after status) →
    IfSome held (λ first. Finishes words input first after_held kept before after status)
make_finishes words input None after_held kept command seed rows cycles before after status asked is ends = tt
make_finishes words input (Some first) after_held kept command seed rows cycles before after status asked is (text, refused, next, writes, told, gained, status_is) =
    (text, refused, next, (Make seed rows cycles, subst (Asks words) is asked, writes), told, gained, status_is)

pub make_part : (words : List (List ℕ)) (input : Option (List ℕ)) (held after_held : Option Store) (command : Command) (seed rows cycles : ℕ) (before after : Option (List ℕ)) →
    Asks words command → command ≡ Make seed rows cycles → IfSome held (λ first. MakesPart seed rows cycles first after_held before after) →
    IfSome held (λ first. WritesPart words input first after_held before after)
make_part words input None after_held command seed rows cycles before after asked is left = tt
make_part words input (Some first) after_held command seed rows cycles before after asked is (text, refused, count, (next, writes, told), part, gained) =
    (text, refused, count, (next, (Make seed rows cycles, subst (Asks words) is asked, writes), told), part, gained)

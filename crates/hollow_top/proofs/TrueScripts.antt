-- Where a store held a chain, a script that ends leaves what the headline promises, and so does the command `make`.
use Rattle.std.proofs.Common.{◌≡◌, ◌≤◌, ◌∙◌, ℕ, List, Bool, Option, Some, None, IfSome, subst}
use Rattle.hol_io.specs.Store.{Store}
use Rattle.hol_answers.specs.declared.reply.Reply.{Reply}
use Rattle.hollow_machine.specs.MakeCommand.{Makes}
use Rattle.hollow_machine.specs.Script.{Script}
use Rattle.hollow_machine.specs.State.{Machine, started}
use Rattle.hollow_script.specs.Kept.{machine_with}
use Rattle.hollow_script.specs.Scripted.{AllWritten}
use Rattle.hollow_script.specs.declared.keep.Keep.{Keep}
use Rattle.written_laws.specs.Chain.{Chain}
use Rattle.written_laws.specs.HoldsChain.{HoldsChain}
use Rattle.chain_laws.specs.Headline.{AreTrueLines, StandsOn}
use Rattle.chain_laws.specs.Consumers.{IsReaderOf}
use Rattle.chain_laws.specs.Growth.{GrowsByMake}
use Rattle.chain_laws.specs.Producers.{HoldsBytes, IsProducerOf, KeepsChain}
use Rattle.hollow_top.specs.declared.words.Command.{Command}
use Rattle.hollow_top.specs.declared.words.Command.TheVariants.{Make}
use Rattle.hollow_top.specs.Headline.{AnswersTruly, MakesChain}
use Rattle.hollow_top.specs.Run.{EndsMake}
use Rattle.hollow_top.specs.Words.{Asks}

-- each script over a store of bytes that holds a chain is as promised
abbrev pub AreTrue : Type 0
AreTrue = (store : Store) (next : Machine) (lines : List (List ℕ)) (text : List ℕ) (refused : Bool) (chain : Chain) → Script (started store) lines text refused next → HoldsChain store chain → HoldsBytes store
    → (after : Chain) × AreTrueLines chain (started store) lines text next after × StandsOn after next

pub answers_truly : AreTrue → (input : Option (List ℕ)) (held after_held : Option Store) (kept : Keep) (before after : Option (List ℕ)) (refused : Bool) → IfSome held HoldsBytes →
    IfSome input (λ bytes. IfSome held (λ first. AllWritten bytes first after_held kept before after refused)) →
    IfSome input (λ bytes. IfSome held (λ first. (chain : Chain) → HoldsChain first chain → AnswersTruly bytes first chain after_held kept before after))
answers_truly law None held after_held kept before after refused of_bytes written = tt
answers_truly law (Some bytes) None after_held kept before after refused of_bytes written = tt
answers_truly law (Some bytes) (Some first) after_held kept before after refused of_bytes written = λ chain holds.
    let (last, lines, stands) = law first _ _ written.text refused chain written.script holds of_bytes in (written.text, written.store, last, lines, stands, written.told, written.gained)

-- a store of bytes keeps the chain that it holds
abbrev pub AreKept : Type 0
AreKept = (store : Store) (chain : Chain) → HoldsChain store chain → HoldsBytes store → KeepsChain store chain

-- the command keeps a chain
abbrev pub MakesLonger : Type 0
MakesLonger = (store : Store) (next : Machine) (seed rows cycles : ℕ) (answer : Reply) (chain : Chain) → seed ≤ 999999 → cycles ≤ 1000 → Makes store seed rows cycles answer next → KeepsChain store chain
    → (after : Chain) × GrowsByMake store seed rows cycles chain next after × KeepsChain next.store after × IsProducerOf after next.producer × IsReaderOf after next

pub makes_chain : AreKept → MakesLonger → (seed rows cycles : ℕ) (held after_held : Option Store) (kept : Keep) (before after : Option (List ℕ)) (status : ℕ) → seed ≤ 999999 → cycles ≤ 1000 →
    IfSome held HoldsBytes → IfSome held (λ first. EndsMake seed rows cycles first after_held kept before after status) →
    IfSome held (λ first. (chain : Chain) → HoldsChain first chain → MakesChain seed rows cycles first chain after_held kept)
makes_chain keeps longer seed rows cycles None after_held kept before after status small few of_bytes ends = tt
makes_chain keeps longer seed rows cycles (Some first) after_held kept before after status small few of_bytes (text, refused, next, (answer, makes, text_is, verdict), told, gained, is) = λ chain holds.
    let machine = machine_with next kept in
    let (last, grows, still, there, nowhere) = longer first machine seed rows cycles answer chain small few makes (keeps first chain holds of_bytes) in
    (next, last, grows, record { kept = still; producer = there; consumer = nowhere }, told)

-- words that ask for other numbers ask for another command
pub one_made : (words : List (List ℕ)) (command : Command) (seed rows cycles s r c : ℕ) (held after_held : Option Store) (kept : Keep) → ((other : Command) → Asks words other → other ≡ command) →
    command ≡ Make seed rows cycles → Asks words (Make s r c) →
    IfSome held (λ first. (chain : Chain) → HoldsChain first chain → MakesChain seed rows cycles first chain after_held kept) →
    IfSome held (λ first. (chain : Chain) → HoldsChain first chain → MakesChain s r c first chain after_held kept)
one_made words command seed rows cycles s r c held after_held kept one is asked made =
    let same : Make s r c ≡ Make seed rows cycles = one (Make s r c) asked ∙ is in
    let seeds : seed ≡ s = cc in
    let counts : rows ≡ r = cc in
    let turns : cycles ≡ c = cc in
    subst (λ n. IfSome held (λ first. (chain : Chain) → HoldsChain first chain → MakesChain n r c first chain after_held kept)) seeds
    (subst (λ n. IfSome held (λ first. (chain : Chain) → HoldsChain first chain → MakesChain seed n c first chain after_held kept)) counts
    (subst (λ n. IfSome held (λ first. (chain : Chain) → HoldsChain first chain → MakesChain seed rows n first chain after_held kept)) turns made))

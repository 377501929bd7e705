-- Where a consumer stands after each line, over a store that holds a chain.
use Rattle.std.proofs.Common.{ℕ, List, [], ◌∷◌, get_or, Bool, Option, Some, None, inl, inr, refl, sym, subst}
use Rattle.row_model.specs.Table.{Table}
use Rattle.hol_answers.specs.declared.reply.Reply.{Reply}
use Rattle.hol_orders.specs.Order.{asked_of, kind_of}
use Rattle.read_engine.specs.Position.{Position}
use Rattle.hollow_machine.specs.Script.{LineStep, Script}
use Rattle.hollow_machine.specs.State.{Machine}
use Rattle.written_laws.specs.Chain.{Chain}
use Rattle.written_laws.specs.HoldsChain.{HoldsChain}
use Rattle.chain_laws.specs.Consumers.{IsReaderAt, IsReaderOf}
use Rattle.chain_laws.specs.Growth.{GrowsBy, GrowsAlong}
use Rattle.chain_laws.specs.Producers.{IsProducerOf, KeepsChain}
use Rattle.chain_laws.proofs.EachKind.{laws}
use Rattle.chain_laws.proofs.Lawful.{Extends, same_of}
use Rattle.chain_laws.proofs.Lines.{line_keeps}

module _ (machine : Machine) (chain : Chain) (holds : HoldsChain machine.store chain) (of : IsReaderOf chain machine) where
  line_moves : (line : List ℕ) (answer : Reply) (next : Machine) → LineStep machine line answer next → IsReaderOf chain next
  line_moves line answer next (inl long) = same_of machine chain of next long.1.1
  line_moves line answer next (inr (short, inl none)) = same_of machine chain of next none.1.1
  line_moves line answer next (inr (short, inr (order, orders, step))) = (laws (kind_of order)).moves machine chain holds of (asked_of order) answer next step

-- a state of a chain is one of a longer chain
still_at : (chain after : Chain) (consumer : Option Position) (version : Option ℕ) (past : List (ℕ × Table)) → Extends chain after → IsReaderAt chain consumer version past → IsReaderAt after consumer version past
still_at chain after None version past extends of = of
still_at chain after (Some now) version past extends (is, at, old) = (
  record {
    version = is.version;
    state = is.state;
    there = extends is.version is.state is.there;
    sees = is.sees;
    home = record { version = is.home.version; state = is.home.state; there = extends is.home.version is.home.state is.home.there; model = is.home.model };
    quiet = is.quiet;
    indexes = is.indexes;
    walks = is.walks;
  },
  at,
  (λ k d inside. (let (state, there, rows) = old k d inside in (state, extends (get_or past k d).0 state there, rows))),
)

pub line_keeps_both : (machine next : Machine) (line : List ℕ) (answer : Reply) (chain : Chain) → LineStep machine line answer next → KeepsChain machine.store chain → IsProducerOf chain machine.producer
    → IsReaderOf chain machine → (after : Chain) × GrowsBy machine line answer chain after × KeepsChain next.store after × IsProducerOf after next.producer × IsReaderOf after next
line_keeps_both machine next line answer chain step kept over of =
    let (after, grows, held, moved, extends) = line_keeps machine line chain kept over answer next step in
    (after, grows, held, moved, still_at chain after next.consumer next.version next.past extends (line_moves machine chain kept.holds of line answer next step))

pub script_keeps_both : (machine next : Machine) (lines : List (List ℕ)) (text : List ℕ) (refused : Bool) (chain : Chain) → Script machine lines text refused next → KeepsChain machine.store chain
    → IsProducerOf chain machine.producer → IsReaderOf chain machine
    → (after : Chain) × GrowsAlong machine lines text chain next after × KeepsChain next.store after × IsProducerOf after next.producer × IsReaderOf after next
script_keeps_both machine next [] text refused chain script kept over of =
    let all = subst (λ (m : Machine). KeepsChain m.store chain × IsProducerOf chain m.producer × IsReaderOf chain m) (sym script.2) (kept, over, of) in
    (chain, (script.0, script.2, refl), all.0, all.1, all.2)
script_keeps_both machine next (line ∷ lines) text refused chain (answer, between, rest, others, step, later, text_is, refused_is) kept over of =
    let (middle, grows, held, moved, still) = line_keeps_both machine between line answer chain step kept over of in
    let (after, along, at_last, there, last) = script_keeps_both between next lines rest others middle later held moved still in
    (after, (answer, between, middle, rest, step, grows, along, text_is), at_last, there, last)

-- What is asked of a consumer is answered by the model and the rows of its state alone.
use Rattle.std.proofs.Common.{◌≡◌, ◌≤◌, ◌<◌, ℕ, List, Option, Some, None, sym, ap, subst, ◌∙◌}
use Rattle.std.specs.Prelude.{IfSome}
use Rattle.serde_json.specs.View.{view}
use Rattle.schema_model.specs.declared.limit.Limit.TheVariants.{Nodes}
use Rattle.schema_model.specs.declared.schema.Schema.{Schema}
use Rattle.schema_model.specs.declared.schema.name.Name.{Name}
use Rattle.schema_model.specs.Limit.{number_of_limit}
use Rattle.schema_model.specs.Parts.{index_of_type}
use Rattle.row_model.specs.PlainTree.{node_count}
use Rattle.row_model.specs.Table.{Table, IsLive}
use Rattle.row_model.specs.Unfold.{unfold_row}
use Rattle.record_json.specs.PrintTree.{PrintsTree}
use Rattle.hol_answers.specs.declared.refusal.Refusal.{Refusal}
use Rattle.hol_answers.specs.declared.refusal.Refusal.TheVariants.{NoRow, TooLarge}
use Rattle.hol_answers.specs.declared.reply.Reply.{Reply}
use Rattle.hol_answers.specs.declared.reply.Reply.TheVariants as reply
use Rattle.read_engine.specs.Position.{Position, rows_now}
use Rattle.hollow_machine.specs.RowOrders.{AnswersAt, AnswersOf, AreLive, ListsLive, LiveReply, RowRefusal, RowReply, ShowsRow}
use Rattle.hollow_machine.specs.State.{Machine}
use Rattle.written_laws.specs.Chain.{Chain, ChainState, HasVersion, IsChain}
use Rattle.written_laws.specs.Quiet.{IsQuiet}
use Rattle.written_laws.specs.SeenChain.{seen_in}
use Rattle.chain_laws.specs.Consumers.{Fresh, IsConsumerOf, IsIn, Sees}

module _ (now other : Position) (schemas : now.schemas ≡ other.schemas) (rows : rows_now now ≡ rows_now other) where
  -- what holds of the one model and rows holds of the other
  pub carried : (Q : List Schema → Table → Type 0) → Q now.schemas (rows_now now) → Q other.schemas (rows_now other)
  carried Q holds = subst (λ (s : List Schema). Q s (rows_now other)) schemas (subst (λ (t : Table). Q now.schemas t) rows holds)

  at_same : (name : Name) (Answers : Position → ℕ → Reply → Type 0) → ((t : ℕ) (answer : Reply) → Answers now t answer → Answers other t answer) → (found : Option ℕ) (answer : Reply)
      → AnswersAt now found name Answers answer → AnswersAt other found name Answers answer
  at_same name Answers each None answer is = is
  at_same name Answers each (Some t) answer is = each t answer is

  pub of_same : (name : Name) (Answers : Position → ℕ → Reply → Type 0) → ((t : ℕ) (answer : Reply) → Answers now t answer → Answers other t answer) → (answer : Reply)
      → AnswersOf (Some now) name Answers answer → AnswersOf (Some other) name Answers answer
  of_same name Answers each answer is =
      subst (λ (found : Option ℕ). AnswersAt other found name Answers answer) (ap (λ (s : List Schema). index_of_type s name) schemas)
      (at_same name Answers each (index_of_type now.schemas name) answer is)

  lists_same : (t : ℕ) (answer : Reply) → ListsLive now t answer → ListsLive other t answer
  lists_same t (reply.Live ordinals) are = carried (λ _ table. AreLive table t ordinals) are
  lists_same t _ are = absurd are

  refusal_same : (name : Name) (ordinal t : ℕ) (refusal : Refusal) → RowRefusal name ordinal now t refusal → RowRefusal name ordinal other t refusal
  refusal_same name ordinal t (NoRow row) is = (is.0, is.1, carried (λ _ table. IsLive table t ordinal → ⊥) is.2)
  refusal_same name ordinal t (TooLarge Nodes) is =
      carried (λ s table. IsLive table t ordinal × (number_of_limit Nodes < node_count (unfold_row s table t ordinal))) is
  refusal_same name ordinal t _ is = absurd is

  shows_same : (name : Name) (ordinal t : ℕ) (answer : Reply) → ShowsRow name ordinal now t answer → ShowsRow name ordinal other t answer
  shows_same name ordinal t (reply.Row value) is =
      carried (λ s table. IsLive table t ordinal × (node_count (unfold_row s table t ordinal) ≤ number_of_limit Nodes) × PrintsTree s t (unfold_row s table t ordinal) (view value)) is
  shows_same name ordinal t (reply.Refused refusal) is = refusal_same name ordinal t refusal is
  shows_same name ordinal t _ is = absurd is

  live_same : (name : Name) (answer : Reply) → LiveReply (Some now) name answer → LiveReply (Some other) name answer
  live_same name answer is = of_same name ListsLive lists_same answer is

  row_same : (name : Name) (ordinal : ℕ) (answer : Reply) → RowReply (Some now) name ordinal answer → RowReply (Some other) name ordinal answer
  row_same name ordinal answer is = of_same name (ShowsRow name ordinal) (shows_same name ordinal) answer is

-- ---- the consumer, and the one that has its state afresh

module _ (machine fresh : Machine) (chain : Chain) (sound : IsChain chain) (of : IsConsumerOf chain machine.consumer) (afresh : Fresh chain machine fresh) where
  pub stood : IsIn chain afresh.now
  stood = subst (λ (consumer : Option Position). IfSome consumer (IsIn chain)) afresh.was of

  state_is : stood.state ≡ afresh.state
  state_is =
      let version = sound.tags stood.version afresh.version stood.state afresh.state stood.there afresh.there (sym stood.sees.tag ∙ afresh.tag) in
      let both : Some stood.state ≡ Some afresh.state = sym (subst (λ (v : ℕ). HasVersion chain v stood.state) version stood.there) ∙ afresh.there in
      cc

  pub sees : Sees afresh.state afresh.now
  sees = subst (λ (s : ChainState). Sees s afresh.now) state_is stood.sees

  pub quiet : IsQuiet afresh.now.schemas afresh.state
  quiet = subst (IsQuiet afresh.now.schemas) state_is stood.quiet

  pub schemas_same : afresh.now.schemas ≡ afresh.position.schemas
  schemas_same = sym afresh.model

  pub rows_same : rows_now afresh.now ≡ rows_now afresh.position
  rows_same = sees.rows ∙ ap (λ (m : List Schema). seen_in m afresh.state) schemas_same ∙ sym afresh.sees.rows

  consumer_is : fresh.consumer ≡ Some afresh.position
  consumer_is = ap (λ (m : Machine). m.consumer) afresh.is

  -- an answer about the one is one about the other
  pub either : (P : Option Position → Type 0) → (P (Some afresh.now) → P (Some afresh.position)) → P machine.consumer → P fresh.consumer
  either P there p = subst P (sym consumer_is) (there (subst P afresh.was p))

  pub live_afresh : (name : Name) (answer : Reply) → LiveReply machine.consumer name answer → LiveReply fresh.consumer name answer
  live_afresh name answer = either (λ consumer. LiveReply consumer name answer) (live_same afresh.now afresh.position schemas_same rows_same name answer)

  pub row_afresh : (name : Name) (ordinal : ℕ) (answer : Reply) → RowReply machine.consumer name ordinal answer → RowReply fresh.consumer name ordinal answer
  row_afresh name ordinal answer = either (λ consumer. RowReply consumer name ordinal answer) (row_same afresh.now afresh.position schemas_same rows_same name ordinal answer)

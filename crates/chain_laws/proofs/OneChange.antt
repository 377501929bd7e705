-- A change has one answer, and leaves one machine.
use Rattle.std.proofs.Common.{◌≡◌, ◌⊎◌, ℕ, List, Bool, true, false, Option, Some, None, inl, inr, refl, sym, ap, subst, ◌∙◌}
use Rattle.std.specs.Prelude.{IfSome, IsSomeAnd, MatchBool, count_by}
use Rattle.schema_model.specs.declared.model.rule.Rule.TheVariants.{DuplicateName}
use Rattle.schema_model.specs.Model.{IsModel}
use Rattle.row_model.specs.declared.row.Value.{Value}
use Rattle.row_model.specs.PlainTree.{PlainTree}
use Rattle.state_blobs.specs.Published.{Published}
use Rattle.hol_incremental.specs.Changes.{CountsMissing, IsFound}
use Rattle.hol_incremental.specs.Edited.{Keys}
use Rattle.hol_orders.specs.Parts.{AskedChange}
use Rattle.hol_answers.specs.declared.reply.Change.{Change}
use Rattle.hol_answers.specs.declared.reply.Reply.{Reply}
use Rattle.hol_answers.specs.declared.reply.Reply.TheVariants as reply
use Rattle.hol_answers.specs.declared.refusal.Refusal.{Refusal}
use Rattle.hol_answers.specs.declared.refusal.Refusal.TheVariants as refused
use Rattle.hollow_machine.specs.ChangeOrder.{ChangeRefusal, ChangeStep, IsNoChange, Misses, RefusesChange, change_form}
use Rattle.hollow_machine.specs.CycleOrder.{SucceedsAfter}
use Rattle.hollow_machine.specs.Follow.{MayFollow}
use Rattle.hollow_machine.specs.Records.{AskedCycle, GivesKey, GivesTrees, cycle_of_change, entries}
use Rattle.hollow_machine.specs.State.{Machine}
use Rattle.chain_laws.proofs.ChangeLaws.{as_cycle}
use Rattle.chain_laws.proofs.Lawful.{IsOneOf, says_both}
use Rattle.chain_laws.proofs.NoChanges.{no_change_apart, no_change_once}
use Rattle.chain_laws.proofs.OneCycle.{AfterKind, IsOnce, WrittenOnce, after_kind, after_one, after_succeeds_not, may_apart, one_cycle}
use Rattle.chain_laws.proofs.OneRecords.{removed_one}
use Rattle.chain_laws.proofs.PrintedOnce.{each_once}

-- ---- how many keys are those of no row

module _ (last : Published) (model : IsModel last.model) where
  lost_once : (key : ℕ × List Value) (a b : Bool) → MatchBool a (¬ IsFound last.model last.rows key) (IsFound last.model last.rows key)
      → MatchBool b (¬ IsFound last.model last.rows key) (IsFound last.model last.rows key) → a ≡ b
  lost_once key true true lost also = refl
  lost_once key true false lost found = absurd (lost found)
  lost_once key false true found lost = absurd (lost found)
  lost_once key false false found also = refl

  counts_once : (removes : Keys) (m n : ℕ) → CountsMissing last.model last.rows removes m → CountsMissing last.model last.rows removes n → m ≡ n
  counts_once removes m n (lost, are, is) (others, are_too, also) =
      let same = each_once (λ key is_lost. MatchBool is_lost (¬ IsFound last.model last.rows key) (IsFound last.model last.rows key)) lost_once removes lost others are are_too in
      is ∙ ap (λ (bs : List Bool). count_by (λ b. b) bs) same ∙ sym also

  missing_once : (asked : AskedChange) (m n : ℕ) → Misses last asked.remove m → Misses last asked.remove n → m ≡ n
  missing_once asked m n (removes, spells, counts) (others, spells_too, counts_too) =
      let same = each_once (GivesKey last.model) (removed_one last.model (model DuplicateName)) (entries last.model asked.remove) removes others spells.read spells_too.read in
      counts_once removes m n counts (subst (λ (ks : Keys). CountsMissing last.model last.rows ks n) (sym same) counts_too)

-- ---- a change of the last state

module _ (written : WrittenOnce) (machine : Machine) (last : Published) (asked : AskedChange) (facts : IsOnce last) where
  abbrev wanted : AskedCycle
  wanted = cycle_of_change asked

  -- it is none of the last state
  abbrev IsNone : Refusal → Type 0
  IsNone refusal = MayFollow machine.store last.version asked.version asked.tag × IsNoChange last.model asked refusal

  -- the cycle of the edited list is refused
  abbrev IsCycleRefused : Refusal → Type 0
  IsCycleRefused refusal = AfterKind written machine last wanted facts.model facts.once refusal

  abbrev Which : Refusal → Type 0
  Which refusal = IsNone refusal ⊎ IsCycleRefused refusal

  which : (refusal : Refusal) → RefusesChange machine.store last asked refusal → Which refusal
  which (refused.NoType name) is = inl is
  which (refused.WrongKind name) is = inl is
  which (refused.BadPath path) is = inl is
  which (refused.BadRecord fault) is = inl is
  which (refused.NoKey name place) is = inl is
  which (refused.KeyTwice keys) is = inl is
  which refused.BadKey is = inl is
  which refusal is = inr (after_kind written machine last wanted facts.model facts.once refusal is)

  -- records that give trees are a change
  gives_not : (trees : List (ℕ × PlainTree)) (refusal : Refusal) → GivesTrees last wanted.add trees → IsNoChange last.model asked refusal → ⊥
  gives_not trees refusal (puts, removes, spells, edits) never = no_change_apart last.model asked (facts.model DuplicateName) puts removes spells refusal never

  none_not : (r s : Refusal) → IsNone r → IsCycleRefused s → ⊥
  none_not r s (may, never) (inl not) = may_apart machine.store last.version asked.version asked.tag s not may
  none_not r s (may, never) (inr (may_too, inl none)) = none
  none_not r s (may, never) (inr (may_too, inr (passed, is, (trees, gives, kind)))) = gives_not trees r gives never

  which_once : (r s : Refusal) → Which r → Which s → r ≡ s
  which_once r s (inl one) (inl other) = no_change_once last.model asked (facts.model DuplicateName) r s one.1 other.1
  which_once r s (inl one) (inr other) = absurd (none_not r s one other)
  which_once r s (inr one) (inl other) = absurd (none_not s r other one)
  which_once r s (inr one) (inr other) = after_one written machine last wanted facts.model facts.once r s one other

  succeeds_not : (names : List (List ℕ)) (published : Bool) (next : Machine) (refusal : Refusal) → SucceedsAfter machine last wanted names published next → Which refusal → ⊥
  succeeds_not names published next refusal (may, (trees, gives, one)) (inl never) = gives_not trees refusal gives never.1
  succeeds_not names published next refusal succeeds (inr is) = after_succeeds_not written machine last wanted facts.model facts.once names published next refusal succeeds is

-- ---- the order

abbrev RefusalOf : Machine → AskedChange → Refusal → Type 0
RefusalOf machine asked refusal =
    ((machine.producer ≡ None) × (refusal ≡ refused.NoModel)) ⊎ IsSomeAnd machine.producer (λ last. RefusesChange machine.store last asked refusal)

refusal_of : (machine : Machine) (asked : AskedChange) (refusal : Refusal) → ChangeRefusal machine asked refusal → RefusalOf machine asked refusal
refusal_of machine asked refused.NoModel is = inl (is, refl)
refusal_of machine asked _ is = inr is

-- what holds of the last state holds of it as it is known
of_both : (producer : Option Published) (P Q : Published → Type 0) → IfSome producer IsOnce → IsSomeAnd producer P → IsSomeAnd producer Q → (last : Published) × (producer ≡ Some last) × IsOnce last × P last × Q last
of_both None P Q known p q = absurd p
of_both (Some last) P Q known p q = (last, refl, known, p, q)

no_last : (producer : Option Published) (P : Published → Type 0) → producer ≡ None → IsSomeAnd producer P → ⊥
no_last None P none p = p
no_last (Some last) P none p = cc

module _ (written : WrittenOnce) (machine : Machine) (asked : AskedChange) (known : IfSome machine.producer IsOnce) where
  abbrev Refuses : Refusal → Published → Type 0
  Refuses refusal last = RefusesChange machine.store last asked refusal

  abbrev Succeeds : Change → Machine → Published → Type 0
  Succeeds change next last = Misses last asked.remove change.missing × SucceedsAfter machine last (cycle_of_change asked) change.changed change.published next

  refusals_one : (r s : Refusal) → RefusalOf machine asked r → RefusalOf machine asked s → r ≡ s
  refusals_one r s (inl none) (inl also) = none.1 ∙ sym also.1
  refusals_one r s (inl none) (inr some) = absurd (no_last machine.producer (Refuses s) none.0 some)
  refusals_one r s (inr some) (inl none) = absurd (no_last machine.producer (Refuses r) none.0 some)
  refusals_one r s (inr one) (inr other) =
      let (last, is, facts, refuses, also) = of_both machine.producer (Refuses r) (Refuses s) known one other in
      which_once written machine last asked facts r s (which written machine last asked facts r refuses) (which written machine last asked facts s also)

  not_refused : (change : Change) (next : Machine) (refusal : Refusal) → IsSomeAnd machine.producer (Succeeds change next) → RefusalOf machine asked refusal → ⊥
  not_refused change next refusal some (inl none) = no_last machine.producer (Succeeds change next) none.0 some
  not_refused change next refusal some (inr other) =
      let (last, is, facts, done, refuses) = of_both machine.producer (Succeeds change next) (Refuses refusal) known some other in
      succeeds_not written machine last asked facts change.changed change.published next refusal done.1 (which written machine last asked facts refusal refuses)

  missing_one : (a b : Change) (next after : Machine) → IsSomeAnd machine.producer (Succeeds a next) → IsSomeAnd machine.producer (Succeeds b after) → a.missing ≡ b.missing
  missing_one a b next after one other =
      let (last, is, facts, done, also) = of_both machine.producer (Succeeds a next) (Succeeds b after) known one other in
      missing_once last facts.model asked a.missing b.missing done.0 also.0

  changes_one : (a b : Change) (next after : Machine) → ChangeStep machine asked (reply.Change a) next → ChangeStep machine asked (reply.Change b) after → (reply.Change a ≡ reply.Change b) × (next ≡ after)
  changes_one a b next after one other =
      let missing = missing_one a b next after one.1 other.1 in
      let (cycles, machines) = one_cycle written machine (cycle_of_change asked) known (reply.Cycle a.changed a.published a.version) (reply.Cycle b.changed b.published b.version) next after
      (as_cycle machine next asked a one) (as_cycle machine after asked b other) in
      let names : a.changed ≡ b.changed = cc in
      let published : a.published ≡ b.published = cc in
      let versions : a.version ≡ b.version = cc in
      ((λ i. reply.Change (record { changed = names i; missing = missing i; published = published i; version = versions i })), machines)

  pub change_once : (one other : Reply) (next after : Machine) → ChangeStep machine asked one next → ChangeStep machine asked other after → (one ≡ other) × (next ≡ after)
  change_once (reply.Change a) (reply.Change b) next after one other = changes_one a b next after one other
  change_once (reply.Change a) (reply.Refused refusal) next after one other = absurd (not_refused a next refusal one.1 (refusal_of machine asked refusal other.0))
  change_once (reply.Refused refusal) (reply.Change b) next after one other = absurd (not_refused b after refusal other.1 (refusal_of machine asked refusal one.0))
  change_once (reply.Refused r) (reply.Refused s) next after one other =
      (ap (λ x. reply.Refused x) (refusals_one r s (refusal_of machine asked r one.0) (refusal_of machine asked s other.0)), one.1 ∙ sym other.1)
  change_once (reply.Change a) _ next after one other = absurd other
  change_once (reply.Refused r) _ next after one other = absurd other
  change_once _ also next after one other = absurd one

-- two answers of one change are the same
pub one_change : IsOneOf change_form
one_change written machine sound asked one other next after is also = says_both one other next after (change_once written machine asked sound.0 one other next after is also)

-- The laws of the orders `plan` and `goto`.
use Rattle.std.proofs.Common.{◌≡◌, ◌≢◌, ◌≤◌, ◌+◌, ℕ, List, [], ◌∷◌, length, true, false, Option, Some, Ordering, Less, Equal, Greater, inl, inr, refl, sym, ap, subst, ◌∙◌, arith}
use Rattle.std.specs.Prelude.{IfSome}
use Rattle.std.specs.Cmp.Lexicographic.{lists_total, slice_cmp}
use Rattle.std.specs.FinMap.{slice_cmp-IsAntisymmetric}
use Rattle.std.specs.Option.{option_map}
use Rattle.std.specs.Ordering.{ordering_reverse}
use Rattle.hol_io.specs.declared.name.BlobName.{BlobName}
use Rattle.hol_io.specs.declared.name.BlobName.TheVariants.{Announced, Delta, Reverse, Snapshot}
use Rattle.hol_io.specs.Name.{name_cmp}
use Rattle.hol_io.specs.Store.{names}
use Rattle.hol_io.proofs.NameOrder.{name_cmp-IsAntisymmetric, name_cmp_total}
use Rattle.hol_plan.specs.Walk.{IsPlan}
use Rattle.hol_orders.specs.declared.kind.Kind.{Kind}
use Rattle.hol_answers.specs.declared.refusal.Refusal.{Refusal}
use Rattle.hol_answers.specs.declared.refusal.Refusal.TheVariants.{NoPlan}
use Rattle.hol_answers.specs.declared.reply.Reply.{Reply}
use Rattle.hol_answers.specs.declared.reply.Reply.TheVariants as reply
use Rattle.hol_answers.specs.Reply.{is_refusal}
use Rattle.read_engine.specs.Position.{Position}
use Rattle.hollow_machine.specs.PlanOrders.{Applies, Goes, GotoStep, IsPlanFor, PlanRefusal, PlanReply, goto_form, plan_form}
use Rattle.hollow_machine.specs.State.{Machine}
use Rattle.chain_laws.proofs.Answering.{IsUnpublished}
use Rattle.chain_laws.proofs.Lawful.{IsLawful, IsLeft, LeavesOf, left_on, left_same, moves_lawful, says_both}
use Rattle.chain_laws.proofs.LoadLaws.{load_leaves}
use Rattle.chain_laws.proofs.OneMove.{Alike, one_load, one_move}
use Rattle.chain_laws.proofs.StepLaws.{step_leaves}
use Rattle.chain_laws.proofs.TypedConsumers.{IsTyped}

-- ---- there is one plan

-- lists of names of which neither comes before the other are one
neither_less : (a b : List BlobName) → slice_cmp name_cmp a b ≢ Less → slice_cmp name_cmp b a ≢ Less → a ≡ b
neither_less a b not_first not_second = by_order (slice_cmp name_cmp a b) refl
  where
    by_order : (o : Ordering) → slice_cmp name_cmp a b ≡ o → a ≡ b
    by_order Less is = absurd (not_first is)
    by_order Equal is = slice_cmp-IsAntisymmetric name_cmp-IsAntisymmetric a b is
    by_order Greater is = absurd (not_second ((lists_total name_cmp_total).antisymm b a ∙ ap ordering_reverse is))

plan_once : (blobs : List BlobName) (from : Option ℕ) (to : ℕ) (a b : List BlobName) → IsPlan blobs from to a → IsPlan blobs from to b → a ≡ b
plan_once blobs from to a b one other =
    let few : length a ≤ length b = one.fewest b other.walks in
    let many : length b ≤ length a = other.fewest a one.walks in
    let long : length a ≡ length b = omega (arith, few, many) in
    neither_less a b (other.first a one.walks long) (one.first b other.walks (sym long))

module _ (machine : Machine) (wanted : ℕ) where
  refusal_is : (refusal : Refusal) → PlanRefusal machine wanted refusal → refusal ≡ NoPlan machine.version wanted
  refusal_is (NoPlan from to) is = λ i. NoPlan (is.0 i) (is.1 i)
  refusal_is _ is = absurd is

  refusal_once : (one other : Refusal) → PlanRefusal machine wanted one → PlanRefusal machine wanted other → one ≡ other
  refusal_once one other is also = refusal_is one is ∙ sym (refusal_is other also)

  -- where there is a plan, it is not refused that there is none
  plan_apart : (plan : List BlobName) (refusal : Refusal) → IsPlanFor machine wanted plan → PlanRefusal machine wanted refusal → ⊥
  plan_apart plan (NoPlan from to) is refuses = refuses.2 plan is.walks
  plan_apart plan _ is refuses = refuses

  pub one_plan : (one other : Reply) → PlanReply machine wanted one → PlanReply machine wanted other → one ≡ other
  one_plan (reply.Plan xs) (reply.Plan ys) is also = ap (λ (blobs : List BlobName). reply.Plan blobs) (plan_once (names machine.store) machine.version wanted xs ys is also)
  one_plan (reply.Plan xs) (reply.Refused refusal) is also = absurd (plan_apart xs refusal is also)
  one_plan (reply.Refused refusal) (reply.Plan ys) is also = absurd (plan_apart ys refusal also is)
  one_plan (reply.Refused r) (reply.Refused s) is also = ap (λ (x : Refusal). reply.Refused x) (refusal_once r s is also)
  one_plan (reply.Plan xs) _ is also = absurd also
  one_plan (reply.Refused r) _ is also = absurd also
  one_plan _ other is also = absurd is

  plan_unpublished : (answer : Reply) → PlanReply machine wanted answer → IsUnpublished answer
  plan_unpublished (reply.Plan blobs) is = refl
  plan_unpublished (reply.Refused refusal) is = refl
  plan_unpublished _ is = absurd is

plan_leaves : LeavesOf plan_form
plan_leaves machine wanted answer next is = (plan_unpublished machine wanted answer is.0, left_same machine next is.1)

pub plan_lawful : IsLawful Kind.Plan plan_form
plan_lawful = moves_lawful Kind.Plan plan_form refl
    (λ written machine sound wanted one other next after is also. says_both one other next after (one_plan machine wanted one other is.0 also.0, is.1 ∙ sym also.1)) plan_leaves

-- ---- what blobs that are applied leave

pub applied_leaves : (machine : Machine) (name : BlobName) (answer : Reply) (next : Machine) → Applies machine name answer next → IsLeft machine next
applied_leaves machine (Snapshot version) answer next is = (load_leaves machine version answer next is).1
applied_leaves machine (Delta from to) answer next is = (step_leaves machine (Delta from to) from to (refl, refl) answer next is).1
applied_leaves machine (Reverse from to) answer next is = (step_leaves machine (Reverse from to) from to (refl, refl) answer next is).1
applied_leaves machine Announced answer next is = absurd is

pub gone_leaves : (blobs : List BlobName) (machine : Machine) (applied : ℕ) (refused : Option Refusal) (next : Machine) → Goes machine blobs applied refused next → IsLeft machine next
gone_leaves [] machine applied refused next goes = left_same machine next goes.2
gone_leaves (name ∷ blobs) machine applied refused next (inl (refusal, applies, none, why)) = applied_leaves machine name (reply.Refused refusal) next applies
gone_leaves (name ∷ blobs) machine applied refused next (inr (answer, between, behind, applies, taken, count, goes)) =
    left_on machine between next (applied_leaves machine name answer between applies) (gone_leaves blobs between behind refused next goes)

goto_leaves : LeavesOf goto_form
goto_leaves machine wanted (reply.Goto progress) next (plan, is, count, goes, tag) = (refl, gone_leaves plan machine progress.applied progress.refused next goes)
goto_leaves machine wanted (reply.Refused refusal) next step = (refl, left_same machine next step.1)
goto_leaves machine wanted _ next step = absurd step

-- ---- blobs are applied in one way

applied_once : (machine : Machine) → IfSome machine.consumer IsTyped → (name : BlobName) (one other : Reply) (next after : Machine) → Applies machine name one next → Applies machine name other after → Alike one next other after
applied_once machine typed (Snapshot version) one other next after is also = one_load machine version one other next after is also
applied_once machine typed (Delta from to) one other next after is also = one_move machine (Delta from to) to typed one other next after is also
applied_once machine typed (Reverse from to) one other next after is also = one_move machine (Reverse from to) to typed one other next after is also
applied_once machine typed Announced one other next after is also = absurd is

-- an answer that is a refusal is one
refused_not : (refusal : Refusal) (answer : Reply) → reply.Refused refusal ≡ answer → is_refusal answer ≡ false → ⊥
refused_not refusal answer same taken = let no : true ≡ false = ap is_refusal same ∙ taken in absurd cc

gone_once : (blobs : List BlobName) (machine : Machine) → IfSome machine.consumer IsTyped → (a b : ℕ) (r s : Option Refusal) (next after : Machine) → Goes machine blobs a r next → Goes machine blobs b s after
    → (a ≡ b) × (r ≡ s) × (next ≡ after)
gone_once [] machine typed a b r s next after one other = (one.0 ∙ sym other.0, one.1 ∙ sym other.1, one.2 ∙ sym other.2)
gone_once (name ∷ blobs) machine typed a b r s next after (inl (x, applies, none, is)) (inl (y, applies_too, none_too, is_too)) =
    let (same, there) = applied_once machine typed name (reply.Refused x) (reply.Refused y) next after applies applies_too in
    let why : x ≡ y = cc in
    (none ∙ sym none_too, is ∙ ap (λ (w : Refusal). Some w) why ∙ sym is_too, there)
gone_once (name ∷ blobs) machine typed a b r s next after (inl (x, applies, none, is)) (inr (answer, between, behind, applies_too, taken, count, goes)) =
    absurd (refused_not x answer (applied_once machine typed name (reply.Refused x) answer next between applies applies_too).0 taken)
gone_once (name ∷ blobs) machine typed a b r s next after (inr (answer, between, behind, applies, taken, count, goes)) (inl (y, applies_too, none, is)) =
    absurd (refused_not y answer (applied_once machine typed name (reply.Refused y) answer after between applies_too applies).0 taken)
gone_once (name ∷ blobs) machine typed a b r s next after (inr (answer, between, behind, applies, taken, count, goes)) (inr (other, middle, later, applies_too, taken_too, count_too, goes_too)) =
    let (same, there) = applied_once machine typed name answer other between middle applies applies_too in
    let on = gone_once blobs between ((applied_leaves machine name answer between applies).typed typed) behind later r s next after goes
    (subst (λ (m : Machine). Goes m blobs later s after) (sym there) goes_too) in
    (count ∙ ap (λ (n : ℕ). 1 + n) on.0 ∙ sym count_too, on.1, on.2)

module _ (machine : Machine) (wanted : ℕ) (typed : IfSome machine.consumer IsTyped) where
  pub one_goto : (one other : Reply) (next after : Machine) → GotoStep machine wanted one next → GotoStep machine wanted other after → Alike one next other after
  one_goto (reply.Goto p) (reply.Goto q) next after (plan, is, of, goes, tag) (also, is_too, of_too, goes_too, tag_too) =
      let same = plan_once (names machine.store) machine.version wanted also plan is_too is in
      let once = gone_once plan machine typed p.applied q.applied p.refused q.refused next after goes (subst (λ (blobs : List BlobName). Goes machine blobs q.applied q.refused after) same goes_too) in
      let counts = of ∙ ap (λ (blobs : List BlobName). length blobs) (sym same) ∙ sym of_too in
      let tags = tag ∙ ap (λ (m : Machine). option_map (λ (now : Position). now.tag) m.consumer) once.2 ∙ sym tag_too in
      ((λ i. reply.Goto (record { applied = once.0 i; of = counts i; refused = once.1 i; tag = tags i })), once.2)
  one_goto (reply.Goto p) (reply.Refused refusal) next after (plan, is, of, goes, tag) other = absurd (plan_apart machine wanted plan refusal is other.0)
  one_goto (reply.Refused refusal) (reply.Goto q) next after one (plan, is, of, goes, tag) = absurd (plan_apart machine wanted plan refusal is one.0)
  one_goto (reply.Refused r) (reply.Refused s) next after one other = (ap (λ (x : Refusal). reply.Refused x) (refusal_once machine wanted r s one.0 other.0), one.1 ∙ sym other.1)
  one_goto (reply.Goto p) _ next after one other = absurd other
  one_goto (reply.Refused r) _ next after one other = absurd other
  one_goto _ answer next after one other = absurd one

pub goto_lawful : IsLawful Kind.Goto goto_form
goto_lawful = moves_lawful Kind.Goto goto_form refl
    (λ written machine sound wanted one other next after is also. says_both one other next after (one_goto machine wanted sound.1 one other next after is also)) goto_leaves

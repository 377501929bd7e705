-- The order `plan` has an answer: where a walk leads along listed blobs, there is a plan.
use Rattle.std.proofs.Common.{◌≡◌, ◌≢◌, ◌⊎◌, ◌∙◌, ℕ, zero, suc, List, [], ◌∷◌, length, Less, Equal, Greater, Ordering, Option, Some, inl, inr, refl, sym, ap, subst, arith}
use Rattle.std.specs.Prelude.{Contains}
use Rattle.std.specs.Cmp.Lexicographic.{slice_cmp}
use Rattle.std.specs.Ordering.{ordering_reverse}
use Rattle.std.proofs.lemmas.Bool.{cases_lt}
use Rattle.std.proofs.lemmas.Cmp.{tied_itself}
use Rattle.std.proofs.lemmas.List.Elements.{Contains-append_cases, Contains-push_cases}
use Rattle.hol_io.specs.declared.name.BlobName.{BlobName}
use Rattle.hol_io.specs.declared.name.BlobName.TheVariants.{Snapshot, Delta, Reverse, Announced}
use Rattle.hol_io.specs.Name.{name_cmp}
use Rattle.hol_io.specs.Store.{names}
use Rattle.hol_io.proofs.NameOrder.{name_cmp-IsAntisymmetric, name_cmp_total}
use Rattle.hol_plan.specs.Walk.{IsPlan, IsWalk, Leads}
use Rattle.hol_plan.proofs.Orders.{not_less}
use Rattle.blob_faults.proofs.LeastNumber.{no_number}
use Rattle.hol_answers.specs.declared.refusal.Refusal.TheVariants as refusal
use Rattle.hol_answers.specs.declared.reply.Reply.TheVariants as reply
use Rattle.hollow_machine.specs.PlanOrders.{plan_form}
use Rattle.hollow_machine.specs.State.{Machine}
use Rattle.answer_laws.specs.Answered.{IsAnsweredBy, IsSound}
use Rattle.answer_laws.proofs.Deciding.{decide}

-- ---- the least of some names

first_or_behind : (name : BlobName) (listed : List BlobName) (other : BlobName) → Contains (name ∷ listed) other → (name ≡ other) ⊎ Contains listed other
first_or_behind name listed other among = elim (Contains-append_cases (name ∷ []) listed other among) [
  | inl first ↦ elim (Contains-push_cases [] name other first) [ inl none ↦ absurd (omega (arith, none.1)) | inr same ↦ inl same ]
  | inr behind ↦ inr behind
]

-- what is no less than one that is no less than a third is no less than it
no_less : (a b c : BlobName) → name_cmp a b ≢ Less → name_cmp b c ≢ Less → name_cmp a c ≢ Less
no_less a b c up higher less = by_order (name_cmp b a) refl
  where
    by_order : (o : Ordering) → name_cmp b a ≡ o → ⊥
    by_order Less is = higher (name_cmp_total.trans b a c is less)
    by_order Equal is = higher (sym (name_cmp_total.congr a b c (name_cmp_total.antisymm a b ∙ ap ordering_reverse is)) ∙ less)
    by_order Greater is = up (name_cmp_total.antisymm a b ∙ ap ordering_reverse is)

module _ (Q : BlobName → Type 0) where
  -- No other one of the list is before it.
  abbrev IsLeast : List BlobName → BlobName → Type 0
  IsLeast listed name = Q name × ((other : BlobName) → Contains listed other → Q other → name_cmp other name ≢ Less)

  -- where it holds of one of a list, that none of which it does is the least cannot be
  least_of : (listed : List BlobName) → ((name : BlobName) → IsLeast listed name → ⊥) → (name : BlobName) → Contains listed name → Q name → ⊥
  least_of [] none name among holds = omega (arith, among.1)
  least_of (first ∷ listed) none name among holds = decide (Q first) (λ either. elim either [
    | inl here ↦ decide ((other : BlobName) × Contains listed other × Q other) (λ others. elim others [
      | inl some ↦ least_of listed (λ least is. decide (name_cmp least first ≡ Less) (by_order here least is)) some.0 some.1 some.2
      | inr alone ↦ none first (
        here,
        λ other there also. elim (first_or_behind first listed other there) [
          | inl same ↦ (λ less. let tied = tied_itself name_cmp_total first in let before = subst (λ n. name_cmp n first ≡ Less) (sym same) less in absurd cc)
          | inr behind ↦ absurd (alone (other, behind, also))
        ],
      )
    ])
    | inr never ↦
        least_of listed (λ least is. none least (
          is.0,
          λ other there also. elim (first_or_behind first listed other there) [
            | inl same ↦ absurd (never (subst Q (sym same) also))
            | inr behind ↦ is.1 other behind also
          ],
        )) name
        (elim (first_or_behind first listed name among) [ inl same ↦ absurd (never (subst Q (sym same) holds)) | inr behind ↦ behind ]) holds
  ])
    where
      -- the least one of those behind, or the first one, is the least of all
      by_order : Q first → (least : BlobName) → IsLeast listed least → (name_cmp least first ≡ Less) ⊎ (name_cmp least first ≢ Less) → ⊥
      by_order here least is (inl less) = none least (
        is.0,
        λ other there also. elim (first_or_behind first listed other there) [
          | inl same ↦ (λ before.
              let back : name_cmp first least ≡ Less = subst (λ n. name_cmp n least ≡ Less) (sym same) before in
              let around = name_cmp_total.antisymm first least ∙ ap ordering_reverse less in
              absurd cc)
          | inr behind ↦ is.1 other behind also
        ],
      )
      by_order here least is (inr up) = none first (
        here,
        λ other there also. elim (first_or_behind first listed other there) [
          | inl same ↦ (λ before. let tied = tied_itself name_cmp_total first in let back = subst (λ n. name_cmp n first ≡ Less) (sym same) before in absurd cc)
          | inr behind ↦ no_less other least first (is.1 other behind also) up
        ],
      )

-- ---- walks

-- a name leads from one place to one
one_middle : (name : BlobName) (from : Option ℕ) (a b : ℕ) → Leads name from a → Leads name from b → a ≡ b
one_middle (Snapshot version) from a b one other = sym one ∙ other
one_middle (Delta begin end) from a b one other = sym one.1 ∙ other.1
one_middle (Reverse begin end) from a b one other = sym one.1 ∙ other.1
one_middle Announced from a b one other = absurd one

module _ (blobs : List BlobName) (to : ℕ) where
  -- Of the walks of a length it is the first one.
  record IsFirst (from : Option ℕ) (many : ℕ) (walk : List BlobName) : Type 0 where
    walks : IsWalk blobs from to walk
    long : length walk ≡ many
    first : (other : List BlobName) → IsWalk blobs from to other → length other ≡ many → slice_cmp name_cmp other walk ≢ Less

  -- A walk begins with the name, and has so many behind it.
  abbrev Heads : Option ℕ → ℕ → BlobName → Type 0
  Heads from many name =
      Contains blobs name × ((middle : ℕ) × Leads name from middle × ((rest : List BlobName) × IsWalk blobs (Some middle) to rest × (length rest ≡ many)))

  module _ (from : Option ℕ) (many : ℕ) (name : BlobName) (is : IsLeast (Heads from many) blobs name) (behind : List BlobName) (first : IsFirst (Some is.0.1.0) many behind) where
    no_earlier : (other : List BlobName) → IsWalk blobs from to other → length other ≡ suc many → slice_cmp name_cmp other (name ∷ behind) ≢ Less
    no_earlier [] walks long = absurd (omega (arith, long))
    no_earlier (head ∷ rest) walks long =
        let middle = walks.1.0 in
        let short : length rest ≡ many = omega (arith, long) in
        not_less (name_cmp head name) (slice_cmp name_cmp rest behind) (is.1 head walks.0 (walks.0, (middle, walks.1.1.0, (rest, walks.1.1.1, short)))) (λ tied.
        let same : head ≡ name = name_cmp-IsAntisymmetric head name tied in
        let one : middle ≡ is.0.1.0 = one_middle name from middle is.0.1.0 (subst (λ n. Leads n from middle) same walks.1.1.0) is.0.1.1 in
        first.first rest (subst (λ m. IsWalk blobs (Some m) to rest) one walks.1.1.1) short)

    longer : IsFirst from (suc many) (name ∷ behind)
    longer = record { walks = (is.0.0, (is.0.1.0, (is.0.1.1, first.walks))); long = ap suc first.long; first = no_earlier }

  -- where there is a walk of a length, that none is the first of these cannot be
  some_first : (many : ℕ) (from : Option ℕ) → ((walk : List BlobName) → IsFirst from many walk → ⊥) → (walk : List BlobName) → IsWalk blobs from to walk → length walk ≡ many → ⊥
  some_first zero from none [] walks long = none [] record { walks = walks; long = refl; first = none_first }
    where
      none_first : (other : List BlobName) → IsWalk blobs from to other → length other ≡ zero → slice_cmp name_cmp other [] ≢ Less
      none_first [] walks long less = absurd cc
      none_first (name ∷ rest) walks long less = omega (arith, long)
  some_first zero from none (name ∷ rest) walks long = omega (arith, long)
  some_first (suc many) from none [] walks long = omega (arith, long)
  some_first (suc many) from none (name ∷ rest) walks long =
      least_of (Heads from many) blobs (λ least is. some_first many (Some is.0.1.0) (λ behind first. none (least ∷ behind) (longer from many least is behind first)) is.0.1.2.0 is.0.1.2.1 is.0.1.2.2)
      name walks.0 (walks.0, (walks.1.0, walks.1.1.0, (rest, walks.1.1.1, omega (arith, long))))

  -- where there is a walk, that there is no plan cannot be
  pub some_plan : (from : Option ℕ) → ((plan : List BlobName) → IsPlan blobs from to plan → ⊥) → (walk : List BlobName) → IsWalk blobs from to walk → ⊥
  some_plan from none walk walks = no_number (λ many. (other : List BlobName) × IsWalk blobs from to other × (length other ≡ many)) (λ many some earlier.
      some_first many from (λ plan is. none plan record {
        walks = is.walks;
        fewest = λ other also. elim (cases_lt (length other) (length plan)) [ inl less ↦ absurd (earlier (length other) (omega (arith, less, is.long)) (other, also, refl)) | inr few ↦ few ];
        first = λ other also long. is.first other also (long ∙ is.long);
      }) some.0 some.1 some.2) (length walk) (walk, walks, refl)

-- ---- the order

pub plan_answered : (machine : Machine) → IsSound machine → (wanted : ℕ) → IsAnsweredBy plan_form machine wanted
plan_answered machine sound wanted none = decide ((walk : List BlobName) × IsWalk (names machine.store) machine.version wanted walk) (λ either. elim either [
  | inl some ↦ some_plan (names machine.store) wanted machine.version (λ plan is. none (reply.Plan plan) machine (is, refl)) some.0 some.1
  | inr never ↦ none (reply.Refused (refusal.NoPlan machine.version wanted)) machine ((refl, refl, λ walk walks. never (walk, walks)), refl)
])

-- Marks of the types from which a chain of so many references can be followed: what they mean, and that they settle.
use Rattle.std.proofs.Common.{◌≡◌, ℕ, zero, suc, ◌+◌, ◌<◌, ◌≤◌, ◌∙◌, sym, ap, subst, refl, Bool, true, false, List, [], ◌∷◌, length, get_or, map, arith, inl, inr, replicate, slice_get, Some, None}
use Rattle.std.proofs.Math.ListN.{get_or-map, get_or-eq_default}
use Rattle.std.proofs.lemmas.Bool.{cases_lt, cases_eq}
use Rattle.std.proofs.lemmas.List.{get_or-replicate, length-replicate, length-map}
use Rattle.std.proofs.lemmas.List.Folds.{Any-from_list_any, list_any-from_Any}
use Rattle.std.specs.Bool.{Decides, beq}
use Rattle.std.specs.Cmp.Lexicographic.{pointwise, pointwise_decides}
use Rattle.std.specs.List.{position}
use Rattle.model_rules.specs.RuleTests.{has_chained, chained}
use Rattle.std.proofs.lemmas.Iterator.Adapters.{position_from-zero}
use Rattle.std.proofs.lemmas.List.Quantifiers.{position-Some}
use Rattle.std.proofs.lemmas.Option.{slice_get-get_or}
use Rattle.schema_model.specs.Model.{HasChain, BreaksAt, IsKept, named_indexes, type_graph}
use Rattle.schema_model.specs.declared.model.rule.Rule.{Rule}
use Rattle.schema_model.specs.declared.model.rule.Rule.TheVariants.{CyclicModel, TooDeep}
use Rattle.schema_model.specs.declared.schema.Schema.{Schema}
use Rattle.schema_model.specs.declared.schema.Shape.TheVariants.{Set}
use Rattle.schema_model.proofs.Indexing.{passes_none}

marks_at : (rows : List (List ℕ)) (marks : List Bool) (t : ℕ) → get_or (map (has_chained marks) rows) t false ≡ has_chained marks (get_or rows t [])
marks_at rows marks t = get_or-map (has_chained marks) rows t []

-- a mark says that the chain is there
pub chain_from_mark : (rows : List (List ℕ)) (n t : ℕ) → get_or (chained rows n) t false ≡ true → HasChain rows n t
unfolding HasChain chained
chain_from_mark rows zero t marked =
    elim (cases_lt t (length rows)) [
      | inl below ↦ below
      | inr past ↦
          let long : length (replicate (length rows) true) ≤ t = rw length-replicate past in
          let unmarked = get_or-eq_default (replicate (length rows) true) false long in
          absurd (let bad : false ≡ true = sym unmarked ∙ marked in cc)
    ]
chain_from_mark rows (suc n) t marked =
    let some = Any-from_list_any (λ u. get_or (chained rows n) u false) (get_or rows t []) (sym (marks_at rows (chained rows n) t) ∙ marked) in
    (some.0, some.1, some.2, some.3, chain_from_mark rows n some.1 some.4)

-- a chain that is there is marked
pub mark_from_chain : (rows : List (List ℕ)) (n t : ℕ) → HasChain rows n t → get_or (chained rows n) t false ≡ true
unfolding HasChain chained
mark_from_chain rows zero t below = get_or-replicate (length rows) t true false below
mark_from_chain rows (suc n) t (k, u, inside, at, chain) =
    marks_at rows (chained rows n) t ∙ list_any-from_Any (λ v. get_or (chained rows n) v false) (get_or rows t []) (k, u, inside, at, mark_from_chain rows n u chain)

-- a chain has the chain without its last reference in it
one_shorter : (rows : List (List ℕ)) (n t : ℕ) → HasChain rows (suc n) t → HasChain rows n t
unfolding HasChain
one_shorter rows zero t (k, u, inside, at, chain) =
    elim (cases_lt t (length rows)) [
      | inl below ↦ below
      | inr past ↦ let none = get_or-eq_default rows [] past in absurd (omega (arith, ap length none))
    ]
one_shorter rows (suc n) t (k, u, inside, at, chain) = (k, u, inside, at, one_shorter rows n u chain)

-- a chain has each shorter chain in it
pub shorter : (rows : List (List ℕ)) (n m t : ℕ) → n ≤ m → HasChain rows m t → HasChain rows n t
shorter rows n zero t le chain = subst (λ k. HasChain rows k t) (let e : 0 ≡ n = omega arith in e) chain
shorter rows n (suc m) t le chain =
    elim (cases_eq n (suc m)) [
      | inl e ↦ subst (λ k. HasChain rows k t) (sym e) chain
      | inr less ↦ shorter rows n m t (omega arith) (one_shorter rows m t chain)
    ]

-- marks that one round leaves as they are stay
stays : (rows : List (List ℕ)) (k : ℕ) → chained rows (k + 1) ≡ chained rows k → (m : ℕ) → k ≤ m → chained rows m ≡ chained rows k
unfolding chained
stays rows k settled zero le = ap (chained rows) (let e : 0 ≡ k = omega arith in e)
stays rows k settled (suc m) le =
    elim (cases_eq k (suc m)) [
      | inl e ↦ ap (chained rows) (sym e)
      | inr less ↦
          ap (λ marks. map (has_chained marks) rows) (stays rows k settled m (omega arith))
          ∙ ap (chained rows) (let e : suc k ≡ k + 1 = omega arith in e) ∙ settled
    ]

-- a mark that has settled says that chains of every length are there
pub endless_from_mark : (rows : List (List ℕ)) (k t : ℕ) → chained rows (k + 1) ≡ chained rows k → get_or (chained rows k) t false ≡ true → (n : ℕ) → HasChain rows n t
endless_from_mark rows k t settled marked n =
    elim (cases_lt n k) [
      | inl less ↦ shorter rows n k t (omega arith) (chain_from_mark rows k t marked)
      | inr more ↦ chain_from_mark rows n t (ap (λ marks. get_or marks t false) (stays rows k settled n more) ∙ marked)
    ]

-- the next round marks no other types
pub fewer_marks : (rows : List (List ℕ)) (n t : ℕ) → get_or (chained rows (suc n)) t false ≡ true → get_or (chained rows n) t false ≡ true
fewer_marks rows n t marked = mark_from_chain rows n t (one_shorter rows n t (chain_from_mark rows (suc n) t marked))

pub length-chained : (rows : List (List ℕ)) (n : ℕ) → length (chained rows n) ≡ length rows
unfolding chained
length-chained rows zero = length-replicate (length rows) true
length-chained rows (suc n) = length-map rows (has_chained (chained rows n))

-- how many are marked
abbrev pub marked_count : List Bool → ℕ
marked_count [] = 0
marked_count (true ∷ marks) = 1 + marked_count marks
marked_count (false ∷ marks) = marked_count marks

fewer_or_same : (xs ys : List Bool) → length ys ≡ length xs → ((i : ℕ) → get_or ys i false ≡ true → get_or xs i false ≡ true) → marked_count ys ≤ marked_count xs
fewer_or_same xs [] len within = omega arith
fewer_or_same [] (y ∷ ys) len within = absurd (omega arith)
fewer_or_same (x ∷ xs) (true ∷ ys) len within =
    let more = fewer_or_same xs ys (omega arith) (λ i. within (suc i)) in
    let same : x ≡ true = within 0 refl in
    rw same (omega arith)
fewer_or_same (true ∷ xs) (false ∷ ys) len within = let more = fewer_or_same xs ys (omega arith) (λ i. within (suc i)) in omega arith
fewer_or_same (false ∷ xs) (false ∷ ys) len within = fewer_or_same xs ys (omega arith) (λ i. within (suc i))

-- marks that are taken away are fewer
pub fewer : (xs ys : List Bool) → length ys ≡ length xs → ((i : ℕ) → get_or ys i false ≡ true → get_or xs i false ≡ true) → (ys ≡ xs → ⊥) → marked_count ys < marked_count xs
fewer [] [] len within differ = absurd (differ refl)
fewer (x ∷ xs) [] len within differ = absurd (omega arith)
fewer [] (y ∷ ys) len within differ = absurd (omega arith)
fewer (true ∷ xs) (true ∷ ys) len within differ =
    let less = fewer xs ys (omega arith) (λ i. within (suc i)) (λ e. differ (ap (λ zs. true ∷ zs) e)) in omega arith
fewer (false ∷ xs) (true ∷ ys) len within differ = absurd (let bad : false ≡ true = within 0 refl in cc)
fewer (true ∷ xs) (false ∷ ys) len within differ = let more = fewer_or_same xs ys (omega arith) (λ i. within (suc i)) in omega arith
fewer (false ∷ xs) (false ∷ ys) len within differ = fewer xs ys (omega arith) (λ i. within (suc i)) (λ e. differ (ap (λ zs. false ∷ zs) e))

beq-Decides : (a b : Bool) → Decides (beq a b) (a ≡ b)
beq-Decides true true = (λ e. refl, λ e. refl)
beq-Decides true false = (λ e. sym e, λ e. sym e)
beq-Decides false true = (λ e. e, λ e. e)
beq-Decides false false = (λ e. refl, λ e. refl)

-- what a comparison of two lists of marks tells
pub marks_differ : (xs ys : List Bool) → pointwise beq xs ys ≡ false → xs ≡ ys → ⊥
marks_differ xs ys differ same = let good = (pointwise_decides {E = beq} beq-Decides xs ys).1 same in let bad : false ≡ true = sym differ ∙ good in cc

pub marks_same : (xs ys : List Bool) → pointwise beq xs ys ≡ true → xs ≡ ys
marks_same xs ys good = (pointwise_decides {E = beq} beq-Decides xs ys).0 good

-- a round that takes marks away leaves fewer
pub fewer_after_round : (rows : List (List ℕ)) (xs ys : List Bool) (k : ℕ) → xs ≡ chained rows k → ys ≡ map (has_chained xs) rows → pointwise beq ys xs ≡ false → marked_count ys < marked_count xs
unfolding chained
fewer_after_round rows xs ys k old new differ =
    let round : ys ≡ chained rows (suc k) = new ∙ ap (λ marks. map (has_chained marks) rows) old in
    let long : length ys ≡ length xs = ap length round ∙ length-chained rows (suc k) ∙ sym (ap length old ∙ length-chained rows k) in
    fewer xs ys long
    (λ i marked. ap (λ marks. get_or marks i false) old ∙ fewer_marks rows k i (ap (λ marks. get_or marks i false) (sym round) ∙ marked))
    (marks_differ ys xs differ)

-- the schema at an index from which a chain begins
schema_at : (schemas : List Schema) (t : ℕ) → HasChain (type_graph schemas) 0 t → (s : Schema) × (slice_get schemas t ≡ Some s)
unfolding HasChain
schema_at schemas t below =
    let d : Schema = record { name = []; shape = Set [] } in
    let inside : t < length schemas = rw (sym (length-map schemas (named_indexes schemas))) below in
    (get_or schemas t d, slice_get-get_or schemas t d inside)

-- The first mark names the first type that breaks a rule, where the marks are of the types that break it.
pub record Marks (schemas : List Schema) (rule : Rule) (marks : List Bool) : Type 0 where
  pub broken : (t : ℕ) → get_or marks t false ≡ true → BreaksAt schemas rule t
  pub marked : (t : ℕ) → BreaksAt schemas rule t → get_or marks t false ≡ true

pub first_broken : (schemas : List Schema) (rule : Rule) (marks : List Bool) → Marks schemas rule marks → (t : ℕ) → position (λ mark. mark) marks ≡ Some t
    → BreaksAt schemas rule t × ((u : ℕ) → u < t → ¬ BreaksAt schemas rule u)
first_broken schemas rule marks m t first =
    let found = position-Some (λ mark. mark) marks t false first in
    (m.broken t found.1, λ u less breaks. let bad : false ≡ true = sym (found.2 u less) ∙ m.marked u breaks in cc)

pub none_broken : (schemas : List Schema) (rule : Rule) (marks : List Bool) → Marks schemas rule marks → position (λ mark. mark) marks ≡ None → IsKept schemas rule
none_broken schemas rule marks m none t breaks =
    let marked = m.marked t breaks in
    elim (cases_lt t (length marks)) [
      | inl below ↦ passes_none (λ (mark : Bool). mark) false 0 marks (sym (position_from-zero (λ (mark : Bool). mark) marks) ∙ none) t below marked
      | inr past ↦ let bad : false ≡ true = sym (get_or-eq_default marks false past) ∙ marked in cc
    ]

-- marks that have settled are of the types whose references lead into a cycle
pub cycle_marks : (schemas : List Schema) (marks : List Bool) (k : ℕ) → marks ≡ chained (type_graph schemas) k → chained (type_graph schemas) (k + 1) ≡ chained (type_graph schemas) k → Marks schemas CyclicModel marks
cycle_marks schemas marks k e settled = record {
  broken = λ t marked.
      let endless = endless_from_mark (type_graph schemas) k t settled (ap (λ ms. get_or ms t false) (sym e) ∙ marked) in
      let at = schema_at schemas t (endless 0) in (at.0, at.1, endless);
  marked = λ t breaks. ap (λ ms. get_or ms t false) e ∙ mark_from_chain (type_graph schemas) k t (breaks.2 k);
}

-- marks after so many rounds are of the types at the top of too long a chain
pub depth_marks : (schemas : List Schema) (marks : List Bool) → marks ≡ chained (type_graph schemas) 32 → Marks schemas TooDeep marks
depth_marks schemas marks e = record {
  broken = λ t marked.
      let chain = chain_from_mark (type_graph schemas) 32 t (ap (λ ms. get_or ms t false) (sym e) ∙ marked) in
      let at = schema_at schemas t (shorter (type_graph schemas) 0 32 t (omega arith) chain) in (at.0, at.1, chain);
  marked = λ t breaks. ap (λ ms. get_or ms t false) e ∙ mark_from_chain (type_graph schemas) 32 t breaks.2;
}

-- When a check gives each answer, where the store tells what it holds.
use Rattle.std.proofs.Common.{◌≡◌, ◌⊎◌, inl, inr, ℕ, List, [], ◌∷◌, ◌++◌, Option, Some, None, refl, sym, ap, ◌∙◌, subst}
use Rattle.std.specs.Prelude.{true, false, Result, Ok, Err, IfOk, IfSome}
use Rattle.std.specs.List.{last_or}
use Rattle.hol_io.specs.Store.{Store}
use Rattle.hol_varint.specs.Yields.{Yields}
use Rattle.schema_model.specs.declared.schema.name.Name.{Name}
use Rattle.chain_check.specs.declared.checking.CheckFault.{CheckFault}
use Rattle.chain_check.specs.declared.place.Place.{Place}
use Rattle.chain_check.specs.Compare.{Compare}
use Rattle.chain_check.specs.Walk.{Arrives, Both, Calls, Differs, Goes, HasSnapshot, IsFree, Passes, TellsCheck, Visits, compared_in}
use Rattle.chain_check.proofs.OnePlace.{one_place}

module _ {W E : Type 0} (calls : Calls W E) (held : Option Store)
    (one_load : (version : ℕ) (a b a' b' : W) → calls.loads held version a a' (Ok tt) → calls.loads held version b b' (Ok tt) → a' ≡ b')
    (one_step : (from to : ℕ) (a a' b' : W) → calls.steps held from to a a' (Ok tt) → calls.steps held from to a b' (Ok tt) → a' ≡ b')
    (not_both : (version : ℕ) → HasSnapshot held version true → HasSnapshot held version false → ⊥) where
  -- a walk comes to one pair of states
  one_arrival : (from : Option ℕ) (to : ℕ) (start a b : Both W) → Arrives calls held from to start a → Arrives calls held from to start b → a ≡ b
  one_arrival None to start a b first other =
      let walkers = one_load to start.walker start.walker a.walker b.walker first.goes other.goes in
      let freshs = one_load to start.fresh start.fresh a.fresh b.fresh first.loads other.loads in
      λ i. record { walker = walkers i; fresh = freshs i }
  one_arrival (Some from) to start a b first other =
      let walkers = one_step from to start.walker a.walker b.walker first.goes other.goes in
      let freshs = one_load to start.fresh start.fresh a.fresh b.fresh first.loads other.loads in
      λ i. record { walker = walkers i; fresh = freshs i }

  one_walker : (from : Option ℕ) (to : ℕ) (start a b : Both W) → Goes calls held from to start.walker a.walker (Ok tt) → Goes calls held from to start.walker b.walker (Ok tt) → a.walker ≡ b.walker
  one_walker None to start a b first other = one_load to start.walker start.walker a.walker b.walker first other
  one_walker (Some from) to start a b first other = one_step from to start.walker a.walker b.walker first other

  one_visit : (from : Option ℕ) (to : ℕ) (start a b : Both W) → Visits calls held from to start a → Visits calls held from to start b → a ≡ b
  one_visit from to start a b (inl first) (inl other) = one_arrival from to start a b first.0 other.0
  one_visit from to start a b (inl first) (inr other) = absurd (not_both to first.0.has other.lacks)
  one_visit from to start a b (inr first) (inl other) = absurd (not_both to other.0.has first.lacks)
  one_visit from to start a b (inr first) (inr other) =
      let walkers = one_walker from to start a b first.goes other.goes in
      let freshs = first.still ∙ sym other.still in
      λ i. record { walker = walkers i; fresh = freshs i }

  -- a walk goes from here to a version, and passes it
  abbrev GoesPast : Option ℕ → ℕ → Both W → Type 0
  GoesPast from to before = (there : Both W) × Visits calls held from to before there

  -- what passes all passes one of them
  passes_one : (from : Option ℕ) (p : List ℕ) (v : ℕ) (more : List ℕ) (start a end : Both W) → Passes calls held from (p ++ v ∷ more) start end → Passes calls held from p start a
      → GoesPast (last_or from p) v a
  passes_one from [] v more start a end all same = (all.0, subst (λ (b : Both W). Visits calls held from v b all.0) (sym same) all.1)
  passes_one from (x ∷ p) v more start a end all some =
      let one = one_visit from x start all.0 some.0 all.1 some.1 in
      passes_one (Some x) p v more some.0 a end (subst (λ (b : Both W). Passes calls held (Some x) (p ++ v ∷ more) b end) one all.2) some.2

  head_is : (x y : ℕ) (xs ys : List ℕ) → x ∷ xs ≡ y ∷ ys → x ≡ y
  head_is x y xs ys same = cc

  tail_is : (x y : ℕ) (xs ys : List ℕ) → x ∷ xs ≡ y ∷ ys → xs ≡ ys
  tail_is x y xs ys same = cc

  -- two walks come before the same version
  record AtOne (from from' : Option ℕ) (v v' : ℕ) (a b : Both W) : Type 0 where
    froms : from ≡ from'
    versions : v ≡ v'
    states : a ≡ b

  -- they do, or one goes past the version before which the other is
  abbrev Meet : Option ℕ → Option ℕ → ℕ → ℕ → Both W → Both W → Type 0
  Meet from from' v v' a b = AtOne from from' v v' a b ⊎ (GoesPast from v a ⊎ GoesPast from' v' b)

  two_walks : (from : Option ℕ) (p q : List ℕ) (v w : ℕ) (m n : List ℕ) (start a b : Both W) → p ++ v ∷ m ≡ q ++ w ∷ n → Passes calls held from p start a → Passes calls held from q start b
      → Meet (last_or from p) (last_or from q) v w a b
  two_walks from [] [] v w m n start a b same first other = inl (record { froms = refl; versions = head_is v w m n same; states = first ∙ sym other })
  two_walks from [] (y ∷ q) v w m n start a b same first other =
      let heads = head_is v y m (q ++ w ∷ n) same in
      inr (inl (other.0, subst (λ u. Visits calls held from u a other.0) (sym heads) (subst (λ (s : Both W). Visits calls held from y s other.0) (sym first) other.1)))
  two_walks from (x ∷ p) [] v w m n start a b same first other =
      let heads = head_is x w (p ++ v ∷ m) n same in
      inr (inr (first.0, subst (λ u. Visits calls held from u b first.0) heads (subst (λ (s : Both W). Visits calls held from x s first.0) (sym other) first.1)))
  two_walks from (x ∷ p) (y ∷ q) v w m n start a b same first other =
      let heads = head_is x y (p ++ v ∷ m) (q ++ w ∷ n) same in
      let one = one_visit from x start first.0 other.0 first.1 (subst (λ u. Visits calls held from u start other.0) (sym heads) other.1) in
      let rest = subst (λ u. Passes calls held (Some u) q first.0 b) (sym heads) (subst (λ (s : Both W). Passes calls held (Some y) q s b) (sym one) other.2) in
      subst (λ u. Meet (last_or (Some x) p) (last_or (Some u) q) v w a b) heads
      (two_walks (Some x) p q v w m n first.0 a b (tail_is x y (p ++ v ∷ m) (q ++ w ∷ n) same) first.2 rest)

  -- states that are compared at one version are compared once
  one_comparison : (from : Option ℕ) (v : ℕ) (before a b : Both W) (place other : Option Place) → Arrives calls held from v before a → Arrives calls held from v before b
      → Compare (calls.state a.walker) (calls.state a.fresh) place → Compare (calls.state b.walker) (calls.state b.fresh) other → place ≡ other
  one_comparison from v before a b place other first second compared compared' =
      let one = one_arrival from v before a b first second in
      one_place (calls.state b.walker) (calls.state b.fresh) place other (subst (λ (s : Both W). Compare (calls.state s.walker) (calls.state s.fresh) place) one compared) compared'

  -- where states differ no walk goes on
  no_further : (from : Option ℕ) (v : ℕ) (before at : Both W) (place : Place) → Arrives calls held from v before at → Compare (calls.state at.walker) (calls.state at.fresh) (Some place)
      → GoesPast from v before → ⊥
  no_further from v before at place arrives compared (there, inl past) =
      let none : Some place ≡ None = one_comparison from v before at there (Some place) None arrives past.0 compared past.1 in
      absurd cc
  no_further from v before at place arrives compared (there, inr past) = not_both v arrives.has past.lacks

  module _ (versions : List ℕ) (start : Both W) where
    -- a walk that differs somewhere passes not all
    no_pass : (version : ℕ) (type_name : Option Name) (ordinal : Option ℕ) (at end : Both W) → Differs calls held versions start version type_name ordinal at → Passes calls held None versions start end → ⊥
    no_pass version type_name ordinal at end differs passes =
        let comes = differs.comes in
        let past = passes_one None comes.passed version comes.more start differs.before end (subst (λ vs. Passes calls held None vs start end) comes.versions_are passes) comes.passes in
        no_further differs.from version differs.before at (record { type_name = type_name; ordinal = ordinal }) differs.arrives differs.place
        (subst (λ (from : Option ℕ). GoesPast from version differs.before) (sym comes.from_is) past)

    -- a walk differs at one place
    one_difference : (v w : ℕ) (type_name type_name' : Option Name) (ordinal ordinal' : Option ℕ) (a b : Both W) → Differs calls held versions start v type_name ordinal a
        → Differs calls held versions start w type_name' ordinal' b → ◌≡◌ {A = CheckFault E} (CheckFault.Mismatch v type_name ordinal) (CheckFault.Mismatch w type_name' ordinal')
    one_difference v w type_name type_name' ordinal ordinal' a b first other =
        let comes = first.comes in
        let comes' = other.comes in
        let place : Place = record { type_name = type_name; ordinal = ordinal } in
        let place' : Place = record { type_name = type_name'; ordinal = ordinal' } in
        elim (two_walks None comes.passed comes'.passed v w comes.more comes'.more start first.before other.before (sym comes.versions_are ∙ comes'.versions_are) comes.passes comes'.passes) [
          | inl at_one ↦
              let froms : other.from ≡ first.from = comes'.from_is ∙ sym at_one.froms ∙ sym comes.from_is in
              let arrives =
              subst (λ (from : Option ℕ). Arrives calls held from v first.before b) froms
              (subst (λ u. Arrives calls held other.from u first.before b) (sym at_one.versions) (subst (λ (s : Both W). Arrives calls held other.from w s b) (sym at_one.states) other.arrives)) in
              let one : Some place ≡ Some place' = one_comparison first.from v first.before a b (Some place) (Some place') first.arrives arrives first.place other.place in
              same_fault v w type_name type_name' ordinal ordinal' at_one.versions one
          | inr (inl past) ↦ absurd (no_further first.from v first.before a place first.arrives first.place (subst (λ (from : Option ℕ). GoesPast from v first.before) (sym comes.from_is) past))
          | inr (inr past) ↦ absurd (no_further other.from w other.before b place' other.arrives other.place (subst (λ (from : Option ℕ). GoesPast from w other.before) (sym comes'.from_is) past))
        ]
      where
        same_place : (p q : Place) → Some p ≡ Some q → p ≡ q
        same_place p q same = cc

        same_fault : (v w : ℕ) (type_name type_name' : Option Name) (ordinal ordinal' : Option ℕ) → v ≡ w
            → ◌≡◌ {A = Option Place} (Some (record { type_name = type_name; ordinal = ordinal })) (Some (record { type_name = type_name'; ordinal = ordinal' }))
            → ◌≡◌ {A = CheckFault E} (CheckFault.Mismatch v type_name ordinal) (CheckFault.Mismatch w type_name' ordinal')
        same_fault v w type_name type_name' ordinal ordinal' versions places =
            let one = same_place _ _ places in
            λ i. CheckFault.Mismatch (versions i) (one i).type_name (one i).ordinal

    module _ (now : Both W) where
      pub passes_told : (count : ℕ) (result : Result ℕ (CheckFault E)) → IfOk result (λ compared. compared ≡ count) → TellsCheck calls held versions start now result
          → Yields IsFree result (Ok count) ((end : Both W) × Passes calls held None versions start end)
      passes_told count (Ok compared) counted tells = (λ _. (now, tells), λ _. inl (ap Ok counted))
      passes_told count (Err (CheckFault.Walk name fault)) counted tells = (λ e. absurd cc, λ _. inr tt)
      passes_told count (Err CheckFault.Store) counted tells = (λ e. absurd cc, λ _. inr tt)
      passes_told count (Err (CheckFault.Mismatch version type_name ordinal)) counted tells =
          (λ e. absurd cc, λ passes. absurd (no_pass version type_name ordinal now passes.0 tells passes.1))
      passes_told count (Err CheckFault.Memory) counted tells = (λ e. absurd cc, λ _. inr tt)

      pub differs_told : (v : ℕ) (type_name : Option Name) (ordinal : Option ℕ) (result : Result ℕ (CheckFault E)) → TellsCheck calls held versions start now result
          → Yields IsFree result (Err (CheckFault.Mismatch v type_name ordinal)) ((at : Both W) × Differs calls held versions start v type_name ordinal at)
      differs_told v type_name ordinal (Ok done) tells = (λ e. absurd cc, λ differs. absurd (no_pass v type_name ordinal differs.0 now differs.1 tells))
      differs_told v type_name ordinal (Err (CheckFault.Walk name fault)) tells = (λ e. absurd cc, λ _. inr tt)
      differs_told v type_name ordinal (Err (CheckFault.Mismatch w type_name' ordinal')) tells = (
        λ e. (now, subst (λ r. TellsCheck calls held versions start now r) e tells),
        λ differs. inl (ap Err (one_difference w v type_name' type_name ordinal' ordinal now differs.0 tells differs.1)),
      )
      differs_told v type_name ordinal (Err CheckFault.Store) tells = (λ e. absurd cc, λ _. inr tt)
      differs_told v type_name ordinal (Err CheckFault.Memory) tells = (λ e. absurd cc, λ _. inr tt)

-- the same, whatever the store tells
module _ {W E : Type 0} (calls : Calls W E)
    (one_load : (store : Store) (version : ℕ) (a b a' b' : W) → calls.loads (Some store) version a a' (Ok tt) → calls.loads (Some store) version b b' (Ok tt) → a' ≡ b')
    (one_step : (store : Store) (from to : ℕ) (a a' b' : W) → calls.steps (Some store) from to a a' (Ok tt) → calls.steps (Some store) from to a b' (Ok tt) → a' ≡ b')
    (versions : List ℕ) (start now : Both W) (result : Result ℕ (CheckFault E)) where
  not_both : (store : Store) (version : ℕ) → HasSnapshot (Some store) version true → HasSnapshot (Some store) version false → ⊥
  not_both store version has lacks = let both : true ≡ false = has ∙ sym lacks in absurd cc

  pub passes_exactly : (held : Option Store) → IfOk result (λ compared. IfSome held (λ store. compared ≡ compared_in store versions)) → TellsCheck calls held versions start now result
      → IfSome held (λ store. Yields IsFree result (Ok (compared_in store versions)) ((end : Both W) × Passes calls (Some store) None versions start end))
  passes_exactly None counted tells = tt
  passes_exactly (Some store) counted tells = passes_told calls (Some store) (one_load store) (one_step store) (not_both store) versions start now (compared_in store versions) result counted tells

  pub differs_exactly : (held : Option Store) → TellsCheck calls held versions start now result → (v : ℕ) (type_name : Option Name) (ordinal : Option ℕ)
      → IfSome held (λ store. Yields IsFree result (Err (CheckFault.Mismatch v type_name ordinal)) ((at : Both W) × Differs calls (Some store) versions start v type_name ordinal at))
  differs_exactly None tells v type_name ordinal = tt
  differs_exactly (Some store) tells v type_name ordinal = differs_told calls (Some store) (one_load store) (one_step store) (not_both store) versions start now v type_name ordinal result tells

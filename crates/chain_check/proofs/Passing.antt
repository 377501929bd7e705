-- How far a walk has come.
use Rattle.std.proofs.Common.{inl, inr, Bool, true, false, ◌≡◌, ◌<◌, ◌+◌, ◌-◌, ℕ, List, [], ◌∷◌, ◌++◌, length, take, drop, get_or, Option, Some, None, refl, sym, ap, ◌∙◌, subst, arith}
use Rattle.std.specs.Prelude.{IfSome, cond, is_some, if◌then◌else◌, Result, Ok, Err, IsErrAnd}
use Rattle.std.specs.List.{last_or}
use Rattle.std.specs.FinMap.{get}
use Rattle.std.proofs.lemmas.List.Filters.{length-filter_more}
use Rattle.std.proofs.lemmas.List.{drop_more, take-append-drop, take_more}
use Rattle.hol_io.specs.declared.name.BlobName.TheVariants.{Snapshot}
use Rattle.hol_io.specs.Store.{Store}
use Rattle.chain_check.specs.declared.checking.CheckFault.{CheckFault}
use Rattle.chain_check.specs.Walk.{Arrives, Both, Calls, Comes, HasSnapshot, Passes, TellsCheck, TellsVersion, Visits, compared_in}

-- a list at a place of it
pub split_at : (xs : List ℕ) (place : ℕ) → place < length xs → xs ≡ take place xs ++ get_or xs place 0 ∷ drop (place + 1) xs
split_at xs place inside = sym (take-append-drop place xs) ∙ ap (λ (ys : List ℕ). take place xs ++ ys) (drop_more xs place 0 inside)

-- the last of a list that one item ends
last_push : (o : Option ℕ) (xs : List ℕ) (x : ℕ) → last_or o (xs ++ x ∷ []) ≡ Some x
last_push o [] x = refl
last_push o (y ∷ xs) x = last_push (Some y) xs x

pub last_at : (xs : List ℕ) (place : ℕ) → 0 < place → place < length xs → last_or None (take place xs) ≡ Some (get_or xs (place - 1) 0)
last_at xs place some inside =
    let before : place ≡ (place - 1) + 1 = omega (arith, some) in
    ap (λ n. last_or None (take n xs)) before ∙ ap (last_or None) (take_more xs (place - 1) 0 (omega (arith, inside))) ∙ last_push None (take (place - 1) xs) (get_or xs (place - 1) 0)

module _ {W E : Type 0} (calls : Calls W E) (held : Option Store) where
  -- a walk goes one version further
  passes_more : (from : Option ℕ) (versions : List ℕ) (to : ℕ) (start before now : Both W) → Passes calls held from versions start before
      → Visits calls held (last_or from versions) to before now
      → Passes calls held from (versions ++ to ∷ []) start now
  passes_more from [] to start before now same visits = (now, subst (λ (b : Both W). Visits calls held from to b now) same visits, refl)
  passes_more from (v ∷ versions) to start before now passes visits = (passes.0, passes.1, passes_more (Some v) versions to passes.0 before now passes.2 visits)

  visited : (from : Option ℕ) (to : ℕ) (before now : Both W) (there : Bool) → TellsVersion calls held from to before now (Ok there) → Visits calls held from to before now
  visited from to before now true tells = inl tells
  visited from to before now false tells = inr tells

  -- whether the store has the snapshot there
  pub told_there : (from : Option ℕ) (to : ℕ) (before now : Both W) (there : Bool) → TellsVersion calls held from to before now (Ok there) → HasSnapshot held to there
  told_there from to before now true tells = tells.0.has
  told_there from to before now false tells = tells.lacks

  module _ (versions : List ℕ) (place : ℕ) (inside : place < length versions) (start before now : Both W) (passes : Passes calls held None (take place versions) start before) where
    pub passed_more : (there : Bool) → TellsVersion calls held (last_or None (take place versions)) (get_or versions place 0) before now (Ok there) → Passes calls held None (take (place + 1) versions) start now
    passed_more there tells =
        subst (λ (vs : List ℕ). Passes calls held None vs start now) (sym (take_more versions place 0 inside)) (passes_more None (take place versions) (get_or versions place 0) start before now passes (visited (last_or None (take place versions)) (get_or versions place 0) before now there tells))

    comes : Comes calls held versions start (last_or None (take place versions)) (get_or versions place 0) before
    comes = record {
      passed = take place versions;
      more = drop (place + 1) versions;
      versions_are = split_at versions place inside;
      from_is = refl;
      passes = passes;
    }

    pub stopped : (fault : CheckFault E) → TellsVersion calls held (last_or None (take place versions)) (get_or versions place 0) before now (Err fault) → TellsCheck calls held versions start now (Err fault)
    stopped (CheckFault.Walk name fault) tells =
        record { from = last_or None (take place versions); to = get_or versions place 0; before = before; comes = comes; refuses = tells }
    stopped (CheckFault.Mismatch version type_name ordinal) tells = record {
      from = last_or None (take place versions);
      before = before;
      comes = subst (λ v. Comes calls held versions start (last_or None (take place versions)) v before) (sym tells.0) comes;
      arrives = subst (λ v. Arrives calls held (last_or None (take place versions)) v before now) (sym tells.0) tells.1;
      place = tells.2;
    }
    stopped CheckFault.Store tells = tt
    stopped CheckFault.Memory tells = tt

  -- a fault that is handed on tells the same
  pub handed_on : (versions : List ℕ) (start now : Both W) (fault : CheckFault E) (result : Result ℕ (CheckFault E)) → IsErrAnd result (λ e. e ≡ fault)
      → TellsCheck calls held versions start now (Err fault) → TellsCheck calls held versions start now result
  handed_on versions start now fault (Ok done) is tells = absurd is
  handed_on versions start now fault (Err e) is tells = subst (λ (f : CheckFault E). TellsCheck calls held versions start now (Err f)) (sym is) tells

-- ---- how many are compared

one_more : (b there : Bool) (n before after : ℕ) → n ≡ before → there ≡ b → after ≡ before + cond b 1 0 → (if there then n + 1 else n) ≡ after
one_more true there n before after is told more = rw told (omega (arith, is, more))
one_more false there n before after is told more = rw told (omega (arith, is, more))

pub counted_more : (held : Option Store) (versions : List ℕ) (place : ℕ) → place < length versions → (n : ℕ) (there : Bool) → IfSome held (λ store. n ≡ compared_in store (take place versions))
    → HasSnapshot held (get_or versions place 0) there → IfSome held (λ store. (if there then n + 1 else n) ≡ compared_in store (take (place + 1) versions))
counted_more None versions place inside n there is told = tt
counted_more (Some store) versions place inside n there is told =
    let has = λ (version : ℕ). is_some (get store (Snapshot version)) in
    one_more (has (get_or versions place 0)) there n (compared_in store (take place versions)) (compared_in store (take (place + 1) versions)) is told (length-filter_more has versions place 0 inside)

-- of no versions none are
pub none_counted : (held : Option Store) → IfSome held (λ store. 0 ≡ compared_in store [])
none_counted None = tt
none_counted (Some store) = refl

pub counted_as : (held : Option Store) (versions : List ℕ) (m n : ℕ) → m ≡ n → IfSome held (λ store. n ≡ compared_in store versions) → IfSome held (λ store. m ≡ compared_in store versions)
counted_as held versions m n is counted = subst (λ (k : ℕ). IfSome held (λ store. k ≡ compared_in store versions)) (sym is) counted

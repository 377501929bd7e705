-- Versions that rise can be walked there and back.
use Rattle.std.proofs.Common.{Bool, Option, false, true, ◌≡◌, ◌<◌, ◌≤◌, ◌+◌, ◌-◌, ◌∙◌, inl, inr, ℕ, suc, List, [], ◌∷◌, drop, length, get_or, reverse, Some, None, arith, refl, sym, ap, subst, length-append, length-drop}
use Rattle.std.specs.Prelude.{◌↔◌, IfSome, IsTrue}
use Rattle.std.proofs.lemmas.Bool.{cases_lt}
use Rattle.std.proofs.lemmas.Grind.{get_or_after_one}
use Rattle.std.proofs.lemmas.List.{get_or-append_right, get_or-reverse, get_or_append_left, length-reverse}
use Rattle.hol_io.specs.Name.{IsVersion}
use Rattle.hol_io.specs.Store.{Store}
use Rattle.hol_orders.specs.Shapes.{AreVersions, DoNeighboursDiffer, IsWalk}
use Rattle.hol_answers.specs.declared.reply.Reply.TheVariants as reply
use Rattle.hollow_machine.specs.CheckOrder.{CheckReply, both_new}
use Rattle.hollow_machine.specs.MakeCommand.{there_and_back}
use Rattle.hollow_make.specs.Walked.{ArePublished}

-- how long the way there and back is
long : (versions : List ℕ) → length (there_and_back versions) ≡ length versions + (length versions - 1)
long versions = length-append versions (drop 1 (reverse versions)) ∙ ap (λ n. length versions + n) (length-drop 1 (reverse versions) ∙ ap (λ n. n - 1) (length-reverse versions))

-- what stands on the way there
there : (versions : List ℕ) (place : ℕ) → place < length versions → get_or (there_and_back versions) place 0 ≡ get_or versions place 0
there versions place inside = get_or_append_left versions (drop 1 (reverse versions)) 0 place inside

-- and what on the way back
back : (versions : List ℕ) (place : ℕ) → length versions ≤ place → place < length (there_and_back versions)
    → get_or (there_and_back versions) place 0 ≡ get_or versions (length versions + length versions - 2 - place) 0
back versions place past inside =
    let all = long versions in
    let k = place - length versions in
    let first = get_or-append_right versions (drop 1 (reverse versions)) (length versions) place 0 refl past in
    let next = get_or_after_one (reverse versions) k 0 in
    let within : 1 + k < length versions = omega arith in
    let mirrored = get_or-reverse versions (1 + k) 0 within in
    let e : length versions - 1 - (1 + k) ≡ length versions + length versions - 2 - place = omega arith in
    first ∙ next ∙ mirrored ∙ ap (λ n. get_or versions n 0) e

-- versions of which each is one
each_version : (versions : List ℕ) → ((place : ℕ) → place < length versions → IsVersion (get_or versions place 0)) → AreVersions versions
each_version [] each = tt
each_version (x ∷ xs) each = (each 0 (omega arith), each_version xs (λ place inside. each (suc place) (omega (arith, inside))))

is_version : (versions : List ℕ) (place : ℕ) → ArePublished versions → place < length versions → IsVersion (get_or versions place 0)
is_version versions place are inside = let (least, most) = are.within place inside in (least, omega (arith, most))

walked_version : (versions : List ℕ) → ArePublished versions → (place : ℕ) → place < length (there_and_back versions) → IsVersion (get_or (there_and_back versions) place 0)
walked_version versions are place inside =
    elim (cases_lt place (length versions)) [
      | inl below ↦ subst IsVersion (sym (there versions place below)) (is_version versions place are below)
      | inr past ↦
          let all = long versions in
          let within : length versions + length versions - 2 - place < length versions = omega arith in
          subst IsVersion (sym (back versions place past inside)) (is_version versions (length versions + length versions - 2 - place) are within)
    ]

-- neighbours on the way there rise, and on the way back they fall
apart : (versions : List ℕ) → ArePublished versions → DoNeighboursDiffer (there_and_back versions)
apart versions are place inside same =
    let all = long versions in
    elim (cases_lt (place + 1) (length versions)) [
      | inl below ↦
          let here : place < length versions = omega arith in
          omega (arith, same, there versions place here, there versions (place + 1) below, are.rising place below)
      | inr past ↦ turned versions are place past inside same
    ]
  where
    turned : (versions : List ℕ) → ArePublished versions → (place : ℕ) → length versions ≤ place + 1 → place + 1 < length (there_and_back versions)
        → get_or (there_and_back versions) place 0 ≡ get_or (there_and_back versions) (place + 1) 0 → ⊥
    turned versions are place past inside same =
        let all = long versions in
        let before = length versions + length versions - 2 - (place + 1) in
        let within : before + 1 < length versions = omega arith in
        let rises = are.rising before within in
        let next = back versions (place + 1) past inside in
        elim (cases_lt place (length versions)) [
          | inl below ↦
              let e : place ≡ before + 1 = omega arith in
              omega (arith, same, there versions place below, next, rises, ap (λ n. get_or versions n 0) e)
          | inr beyond ↦
              let inner : place < length (there_and_back versions) = omega arith in
              let e : length versions + length versions - 2 - place ≡ before + 1 = omega arith in
              omega (arith, same, back versions place beyond inner, next, rises, ap (λ n. get_or versions n 0) e)
        ]

-- versions that are some are more than none
some_there : (versions : List ℕ) → ¬ (versions ≡ []) → 0 < length versions
some_there [] some = absurd (some refl)
some_there (x ∷ xs) some = omega arith

-- versions that are not said to be none are some
pub some_versions : (versions : List ℕ) (none : Bool) → none ≡ false → (IsTrue none ↔ (versions ≡ [])) → ¬ (versions ≡ [])
some_versions versions none not is empty = let holds : none ≡ true = is.1 empty in cc

-- The way there and back is a walk.
pub is_walk : (published versions : List ℕ) → ArePublished published → ¬ (published ≡ []) → versions ≡ there_and_back published → IsWalk versions
is_walk published versions are some is = subst IsWalk (sym is) (record {
  each = each_version (there_and_back published) (walked_version published are);
  some = omega (arith, long published, some_there published some);
  apart = apart published are;
})

-- Where no version is published none is walked.
pub none_walked : (held : Option Store) (published : List ℕ) → published ≡ [] → IfSome held (λ store. CheckReply store (there_and_back published) (reply.Check 0 0))
none_walked None published none = tt
none_walked (Some store) published none = subst (λ (ns : List ℕ). CheckReply store (there_and_back ns) (reply.Check 0 0)) (sym none) (refl, refl, (both_new, refl))

-- The two arrays in which links stand, as the list of the links.
use Rattle.std.proofs.Common.{◌≡◌, ◌≢◌, ◌≤◌, ◌<◌, ◌-◌, ◌+◌, ◌^◌, ℕ, zero, suc, Bool, true, false, cond, List, [], ◌∷◌, ◌++◌, Option, Some, None, length, get_or, set, map, take, replicate, refl, arith, ◌∙◌, sym, ap, subst, ◌⊎◌, inl, inr}
use Rattle.std.specs.Prelude.{slice_get, nat_eq, not, option_map, zip, ltb, IsSome}
use Rattle.std.proofs.lemmas.Bool.{cases_eq, ltb-true, ltb-false}
use Rattle.std.proofs.lemmas.List.{length-set, take_all}
use Rattle.std.proofs.lemmas.Option.{slice_get-get_or, slice_get_past, slice_get_within}
use Rattle.linked_slots.specs.Links.{ArePaired, before_set, free_link, free_next, hash_at, link_of, links_of, next_set, none, with_before, with_next}
use Rattle.linked_slots.specs.declared.link.Link.{Link}
use Rattle.linked_slots.specs.declared.links.Step.{Step}
use Rattle.linked_slots.proofs.Tests.{same_test, other_test}
use Rattle.linked_slots.proofs.Writes.{before_past, before_written, next_past, next_written}

pub long : (steps : List Step) (befores : List ℕ) → length steps ≡ length befores → length (links_of steps befores) ≡ length steps
long [] befores same = refl
long (step ∷ steps) [] same = absurd (omega arith)
long (step ∷ steps) (before ∷ befores) same = ap suc (long steps befores (omega arith))

-- what stands at a slot
pub read : (steps : List Step) (befores : List ℕ) (slot : ℕ) (step : Step) (before : ℕ) → slice_get steps slot ≡ Some step → slice_get befores slot ≡ Some before → slice_get (links_of steps befores) slot ≡ Some (link_of (step, before))
read [] befores slot step before h k = absurd cc
read (x ∷ steps) [] slot step before h k = absurd cc
read (x ∷ steps) (y ∷ befores) zero step before h k = let e : x ≡ step = cc in let f : y ≡ before = cc in ap (λ (s : Step). Some (link_of (s, y))) e ∙ ap (λ (b : ℕ). Some (link_of (step, b))) f
read (x ∷ steps) (y ∷ befores) (suc slot) step before h k = read steps befores slot step before h k

-- the write of both
pub written : (steps : List Step) (befores : List ℕ) (slot : ℕ) (step : Step) (before : ℕ) → links_of (set steps slot step) (set befores slot before) ≡ set (links_of steps befores) slot (link_of (step, before))
written [] befores slot step before = refl
written (x ∷ steps) [] zero step before = refl
written (x ∷ steps) [] (suc slot) step before = refl
written (x ∷ steps) (y ∷ befores) zero step before = refl
written (x ∷ steps) (y ∷ befores) (suc slot) step before = ap (λ (links : List Link). link_of (x, y) ∷ links) (written steps befores slot step before)

-- the write of one
pub step_written : (steps : List Step) (befores : List ℕ) (slot : ℕ) (step : Step) (before : ℕ) → slice_get befores slot ≡ Some before → links_of (set steps slot step) befores ≡ set (links_of steps befores) slot (link_of (step, before))
step_written [] befores slot step before k = refl
step_written (x ∷ steps) [] slot step before k = absurd cc
step_written (x ∷ steps) (y ∷ befores) zero step before k = let f : y ≡ before = cc in ap (λ (b : ℕ). link_of (step, b) ∷ links_of steps befores) f
step_written (x ∷ steps) (y ∷ befores) (suc slot) step before k = ap (λ (links : List Link). link_of (x, y) ∷ links) (step_written steps befores slot step before k)

pub before_step : (steps : List Step) (befores : List ℕ) (slot : ℕ) (step : Step) (before : ℕ) → slice_get steps slot ≡ Some step → links_of steps (set befores slot before) ≡ set (links_of steps befores) slot (link_of (step, before))
before_step [] befores slot step before h = refl
before_step (x ∷ steps) [] zero step before h = refl
before_step (x ∷ steps) [] (suc slot) step before h = refl
before_step (x ∷ steps) (y ∷ befores) zero step before h = let e : x ≡ step = cc in ap (λ (s : Step). link_of (s, before) ∷ links_of steps befores) e
before_step (x ∷ steps) (y ∷ befores) (suc slot) step before h = ap (λ (links : List Link). link_of (x, y) ∷ links) (before_step steps befores slot step before h)

-- slots that come
pub grown : (steps : List Step) (befores : List ℕ) (n : ℕ) → length steps ≡ length befores →
    links_of (steps ++ replicate n (record { hash = 0; next = free_next })) (befores ++ replicate n none) ≡ links_of steps befores ++ replicate n free_link
grown [] [] zero same = refl
grown [] [] (suc n) same = ap (λ (links : List Link). free_link ∷ links) (grown [] [] n same)
grown [] (before ∷ befores) n same = absurd (omega arith)
grown (step ∷ steps) [] n same = absurd (omega arith)
grown (step ∷ steps) (before ∷ befores) n same = ap (λ (links : List Link). link_of (step, before) ∷ links) (grown steps befores n (omega arith))

linked_then : (link : Link) → IsSome (hash_at (Some link)) → link.linked ≡ true
linked_then link h = by_flag link.linked h
  where
    by_flag : (b : Bool) → IsSome (cond b (Some link.hash) None) → b ≡ true
    by_flag true h = refl
    by_flag false h = absurd cc

not_is : (b : Bool) → not b ≡ cond b false true
not_is true = refl
not_is false = refl

pub linked_flag : (next : ℕ) → next ≢ free_next → true ≡ not (nat_eq next free_next)
linked_flag next apart = sym (not_is (nat_eq next free_next) ∙ other_test next free_next false true apart)

-- another next of what is not linked
pub free_stays : (o : Option Link) (next : ℕ) → hash_at o ≡ None → option_map (with_next next) o ≡ o
free_stays None next none = refl
free_stays (Some link) next none = by_flag link.linked refl none
  where
    by_flag : (b : Bool) → link.linked ≡ b → cond b (Some link.hash) None ≡ None → Some (with_next next link) ≡ Some link
    by_flag true e none = absurd cc
    by_flag false e none = ap (λ (b : Bool). Some (cond b (record link { next = next }) link)) e

module _ (steps : List Step) (befores : List ℕ) (now : List Link) (paired : ArePaired steps befores) (view_is : links_of steps befores ≡ now) where
  pub length_is : length now ≡ length steps
  length_is = sym (ap length view_is) ∙ long steps befores paired.same

  pub within : (slot : ℕ) → slot < length now → slot < length steps
  within slot h = let e : length now ≡ length steps = length_is in omega arith

  pub short_now : length now < 2 ^ 32 - 1
  short_now = let e : length now ≡ length steps = length_is in let s : length steps < 2 ^ 32 - 1 = paired.short in omega arith

  before_there : (slot : ℕ) → slot < length steps → slice_get befores slot ≡ Some (get_or befores slot 0)
  before_there slot h = slice_get-get_or befores slot 0 (let e : length steps ≡ length befores = paired.same in omega arith)

  step_there : (slot : ℕ) (step : Step) → slot < length steps → step ≡ get_or steps slot step → slice_get steps slot ≡ Some step
  step_there slot step h is = slice_get-get_or steps slot step h ∙ ap (λ (s : Step). Some s) (sym is)

  at : (slot : ℕ) (step : Step) (before : ℕ) → slice_get steps slot ≡ Some step → slice_get befores slot ≡ Some before → slice_get now slot ≡ Some (link_of (step, before))
  at slot step before h k = ap (λ (links : List Link). slice_get links slot) (sym view_is) ∙ read steps befores slot step before h k

  pub link_is : (slot : ℕ) (step : Step) (before : ℕ) → slot < length now → step ≡ get_or steps slot step → before ≡ get_or befores slot before → slice_get now slot ≡ Some (link_of (step, before))
  link_is slot step before h is was =
      let w : slot < length steps = within slot h in
      at slot step before (step_there slot step w is)
      (slice_get-get_or befores slot before (let e : length steps ≡ length befores = paired.same in omega arith) ∙ ap (λ (b : ℕ). Some b) (sym was))

  pub next_is : (slot : ℕ) (step : Step) (link : Link) → slot < length now → step ≡ get_or steps slot step → slice_get now slot ≡ Some link → step.next ≡ link.next
  next_is slot step link h is there =
      let w : slot < length steps = within slot h in
      let e : Some (link_of (step, get_or befores slot 0)) ≡ Some link = sym (at slot step (get_or befores slot 0) (step_there slot step w is) (before_there slot w)) ∙ there in
      let k : link_of (step, get_or befores slot 0) ≡ link = cc in
      ap (λ (l : Link). l.next) k

  pub put_is : (slot : ℕ) (link : Link) → link.linked ≡ not (nat_eq link.next free_next) →
      links_of (set steps slot (record { hash = link.hash; next = link.next })) (set befores slot link.before) ≡ set now slot link
  put_is slot link flag =
      written steps befores slot (record { hash = link.hash; next = link.next }) link.before
      ∙ ap (λ (links : List Link). set links slot (link_of (record { hash = link.hash; next = link.next }, link.before))) view_is
      ∙ ap (λ (b : Bool). set now slot (record { linked = b; hash = link.hash; before = link.before; next = link.next })) (sym flag)

  pub before_is : (slot before : ℕ) → slot < length befores → (t : ℕ) → slice_get (links_of steps (set befores slot before)) t ≡ before_set slot before (slice_get now) t
  before_is slot before h t =
      let w : slot < length steps = (let e : length steps ≡ length befores = paired.same in omega arith) in
      let step : Step = get_or steps slot (record { hash = 0; next = 0 }) in
      let read_step : slice_get steps slot ≡ Some step = slice_get-get_or steps slot (record { hash = 0; next = 0 }) w in
      let link : Link = link_of (step, get_or befores slot 0) in
      ap (λ (links : List Link). slice_get links t) (before_step steps befores slot step before read_step ∙ ap (λ (links : List Link). set links slot (with_before before link)) view_is)
      ∙ before_written now slot t before link (at slot step (get_or befores slot 0) read_step (before_there slot w))

  pub before_long : (slot before : ℕ) → length (links_of steps (set befores slot before)) ≡ length now
  before_long slot before = long steps (set befores slot before) (paired.same ∙ sym (length-set befores slot before)) ∙ sym length_is

  pub before_nowhere : (slot before : ℕ) → length befores ≤ slot → (t : ℕ) → slice_get now t ≡ before_set slot before (slice_get now) t
  before_nowhere slot before h t = before_past now slot t before (let e : length now ≡ length steps = length_is in let s : length steps ≡ length befores = paired.same in omega arith)

  pub linked_within : (slot : ℕ) → IsSome (hash_at (slice_get now slot)) → slot < length steps
  linked_within slot h = by_read (slice_get now slot) refl h
    where
      by_read : (o : Option Link) → slice_get now slot ≡ o → IsSome (hash_at o) → slot < length steps
      by_read None e h = absurd cc
      by_read (Some link) e h = within slot (slice_get_within now slot link e)

  pub next_put : (slot next : ℕ) (step : Step) → IsSome (hash_at (slice_get now slot)) → step ≡ get_or steps slot step → next ≢ free_next → (t : ℕ) →
      slice_get (links_of (set steps slot (record { hash = step.hash; next = next })) befores) t ≡ next_set slot next (slice_get now) t
  next_put slot next step linked is apart t =
      let w : slot < length steps = linked_within slot linked in
      let old : ℕ = get_or befores slot 0 in
      let link : Link = link_of (step, old) in
      let there : slice_get now slot ≡ Some link = at slot step old (step_there slot step w is) (before_there slot w) in
      let flag : link.linked ≡ true = linked_then link (subst (λ (o : Option Link). IsSome (hash_at o)) there linked) in
      let other : not (nat_eq next free_next) ≡ true = sym (linked_flag next apart) in
      let new_is : link_of (record { hash = step.hash; next = next }, old) ≡ with_next next link =
      ap (λ (b : Bool). record { linked = b; hash = step.hash; before = old; next = next }) (other ∙ sym flag) ∙ sym (ap (λ (b : Bool). cond b (record link { next = next }) link) flag) in
      ap (λ (links : List Link). slice_get links t)
      (step_written steps befores slot (record { hash = step.hash; next = next }) old (before_there slot w) ∙ ap (λ (links : List Link). set links slot (link_of (record { hash = step.hash; next = next }, old))) view_is
      ∙ ap (set now slot) new_is)
      ∙ next_written now slot t next link there

  pub next_long : (slot : ℕ) (step : Step) → length (links_of (set steps slot step) befores) ≡ length now
  next_long slot step = long (set steps slot step) befores (length-set steps slot step ∙ paired.same) ∙ length-set steps slot step ∙ sym length_is

  pub next_stays : (slot next : ℕ) → hash_at (slice_get now slot) ≡ None → (t : ℕ) → slice_get now t ≡ next_set slot next (slice_get now) t
  next_stays slot next none t = by_cases (cases_eq t slot)
    where
      by_cases : (t ≡ slot) ⊎ (t ≡ slot → ⊥) → slice_get now t ≡ next_set slot next (slice_get now) t
      by_cases (inl e) =
          sym (free_stays (slice_get now t) next (ap (λ (k : ℕ). hash_at (slice_get now k)) e ∙ none))
          ∙ sym (same_test t slot (option_map (with_next next) (slice_get now t)) (slice_get now t) e)
      by_cases (inr n) = sym (other_test t slot (option_map (with_next next) (slice_get now t)) (slice_get now t) n)

  pub hash_is : (slot : ℕ) (ys : List Step) (step : Step) (o : Option ℕ) → ys ≡ steps → true ≡ ltb slot (length ys) → step ≡ get_or ys slot step → ((before : ℕ) → o ≡ hash_at (Some (link_of (step, before)))) →
      o ≡ hash_at (slice_get now slot)
  hash_is slot ys step o e there is told =
      let w : slot < length steps = subst (λ (zs : List Step). slot < length zs) e (ltb-true slot (length ys) (sym there)) in
      let read_step : slice_get steps slot ≡ Some step = step_there slot step w (is ∙ ap (λ (zs : List Step). get_or zs slot step) e) in
      told (get_or befores slot 0) ∙ ap hash_at (sym (at slot step (get_or befores slot 0) read_step (before_there slot w)))

  pub hash_past : (slot : ℕ) (ys : List Step) → ys ≡ steps → false ≡ ltb slot (length ys) → None ≡ hash_at (slice_get now slot)
  hash_past slot ys e past =
      let w : length steps ≤ slot = subst (λ (zs : List Step). length zs ≤ slot) e (ltb-false slot (length ys) (sym past)) in
      ap hash_at (sym (slice_get_past now slot (let k : length now ≡ length steps = length_is in omega arith)))

  pub grown_is : (more : List Step) (behind : List ℕ) (slots m k : ℕ) → length now ≤ slots → m ≡ length steps → k ≡ length befores → more ≡ take slots steps ++ replicate (slots - m) (record { hash = 0; next = free_next }) →
      behind ≡ take slots befores ++ replicate (slots - k) none → links_of more behind ≡ now ++ replicate (slots - length now) free_link
  grown_is more behind slots m k below m_is k_is more_is behind_is =
      let e : length now ≡ length steps = length_is in
      let s : length steps ≡ length befores = paired.same in
      let n : slots - m ≡ slots - length now = ap (λ (i : ℕ). slots - i) (m_is ∙ sym e) in
      let o : slots - k ≡ slots - length now = ap (λ (i : ℕ). slots - i) (k_is ∙ sym s ∙ sym e) in
      ap (λ (xs : List Step). links_of xs behind) (more_is ∙ ap (λ xs. xs ++ replicate (slots - m) (record { hash = 0; next = free_next })) (take_all slots steps (omega arith)) ∙ ap (λ (i : ℕ). steps ++ replicate i (record { hash = 0; next = free_next })) n)
      ∙ ap (λ (xs : List ℕ). links_of (steps ++ replicate (slots - length now) (record { hash = 0; next = free_next })) xs)
      (behind_is ∙ ap (λ xs. xs ++ replicate (slots - k) none) (take_all slots befores (omega arith)) ∙ ap (λ (i : ℕ). befores ++ replicate i none) o)
      ∙ grown steps befores (slots - length now) s ∙ ap (λ (links : List Link). links ++ replicate (slots - length now) free_link) view_is

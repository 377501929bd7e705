-- What the fields of chains say of what contracts see, and what each call makes of it.
use Rattle.std.proofs.Common.{◌≡◌, ◌≢◌, ◌<◌, ◌^◌, ◌-◌, ℕ, Bool, true, false, cond, List, [], ◌∷◌, Option, Some, None, length, get_or, set, map, refl, arith, ◌∙◌, sym, ap, subst, inl}
use Rattle.std.specs.Prelude.{nat_eq, not, option_map, slice_get, is_some, IsSome}
use Rattle.std.proofs.lemmas.List.{get_or-map, length-set, length-map}
use Rattle.std.proofs.lemmas.Option.{slice_get_within}
use Rattle.linked_slots.specs.Chained.{Among, Chained, bucket_of, hash_of, links_under, without}
use Rattle.linked_slots.specs.Links.{AreFor, before_set, next_set, chains_from, free_link, free_next, front_or, hash_at, none, with_before}
use Rattle.linked_slots.specs.declared.link.Link.{Link}
use Rattle.linked_slots.proofs.Writes.{link_written, neighbour_hidden}
use Rattle.linked_slots.proofs.Walks.{chains_are, closed, hash_is}
use Rattle.linked_slots.proofs.Changes.{link_hashes, slot_within, link_made, unlink_hashes, unlink_made}

abbrev pub shown : List ℕ → List Link → Chained
shown heads links = record { slots = length links; chains = chains_from heads links }

-- the values after a call
pub remade : (heads : List ℕ) (links : List Link) (chains : List (List (ℕ × ℕ))) (slots : ℕ) → AreFor heads links chains → length links ≡ slots → shown heads links ≡ record { slots = slots; chains = chains }
remade heads links chains slots f long = ap (λ (n : ℕ). record { slots = n; chains = chains_from heads links }) long ∙ ap (λ (cs : List (List (ℕ × ℕ))). record { slots = slots; chains = cs }) (chains_are heads links chains f)

pub rehashed : (heads : List ℕ) (links : List Link) (chains : List (List (ℕ × ℕ))) (t : ℕ) → AreFor heads links chains → hash_of (shown heads links) t ≡ hash_at (slice_get links t)
rehashed heads links chains t f = hash_is heads links (chains_from heads links) t (closed heads links chains f)

some_link : (o : Option Link) → IsSome (hash_at o) → (link : Link) × (o ≡ Some link) × (link.linked ≡ true)
some_link None h = absurd cc
some_link (Some link) h = (link, refl, flag link.linked h)
  where
    flag : (b : Bool) → IsSome (cond b (Some link.hash) None) → b ≡ true
    flag true h = refl
    flag false h = absurd cc

-- no slots and no buckets
pub nothing : (heads : List ℕ) (links : List Link) → heads ≡ [] → links ≡ [] → AreFor heads links []
nothing heads links e k =
    subst (λ (hs : List ℕ). AreFor hs links []) (sym e) (subst (λ (ls : List Link). AreFor [] ls []) (sym k) (record {
      few = omega arith;
      powered = inl refl;
      heads_are = refl;
      chained = λ b. tt;
      apart = λ b. tt;
      hashed = λ b t hash h. absurd h;
      found = λ t hash h. absurd cc;
    }))

module _ (heads : List ℕ) (links : List Link) (now : Chained) (inside : AreFor heads links (chains_from heads links)) (view_is : shown heads links ≡ now) where
  pub opened : AreFor heads links now.chains
  opened = subst (AreFor heads links) (ap (λ (c : Chained). c.chains) view_is) inside

  pub long : length links ≡ now.slots
  long = ap (λ (c : Chained). c.slots) view_is

  pub heads_long : length heads ≡ length now.chains
  heads_long = ap length opened.heads_are ∙ length-map now.chains (front_or none)

  pub hash_now : (t : ℕ) → hash_of now t ≡ hash_at (slice_get links t)
  hash_now t = hash_is heads links now.chains t opened

  pub linked_within : (slot : ℕ) → IsSome (hash_of now slot) → slot < length links
  linked_within slot h = let l = some_link (slice_get links slot) (subst IsSome (hash_now slot) h) in slice_get_within links slot l.0 l.1

  pub head_is : (b x : ℕ) → b < length now.chains → x ≡ get_or heads b x → x ≡ front_or none (get_or now.chains b [])
  head_is b x within is = is ∙ ap (λ (hs : List ℕ). get_or hs b x) opened.heads_are ∙ get_or-map (front_or none) now.chains b [] x within

  -- no head stands for a slot that is not linked
  pub head_apart : (b x : ℕ) → b < length now.chains → x ≡ get_or heads b x → x ≢ free_next
  head_apart b x within is e = front_apart (get_or now.chains b []) (λ t h. slot_within heads links now.chains opened b t h) (sym (head_is b x within is) ∙ e)
    where
      front_apart : (c : List (ℕ × ℕ)) → ((t : ℕ) → Among t c → t < length links) → front_or none c ≡ free_next → ⊥
      front_apart [] below e = absurd (omega arith)
      front_apart (y ∷ ys) below e = let b : y.0 < length links = below y.0 (inl refl) in let few : length links < 2 ^ 32 - 1 = opened.few in absurd (omega arith)

  -- ---- link

  module _ (more : List Link) (slot hash b next place : ℕ) (reserved : slot < now.slots) (free : hash_of now slot ≡ None) (b_is : b ≡ bucket_of now hash) (within : b < length now.chains)
      (next_is : next ≡ get_or heads b next) (place_is : place ≡ cond (nat_eq next none) slot next) (reads : (t : ℕ) → slice_get more t ≡ before_set place slot (slice_get links) t) (same : length more ≡ length links) where
    new_link : Link
    new_link = record { linked = true; hash = hash; before = none; next = next }

    front_is : next ≡ front_or none (links_under now hash)
    front_is = head_is b next within next_is ∙ ap (λ (k : ℕ). front_or none (get_or now.chains k [])) b_is

    writes : (t : ℕ) → slice_get (set more slot (record { linked = true; hash = hash; before = none; next = next })) t ≡
        cond (nat_eq t slot) (Some (record { linked = true; hash = hash; before = none; next = front_or none (links_under now hash) })) (before_set (front_or none (links_under now hash)) slot (slice_get links) t)
    writes t =
        link_written more slot t (record { linked = true; hash = hash; before = none; next = next }) (let s : length links ≡ now.slots = long in omega arith)
        ∙ ap (λ o. cond (nat_eq t slot) (Some (record { linked = true; hash = hash; before = none; next = next })) o) (reads t)
        ∙ neighbour_hidden links next slot place slot t (Some (record { linked = true; hash = hash; before = none; next = next })) (omega (arith, opened.few)) place_is
        ∙ ap (λ (k : ℕ). cond (nat_eq t slot) (Some (record { linked = true; hash = hash; before = none; next = k })) (before_set k slot (slice_get links) t)) front_is

    free_at : hash_at (slice_get links slot) ≡ None
    free_at = sym (hash_now slot) ∙ free

    pub link_long : length (set more slot (record { linked = true; hash = hash; before = none; next = next })) ≡ now.slots
    link_long = length-set more slot (record { linked = true; hash = hash; before = none; next = next }) ∙ same ∙ long

    pub link_step : AreFor (set heads b slot) (set more slot (record { linked = true; hash = hash; before = none; next = next })) (set now.chains (bucket_of now hash) ((slot, hash) ∷ links_under now hash))
    link_step =
        subst (λ (k : ℕ). AreFor (set heads b slot) (set more slot (record { linked = true; hash = hash; before = none; next = next })) (set now.chains k ((slot, hash) ∷ links_under now hash))) b_is
        (link_made heads links now.chains opened (set more slot (record { linked = true; hash = hash; before = none; next = next })) slot hash b (links_under now hash) (sym b_is)
        (ap (λ (k : ℕ). get_or now.chains k []) b_is) free_at writes within (link_long ∙ sym long))

    pub link_hash : (t : ℕ) → hash_of (shown (set heads b slot) (set more slot (record { linked = true; hash = hash; before = none; next = next }))) t ≡ cond (nat_eq t slot) (Some hash) (hash_of now t)
    link_hash t =
        rehashed (set heads b slot) (set more slot (record { linked = true; hash = hash; before = none; next = next })) (set now.chains (bucket_of now hash) ((slot, hash) ∷ links_under now hash)) t link_step
        ∙ link_hashes heads links now.chains opened (set more slot (record { linked = true; hash = hash; before = none; next = next })) slot hash b (links_under now hash) (sym b_is)
        (ap (λ (k : ℕ). get_or now.chains k []) b_is) free_at writes t
        ∙ ap (λ o. cond (nat_eq t slot) (Some hash) o) (sym (hash_now t))

  flag_at : (slot : ℕ) (link : Link) → IsSome (hash_of now slot) → slice_get links slot ≡ Some link → link.linked ≡ true
  flag_at slot link is_linked there =
      let l = some_link (slice_get links slot) (subst IsSome (hash_now slot) is_linked) in
      let e : Some link ≡ Some l.0 = sym there ∙ l.1 in
      let k : link ≡ l.0 = cc in
      ap (λ (m : Link). m.linked) k ∙ l.2

  -- nothing that is not a slot follows one that is linked
  pub linked_apart : (slot : ℕ) (link : Link) → IsSome (hash_of now slot) → slice_get links slot ≡ Some link → link.linked ≡ not (nat_eq link.next free_next) → link.next ≢ free_next
  linked_apart slot link is_linked there told e =
      let k : true ≡ false = sym (flag_at slot link is_linked there) ∙ told ∙ ap (λ (n : ℕ). not (nat_eq n free_next)) e in absurd cc

  -- ---- unlink

  module _ (heads_new : List ℕ) (one two : List Link) (slot b place : ℕ) (link : Link) (is_linked : IsSome (hash_of now slot)) (there : slice_get links slot ≡ Some link)
      (b_is : b ≡ bucket_of now link.hash) (within : b < length now.chains) (heads_are : heads_new ≡ cond (nat_eq link.before none) (set heads b link.next) heads)
      (place_is : place ≡ cond (nat_eq link.next none) slot link.next) (reads_one : (t : ℕ) → slice_get one t ≡ next_set link.before link.next (slice_get links) t) (reads_two : (t : ℕ) → slice_get two t ≡ before_set place link.before (slice_get one) t)
      (same_one : length one ≡ length links) (same_two : length two ≡ length one) where
    flag : link.linked ≡ true
    flag = flag_at slot link is_linked there

    gone : (t : ℕ) → slice_get (set two slot free_link) t ≡ cond (nat_eq t slot) (Some free_link) (before_set link.next link.before (next_set link.before link.next (slice_get links)) t)
    gone t =
        link_written two slot t free_link (let w : slot < length links = linked_within slot is_linked in omega arith)
        ∙ ap (λ o. cond (nat_eq t slot) (Some free_link) o) (reads_two t)
        ∙ neighbour_hidden one link.next slot place link.before t (Some free_link) (omega (arith, same_one, opened.few)) place_is
        ∙ ap (λ (o : Option Link). cond (nat_eq t slot) (Some free_link) (cond (nat_eq t link.next) (option_map (with_before link.before) o) o)) (reads_one t)

    pub unlink_long : length (set two slot free_link) ≡ now.slots
    unlink_long = length-set two slot free_link ∙ same_two ∙ same_one ∙ long

    pub unlink_step : AreFor heads_new (set two slot free_link) (map (without slot) now.chains)
    unlink_step =
        subst (λ (hs : List ℕ). AreFor hs (set two slot free_link) (map (without slot) now.chains)) (sym heads_are)
        (unlink_made heads links now.chains opened (set two slot free_link) slot b link there flag (sym b_is) gone within (unlink_long ∙ sym long))

    pub unlink_hash : (t : ℕ) → hash_of (shown heads_new (set two slot free_link)) t ≡ cond (nat_eq t slot) None (hash_of now t)
    unlink_hash t =
        rehashed heads_new (set two slot free_link) (map (without slot) now.chains) t unlink_step
        ∙ unlink_hashes heads links now.chains opened (set two slot free_link) slot b link there flag (sym b_is) gone t
        ∙ ap (λ o. cond (nat_eq t slot) None o) (sym (hash_now t))

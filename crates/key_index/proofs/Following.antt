-- The keys of the next state, and those of an index that is built.
use Rattle.std.proofs.Common.{◌≡◌, ◌⊎◌, ◌↔◌, ℕ, zero, suc, ◌+◌, ◌<◌, ◌≤◌, Bool, true, false, ◌&&◌, cond, List, [], ◌∷◌, ◌++◌, Option, Some, None, length, refl, sym, ap, subst, ◌∙◌, inl, inr, arith}
use Rattle.std.specs.Prelude.{All, Contains, IsSome, IsTrue, MatchOption, is_some, map, slice_index_or}
use Rattle.std.specs.List.{list_all}
use Rattle.std.specs.Ordering.{nat_cmp}
use Rattle.std.specs.FinMap.{get, insert, remove, empty, get-empty}
use Rattle.std.proofs.lemmas.Bool.{cases_eq}
use Rattle.std.proofs.lemmas.List.Elements.{Contains-append_left, Contains-get_or, Contains-push, Contains-push_cases}
use Rattle.std.proofs.lemmas.List.Quantifiers.{all_pairs_push}
use Rattle.std.proofs.lemmas.List.{length-append}
use Rattle.schema_model.specs.declared.model.path.Path.{Path}
use Rattle.row_model.specs.declared.row.Row.{Row}
use Rattle.row_model.specs.declared.row.Value.{Value}
use Rattle.schema_model.specs.declared.schema.Schema.{Schema}
use Rattle.row_model.specs.Key.{key_of}
use Rattle.row_model.specs.Row.{Rises}
use Rattle.row_model.specs.Table.{IsLive, Table, row_at}
use Rattle.key_index.specs.Indexed.{AreKeysOf, Follows, KeyMap}
use Rattle.key_index.specs.Slots.{Fits, Roomy, added_row, fits, is_small, keyed_row, next_of, placed, with_added, with_keys, without}
use Rattle.key_index.specs.declared.reserved.AddedRow.{AddedRow}
use Rattle.key_index.specs.declared.reserved.Reserved.{Reserved}
use Rattle.key_index.proofs.Lists.{contains_either, contains_first, contains_later, contains_none}
use Rattle.key_index.proofs.SlotKeys.{get_beside, get_inserted, get_left, get_removed}

-- ---- what a list of ordinals takes from keys, and what one adds

among : (o : ℕ) (os : List ℕ) → Contains os o ⊎ (Contains os o → ⊥)
among o [] = inr (λ h. contains_none o h)
among o (x ∷ os) =
    elim (cases_eq x o) [
      | inl e ↦ inl (contains_first x o os e)
      | inr apart ↦ elim (among o os) [
        | inl later ↦ inl (contains_later x o os later)
        | inr never ↦ inr (λ h. elim (contains_either x o os h) [ inl e ↦ apart e | inr later ↦ never later ])
      ]
    ]

none_left : (os : List ℕ) (m : KeyMap) (o : ℕ) → get m o ≡ None → get (without m os) o ≡ None
none_left [] m o none = none
none_left (x ∷ os) m o none =
    none_left os (remove m x) o (elim (cases_eq o x) [ inl e ↦ ap (get (remove m x)) e ∙ get_removed m x | inr apart ↦ get_left m x o apart ∙ none ])

gone : (os : List ℕ) (m : KeyMap) (o : ℕ) → Contains os o → get (without m os) o ≡ None
gone [] m o h = absurd (contains_none o h)
gone (x ∷ os) m o h =
    elim (contains_either x o os h) [
      | inl e ↦ none_left os (remove m x) o (ap (get (remove m x)) (sym e) ∙ get_removed m x)
      | inr later ↦ gone os (remove m x) o later
    ]

left : (os : List ℕ) (m : KeyMap) (o : ℕ) → (Contains os o → ⊥) → get (without m os) o ≡ get m o
left [] m o never = refl
left (x ∷ os) m o never = left os (remove m x) o (λ h. never (contains_later x o os h)) ∙ get_left m x o (λ e. never (contains_first x o os (sym e)))

module _ (key : ℕ → Option (List Value)) where
  still_there : (os : List ℕ) (m : KeyMap) (o : ℕ) → get m o ≡ Some (key o) → get (with_keys key m os) o ≡ Some (key o)
  still_there [] m o is = is
  still_there (x ∷ os) m o is =
      still_there os (insert m x (key x)) o (elim (cases_eq o x) [
        | inl e ↦ ap (get (insert m x (key x))) e ∙ get_inserted m x (key x) ∙ ap (λ q. Some (key q)) (sym e)
        | inr apart ↦ get_beside m x o (key x) apart ∙ is
      ])

  come : (os : List ℕ) (m : KeyMap) (o : ℕ) → Contains os o → get (with_keys key m os) o ≡ Some (key o)
  come [] m o h = absurd (contains_none o h)
  come (x ∷ os) m o h =
      elim (contains_either x o os h) [
        | inl e ↦ still_there os (insert m x (key x)) o (ap (get (insert m x (key x))) (sym e) ∙ get_inserted m x (key x) ∙ ap (λ q. Some (key q)) e)
        | inr later ↦ come os (insert m x (key x)) o later
      ]

  stay : (os : List ℕ) (m : KeyMap) (o : ℕ) → (Contains os o → ⊥) → get (with_keys key m os) o ≡ get m o
  stay [] m o never = refl
  stay (x ∷ os) m o never = stay os (insert m x (key x)) o (λ h. never (contains_later x o os h)) ∙ get_beside m x o (key x) (λ e. never (contains_first x o os (sym e)))

  -- rows that are read come as their ordinals do
  come_as_read : (os : List ℕ) (rows : List AddedRow) (m : KeyMap) → map added_row rows ≡ map (keyed_row key) os → with_added m rows ≡ with_keys key m os
  come_as_read [] [] m read = refl
  come_as_read [] (row ∷ rows) m read = absurd cc
  come_as_read (o ∷ os) [] m read = absurd cc
  come_as_read (o ∷ os) (row ∷ rows) m read =
      let first : added_row row ≡ keyed_row key o = cc in
      let later : map added_row rows ≡ map (keyed_row key) os = cc in
      ap (λ (a : ℕ × Option (Option (List Value))). with_added (placed m a.0 a.1) rows) first ∙ come_as_read os rows (insert m o (key o)) later

  pub next_is : (keys : KeyMap) (removed added : List ℕ) (reserved : Reserved) → reserved.removed ≡ removed → map added_row reserved.added ≡ map (keyed_row key) added → next_of keys reserved ≡ with_keys key (without keys removed) added
  next_is keys removed added reserved leave comes =
      (λ i. with_added (without keys (leave i)) reserved.added) ∙ come_as_read added reserved.added (without keys removed) comes

  -- there is room for the rows that come
  pub rows_within : (os : List ℕ) (rows : List AddedRow) (room : ℕ) → map added_row rows ≡ map (keyed_row key) os → All (λ o. o < room) os → All (λ (row : AddedRow). row.ordinal < room) rows
  rows_within os [] room read within = λ k d low. absurd (omega arith)
  rows_within [] (row ∷ rows) room read within = absurd cc
  rows_within (o ∷ os) (row ∷ rows) room read within = λ k d low. at (rows_within os rows room later (λ j e short. within (suc j) e (omega arith))) k d low
    where
      first : added_row row ≡ keyed_row key o
      first = cc

      later : map added_row rows ≡ map (keyed_row key) os
      later = cc

      here : row.ordinal ≡ o
      here = ap (λ (a : ℕ × Option (Option (List Value))). a.0) first

      at : All (λ (r : AddedRow). r.ordinal < room) rows → (k : ℕ) (d : AddedRow) → k < length (row ∷ rows) → (slice_index_or (row ∷ rows) k d).ordinal < room
      at others zero d low = (let inside = within 0 0 (omega arith) in omega (arith, inside, here))
      at others (suc k) d low = others k d (omega arith)

-- rows fit where all have small keys, or there is room for keys of any kind
fits_all : (large : Bool) (rows : List AddedRow) → IsTrue (cond (list_all (λ (row : AddedRow). is_small row.slot) rows) true large) → All (λ (row : AddedRow). IsTrue (fits large row.slot)) rows
fits_all large [] fit = λ k d low. absurd (omega arith)
fits_all large (row ∷ rows) fit = λ k d low. at (fits_all large rows (rest (is_small row.slot) (list_all (λ (r : AddedRow). is_small r.slot) rows) fit)) k d low
  where
    rest : (b more : Bool) → IsTrue (cond (b && more) true large) → IsTrue (cond more true large)
    rest true more is = is
    rest false true is = refl
    rest false false is = is

    here : (b more : Bool) → IsTrue (cond (b && more) true large) → IsTrue (cond b true large)
    here true more is = refl
    here false more is = is

    at : All (λ (r : AddedRow). IsTrue (fits large r.slot)) rows → (k : ℕ) (d : AddedRow) → k < length (row ∷ rows) → IsTrue (fits large (slice_index_or (row ∷ rows) k d).slot)
    at others zero d low = here (is_small row.slot) (list_all (λ (r : AddedRow). is_small r.slot) rows) fit
    at others (suc k) d low = others k d (omega arith)

pub rows_fit : (rows : Roomy) (added : List AddedRow) → All (λ (row : AddedRow). row.ordinal < rows.room) added
    → IsTrue (cond (list_all (λ (row : AddedRow). is_small row.slot) added) true rows.large) → All (Fits rows) added
rows_fit rows added inside fit = λ k d low. (inside k d low, fits_all rows.large added fit k d low)

-- ---- the keys of the next state

live_row : (row : Option Row) (r : Row) → row ≡ Some r → IsSome row
live_row row r is = ap is_some is

dead_row : (row : Option Row) → row ≡ None → IsSome row → ⊥
dead_row row is some = (let both : is_some row ≡ false = ap is_some is in let apart : true ≡ false = sym some ∙ both in absurd cc)

module _ (schemas : List Schema) (table : Table) (t : ℕ) (paths : List Path) where
  abbrev key : ℕ → Option (List Value)
  key o = key_of schemas table t paths o

  module _ (keys : KeyMap) (removed added : List ℕ) (f : Follows keys schemas table t paths removed added) where
    abbrev next : KeyMap
    next = with_keys key (without keys removed) added

    -- the rows that come are live ones, and so below the bound of these
    pub added_below : (bound : ℕ) → ((o : ℕ) → IsLive table t o → o < bound) → (room : ℕ) → bound ≤ room → All (λ o. o < room) added
    added_below bound above room fits = λ k d within. (let low = above _ ((f.live (slice_index_or added k d)).1 (inr (Contains-get_or added k d within))) in omega arith)

    live_key : (o : ℕ) → IsLive table t o → get next o ≡ Some (key o)
    live_key o live =
        elim (among o added) [
          | inl comes ↦ come key added (without keys removed) o comes
          | inr never ↦ elim ((f.live o).0 live) [
            | inl kept ↦ stay key added (without keys removed) o never ∙ left removed keys o kept.1 ∙ f.stays o live never
            | inr comes ↦ absurd (never comes)
          ]
        ]

    none_kept : (o : ℕ) → (IsLive table t o → ⊥) → (Contains removed o → ⊥) → (k : Option (Option (List Value))) → get keys o ≡ k → get keys o ≡ None
    none_kept o dead stays None is = is
    none_kept o dead stays (Some k) is = absurd (dead ((f.live o).1 (inl (ap is_some is, stays))))

    dead_key : (o : ℕ) → (IsLive table t o → ⊥) → get next o ≡ None
    dead_key o dead =
        elim (among o added) [
          | inl comes ↦ absurd (dead ((f.live o).1 (inr comes)))
          | inr never ↦ stay key added (without keys removed) o never ∙ elim (among o removed) [
            | inl goes ↦ gone removed keys o goes
            | inr stays ↦ left removed keys o stays ∙ none_kept o dead stays (get keys o) refl
          ]
        ]

    pub next_keys : (new : KeyMap) → new ≡ next → AreKeysOf schemas table t paths new
    next_keys new is = λ o.
        elim (row_at table t o) as (λ r. row_at table t o ≡ r → MatchOption r (get new o ≡ None) (λ row. get new o ≡ Some (key o))) [
          | None ↦ λ e. ap (λ m. get m o) is ∙ dead_key o (dead_row (row_at table t o) e)
          | Some row ↦ λ e. ap (λ m. get m o) is ∙ live_key o (live_row (row_at table t o) row e)
        ] refl

  -- ---- an index that is built, up to an ordinal

  pub record IsBuilt (keys : KeyMap) (before now bound : ℕ) : Type 0 where
    pub there : (o : ℕ) → o < bound → IsLive table t o → get keys o ≡ Some (key o)
    pub dead : (o : ℕ) → (IsLive table t o → ⊥) → get keys o ≡ None
    pub past : (o : ℕ) → bound ≤ o → get keys o ≡ None
    pub live : List ℕ
    pub rising : Rises live
    pub are : (o : ℕ) → Contains live o ↔ (IsLive table t o × (o < bound))
    pub count : now ≡ before + length live

  pub built_none : (keys : KeyMap) (before : ℕ) → keys ≡ empty → IsBuilt keys before before 0
  built_none keys before is = record {
    there = λ o low live. absurd (omega arith);
    dead = λ o dead. ap (λ (m : KeyMap). get m o) is ∙ get-empty nat_cmp o;
    past = λ o high. ap (λ (m : KeyMap). get m o) is ∙ get-empty nat_cmp o;
    live = [];
    rising = λ i j d before within. absurd (omega arith);
    are = λ o. ((λ h. absurd (contains_none o h)), (λ h. absurd (omega (arith, h.1))));
    count = omega arith;
  }

  module _ (old : KeyMap) (before now bound : ℕ) (built : IsBuilt old before now bound) where
    pub built_dead : (IsLive table t bound → ⊥) → IsBuilt old before now (bound + 1)
    built_dead dead = record {
      there = λ o low live. elim (cases_eq o bound) [ inl e ↦ absurd (dead (subst (IsLive table t) e live)) | inr apart ↦ built.there o (omega arith) live ];
      dead = built.dead;
      past = λ o high. built.past o (omega arith);
      live = built.live;
      rising = built.rising;
      are = λ o. (
        (λ h. let was = (built.are o).0 h in (was.0, omega (arith, was.1))),
        (λ h. elim (cases_eq o bound) [ inl e ↦ absurd (dead (subst (IsLive table t) e h.0)) | inr apart ↦ (built.are o).1 (h.0, omega (arith, h.1)) ]),
      );
      count = built.count;
    }

    module _ (new : KeyMap) (live : IsLive table t bound) (current : new ≡ insert old bound (key bound)) where
      at_bound : (o : ℕ) → o ≡ bound → get new o ≡ Some (key o)
      at_bound o e = ap (λ m. get m o) current ∙ ap (get (insert old bound (key bound))) e ∙ get_inserted old bound (key bound) ∙ ap (λ q. Some (key q)) (sym e)

      off_bound : (o : ℕ) → (o ≡ bound → ⊥) → get new o ≡ get old o
      off_bound o apart = ap (λ m. get m o) current ∙ get_beside old bound o (key bound) apart

      pub built_live : (after : ℕ) → after ≡ now + 1 → IsBuilt new before after (bound + 1)
      built_live after counts = record {
        there = λ o low alive. elim (cases_eq o bound) [ inl e ↦ at_bound o e | inr apart ↦ off_bound o apart ∙ built.there o (omega arith) alive ];
        dead = λ o dead. elim (cases_eq o bound) [ inl e ↦ absurd (dead (subst (IsLive table t) (sym e) live)) | inr apart ↦ off_bound o apart ∙ built.dead o dead ];
        past = λ o high. off_bound o (λ e. omega arith) ∙ built.past o (omega arith);
        live = built.live ++ bound ∷ [];
        rising = all_pairs_push (λ earlier later. earlier < later) built.live bound built.rising (λ k d within. ((built.are (slice_index_or built.live k d)).0 (Contains-get_or built.live k d within)).1);
        are = λ o. (
          (λ h. elim (Contains-push_cases built.live bound o h) [
            | inl was ↦ (let there = (built.are o).0 was in (there.0, omega (arith, there.1)))
            | inr e ↦ (subst (IsLive table t) e live, omega arith)
          ]),
          (λ h. elim (cases_eq o bound) [
            | inl e ↦ subst (λ q. Contains (built.live ++ q ∷ []) o) e (Contains-push built.live o)
            | inr apart ↦ Contains-append_left built.live (bound ∷ []) o ((built.are o).1 (h.0, omega (arith, h.1)))
          ]),
        );
        count = omega (arith, built.count, length-append built.live (bound ∷ []));
      }

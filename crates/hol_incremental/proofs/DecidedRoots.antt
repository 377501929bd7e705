-- Whether a row is a root that stays is decided; so there is a list of them, and an edited list.
use Rattle.std.proofs.Common.{◌≡◌, ◌∙◌, ◌⊎◌, ◌++◌, ◌+◌, ◌<◌, ◌≤◌, ◌^◌, ℕ, zero, suc, List, [], ◌∷◌, Option, Some, None, length, slice_get, refl, sym, ap, subst, inl, inr, arith}
use Rattle.std.specs.Prelude.{All, Contains, IsSome, IsSomeAnd, flat_map}
use Rattle.std.specs.List.{AllZip}
use Rattle.std.specs.Coded.{Coded, coded_list}
use Rattle.std.proofs.lemmas.Bool.{cases_eq, cases_lt}
use base.Stored.{Gv, gnil, gnum, gcons, num}
use Rattle.schema_model.specs.Model.{IsModel}
use Rattle.schema_model.specs.Path.{Resolves}
use Rattle.schema_model.specs.declared.model.path.Path.{Path}
use Rattle.schema_model.specs.declared.model.rule.Rule.TheVariants.{DuplicateName}
use Rattle.schema_model.specs.declared.schema.Schema.{Schema}
use Rattle.row_model.specs.Key.{key_of}
use Rattle.row_model.specs.PlainTree.{PlainTree}
use Rattle.row_model.specs.Row.{Rises}
use Rattle.row_model.specs.Table.{IsLive, Table, row_at}
use Rattle.row_model.proofs.RowsFrom.{get_in}
use Rattle.row_model.specs.contracts.row.Value as value_contract
use Rattle.row_model.specs.declared.row.Value.{Value}
use Rattle.write_engine.specs.Agreement.{HoldsOnce}
use Rattle.hol_incremental.specs.Counts.{times_named}
use Rattle.hol_incremental.specs.Edited.{IsEdited, IsEditedType, IsGivenKey, Keys, Records, StaysRoot, of_type, records_of}
use Rattle.hol_incremental.specs.Roots.{AreKeyPaths, IsRoot, IsRowKey, key_of_tree, key_texts}
use Rattle.hol_incremental.proofs.Among.{first_in, later_in, none_in, parted}
use Rattle.hol_incremental.proofs.FoundPaths.{key_paths, paths_once}
use Rattle.hol_incremental.proofs.NamedCounts.{named_where_counted}

-- it holds or it does not
abbrev pub IsDecided : Type 0 → Type 0
IsDecided P = P ⊎ (P → ⊥)

-- ---- equal keys

same_code : (a b : Gv) → IsDecided (a ≡ b)
same_code gnil gnil = inl refl
same_code gnil (gnum n) = inr (λ e. cc)
same_code gnil (gcons c d) = inr (λ e. cc)
same_code (gnum m) gnil = inr (λ e. cc)
same_code (gnum m) (gnum n) = elim (cases_eq m n) [
  | inl same ↦ inl (ap gnum same)
  | inr apart ↦ inr (λ e. apart (ap num e))
]
same_code (gnum m) (gcons c d) = inr (λ e. cc)
same_code (gcons a b) gnil = inr (λ e. cc)
same_code (gcons a b) (gnum n) = inr (λ e. cc)
same_code (gcons a b) (gcons c d) =
    elim (same_code a c) [
      | inr apart ↦ inr (λ e. apart (cc))
      | inl first ↦
          elim (same_code b d) [
            | inr apart ↦ inr (λ e. apart (cc))
            | inl second ↦ inl (λ i. gcons (first i) (second i))
          ]
    ]

same_value : {A : Type 0} (coded : Coded A) (x y : A) → IsDecided (x ≡ y)
same_value coded x y = elim (same_code (coded.code x) (coded.code y)) [
  | inl same ↦ inl (coded.inj x y same)
  | inr apart ↦ inr (λ e. apart (ap coded.code e))
]

same_key : (a b : List Value) → IsDecided (a ≡ b)
same_key a b = same_value (coded_list (value_contract.the_row).coded) a b

same_found : (found : Option (List Value)) (key : List Value) → IsDecided (found ≡ Some key)
same_found None key = inr (λ e. cc)
same_found (Some other) key = elim (same_key other key) [
  | inl same ↦ inl (ap Some same)
  | inr apart ↦ inr (λ e. apart (cc))
]

-- ---- given keys

among_keys : (t : ℕ) (key : List Value) (removes : Keys) → IsDecided (Contains removes (t, key))
among_keys t key [] = inr (λ among. none_in (t, key) among)
among_keys t key (entry ∷ removes) =
    elim (among_keys t key removes) [
      | inl there ↦ inl (later_in entry removes (t, key) there)
      | inr none ↦
          elim (cases_eq entry.0 t) [
            | inr other ↦ inr (λ among. elim (parted entry removes (t, key) among) [ inl same ↦ other (ap (λ (e : ℕ × List Value). e.0) same) | inr there ↦ none there ])
            | inl type ↦
                elim (same_key entry.1 key) [
                  | inr other ↦ inr (λ among. elim (parted entry removes (t, key) among) [ inl same ↦ other (ap (λ (e : ℕ × List Value). e.1) same) | inr there ↦ none there ])
                  | inl same ↦ inl (subst (Contains (entry ∷ removes)) (λ i. (type i, same i)) (first_in entry removes))
                ]
          ]
    ]

-- a record of the type has the key along the paths
abbrev IsPutAlong : ℕ → List Path → List Value → Records → Type 0
IsPutAlong t paths key puts = (tree : PlainTree) × Contains puts (t, tree) × (key_of_tree paths tree ≡ Some key)

among_puts : (t : ℕ) (paths : List Path) (key : List Value) (puts : Records) → IsDecided (IsPutAlong t paths key puts)
among_puts t paths key [] = inr (λ put. none_in (t, put.0) put.1)
among_puts t paths key (entry ∷ puts) =
    elim (among_puts t paths key puts) [
      | inl there ↦ inl (there.0, later_in entry puts (t, there.0) there.1, there.2)
      | inr none ↦
          elim (cases_eq entry.0 t) [
            | inr other ↦ inr (λ put. elim (parted entry puts (t, put.0) put.1) [ inl same ↦ other (ap (λ (e : ℕ × PlainTree). e.0) same) | inr there ↦ none (put.0, there, put.2) ])
            | inl type ↦
                elim (same_found (key_of_tree paths entry.1) key) [
                  | inr other ↦
                      inr (λ put. elim (parted entry puts (t, put.0) put.1) [
                        | inl same ↦ other (ap (λ (e : ℕ × PlainTree). key_of_tree paths e.1) same ∙ put.2)
                        | inr there ↦ none (put.0, there, put.2)
                      ])
                  | inl same ↦ inl (entry.1, subst (λ n. Contains (entry ∷ puts) (n, entry.1)) type (first_in entry puts), same)
                ]
          ]
    ]

-- ---- roots that stay

pub some_or : {A : Type 0} (found : Option A) → IsDecided (IsSome found)
some_or None = inr (λ e. cc)
some_or (Some x) = inl refl

module _ (schemas : List Schema) (model : IsModel schemas) (previous : Table) (puts : Records) (removes : Keys) where
  root_or : (t o : ℕ) → IsDecided (IsRoot schemas previous t o)
  root_or t o =
      elim (some_or (row_at previous t o)) [
        | inr dead ↦ inr (λ root. dead root.live)
        | inl live ↦
            elim (some_or (key_texts schemas t)) [
              | inl keyed ↦ inl (record { live = live; own = inl keyed })
              | inr plain ↦
                  elim (cases_lt 0 (times_named schemas previous t o)) [
                    | inl counted ↦
                        inr (λ root. elim (root.own) [
                          | inl keyed ↦ plain keyed
                          | inr unnamed ↦ unnamed ((named_where_counted schemas previous t o).1 counted)
                        ])
                    | inr none ↦ inl (record { live = live; own = inr (λ named. (let counted = (named_where_counted schemas previous t o).0 named in omega (arith, counted, none))) })
                  ]
            ]
      ]

  -- the row has no key that is given
  abbrev HasOther : ℕ → ℕ → Type 0
  HasOther t o = (key : List Value) → IsRowKey schemas previous t o key → ¬ IsGivenKey schemas puts removes t key

  other_or : (t o : ℕ) → IsDecided (HasOther t o)
  other_or t o =
      elim (some_or (key_texts schemas t)) [
        | inr plain ↦ inl (λ key row given. plain (keyed_by row.0 row.1))
        | inl keyed ↦ (let found = key_paths schemas model t keyed in by_key found.0 found.1 (key_of schemas previous t found.0 o) refl)
      ]
    where
      keyed_by : (paths : List Path) → AreKeyPaths schemas t paths → IsSome (key_texts schemas t)
      keyed_by paths are = by_texts (key_texts schemas t) are
        where
          by_texts : (texts : Option (List (List ℕ))) → IsSomeAnd texts (λ ts. AllZip (λ text path. Resolves schemas t text path) ts paths) → IsSome texts
          by_texts None are' = absurd are'
          by_texts (Some texts) are' = refl

      one_key : (paths : List Path) → AreKeyPaths schemas t paths → (key : List Value) → IsRowKey schemas previous t o key → key_of schemas previous t paths o ≡ Some key
      one_key paths are key row = ap (λ (ps : List Path). key_of schemas previous t ps o) (paths_once schemas (model DuplicateName) t paths row.0 are row.1) ∙ row.2

      put_along : (paths : List Path) → AreKeyPaths schemas t paths → (key : List Value) → IsGivenKey schemas puts removes t key → Contains removes (t, key) ⊎ IsPutAlong t paths key puts
      put_along paths are key (inl removed) = inl removed
      put_along paths are key (inr put) = inr (put.0, put.1, ap (λ (ps : List Path). key_of_tree ps put.0) (paths_once schemas (model DuplicateName) t paths put.2.0 are put.2.1) ∙ put.2.2)

      by_key : (paths : List Path) → AreKeyPaths schemas t paths → (found : Option (List Value)) → key_of schemas previous t paths o ≡ found → IsDecided (HasOther t o)
      by_key paths are None is = inl (λ key row given. (let e : None ≡ Some key = sym is ∙ one_key paths are key row in cc))
      by_key paths are (Some own) is =
          elim (among_keys t own removes) [
            | inl removed ↦ inr (λ other. other own (paths, are, is) (inl removed))
            | inr kept ↦
                elim (among_puts t paths own puts) [
                  | inl put ↦ inr (λ other. other own (paths, are, is) (inr (put.0, put.1, (paths, are, put.2))))
                  | inr unput ↦
                      inl (λ key row given.
                      (let e : Some own ≡ Some key = sym is ∙ one_key paths are key row in
                      let same : own ≡ key = cc in
                      elim (put_along paths are own (subst (IsGivenKey schemas puts removes t) (sym same) given)) [ inl removed ↦ kept removed | inr put ↦ unput put ]))
                ]
          ]

  pub stays_or : (t o : ℕ) → IsDecided (StaysRoot schemas previous puts removes t o)
  stays_or t o =
      elim (root_or t o) [
        | inr none ↦ inr (λ stays. none stays.root)
        | inl root ↦
            elim (other_or t o) [
              | inl other ↦ inl (record { root = root; other = other })
              | inr given ↦ inr (λ stays. given stays.other)
            ]
      ]

-- ---- the numbers of which something holds

rises_cons : (x : ℕ) (xs : List ℕ) → All (λ y. x < y) xs → Rises xs → Rises (x ∷ xs)
rises_cons x xs above rises zero zero d less inside = absurd (omega (arith, less))
rises_cons x xs above rises zero (suc j) d less inside = above j d (omega (arith, inside))
rises_cons x xs above rises (suc i) zero d less inside = absurd (omega (arith, less))
rises_cons x xs above rises (suc i) (suc j) d less inside = rises i j d (omega (arith, less)) (omega (arith, inside))

module _ (P : ℕ → Type 0) (decide : (o : ℕ) → IsDecided (P o)) where
  -- so many numbers from one on, of which it holds
  record Listed (start count : ℕ) (list : List ℕ) : Type 0 where
    rising : Rises list
    low : All (λ o. start ≤ o) list
    holds : (o : ℕ) → Contains list o → P o
    all : (o : ℕ) → start ≤ o → o < start + count → P o → Contains list o

  listed : (count start : ℕ) → (list : List ℕ) × Listed start count list
  listed zero start = (
    [],
    record {
      rising = λ i j d less inside. absurd (omega (arith, inside));
      low = λ k d inside. absurd (omega (arith, inside));
      holds = λ o among. absurd (none_in o among);
      all = λ o from before is. absurd (omega (arith, from, before));
    },
  )
  listed (suc count) start =
      let (rest, is) = listed count (start + 1) in
      elim (decide start) [
        | inl here ↦ (
          start ∷ rest,
          record {
            rising = rises_cons start rest (λ k d inside. (let far = is.low k d inside in omega (arith, far))) is.rising;
            low = low_cons start rest is.low;
            holds = λ o among. (elim (parted start rest o among) [ inl same ↦ subst P same here | inr there ↦ is.holds o there ]);
            all = λ o from before holds.
                (elim (cases_eq o start) [
                  | inl same ↦ subst (Contains (start ∷ rest)) (sym same) (first_in start rest)
                  | inr other ↦ later_in start rest o (is.all o (omega (arith, from, other)) (omega (arith, before)) holds)
                ]);
          },
        )
        | inr none ↦ (
          rest,
          record {
            rising = is.rising;
            low = λ k d inside. (let far = is.low k d inside in omega (arith, far));
            holds = is.holds;
            all = λ o from before holds.
                (elim (cases_eq o start) [
                  | inl same ↦ absurd (none (subst P same holds))
                  | inr other ↦ is.all o (omega (arith, from, other)) (omega (arith, before)) holds
                ]);
          },
        )
      ]
    where
      low_cons : (x : ℕ) (xs : List ℕ) → All (λ o. x + 1 ≤ o) xs → All (λ o. x ≤ o) (x ∷ xs)
      low_cons x xs low zero d inside = omega arith
      low_cons x xs low (suc k) d inside = let far = low k d (omega (arith, inside)) in omega (arith, far)

-- ---- the edited list

module _ (schemas : List Schema) (model : IsModel schemas) (previous : Table) (puts : Records) (removes : Keys) (bound : ℕ) (low : (t o : ℕ) → IsLive previous t o → o < bound) where
  part_of : (t : ℕ) → (part : Records) × IsEditedType schemas previous puts removes t part
  part_of t =
      let (roots, is) = listed (StaysRoot schemas previous puts removes t) (stays_or schemas model previous puts removes t) bound 0 in (
        records_of schemas previous t roots ++ of_type t puts,
        record {
          roots = roots;
          rising = is.rising;
          are = λ o. (is.holds o, λ stays. is.all o (omega arith) (let below = low t o stays.root.live in omega (arith, below)) stays);
          records_are = refl;
        },
      )

  -- the parts of so many types from one on
  record ArePartsFrom (start count : ℕ) (parts : List Records) : Type 0 where
    many : length parts ≡ count
    each : (i : ℕ) (part : Records) → slice_get parts i ≡ Some part → IsEditedType schemas previous puts removes (start + i) part

  parts_from : (count start : ℕ) → (parts : List Records) × ArePartsFrom start count parts
  parts_from zero start = ([], record { many = refl; each = λ i part at. absurd cc })
  parts_from (suc count) start =
      let (rest, is) = parts_from count (start + 1) in
      let (part, edited) = part_of start in
      (part ∷ rest, record { many = ap suc is.many; each = each_of part edited rest is })
    where
      each_of : (part : Records) → IsEditedType schemas previous puts removes start part → (rest : List Records) → ArePartsFrom (start + 1) count rest
          → (i : ℕ) (found : Records) → slice_get (part ∷ rest) i ≡ Some found → IsEditedType schemas previous puts removes (start + i) found
      each_of part edited rest is zero found at =
          let same : part ≡ found = cc in subst (λ n. IsEditedType schemas previous puts removes n found) (omega arith) (subst (IsEditedType schemas previous puts removes start) same edited)
      each_of part edited rest is (suc i) found at = subst (λ n. IsEditedType schemas previous puts removes n found) (omega arith) (is.each i found at)

  edited_below : (records : Records) × IsEdited schemas previous puts removes records
  edited_below =
      let (parts, are) = parts_from (length schemas) 0 in
      (flat_map (λ part. part) parts, record { parts = parts; many = are.many; each = λ t part at. subst (λ n. IsEditedType schemas previous puts removes n part) (omega arith) (are.each t part at); records_are = refl })

pub an_edited_list : (schemas : List Schema) (previous : Table) (puts : Records) (removes : Keys) → IsModel schemas → HoldsOnce previous → (records : Records) × IsEdited schemas previous puts removes records
an_edited_list schemas previous puts removes model once = edited_below schemas model previous puts removes (2 ^ 22) (λ t o live. once.low t o (subst IsSome (sym (get_in previous t o)) live))

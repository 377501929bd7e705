-- The types of a delta are those of a model exactly where what is tried of them passes, and which fault they have where it fails.
use Rattle.std.proofs.Common.{◌≡◌, ◌<◌, ◌+◌, ◌∙◌, ℕ, List, [], ◌∷◌, ◌++◌, Option, None, Some, ap, cond, get_or, inl, inr, is_some, length, map, refl, slice_get, subst, sym, take}
use Rattle.std.specs.Prelude.{All}
use Rattle.std.specs.List.{AllZip}
use Rattle.std.proofs.lemmas.List.{take_more}
use Rattle.std.proofs.lemmas.List.Elements.{All-cons, All-head, All-map, All-nil, All-push, All-tail}
use Rattle.std.proofs.lemmas.Option.{same_Some}
use Rattle.schema_model.specs.declared.model.rule.Rule.TheVariants.{DuplicateName}
use Rattle.schema_model.specs.declared.schema.Schema.{Schema}
use Rattle.schema_model.specs.Model.{IsKept}
use Rattle.schema_model.specs.Parts.{index_of_type}
use Rattle.seen_patches.specs.Seen.{IsSeen}
use Rattle.blob_frame.specs.declared.fault.BlobFault.{BlobFault}
use Rattle.blob_cursor.specs.Scene.{IsFree}
use Rattle.blob_faults.specs.Judge.{Blames, ◌>>=◌, each_of, nothing, test}
use Rattle.blob_faults.specs.Models.{names_once}
use Rattle.blob_faults.specs.Rows.{counts}
use Rattle.blob_faults.proofs.EachOf.{all_pass, each_passes, fails_at, map_passes}
use Rattle.delta_blob.specs.declared.of_model.NamedPart.{NamedPart}
use Rattle.delta_blob.specs.declared.part.DeltaPart.{DeltaPart}
use Rattle.delta_blob.specs.declared.patch.PatchPart.{PatchPart}
use Rattle.delta_blob.specs.Judged.{counts_of, of_model, parts_in, seen_of, those_there}
use Rattle.delta_blob.specs.Meant.{AgreesAt, IsIndexFor, IsSeenPart}
use Rattle.delta_blob.specs.OfModel.{AreNamed, IsTypesFault, KeepsNamed, counts_in, named_at, names_in}
use Rattle.delta_blob.specs.Patch.{AgreesWith, Means, NamesOnce, parts_for}
use Rattle.delta_blob.specs.Reads.{AreOfModel, IsOfModel, KeepsCounts}
use Rattle.delta_blob.proofs.Meant.{agrees_with, all_at, index_for, index_is, meant_means, means_meant}

-- ---- counts

-- a type that keeps the limits on ordinals and items passes
counts_pass : (named : NamedPart) → KeepsNamed named → (counts_of named).Passes tt
unfolding ◌>>=◌ counts test
counts_pass named keeps = (tt, keeps.ordinals, keeps.items)

-- and they are kept in one that passes
counts_kept : (named : NamedPart) → (counts_of named).Passes tt → KeepsNamed named
unfolding ◌>>=◌ counts test
counts_kept named (u, ordinals, items) = record { ordinals = ordinals; items = items }

all_kept : (parts : List NamedPart) (done : List Unit) → (counts_in parts).Passes done → All KeepsNamed parts
unfolding each_of ◌>>=◌ nothing
all_kept [] done passes = All-nil KeepsNamed
all_kept (part ∷ parts) done (u, passes, (rest, each, is)) = All-cons KeepsNamed part parts (counts_kept part passes) (all_kept parts rest each)

-- the first type that passes a limit is at fault
pub counts_fail : (parts : List NamedPart) (place : ℕ) (part : NamedPart) (found : BlobFault) → place < length parts → part ≡ get_or parts place part → All KeepsNamed (take place parts) → (counts_of part).Fails found
    → (counts_in parts).Fails found
counts_fail parts place part found inside is kept fails =
    fails_at counts_of parts place part (map (λ p. tt) (take place parts)) found inside is (all_pass counts_of tt KeepsNamed counts_pass (take place parts) kept) fails

-- one more that passes
pub counts_more : (parts : List NamedPart) (place : ℕ) (part : NamedPart) → place < length parts → part ≡ get_or parts place part → All KeepsNamed (take place parts) → (counts_of part).Passes tt
    → All KeepsNamed (take (place + 1) parts)
counts_more parts place part inside is kept passes =
    let next : take (place + 1) parts ≡ take place parts ++ part ∷ [] = take_more parts place part inside ∙ ap (λ (p : NamedPart). take place parts ++ p ∷ []) (sym is) in
    subst (λ (ps : List NamedPart). All KeepsNamed ps) (sym next) (All-push KeepsNamed (take place parts) part kept (counts_kept part passes))

-- the fault of a limit
limit_kind : (part : NamedPart) (found : BlobFault) → (counts_of part).Fails found → IsTypesFault found
unfolding ◌>>=◌ counts test
limit_kind part found (inl over) = subst IsTypesFault (sym over.1) tt
limit_kind part found (inr over) = subst IsTypesFault (sym over.2.1) tt

pub counts_kind : (parts : List NamedPart) (found : BlobFault) → (counts_in parts).Fails found → IsTypesFault found
unfolding each_of ◌>>=◌ nothing
counts_kind [] found fails = absurd fails
counts_kind (part ∷ parts) found (inl fails) = limit_kind part found fails
counts_kind (part ∷ parts) found (inr (u, passes, inl fails)) = counts_kind parts found fails
counts_kind (part ∷ parts) found (inr (u, passes, inr none)) = absurd none.2

-- ---- the types that a model has

-- The one that a type of a delta is.
abbrev named_for : List Schema → DeltaPart → Option NamedPart
named_for schemas part = named_at (index_of_type schemas part.schema.name) part

-- The type as it stands in the delta.
abbrev pub part_of : NamedPart → DeltaPart
part_of named = named.part

there_by : (schemas : List Schema) (part : DeltaPart) (parts : List DeltaPart) (o : Option ℕ) → index_of_type schemas part.schema.name ≡ o
    → map part_of (those_there (map (named_for schemas) parts)) ≡ parts_for schemas parts
    → map part_of (those_there (named_for schemas part ∷ map (named_for schemas) parts)) ≡ parts_for schemas (part ∷ parts)
there_by schemas part parts None is rest =
    ap (λ (o : Option ℕ). map part_of (those_there (named_at o part ∷ map (named_for schemas) parts))) is
    ∙ rest
    ∙ sym (ap (λ (o : Option ℕ). cond (is_some o) (part ∷ parts_for schemas parts) (parts_for schemas parts)) is)
there_by schemas part parts (Some t) is rest =
    ap (λ (o : Option ℕ). map part_of (those_there (named_at o part ∷ map (named_for schemas) parts))) is
    ∙ ap (λ (ps : List DeltaPart). part ∷ ps) rest
    ∙ sym (ap (λ (o : Option ℕ). cond (is_some o) (part ∷ parts_for schemas parts) (parts_for schemas parts)) is)

-- they are those of the names that the model has
parts_there : (schemas : List Schema) (parts : List DeltaPart) → map part_of (those_there (map (named_for schemas) parts)) ≡ parts_for schemas parts
parts_there schemas [] = refl
parts_there schemas (part ∷ parts) = there_by schemas part parts (index_of_type schemas part.schema.name) refl (parts_there schemas parts)

-- The type agrees with the model's at its index.
abbrev pub AgreesNamed : List Schema → NamedPart → Type 0
AgreesNamed schemas named = AgreesAt schemas named.part.schema named.type_index

module _ (schemas : List Schema) where
  keeps_more : (P : DeltaPart → Type 0) (part : DeltaPart) (v : Option NamedPart) (rest : List (Option NamedPart)) → (of_model schemas part).Passes v → P part → All (λ named. P (part_of named)) (those_there rest)
      → All (λ named. P (part_of named)) (those_there (v ∷ rest))
  unfolding of_model
  keeps_more P part None rest passes p all = all
  keeps_more P part (Some named) rest is p all = All-cons (λ (named : NamedPart). P (part_of named)) named (those_there rest) (subst P (sym is.same) p) all

  -- what holds of all types holds of those that the model has
  pub those_keep : (P : DeltaPart → Type 0) (parts : List DeltaPart) (found : List (Option NamedPart)) → (each_of (of_model schemas) parts).Passes found → All P parts → All (λ named. P (part_of named)) (those_there found)
  unfolding each_of ◌>>=◌ nothing
  those_keep P [] found is all = subst (λ (fs : List (Option NamedPart)). All (λ named. P (part_of named)) (those_there fs)) (sym is) (All-nil (λ (named : NamedPart). P (part_of named)))
  those_keep P (part ∷ parts) found (v, passes, (rest, each, is)) all =
      subst (λ (fs : List (Option NamedPart)). All (λ named. P (part_of named)) (those_there fs)) (sym is)
      (keeps_more P part v rest passes (All-head P part parts all) (those_keep P parts rest each (All-tail P part parts all)))

  agrees_more : (part : DeltaPart) (v : Option NamedPart) (rest : List (Option NamedPart)) → (of_model schemas part).Passes v → All (AgreesNamed schemas) (those_there rest)
      → All (AgreesNamed schemas) (those_there (v ∷ rest))
  unfolding of_model
  agrees_more part None rest passes all = all
  agrees_more part (Some named) rest is all =
      All-cons (AgreesNamed schemas) named (those_there rest) (subst (λ (p : DeltaPart). AgreesAt schemas p.schema named.type_index) (sym is.same) is.agrees) all

  -- each of them agrees
  pub each_agrees : (parts : List DeltaPart) (found : List (Option NamedPart)) → (each_of (of_model schemas) parts).Passes found → All (AgreesNamed schemas) (those_there found)
  unfolding each_of ◌>>=◌ nothing
  each_agrees [] found is = subst (λ (fs : List (Option NamedPart)). All (AgreesNamed schemas) (those_there fs)) (sym is) (All-nil (AgreesNamed schemas))
  each_agrees (part ∷ parts) found (v, passes, (rest, each, is)) =
      subst (λ (fs : List (Option NamedPart)). All (AgreesNamed schemas) (those_there fs)) (sym is) (agrees_more part v rest passes (each_agrees parts rest each))

  pub index_passes : (part : DeltaPart) (o : Option ℕ) → IsIndexFor schemas part.schema o → (of_model schemas part).Passes (named_at o part)
  unfolding of_model
  index_passes part None none = none
  index_passes part (Some t) agrees = record { agrees = agrees; same = refl }

  passes_index : (part : DeltaPart) (v : Option NamedPart) → (of_model schemas part).Passes v → (o : Option ℕ) × IsIndexFor schemas part.schema o × (v ≡ named_at o part)
  unfolding of_model
  passes_index part None none = (None, none, refl)
  passes_index part (Some named) is = let same = is.same in (Some named.type_index, is.agrees, λ i. Some (record { type_index = named.type_index; part = same i }))

  seen_passes : (named : NamedPart) (seen : PatchPart) → IsSeenPart schemas named seen → (seen_of schemas named).Passes seen
  unfolding seen_of
  seen_passes named seen is = is

  passes_seen : (named : NamedPart) (seen : PatchPart) → (seen_of schemas named).Passes seen → IsSeenPart schemas named seen
  unfolding seen_of
  passes_seen named seen is = is

  seen_zipped : (parts : List NamedPart) (seen : List PatchPart) → (each_of (seen_of schemas) parts).Passes seen → AllZip (IsSeenPart schemas) parts seen
  unfolding each_of ◌>>=◌ nothing
  seen_zipped [] seen is = subst (λ (ss : List PatchPart). AllZip (IsSeenPart schemas) [] ss) (sym is) tt
  seen_zipped (part ∷ parts) seen (s, passes, (rest, each, is)) =
      subst (λ (ss : List PatchPart). AllZip (IsSeenPart schemas) (part ∷ parts) ss) (sym is) (passes_seen part s passes, seen_zipped parts rest each)

  -- ---- which fault comes

  pub names_blame : (parts : List DeltaPart) (e : BlobFault) → Blames (names_in parts) IsFree e → Blames (parts_in schemas parts) IsFree e
  unfolding parts_in ◌>>=◌
  names_blame parts e (inl fails) = inl (inl fails)
  names_blame parts e (inr free) = inr free

  -- a type that does not agree is at fault, but for a name that stands twice
  pub type_blames : (parts : List DeltaPart) (e : BlobFault) → NamesOnce parts → Blames (each_of (of_model schemas) parts) IsFree e → Blames (parts_in schemas parts) IsFree e
  unfolding parts_in ◌>>=◌ names_once
  type_blames parts e once (inl fails) = inl (inr (tt, once, inl fails))
  type_blames parts e once (inr free) = inr free

  -- where all agree, the first that passes a limit is at fault
  pub counts_blame : (parts : List DeltaPart) (named : List NamedPart) (e : BlobFault) → NamesOnce parts → AreNamed schemas parts named → (counts_in named).Fails e → (parts_in schemas parts).Fails e
  unfolding parts_in ◌>>=◌ names_once
  counts_blame parts named e once are fails = inr (tt, once, inr (are.each, are.passes, inl (subst (λ (ns : List NamedPart). (counts_in ns).Fails e) are.are fails)))

  -- where nothing is at fault the types are seen
  pub all_pass_in : (parts : List DeltaPart) (named : List NamedPart) (seen : List PatchPart) → NamesOnce parts → AreNamed schemas parts named → All KeepsNamed named → AllZip (IsSeenPart schemas) named seen
      → (parts_in schemas parts).Passes seen
  unfolding parts_in ◌>>=◌ names_once
  all_pass_in parts named seen once are keep zipped =
      let there = those_there are.each in
      let kept = subst (λ (ns : List NamedPart). All KeepsNamed ns) are.are keep in
      let each = subst (λ (ns : List NamedPart). AllZip (IsSeenPart schemas) ns seen) are.are zipped in
      (tt, once, (are.each, are.passes, (map (λ n. tt) there, all_pass counts_of tt KeepsNamed counts_pass there kept, each_passes (seen_of schemas) (IsSeenPart schemas) seen_passes there seen each)))

-- what holds of what a list is made to holds of the list
all_unmapped : {X Y : Type 0} (P : Y → Type 0) (f : X → Y) (xs : List X) → All P (map f xs) → All (λ x. P (f x)) xs
all_unmapped P f [] all = All-nil (λ x. P (f x))
all_unmapped P f (x ∷ xs) all = All-cons (λ x. P (f x)) x xs (All-head P (f x) (map f xs) all) (all_unmapped P f xs (All-tail P (f x) (map f xs) all))

-- ---- the types of the model

module _ (schemas : List Schema) (kept : IsKept schemas DuplicateName) where
  part_passes : (part : DeltaPart) → AgreesWith schemas part → (of_model schemas part).Passes (named_for schemas part)
  part_passes part agrees = index_passes schemas part (index_of_type schemas part.schema.name) (index_for schemas kept part agrees)

  passes_part : (part : DeltaPart) (v : Option NamedPart) → (of_model schemas part).Passes v → AgreesWith schemas part × (v ≡ named_for schemas part)
  passes_part part v passes =
      let (o, is, at) = passes_index schemas part v passes in
      (agrees_with schemas kept part o is, at ∙ ap (λ (o : Option ℕ). named_at o part) (sym (index_is schemas kept part.schema o is)))

  named_passed : (parts : List DeltaPart) (found : List (Option NamedPart)) → (each_of (of_model schemas) parts).Passes found → All (AgreesWith schemas) parts × (found ≡ map (named_for schemas) parts)
  unfolding each_of ◌>>=◌ nothing
  named_passed [] found is = (All-nil (AgreesWith schemas), is)
  named_passed (part ∷ parts) found (v, passes, (rest, each, is)) =
      let (agrees, here) = passes_part part v passes in
      let (all, behind) = named_passed parts rest each in
      (All-cons (AgreesWith schemas) part parts agrees all, is ∙ (λ i. here i ∷ behind i))

  -- a type that is seen is one of the model
  seen_model : (named : NamedPart) (seen : PatchPart) → AgreesNamed schemas named → IsSeenPart schemas named seen → IsOfModel schemas named.part seen
  seen_model named seen agrees is =
      let same = same_Some is.mine agrees.mine (sym is.stands ∙ agrees.meant.stands) in
      let means = meant_means schemas kept named.part.schema agrees.mine named.type_index agrees.meant agrees.agree in
      record {
        mine = agrees.mine;
        means = subst (λ (t : ℕ). Means schemas named.part.schema t agrees.mine) (sym is.type_index) means;
        at = is.at;
        section = subst (λ (mine : Schema). IsSeen mine.shape named.part.schema.shape named.part.section seen.section) same is.section;
      }

  model_seen : (named : NamedPart) (seen : PatchPart) → AgreesNamed schemas named → IsOfModel schemas named.part seen → IsSeenPart schemas named seen
  model_seen named seen agrees is =
      let meant = means_meant schemas kept named.part.schema is.mine seen.type_index is.means in
      let index = same_Some named.type_index seen.type_index (sym agrees.meant.first ∙ meant.first) in
      record { mine = is.mine; stands = ap (slice_get schemas) index ∙ meant.stands; type_index = sym index; at = is.at; section = is.section }

  all_model : (parts : List NamedPart) (seen : List PatchPart) → All (AgreesNamed schemas) parts → AllZip (IsSeenPart schemas) parts seen → AllZip (IsOfModel schemas) (map part_of parts) seen
  all_model [] [] agree each = tt
  all_model (part ∷ parts) (s ∷ seen) agree each =
      (seen_model part s (All-head (AgreesNamed schemas) part parts agree) each.0, all_model parts seen (All-tail (AgreesNamed schemas) part parts agree) each.1)
  all_model [] (s ∷ seen) agree each = absurd each
  all_model (part ∷ parts) [] agree each = absurd each

  all_seen : (parts : List NamedPart) (seen : List PatchPart) → All (AgreesNamed schemas) parts → AllZip (IsOfModel schemas) (map part_of parts) seen → AllZip (IsSeenPart schemas) parts seen
  all_seen [] [] agree each = tt
  all_seen (part ∷ parts) (s ∷ seen) agree each =
      (model_seen part s (All-head (AgreesNamed schemas) part parts agree) each.0, all_seen parts seen (All-tail (AgreesNamed schemas) part parts agree) each.1)
  all_seen [] (s ∷ seen) agree each = absurd each
  all_seen (part ∷ parts) [] agree each = absurd each

  -- types are those of the model exactly where what is tried of them passes
  pub model_passes : (parts : List DeltaPart) (named : List PatchPart) → AreOfModel schemas parts named → (parts_in schemas parts).Passes named
  model_passes parts named are =
      let found = map (named_for schemas) parts in
      let there = those_there found in
      let each = map_passes (of_model schemas) (named_for schemas) parts (λ k part at. part_passes part (all_at (AgreesWith schemas) parts k part are.agree at)) in
      let same = sym (parts_there schemas parts) in
      let keep = all_unmapped KeepsCounts part_of there (subst (λ (ps : List DeltaPart). All KeepsCounts ps) same are.counts) in
      let seen = all_seen there named (each_agrees schemas parts found each) (subst (λ (ps : List DeltaPart). AllZip (IsOfModel schemas) ps named) same are.each) in
      all_pass_in schemas parts there named are.once (record { each = found; passes = each; are = refl }) keep seen

  pub passes_model : (parts : List DeltaPart) (named : List PatchPart) → (parts_in schemas parts).Passes named → AreOfModel schemas parts named
  unfolding parts_in ◌>>=◌ names_once
  passes_model parts named (u, once, (found, each, (done, counted, seen))) =
      let there = those_there found in
      let (agree, is) = named_passed parts found each in
      let same = ap (λ (fs : List (Option NamedPart)). map part_of (those_there fs)) is ∙ parts_there schemas parts in
      record {
        once = once;
        agree = agree;
        each = subst (λ (ps : List DeltaPart). AllZip (IsOfModel schemas) ps named) same (all_model there named (each_agrees schemas parts found each) (seen_zipped schemas there named seen));
        counts = subst (λ (ps : List DeltaPart). All KeepsCounts ps) same (All-map KeepsCounts part_of there (all_kept there done counted));
      }

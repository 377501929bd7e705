-- What is known of the rows that films share stays so while rows are put.
use Rattle.std.proofs.Common.{◌≡◌, ℕ, zero, suc, ◌%◌, ◌<◌, List, [], ◌∷◌, length, Option, Some, None, inl, inr, ◌⊎◌, refl, sym, ap, subst, ◌∙◌, arith}
use Rattle.std.specs.Prelude.{codes, replicate, slice_get, slice_index_or, slice_set}
use Rattle.std.proofs.lemmas.Option.{slice_get_read}
use Rattle.row_model.specs.Table.{Table, row_at}
use Rattle.row_model.specs.declared.row.Row.{Row}
use Rattle.write_engine.specs.Agreement.{TablesAgree}
use Rattle.write_engine.specs.Cycle.{Adds, PutsRow}
use Rattle.write_engine.specs.Production.{Production}
use Rattle.write_engine.proofs.NextStates.{puts_agree}
use Rattle.film_script.specs.Films.{film_schemas, film_tags}
use Rattle.film_rows.specs.Known.{AreReady, AreTagSets, AreTags, AreTitles, HasGrown, IsFilming, IsUnknown, tags_number}
use Rattle.film_rows.specs.Rows.{tags_type, text_row, text_type}
use Rattle.film_rows.specs.declared.adding.FilmRows.{FilmRows}
use Rattle.film_rows.proofs.FilmTrees.{tags_add}
use Rattle.film_rows.proofs.Standing.{as_many, keeps, puts_again}

-- ---- a producer that takes films, over puts

pub grown_by : (old new : Production) (t ordinal : ℕ) (row : Row) → IsFilming old → new ≡ record old { current = new.current } → PutsRow old.previous t row old.current ordinal new.current → HasGrown old new
grown_by old new t ordinal row filming kept puts = record {
  filming = record {
    model = ap (λ (p : Production). p.schemas) kept ∙ filming.model;
    is_open = ap (λ (p : Production). p.closed) kept ∙ filming.is_open;
    agree = subst (λ (previous : Table). TablesAgree previous new.current) (sym (ap (λ (p : Production). p.previous) kept)) (puts_agree old.previous old.current new.current t ordinal row puts filming.agree);
    types = as_many old.previous old.current new.current t ordinal row puts ∙ filming.types;
  };
  keeps = keeps old.previous old.current new.current t ordinal row puts filming.agree;
}

pub grown_none : (producer : Production) → IsFilming producer → HasGrown producer producer
grown_none producer filming = record { filming = filming; keeps = λ t o row is. is }

pub grown_then : (old mid new : Production) → HasGrown old mid → HasGrown mid new → HasGrown old new
grown_then old mid new first then' = record { filming = then'.filming; keeps = λ t o row is. then'.keeps t o row (first.keeps t o row is) }

pub tags_grown : (old new : Production) (place ordinal : ℕ) → HasGrown old new → AreTags old.current place ordinal → AreTags new.current place ordinal
tags_grown old new place ordinal grown tags = record {
  first = tags.first;
  second = tags.second;
  members = tags.members;
  first_stands = grown.keeps text_type tags.first _ tags.first_stands;
  second_stands = grown.keeps text_type tags.second _ tags.second_stands;
  set = tags.set;
  stands = grown.keeps tags_type ordinal _ tags.stands;
}

pub ready_grown : (rows : FilmRows) (old new : Production) → HasGrown old new → AreReady rows old → AreReady rows new
ready_grown rows old new grown ready = record {
  filming = grown.filming;
  all_titles = ready.all_titles;
  all_tags = ready.all_tags;
  titles = λ number ordinal known. grown.keeps text_type ordinal _ (ready.titles number ordinal known);
  tags = λ place ordinal known. tags_grown old new place ordinal grown (ready.tags place ordinal known);
}

-- ---- what is known, over puts

unknown_at : (count k : ℕ) (ordinal : ℕ) → slice_get (replicate count None) k ≡ Some (Some ordinal) → ⊥
unknown_at zero zero ordinal is = absurd cc
unknown_at zero (suc k) ordinal is = absurd cc
unknown_at (suc count) zero ordinal is = absurd cc
unknown_at (suc count) (suc k) ordinal is = unknown_at count k ordinal is

count_of : {A : Type 0} (count : ℕ) (x : A) → length (replicate count x) ≡ count
count_of zero x = refl
count_of (suc count) x = ap suc (count_of count x)

pub ready_unknown : (rows : FilmRows) (producer : Production) → IsUnknown rows → IsFilming producer → AreReady rows producer
ready_unknown rows producer unknown filming = record {
  filming = filming;
  all_titles = ap (λ (os : List (Option ℕ)). length os) unknown.titles ∙ count_of {A = Option ℕ} 1000 None;
  all_tags = ap (λ (os : List (Option ℕ)). length os) unknown.tags ∙ count_of {A = Option ℕ} 15 None;
  titles = λ number ordinal known. absurd (unknown_at 1000 number ordinal (ap (λ (os : List (Option ℕ)). slice_get os number) (sym unknown.titles) ∙ known));
  tags = λ place ordinal known. absurd (unknown_at 15 (tags_number place) ordinal (ap (λ (os : List (Option ℕ)). slice_get os (tags_number place)) (sym unknown.tags) ∙ known));
}

-- an item of a list of which one is set
set_or_before : {A : Type 0} (xs : List A) (i j : ℕ) (x y : A) → slice_get (slice_set xs i x) j ≡ Some y → ((j ≡ i) × (x ≡ y)) ⊎ (slice_get xs j ≡ Some y)
set_or_before [] i j x y is = inr is
set_or_before (z ∷ zs) zero zero x y is = inl (refl, (let e : Some x ≡ Some y = is in cc))
set_or_before (z ∷ zs) zero (suc j) x y is = inr is
set_or_before (z ∷ zs) (suc i) zero x y is = inr is
set_or_before (z ∷ zs) (suc i) (suc j) x y is = elim (set_or_before zs i j x y is) [
  | inl both ↦ inl (ap suc both.0, both.1)
  | inr before ↦ inr before
]

length_set : {A : Type 0} (xs : List A) (i : ℕ) (x : A) → length (slice_set xs i x) ≡ length xs
length_set [] i x = refl
length_set (z ∷ zs) zero x = refl
length_set (z ∷ zs) (suc i) x = ap suc (length_set zs i x)

same_ordinal : (a b : ℕ) → Some a ≡ Some b → a ≡ b
same_ordinal a b e = cc

pub ready_title : (rows after : FilmRows) (producer : Production) (number ordinal : ℕ) → AreReady rows producer → after.tags.items ≡ rows.tags.items → after.titles.items ≡ slice_set rows.titles.items number (Some ordinal)
    → row_at producer.current text_type ordinal ≡ Some (text_row (codes "t") number) → AreReady after producer
ready_title rows after producer number ordinal ready tags titles stands = record {
  filming = ready.filming;
  all_titles = ap (λ (os : List (Option ℕ)). length os) titles ∙ length_set rows.titles.items number (Some ordinal) ∙ ready.all_titles;
  all_tags = ap (λ (os : List (Option ℕ)). length os) tags ∙ ready.all_tags;
  titles = λ n o known. (elim (set_or_before rows.titles.items number n (Some ordinal) (Some o) (ap (λ (os : List (Option ℕ)). slice_get os n) (sym titles) ∙ known)) [
    | inl both ↦
        (let same = same_ordinal ordinal o both.1 in
        subst (λ m. row_at producer.current text_type o ≡ Some (text_row (codes "t") m)) (sym both.0) (subst (λ p. row_at producer.current text_type p ≡ Some (text_row (codes "t") number)) same stands))
    | inr before ↦ ready.titles n o before
  ]);
  tags = subst (AreTagSets producer.current) (sym tags) ready.tags;
}

-- tags of one number are the same two
same_third : (a b : ℕ) → tags_number a ≡ tags_number b → a % 3 ≡ b % 3
same_third a b same = omega (arith, same)

same_fifth : (a b : ℕ) → tags_number a ≡ tags_number b → a % 5 ≡ b % 5
same_fifth a b same = omega (arith, same)

same_tags : (table : Table) (a b ordinal : ℕ) → tags_number a ≡ tags_number b → AreTags table a ordinal → AreTags table b ordinal
same_tags table a b ordinal same tags = record {
  first = tags.first;
  second = tags.second;
  members = tags.members;
  first_stands = subst (λ n. row_at table text_type tags.first ≡ Some (text_row (codes "g") n)) (same_third a b same) tags.first_stands;
  second_stands = subst (λ n. row_at table text_type tags.second ≡ Some (text_row (codes "g") n)) (same_fifth a b same) tags.second_stands;
  set = tags.set;
  stands = tags.stands;
}

pub ready_tags : (rows after : FilmRows) (producer : Production) (place ordinal : ℕ) → AreReady rows producer → after.titles.items ≡ rows.titles.items → after.tags.items ≡ slice_set rows.tags.items (tags_number place) (Some ordinal)
    → AreTags producer.current place ordinal → AreReady after producer
ready_tags rows after producer place ordinal ready titles tags stand = record {
  filming = ready.filming;
  all_titles = ap (λ (os : List (Option ℕ)). length os) titles ∙ ready.all_titles;
  all_tags = ap (λ (os : List (Option ℕ)). length os) tags ∙ length_set rows.tags.items (tags_number place) (Some ordinal) ∙ ready.all_tags;
  titles = subst (AreTitles producer.current) (sym titles) ready.titles;
  tags = λ at o known. (elim (set_or_before rows.tags.items (tags_number place) (tags_number at) (Some ordinal) (Some o) (ap (λ (os : List (Option ℕ)). slice_get os (tags_number at)) (sym tags) ∙ known)) [
    | inl both ↦ (let same = same_ordinal ordinal o both.1 in subst (AreTags producer.current at) same (same_tags producer.current place at ordinal (sym both.0) stand))
    | inr before ↦ ready.tags at o before
  ]);
}

-- ---- what is known is put again

-- what was read of the list
pub known_at : (known : List (Option ℕ)) (k : ℕ) (item : Option ℕ) (ordinal : ℕ) → k < length known → item ≡ slice_index_or known k item → item ≡ Some ordinal → slice_get known k ≡ Some (Some ordinal)
known_at known k item ordinal within is some = slice_get_read known (length known) k item refl within is ∙ ap Some some

pub title_again : (rows : FilmRows) (producer : Production) (number ordinal : ℕ) → AreReady rows producer → slice_get rows.titles.items number ≡ Some (Some ordinal)
    → PutsRow producer.previous text_type (text_row (codes "t") number) producer.current ordinal producer.current
title_again rows producer number ordinal ready known =
    puts_again producer.previous producer.current text_type ordinal (text_row (codes "t") number) ready.filming.agree (ready.titles number ordinal known)

pub tags_again : (producer : Production) (place ordinal : ℕ) → IsFilming producer → AreTags producer.current place ordinal → Adds film_schemas producer.previous tags_type (film_tags place) producer.current ordinal producer.current
tags_again producer place ordinal filming tags =
    let agree = filming.agree in
    tags_add producer.previous place producer.current producer.current ordinal (record {
      first = tags.first;
      second = tags.second;
      middle = producer.current;
      late = producer.current;
      members = tags.members;
      first_puts = puts_again producer.previous producer.current text_type tags.first (text_row (codes "g") (place % 3)) agree tags.first_stands;
      second_puts = puts_again producer.previous producer.current text_type tags.second (text_row (codes "g") (place % 5)) agree tags.second_stands;
      set = tags.set;
      last = puts_again producer.previous producer.current tags_type ordinal (Row.Set tags.members) agree tags.stands;
    })

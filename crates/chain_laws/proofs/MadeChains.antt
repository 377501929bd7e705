-- What the command `make` leaves of the chain that a store holds, and of its producer.
use Rattle.std.proofs.Common.{◌≤◌, ◌+◌, ◌++◌, inl, inr, ℕ, zero, suc, List, [], ◌∷◌, codes, refl, sym, subst, arith}
use lib.Utf8.{encode}
use Rattle.std.specs.Prelude.{All, FitsSigned, IsUtf8}
use Rattle.std.specs.Int.{w64}
use Rattle.std.specs.List.{range_with_len}
use Rattle.std.proofs.lemmas.List.Elements.{All-cons, All-head, All-nil, All-tail}
use Rattle.std.proofs.lemmas.List.{append-nil}
use Rattle.film_script.specs.Films.{cycle_tag, field_of, film_schema, film_schemas, tags_schema, text_schema}
use Rattle.hol_io.specs.Name.{IsVersion}
use Rattle.hol_io.specs.Store.{Store}
use Rattle.schema_model.specs.declared.schema.Field.{Field}
use Rattle.schema_model.specs.declared.schema.FieldKind.TheVariants as kind
use Rattle.schema_model.specs.Model.{IsModel}
use Rattle.schema_model.specs.Schema.{EachName, EachNameOfField, EachNameOfKind}
use Rattle.hol_answers.specs.declared.refusal.Refusal.{Refusal}
use Rattle.hol_answers.specs.declared.reply.Reply.{Reply}
use Rattle.hol_answers.specs.declared.reply.Reply.TheVariants as reply
use Rattle.state_blobs.specs.Published.{new_producer}
use Rattle.hollow_machine.specs.MakeCommand.{ChecksCycles, MakeReply, Makes, PassesCycles, RefusesOneOf, film_cycle, film_machine}
use Rattle.hollow_machine.specs.State.{Machine}
use Rattle.written_laws.specs.Chain.{Chain}
use Rattle.chain_laws.specs.Consumers.{IsReaderOf}
use Rattle.chain_laws.specs.Growth.{GrowsByCycles, GrowsByMake}
use Rattle.chain_laws.specs.Producers.{IsOver, IsProducerOf, KeepsChain}
use Rattle.chain_laws.proofs.CycleLaws.{IsNowhere, cycle_keeps, cycle_nowhere, nowhere_of}

-- ---- the cycles of the script

-- a cycle is one of the first thousand
abbrev pub IsNumber : ℕ → Type 0
IsNumber cycle = (1 ≤ cycle) × (cycle ≤ 1000)

pub numbers : (start count : ℕ) → 1 ≤ start → start + count ≤ 1001 → All IsNumber (range_with_len start count)
numbers start zero low high = All-nil IsNumber
numbers start (suc count) low high =
    All-cons IsNumber start (range_with_len (start + 1) count) (low, omega (arith, high)) (numbers (start + 1) count (omega (arith, low)) (omega (arith, high)))

pub front : (xs ys : List ℕ) → All IsNumber (xs ++ ys) → All IsNumber xs
front [] ys all = All-nil IsNumber
front (x ∷ xs) ys all = All-cons IsNumber x xs (All-head IsNumber x (xs ++ ys) all) (front xs ys (All-tail IsNumber x (xs ++ ys) all))

pub behind : (xs ys : List ℕ) → All IsNumber (xs ++ ys) → All IsNumber ys
behind [] ys all = all
behind (x ∷ xs) ys all = behind xs ys (All-tail IsNumber x (xs ++ ys) all)

module _ (seed rows : ℕ) (small : seed ≤ 999999) where
  -- the chain grew by what these cycles published
  abbrev pub KeepsCycles : Machine → List ℕ → Chain → Machine → Type 0
  KeepsCycles machine cycles chain next =
      (after : Chain) × GrowsByCycles seed rows machine cycles chain next after × KeepsChain next.store after × IsProducerOf after next.producer

  pub passes_keep : (cycles published : List ℕ) (machine next : Machine) (chain : Chain) → All IsNumber cycles → KeepsChain machine.store chain → IsProducerOf chain machine.producer
      → PassesCycles seed rows machine cycles published next → KeepsCycles machine cycles chain next
  passes_keep [] published machine next chain all kept over (none, same) =
      let both = subst (λ (m : Machine). KeepsChain m.store chain × IsProducerOf chain m.producer) (sym same) (kept, over) in
      (chain, (same, refl), both.0, both.1)
  passes_keep (cycle ∷ cycles) published machine next chain all kept over (answer, between, others, step, passed, passes, are) =
      let number = All-head IsNumber cycle cycles all in
      let is_version : IsVersion cycle = (number.0, omega (arith, number.1)) in
      let fits : FitsSigned w64 (cycle_tag seed cycle) = omega (arith, small, number.1) in
      let (middle, grows, held, moved, extends) = cycle_keeps machine chain kept over (film_cycle seed rows cycle) answer between is_version fits step in
      let (after, along, still, there) = passes_keep cycles others between next middle (All-tail IsNumber cycle cycles all) held moved passes in
      (after, (answer, between, middle, step, grows, along), still, there)

-- ---- the producer of the script

text_name : IsUtf8 (codes "Text")
unfolding encode
text_name = (codes "Text", (refl, refl))

tags_name : IsUtf8 (codes "Tags")
unfolding encode
tags_name = (codes "Tags", (refl, refl))

film_name : IsUtf8 (codes "Film")
unfolding encode
film_name = (codes "Film", (refl, refl))

value_name : IsUtf8 (codes "value")
unfolding encode
value_name = (codes "value", (refl, refl))

id_name : IsUtf8 (codes "id")
unfolding encode
id_name = (codes "id", (refl, refl))

title_name : IsUtf8 (codes "title")
unfolding encode
title_name = (codes "title", (refl, refl))

year_name : IsUtf8 (codes "year")
unfolding encode
year_name = (codes "year", (refl, refl))

tags_field_name : IsUtf8 (codes "tags")
unfolding encode
tags_field_name = (codes "tags", (refl, refl))

abbrev value_field : Field
value_field = field_of (codes "value") kind.Text

abbrev id_field : Field
id_field = field_of (codes "id") kind.Int

abbrev title_field : Field
title_field = field_of (codes "title") (kind.Reference (codes "Text"))

abbrev year_field : Field
year_field = field_of (codes "year") kind.Int

abbrev tags_field : Field
tags_field = field_of (codes "tags") (kind.Reference (codes "Tags"))

abbrev AreTexts : List Field → Type 0
AreTexts = All (EachNameOfField IsUtf8)

texts_more : (field : Field) (fields : List Field) → IsUtf8 field.name → EachNameOfKind IsUtf8 field.kind → AreTexts fields → AreTexts (field ∷ fields)
texts_more field fields name of_kind others = All-cons (EachNameOfField IsUtf8) field fields (record { name = name; kind = of_kind }) others

no_texts : AreTexts []
no_texts = All-nil (EachNameOfField IsUtf8)

text_parts : AreTexts (value_field ∷ [])
text_parts = texts_more value_field [] value_name tt no_texts

film_parts : AreTexts (id_field ∷ title_field ∷ year_field ∷ tags_field ∷ [])
film_parts =
    texts_more id_field (title_field ∷ year_field ∷ tags_field ∷ []) id_name tt
    (texts_more title_field (year_field ∷ tags_field ∷ []) title_name text_name
    (texts_more year_field (tags_field ∷ []) year_name tt (texts_more tags_field [] tags_field_name tags_name no_texts)))

text_texts : EachName IsUtf8 text_schema
text_texts = record { name = text_name; shape = record { paths = tt; parts = text_parts } }

tags_texts : EachName IsUtf8 tags_schema
tags_texts = record { name = tags_name; shape = text_name }

film_texts : EachName IsUtf8 film_schema
film_texts = record {
  name = film_name;
  shape = record { paths = All-cons IsUtf8 (codes "id") [] id_name (All-nil IsUtf8); parts = film_parts };
}

texts : All (EachName IsUtf8) film_schemas
texts =
    All-cons (EachName IsUtf8) text_schema (tags_schema ∷ film_schema ∷ []) text_texts
    (All-cons (EachName IsUtf8) tags_schema (film_schema ∷ []) tags_texts (All-cons (EachName IsUtf8) film_schema [] film_texts (All-nil (EachName IsUtf8))))

pub script_over : IsModel film_schemas → (chain : Chain) → IsOver chain (new_producer film_schemas)
script_over model chain = record { model = model; texts = texts; stands = inl refl }

-- ---- the consumer

passes_nowhere : (seed rows : ℕ) (cycles published : List ℕ) (machine next : Machine) → IsNowhere machine → PassesCycles seed rows machine cycles published next → IsNowhere next
passes_nowhere seed rows [] published machine next nowhere (none, same) = subst IsNowhere (sym same) nowhere
passes_nowhere seed rows (cycle ∷ cycles) published machine next nowhere (answer, between, others, step, passed, passes, are) =
    passes_nowhere seed rows cycles others between next (cycle_nowhere machine nowhere (film_cycle seed rows cycle) answer between step) passes

-- ---- the command

module _ (model : IsModel film_schemas) (store : Store) (seed rows cycles : ℕ) (small : seed ≤ 999999) (few : cycles ≤ 1000) (chain : Chain) (kept : KeepsChain store chain) where
  abbrev KeepsMade : Machine → Type 0
  KeepsMade next =
      (after : Chain) × GrowsByMake store seed rows cycles chain next after × KeepsChain next.store after × IsProducerOf after next.producer × IsReaderOf after next

  all_numbers : All IsNumber (range_with_len 1 cycles)
  all_numbers = numbers 1 cycles (omega arith) (omega (arith, few))

  over : IsOver chain (new_producer film_schemas)
  over = script_over model chain

  checked_keep : (Answers : List ℕ → Reply → Type 0) (next : Machine) → ChecksCycles seed rows (film_machine store) (range_with_len 1 cycles) Answers next → KeepsMade next
  checked_keep Answers next (published, passes, checks) =
      let (after, along, still, there) = passes_keep seed rows small (range_with_len 1 cycles) published (film_machine store) next chain all_numbers kept over passes in
      (after, (range_with_len 1 cycles, [], sym (append-nil (range_with_len 1 cycles)), along), still, there, nowhere_of after next (passes_nowhere seed rows (range_with_len 1 cycles) published (film_machine store) next (refl, refl) passes))

  refused_keep : (refusal : Refusal) (next : Machine) → RefusesOneOf seed rows (film_machine store) (range_with_len 1 cycles) refusal next → KeepsMade next
  refused_keep refusal next is =
      let before = front is.before (is.cycle ∷ is.behind) (subst (All IsNumber) is.cycles_are all_numbers) in
      let (after, along, still, there) = passes_keep seed rows small is.before is.published (film_machine store) is.between chain before kept over is.passes in
      let stays = is.refuses.1 in (
        after,
        (is.before, is.cycle ∷ is.behind, is.cycles_are, subst (λ (m : Machine). GrowsByCycles seed rows (film_machine store) is.before chain m after) (sym stays) along),
        subst (λ (m : Machine). KeepsChain m.store after) (sym stays) still,
        subst (λ (m : Machine). IsProducerOf after m.producer) (sym stays) there,
        subst (IsReaderOf after) (sym stays) (nowhere_of after is.between (passes_nowhere seed rows is.before is.published (film_machine store) is.between (refl, refl) is.passes)),
      )

  make_keeps : (answer : Reply) (next : Machine) → MakeReply seed rows (range_with_len 1 cycles) (film_machine store) answer next → KeepsMade next
  make_keeps (reply.Make made) next makes = checked_keep _ next makes
  make_keeps (reply.Refused refusal) next (inl refuses) = refused_keep refusal next refuses
  make_keeps (reply.Refused refusal) next (inr checks) = checked_keep _ next checks
  make_keeps _ next makes = absurd makes

pub makes_keep : IsModel film_schemas → (store : Store) (next : Machine) (seed rows cycles : ℕ) (answer : Reply) (chain : Chain) → seed ≤ 999999 → cycles ≤ 1000
    → Makes store seed rows cycles answer next → KeepsChain store chain
    → (after : Chain) × GrowsByMake store seed rows cycles chain next after × KeepsChain next.store after × IsProducerOf after next.producer × IsReaderOf after next
makes_keep model store next seed rows cycles answer chain small few makes kept = make_keeps model store seed rows cycles small few chain kept answer next makes

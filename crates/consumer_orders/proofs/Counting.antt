-- What is counted of each type.
use Rattle.std.proofs.Common.{◌≡◌, ℕ, zero, suc, ◌+◌, ◌<◌, ◌≤◌, List, [], ◌∷◌, ◌++◌, Option, Some, None, length, take, refl, sym, ap, subst, ◌∙◌, arith}
use Rattle.std.specs.Prelude.{ℤ, IsSome, IsSomeAnd, slice_get}
use Rattle.std.specs.FinMap.{keys, values}
use Rattle.std.specs.Option.{option_and_then, option_map}
use Rattle.std.proofs.lemmas.Bool.{false≢true}
use Rattle.std.proofs.lemmas.List.{length-append, length-map}
use Rattle.std.proofs.lemmas.Option.{slice_get-map}
use Rattle.schema_model.specs.declared.schema.Schema.{Schema}
use Rattle.schema_model.specs.declared.schema.name.Name.{Name}
use Rattle.type_rows.specs.WordsHeld.{bytes_held}
use Rattle.type_state.specs.State.{Half}
use Rattle.type_state.specs.WordsHeld.{words_held}
use Rattle.read_engine.specs.Position.{IsOfType, IsPosition, Position, rows_now}
use Rattle.hol_answers.specs.declared.refusal.Refusal.TheVariants.{NoState}
use Rattle.hol_answers.specs.declared.reply.Reply.TheVariants.{Refused, Stat}
use Rattle.hol_answers.specs.declared.stat.TypeCounts.{TypeCounts}
use Rattle.hollow_machine.specs.StatOrder.{StatReply, counts_of, counts_of_types}
use Rattle.consumer_orders.specs.Counted.{AreCountsAt}

-- ---- the types of a model

take_none : {X : Type 0} → (xs : List X) → take 0 xs ≡ []
take_none [] = refl
take_none (x ∷ xs) = refl

-- One more type is counted.
pub one_type : (schemas : List Schema) (halves : List Half) (k : ℕ) (schema : Schema) (half : Half) → slice_get schemas k ≡ Some schema → slice_get halves k ≡ Some half
    → counts_of_types (take (suc k) schemas) (take (suc k) halves) ≡ counts_of_types (take k schemas) (take k halves) ++ counts_of schema half ∷ []
one_type [] halves k schema half there also = absurd cc
one_type (s ∷ schemas) [] k schema half there also = absurd cc
one_type (s ∷ schemas) (h ∷ halves) zero schema half there also =
    let named : s ≡ schema = cc in let held : h ≡ half = cc in λ i. counts_of (named i) (held i) ∷ counts_of_types (take_none schemas i) (take_none halves i)
one_type (s ∷ schemas) (h ∷ halves) (suc k) schema half there also = ap (λ (cs : List TypeCounts). counts_of s h ∷ cs) (one_type schemas halves k schema half there also)

-- All are.
pub all_types : (schemas : List Schema) (halves : List Half) → counts_of_types (take (length schemas) schemas) (take (length schemas) halves) ≡ counts_of_types schemas halves
all_types [] halves = refl
all_types (s ∷ schemas) [] = refl
all_types (s ∷ schemas) (h ∷ halves) = ap (λ (cs : List TypeCounts). counts_of s h ∷ cs) (all_types schemas halves)

-- ---- where the consumer stands

pub no_state : (consumer : Option Position) → option_map (λ (p : Position). p.tag) consumer ≡ None → StatReply consumer (Refused NoState)
no_state None none = refl
no_state (Some now) none = absurd cc

pub has_state : (consumer : Option Position) (tag : ℤ) → option_map (λ (p : Position). p.tag) consumer ≡ Some tag → IsSome consumer
has_state None tag some = absurd cc
has_state (Some now) tag some = refl

pub stat_told : (consumer : Option Position) (tag : ℤ) (types : List TypeCounts) → option_map (λ (p : Position). p.tag) consumer ≡ Some tag → IsSomeAnd consumer (λ now. types ≡ counts_of_types now.schemas now.halves)
    → StatReply consumer (Stat tag types)
stat_told None tag types some are = absurd are
stat_told (Some now) tag types some are = let same : tag ≡ now.tag = cc in λ i. Stat (same i) (are i)

-- The types up to an index are counted.
abbrev pub AreCounted : Option Position → ℕ → List TypeCounts → Type 0
AreCounted consumer k types = IsSomeAnd consumer (λ now. types ≡ counts_of_types (take k now.schemas) (take k now.halves))

pub none_yet : (consumer : Option Position) (types : List TypeCounts) → IsSome consumer → types ≡ [] → AreCounted consumer 0 types
none_yet None types some empty = absurd (false≢true some)
none_yet (Some now) types some empty =
    let none : counts_of_types (take 0 now.schemas) (take 0 now.halves) ≡ [] = λ i. counts_of_types (take_none now.schemas i) (take_none now.halves i) in empty ∙ sym none

pub types_more : (consumer : Option Position) (k : ℕ) (types after : List TypeCounts) (counts : TypeCounts) → AreCounted consumer k types → IsSomeAnd consumer (λ now. AreCountsAt now k counts) → after ≡ types ++ counts ∷ []
    → AreCounted consumer (k + 1) after
types_more None k types after counts are here grown = absurd are
types_more (Some now) k types after counts are (schema, half, there, also, is) grown =
    let next : suc k ≡ k + 1 = omega arith in
    subst (λ (n : ℕ). after ≡ counts_of_types (take n now.schemas) (take n now.halves)) next
    (grown ∙ (λ i. are i ++ is i ∷ []) ∙ sym (one_type now.schemas now.halves k schema half there also))

pub types_all : (consumer : Option Position) (k : ℕ) (types : List TypeCounts) (schemas : List Schema) → IsSomeAnd consumer (λ now. now.schemas ≡ schemas) → k ≡ length schemas → AreCounted consumer k types
    → IsSomeAnd consumer (λ now. types ≡ counts_of_types now.schemas now.halves)
types_all None k types schemas same whole are = absurd are
types_all (Some now) k types schemas same whole are =
    let all : k ≡ length now.schemas = whole ∙ ap (λ (ss : List Schema). length ss) (sym same) in
    are ∙ ap (λ (n : ℕ). counts_of_types (take n now.schemas) (take n now.halves)) all ∙ all_types now.schemas now.halves

-- An index of the types of the consumer's model, as its rows tell them.
pub type_in : (consumer : Option Position) (t : ℕ) (schemas : List Schema) → IsSomeAnd consumer (λ now. now.schemas ≡ schemas) → t < length schemas → IsSomeAnd consumer (λ now. t < length now.schemas)
type_in None t schemas same inside = absurd same
type_in (Some now) t schemas same inside = subst (λ (ss : List Schema). t < length ss) (sym same) inside

pub type_of : (consumer : Option Position) (t : ℕ) (schemas : List Schema) → IsSomeAnd consumer (λ now. now.schemas ≡ schemas) → IsSomeAnd consumer (λ now. t < length now.schemas) → t < length schemas
type_of None t schemas same inside = absurd same
type_of (Some now) t schemas same inside = subst (λ (ss : List Schema). t < length ss) same inside

half_there : (halves : List Half) (t : ℕ) → t < length halves → (half : Half) × (slice_get halves t ≡ Some half)
half_there [] t inside = absurd (omega (arith, inside))
half_there (h ∷ halves) zero inside = (h, refl)
half_there (h ∷ halves) (suc t) inside = half_there halves t (omega (arith, inside))

module _ (t : ℕ) (schemas : List Schema) (schema : Schema) (name : Name) (live words bytes : ℕ) (max : Option ℕ) (there : slice_get schemas t ≡ Some schema) (named : name ≡ schema.name) where
  pub counts_are : (consumer : Option Position) → IsSomeAnd consumer (λ now. now.schemas ≡ schemas) → IsSomeAnd consumer IsPosition → IsSomeAnd consumer (λ now. t < length now.schemas)
      → IsSomeAnd consumer (λ now. IsOfType now t (λ schema half. live ≡ length (keys half.rows))) → IsSomeAnd consumer (λ now. IsOfType now t (λ schema half. max ≡ half.layout.max))
      → IsSomeAnd consumer (λ now. IsOfType now t (λ schema half. words ≡ words_held schema.shape half)) → IsSomeAnd consumer (λ now. IsOfType now t (λ schema half. bytes ≡ bytes_held (values half.rows)))
      → IsSomeAnd consumer (λ now. AreCountsAt now t (record { type_name = name; live = live; max = max; words = words; bytes = bytes }))
  counts_are None same position inside live_is max_is words_are bytes_are = absurd same
  counts_are (Some now) same position inside live_is max_is words_are bytes_are =
      let long = length-map now.halves (λ (h : Half). h.rows) in
      let (half, held) = half_there now.halves t (omega (arith, inside, long, position.rows.types)) in
      let here : slice_get now.schemas t ≡ Some schema = ap (λ (ss : List Schema). slice_get ss t) same ∙ there in
      let live_here = live_is schema half here held in
      let max_here = max_is schema half here held in
      let words_here = words_are schema half here held in
      let bytes_here = bytes_are schema half here held in
      (schema, half, here, held, (λ i. record { type_name = named i; live = live_here i; max = max_here i; words = words_here i; bytes = bytes_here i }))

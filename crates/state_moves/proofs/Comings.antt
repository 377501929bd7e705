-- The halves that come, type by type.
use Rattle.std.proofs.Common.{◌≡◌, ◌<◌, ◌+◌, ℕ, zero, suc, List, [], ◌∷◌, length, get_or, set, map, Bool, true, false, cond, Some, None, refl, sym, ap, ◌∙◌, subst, arith}
use Rattle.std.specs.Prelude.{slice_get}
use Rattle.std.specs.List.{AllZip}
use Rattle.std.specs.Option.{option_map}
use Rattle.std.proofs.lemmas.Option.{get_or_from_slice_get, slice_get-map, slice_get_within, slice_get-get_or}
use Rattle.type_state.specs.State.{Half, State}
use Rattle.type_state.specs.Views.{table_of}
use Rattle.state_moves.specs.Moving.{IsComingLaid, coming_half, coming_halves, coming_state}
use Rattle.state_moves.specs.Halves.{current_halves}
use Rattle.state_moves.proofs.Flips.{turned}

pub long_named : (states : List State) (named : List Bool) → AllZip IsComingLaid states named → length named ≡ length states
long_named [] [] laid = refl
long_named (s ∷ states) (b ∷ named) laid = let rest = long_named states named laid.1 in omega arith
long_named [] (b ∷ named) laid = absurd laid
long_named (s ∷ states) [] laid = absurd laid

pub laid_at : (states : List State) (named : List Bool) (t : ℕ) (state : State) (is_named : Bool) → AllZip IsComingLaid states named → slice_get states t ≡ Some state → slice_get named t ≡ Some is_named → IsComingLaid state is_named
laid_at [] named t state is_named laid is there = absurd cc
laid_at (s ∷ states) [] t state is_named laid is there = absurd laid
laid_at (s ∷ states) (b ∷ named) zero state is_named laid is there = let same : s ≡ state = cc in let also : b ≡ is_named = cc in subst (λ (x : State). IsComingLaid x is_named) same (subst (λ (x : Bool). IsComingLaid s x) also laid.0)
laid_at (s ∷ states) (b ∷ named) (suc t) state is_named laid is there = laid_at states named t state is_named laid.1 is there

pub half_at : (states : List State) (named : List Bool) (t : ℕ) (state : State) (is_named : Bool) → slice_get states t ≡ Some state → slice_get named t ≡ Some is_named → slice_get (coming_halves states named) t ≡ Some (coming_half state is_named)
unfolding coming_halves
half_at [] named t state is_named is there = absurd cc
half_at (s ∷ states) [] t state is_named is there = absurd cc
half_at (s ∷ states) (b ∷ named) zero state is_named is there = let same : s ≡ state = cc in let also : b ≡ is_named = cc in λ i. Some (coming_half (same i) (also i))
half_at (s ∷ states) (b ∷ named) (suc t) state is_named is there = half_at states named t state is_named is there

pub half_off : (states : List State) (named : List Bool) (t : ℕ) → slice_get states t ≡ None → slice_get (coming_halves states named) t ≡ None
unfolding coming_halves
half_off [] named t none = refl
half_off (s ∷ states) [] t none = refl
half_off (s ∷ states) (b ∷ named) zero none = absurd cc
half_off (s ∷ states) (b ∷ named) (suc t) none = half_off states named t none

pub coming_at : (states : List State) (named : List Bool) (t : ℕ) (state : State) (is_named : Bool) → slice_get states t ≡ Some state → slice_get named t ≡ Some is_named
    → slice_get (table_of (coming_halves states named)) t ≡ Some (coming_half state is_named).rows
coming_at states named t state is_named is there = slice_get-map (λ (half : Half). half.rows) (coming_halves states named) t ∙ ap (option_map (λ (half : Half). half.rows)) (half_at states named t state is_named is there)

pub coming_off : (states : List State) (named : List Bool) (t : ℕ) → slice_get states t ≡ None → slice_get (table_of (coming_halves states named)) t ≡ None
coming_off states named t none = slice_get-map (λ (half : Half). half.rows) (coming_halves states named) t ∙ ap (option_map (λ (half : Half). half.rows)) (half_off states named t none)

pub named_within : (states : List State) (named : List Bool) (t : ℕ) (state : State) → AllZip IsComingLaid states named → slice_get states t ≡ Some state → t < length named
named_within states named t state laid is = let within = slice_get_within states t state is in omega (arith, within, long_named states named laid)

-- ---- turning

-- the states, of the first of which those that are named are turned
unfoldable pub first_named : ℕ → List Bool → List State → List State
first_named zero named states = states
first_named (suc n) named [] = []
first_named (suc n) [] states = states
first_named (suc n) (is_named ∷ named) (state ∷ states) = coming_state state is_named ∷ first_named n named states

pub none_named : (named : List Bool) (states : List State) → states ≡ first_named 0 named states
unfolding first_named
none_named named states = refl

not_reached : (n : ℕ) (named : List Bool) (states : List State) (d : State) → get_or (first_named n named states) n d ≡ get_or states n d
unfolding first_named
not_reached zero named states d = refl
not_reached (suc n) named [] d = refl
not_reached (suc n) [] (state ∷ states) d = refl
not_reached (suc n) (is_named ∷ named) (state ∷ states) d = not_reached n named states d

named_more : (n : ℕ) (named : List Bool) (states : List State) (d : State) (p : Bool) → n < length states → n < length named → set (first_named n named states) n (coming_state (get_or states n d) (get_or named n p)) ≡ first_named (suc n) named states
unfolding first_named
named_more n named [] d p inside within = absurd (omega (arith, inside))
named_more n [] (state ∷ states) d p inside within = absurd (omega (arith, within))
named_more zero (is_named ∷ named) (state ∷ states) d p inside within = refl
named_more (suc n) (is_named ∷ named) (state ∷ states) d p inside within = ap (λ (rest : List State). coming_state state is_named ∷ rest) (named_more n named states d p (omega (arith, inside)) (omega (arith, within)))

pub one_more_named : (n : ℕ) (named : List Bool) (states now : List State) (d : State) (is_named : Bool) → n < length states → n < length named → now ≡ first_named n named states → slice_get named n ≡ Some is_named
    → set now n (coming_state (get_or now n d) is_named) ≡ first_named (n + 1) named states
one_more_named n named states now d is_named inside within is there =
    let next : suc n ≡ n + 1 = omega arith in
    ap (λ (xs : List State). set xs n (coming_state (get_or xs n d) is_named)) is
    ∙ (λ i. set (first_named n named states) n (coming_state (not_reached n named states d i) (sym (get_or_from_slice_get named n is_named is_named there) i)))
    ∙ named_more n named states d is_named inside within
    ∙ ap (λ (k : ℕ). first_named k named states) next

pub laid_here : (n : ℕ) (named : List Bool) (states now : List State) (d : State) (is_named : Bool) → n < length states → now ≡ first_named n named states → slice_get named n ≡ Some is_named
    → AllZip IsComingLaid states named → IsComingLaid (get_or now n d) is_named
laid_here n named states now d is_named inside is there laid =
    let same : get_or now n d ≡ get_or states n d = ap (λ (xs : List State). get_or xs n d) is ∙ not_reached n named states d in
    subst (λ (x : State). IsComingLaid x is_named) (sym same) (laid_at states named n (get_or states n d) is_named laid (slice_get-get_or states n d inside) there)

pub all_named : (named : List Bool) (states : List State) → length named ≡ length states → current_halves (first_named (length states) named states) ≡ coming_halves states named
unfolding first_named coming_halves
all_named named [] long = refl
all_named [] (state ∷ states) long = absurd (omega (arith, long))
all_named (is_named ∷ named) (state ∷ states) long = let one = half is_named in let rest = all_named named states (omega (arith, long)) in λ i. one i ∷ rest i
  where
    half : (b : Bool) → (cond b (turned state) state).current ≡ cond b state.other state.current
    half true = refl
    half false = refl

pub named_schemas : (n : ℕ) (named : List Bool) (states : List State) → map (λ (s : State). s.schema) (first_named n named states) ≡ map (λ (s : State). s.schema) states
unfolding first_named
named_schemas zero named states = refl
named_schemas (suc n) named [] = refl
named_schemas (suc n) [] (state ∷ states) = refl
named_schemas (suc n) (is_named ∷ named) (state ∷ states) = let one = schema is_named in let rest = named_schemas n named states in λ i. one i ∷ rest i
  where
    schema : (b : Bool) → (cond b (turned state) state).schema ≡ state.schema
    schema true = refl
    schema false = refl

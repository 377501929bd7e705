-- Puts, one after another, over what a store tells: where one is refused, those before it stand.
use Rattle.std.proofs.Common.{◌≡◌, inl, inr, ℕ, List, [], ◌∷◌, ◌++◌, Option, Some, None, Result, Err, OnErr, sym, ap, ◌∙◌, length, take, arith}
use Rattle.std.specs.Option.{option_map}
use Rattle.std.proofs.lemmas.Bool.{cases_lt}
use Rattle.std.proofs.lemmas.List.{take-append-le, take_all}
use Rattle.hol_io.specs.declared.store.PutFault.{PutFault}
use Rattle.hol_io.specs.Store.{Store, with_content}
use Rattle.state_blobs.specs.Puts.{Put, put_all}
use Rattle.state_blobs.specs.Blobs.{IsPartlyPut}

-- what the store holds behind these puts
abbrev held_after : List Put → Option Store → Option Store
held_after puts held = option_map (λ store. put_all store puts) held

-- One put stands, and the next is refused.
pub one_stands : (first : Put) (rest : List Put) (held one now : Option Store) → one ≡ with_content held first.0 first.1 → now ≡ one → IsPartlyPut (first ∷ rest) held now
one_stands first rest None one now put kept = (1, kept ∙ put)
one_stands first rest (Some store) one now put kept = (1, kept ∙ put)

-- two puts stand, and the next is refused
two_stand : (first second : Put) (rest : List Put) (held one two now : Option Store) → one ≡ with_content held first.0 first.1 → two ≡ with_content one second.0 second.1 → now ≡ two →
    IsPartlyPut (first ∷ second ∷ rest) held now
two_stand first second rest None one two now put next kept = (2, kept ∙ next ∙ ap (λ h. with_content h second.0 second.1) put)
two_stand first second rest (Some store) one two now put next kept = (2, kept ∙ next ∙ ap (λ h. with_content h second.0 second.1) put)

-- Where the third put is refused, two stand.
pub two_refused : {T : Type 0} (first second : Put) (rest : List Put) (held one two now : Option Store) (result : Result T PutFault) → one ≡ with_content held first.0 first.1 →
    two ≡ with_content one second.0 second.1 → OnErr result (now ≡ two) → OnErr result (IsPartlyPut (first ∷ second ∷ rest) held now)
two_refused first second rest held one two now (Err fault) put next kept = two_stand first second rest held one two now put next kept
two_refused first second rest held one two now _ put next kept = tt

-- the front of some puts is a front of more
front_of_more : (count : ℕ) (puts others : List Put) → (some : ℕ) × (take some (puts ++ others) ≡ take count puts)
front_of_more count puts others = elim (cases_lt count (length puts)) [
  | inl within ↦ (count, take-append-le count puts others (omega arith))
  | inr past ↦ (length puts, take-append-le (length puts) puts others (omega arith) ∙ take_all (length puts) puts (omega arith) ∙ sym (take_all count puts past))
]

-- What stands of some puts stands of these with others behind them.
pub part_of_more : (puts others : List Put) (held now : Option Store) → IsPartlyPut puts held now → IsPartlyPut (puts ++ others) held now
part_of_more puts others held now (count, is) =
    let front = front_of_more count puts others in
    (front.0, is ∙ ap (λ (front' : List Put). held_after front' held) (sym front.1))

-- all of some puts stand, and the next is refused
all_stand : (puts : List Put) (other : Put) (held now : Option Store) → now ≡ held_after puts held → IsPartlyPut (puts ++ other ∷ []) held now
all_stand puts other held now is =
    let front = take-append-le (length puts) puts (other ∷ []) (omega arith) ∙ take_all (length puts) puts (omega arith) in
    (length puts, is ∙ ap (λ (front' : List Put). held_after front' held) (sym front))

-- Where the last put is refused, those before it stand.
pub last_refused : {T : Type 0} (puts : List Put) (other : Put) (held between now : Option Store) (result : Result T PutFault) → between ≡ held_after puts held → OnErr result (now ≡ between) →
    OnErr result (IsPartlyPut (puts ++ other ∷ []) held now)
last_refused puts other held between now (Err fault) stand kept = all_stand puts other held now (kept ∙ stand)
last_refused puts other held between now _ stand kept = tt

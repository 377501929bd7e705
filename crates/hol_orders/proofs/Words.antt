-- The words of orders are told from one another whole: each is a number, its bytes in base 256.
use Rattle.std.proofs.Common.{◌≡◌, ℕ, ◌+◌, ◌*◌, List, [], ◌∷◌, if◌then◌else◌, ◌==◌, Option, Some, None, refl, ap, sym, ◌∙◌}
use Rattle.hol_orders.specs.declared.kind.Kind.{Kind}
use Rattle.hol_orders.specs.declared.kind.Kind.TheVariants.{Model, Cycle, Restore, Load, Step, Index, Get, Find, Live, Row, Has, At, Past, Check, Stat, Grow, Plan, Goto, Change, WalkIndex, WalkFind, History, Was, WasGet}
use Rattle.hol_orders.specs.Kind.{word_of_kind}

abbrev number_of : List ℕ → ℕ
number_of [] = 0
number_of (byte ∷ rest) = byte + 256 * number_of rest

-- the first of these kinds that has the word
abbrev first_with : List ℕ → List Kind → Option Kind
first_with word [] = None
first_with word (kind ∷ kinds) = if number_of (word_of_kind kind) == number_of word then Some kind else first_with word kinds

abbrev kinds : List Kind
kinds =
    Model ∷ Cycle ∷ Restore ∷ Load ∷ Step ∷ Index ∷ Get ∷ Find ∷ Live ∷ Row ∷ Has ∷ At ∷ Past ∷ Check ∷ Stat
    ∷ Grow ∷ Plan ∷ Goto ∷ Change ∷ WalkIndex ∷ WalkFind ∷ History ∷ Was ∷ WasGet ∷ []

back : (kind : Kind) → first_with (word_of_kind kind) kinds ≡ Some kind
back Model = refl
back _ = refl

pub one_word : (one other : Kind) → word_of_kind one ≡ word_of_kind other → one ≡ other
one_word one other same = let found : Some one ≡ Some other = sym (back one) ∙ ap (λ word. first_with word kinds) same ∙ back other in cc

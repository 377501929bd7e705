-- The words that a pattern over a command line has matched.
use Rattle.std.proofs.Common.{◌≡◌, ℕ, ◌<◌, ◌≤◌, ◌↔◌, List, [], ◌∷◌, length, get_or, map, Bool, true, Option, Some, None, codes, refl, ap, sym, ◌∙◌, subst, arith}
use Rattle.std.specs.Str.{bytes_eq}
use Rattle.std.proofs.lemmas.Slice.Eq.{bytes_eq-Decides}
use Rattle.hol_io.specs.declared.name.BlobName.{BlobName}
use Rattle.hol_io.specs.declared.name.BlobName.TheVariants.{Snapshot}
use Rattle.hol_io.specs.Name.{Names, TellsName}
use Rattle.hollow_top.specs.declared.words.Command.{Command}
use Rattle.hollow_top.specs.declared.words.Command.TheVariants.{Run, Head, Show, Make}
use Rattle.hollow_top.proofs.Numbers.{same_number}
use Rattle.hollow_top.specs.Words.{TellsCommand, TellsNumber, Asks}

-- a word that was compared with a text is that text
pub is_text : (word told text : List ℕ) (same : Bool) → told ≡ word → same ≡ bytes_eq told text → same ≡ true → word ≡ text
is_text word told text same is compared true_ = sym is ∙ (bytes_eq-Decides told text).0 (sym compared ∙ true_)

-- the items of a list of one, two or four
pub one : {A : Type 0} (f : A → List ℕ) (items : List A) (a : A) (x : List ℕ) → 1 ≤ length items → length items < 2 →
    a ≡ get_or items 0 a → f a ≡ x → map f items ≡ x ∷ []
one f [] a x long short at is = absurd (omega arith)
one f (b ∷ []) a x long short at is = ap (λ t. t ∷ []) (ap f (sym at) ∙ is)
one f (b ∷ c ∷ rest) a x long short at is = absurd (omega arith)

pub two : {A : Type 0} (f : A → List ℕ) (items : List A) (a b : A) (x y : List ℕ) → 2 ≤ length items → length items < 3 →
    a ≡ get_or items 0 a → b ≡ get_or items 1 b → f a ≡ x → f b ≡ y → map f items ≡ x ∷ y ∷ []
two f [] a b x y long short at bt is js = absurd (omega arith)
two f (c ∷ []) a b x y long short at bt is js = absurd (omega arith)
two f (c ∷ d ∷ []) a b x y long short at bt is js = λ i. (ap f (sym at) ∙ is) i ∷ (ap f (sym bt) ∙ js) i ∷ []
two f (c ∷ d ∷ e ∷ rest) a b x y long short at bt is js = absurd (omega arith)

pub four : {A : Type 0} (f : A → List ℕ) (items : List A) (a b c d : A) (x y z w : List ℕ) → 4 ≤ length items → length items < 5 →
    a ≡ get_or items 0 a → b ≡ get_or items 1 b → c ≡ get_or items 2 c → d ≡ get_or items 3 d → f a ≡ x → f b ≡ y → f c ≡ z → f d ≡ w →
    map f items ≡ x ∷ y ∷ z ∷ w ∷ []
four f [] a b c d x y z w long short at bt ct dt is js ks ls = absurd (omega arith)
four f (p ∷ []) a b c d x y z w long short at bt ct dt is js ks ls = absurd (omega arith)
four f (p ∷ q ∷ []) a b c d x y z w long short at bt ct dt is js ks ls = absurd (omega arith)
four f (p ∷ q ∷ r ∷ []) a b c d x y z w long short at bt ct dt is js ks ls = absurd (omega arith)
four f (p ∷ q ∷ r ∷ s ∷ []) a b c d x y z w long short at bt ct dt is js ks ls =
    λ i. (ap f (sym at) ∙ is) i ∷ (ap f (sym bt) ∙ js) i ∷ (ap f (sym ct) ∙ ks) i ∷ (ap f (sym dt) ∙ ls) i ∷ []
four f (p ∷ q ∷ r ∷ s ∷ t ∷ rest) a b c d x y z w long short at bt ct dt is js ks ls = absurd (omega arith)

-- the word alone asks to run
pub runs : (words : List (List ℕ)) → words ≡ codes "run" ∷ [] → TellsCommand words (Some Run)
runs words is = subst (λ ws. TellsCommand ws (Some Run)) (sym is) ((tt, refl), only)
  where
    only : (other : Command) → Asks (codes "run" ∷ []) other → other ≡ Run
    only Run asked = refl
    only (Head blob) asked = absurd (omega (arith, ap length asked.1))
    only (Show version) asked = absurd (omega (arith, ap length asked.1))
    only (Make seed rows cycles) asked = absurd (omega (arith, ap length asked.1))

-- what reading a text as a name says of `show`
pub no_show : (text : List ℕ) → TellsName text None → TellsCommand (codes "show" ∷ text ∷ []) None
no_show text none Run asked = omega (arith, ap length asked.1)
no_show text none (Head blob) asked = omega (arith, ap (λ words. get_or (get_or words 0 []) 0 0) asked.1)
no_show text none (Show version) asked = none (Snapshot version) (asked.0, ap (λ words. get_or words 1 []) asked.1)
no_show text none (Make seed rows cycles) asked = omega (arith, ap length asked.1)

pub one_show : (text : List ℕ) (version : ℕ) (parsed : Option BlobName) → ((name : BlobName) → (parsed ≡ Some name) ↔ Names text name) → parsed ≡ Some (Snapshot version) →
    TellsCommand (codes "show" ∷ text ∷ []) (Some (Show version))
one_show text version parsed reads is = ((named.0, ap (λ t. codes "show" ∷ t ∷ []) named.1), only)
  where
    named : Names text (Snapshot version)
    named = (reads (Snapshot version)).0 is

    only : (other : Command) → Asks (codes "show" ∷ text ∷ []) other → other ≡ Show version
    only Run asked = absurd (omega (arith, ap length asked.1))
    only (Head blob) asked = absurd (omega (arith, ap (λ words. get_or (get_or words 0 []) 0 0) asked.1))
    only (Show other) asked =
        let found : parsed ≡ Some (Snapshot other) = (reads (Snapshot other)).1 (asked.0, ap (λ words. get_or words 1 []) asked.1) in
        let equal : other ≡ version = cc in
        ap Show equal
    only (Make seed rows cycles) asked = absurd (omega (arith, ap length asked.1))

-- three numbers ask for `make`
pub one_make : (seed rows cycles : List ℕ) (s r c : ℕ) → TellsNumber 0 999999 seed (Some s) → TellsNumber 1 500000 rows (Some r) → TellsNumber 1 1000 cycles (Some c) →
    TellsCommand (codes "make" ∷ seed ∷ rows ∷ cycles ∷ []) (Some (Make s r c))
one_make seed rows cycles s r c a b d =
    (((a.0, b.0, d.0), (λ i. codes "make" ∷ a.1 i ∷ b.1 i ∷ d.1 i ∷ [])), only)
  where
    only : (other : Command) → Asks (codes "make" ∷ seed ∷ rows ∷ cycles ∷ []) other → other ≡ Make s r c
    only Run asked = absurd (omega (arith, ap length asked.1))
    only (Head blob) asked = absurd (omega (arith, ap length asked.1))
    only (Show version) asked = absurd (omega (arith, ap length asked.1))
    only (Make x y z) asked =
        let first : x ≡ s = same_number seed x s (omega (arith, asked.0.0)) (omega (arith, a.0)) (ap (λ words. get_or words 1 []) asked.1) a.1 in
        let second : y ≡ r = same_number rows y r (omega (arith, asked.0.1)) (omega (arith, b.0)) (ap (λ words. get_or words 2 []) asked.1) b.1 in
        let third : z ≡ c = same_number cycles z c (omega (arith, asked.0.2)) (omega (arith, d.0)) (ap (λ words. get_or words 3 []) asked.1) d.1 in
        cc

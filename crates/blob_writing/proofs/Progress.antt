-- Things that are written one behind the other, each as it is said of an index: what stands there so far, and that the bytes are determined where those of each are.
use Rattle.std.proofs.Common.{◌≡◌, ℕ, zero, suc, ◌+◌, ◌<◌, ◌≤◌, List, [], ◌∷◌, ◌++◌, get_or, take, length, refl, sym, ap, ◌∙◌, subst, arith, length-append, append_assoc, append-nil}
use Rattle.std.specs.Prelude.{flat_map}
use Rattle.std.specs.List.{AllZip}
use Rattle.std.proofs.lemmas.List.{take_all, take_more}
use Rattle.std.proofs.lemmas.List.Concat.{flat_map-append}
use Rattle.std.proofs.lemmas.Slice.Zip.{AllZip-long}
use Rattle.hol_varint.specs.Varint.{varint_bytes}
use Rattle.row_packing.proofs.ByType.{pushed}

module _ {X : Type 0} (R : ℕ → X → Type 0) (bytes : X → List ℕ) where
  -- the things of the first indexes stand behind what stood there
  pub record AreWrittenTo (indexes : List ℕ) (count : ℕ) (start out : List ℕ) : Type 0 where
    pub things : List X
    pub are : AllZip R (take count indexes) things
    pub is : out ≡ start ++ flat_map bytes things

  pub one_written : (indexes : List ℕ) (count : ℕ) (start out more : List ℕ) (x : X) → count < length indexes → AreWrittenTo indexes count start out → R (get_or indexes count 0) x → more ≡ out ++ bytes x
      → AreWrittenTo indexes (count + 1) start more
  one_written indexes count start out more x inside to is put = record {
    things = to.things ++ x ∷ [];
    are = subst (λ (front : List ℕ). AllZip R front (to.things ++ x ∷ [])) (sym (take_more indexes count 0 inside)) (pushed R (take count indexes) to.things (get_or indexes count 0) x to.are is);
    is = put ∙ ap (λ (xs : List ℕ). xs ++ bytes x) to.is ∙ append_assoc start (flat_map bytes to.things) (bytes x)
        ∙ ap (λ (xs : List ℕ). start ++ xs) (sym (flat_map-append bytes to.things (x ∷ []) ∙ ap (λ (xs : List ℕ). flat_map bytes to.things ++ xs) (append-nil (bytes x))));
  }

  pub all_written : (indexes : List ℕ) (count : ℕ) (start out : List ℕ) → length indexes ≤ count → AreWrittenTo indexes count start out
      → (things : List X) × AllZip R indexes things × (out ≡ start ++ flat_map bytes things)
  all_written indexes count start out all to = (to.things, subst (λ (front : List ℕ). AllZip R front to.things) (take_all count indexes all) to.are, to.is)

  -- the things behind their number
  abbrev pub counted : List X → List ℕ
  counted things = varint_bytes (length things) ++ flat_map bytes things

  pub counted_is : (indexes : List ℕ) (things : List X) (start : List ℕ) → AllZip R indexes things → start ++ varint_bytes (length indexes) ++ flat_map bytes things ≡ start ++ counted things
  counted_is indexes things start are =
      append_assoc start (varint_bytes (length indexes)) (flat_map bytes things)
      ∙ ap (λ (n : ℕ). start ++ (varint_bytes n ++ flat_map bytes things)) (sym (AllZip-long R indexes things are))

  pub counted_whole : (indexes before start out : List ℕ) → start ≡ before ++ varint_bytes (length indexes) → (things : List X) × AllZip R indexes things × (out ≡ start ++ flat_map bytes things)
      → (things : List X) × AllZip R indexes things × (out ≡ before ++ counted things)
  counted_whole indexes before start out begins (things, are, is) =
      (things, are, is ∙ ap (λ (s : List ℕ). s ++ flat_map bytes things) begins ∙ counted_is indexes things before are)

  -- what is too long before all stand there has a front that is
  pub begins_long : (limit : ℕ) (indexes : List ℕ) (count : ℕ) (before start out : List ℕ) → start ≡ before ++ varint_bytes (length indexes) → limit < length out
      → AreWrittenTo indexes count start out → (k : ℕ) × (front : List X) × AllZip R (take k indexes) front × (limit < length (before ++ (varint_bytes (length indexes) ++ flat_map bytes front)))
  begins_long limit indexes count before start out begins over to =
      let whole = ap (λ (l : List ℕ). length l) (to.is ∙ ap (λ (s : List ℕ). s ++ flat_map bytes to.things) begins ∙ append_assoc before (varint_bytes (length indexes)) (flat_map bytes to.things)) in
      (count, to.things, to.are, omega (arith, over, whole))

  module _ (once : (index : ℕ) (a b : X) → R index a → R index b → bytes a ≡ bytes b) where
    -- the things of the same indexes have the same bytes
    pub same_bytes : (indexes : List ℕ) (xs ys : List X) → AllZip R indexes xs → AllZip R indexes ys → flat_map bytes xs ≡ flat_map bytes ys
    same_bytes [] [] [] a b = refl
    same_bytes [] [] (y ∷ ys) a b = absurd b
    same_bytes [] (x ∷ xs) ys a b = absurd a
    same_bytes (i ∷ indexes) [] ys a b = absurd a
    same_bytes (i ∷ indexes) (x ∷ xs) [] a b = absurd b
    same_bytes (i ∷ indexes) (x ∷ xs) (y ∷ ys) a b =
        ap (λ (front : List ℕ). front ++ flat_map bytes xs) (once i x y a.0 b.0) ∙ ap (λ (rest : List ℕ). bytes y ++ rest) (same_bytes indexes xs ys a.1 b.1)

    -- those of the first are no longer than those of all
    front_long : (indexes : List ℕ) (count : ℕ) (xs ys : List X) → AllZip R (take count indexes) xs → AllZip R indexes ys → length (flat_map bytes xs) ≤ length (flat_map bytes ys)
    front_long indexes zero [] ys a b = omega arith
    front_long indexes zero (x ∷ xs) ys a b = absurd a
    front_long [] (suc count) [] ys a b = omega arith
    front_long [] (suc count) (x ∷ xs) ys a b = absurd a
    front_long (i ∷ indexes) (suc count) [] ys a b = absurd a
    front_long (i ∷ indexes) (suc count) (x ∷ xs) [] a b = absurd b
    front_long (i ∷ indexes) (suc count) (x ∷ xs) (y ∷ ys) a b =
        let first = ap (λ (l : List ℕ). length l) (once i x y a.0 b.0) in
        let rest = front_long indexes count xs ys a.1 b.1 in
        omega (arith, first, rest, length-append (bytes x) (flat_map bytes xs), length-append (bytes y) (flat_map bytes ys))

    -- what is too long before all stand there is too long with all of them
    pub too_long : (limit : ℕ) (indexes : List ℕ) (count : ℕ) (start out : List ℕ) (ys : List X) → limit < length out → AreWrittenTo indexes count start out → AllZip R indexes ys
        → limit < length (start ++ flat_map bytes ys)
    too_long limit indexes count start out ys over to all =
        let front = front_long indexes count to.things ys to.are all in
        let here = ap (λ (l : List ℕ). length l) to.is in
        omega (arith, over, front, here, length-append start (flat_map bytes to.things), length-append start (flat_map bytes ys))

    pub counted_once : (indexes : List ℕ) (xs ys : List X) → AllZip R indexes xs → AllZip R indexes ys → counted xs ≡ counted ys
    counted_once indexes xs ys one other =
        ap (λ (n : ℕ). varint_bytes n ++ flat_map bytes xs) (AllZip-long R indexes xs one ∙ sym (AllZip-long R indexes ys other))
        ∙ ap (λ (rest : List ℕ). varint_bytes (length ys) ++ rest) (same_bytes indexes xs ys one other)

    -- the same with their number
    pub counted_long : (limit : ℕ) (indexes : List ℕ) (count : ℕ) (before start out : List ℕ) → start ≡ before ++ varint_bytes (length indexes) → limit < length out
        → AreWrittenTo indexes count start out → (ys : List X) → AllZip R indexes ys → limit < length (before ++ counted ys)
    counted_long limit indexes count before start out begins over to ys all =
        let long = too_long limit indexes count start out ys over to all in
        let whole = ap (λ (l : List ℕ). length l) (ap (λ (s : List ℕ). s ++ flat_map bytes ys) begins ∙ counted_is indexes ys before all) in
        omega (arith, long, whole)

use Rattle.std.proofs.Common.{◌≡◌, ◌∙◌, ◌<◌, ◌+◌, ◌^◌, ◌++◌, [], ◌∷◌, ℕ, List, ap, sym, subst, take, length}
use Rattle.std.specs.List.{All}
use Rattle.std.proofs.lemmas.List.{take_all, take_more}
use Rattle.std.proofs.lemmas.List.Elements.{All-push}
use Rattle.schema_bytes.proofs.Fronts.{kept_append, kept_on}
use Rattle.schema_bytes.proofs.Pieces.{piece_pushed}
use Rattle.blob_writing.specs.Written.{area_bytes}
use Rattle.blob_writing.proofs.items.push_areas.Goals as goal

-- the length of an area fits
abbrev Fit : List ℕ → Type 0
Fit area = length area < 2 ^ 64

pub returns-in_err-push_area-clause-kept : goal.returns-in_err-push_area-clause-kept
returns-in_err-push_area-clause-kept c = kept_on _ _ _ (kept_append _ _ _ c.loop-area.invariant.written) c.in_err-push_area.ensures.kept

pub loop-area-preserved : goal.loop-area-preserved
loop-area-preserved c =
    let i = c.loop-area.area-index in
    let area = c.area-item.result in
    let more : take (i + 1) c.args.areas.now ≡ take i c.args.areas.now ++ area ∷ [] =
    take_more c.args.areas.now i area c.loop-area-test.true ∙ ap (λ (x : List ℕ). take i c.args.areas.now ++ x ∷ []) (sym c.area-item.is) in
    let fit : Fit area = subst (λ (x : List ℕ). Fit x) c.as_slice.ensures c.in_ok-push_area.ensures.fits in
    record {
      written = piece_pushed area_bytes c.args.areas.now i area c.args.out.now.items c.loop-area.out.items c.push_area.new.out.items c.loop-area-test.true c.area-item.is
          c.loop-area.invariant.written (c.in_ok-push_area.ensures.ok ∙ ap (λ (xs : List ℕ). c.loop-area.out.items ++ area_bytes xs) c.as_slice.ensures);
      fits = subst (λ (xs : List (List ℕ)). All Fit xs) (sym more) (All-push Fit (take i c.args.areas.now) area c.loop-area.invariant.fits fit);
    }

pub returns-clause-fits : goal.returns-clause-fits
returns-clause-fits c = subst (λ (xs : List (List ℕ)). All Fit xs) (take_all c.loop-area.area-index c.args.areas.now c.loop-area-test.false) c.loop-area.invariant.fits

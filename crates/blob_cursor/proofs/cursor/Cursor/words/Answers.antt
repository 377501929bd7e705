use Rattle.std.proofs.Common.{rules, arith, ap, ◌≡◌, ◌≤◌, ◌+◌, ◌*◌, ◌++◌, ◌∙◌, ℕ, List, length, refl}
use Rattle.std.specs.Int.{w64}
use Rattle.blob_cursor.specs.Filling.{words_in}
use Rattle.blob_cursor.specs.Scene.{Place}
use Rattle.blob_cursor.proofs.Counting.{counts_stops, counts_done}
use Rattle.blob_cursor.proofs.Fixed.{reads_no_fixed}
use Rattle.blob_cursor.proofs.Words.{behind_words, counts_none, counts_piece, more_words, no_words}
use Rattle.blob_cursor.proofs.cursor.Cursor.words.Goals as goal

pub loop-self-init : goal.loop-self-init
loop-self-init g c =
    let none = no_words _ c.args.self.now.at c.args.count c.new-list.ensures in (counts_none c.requires.over c.new-list.ensures, none.0, none.1, none.2)

pub returns-in_err-need-clause-reads : goal.returns-in_err-need-clause-reads
returns-in_err-need-clause-reads g c = counts_stops (omega arith) c.loop-self.invariant.0 (reads_no_fixed w64 c.in_err-need.ensures.needs refl) (search rules)

pub loop-self-smaller : goal.loop-self-smaller
loop-self-smaller g c =
    let ahead = ap (λ (xs : List ℕ). length xs) c.ahead.ensures.value in
    let some : 1 ≤ c.min-more.result = omega (arith, ahead, c.in_ok-need.ensures.needs.enough) in
    let put : c.push_words.new.list ≡ c.loop-self.list ++ words_in c.min-more.result c.ahead-in-loop-self.result.now = c.in_ok-push_words.ensures in
    let long = more_words c.loop-self.list c.push_words.new.list c.ahead-in-loop-self.result.now c.min-more.result put in
    omega (arith, some, long)

pub loop-self-preserved : goal.loop-self-preserved
loop-self-preserved g c =
    let ahead = ap (λ (xs : List ℕ). length xs) c.ahead.ensures.value in
    let some : 1 ≤ c.min-more.result = omega (arith, ahead, c.in_ok-need.ensures.needs.enough) in
    let fits : length c.loop-self.list + c.min-more.result ≤ c.args.count = omega arith in
    let enough : 8 * c.min-more.result ≤ length c.need.new.self.ahead = omega (arith, ahead) in
    let put : c.push_words.new.list ≡ c.loop-self.list ++ words_in c.min-more.result c.need.new.self.ahead =
    c.in_ok-push_words.ensures ∙ ap (λ (xs : List ℕ). c.loop-self.list ++ words_in c.min-more.result xs) c.ahead-in-loop-self.ensures.value in
    let behind = behind_words c.loop-self.list c.push_words.new.list c.need.new.self.ahead c.min-more.result c.args.self.now.at c.need.new.self.at c.pass.new.self.at
    (c.in_ok-need.ensures.needs.place ∙ c.loop-self.invariant.1) (ap (λ (p : Place). p.at) c.pass.ensures.moved) c.pass.ensures.few put in (
      counts_piece c.min-more.result some fits c.loop-self.invariant.0 c.in_ok-need.ensures.needs enough c.pass.ensures.moved put,
      behind.0,
      behind.1,
      omega (arith, behind.2, fits),
    )

pub returns-clause-reads : goal.returns-clause-reads
returns-clause-reads g c = counts_done c.loop-self.invariant.0 (omega arith)

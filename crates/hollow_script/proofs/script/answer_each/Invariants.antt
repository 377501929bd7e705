use Rattle.std.proofs.Common.{◌≡◌, ◌≤◌, IfSome}
use Rattle.hol_io.specs.Lines.{Takes}
use Rattle.hol_io.specs.Turn.{IsEnded}
use Rattle.hollow_machine.specs.Kept.{IsResting}
use Rattle.hollow_script.specs.Kept.{KeepsEdits, KeepsReader}
use Rattle.hollow_script.specs.Scripted.{HasReplied, IsAnswered, longest_input}
use Rattle.hollow_script.proofs.script.answer_each.Given as goal

-- The lines that were given are answered.
abbrev pub invariant-loop-turn : goal.invariant-loop-turn
invariant-loop-turn g l = record {
  answered : IfSome (g.I.Source.left l.initial.input) (λ bytes. IfSome (g.S.BlobStore.seen l.initial.store).held (λ first.
      IsAnswered bytes first (g.I.Source.left l.input) (g.S.BlobStore.seen l.store).held l.lines l.keep (g.O.Sink.taken l.initial.out) (g.O.Sink.taken l.out) l.waiting.items l.refused));
  replied : HasReplied (g.O.Sink.taken l.initial.out) (g.O.Sink.taken l.out) l.waiting.items l.refused;
  resting : IfSome l.keep.producer IsResting;
  reading : KeepsReader l.keep;
  edits : KeepsEdits l.keep;
  later : g.O.Sink.faults l.initial.out ≤ g.O.Sink.faults l.out;
  source_later : g.I.Source.faults l.initial.input ≤ g.I.Source.faults l.input;
  store_later : (g.S.BlobStore.seen l.initial.store).faults ≤ (g.S.BlobStore.seen l.store).faults;
  takes : Takes (g.I.Source.left l.initial.input) (g.I.Source.left l.input) 0 l.lines.taken;
  budget : l.lines.budget ≡ longest_input;
  at_end : IsEnded l.lines (g.I.Source.left l.input);
}

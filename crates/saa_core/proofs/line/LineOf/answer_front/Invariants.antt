-- What is left to answer leads to what all of it leads to.
use Rattle.std.proofs.Common.{◌≡◌, ◌-◌, ◌≤◌, length, take, drop}
use Rattle.saa_core.specs.Slots.{answered_slots, pending_after}
use Rattle.saa_core.proofs.line.LineOf.answer_front.Given as goal

abbrev pub invariant-loop-turn : goal.invariant-loop-turn
invariant-loop-turn g l = record {
  enough : l.k - l._turn ≤ length l.self.line;
  rest : drop (l.k - l._turn) l.self.line ≡ drop l.k l.initial.self.line;
  answers : answered_slots l.value (take (l.k - l._turn) l.self.line) l.self.answers ≡ answered_slots l.value (take l.k l.initial.self.line) l.initial.self.answers;
  pending_wakes : pending_after (take (l.k - l._turn) l.self.line) l.self.pending_wakes ≡ pending_after (take l.k l.initial.self.line) l.initial.self.pending_wakes;
}

use Rattle.std.proofs.Common.{◌≡◌}
use Rattle.saa_word_threads.specs.declared.table.Role.TheVariants.{Acting}
use Rattle.saa_word_steps.specs.Needs.{needs_of}
use Rattle.saa_word_threads.specs.Visits.{InVisit}
use Rattle.saa_word_threads.proofs.form.Form.visit_on.Given as goal

abbrev pub invariant-loop : goal.invariant-loop
invariant-loop g l = record {
  table : l.seat.table_id ≡ l.fn.seat.table_id;
  same : l.seat.id ≡ l.fn.seat.id;
  role : l.seat.me.0.role ≡ Acting;
  number : l.seat.me.0.number ≡ l.fn.seat.me.0.number;
  in_call : InVisit (needs_of l.self.rules) l.self.places l.visit.call.value l.visit.seat.value.me.0 l.place l.seat.me.0;
}

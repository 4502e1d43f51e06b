use Rattle.atomic_table.specs.declared.shared.Seat.{Seat}
use Rattle.saa_word_threads.specs.declared.table.View.{View}
use Rattle.std.proofs.Common.{rules, ap, refl, sym, ◌≡◌, ◌∙◌, true, Some}
use Rattle.saa_core_words.specs.Words.{count_bits, word_number}
use Rattle.saa_word_steps.specs.declared.call.Answer.TheVariants.{Bool as Says}
use Rattle.saa_word_steps.specs.declared.place.ReleaseAmount.TheVariants.{Requested}
use Rattle.saa_word_steps.specs.declared.place.Stage.TheVariants.{ReleaseLoad}
use Rattle.saa_word_steps.specs.Needs.{needs_of}
use Rattle.saa_word_proofs.specs.Promises.{idle_place}
use Rattle.saa_word_steps.specs.declared.place.Registration.TheVariants.{Idle}
use Rattle.saa_word_threads.specs.Straight.{lowers_to}
use Rattle.saa_word_threads.proofs.Calling.{going-called}
use Rattle.saa_word_threads.proofs.Visiting.{number-beyond, visit-first, visit-gave-so}
use Rattle.saa_word_threads.proofs.form.Form.visit_give.Goals as goal

pub visit_look-found-requires-clause-in_call : goal.visit_look-found-requires-clause-in_call
visit_look-found-requires-clause-in_call g c =
    rw (c.of-visit.ensures.call, c.of-visit.ensures.seat, c.of-looking.ensures, c.standing.ensures)
    (visit-first (needs_of c.args.self.now.rules) c.args.self.now.places c.args.call (record idle_place { stage = ReleaseLoad (Requested c.args.request) }) c.args.visitor.now.seat.me.0
    c.args.visitor.now.rests.1
    (number-beyond c.args.self.now.places c.args.self.now.table.shared.table_id.words c.args.visitor.now.seat.table_id.words c.args.visitor.now.seat.me.0.number
    c.args.self.now.words (search rules) c.args.visitor.now.beyond)
    c.requires.takes c.requires.starts refl (refl, refl))

pub returns-clause-called : goal.returns-clause-called
returns-clause-called g c =
    let lowers : lowers_to (needs_of c.args.self.now.rules) c.unpack-seen.result c.args.request ≡ Some c.in-Some.count = sym c.lowers.ensures ∙ c.in-Some.is in
    let hit : c.visit_change-other.result ≡ word_number count_bits c.unpack-seen.result = search rules in (
      Says true,
      refl,
      going-called (needs_of c.args.self.now.rules) c.args.self.now.table.shared.key.withheld c.args.call idle_place refl (record idle_place { stage = ReleaseLoad (Requested c.args.request) }) (Says true) Idle
          c.args.visitor.now.seat.me.0 c.visit_change-other.new.seat.me.0 c.requires.starts
          (visit-gave-so (needs_of c.args.self.now.rules) c.args.self.now.table.shared.key.withheld c.args.self.now.places c.args.call c.of-visit.result.call.value c.args.visitor.now.seat.me.0
          c.of-visit.result.seat.value.me.0 c.visit_change-other.new.seat.me.0 c.of-changing.result.value c.args.request
          c.visit_change-other.result c.unpack-seen.result c.of-visit.ensures.call
          (ap (λ (s : Seat (Unit {0}) View). s.me.0) c.of-visit.ensures.seat) (c.of-changing.ensures ∙ c.standing-2.ensures) hit
          c.visit_change-other.ensures.in_call (search rules)).0,
    )

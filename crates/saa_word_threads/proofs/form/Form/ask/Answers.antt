use Rattle.std.proofs.Common.{rules, ◌≡◌, true}
use Rattle.saa_core_spec.specs.Values.{granted_value}
use Rattle.saa_core_words.specs.Words.{count_bits, word_number}
use Rattle.saa_word_steps.specs.declared.call.Answer.TheVariants.{Bool as Says}
use Rattle.saa_word_steps.specs.declared.place.Registration.TheVariants.{AnsweredAtOnce}
use Rattle.saa_word_steps.specs.declared.place.Stage.TheVariants.{Quiet, AcquireLoad}
use Rattle.saa_word_steps.specs.Readings.{tried_answer}
use Rattle.saa_word_threads.specs.Pending.{needs}
use Rattle.saa_word_threads.specs.Straight.{grants_at}
use Rattle.saa_word_threads.proofs.Going.{ask-misses, ask-registered, ask-tried, asks-exchange}
use Rattle.saa_word_threads.proofs.PendingLemmas.{pending-begins, pending-called}
use Rattle.saa_word_threads.proofs.form.Form.ask.Goals as goal

pub seek_by_load-found-requires-clause-pending : goal.seek_by_load-found-requires-clause-pending
seek_by_load-found-requires-clause-pending g c =
    rw (c.of-looking.ensures)
    (pending-begins c.args.self.now c.of-pending.result c.args.place.now c.args.call (record c.args.place.now.position { stage = AcquireLoad c.args.ask })
    c.of-pending.ensures c.requires.dealt (search rules) c.requires.takes c.requires.starts)

pub seek_by_exchange-other-requires-clause-pending : goal.seek_by_exchange-other-requires-clause-pending
seek_by_exchange-other-requires-clause-pending g c =
    let grants : grants_at (needs c.args.self.now) c.unpack-seen.result c.args.ask ≡ true = search rules in
    rw (c.of-changing.ensures)
    (asks-exchange c.args.self.now c.of-pending.result c.args.place.now.position c.args.ask c.seek_by_load-found.result c.unpack-seen.result
    c.of-looking.result.value c.seek_by_load-found.new.seat c.of-looking.ensures c.unpack-seen.ensures grants c.seek_by_load-found.ensures.found)

pub seek_by_exchange-other-requires-clause-made : goal.seek_by_exchange-other-requires-clause-made
seek_by_exchange-other-requires-clause-made g c =
    ask-misses (needs c.args.self.now) c.of-pending.result.me c.args.place.now.position c.args.ask c.unpack-seen.result c.of-changing.result.value
    c.pack-old.result c.of-changing.ensures c.pack-old.ensures.number

pub returns-then-not-grants-clause-called : goal.returns-then-not-grants-clause-called
returns-then-not-grants-clause-called g c =
    pending-called c.args.self.now c.of-pending.result c.args.place.now c.args.call (record c.args.place.now.position { stage = AcquireLoad c.args.ask })
    c.ask_on.new.position c.ask_on.result c.ask_on.new.seat c.of-pending.ensures c.requires.starts c.ask_on.ensures.ended

pub returns-then-other-old-clause-called : goal.returns-then-other-old-clause-called
returns-then-other-old-clause-called g c =
    pending-called c.args.self.now c.of-pending.result c.args.place.now c.args.call (record c.args.place.now.position { stage = AcquireLoad c.args.ask })
    c.ask_anew.new.position c.ask_anew.result c.ask_anew.new.seat c.of-pending.ensures c.requires.starts
    c.ask_anew.ensures.ended

pub returns-then-ask-clause-called : goal.returns-then-ask-clause-called
returns-then-ask-clause-called g c =
    let hit : c.seek_by_exchange-other.result ≡ word_number count_bits c.unpack-seen.result = search rules in
    pending-called c.args.self.now c.of-pending.result c.args.place.now c.args.call (record c.args.place.now.position { stage = AcquireLoad c.args.ask })
    (record c.args.place.now.position { registration = AnsweredAtOnce granted_value c.args.ask.request; stage = Quiet }) (Says true) c.seek_by_exchange-other.new.seat
    c.of-pending.ensures c.requires.starts
    (ask-registered c.args.self.now c.of-pending.result c.args.place.now.position c.args.ask c.unpack-seen.result c.seek_by_exchange-other.result
    c.of-changing.result.value c.seek_by_exchange-other.new.seat c.of-changing.ensures hit c.seek_by_exchange-other.ensures.found c.if-ask.true)

pub returns-clause-called : goal.returns-clause-called
returns-clause-called g c =
    let hit : c.seek_by_exchange-other.result ≡ word_number count_bits c.unpack-seen.result = search rules in
    rw (c.granted_try.ensures)
    (pending-called c.args.self.now c.of-pending.result c.args.place.now c.args.call (record c.args.place.now.position { stage = AcquireLoad c.args.ask })
    (record c.args.place.now.position { stage = Quiet }) (tried_answer (needs c.args.self.now) true) c.seek_by_exchange-other.new.seat
    c.of-pending.ensures c.requires.starts
    (ask-tried c.args.self.now c.of-pending.result c.args.place.now.position c.args.ask c.unpack-seen.result c.seek_by_exchange-other.result
    c.of-changing.result.value c.seek_by_exchange-other.new.seat c.of-changing.ensures hit c.seek_by_exchange-other.ensures.found c.if-ask.false))

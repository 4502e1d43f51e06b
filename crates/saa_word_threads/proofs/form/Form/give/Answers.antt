use Rattle.std.proofs.Common.{rules, ◌∙◌, ◌≡◌, true, Some, refl, sym, ap}
use Rattle.saa_core_words.specs.declared.word.Word.{Word}
use Rattle.saa_core_words.specs.Words.{count_bits, word_number}
use Rattle.saa_word_steps.specs.declared.call.Answer.TheVariants.{Bool as Says}
use Rattle.saa_word_steps.specs.declared.place.AfterWalk.TheVariants.{Tells}
use Rattle.saa_word_steps.specs.declared.place.ReleaseAmount.TheVariants.{Requested}
use Rattle.saa_word_steps.specs.declared.place.Stage.TheVariants.{Quiet, ReleaseLoad}
use Rattle.saa_word_steps.specs.Steps.{exchanged}
use Rattle.saa_word_threads.specs.Pending.{needs}
use Rattle.saa_word_threads.specs.Straight.{lowers_to}
use Rattle.saa_word_threads.proofs.Going.{give-made, give-misses, gives-exchange, lowered}
use Rattle.saa_word_threads.proofs.PendingLemmas.{pending-begins, pending-called}
use Rattle.saa_word_threads.proofs.form.Form.give.Goals as goal

pub seek_by_load-found-requires-clause-pending : goal.seek_by_load-found-requires-clause-pending
seek_by_load-found-requires-clause-pending g c =
    rw (c.of-looking.ensures)
    (pending-begins c.args.self.now c.of-pending.result c.args.place.now c.args.call (record c.args.place.now.position { stage = ReleaseLoad (Requested c.args.request); back = Tells })
    c.of-pending.ensures c.requires.dealt (search rules) c.requires.takes c.requires.starts)

pub seek_by_exchange-other-requires-clause-pending : goal.seek_by_exchange-other-requires-clause-pending
seek_by_exchange-other-requires-clause-pending g c =
    rw (c.of-changing.ensures)
    (gives-exchange c.args.self.now c.of-pending.result c.args.place.now.position c.args.request c.in-Some.count c.seek_by_load-found.result c.unpack-seen.result
    c.of-looking.result.value c.seek_by_load-found.new.seat c.of-looking.ensures c.unpack-seen.ensures (sym c.lowers.ensures ∙ c.in-Some.is)
    c.seek_by_load-found.ensures.found)

pub seek_by_exchange-other-requires-clause-exchanges : goal.seek_by_exchange-other-requires-clause-exchanges
seek_by_exchange-other-requires-clause-exchanges g c =
    let lowers : lowers_to (needs c.args.self.now) c.unpack-seen.result c.args.request ≡ Some c.in-Some.count = sym c.lowers.ensures ∙ c.in-Some.is in
    rw (c.of-changing.ensures, c.pack-old.ensures.number, c.pack-new.ensures.number)
    (sym (ap (λ (w : Word). exchanged c.unpack-seen.result w)
    (c.lowered.ensures ∙ lowered (needs c.args.self.now) c.unpack-seen.result c.args.request c.in-Some.count lowers)))

pub seek_by_exchange-other-requires-clause-made : goal.seek_by_exchange-other-requires-clause-made
seek_by_exchange-other-requires-clause-made g c =
    give-misses (needs c.args.self.now) c.of-pending.result.me c.args.place.now.position c.args.request c.unpack-seen.result c.of-changing.result.value
    c.pack-old.result c.of-changing.ensures

pub returns-in_default-clause-called : goal.returns-in_default-clause-called
returns-in_default-clause-called g c = (
  c.give_on.result,
  c.yes.ensures,
  pending-called c.args.self.now c.of-pending.result c.args.place.now c.args.call
      (record c.args.place.now.position { stage = ReleaseLoad (Requested c.args.request); back = Tells })
      c.give_on.new.position c.give_on.result c.give_on.new.seat c.of-pending.ensures c.requires.starts c.give_on.ensures.ended,
)

pub returns-then-other-old-clause-called : goal.returns-then-other-old-clause-called
returns-then-other-old-clause-called g c = (
  c.give_anew.result,
  c.yes-then-other-old.ensures,
  pending-called c.args.self.now c.of-pending.result c.args.place.now c.args.call
      (record c.args.place.now.position { stage = ReleaseLoad (Requested c.args.request); back = Tells })
      c.give_anew.new.position c.give_anew.result c.give_anew.new.seat c.of-pending.ensures c.requires.starts
      c.give_anew.ensures.ended,
)

pub returns-clause-called : goal.returns-clause-called
returns-clause-called g c =
    let lowers : lowers_to (needs c.args.self.now) c.unpack-seen.result c.args.request ≡ Some c.in-Some.count = sym c.lowers.ensures ∙ c.in-Some.is in
    let hit : c.seek_by_exchange-other.result ≡ word_number count_bits c.unpack-seen.result = search rules in (
      Says true,
      refl,
      pending-called c.args.self.now c.of-pending.result c.args.place.now c.args.call
          (record c.args.place.now.position { stage = ReleaseLoad (Requested c.args.request); back = Tells })
          (record c.args.place.now.position { stage = Quiet; back = Tells }) (Says true) c.seek_by_exchange-other.new.seat c.of-pending.ensures c.requires.starts
          (give-made c.args.self.now c.of-pending.result c.args.place.now.position c.args.request c.unpack-seen.result
          c.seek_by_exchange-other.result c.of-changing.result.value c.seek_by_exchange-other.new.seat c.of-changing.ensures hit
          c.seek_by_exchange-other.ensures.found (search rules)),
    )

-- A place that takes its answer: a poll of one that has joined the waiters begins with that.
use Rattle.std.proofs.Common.{◌≡◌, true, refl}
use Rattle.saa_word_steps.specs.declared.call.WordCall.TheVariants.{Poll}
use Rattle.saa_word_steps.specs.declared.place.Next.TheVariants.{Going}
use Rattle.saa_word_steps.specs.declared.place.Place.{Place}
use Rattle.saa_word_steps.specs.declared.place.PollMode.TheVariants.{Awaits}
use Rattle.saa_word_steps.specs.declared.place.Registration.{Registration}
use Rattle.saa_word_steps.specs.declared.place.Registration.TheVariants.{Idle, AnsweredAtOnce, Queued}
use Rattle.saa_word_steps.specs.declared.place.Stage.TheVariants.{Take}
use Rattle.saa_word_steps.specs.Needs.{Needs}
use Rattle.saa_word_steps.specs.Steps.{polled_as, started}
use Rattle.saa_word_proofs.specs.Registering.{is_slot}

polled-joined : (rest : Place) (registration : Registration) → is_slot registration ≡ true
    → polled_as rest Awaits registration ≡ Going (record rest { stage = Take Awaits })
polled-joined rest Idle slot = absurd (cc)
polled-joined rest (AnsweredAtOnce value request) slot = absurd (cc)
polled-joined rest (Queued request) slot = refl

pub starts-taking : (needs : Needs) (rest : Place) → is_slot rest.registration ≡ true → started needs rest Poll ≡ Going (record rest { stage = Take Awaits })
starts-taking needs rest slot = polled-joined rest rest.registration slot

-- A call that goes straight: what its look finds, that its exchange is what comes next, and that it has ended behind that.
use Rattle.std.proofs.Common.{◌≡◌, ℕ, ◌==◌, Bool, true, false, not, ◌&&◌, ◌||◌, if◌then◌else◌, Option, Some, None, refl, sym, ap, subst, ◌∙◌, inl, inr}
use Rattle.std.proofs.lemmas.Bool.{cases_Bool}
use Rattle.saa_core_spec.proofs.Counts.{number_same}
use Rattle.saa_core_spec.specs.Values.{granted_value}
use Rattle.saa_core_words.specs.declared.word.Word.{Word}
use Rattle.saa_core_words.specs.Words.{count_bits, word_number, word_of}
use Rattle.saa_word_steps.proofs.Giving.{calm-loose}
use Rattle.saa_word_steps.specs.declared.call.Answer.TheVariants.{Bool as Says}
use Rattle.saa_word_steps.specs.declared.place.Ask.{Ask}
use Rattle.saa_word_steps.specs.declared.place.Next.{Next}
use Rattle.saa_word_steps.specs.declared.place.Next.TheVariants.{Going}
use Rattle.saa_word_steps.specs.declared.place.Place.{Place}
use Rattle.saa_word_steps.specs.declared.place.Registration.TheVariants.{AnsweredAtOnce}
use Rattle.saa_word_steps.specs.declared.place.AfterWalk.{AfterWalk}
use Rattle.saa_word_steps.specs.declared.place.AfterWalk.TheVariants.{Tells, Ends, Takes}
use Rattle.saa_word_steps.specs.declared.place.ReleaseAmount.TheVariants.{Requested}
use Rattle.saa_word_steps.specs.declared.place.Stage.TheVariants.{Quiet, AcquireLoad, AcquireExchange, BackLoad, ReleaseLoad, ReleaseExchange}
use Rattle.saa_word_steps.specs.Needs.{Needs, fits_count, left_count, forgets}
use Rattle.saa_word_steps.specs.Steps.{decided, finished, gave_nothing, given, given_to, going, granted, next_of, released, walking}
use Rattle.saa_word_steps.specs.Readings.{tried_answer}
use Rattle.saa_word_threads.specs.declared.call.Pending.{Pending}
use Rattle.saa_word_threads.specs.declared.form.Form.{Form}
use Rattle.saa_word_threads.specs.Pending.{GoesOn, HasEnded, HasFound, IsPending, Seat, needs}
use Rattle.saa_word_threads.specs.Straight.{grants_at, lowers_to, takes_flag}
use Rattle.saa_word_threads.specs.Moves.{prepares, unless_joining}

both : (one other : Bool) → one && other ≡ true → (one ≡ true) × (other ≡ true)
both true other is = (refl, is)
both false other is = absurd (cc)

not-true : (test : Bool) → not test ≡ true → test ≡ false
not-true true is = absurd (cc)
not-true false is = refl

pub same-number : (one two : ℕ) → one ≡ two → one == two ≡ true
same-number one two is = ap (λ (n : ℕ). one == n) (sym is) ∙ number_same one

-- a word that grants an ask sends it on to its exchange
decided-straight : (needs : Needs) (place : Place) (ask : Ask) (seen : Word) → grants_at needs seen ask ≡ true
    → decided needs place ask seen ≡ going place (AcquireExchange ask seen)
decided-straight needs place ask seen grants =
    let takes = both (not seen.is_poisoned && (seen.tail == 0) && fits_count needs seen.count ask.request) (not (needs.takes ask.request == 0)) grants in
    let fits = both (not seen.is_poisoned && (seen.tail == 0)) (fits_count needs seen.count ask.request) takes.0 in
    let free = both (not seen.is_poisoned) (seen.tail == 0) fits.0 in
    let calm : seen.is_poisoned ≡ false = not-true seen.is_poisoned free.0 in
    let none : seen.tail == 0 ≡ true = free.1 in
    let room : fits_count needs seen.count ask.request ≡ true = fits.1 in
    let some : needs.takes ask.request == 0 ≡ false = not-true (needs.takes ask.request == 0) takes.1 in
    rw (calm, none, room, some) refl

-- Asks

-- a look at a word that grants an ask goes on to the exchange
pub ask-goes : (needs : Needs) (me : ℕ) (rest : Place) (ask : Ask) (found : ℕ) (seen : Word) → seen ≡ word_of count_bits found → grants_at needs seen ask ≡ true
    → next_of needs me (record rest { stage = AcquireLoad ask }) (AcquireLoad ask) found ≡ Going (record rest { stage = AcquireExchange ask seen })
ask-goes needs me rest ask found seen sees grants =
    decided-straight needs (record rest { stage = AcquireLoad ask }) ask (word_of count_bits found)
    (subst (λ (s : Word). grants_at needs s ask ≡ true) sees grants)
    ∙ ap (λ (s : Word). Going (record rest { stage = AcquireExchange ask s })) (sym sees)

-- so its exchange is what comes next
pub asks-exchange : (form : Form) (pending : Pending) (rest : Place) (ask : Ask) (found : ℕ) (seen : Word) (at : Place) (seat : Seat)
    → at ≡ record rest { stage = AcquireLoad ask } → seen ≡ word_of count_bits found → grants_at (needs form) seen ask ≡ true
    → HasFound form pending at found seat → IsPending form pending (record rest { stage = AcquireExchange ask seen }) seat
asks-exchange form pending rest ask found seen at seat is sees grants has =
    subst (λ (n : Next). GoesOn form pending (record rest { stage = AcquireLoad ask }) (unless_joining (record rest { stage = AcquireLoad ask }) n) seat)
    (ask-goes (needs form) pending.me rest ask found seen sees grants)
    (subst (λ (p : Place). HasFound form pending p found seat) is has)

-- an exchange that is made never joins
granted-not-joining : (needs : Needs) (place : Place) (ask : Ask) → prepares (granted needs place ask) ≡ false
granted-not-joining needs place ask =
    elim (cases_Bool ask.joins) [
      | inl joins ↦ rw joins refl
      | inr tries ↦ rw tries refl
    ]

exchanged-not-joining : (needs : Needs) (me : ℕ) (place : Place) (ask : Ask) (seen : Word) (found : ℕ) → found == word_number count_bits seen ≡ true
    → prepares (next_of needs me place (AcquireExchange ask seen) found) ≡ false
exchanged-not-joining needs me place ask seen found hit = rw hit (granted-not-joining needs place ask)

missed : (needs : Needs) (me : ℕ) (place : Place) (ask : Ask) (seen : Word) (found : ℕ)
    → prepares (next_of needs me place (AcquireExchange ask seen) found) ≡ true → found == word_number count_bits seen ≡ false
missed needs me place ask seen found joins =
    elim (cases_Bool (found == word_number count_bits seen)) [
      | inl hit ↦ (let wrong : true ≡ false = sym joins ∙ exchanged-not-joining needs me place ask seen found hit in absurd (cc))
      | inr miss ↦ miss
    ]

pub ask-misses : (needs : Needs) (me : ℕ) (rest : Place) (ask : Ask) (seen : Word) (one : Place) (old : ℕ) → one ≡ record rest { stage = AcquireExchange ask seen }
    → old ≡ word_number count_bits seen → (found : ℕ) → prepares (next_of needs me one one.stage found) ≡ true → found == old ≡ false
ask-misses needs me rest ask seen one old is writes found joins =
    ap (λ (n : ℕ). found == n) writes
    ∙ missed needs me (record rest { stage = AcquireExchange ask seen }) ask seen found
    (sym (ap (λ (p : Place). prepares (next_of needs me p p.stage found)) is) ∙ joins)

module _ (form : Form) (pending : Pending) (rest : Place) (ask : Ask) (seen : Word) (other : ℕ) (at : Place) (seat : Seat)
    (is : at ≡ record rest { stage = AcquireExchange ask seen }) (hit : other ≡ word_number count_bits seen) (has : HasFound form pending at other seat) where
  ask-made : GoesOn form pending (record rest { stage = AcquireExchange ask seen })
      (unless_joining (record rest { stage = AcquireExchange ask seen }) (granted (needs form) (record rest { stage = AcquireExchange ask seen }) ask)) seat
  ask-made =
      let test : other == word_number count_bits seen ≡ true = same-number other (word_number count_bits seen) hit in
      let found : HasFound form pending (record rest { stage = AcquireExchange ask seen }) other seat = subst (λ (p : Place). HasFound form pending p other seat) is has in
      rw test at found

  -- it is granted as it asked: a registration is kept, and a try leaves the place as it was
  pub ask-registered : ask.joins ≡ true
      → HasEnded form pending (record rest { registration = AnsweredAtOnce granted_value ask.request; stage = Quiet }) (Says true) seat
  ask-registered joins = rw joins at ask-made

  pub ask-tried : ask.joins ≡ false → HasEnded form pending (record rest { stage = Quiet }) (tried_answer (needs form) true) seat
  ask-tried tries = rw tries at ask-made

-- Releases

-- a word of which something is left
pub left-some : (needs : Needs) (seen : Word) (request left : ℕ) → lowers_to needs seen request ≡ Some left
    → (seen.is_poisoned ≡ false) × (left_count needs seen.count request ≡ Some left)
left-some needs seen request left lowers =
    elim (cases_Bool seen.is_poisoned) [
      | inl poisoned ↦ (let wrong = rw poisoned at lowers in absurd (cc))
      | inr calm ↦ (calm, rw calm at lowers)
    ]

-- a look at it goes on to the exchange
given-straight : (needs : Needs) (place : Place) (request left : ℕ) (seen : Word) → lowers_to needs seen request ≡ Some left
    → given needs place (Requested request) seen ≡ going place (ReleaseExchange (Requested request) seen)
given-straight needs place request left seen lowers =
    let is = left-some needs seen request left lowers in
    let calm : seen.is_poisoned ≡ false = is.0 in
    let some : left_count needs seen.count request ≡ Some left = is.1 in
    let loose : forgets needs seen.is_poisoned ≡ false = calm-loose needs seen.is_poisoned calm in
    rw (loose, some) refl

pub give-goes : (needs : Needs) (me : ℕ) (rest : Place) (request left found : ℕ) (seen : Word) → seen ≡ word_of count_bits found
    → lowers_to needs seen request ≡ Some left
    → next_of needs me (record rest { stage = ReleaseLoad (Requested request); back = Tells }) (ReleaseLoad (Requested request)) found
    ≡ Going (record rest { stage = ReleaseExchange (Requested request) seen; back = Tells })
give-goes needs me rest request left found seen sees lowers =
    given-straight needs (record rest { stage = ReleaseLoad (Requested request); back = Tells }) request left (word_of count_bits found)
    (subst (λ (s : Word). lowers_to needs s request ≡ Some left) sees lowers)
    ∙ ap (λ (s : Word). Going (record rest { stage = ReleaseExchange (Requested request) s; back = Tells })) (sym sees)

-- so its exchange is what comes next
pub gives-exchange : (form : Form) (pending : Pending) (rest : Place) (request left found : ℕ) (seen : Word) (at : Place) (seat : Seat)
    → at ≡ record rest { stage = ReleaseLoad (Requested request); back = Tells } → seen ≡ word_of count_bits found → lowers_to (needs form) seen request ≡ Some left
    → HasFound form pending at found seat → IsPending form pending (record rest { stage = ReleaseExchange (Requested request) seen; back = Tells }) seat
gives-exchange form pending rest request left found seen at seat is sees lowers has =
    subst (λ (n : Next). GoesOn form pending (record rest { stage = ReleaseLoad (Requested request); back = Tells })
    (unless_joining (record rest { stage = ReleaseLoad (Requested request); back = Tells }) n) seat)
    (give-goes (needs form) pending.me rest request left found seen sees lowers)
    (subst (λ (p : Place). HasFound form pending p found seat) is has)

-- a release never joins
either-not-joining : (test : Bool) (one other : Next) → prepares one ≡ false → prepares other ≡ false → prepares (if test then one else other) ≡ false
either-not-joining true one other o t = o
either-not-joining false one other o t = t

gave-not-joining : (place : Place) (back : AfterWalk) → prepares (gave_nothing place back) ≡ false
gave-not-joining place Tells = refl
gave-not-joining place Ends = refl
gave-not-joining place (Takes request) = refl

given-to-not-joining : (place : Place) (request : ℕ) (seen : Word) (left : Option ℕ) → prepares (given_to place (Requested request) seen left) ≡ false
given-to-not-joining place request seen None = gave-not-joining place place.back
given-to-not-joining place request seen (Some left) = refl

given-not-joining : (needs : Needs) (place : Place) (request : ℕ) (seen : Word) → prepares (given needs place (Requested request) seen) ≡ false
given-not-joining needs place request seen =
    either-not-joining (forgets needs seen.is_poisoned) (gave_nothing place place.back) (given_to place (Requested request) seen (left_count needs seen.count request))
    (gave-not-joining place place.back) (given-to-not-joining place request seen (left_count needs seen.count request))

finished-not-joining : (place : Place) (back : AfterWalk) → prepares (finished place back) ≡ false
finished-not-joining place Tells = refl
finished-not-joining place Ends = refl
finished-not-joining place (Takes request) = refl

release-not-joining : (needs : Needs) (me : ℕ) (place : Place) (request : ℕ) (seen : Word) (found : ℕ)
    → prepares (next_of needs me place (ReleaseExchange (Requested request) seen) found) ≡ false
release-not-joining needs me place request seen found =
    either-not-joining (found == word_number count_bits seen) _ _
    (either-not-joining (not (seen.tail == 0) && not seen.is_flagged) _ _ refl (finished-not-joining place place.back))
    (given-not-joining needs place request (word_of count_bits found))

pub give-misses : (needs : Needs) (me : ℕ) (rest : Place) (request : ℕ) (seen : Word) (one : Place) (old : ℕ)
    → one ≡ record rest { stage = ReleaseExchange (Requested request) seen; back = Tells }
    → (found : ℕ) → prepares (next_of needs me one one.stage found) ≡ true → found == old ≡ false
give-misses needs me rest request seen one old is found joins =
    let place : Place = record rest { stage = ReleaseExchange (Requested request) seen; back = Tells } in
    let wrong : true ≡ false =
    sym joins ∙ ap (λ (p : Place). prepares (next_of needs me p p.stage found)) is ∙ release-not-joining needs me place request seen found in absurd (cc)

-- the word that it writes
pub lowered : (needs : Needs) (seen : Word) (request left : ℕ) → lowers_to needs seen request ≡ Some left
    → record { count = left; is_flagged = seen.is_flagged || not (seen.tail == 0); is_poisoned = false; tail = seen.tail } ≡ released needs seen (Requested request)
lowered needs seen request left lowers =
    let is = left-some needs seen request left lowers in
    let calm : seen.is_poisoned ≡ false = is.0 in
    let some : left_count needs seen.count request ≡ Some left = is.1 in
    rw (calm, some) refl

-- it is given back: where there are waiters that nobody else settles, its place goes on to walk the queue, and else it is done
module _ (form : Form) (pending : Pending) (rest : Place) (request : ℕ) (seen : Word) (other : ℕ) (at : Place) (seat : Seat)
    (is : at ≡ record rest { stage = ReleaseExchange (Requested request) seen; back = Tells }) (hit : other ≡ word_number count_bits seen)
    (has : HasFound form pending at other seat) where
  gave : GoesOn form pending (record rest { stage = ReleaseExchange (Requested request) seen; back = Tells })
      (unless_joining (record rest { stage = ReleaseExchange (Requested request) seen; back = Tells })
      (if takes_flag seen
      then walking (record rest { stage = ReleaseExchange (Requested request) seen; back = Tells }) (released (needs form) seen (Requested request))
      else finished (record rest { stage = ReleaseExchange (Requested request) seen; back = Tells }) Tells)) seat
  gave =
      let test : other == word_number count_bits seen ≡ true = same-number other (word_number count_bits seen) hit in
      let found : HasFound form pending (record rest { stage = ReleaseExchange (Requested request) seen; back = Tells }) other seat =
      subst (λ (p : Place). HasFound form pending p other seat) is has in
      rw test at found

  pub give-made : takes_flag seen ≡ false → HasEnded form pending (record rest { stage = Quiet; back = Tells }) (Says true) seat
  give-made rests = rw rests at gave

  pub give-settles : takes_flag seen ≡ true → (first : Word) → first ≡ released (needs form) seen (Requested request)
      → IsPending form pending (record rest { stage = BackLoad first first.tail 0; back = Tells }) seat
  give-settles holds first same = rw same (rw holds at gave)

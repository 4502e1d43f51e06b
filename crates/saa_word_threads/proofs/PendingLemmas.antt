-- A pending call: how it begins, and how it goes on behind a step of its place.
use Rattle.std.proofs.Common.{◌≡◌, ℕ, ◌<◌, ◌+◌, refl, sym, subst, ◌∙◌, inl}
use Rattle.saa_word_steps.specs.declared.call.Answer.{Answer}
use Rattle.saa_word_steps.specs.declared.call.WordCall.{WordCall}
use Rattle.saa_word_steps.specs.declared.operation.Operation.{Operation}
use Rattle.saa_word_steps.specs.declared.place.Next.{Next}
use Rattle.saa_word_steps.specs.declared.place.Next.TheVariants.{Going}
use Rattle.saa_word_steps.specs.declared.place.Place.{Place as Position}
use Rattle.saa_word_steps.specs.declared.rules.Rules.{Rules}
use Rattle.saa_word_steps.specs.Needs.{needs_of}
use Rattle.saa_word_steps.specs.Steps.{next_of, operation_of, started, word_at}
use Rattle.saa_word_threads.specs.declared.call.Pending.{Pending}
use Rattle.saa_word_threads.specs.declared.form.Form.{Form}
use Rattle.saa_word_threads.specs.declared.place.Place.{Place}
use Rattle.saa_word_threads.specs.declared.table.About.{About}
use Rattle.saa_word_threads.specs.Called.{IsCalled}
use Rattle.saa_word_threads.specs.Pending.{BeganAt, GoesOn, HasEnded, HasFound, HasLooked, HasMoved, IsAt, IsPending, IsSameSeat, MakesNext, Seat, Takes, about_of, needs, withheld}
use Rattle.saa_word_threads.specs.Moves.{IsLookOnly, MovesOrStays, unless_joining}
use Rattle.saa_word_threads.proofs.Calling.{going-called, in-call-first, in-call-stays, look-stays, stays-same}

-- it begins at a place
pub pending-begins : (form : Form) (pending : Pending) (place : Place) (call : WordCall) (first : Position) → BeganAt pending call place
    → IsAt form place.seat → place.number < form.places → Takes form call → started (needs form) place.position call ≡ Going first
    → IsPending form pending first place.seat
pending-begins form pending place call first began at here takes is =
    let me : pending.me ≡ place.number = began.0 in
    let called : pending.call.value ≡ call = began.1 in
    let was : pending.registered.value ≡ place.position.registration = began.2 in
    let seat : pending.seat.value ≡ place.seat = began.3 in (
      (at, place.numbered.0, place.numbered.1 ∙ sym me, rw me here),
      rw (me, called, was, seat)
          (in-call-first (needs form) form.places place.number call place.position first place.seat.me.0 here place.since takes is),
    )

-- it has ended, and so it was made there
pub pending-called : (form : Form) (pending : Pending) (place : Place) (call : WordCall) (first behind : Position) (answer : Answer) (seat : Seat)
    → BeganAt pending call place → started (needs form) place.position call ≡ Going first → HasEnded form pending behind answer seat
    → IsCalled (needs form) (withheld form) call place.position.registration answer behind.registration place.seat.me.0 seat.me.0
pending-called form pending place call first behind answer seat began is ended =
    let called : pending.call.value ≡ call = began.1 in
    let was : pending.registered.value ≡ place.position.registration = began.2 in
    let from : pending.seat.value ≡ place.seat = began.3 in
    going-called (needs form) (withheld form) call place.position place.since.0 first answer behind.registration place.seat.me.0 seat.me.0 is
    (rw (called, was, from) at ended.1.0)

-- what a look tells of a place by other names
pub looks-so : (form : Form) (about : About) (picked place : Position) (one me found : ℕ) (old new : Seat) → about ≡ about_of form → picked ≡ place → one ≡ me
    → IsLookOnly (needs_of about.rules) about.withheld about.places one picked found old.me.0 new.me.0 → HasLooked form me place found old new
looks-so form about picked place one me found old new is_about is_place is_me looked =
    subst (λ (r : Rules). IsLookOnly (needs_of r) (withheld form) form.places me place found old.me.0 new.me.0) form.key.0
    (subst (λ (n : ℕ). IsLookOnly (needs_of form.table.shared.key.rules) (withheld form) n me place found old.me.0 new.me.0) form.key.1
    (subst (λ (a : About). IsLookOnly (needs_of a.rules) a.withheld a.places me place found old.me.0 new.me.0) is_about
    (subst (λ (p : Position). IsLookOnly (needs_of about.rules) about.withheld about.places me p found old.me.0 new.me.0) is_place
    (subst (λ (n : ℕ). IsLookOnly (needs_of about.rules) about.withheld about.places n picked found old.me.0 new.me.0) is_me looked))))

module _ (form : Form) (pending : Pending) (place : Position) (old : Seat) (m : IsPending form pending place old) where
  -- the operation of its place's stage is what comes next
  pub pending-makes : (operation : Operation) → operation ≡ operation_of (needs form) form.places pending.me place.stage
      → MakesNext form pending.me place operation old
  pending-makes operation makes = record {
    role = m.0.1;
    number = m.0.2;
    here = inl m.0.3;
    begins = m.1.begins;
    makes = makes;
    inside = subst (λ (o : Operation). word_at o < form.places + form.places + 1) (sym makes) m.1.ready.1;
  }

  module _ (new : Seat) (same : IsSameSeat old new) where
    -- its place has made a step, or nothing has happened
    pub pending-stays : (next : Next) → MovesOrStays (needs form) (withheld form) form.places pending.me place next old.me.0 new.me.0
        → GoesOn form pending place next new
    pending-stays next moved =
        let at = stays-same (needs form) (withheld form) form.places pending.me place next old.me.0 new.me.0 moved in (
          (same.0 ∙ m.0.0, at.0 ∙ m.0.1, at.1 ∙ m.0.2, m.0.3),
          in-call-stays (needs form) (withheld form) form.places pending.me pending.call.value pending.registered.value pending.seat.value.me.0 place old.me.0
              new.me.0 next m.1 m.0.2 moved,
        )

    pub pending-moves : (found : ℕ) → HasMoved form pending.me place found old new
        → GoesOn form pending place (next_of (needs form) pending.me place place.stage found) new
    pending-moves found moved = pending-stays (next_of (needs form) pending.me place place.stage found) (inl (found, refl, moved))

    pub pending-looks : (found : ℕ) → HasLooked form pending.me place found old new → HasFound form pending place found new
    pending-looks found looked =
        pending-stays (unless_joining place (next_of (needs form) pending.me place place.stage found))
        (look-stays (needs form) (withheld form) form.places pending.me place found old.me.0 new.me.0 looked)

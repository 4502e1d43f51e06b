-- A walk at a stretch: each of its steps is that of the stage that a call under way is at.
use Rattle.std.proofs.Common.{◌≡◌, ℕ, ◌+◌, ◌<◌, true, refl, sym, ap, subst, ◌∙◌, inl, inr}
use Rattle.saa_word_steps.specs.declared.call.Answer.TheVariants.{Bool as Says}
use Rattle.saa_word_steps.specs.declared.operation.Operation.{Operation}
use Rattle.saa_word_steps.specs.declared.place.AfterWalk.{AfterWalk}
use Rattle.saa_word_steps.specs.declared.place.AfterWalk.TheVariants.{Tells, Ends, Takes}
use Rattle.saa_word_steps.specs.declared.place.Next.{Next}
use Rattle.saa_word_steps.specs.declared.place.Next.TheVariants.{Going, Waits, Done}
use Rattle.saa_word_steps.specs.declared.place.Place.{Place as Position}
use Rattle.saa_word_steps.specs.declared.place.Registration.{Registration}
use Rattle.saa_word_steps.specs.declared.place.Registration.TheVariants.{Idle}
use Rattle.saa_word_steps.specs.declared.place.Stage.TheVariants.{Quiet}
use Rattle.saa_word_steps.specs.Steps.{finished, next_of, operation_of, word_at}
use Rattle.saa_word_proofs.specs.Promises.{idle_place}
use Rattle.saa_word_proofs.specs.Refinement.{IsVisiting}
use Rattle.saa_word_proofs.specs.StepRefinement.{place_after}
use Rattle.saa_word_threads.specs.declared.call.Pending.{Pending}
use Rattle.saa_word_threads.specs.declared.form.Form.{Form}
use Rattle.saa_word_threads.specs.declared.table.View.{View}
use Rattle.saa_word_threads.specs.declared.visit.Visit.{Visit}
use Rattle.saa_word_threads.specs.Called.{HasEvents, InCall, InCallNext}
use Rattle.saa_word_threads.specs.Pending.{GoesOn, HasMoved, IsPending, IsVisitPending, IsVisitorSeat, MakesNext, Seat, VisitGoesOn, needs, withheld}
use Rattle.saa_word_threads.specs.Beginnings.{Beginning}
use Rattle.saa_word_threads.specs.Walks.{GoesOnUnderway, IsUnderway, NextUnderway}
use Rattle.saa_word_threads.proofs.Calling.{in-call-stays}
use Rattle.saa_word_threads.proofs.Visiting.{same-next, same-operation}

module _ (form : Form) (begun : Beginning) (place : Position) (old : Seat) (visits : IsVisiting place.stage) (m : IsUnderway form begun place old) where
  -- the operation of its stage is what comes next
  pub underway-makes : (operation : Operation) → operation ≡ operation_of (needs form) form.places 0 place.stage
      → MakesNext form old.me.0.number place operation old
  underway-makes operation makes =
      let is : operation ≡ operation_of (needs form) form.places old.me.0.number place.stage =
      makes ∙ same-operation (needs form) form.places 0 old.me.0.number place.stage visits.1 in
      record {
        role = m.1;
        number = refl;
        here = inr visits;
        begins = m.2.begins;
        makes = is;
        inside = subst (λ (o : Operation). word_at o < form.places + form.places + 1) (sym is) m.2.ready.1;
      }

  by-next : (w : View) (next : Next) → InCallNext (needs form) (withheld form) form.places w.number begun.call begun.was begun.view place w next
      → w.position ≡ place_after place next → NextUnderway (needs form) (withheld form) form.places begun w next
  by-next w (Going next) goes position = (goes, position)
  by-next w Waits goes position = tt
  by-next w (Done behind answer) goes position = (goes.0, goes.1, position)

  -- it has made a step
  pub underway-moves : (new : Seat) → new.table_id ≡ old.table_id → (found : ℕ) → HasMoved form old.me.0.number place found old new
      → GoesOnUnderway form begun (next_of (needs form) 0 place place.stage found) new
  underway-moves new same found moved =
      let next : Next = next_of (needs form) old.me.0.number place place.stage found in
      let goes : InCallNext (needs form) (withheld form) form.places new.me.0.number begun.call begun.was begun.view place new.me.0 next =
      subst (λ (n : ℕ). InCallNext (needs form) (withheld form) form.places n begun.call begun.was begun.view place new.me.0 next) (sym moved.extends.number)
      (in-call-stays (needs form) (withheld form) form.places old.me.0.number begun.call begun.was begun.view place old.me.0 new.me.0 next m.2 refl
      (inl (found, refl, moved))) in (
        same ∙ m.0,
        moved.extends.role ∙ m.1,
        subst (λ (n : Next). NextUnderway (needs form) (withheld form) form.places begun new.me.0 n)
            (same-next (needs form) old.me.0.number 0 place place.stage found visits.1) (by-next new.me.0 next goes moved.position),
      )

-- A call of a place

abbrev pub begun_at : Pending → Beginning
begun_at pending = record { call = pending.call.value; was = pending.registered.value; view = pending.seat.value.me.0 }

module _ (form : Form) (pending : Pending) (place : Position) (old : Seat) (m : IsPending form pending place old) where
  pub pending-underway : IsUnderway form (begun_at pending) place old
  pending-underway = (
    m.0.0,
    m.0.1,
    subst (λ (n : ℕ). InCall (needs form) form.places n pending.call.value pending.registered.value pending.seat.value.me.0 place old.me.0) (sym m.0.2) m.1,
  )

  module _ (new : Seat) where
    numbered : InCall (needs form) form.places new.me.0.number pending.call.value pending.registered.value pending.seat.value.me.0 place new.me.0
        → new.me.0.number ≡ pending.me
    numbered in_call = in_call.extends.number ∙ sym m.1.extends.number ∙ m.0.2

    -- it is done with the queue
    finishes : (back : AfterWalk) → GoesOnUnderway form (begun_at pending) (finished place back) new → GoesOn form pending place (finished place back) new
    finishes Tells goes =
        let number : new.me.0.number ≡ pending.me = goes.2.0.extends.number ∙ sym m.1.extends.number ∙ m.0.2 in
        ((goes.0, goes.1, number, m.0.3), (goes.2.0, goes.2.1))
    finishes Ends goes =
        let number : new.me.0.number ≡ pending.me = goes.2.0.extends.number ∙ sym m.1.extends.number ∙ m.0.2 in
        ((goes.0, goes.1, number, m.0.3), (goes.2.0, goes.2.1))
    finishes (Takes request) goes =
        let number : new.me.0.number ≡ pending.me = goes.2.0.extends.number ∙ sym m.1.extends.number ∙ m.0.2 in (
          (goes.0, goes.1, number, m.0.3),
          subst (λ (n : ℕ). InCallNext (needs form) (withheld form) form.places n pending.call.value pending.registered.value pending.seat.value.me.0 place new.me.0
              (finished place (Takes request))) number goes.2.0,
        )

    pub pending-finishes : GoesOnUnderway form (begun_at pending) (finished place place.back) new → GoesOn form pending place (finished place place.back) new
    pending-finishes = finishes place.back

-- A call of a visitor

abbrev pub begun_by : Visit → Beginning
begun_by visit = record { call = visit.call.value; was = idle_place.registration; view = visit.seat.value.me.0 }

module _ (form : Form) (visit : Visit) (place : Position) (old : Seat) (at : IsVisitorSeat form old) (m : IsVisitPending form visit place old) where
  pub visit-underway : IsUnderway form (begun_by visit) place old
  visit-underway = (at.0, at.1, m.in_call)

  -- it is done with the queue, and rests
  pub visit-finishes : (new : Seat) → GoesOnUnderway form (begun_by visit) (finished place place.back) new
      → VisitGoesOn form visit place (finished place place.back) new
  visit-finishes new goes =
      let idle : place.registration ≡ Idle = ap (λ (p : Position). p.registration) m.rested in
      let tells : place.back ≡ Tells = ap (λ (p : Position). p.back) m.rested in
      let quiet : record place { stage = Quiet } ≡ idle_place = ap (λ (p : Position). record p { stage = Quiet }) m.rested in
      subst (λ (b : AfterWalk). GoesOnUnderway form (begun_by visit) (finished place b) new → VisitGoesOn form visit place (finished place b) new) (sym tells)
      (λ done. (
        subst (λ (r : Registration). HasEvents (needs form) (withheld form) visit.call.value Idle (Says true) r visit.seat.value.me.0 new.me.0) idle done.2.0,
        done.2.2 ∙ quiet,
      )) goes

-- Each step of a place keeps the table's rule, and tells the place what it does.
use Rattle.std.proofs.Common.{◌≡◌, ◌≢◌, ℕ, ◌+◌, ◌^◌, ◌<◌, ◌≤◌, ◌⊎◌, ◌==◌, ◌&&◌, ◌||◌, Bool, true, false, List, [], ◌∷◌, ◌++◌, length, refl, sym, ap, subst, ◌∙◌, arith, inl, inr, append-nil, append_assoc}
use Rattle.std.proofs.Math.ListN.{set, length-set}
use Rattle.std.proofs.lemmas.List.{get_or-set_same, get_or-set_other, set-get_or}
use Rattle.std.proofs.lemmas.Bool.{cases_Bool}
use mathlib.Core.Option.{some, some-injective}
use lib.ListN.{get_elem?}
use Rattle.atomic_table.specs.Table.{Allows, Me, State, keeps}
use Rattle.atomic_table.proofs.Lists.{at_set, set_again, set_here, set_else}
use Rattle.saa_core_spec.proofs.Counts.{number_same, same_number}
use Rattle.saa_core_words.specs.Words.{count_bits}
use Rattle.saa_word_steps.specs.declared.event.Event.{Event}
use Rattle.saa_word_steps.specs.declared.operation.Operation.{Operation}
use Rattle.saa_word_steps.specs.declared.place.Next.TheVariants.{Going}
use Rattle.saa_word_steps.specs.declared.place.Place.{Place}
use Rattle.saa_word_steps.specs.declared.place.Stage.{Stage}
use Rattle.saa_word_steps.specs.Needs.{AreNeeds, Needs, needs_of}
use Rattle.saa_word_steps.specs.AbstractState.{AbstractState, IsRun, HasShownAll, opening}
use Rattle.saa_word_steps.specs.Steps.{next_of, operation_of, word_at, written_by}
use Rattle.saa_word_proofs.specs.History.{BeginsWith, has_part, named, never_waits, of_place, part_of, seen_by}
use Rattle.saa_word_proofs.specs.Refinement.{IsVisiting, Invariant, joins_line}
use Rattle.saa_word_proofs.specs.Promises.{idle_place}
use Rattle.saa_word_proofs.specs.Rows.{updated}
use Rattle.saa_word_proofs.specs.CallStages.{IsReadyNext}
use Rattle.saa_word_proofs.specs.StepRefinement.{StepRefines, named_at, place_after, row_after}
use Rattle.saa_word_proofs.proofs.RefinementLemmas.Lists.{all-same, updated-at}
use Rattle.saa_word_proofs.proofs.RefinementLemmas.Steps.{step-anyone, visiting}
use Rattle.saa_word_proofs.proofs.SoloLemmas.Alone.{rules-lawful}
use Rattle.saa_word_threads.specs.declared.table.About.{About}
use Rattle.saa_word_threads.specs.declared.table.Departed.{Departed}
use Rattle.saa_word_threads.specs.declared.table.Role.{Role}
use Rattle.saa_word_threads.specs.declared.table.Role.TheVariants.{Dealer, Acting, Receipt, Spent}
use Rattle.saa_word_threads.specs.declared.table.View.{View}
use Rattle.saa_word_threads.specs.Kept.{AreGathered, BeginsWithEach, Fits, FitsAs, IsFree, Kept, departed, is_unnumbered}
use Rattle.saa_word_threads.specs.Cells.{cell_of, row_of}
use Rattle.saa_word_steps.specs.declared.rules.Rules.{Rules}
use Rattle.saa_word_threads.specs.Moves.{Begins, Extends, IsLegal, IsNext, IsLookOnly, Moves, is_showing, prepares}
use Rattle.saa_word_threads.proofs.CellLemmas.{cell-inside, cells-apart}
use Rattle.saa_word_threads.proofs.Beginning.{begins-refines, updated-twice}
use Rattle.saa_word_threads.proofs.Gathering.{found-within, gathered-stay, place-fits, spent-apart}
use Rattle.saa_word_threads.proofs.Growing.{has-append, has-other, never-append, never-same, part-append, part-none, part-own, run-append, seen-apart, seen-on, seen-part, visitor-names}
use Rattle.saa_word_threads.proofs.Unshown.{has-shown-all, seen-legal}

-- Lists

-- words with one of them written are a function with one value changed
pub set-updated : (places : ℕ) (cells : List ℕ) (at number : ℕ) → cell_of places at < length cells
    → row_of places (set cells (cell_of places at) number) ≡ updated (row_of places cells) at number
set-updated places cells at number inside =
    all-same (row_of places (set cells (cell_of places at) number)) (updated (row_of places cells) at number) (λ other.
    elim (cases_Bool (other == at)) [
      | inl same ↦
          let is : other ≡ at = same_number other at same in
          rw same (ap (λ (n : ℕ). row_of places (set cells (cell_of places at) number) n) is ∙ get_or-set_same cells (cell_of places at) number 0 inside)
      | inr apart ↦
          let differs : other ≢ at = λ is. let wrong : other == at ≡ true = ap (λ (n : ℕ). other == n) (sym is) ∙ number_same other in absurd (cc) in
          rw apart (get_or-set_other cells (cell_of places at) (cell_of places other) number 0 (cells-apart places other at differs))
    ])

-- numbers that differ
differs : (one other : ℕ) → one ≢ other → one == other ≡ false
differs one other apart =
    elim (cases_Bool (one == other)) [
      | inl same ↦ absurd (apart (same_number one other same))
      | inr not ↦ not
    ]

-- a step, where the mover stands so

pub record Stepped (needs : Needs) (places : ℕ) (row : ℕ → ℕ) (standing : ℕ → Place) (state : AbstractState) (me : ℕ) (place : Place) : Type 0 where
  pub events : List Event
  pub last : AbstractState
  pub run : IsRun needs state (of_place me events) last
  pub names : named events ≡ named_at needs place.stage (row (word_at (operation_of needs places me place.stage)))
  pub inside : word_at (operation_of needs places me place.stage) < places + places + 1
  pub refines : Invariant needs places (row_after row (operation_of needs places me place.stage))
      (updated standing me (place_after place (next_of needs me place place.stage (row (word_at (operation_of needs places me place.stage))))))
      last

module _ (needs : Needs) (lawful : AreNeeds needs) (wide : needs.top < 2 ^ count_bits) (places : ℕ) (bounded : places < 65536) (me : ℕ) where
  stepped : (row : ℕ → ℕ) (standing : ℕ → Place) (state : AbstractState) → Invariant needs places row standing state
      → Stepped needs places row standing state me (standing me)
  stepped row standing state s =
      let made : StepRefines needs places row standing state me (standing me).stage =
      step-anyone needs lawful wide places row standing state me bounded s (standing me).stage refl in
      record { events = made.events; last = made.last; run = made.run; names = made.names; inside = made.inside; refines = made.invariant }

  pub stepped-at : (row : ℕ → ℕ) (standing : ℕ → Place) (state : AbstractState) (place : Place) → standing me ≡ place
      → Invariant needs places row standing state → Stepped needs places row standing state me place
  stepped-at row standing state place at s =
      subst (λ (p : Place). Stepped needs places row standing state me p) at (stepped row standing state s)

  pub ready-at : (row : ℕ → ℕ) (standing : ℕ → Place) (state : AbstractState) (place : Place) → standing me ≡ place
      → Invariant needs places row standing state → IsReadyNext needs places me (Going place)
  ready-at row standing state place at s =
      subst (λ (p : Place). IsReadyNext needs places me (Going p)) at (s.stages.ranged me, (stepped row standing state s).inside)

  -- a visitor is at a stage of a visitor
  pub visiting-at : (row : ℕ → ℕ) (standing : ℕ → Place) (state : AbstractState) (place : Place) → standing me ≡ place
      → Invariant needs places row standing state → places ≤ me → IsVisiting place.stage
  visiting-at row standing state place at s beyond =
      subst (λ (p : Place). IsVisiting p.stage) at (visiting needs places row standing state me s beyond)

-- a place that makes its step next, or a visitor, goes on to no word of its own where it has none
never-joins : (places me : ℕ) (stage : Stage) → (me < places) ⊎ IsVisiting stage → places ≤ me → joins_line stage ≡ false
never-joins places me stage (inl here) out = absurd (omega (arith, out, here))
never-joins places me stage (inr visits) out = visits.0

-- Views and the history

-- a longer history begins with what a shorter one began with
begins-more : (history more seen : List (ℕ × Event)) → BeginsWith history seen → BeginsWith (history ++ more) seen
begins-more history more seen begins = (begins.0 ++ more, ap (λ (l : List (ℕ × Event)). l ++ more) begins.1 ∙ append_assoc seen begins.0 more)

begins-each : (history more : List (ℕ × Event)) (gathered : List Departed) → BeginsWithEach history gathered → BeginsWithEach (history ++ more) gathered
begins-each history more [] each = tt
begins-each history more (gone ∷ rest) each = (begins-more history more gone.seen each.0, each.1, begins-each history more rest each.2)

module _ (history : List (ℕ × Event)) (standing : ℕ → Place) (places dealt seat : ℕ) (v : View) where
  -- a view of another number fits a history with events of the mover behind it
  apart-fits : (me : ℕ) (events : List Event) (place : Place) → me ≢ v.number → FitsAs history standing places dealt seat v Acting
      → FitsAs (history ++ of_place me events) (updated standing me place) places dealt seat v Acting
  apart-fits me events place other fits =
      let none : has_part v.number (of_place me events) ≡ false = has-other v.number me events (differs me v.number other) in
      let test : v.number == me ≡ false = differs v.number me (λ e. other (sym e)) in (
        fits.0,
        rw test fits.1,
        fits.2 ∙ sym (seen-apart v.number history (of_place me events) none),
        fits.3 ∙ sym (part-append v.number history (of_place me events)
            ∙ ap (λ (l : List Event). part_of v.number history ++ l) (part-none v.number (of_place me events) none)
            ∙ append-nil (part_of v.number history)),
      )

  other-fits : (me : ℕ) (role : Role) (events : List Event) (place : Place) → (is_unnumbered role ≡ false → me ≢ v.number)
      → FitsAs history standing places dealt seat v role → FitsAs (history ++ of_place me events) (updated standing me place) places dealt seat v role
  other-fits me Dealer events place apart fits = fits
  other-fits me Receipt events place apart fits = begins-each history (of_place me events) (departed v ∷ v.gathered) fits
  other-fits me Acting events place apart fits = apart-fits me events place (apart refl) fits
  other-fits me Spent events place apart fits = apart-fits me events place (apart refl) fits

-- the mover's view behind its step
abbrev pub moved_view : View → List (ℕ × Event) → List Event → Place → View
moved_view v history events place = record {
  role = v.role;
  number = v.number;
  position = place;
  seen = seen_by v.number (history ++ of_place v.number events);
  part = v.part ++ events;
  gathered = v.gathered;
}

module _ (history : List (ℕ × Event)) (standing : ℕ → Place) (places dealt seat : ℕ) (v : View) (events : List Event) (place : Place) (acts : v.role ≡ Acting)
    (fits : FitsAs history standing places dealt seat v Acting) where
  moved-fits : Fits (history ++ of_place v.number events) (updated standing v.number place) places dealt seat (moved_view v history events place)
  moved-fits =
      subst (λ (r : Role). FitsAs (history ++ of_place v.number events) (updated standing v.number place) places dealt seat (moved_view v history events place) r)
      (sym acts) (
        fits.0,
        updated-at standing v.number place,
        refl,
        ap (λ (l : List Event). l ++ events) fits.3
            ∙ sym (part-append v.number history (of_place v.number events)
            ∙ ap (λ (l : List Event). part_of v.number history ++ l) (part-own v.number events)),
      )

  moved-extends : Extends v events (moved_view v history events place)
  moved-extends =
      let on = seen-on v.number history events in
      record {
        role = refl;
        number = refl;
        part = refl;
        more = on.more;
        seen = on.seen ∙ ap (λ (l : List (ℕ × Event)). l ++ on.more) (sym fits.2);
        own = on.own;
        latest = on.latest;
      }

-- what a word is written as that it was, and a view that stays, change nothing
unchanged : (about : About) (s : State (Unit {0}) View) (kept : Kept about s) (at number seat : ℕ) (v : View) → number ≡ row_of about.places s.words at
    → get_elem? s.views seat ≡ some v → Kept about (record { words = set s.words (cell_of about.places at) number; homes = s.homes; views = set s.views seat v })
unchanged about s kept at number seat v same is =
    subst (λ (words : List ℕ). Kept about (record { words = words; homes = s.homes; views = set s.views seat v }))
    (sym (ap (λ (n : ℕ). set s.words (cell_of about.places at) n) same ∙ set-get_or s.words (cell_of about.places at) 0))
    (subst (λ (views : List View). Kept about (record { words = s.words; homes = s.homes; views = views })) (sym (set_again s.views seat v is)) kept)

-- The step

module _ (about : About) (bounded : about.places < 65536) (wide : (needs_of about.rules).top < 2 ^ count_bits) where
  module _ (s : State (Unit {0}) View) (kept : Kept about s) (seat : ℕ) (v : View) (at : get_elem? s.views seat ≡ some v)
      (place : Place) (acts : v.role ≡ Acting) (here : (v.number < about.places) ⊎ IsVisiting place.stage)
      (begins : Begins (needs_of about.rules) v.position place) where
    fits : FitsAs kept.history kept.standing about.places kept.dealt seat v Acting
    fits = place-fits kept.history kept.standing about.places kept.dealt seat v acts (kept.each seat v at)

    begun : Invariant (needs_of about.rules) about.places (row_of about.places s.words) (updated kept.standing v.number place) kept.last
    begun =
        begins-refines (needs_of about.rules) wide about.places (row_of about.places s.words) kept.last v.number kept.standing v.position place fits.1
        (never-joins about.places v.number place.stage here) begins kept.refines

    pub made : Stepped (needs_of about.rules) about.places (row_of about.places s.words) (updated kept.standing v.number place) kept.last v.number place
    made =
        stepped-at (needs_of about.rules) (rules-lawful about.rules) wide about.places bounded v.number (row_of about.places s.words)
        (updated kept.standing v.number place) kept.last place (updated-at kept.standing v.number place) begun

    abbrev operation : Operation
    operation = operation_of (needs_of about.rules) about.places v.number place.stage

    abbrev found : ℕ
    found = row_of about.places s.words (word_at operation)

    abbrev behind : Place
    behind = place_after place (next_of (needs_of about.rules) v.number place place.stage found)

    abbrev view : View
    view = moved_view v kept.history made.events behind

    abbrev standing : ℕ → Place
    standing = updated kept.standing v.number behind

    abbrev after : State (Unit {0}) View
    after = record { words = set s.words (cell_of about.places (word_at operation)) (written_by operation found); homes = s.homes; views = set s.views seat view }

    refined : Invariant (needs_of about.rules) about.places (row_of about.places after.words) standing made.last
    refined =
        subst (λ (r : ℕ → ℕ). Invariant (needs_of about.rules) about.places r standing made.last)
        (sym (set-updated about.places s.words (word_at operation) (written_by operation found)
        (subst (λ (n : ℕ). cell_of about.places (word_at operation) < n) (sym kept.wide) (cell-inside about.places (word_at operation) made.inside))))
        (subst (λ (f : ℕ → Place). Invariant (needs_of about.rules) about.places (row_after (row_of about.places s.words) operation) f made.last)
        (updated-twice kept.standing v.number place behind) made.refines)

    plays : is_unnumbered v.role ≡ false
    plays = ap is_unnumbered acts

    -- no other seat has the mover's number
    other-number : (other : ℕ) (w : View) → other ≢ seat → get_elem? s.views other ≡ some w → is_unnumbered w.role ≡ false → v.number ≢ w.number
    other-number other w differ is other_plays same = differ (sym (kept.apart seat other v w at is plays other_plays same))

    -- each view fits the longer history
    each-after : (other : ℕ) (w : View) → ((other ≡ seat) × (view ≡ w)) ⊎ ((other ≢ seat) × (get_elem? s.views other ≡ some w))
        → Fits (kept.history ++ of_place v.number made.events) standing about.places kept.dealt other w
    each-after other w (inl own) =
        subst (λ (n : ℕ). Fits (kept.history ++ of_place v.number made.events) standing about.places kept.dealt n w) (sym own.0)
        (subst (λ (u : View). Fits (kept.history ++ of_place v.number made.events) standing about.places kept.dealt seat u) own.1
        (moved-fits kept.history kept.standing about.places kept.dealt seat v made.events behind acts fits))
    each-after other w (inr differ) =
        other-fits kept.history kept.standing about.places kept.dealt other w v.number w.role made.events behind
        (other-number other w differ.0 differ.1) (kept.each other w differ.1)

    -- no two have one number still
    apart-after : (one other : ℕ) (u w : View) → ((one ≡ seat) × (view ≡ u)) ⊎ ((one ≢ seat) × (get_elem? s.views one ≡ some u))
        → ((other ≡ seat) × (view ≡ w)) ⊎ ((other ≢ seat) × (get_elem? s.views other ≡ some w)) → is_unnumbered u.role ≡ false → is_unnumbered w.role ≡ false
        → u.number ≡ w.number → one ≡ other
    apart-after one other u w (inl own) (inl also) acting_one acting_other same = own.0 ∙ sym also.0
    apart-after one other u w (inl own) (inr differ) acting_one acting_other same =
        absurd (other-number other w differ.0 differ.1 acting_other (ap (λ (x : View). x.number) own.1 ∙ same))
    apart-after one other u w (inr differ) (inl own) acting_one acting_other same =
        absurd (other-number one u differ.0 differ.1 acting_one (ap (λ (x : View). x.number) own.1 ∙ sym same))
    apart-after one other u w (inr differ) (inr also) acting_one acting_other same = kept.apart one other u w differ.1 also.1 acting_one acting_other same

    -- what was gathered stays where it is: the mover's view wasn't
    stays : (other : ℕ) (w : View) → get_elem? s.views other ≡ some w → w.role ≡ Spent → get_elem? after.views other ≡ some w
    stays other w is gone =
        set_else s.views seat other view (spent-apart s.views seat other v w at (λ r. let wrong : Acting ≡ Spent = sym acts ∙ r in absurd (cc)) is gone) ∙ is

    gathers-after : (other : ℕ) (w : View) → ((other ≡ seat) × (view ≡ w)) ⊎ ((other ≢ seat) × (get_elem? s.views other ≡ some w))
        → is_unnumbered w.role ≡ false → AreGathered after.views w.gathered
    gathers-after other w (inl own) has =
        subst (λ (u : View). AreGathered after.views u.gathered) own.1 (gathered-stay s.views after.views stays v.gathered (kept.gathers seat v at plays))
    gathers-after other w (inr apart) has = gathered-stay s.views after.views stays w.gathered (kept.gathers other w apart.1 has)

    within : seat < length s.views
    within = found-within s.views seat v at

    -- who was free before the step
    free-before : (number : ℕ) → IsFree (set s.views seat view) number → IsFree s.views number
    free-before number free other w is acting same =
        elim (cases_Bool (other == seat)) [
          | inl here_too ↦
              let place_is : other ≡ seat = same_number other seat here_too in
              let view_is : v ≡ w = some-injective v w (sym at ∙ ap (get_elem? s.views) (sym place_is) ∙ is) in
              free seat view (set_here s.views seat view within) plays (ap (λ (x : View). x.number) view_is ∙ same)
          | inr differ ↦
              let apart : other ≢ seat = λ e. (let wrong : other == seat ≡ true = ap (λ (n : ℕ). other == n) (sym e) ∙ number_same other in absurd (cc)) in
              free other w (set_else s.views seat other view apart ∙ is) acting same
        ]

    -- a number that nobody has is idle still, and has no event
    fresh-after : (number : ℕ) → IsFree (set s.views seat view) number
        → (has_part number (kept.history ++ of_place v.number made.events) ≡ false) × (standing number ≡ idle_place)
    fresh-after number free =
        let mine : v.number ≢ number = free seat view (set_here s.views seat view within) plays in
        let none = kept.fresh number (free-before number free) in
        let test : number == v.number ≡ false = differs number v.number (λ e. mine (sym e)) in (
          has-append number kept.history (of_place v.number made.events)
              ∙ ap (λ (b : Bool). b || has_part number (of_place v.number made.events)) none.0
              ∙ has-other number v.number made.events (differs v.number number mine),
          rw test none.1,
        )

    -- a visitor makes no waiter's event
    visitor-never : about.places ≤ v.number → never_waits made.events ≡ true
    visitor-never beyond =
        never-same made.events (named_at (needs_of about.rules) place.stage found) made.names
        (visitor-names (needs_of about.rules) place.stage found
        (visiting-at (needs_of about.rules) (rules-lawful about.rules) wide about.places bounded v.number (row_of about.places s.words)
        (updated kept.standing v.number place) kept.last place (updated-at kept.standing v.number place) begun beyond))

    visits-after : (number : ℕ) → about.places ≤ number → never_waits (part_of number (kept.history ++ of_place v.number made.events)) ≡ true
    visits-after number beyond =
        ap never_waits (part-append number kept.history (of_place v.number made.events))
        ∙ never-append (part_of number kept.history) (part_of number (of_place v.number made.events))
        ∙ ap (λ (b : Bool). b && never_waits (part_of number (of_place v.number made.events))) (kept.visits number beyond)
        ∙ elim (cases_Bool (v.number == number)) [
          | inl mine ↦
              let is : v.number ≡ number = same_number v.number number mine in
              subst (λ (n : ℕ). never_waits (part_of n (of_place v.number made.events)) ≡ true) is
              (ap never_waits (part-own v.number made.events) ∙ visitor-never (subst (λ (n : ℕ). about.places ≤ n) (sym is) beyond))
          | inr another ↦ ap never_waits (part-none number (of_place v.number made.events) (has-other number v.number made.events another))
        ]

    kept-after : Kept about after
    kept-after = record {
      history = kept.history ++ of_place v.number made.events;
      last = made.last;
      standing = standing;
      dealt = kept.dealt;
      run =
          run-append (needs_of about.rules) (opening about.withheld) kept.last made.last kept.history (of_place v.number made.events) kept.run made.run;
      wide = length-set s.words (cell_of about.places (word_at operation)) (written_by operation found) ∙ kept.wide;
      bounded = kept.bounded;
      refines = refined;
      each = λ other w is. each-after other w (at_set s.views seat other view w is);
      gathers = λ other w is has. gathers-after other w (at_set s.views seat other view w is) has;
      apart = λ one other u w is also. apart-after one other u w (at_set s.views seat one view u is) (at_set s.views seat other view w also);
      fresh = fresh-after;
      visits = visits-after;
    }

    seen : (legal : IsLegal (needs_of about.rules) about.withheld (seen_by v.number (kept.history ++ of_place v.number made.events)))
        × (HasShownAll v.number made.last → HasShownAll v.number legal.0)
    seen =
        seen-legal (needs_of about.rules) about.withheld v.number (kept.history ++ of_place v.number made.events) made.last
        (run-append (needs_of about.rules) (opening about.withheld) kept.last made.last kept.history (of_place v.number made.events) kept.run made.run)

    moved-after : Moves (needs_of about.rules) about.withheld about.places place (next_of (needs_of about.rules) v.number place place.stage found) found v view
    moved-after = record {
      position = refl;
      events = made.events;
      names = made.names;
      extends = moved-extends kept.history kept.standing about.places kept.dealt seat v made.events behind acts fits;
      legal = seen.0;
      shown = λ never. seen.1
          (has-shown-all (needs_of about.rules) about.places (row_of about.places after.words) standing made.last refined v.number
          (ap (λ (p : Place). is_showing p.stage) (updated-at kept.standing v.number behind) ∙ never));
      own =
          seen-part v.number (kept.history ++ of_place v.number made.events)
          ∙ part-append v.number kept.history (of_place v.number made.events)
          ∙ ap (λ (l : List Event). part_of v.number kept.history ++ l) (part-own v.number made.events)
          ∙ sym (ap (λ (l : List Event). l ++ made.events) fits.3);
      ready =
          ready-at (needs_of about.rules) (rules-lawful about.rules) wide about.places bounded v.number (row_of about.places after.words) standing made.last
          behind (updated-at kept.standing v.number behind) refined;
      visits =
          visiting-at (needs_of about.rules) (rules-lawful about.rules) wide about.places bounded v.number (row_of about.places after.words) standing made.last
          behind (updated-at kept.standing v.number behind) refined;
    }

  -- Whatever the table is when a place makes the operation of its stage, that keeps the rule, and tells the place what it does
  pub moves : (slots id : ℕ) (me : Me (Unit {0}) View) (place : Place) → me.0.role ≡ Acting
      → (me.0.number < about.places) ⊎ IsVisiting place.stage → Begins (needs_of about.rules) me.0.position place
      → Allows (Kept about) slots id me (cell_of about.places (word_at (operation_of (needs_of about.rules) about.places me.0.number place.stage)))
      (written_by (operation_of (needs_of about.rules) about.places me.0.number place.stage))
      (λ number next. Moves (needs_of about.rules) about.withheld about.places place (next_of (needs_of about.rules) me.0.number place place.stage number) number me.0 next.0 × (next.1 ≡ me.1))
  moves slots id me place acts here begins = λ s kept sized at small. (
    view s kept id me.0 at place acts here begins,
    keeps,
    tt,
    kept-after s kept id me.0 at place acts here begins,
    (moved-after s kept id me.0 at place acts here begins, refl),
  )

  -- The same of a look: where the place would go on to join, nothing has happened, if then its operation writes what it found
  pub seeks : (slots id : ℕ) (me : Me (Unit {0}) View) (place : Place) → me.0.role ≡ Acting
      → (me.0.number < about.places) ⊎ IsVisiting place.stage → Begins (needs_of about.rules) me.0.position place
      → ((found : ℕ) → prepares (next_of (needs_of about.rules) me.0.number place place.stage found) ≡ true
      → written_by (operation_of (needs_of about.rules) about.places me.0.number place.stage) found ≡ found)
      → Allows (Kept about) slots id me (cell_of about.places (word_at (operation_of (needs_of about.rules) about.places me.0.number place.stage)))
      (written_by (operation_of (needs_of about.rules) about.places me.0.number place.stage))
      (λ number next. IsLookOnly (needs_of about.rules) about.withheld about.places me.0.number place number me.0 next.0 × (next.1 ≡ me.1))
  seeks slots id me place acts here begins same = λ s kept sized at small.
      let op : Operation = operation_of (needs_of about.rules) about.places me.0.number place.stage in
      let number : ℕ = row_of about.places s.words (word_at op) in
      elim (cases_Bool (prepares (next_of (needs_of about.rules) me.0.number place place.stage number))) [
        | inl joins ↦ (
          me.0,
          keeps,
          tt,
          unchanged about s kept (word_at op) (written_by op number) id me.0 (same number joins) at,
          (rw joins refl, refl),
        )
        | inr goes ↦ (
          view s kept id me.0 at place acts here begins,
          keeps,
          tt,
          kept-after s kept id me.0 at place acts here begins,
          (rw goes (moved-after s kept id me.0 at place acts here begins), refl),
        )
      ]

-- The same of an operation that a call names, with the table, the place and the stage that the call picked
pub allowed : (about : About) (rules : Rules) (places : ℕ) (picked : About) (place : Place) (number slots id : ℕ) (me : Me (Unit {0}) View) (operation : Operation)
    → about.rules ≡ rules → about.places ≡ places → places < 65536 → (needs_of rules).top < 2 ^ count_bits → picked ≡ about
    → IsNext (needs_of rules) places number place operation me.0
    → Allows (Kept about) slots id me (cell_of places (word_at operation)) (written_by operation)
    (λ found next. Moves (needs_of picked.rules) picked.withheld picked.places place (next_of (needs_of picked.rules) number place place.stage found) found me.0 next.0 × (next.1 ≡ me.1))
allowed about rules places picked place number slots id me operation rules_are places_are bounded wide picks is =
    subst (λ (n : ℕ). Allows (Kept about) slots id me (cell_of n (word_at operation)) (written_by operation)
    (λ found next. Moves (needs_of picked.rules) picked.withheld picked.places place (next_of (needs_of picked.rules) number place place.stage found) found me.0 next.0 × (next.1 ≡ me.1))) places_are
    (subst (λ (a : About). Allows (Kept about) slots id me (cell_of about.places (word_at operation)) (written_by operation)
    (λ found next. Moves (needs_of a.rules) a.withheld a.places place (next_of (needs_of a.rules) number place place.stage found) found me.0 next.0 × (next.1 ≡ me.1))) (sym picks)
    (subst (λ (o : Operation). Allows (Kept about) slots id me (cell_of about.places (word_at o)) (written_by o)
    (λ found next. Moves (needs_of about.rules) about.withheld about.places place (next_of (needs_of about.rules) number place place.stage found) found me.0 next.0 × (next.1 ≡ me.1))) made_is
    (subst (λ (n : ℕ). Allows (Kept about) slots id me
    (cell_of about.places (word_at (operation_of (needs_of about.rules) about.places n place.stage))) (written_by (operation_of (needs_of about.rules) about.places n place.stage))
    (λ found next. Moves (needs_of about.rules) about.withheld about.places place (next_of (needs_of about.rules) n place place.stage found) found me.0 next.0 × (next.1 ≡ me.1))) is.number
    (moves about (subst (λ n. n < 65536) (sym places_are) bounded) (subst (λ (r : Rules). (needs_of r).top < 2 ^ count_bits) (sym rules_are) wide) slots id me place
    is.role here (subst (λ (r : Rules). Begins (needs_of r) me.0.position place) (sym rules_are) is.begins)))))
  where
    here : (me.0.number < about.places) ⊎ IsVisiting place.stage
    here =
        elim is.here [
          | inl within ↦ inl (let n = is.number in omega (arith, places_are, within))
          | inr visits ↦ inr visits
        ]

    made_is : operation_of (needs_of about.rules) about.places number place.stage ≡ operation
    made_is =
        ap (λ (r : Rules). operation_of (needs_of r) about.places number place.stage) rules_are
        ∙ ap (λ (n : ℕ). operation_of (needs_of rules) n number place.stage) places_are ∙ sym is.makes

-- The same of a look
pub allowed-look : (about : About) (rules : Rules) (places : ℕ) (picked : About) (picked_place place : Place) (picked_number number slots id : ℕ)
    (me : Me (Unit {0}) View) (made : Operation) → about.rules ≡ rules → about.places ≡ places → places < 65536 → (needs_of rules).top < 2 ^ count_bits
    → (picked ≡ about) × (picked_place ≡ place) × (picked_number ≡ number) → IsNext (needs_of rules) places number place made me.0
    → ((found : ℕ) → prepares (next_of (needs_of rules) number place place.stage found) ≡ true → written_by made found ≡ found)
    → Allows (Kept about) slots id me (cell_of places (word_at made)) (written_by made)
    (λ found next. IsLookOnly (needs_of picked.rules) picked.withheld picked.places picked_number picked_place found me.0 next.0 × (next.1 ≡ me.1))
allowed-look about rules places picked picked_place place picked_number number slots id me made rules_are places_are bounded wide picks is same =
    subst (λ (n : ℕ). Allows (Kept about) slots id me (cell_of n (word_at made)) (written_by made)
    (λ found next. IsLookOnly (needs_of picked.rules) picked.withheld picked.places picked_number picked_place found me.0 next.0 × (next.1 ≡ me.1))) places_are
    (subst (λ (a : About). Allows (Kept about) slots id me (cell_of about.places (word_at made)) (written_by made)
    (λ found next. IsLookOnly (needs_of a.rules) a.withheld a.places picked_number picked_place found me.0 next.0 × (next.1 ≡ me.1))) (sym picks.0)
    (subst (λ (p : Place). Allows (Kept about) slots id me (cell_of about.places (word_at made)) (written_by made)
    (λ found next. IsLookOnly (needs_of about.rules) about.withheld about.places picked_number p found me.0 next.0 × (next.1 ≡ me.1))) (sym picks.1)
    (subst (λ (n : ℕ). Allows (Kept about) slots id me (cell_of about.places (word_at made)) (written_by made)
    (λ found next. IsLookOnly (needs_of about.rules) about.withheld about.places n place found me.0 next.0 × (next.1 ≡ me.1))) (sym picks.2)
    (subst (λ (o : Operation). Allows (Kept about) slots id me (cell_of about.places (word_at o)) (written_by o)
    (λ found next. IsLookOnly (needs_of about.rules) about.withheld about.places number place found me.0 next.0 × (next.1 ≡ me.1))) made_is
    (subst (λ (n : ℕ). Allows (Kept about) slots id me
    (cell_of about.places (word_at (operation_of (needs_of about.rules) about.places n place.stage))) (written_by (operation_of (needs_of about.rules) about.places n place.stage))
    (λ found next. IsLookOnly (needs_of about.rules) about.withheld about.places n place found me.0 next.0 × (next.1 ≡ me.1))) is.number
    (seeks about (subst (λ n. n < 65536) (sym places_are) bounded) (subst (λ (r : Rules). (needs_of r).top < 2 ^ count_bits) (sym rules_are) wide) slots id me place
    is.role here (subst (λ (r : Rules). Begins (needs_of r) me.0.position place) (sym rules_are) is.begins) same_here))))))
  where
    here : (me.0.number < about.places) ⊎ IsVisiting place.stage
    here =
        elim is.here [
          | inl within ↦ inl (let n = is.number in omega (arith, places_are, within))
          | inr visits ↦ inr visits
        ]

    made_is : operation_of (needs_of about.rules) about.places number place.stage ≡ made
    made_is =
        ap (λ (r : Rules). operation_of (needs_of r) about.places number place.stage) rules_are
        ∙ ap (λ (n : ℕ). operation_of (needs_of rules) n number place.stage) places_are ∙ sym is.makes

    same_here : (found : ℕ) → prepares (next_of (needs_of about.rules) me.0.number place place.stage found) ≡ true
        → written_by (operation_of (needs_of about.rules) about.places me.0.number place.stage) found ≡ found
    same_here =
        subst (λ (n : ℕ). (found : ℕ) → prepares (next_of (needs_of about.rules) n place place.stage found) ≡ true
        → written_by (operation_of (needs_of about.rules) about.places n place.stage) found ≡ found) (sym is.number)
        (subst (λ (o : Operation). (found : ℕ) → prepares (next_of (needs_of about.rules) number place place.stage found) ≡ true → written_by o found ≡ found)
        (sym made_is)
        (subst (λ (r : Rules). (found : ℕ) → prepares (next_of (needs_of r) number place place.stage found) ≡ true → written_by made found ≡ found)
        (sym rules_are) same))

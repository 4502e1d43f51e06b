-- How a table begins, how one place more is dealt, and what it is at the end.
use Rattle.std.proofs.Common.{◌≡◌, ◌≢◌, ℕ, zero, suc, ◌+◌, ◌^◌, ◌<◌, ◌≤◌, ◌⊎◌, ◌==◌, Bool, true, false, List, [], ◌∷◌, ◌++◌, length, replicate, get_or, refl, sym, ap, subst, ◌∙◌, arith, inl, inr}
use Rattle.std.proofs.Common.{Option as Maybe, Some, None, nat_lt, if◌then◌else◌}
use Rattle.std.proofs.Math.ListN.{set, length-set}
use Rattle.std.proofs.lemmas.List.{get_or-set_same, get_or-set_other, length-replicate}
use Rattle.std.proofs.lemmas.Bool.{cases_Bool}
use Rattle.std.proofs.lemmas.Bool.Decides.{nat_tests}
use mathlib.Core.Option.{some, some-injective, some-ne-none}
use lib.ListN.{get_elem?}
use Rattle.atomic_table.specs.Table.{Enters, Splits, State, opening as table_opening}
use Rattle.atomic_table.specs.Seated.{TableId}
use Rattle.atomic_table.proofs.Lists.{at_longer, at_set, set_again, set_else}
use Rattle.saa_core_words.specs.Words.{count_bits}
use Rattle.saa_word_steps.specs.declared.event.Event.{Event}
use Rattle.saa_word_steps.specs.declared.place.Place.{Place as Position}
use Rattle.saa_word_steps.specs.AbstractState.{opening}
use Rattle.saa_word_steps.specs.Needs.{needs_of}
use Rattle.saa_word_proofs.specs.History.{BeginsWith, LeadsTo, part_of}
use Rattle.saa_word_proofs.specs.Promises.{WordsShow, idle_place, opening_row}
use Rattle.saa_word_proofs.specs.Refinement.{Invariant}
use Rattle.saa_word_proofs.proofs.RefinementLemmas.Lists.{all-same}
use Rattle.saa_word_proofs.proofs.RefinementLemmas.Promises.{opens, says-so}
use Rattle.saa_word_proofs.proofs.RefinementLemmas.Seen.{begins-seen}
use Rattle.saa_word_threads.specs.declared.place.Place.{Place}
use Rattle.saa_word_threads.specs.declared.table.About.{About}
use Rattle.saa_word_threads.specs.declared.table.Role.{Role}
use Rattle.saa_word_threads.specs.declared.table.Role.TheVariants.{Dealer, Acting, Receipt, Spent}
use Rattle.saa_word_threads.specs.declared.table.View.{View}
use Rattle.saa_word_threads.specs.Dealt.{AreNew, IsLedTo, IsNew}
use Rattle.saa_word_threads.specs.Kept.{AreGathered, BeginsWithEach, Fits, FitsAs, IsFree, IsNumber, Kept, dealer, departed, fresh_view, is_unnumbered, receipt_of}
use Rattle.saa_word_threads.specs.Cells.{cell_of, cells_of, row_of}
use Rattle.saa_word_threads.specs.Visits.{IsEntering}
use Rattle.saa_word_threads.proofs.CellLemmas.{cells-apart}
use Rattle.saa_word_threads.proofs.Gathering.{found-within, gathered-stay, place-fits}
use Rattle.saa_word_threads.proofs.Growing.{none-seen, part-none, seen-part}

-- The beginning

replicated : (count value index : ℕ) → value ≡ 0 → get_or (replicate count value) index 0 ≡ 0
replicated zero value index is = refl
replicated (suc count) value zero is = is
replicated (suc count) value (suc index) is = replicated count value index is

opening-words : (count places index : ℕ) → opening_row count index ≡ row_of places (set (replicate (cells_of places) 0) 0 count) index
opening-words count places zero =
    let within : 0 < length {A = ℕ} (replicate (cells_of places) 0) =
    (let long : length {A = ℕ} (replicate (cells_of places) 0) ≡ cells_of places = length-replicate (cells_of places) 0 in omega arith) in
    sym (get_or-set_same (replicate (cells_of places) 0) 0 count 0 within)
opening-words count places (suc index) =
    let test : suc index == 0 ≡ false = grind (arith, nat_tests) in
    let apart : cell_of places (suc index) ≢ 0 = cells-apart places (suc index) 0 (λ e. omega arith) in
    let reads : get_or (set (replicate (cells_of places) 0) 0 count) (cell_of places (suc index)) 0 ≡ 0 =
    get_or-set_other (replicate (cells_of places) 0) 0 (cell_of places (suc index)) count 0 apart
    ∙ replicated (cells_of places) 0 (cell_of places (suc index)) refl in
    ap (λ (b : Bool). if b then count else 0) test ∙ sym reads

module _ (about : About) (wide : (needs_of about.rules).top < 2 ^ count_bits) (count : about.withheld ≤ (needs_of about.rules).top) where
  first-fits : (seat : ℕ) (v : View) → get_elem? (dealer 0 ∷ []) seat ≡ some v → Fits [] (λ place. idle_place) about.places 0 seat v
  first-fits zero v is = subst (Fits [] (λ place. idle_place) about.places 0 0) (some-injective (dealer 0) v is) (refl, refl)
  first-fits (suc seat) v is = absurd (some-ne-none v (sym is))

  first-alone : (seat : ℕ) (v : View) → get_elem? (dealer 0 ∷ []) seat ≡ some v → seat ≡ 0
  first-alone zero v is = refl
  first-alone (suc seat) v is = absurd (some-ne-none v (sym is))

  first-gathers : (seat : ℕ) (v : View) → get_elem? (dealer 0 ∷ []) seat ≡ some v → is_unnumbered v.role ≡ false → AreGathered (dealer 0 ∷ []) v.gathered
  first-gathers zero v is plays = subst (λ (u : View). AreGathered (dealer 0 ∷ []) u.gathered) (some-injective (dealer 0) v is) tt
  first-gathers (suc seat) v is plays = absurd (some-ne-none v (sym is))

  pub kept-opening : (words : List ℕ) → words ≡ set (replicate (cells_of about.places) 0) 0 about.withheld
      → Kept about (table_opening words [] (dealer 0))
  kept-opening words is = record {
    history = [];
    last = opening about.withheld;
    standing = λ place. idle_place;
    dealt = 0;
    run = refl;
    bounded = omega arith;
    wide =
        ap (λ (l : List ℕ). length l) is ∙ length-set (replicate (cells_of about.places) 0) 0 about.withheld
        ∙ length-replicate (cells_of about.places) 0;
    refines =
        subst (λ (l : List ℕ). Invariant (needs_of about.rules) about.places (row_of about.places l) (λ place. idle_place) (opening about.withheld)) (sym is)
        (subst (λ (r : ℕ → ℕ). Invariant (needs_of about.rules) about.places r (λ place. idle_place) (opening about.withheld))
        (all-same (opening_row about.withheld) (row_of about.places (set (replicate (cells_of about.places) 0) 0 about.withheld))
        (opening-words about.withheld about.places))
        (opens (needs_of about.rules) wide about.places about.withheld count));
    each = first-fits;
    gathers = first-gathers;
    apart = λ one other v w is also acting_one acting_other same. first-alone one v is ∙ sym (first-alone other w also);
    fresh = λ number free. (refl, refl);
    visits = λ number beyond. refl;
  }

-- One place more

found-snoc : (views : List View) (w v : View) (seat : ℕ) → get_elem? (views ++ w ∷ []) seat ≡ some v
    → (get_elem? views seat ≡ some v) ⊎ ((seat ≡ length views) × (w ≡ v))
found-snoc [] w v zero is = inr (refl, some-injective w v is)
found-snoc [] w v (suc seat) is = absurd (some-ne-none v (sym is))
found-snoc (u ∷ views) w v zero is = inl is
found-snoc (u ∷ views) w v (suc seat) is =
    elim (found-snoc views w v seat is) [
      | inl there ↦ inl there
      | inr last ↦ inr (ap suc last.0, last.1)
    ]

-- a seat that was there stays where it was
found-front : (views : List View) (w v : View) (seat : ℕ) → get_elem? views seat ≡ some v → get_elem? (views ++ w ∷ []) seat ≡ some v
found-front views w v seat is = at_longer views (w ∷ []) seat v is

-- where more places are dealt, a place's number is one still
number-more : (places dealt more seat number : ℕ) → dealt ≤ more → IsNumber places dealt seat number → IsNumber places more seat number
number-more places dealt more seat number grows (inl below) = inl (omega (arith, grows, below))
number-more places dealt more seat number grows (inr is) = inr is

more-fits : (history : List (ℕ × Event)) (standing : ℕ → Position) (places dealt more seat : ℕ) (w : View) (role : Role) → dealt ≤ more
    → is_unnumbered role ≡ false → FitsAs history standing places dealt seat w role → FitsAs history standing places more seat w role
more-fits history standing places dealt more seat w Dealer grows plays fits = absurd (cc)
more-fits history standing places dealt more seat w Receipt grows plays fits = absurd (cc)
more-fits history standing places dealt more seat w Acting grows plays fits =
    (number-more places dealt more seat w.number grows fits.0, fits.1, fits.2, fits.3)
more-fits history standing places dealt more seat w Spent grows plays fits =
    (number-more places dealt more seat w.number grows fits.0, fits.1, fits.2, fits.3)

numbered : (history : List (ℕ × Event)) (standing : ℕ → Position) (places dealt seat : ℕ) (w : View) (role : Role) → is_unnumbered role ≡ false
    → FitsAs history standing places dealt seat w role → IsNumber places dealt seat w.number
numbered history standing places dealt seat w Dealer plays fits = absurd (cc)
numbered history standing places dealt seat w Receipt plays fits = absurd (cc)
numbered history standing places dealt seat w Acting plays fits = fits.0
numbered history standing places dealt seat w Spent plays fits = fits.0

-- a number that is not yet dealt is nobody's, and so is that of the next seat
number-free : (places dealt seat one : ℕ) → dealt < places → IsNumber places dealt seat one → one ≢ dealt
number-free places dealt seat one room (inl below) same = omega (arith, below, same)
number-free places dealt seat one room (inr is) same = omega (arith, is, same, room)

seat-free : (places dealt seats seat one : ℕ) → dealt ≤ places → seat < seats → IsNumber places dealt seat one → one ≢ places + seats
seat-free places dealt seats seat one bounded within (inl below) same = omega (arith, below, same, bounded)
seat-free places dealt seats seat one bounded within (inr is) same = omega (arith, is, same, within)

-- The views with one more behind them, of a number that nobody had: those before it are as they were, but for the dealer's
module _ (about : About) (s : State (Unit {0}) View) (kept : Kept about s) (views : List View) (dealt number : ℕ) (grows : kept.dealt ≤ dealt)
    (bounded : dealt ≤ about.places) (free : IsFree s.views number) (is_number : IsNumber about.places dealt (length s.views) number)
    (long : length views ≡ length s.views)
    (same : (seat : ℕ) (w : View) → get_elem? views seat ≡ some w → is_unnumbered w.role ≡ false → get_elem? s.views seat ≡ some w)
    (back : (seat : ℕ) (w : View) → get_elem? s.views seat ≡ some w → is_unnumbered w.role ≡ false → get_elem? views seat ≡ some w)
    (deals : (seat : ℕ) (w : View) → get_elem? views seat ≡ some w → is_unnumbered w.role ≡ true
    → Fits kept.history kept.standing about.places dealt seat w) where
  abbrev all : List View
  all = views ++ fresh_view number ∷ []

  fresh_view-fits : Fits kept.history kept.standing about.places dealt (length s.views) (fresh_view number)
  fresh_view-fits =
      let none = kept.fresh number free in
      (is_number, none.1, sym (none-seen number kept.history none.0), sym (part-none number kept.history none.0))

  all-fits : (seat : ℕ) (w : View) → (get_elem? views seat ≡ some w) ⊎ ((seat ≡ length views) × (fresh_view number ≡ w))
      → Fits kept.history kept.standing about.places dealt seat w
  all-fits seat w (inl there) =
      elim (cases_Bool (is_unnumbered w.role)) [
        | inl dealing ↦ deals seat w there dealing
        | inr plays ↦
            more-fits kept.history kept.standing about.places kept.dealt dealt seat w w.role grows plays (kept.each seat w (same seat w there plays))
      ]
  all-fits seat w (inr last) =
      subst (Fits kept.history kept.standing about.places dealt seat) last.1
      (subst (λ (n : ℕ). Fits kept.history kept.standing about.places dealt n (fresh_view number)) (sym (last.0 ∙ long)) fresh_view-fits)

  stays : (seat : ℕ) (w : View) → get_elem? s.views seat ≡ some w → w.role ≡ Spent → get_elem? all seat ≡ some w
  stays seat w is gone = found-front views (fresh_view number) w seat (back seat w is (ap is_unnumbered gone))

  all-gathers : (seat : ℕ) (w : View) → (get_elem? views seat ≡ some w) ⊎ ((seat ≡ length views) × (fresh_view number ≡ w))
      → is_unnumbered w.role ≡ false → AreGathered all w.gathered
  all-gathers seat w (inl there) plays = gathered-stay s.views all stays w.gathered (kept.gathers seat w (same seat w there plays) plays)
  all-gathers seat w (inr last) plays = subst (λ (u : View). AreGathered all u.gathered) last.1 tt

  all-apart : (one other : ℕ) (v w : View) → (get_elem? views one ≡ some v) ⊎ ((one ≡ length views) × (fresh_view number ≡ v))
      → (get_elem? views other ≡ some w) ⊎ ((other ≡ length views) × (fresh_view number ≡ w)) → is_unnumbered v.role ≡ false → is_unnumbered w.role ≡ false
      → v.number ≡ w.number → one ≡ other
  all-apart one other v w (inl there) (inl also) plays also_plays is =
      kept.apart one other v w (same one v there plays) (same other w also also_plays) plays also_plays is
  all-apart one other v w (inl there) (inr last) plays also_plays is =
      absurd (free one v (same one v there plays) plays (is ∙ ap (λ (u : View). u.number) (sym last.1)))
  all-apart one other v w (inr last) (inl there) plays also_plays is =
      absurd (free other w (same other w there also_plays) also_plays (sym is ∙ ap (λ (u : View). u.number) (sym last.1)))
  all-apart one other v w (inr last) (inr also) plays also_plays is = last.0 ∙ sym also.0

  pub one-more : Kept about (record { words = s.words; homes = s.homes; views = all })
  one-more = record {
    history = kept.history;
    last = kept.last;
    standing = kept.standing;
    dealt = dealt;
    run = kept.run;
    wide = kept.wide;
    bounded = bounded;
    refines = kept.refines;
    each = λ seat w is. all-fits seat w (found-snoc views (fresh_view number) w seat is);
    gathers = λ seat w is plays. all-gathers seat w (found-snoc views (fresh_view number) w seat is) plays;
    apart = λ one other v w is also. all-apart one other v w (found-snoc views (fresh_view number) v one is) (found-snoc views (fresh_view number) w other also);
    fresh = λ other none. kept.fresh other (λ seat w is plays. none seat w (found-front views (fresh_view number) w seat (back seat w is plays)) plays);
    visits = kept.visits;
  }

-- One place more

module _ (about : About) (number : ℕ) (room : number < about.places) (s : State (Unit {0}) View) (kept : Kept about s) (id : ℕ)
    (at : get_elem? s.views id ≡ some (dealer number)) where
  first : (id ≡ 0) × (number ≡ kept.dealt)
  first = kept.each id (dealer number) at

  undealt : IsFree s.views number
  undealt seat w is plays equal =
      number-free about.places kept.dealt seat w.number (let f = first.1 in omega arith)
      (numbered kept.history kept.standing about.places kept.dealt seat w w.role plays (kept.each seat w is)) (equal ∙ first.1)

  dealer-is : (seat : ℕ) (w : View) → ((seat ≡ id) × (dealer (number + 1) ≡ w)) ⊎ ((seat ≢ id) × (get_elem? s.views seat ≡ some w))
      → is_unnumbered w.role ≡ false → get_elem? s.views seat ≡ some w
  dealer-is seat w (inl own) plays = let wrong : true ≡ false = ap (λ (u : View). is_unnumbered u.role) own.1 ∙ plays in absurd (cc)
  dealer-is seat w (inr other) plays = other.1

  -- no other seat is a dealer's, and a receipt fits as it did
  dealing-fits : (seat : ℕ) (w : View) (role : Role) → seat ≢ id → is_unnumbered role ≡ true
      → FitsAs kept.history kept.standing about.places kept.dealt seat w role → FitsAs kept.history kept.standing about.places (number + 1) seat w role
  dealing-fits seat w Dealer apart dealing fits = absurd (apart (fits.0 ∙ sym first.0))
  dealing-fits seat w Receipt apart dealing fits = fits
  dealing-fits seat w Acting apart dealing fits = absurd (cc)
  dealing-fits seat w Spent apart dealing fits = absurd (cc)

  dealer-first : (seat : ℕ) (w : View) → ((seat ≡ id) × (dealer (number + 1) ≡ w)) ⊎ ((seat ≢ id) × (get_elem? s.views seat ≡ some w))
      → is_unnumbered w.role ≡ true → Fits kept.history kept.standing about.places (number + 1) seat w
  dealer-first seat w (inl own) dealing =
      subst (λ (u : View). Fits kept.history kept.standing about.places (number + 1) seat u) own.1 (own.0 ∙ first.0, refl)
  dealer-first seat w (inr other) dealing = dealing-fits seat w w.role other.0 dealing (kept.each seat w other.1)

  dealer-back : (seat : ℕ) (w : View) → get_elem? s.views seat ≡ some w → is_unnumbered w.role ≡ false
      → get_elem? (set s.views id (dealer (number + 1))) seat ≡ some w
  dealer-back seat w is plays =
      let apart : seat ≢ id = λ e.
      (let one : dealer number ≡ w = some-injective (dealer number) w (sym at ∙ ap (get_elem? s.views) (sym e) ∙ is) in
      let wrong : true ≡ false = ap (λ (u : View). is_unnumbered u.role) one ∙ plays in absurd (cc)) in
      set_else s.views id seat (dealer (number + 1)) apart ∙ is

  pub kept-dealt : Kept about (record { words = s.words; homes = s.homes; views = set s.views id (dealer (number + 1)) ++ fresh_view number ∷ [] })
  kept-dealt =
      one-more about s kept (set s.views id (dealer (number + 1))) (number + 1) number (let f = first.1 in omega arith) (omega (arith, room)) undealt
      (inl (omega arith)) (length-set s.views id (dealer (number + 1)))
      (λ seat w is. dealer-is seat w (at_set s.views id seat (dealer (number + 1)) w is)) dealer-back
      (λ seat w is. dealer-first seat w (at_set s.views id seat (dealer (number + 1)) w is))

-- the dealer deals a place
pub deals : (about : About) (number id : ℕ) (v : View) → v ≡ dealer number → number < about.places
    → Splits (Kept about) id v (dealer (v.number + 1)) (fresh_view v.number)
deals about number id v is more =
    subst (λ (u : View). Splits (Kept about) id u (dealer (u.number + 1)) (fresh_view u.number)) (sym is)
    (λ s kept at. kept-dealt about number more s kept id at)

-- One visitor more

module _ (about : About) (s : State (Unit {0}) View) (kept : Kept about s) where
  pub kept-entered : Kept about (record { words = s.words; homes = s.homes; views = s.views ++ fresh_view (about.places + length s.views) ∷ [] })
  kept-entered =
      one-more about s kept s.views kept.dealt (about.places + length s.views) (omega arith) kept.bounded
      (λ seat w is plays.
      seat-free about.places kept.dealt (length s.views) seat w.number kept.bounded (found-within s.views seat w is)
      (numbered kept.history kept.standing about.places kept.dealt seat w w.role plays (kept.each seat w is)))
      (inr refl) refl (λ seat w is plays. is) (λ seat w is plays. is)
      (λ seat w is dealing. kept.each seat w is)

pub enters : (about : About) (picked_places slots index : ℕ) → picked_places ≡ about.places
    → Enters (Kept about) slots index (λ number v. IsEntering picked_places v)
enters about picked_places slots index same = λ s kept sized small. (
  fresh_view (about.places + length s.views),
  kept-entered about s kept,
  (about.places + length s.views, omega (arith, same), refl),
)

-- One receipt more

module _ (about : About) (s : State (Unit {0}) View) (kept : Kept about s) (id : ℕ) (v : View) (acts : v.role ≡ Acting) (at : get_elem? s.views id ≡ some v) where
  abbrev witnessed : List View
  witnessed = s.views ++ receipt_of v ∷ []

  receipt-fits : BeginsWithEach kept.history (departed v ∷ [])
  receipt-fits =
      let fits = place-fits kept.history kept.standing about.places kept.dealt id v acts (kept.each id v at) in (
        subst (BeginsWith kept.history) (sym fits.2) (begins-seen v.number kept.history),
        ap (part_of v.number) fits.2 ∙ seen-part v.number kept.history ∙ sym fits.3,
        tt,
      )

  witnessed-fits : (seat : ℕ) (w : View) → (get_elem? s.views seat ≡ some w) ⊎ ((seat ≡ length s.views) × (receipt_of v ≡ w))
      → Fits kept.history kept.standing about.places kept.dealt seat w
  witnessed-fits seat w (inl there) = kept.each seat w there
  witnessed-fits seat w (inr last) = subst (Fits kept.history kept.standing about.places kept.dealt seat) last.1 receipt-fits

  -- a seat that has a number was there before
  was-there : (seat : ℕ) (w : View) → (get_elem? s.views seat ≡ some w) ⊎ ((seat ≡ length s.views) × (receipt_of v ≡ w))
      → is_unnumbered w.role ≡ false → get_elem? s.views seat ≡ some w
  was-there seat w (inl there) plays = there
  was-there seat w (inr last) plays = let wrong : true ≡ false = ap (λ (u : View). is_unnumbered u.role) last.1 ∙ plays in absurd (cc)

  numbered-there : (seat : ℕ) (w : View) → get_elem? witnessed seat ≡ some w → is_unnumbered w.role ≡ false → get_elem? s.views seat ≡ some w
  numbered-there seat w is plays = was-there seat w (found-snoc s.views (receipt_of v) w seat is) plays

  pub kept-witnessed : Kept about (record { words = s.words; homes = s.homes; views = witnessed })
  kept-witnessed = record {
    history = kept.history;
    last = kept.last;
    standing = kept.standing;
    dealt = kept.dealt;
    run = kept.run;
    wide = kept.wide;
    bounded = kept.bounded;
    refines = kept.refines;
    each = λ seat w is. witnessed-fits seat w (found-snoc s.views (receipt_of v) w seat is);
    gathers = λ seat w is plays.
        gathered-stay s.views witnessed (λ other u there gone. found-front s.views (receipt_of v) u other there) w.gathered
        (kept.gathers seat w (numbered-there seat w is plays) plays);
    apart = λ one other u w is also plays also_plays same.
        kept.apart one other u w (numbered-there one u is plays) (numbered-there other w also also_plays) plays also_plays same;
    fresh = λ number free. kept.fresh number (λ seat w is plays. free seat w (found-front s.views (receipt_of v) w seat is) plays);
    visits = kept.visits;
  }

pub witnesses : (about : About) (id : ℕ) (v : View) → v.role ≡ Acting → Splits (Kept about) id v v (receipt_of v)
witnesses about id v acts = λ s kept at.
    subst (λ (views : List View). Kept about (record { words = s.words; homes = s.homes; views = views ++ receipt_of v ∷ [] })) (sym (set_again s.views id v at))
    (kept-witnessed about s kept id v acts at)

-- a list of new places with one more
pub new-more : (table : TableId) (from : ℕ) (places : List Place) (place : Place) → AreNew table from places → IsNew table (from + length places) place
    → AreNew table from (places ++ place ∷ [])
new-more table from [] place all one = (subst (λ (n : ℕ). IsNew table n place) (omega arith) one, tt)
new-more table from (first ∷ places) place all one =
    (all.0, new-more table (from + 1) places place all.1 (subst (λ (n : ℕ). IsNew table n place) (omega arith) one))

-- The end

pub shows : (about : About) (s : State (Unit {0}) View) (words : List ℕ) (kept : Kept about s) → s.words ≡ words
    → WordsShow (needs_of about.rules) about.places (row_of about.places words) kept.last
shows about s words kept is =
    subst (λ (l : List ℕ). WordsShow (needs_of about.rules) about.places (row_of about.places l) kept.last) is
    (says-so (needs_of about.rules) about.places (row_of about.places s.words) kept.standing kept.last kept.refines)

pub leads-to : (about : About) (s : State (Unit {0}) View) (words : List ℕ) (kept : Kept about s) → s.words ≡ words
    → LeadsTo (needs_of about.rules) about.places about.withheld kept.history (row_of about.places words)
leads-to about s words kept is = record { last = kept.last; run = kept.run; shown = shows about s words kept is }

pub led-to : (about : About) (s : State (Unit {0}) View) (seat : ℕ) (v : View) (words : List ℕ) → Kept about s → get_elem? s.views seat ≡ some v
    → v.role ≡ Acting → s.words ≡ words → IsLedTo about words v
led-to about s seat v words kept at role is =
    let fits : FitsAs kept.history kept.standing about.places kept.dealt seat v Acting =
    place-fits kept.history kept.standing about.places kept.dealt seat v role (kept.each seat v at) in
    record {
      history = kept.history;
      leads = leads-to about s words kept is;
      begins = subst (BeginsWith kept.history) (sym fits.2) (begins-seen v.number kept.history);
      latest = fits.2;
      part = fits.3;
    }

-- a number that was found in a list of words
pub found-number : (words : List ℕ) (index number : ℕ) → get_elem? words index ≡ some number → number ≡ get_or words index 0
found-number [] index number is = absurd (some-ne-none number (sym is))
found-number (word ∷ words) zero number is = sym (some-injective word number is)
found-number (word ∷ words) (suc index) number is = found-number words index number is

pub number-at : (cells : List ℕ) (places place number word : ℕ) → place < places → get_elem? cells (cell_of places word) ≡ some number
    → ◌≡◌ {A = Maybe ℕ} (Some number) (if nat_lt place places then Some (row_of places cells word) else None)
number-at cells places place number word within is =
    let test : nat_lt place places ≡ true = grind (arith, nat_tests) in
    rw test (ap (λ (n : ℕ). Some n) (found-number cells (cell_of places word) number is))

-- new places of a table are of that table
pub new-of : (table : TableId) (from : ℕ) (places : List Place) → AreNew table from places → (index : ℕ) (unknown : Place) → index < length places
    → (get_or places index unknown).seat.table_id ≡ table
new-of table from [] are index unknown within = absurd (omega arith)
new-of table from (place ∷ places) are zero unknown within = are.0.0
new-of table from (place ∷ places) are (suc index) unknown within = new-of table (from + 1) places are.1 index unknown (omega arith)

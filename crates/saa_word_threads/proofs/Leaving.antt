-- A place that has left gathers what another one had seen, and what the words are that it is a witness of.
use Rattle.std.proofs.Common.{◌≡◌, ◌≢◌, ℕ, zero, suc, ◌<◌, ◌==◌, ◌||◌, Bool, true, false, List, [], ◌∷◌, ◌++◌, length, get_or, refl, sym, ap, subst, ◌∙◌, arith, inl, inr, append-nil, append_assoc}
use Rattle.std.specs.Prelude.{All, map}
use Rattle.std.proofs.Math.ListN.{set}
use mathlib.Core.Option.{some, some-injective}
use lib.ListN.{get_elem?}
use Rattle.atomic_table.specs.Table.{Joins, State}
use Rattle.atomic_table.proofs.Lists.{at_set, set_else, set_here}
use Rattle.saa_word_steps.specs.declared.event.Event.{Event}
use Rattle.saa_word_steps.specs.declared.place.Place.{Place as Position}
use Rattle.saa_word_steps.specs.Needs.{needs_of}
use Rattle.saa_word_proofs.specs.History.{BeginsWith, part_of, seen_by}
use Rattle.saa_word_proofs.specs.Promises.{WordsAreQuiescent}
use Rattle.saa_word_proofs.specs.Registering.{is_slot}
use Rattle.saa_word_proofs.proofs.RefinementLemmas.Seen.{begins-seen}
use Rattle.saa_word_proofs.proofs.SoloLemmas.Quiet.{rest-unregistered}
use Rattle.std.proofs.lemmas.Bool.{cases_Bool}
use Rattle.saa_core_spec.proofs.Counts.{number_same, same_number}
use Rattle.saa_word_threads.specs.declared.table.About.{About}
use Rattle.saa_word_threads.specs.declared.table.Departed.{Departed}
use Rattle.saa_word_threads.specs.declared.table.Role.{Role}
use Rattle.saa_word_threads.specs.declared.table.Role.TheVariants.{Acting, Spent}
use Rattle.saa_word_threads.specs.declared.table.View.{View}
use Rattle.saa_word_threads.specs.Dealt.{AreLedTo, IsOf, has_number}
use Rattle.saa_word_threads.specs.Gathered.{IsAmong, Knows}
use Rattle.saa_word_threads.specs.Kept.{AreGathered, Fits, FitsAs, IsGathered, Kept, departed, gathering, is_unnumbered, spent}
use Rattle.saa_word_threads.specs.Cells.{row_of}
use Rattle.saa_word_threads.proofs.Gathering.{found-within, gathered-stay, place-fits, spent-apart}
use Rattle.saa_word_threads.proofs.Opening.{shows}

acting : (v : View) → v.role ≡ Acting → v.role ≡ Spent → ⊥
acting v acts gone = let wrong : Acting ≡ Spent = sym acts ∙ gone in absurd (cc)

-- One place gathers the view of another one

module _ (about : About) (s : State (Unit {0}) View) (kept : Kept about s) (id other : ℕ) (v w : View) (acts : v.role ≡ Acting) (left : w.role ≡ Acting)
    (left_line : is_slot w.position.registration ≡ false) (at : get_elem? s.views id ≡ some v) (apart : other ≢ id) (found : get_elem? (set s.views id (gathering v w)) other ≡ some w) where
  there : get_elem? s.views other ≡ some w
  there = sym (set_else s.views id other (gathering v w) apart) ∙ found

  own : FitsAs kept.history kept.standing about.places kept.dealt id v Acting
  own = place-fits kept.history kept.standing about.places kept.dealt id v acts (kept.each id v at)

  theirs : FitsAs kept.history kept.standing about.places kept.dealt other w Acting
  theirs = place-fits kept.history kept.standing about.places kept.dealt other w left (kept.each other w there)

  abbrev between : List View
  between = set s.views id (gathering v w)

  abbrev behind : List View
  behind = set between other (spent w)

  -- what holds of the two views and of all others holds of all
  at-all : (P : ℕ → View → Type 0) → P other (spent w) → P id (gathering v w) → ((seat : ℕ) (u : View) → get_elem? s.views seat ≡ some u → P seat u)
      → (seat : ℕ) (u : View) → get_elem? behind seat ≡ some u → P seat u
  at-all P gone gathers rest seat u is =
      elim (at_set between other seat (spent w) u is) [
        | inl one ↦ subst (λ (n : ℕ). P n u) (sym one.0) (subst (P other) one.1 gone)
        | inr another ↦
            elim (at_set s.views id seat (gathering v w) u another.1) [
              | inl two ↦ subst (λ (n : ℕ). P n u) (sym two.0) (subst (P id) two.1 gathers)
              | inr three ↦ rest seat u three.1
            ]
      ]

  stays : (seat : ℕ) (u : View) → get_elem? s.views seat ≡ some u → u.role ≡ Spent → get_elem? behind seat ≡ some u
  stays seat u is gone =
      set_else between other seat (spent w) (spent-apart s.views other seat w u there (acting w left) is gone)
      ∙ set_else s.views id seat (gathering v w) (spent-apart s.views id seat v u at (acting v acts) is gone) ∙ is

  stay : (seat : ℕ) (u : View) → get_elem? s.views seat ≡ some u → is_unnumbered u.role ≡ false → AreGathered behind u.gathered
  stay seat u is plays = gathered-stay s.views behind stays u.gathered (kept.gathers seat u is plays)

  is-gathered : IsGathered behind (departed w)
  is-gathered = (other, spent w, set_here between other (spent w) (found-within between other w found), refl, left_line, refl)

  each-fits : (seat : ℕ) (u : View) → get_elem? behind seat ≡ some u → Fits kept.history kept.standing about.places kept.dealt seat u
  each-fits =
      at-all (λ seat u. Fits kept.history kept.standing about.places kept.dealt seat u) theirs
      (subst (λ (r : Role). FitsAs kept.history kept.standing about.places kept.dealt id (gathering v w) r) (sym acts) own) kept.each

  -- each seat has the number that it had
  abbrev WasOf : ℕ → View → Type 0
  WasOf seat u = (was : View) × (get_elem? s.views seat ≡ some was) × (is_unnumbered u.role ≡ is_unnumbered was.role) × (u.number ≡ was.number)

  was : (seat : ℕ) (u : View) → get_elem? behind seat ≡ some u → WasOf seat u
  was = at-all WasOf (w, there, ap is_unnumbered (sym left), refl) (v, at, refl, refl) (λ seat u is. (u, is, refl, refl))

  -- and each seat that was there is there with that number
  is-there : (seat : ℕ) (u : View) → get_elem? s.views seat ≡ some u
      → (now : View) × (get_elem? behind seat ≡ some now) × (is_unnumbered now.role ≡ is_unnumbered u.role) × (now.number ≡ u.number)
  is-there seat u is =
      elim (cases_Bool (seat == other)) [
        | inl one ↦
            let place_is : seat ≡ other = same_number seat other one in
            let view_is : w ≡ u = some-injective w u (sym there ∙ ap (get_elem? s.views) (sym place_is) ∙ is) in (
              spent w,
              ap (get_elem? behind) place_is ∙ set_here between other (spent w) (found-within between other w found),
              ap is_unnumbered (sym left) ∙ ap (λ (x : View). is_unnumbered x.role) view_is,
              ap (λ (x : View). x.number) view_is,
            )
        | inr not_other ↦
            let differs : seat ≢ other = λ e. (let wrong : seat == other ≡ true = ap (λ (n : ℕ). seat == n) (sym e) ∙ number_same seat in absurd (cc)) in
            elim (cases_Bool (seat == id)) [
              | inl two ↦
                  let place_is : seat ≡ id = same_number seat id two in
                  let view_is : v ≡ u = some-injective v u (sym at ∙ ap (get_elem? s.views) (sym place_is) ∙ is) in (
                    gathering v w,
                    set_else between other seat (spent w) differs ∙ ap (get_elem? between) place_is
                        ∙ set_here s.views id (gathering v w) (found-within s.views id v at),
                    ap (λ (x : View). is_unnumbered x.role) view_is,
                    ap (λ (x : View). x.number) view_is,
                  )
              | inr not_id ↦
                  let also : seat ≢ id = λ e. (let wrong : seat == id ≡ true = ap (λ (n : ℕ). seat == n) (sym e) ∙ number_same seat in absurd (cc)) in
                  (u, set_else between other seat (spent w) differs ∙ set_else s.views id seat (gathering v w) also ∙ is, refl, refl)
            ]
      ]

  kept-joined : Kept about (record { words = s.words; homes = s.homes; views = behind })
  kept-joined = record {
    history = kept.history;
    last = kept.last;
    standing = kept.standing;
    dealt = kept.dealt;
    run = kept.run;
    wide = kept.wide;
    bounded = kept.bounded;
    refines = kept.refines;
    each = each-fits;
    gathers =
        at-all (λ seat u. is_unnumbered u.role ≡ false → AreGathered behind u.gathered) (λ plays. stay other w there (ap is_unnumbered left))
        (λ plays. (is-gathered, stay id v at (ap is_unnumbered acts))) stay;
    apart = λ one another u x is also acts_one acts_another same.
        (let first = was one u is in let second = was another x also in
        kept.apart one another first.0 second.0 first.1 second.1 (sym first.2 ∙ acts_one) (sym second.2 ∙ acts_another) (sym first.3 ∙ same ∙ second.3));
    fresh = λ number free.
        kept.fresh number (λ seat u is plays equal.
        (let now = is-there seat u is in free seat now.0 now.1 (now.2 ∙ plays) (now.3 ∙ equal)));
    visits = kept.visits;
  }

pub joins : (about : About) (id other : ℕ) (v w gone : View) → v.role ≡ Acting → w.role ≡ Acting → is_slot w.position.registration ≡ false → gone ≡ w
    → Joins (Kept about) id v other w (gathering v w) (spent gone)
joins about id other v w gone acts left left_line is =
    subst (λ (u : View). Joins (Kept about) id v other w (gathering v w) (spent u)) (sym is)
    (λ s kept at apart found. kept-joined about s kept id other v w acts left left_line at apart found)

-- What is known then

known-more : (v w : View) (gone : Departed) → IsAmong gone (departed v ∷ v.gathered) → IsAmong gone (departed v ∷ (gathering v w).gathered)
known-more v w gone (inl is) = inl is
known-more v w gone (inr among) = inr (inr among)

knows-more : (v w : View) (views : List View) → Knows v views → Knows (gathering v w) (views ++ w ∷ [])
knows-more v w [] known = (inr (inl refl), tt)
knows-more v w (u ∷ views) known = (known-more v w (departed u) known.0, knows-more v w views known.1)

pub gathering-knows : (v w x : View) (views : List View) → x ≡ gathering v w → Knows v views → Knows x (views ++ w ∷ [])
gathering-knows v w x views is known = subst (λ (u : View). Knows u (views ++ w ∷ [])) (sym is) (knows-more v w views known)

pub own-known : (v : View) (views : List View) → views ≡ [] → Knows v (views ++ v ∷ [])
own-known v views is = subst (λ (l : List View). Knows v (l ++ v ∷ [])) (sym is) (inl refl, tt)

-- The end

abbrev IsKept : List (ℕ × Event) → Departed → Type 0
IsKept history gone = (gone.seen ≡ seen_by gone.number history) × (gone.part ≡ part_of gone.number history)

is-of : (history : List (ℕ × Event)) (v : View) → IsKept history (departed v) → IsOf history v
is-of history v fits = (subst (BeginsWith history) (sym fits.0) (begins-seen v.number history), fits.0, fits.1)

module _ (about : About) (s : State (Unit {0}) View) (kept : Kept about s) (seat : ℕ) (v : View) (at : get_elem? s.views seat ≡ some v)
    (acts : v.role ≡ Acting) where
  gone-fits : (gone : Departed) (is : IsGathered s.views gone) → FitsAs kept.history kept.standing about.places kept.dealt is.0 is.1 Spent
  gone-fits gone is = subst (λ (r : Role). FitsAs kept.history kept.standing about.places kept.dealt is.0 is.1 r) is.3 (kept.each is.0 is.1 is.2)

  gathered-fits : (gone : Departed) → IsGathered s.views gone → IsKept kept.history gone
  gathered-fits gone is =
      let fits = gone-fits gone is in
      subst (IsKept kept.history) (sym is.5) (fits.2, fits.3)

  among-fits : (gone : Departed) (gathered : List Departed) → AreGathered s.views gathered → IsAmong gone gathered → IsKept kept.history gone
  among-fits gone [] all among = absurd among
  among-fits gone (other ∷ rest) all (inl is) = subst (IsKept kept.history) is (gathered-fits other all.0)
  among-fits gone (other ∷ rest) all (inr among) = among-fits gone rest all.1 among

  known-fits : (gone : Departed) → IsAmong gone (departed v ∷ v.gathered) → IsKept kept.history gone
  known-fits gone (inl is) =
      let fits = place-fits kept.history kept.standing about.places kept.dealt seat v acts (kept.each seat v at) in
      subst (IsKept kept.history) is (fits.2, fits.3)
  known-fits gone (inr among) = among-fits gone v.gathered (kept.gathers seat v at (ap is_unnumbered acts)) among

  pub all-of : (views : List View) → Knows v views → (index : ℕ) (unknown : View) → index < length views → IsOf kept.history (get_or views index unknown)
  all-of [] known index unknown within = absurd (omega arith)
  all-of (w ∷ rest) known zero unknown within = is-of kept.history w (known-fits (departed w) known.0)
  all-of (w ∷ rest) known (suc index) unknown within = all-of rest known.1 index unknown (omega arith)

  -- a place that is known isn't registered in the queue
  abbrev IsOut : ℕ → Type 0
  IsOut number = is_slot (kept.standing number).registration ≡ false

  among-out : (gone : Departed) (gathered : List Departed) → AreGathered s.views gathered → IsAmong gone gathered → IsOut gone.number
  among-out gone [] all among = absurd among
  among-out gone (other ∷ rest) all (inl is) =
      subst (λ (d : Departed). IsOut d.number) is
      (subst (λ (d : Departed). IsOut d.number) (sym all.0.5)
      (ap (λ (p : Position). is_slot p.registration) (gone-fits other all.0).1 ∙ all.0.4))
  among-out gone (other ∷ rest) all (inr among) = among-out gone rest all.1 among

  known-out : is_slot v.position.registration ≡ false → (gone : Departed) → IsAmong gone (departed v ∷ v.gathered) → IsOut gone.number
  known-out out gone (inl is) =
      let fits = place-fits kept.history kept.standing about.places kept.dealt seat v acts (kept.each seat v at) in
      subst (λ (d : Departed). IsOut d.number) is (ap (λ (p : Position). is_slot p.registration) fits.1 ∙ out)
  known-out out gone (inr among) = among-out gone v.gathered (kept.gathers seat v at (ap is_unnumbered acts)) among

  pub has-out : is_slot v.position.registration ≡ false → (number : ℕ) (views : List View) → Knows v views → has_number number views ≡ true → IsOut number
  has-out out number [] known has = absurd (cc)
  has-out out number (w ∷ rest) known has =
      elim (cases_Bool (w.number == number)) [
        | inl same ↦ subst IsOut (same_number w.number number same) (known-out out (departed w) known.0)
        | inr another ↦ has-out out number rest known.1 (ap (λ (b : Bool). b || has_number number rest) (sym another) ∙ has)
      ]

-- every answer is shown where no place is registered in the queue
settled-all : (about : About) (s : State (Unit {0}) View) (words : List ℕ) (views : List View) (kept : Kept about s) → s.words ≡ words
    → ((number : ℕ) → has_number number views ≡ true → is_slot (kept.standing number).registration ≡ false)
    → ((number : ℕ) → number < about.places → has_number number views ≡ true) → WordsAreQuiescent (needs_of about.rules) (row_of about.places words) kept.last
settled-all about s words views kept is out all =
    subst (λ (l : List ℕ). WordsAreQuiescent (needs_of about.rules) (row_of about.places l) kept.last) is
    (rest-unregistered (needs_of about.rules) about.places (row_of about.places s.words) kept.standing kept.last kept.refines (λ number.
    elim (cases_Bool (is_slot (kept.standing number).registration)) [
      | inl slot ↦ out number (all number (kept.refines.seats.within number slot))
      | inr none ↦ none
    ]))

pub led-all : (about : About) (s : State (Unit {0}) View) (seat : ℕ) (v : View) (words : List ℕ) (views : List View) → Kept about s
    → get_elem? s.views seat ≡ some v → v.role ≡ Acting → is_slot v.position.registration ≡ false → s.words ≡ words → Knows v views → AreLedTo about words views
led-all about s seat v words views kept at acts out is known = record {
  history = kept.history;
  leads = record { last = kept.last; run = kept.run; shown = shows about s words kept is };
  each = all-of about s kept seat v at acts views known;
  others = kept.visits;
  settled =
      settled-all about s words views kept is (λ number has. has-out about s kept seat v at acts out number views known has);
}

pub led-none : (about : About) (s : State (Unit {0}) View) (words : List ℕ) (views : List View) → Kept about s → s.words ≡ words → views ≡ []
    → AreLedTo about words views
led-none about s words views kept is none =
    subst (AreLedTo about words) (sym none) (record {
      history = kept.history;
      leads = record { last = kept.last; run = kept.run; shown = shows about s words kept is };
      each = λ index unknown within. absurd (omega arith);
      others = kept.visits;
      settled = settled-all about s words [] kept is (λ number has. absurd (cc));
    })

-- The loop that gathers them

-- the first of those that are left is of the table, and so are the others
pub ours-rest : {A : Type 0} (P : A → Type 0) (left : A) (old new : List A) → old ≡ left ∷ new → All P old → P left × All P new
ours-rest P left old new is ours =
    let all : All P (left ∷ new) = subst (All P) is ours in (all 0 left (omega arith), λ index unknown within. all (suc index) unknown (omega arith))

-- one view more is known, and one place is left less
pub one-more : {A : Type 0} (view : A → View) (views : List View) (left : A) (old new all : List A) → old ≡ left ∷ new
    → views ++ map view old ≡ map view all → (views ++ view left ∷ []) ++ map view new ≡ map view all
one-more {A = A} view views left old new all is known =
    append_assoc views (view left ∷ []) (map view new) ∙ ap (λ (l : List A). views ++ map view l) (sym is) ∙ known

-- all are known where none is left
pub all-known : {A : Type 0} (view : A → View) (views : List View) (old all : List A) → old ≡ [] → views ++ map view old ≡ map view all
    → views ≡ map view all
all-known {A = A} view views old all none known =
    sym (append-nil views) ∙ ap (λ (l : List A). views ++ map view l) (sym none) ∙ known

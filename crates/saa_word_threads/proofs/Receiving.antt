-- One receipt says what another one says, too; and what the words are that a receipt is a witness of.
use Rattle.std.proofs.Common.{◌≡◌, ◌≢◌, ℕ, true, false, List, [], ◌∷◌, ◌++◌, ◌⊎◌, sym, ap, subst, ◌∙◌, inl, inr}
use Rattle.std.proofs.Math.ListN.{set}
use mathlib.Core.Option.{some, some-injective}
use lib.ListN.{get_elem?}
use Rattle.atomic_table.specs.Table.{Joins, State}
use Rattle.atomic_table.proofs.Lists.{at_set, set_again, set_else}
use Rattle.saa_word_steps.specs.declared.event.Event.{Event}
use Rattle.saa_word_threads.specs.declared.table.About.{About}
use Rattle.saa_word_threads.specs.declared.table.Departed.{Departed}
use Rattle.saa_word_threads.specs.declared.table.Role.{Role}
use Rattle.saa_word_threads.specs.declared.table.Role.TheVariants.{Receipt}
use Rattle.saa_word_threads.specs.declared.table.View.{View}
use Rattle.saa_word_threads.specs.Kept.{BeginsWithEach, Fits, FitsAs, Kept, departed, is_unnumbered, with_receipt}
use Rattle.saa_word_threads.specs.Receipts.{IsLedOn}
use Rattle.saa_word_threads.proofs.Gathering.{gathered-stay}
use Rattle.saa_word_threads.proofs.Opening.{leads-to}

-- a history that begins with each of some and each of others begins with each of both
begins-both : (history : List (ℕ × Event)) (one other : List Departed) → BeginsWithEach history one → BeginsWithEach history other
    → BeginsWithEach history (one ++ other)
begins-both history [] other first second = second
begins-both history (gone ∷ rest) other first second = (first.0, first.1, begins-both history rest other first.2 second)

receipt-fits : (about : About) (s : State (Unit {0}) View) (kept : Kept about s) (seat : ℕ) (v : View) → v.role ≡ Receipt
    → Fits kept.history kept.standing about.places kept.dealt seat v → BeginsWithEach kept.history (departed v ∷ v.gathered)
receipt-fits about s kept seat v is fits = subst (λ (r : Role). FitsAs kept.history kept.standing about.places kept.dealt seat v r) is fits

-- One receipt is joined to another one

module _ (about : About) (s : State (Unit {0}) View) (kept : Kept about s) (id other : ℕ) (v w : View) (one : v.role ≡ Receipt) (also : w.role ≡ Receipt)
    (at : get_elem? s.views id ≡ some v) (there : get_elem? s.views other ≡ some w) where
  abbrev joined : List View
  joined = set s.views id (with_receipt v w)

  joined-fits : FitsAs kept.history kept.standing about.places kept.dealt id (with_receipt v w) Receipt
  joined-fits =
      begins-both kept.history (departed v ∷ v.gathered) (departed w ∷ w.gathered) (receipt-fits about s kept id v one (kept.each id v at))
      (receipt-fits about s kept other w also (kept.each other w there))

  each-fits : (seat : ℕ) (u : View) → ((seat ≡ id) × (with_receipt v w ≡ u)) ⊎ ((seat ≢ id) × (get_elem? s.views seat ≡ some u))
      → Fits kept.history kept.standing about.places kept.dealt seat u
  each-fits seat u (inl own) =
      subst (λ (n : ℕ). Fits kept.history kept.standing about.places kept.dealt n u) (sym own.0)
      (subst (λ (x : View). Fits kept.history kept.standing about.places kept.dealt id x) own.1
      (subst (λ (r : Role). FitsAs kept.history kept.standing about.places kept.dealt id (with_receipt v w) r) (sym one) joined-fits))
  each-fits seat u (inr apart) = kept.each seat u apart.1

  -- a seat that has a number is as it was
  was-there : (seat : ℕ) (u : View) → ((seat ≡ id) × (with_receipt v w ≡ u)) ⊎ ((seat ≢ id) × (get_elem? s.views seat ≡ some u))
      → is_unnumbered u.role ≡ false → get_elem? s.views seat ≡ some u
  was-there seat u (inl own) plays =
      let wrong : true ≡ false = ap is_unnumbered (sym one) ∙ ap (λ (x : View). is_unnumbered x.role) own.1 ∙ plays in absurd (cc)
  was-there seat u (inr apart) plays = apart.1

  numbered-there : (seat : ℕ) (u : View) → get_elem? joined seat ≡ some u → is_unnumbered u.role ≡ false → get_elem? s.views seat ≡ some u
  numbered-there seat u is plays = was-there seat u (at_set s.views id seat (with_receipt v w) u is) plays

  stays : (seat : ℕ) (u : View) → get_elem? s.views seat ≡ some u → is_unnumbered u.role ≡ false → get_elem? joined seat ≡ some u
  stays seat u is plays =
      let apart : seat ≢ id = λ e.
      (let same : v ≡ u = some-injective v u (sym at ∙ ap (get_elem? s.views) (sym e) ∙ is) in
      let wrong : true ≡ false = ap is_unnumbered (sym one) ∙ ap (λ (x : View). is_unnumbered x.role) same ∙ plays in absurd (cc)) in
      set_else s.views id seat (with_receipt v w) apart ∙ is

  pub kept-received : Kept about (record { words = s.words; homes = s.homes; views = joined })
  kept-received = record {
    history = kept.history;
    last = kept.last;
    standing = kept.standing;
    dealt = kept.dealt;
    run = kept.run;
    wide = kept.wide;
    bounded = kept.bounded;
    refines = kept.refines;
    each = λ seat u is. each-fits seat u (at_set s.views id seat (with_receipt v w) u is);
    gathers = λ seat u is plays.
        gathered-stay s.views joined (λ another x found gone. stays another x found (ap is_unnumbered gone)) u.gathered
        (kept.gathers seat u (numbered-there seat u is plays) plays);
    apart = λ first second u x is found plays also_plays same.
        kept.apart first second u x (numbered-there first u is plays) (numbered-there second x found also_plays) plays also_plays same;
    fresh = λ number free. kept.fresh number (λ seat u is plays. free seat u (stays seat u is plays) plays);
    visits = kept.visits;
  }

pub receives : (about : About) (id other : ℕ) (v w gone : View) → v.role ≡ Receipt → w.role ≡ Receipt → gone ≡ w
    → Joins (Kept about) id v other w (with_receipt v w) gone
receives about id other v w gone one also is =
    subst (λ (u : View). Joins (Kept about) id v other w (with_receipt v w) u) (sym is)
    (λ s kept at apart found.
    subst (λ (views : List View). Kept about (record { words = s.words; homes = s.homes; views = views }))
    (sym (set_again (set s.views id (with_receipt v w)) other w found))
    (kept-received about s kept id other v w one also at (sym (set_else s.views id other (with_receipt v w) apart) ∙ found)))

-- The end

pub led-on : (about : About) (s : State (Unit {0}) View) (seat : ℕ) (v : View) (words : List ℕ) → Kept about s → get_elem? s.views seat ≡ some v
    → v.role ≡ Receipt → s.words ≡ words → IsLedOn about words (departed v ∷ v.gathered)
led-on about s seat v words kept at role is =
    let fits = receipt-fits about s kept seat v role (kept.each seat v at) in
    record { history = kept.history; leads = leads-to about s words kept is; begins = fits }

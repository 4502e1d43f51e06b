-- What is kept of a place that awaits its answer, and what a poll of it leaves.
use Rattle.std.proofs.Common.{◌≡◌, ◌∙◌, ℕ, zero, suc, Bool, true, false, refl, subst, sym, ap, true≢false}
use Rattle.std.proofs.lemmas.Bool.{false≢true}
use Rattle.atomic_table.specs.Seated.{TableId}
use Rattle.std.specs.Prelude.{Option, Result, Ok, Err, IfOk}
use Rattle.futures.specs.Poll.{OnPending}
use Rattle.futures.specs.declared.task.Poll.{Poll}
use Rattle.futures.specs.declared.task.Poll.TheVariants.{Ready, Pending}
use Rattle.saa_core_spec.specs.declared.polling.Error.{Error}
use Rattle.saa_core_spec.specs.declared.polling.Error.TheVariants.{Closed, NotReady, NotRegistered, WrongMode}
use Rattle.saa_core_spec.specs.declared.polling.How.{How}
use Rattle.saa_core_spec.specs.Errors.{error_of, is_not_ready, says_not_registered, says_wrong_mode}
use Rattle.saa_word_pool.specs.declared.pool.Borrowed.{Borrowed}
use Rattle.saa_word_threads.specs.declared.visitor.Visitor.{Visitor}
use Rattle.saa_word_lock_free.specs.declared.registration.Kept.{Kept}
use Rattle.saa_word_lock_free.specs.declared.registration.Kept.TheVariants.{AtPlace}
use Rattle.saa_word_lock_free.specs.Forms.{FormState, IsOut}
use Rattle.saa_word_lock_free.specs.KeptAs.{Awaits, IsKeptAt, IsPolledAt, registered_as}
use Rattle.saa_word_lock_free.specs.Pendings.{IsAnsweredAt}
use Rattle.saa_word_lock_free.specs.Registered.{IsPolled, Registered, at_place, is_busy, is_wrong_mode, unregistered}
use Rattle.saa_word_lock_free.specs.WordCalls.{WordCalls}

module _ {Ask Word Place : Type 0} (calls : Word → WordCalls Ask Place) (table : Word → TableId) (home : Place → TableId) (rests : Place → Type 0) where
  -- a place that rested in the pool and was registered awaits its answer
  pub joined : (word : Word) (ask : Ask) (first place : Place) → home place ≡ table word → (rests place → ⊥) → (calls word).rests first → (calls word).registers ask first true place
      → Awaits calls table home rests word ask place
  joined word ask first place at waits rested registered =
      (at, waits, record { first = first; between = place; count = zero; rested = rested; registered = registered; waited = refl })

  -- and goes on after a poll in vain, of a word that is the same
  still : (at word : Word) → at ≡ word → (ask : Ask) (old new : Place) → Awaits calls table home rests word ask old → (calls at).polls old (Err NotReady) new → home new ≡ home old
      → (rests new → rests old) → Awaits calls table home rests word ask new
  still at word same ask old new awaits polled stays waits =
      let awaited = awaits.2 in
      let Q : Word → Type 0 = λ word. (calls word).polls old (Err NotReady) new in (
        stays ∙ awaits.0,
        (λ rested. awaits.1 (waits rested)),
        record {
          first = awaited.first;
          between = awaited.between;
          count = suc awaited.count;
          rested = awaited.rested;
          registered = awaited.registered;
          waited = (old, awaited.waited, subst Q same polled);
        },
      )

  pub polled : (at word : Word) → at ≡ word → (ask : Ask) (answer : Result ℕ Error) (old new : Place) → Awaits calls table home rests word ask old → (calls at).polls old answer new
      → home new ≡ home old → (is_not_ready (error_of answer) ≡ false → rests new) → (is_not_ready (error_of answer) ≡ true → rests new → rests old)
      → IsPolledAt calls (Awaits calls table home rests word) rests word ask answer new
  polled at word same ask (Ok value) old new awaits poll stays rested waits =
      record { came = (old, new, awaits.2, subst (λ word. (calls word).polls old (Ok value) new) same poll); rested = rested; awaited = λ late. absurd (false≢true late) }
  polled at word same ask (Err NotReady) old new awaits poll stays rested waits =
      record { came = tt; rested = rested; awaited = λ late. still at word same ask old new awaits poll stays (waits late) }
  polled at word same ask (Err NotRegistered) old new awaits poll stays rested waits =
      record { came = tt; rested = rested; awaited = λ late. absurd (false≢true late) }
  polled at word same ask (Err WrongMode) old new awaits poll stays rested waits =
      record { came = tt; rested = rested; awaited = λ late. absurd (false≢true late) }
  polled at word same ask (Err Closed) old new awaits poll stays rested waits =
      record { came = tt; rested = rested; awaited = λ late. absurd (false≢true late) }

  -- so does one that a task polled and that stays pending
  pub pending : (at word : Word) → at ≡ word → (ask : Ask) (old new : Place) (reply : Poll (Result ℕ Error)) → Awaits calls table home rests word ask old
      → OnPending reply ((calls at).polls old (Err NotReady) new) → home new ≡ home old → OnPending reply (rests new → rests old) → OnPending reply (Awaits calls table home rests word ask new)
  pending at word same ask old new (Ready answer) awaits poll stays waits = tt
  pending at word same ask old new Pending awaits poll stays waits = still at word same ask old new awaits poll stays waits

  -- what is registered so has a place of this form
  pub at-its-place : (form : FormState Word) (asked : Ask → Option ℕ → Visitor → Type 0) (registration : Registered Ask Word) (is_sync : Bool) (kept : Kept Ask Place Word)
      (borrowed : Borrowed Place Word) (ask : Ask) → registration ≡ registered_as is_sync kept → kept ≡ AtPlace borrowed ask
      → IsKeptAt asked (IsOut table home form) (Awaits calls table home rests form.word) kept → registration ≡ at_place form.word form.pool ask is_sync
  at-its-place form asked registration is_sync kept borrowed ask taken is held =
      let out = (subst (IsKeptAt asked (IsOut table home form) (Awaits calls table home rests form.word)) is held).0.0 in
      taken ∙ ap (registered_as is_sync) is ∙ ap (λ word. at_place word borrowed.seat.table_id ask is_sync) out.1 ∙ ap (λ pool. at_place form.word pool ask is_sync) out.0

  -- what a poll in the right way does to it
  at-place : (how : How) (is_sync : Bool) (word : Word) (pool : TableId) (ask : Ask) (new : Registered Ask Word) (answer : Result ℕ Error)
      → is_wrong_mode how (at_place word pool ask is_sync) ≡ false → says_not_registered (error_of answer) ≡ false → says_wrong_mode (error_of answer) ≡ false
      → (is_not_ready (error_of answer) ≡ true → new ≡ at_place word pool ask is_sync) → (is_not_ready (error_of answer) ≡ false → new ≡ unregistered)
      → IfOk answer (IsAnsweredAt (calls word) ask) → IsPolled calls how (at_place word pool ask is_sync) new answer
  at-place how is_sync word pool ask new (Ok value) in_mode known right kept given came =
      record {
        polled =
            record {
              registered = ap is_busy (given refl);
              idle = λ free. absurd (true≢false free);
              same = λ fault. absurd (false≢true fault);
              wrong = λ other. absurd (false≢true (sym in_mode ∙ other));
              right = λ own. refl;
              known = λ at_once. absurd (false≢true at_once);
              there = λ at_once. absurd (false≢true at_once);
            };
        own = tt;
        came = came;
      }
  at-place how is_sync word pool ask new (Err NotReady) in_mode known right kept given came =
      record {
        polled =
            record {
              registered = ap is_busy (kept refl);
              idle = λ free. absurd (true≢false free);
              same = λ fault. kept refl;
              wrong = λ other. absurd (false≢true (sym in_mode ∙ other));
              right = λ own. refl;
              known = λ at_once. absurd (false≢true at_once);
              there = λ at_once. absurd (false≢true at_once);
            };
        own = tt;
        came = tt;
      }
  at-place how is_sync word pool ask new (Err Closed) in_mode known right kept given came =
      record {
        polled =
            record {
              registered = ap is_busy (given refl);
              idle = λ free. absurd (true≢false free);
              same = λ fault. absurd (false≢true fault);
              wrong = λ other. absurd (false≢true (sym in_mode ∙ other));
              right = λ own. refl;
              known = λ at_once. absurd (false≢true at_once);
              there = λ at_once. absurd (false≢true at_once);
            };
        own = tt;
        came = tt;
      }
  at-place how is_sync word pool ask new (Err NotRegistered) in_mode known right kept given came = absurd (true≢false known)
  at-place how is_sync word pool ask new (Err WrongMode) in_mode known right kept given came = absurd (true≢false right)

  pub polled-so : (how : How) (is_sync : Bool) (word : Word) (pool : TableId) (ask : Ask) (old new : Registered Ask Word) (answer : Result ℕ Error) → old ≡ at_place word pool ask is_sync
      → (is_other : Bool) → is_other ≡ is_wrong_mode how old → is_other ≡ false → says_not_registered (error_of answer) ≡ false → says_wrong_mode (error_of answer) ≡ false
      → (is_not_ready (error_of answer) ≡ true → new ≡ at_place word pool ask is_sync) → (is_not_ready (error_of answer) ≡ false → new ≡ unregistered)
      → IfOk answer (IsAnsweredAt (calls word) ask) → IsPolled calls how old new answer
  polled-so how is_sync word pool ask old new answer same is_other mode own known right kept given came =
      subst (λ old. IsPolled calls how old new answer) (sym same)
      (at-place how is_sync word pool ask new answer (subst (λ old. is_wrong_mode how old ≡ false) same (sym mode ∙ own)) known right kept given came)

-- What makes each kind's readings and its spellings fit.
use Rattle.std.proofs.Common.{◌≡◌, ◌<◌, ℕ, List, [], ◌∷◌, Some, ap, arith, refl}
use Rattle.std.specs.Prelude.{codes, decimal}
use Rattle.saa_core_spec.specs.declared.run.CommandOf.TheVariants.{Call}
use Rattle.saa_core_spec.specs.declared.semaphore.SemaphoreCall.{SemaphoreCall}
use Rattle.saa_core_spec.specs.declared.semaphore.SemaphoreCall.TheVariants.{TryAcquireMany, ReleaseMany, AvailablePermits, IsOpen, IsClosed, Shut, IsShut}
use Rattle.saa_core_spec.specs.declared.lock.Mode.{Mode}
use Rattle.saa_core_spec.specs.declared.lock.Mode.TheVariants.{Exclusive, Shared, WaitExclusive, WaitShared}
use Rattle.saa_core_spec.specs.declared.lock.LockCall.{LockCall}
use Rattle.saa_core_spec.specs.declared.lock.LockCall.TheVariants.{TryLock, TryShare, ReleaseLock, ReleaseShare, Downgrade, PoisonLock, ClearPoison, IsFree, IsLocked, IsShared, IsPoisoned}
use Rattle.saa_core_spec.specs.declared.gate.GateCall.{GateCall}
use Rattle.saa_core_spec.specs.declared.gate.GateCall.TheVariants.{State, Reset, Permit, PermitMany, Reject, Open, Seal}
use Rattle.saa_core_spec.specs.declared.barrier.BarrierCall.{BarrierCall}
use Rattle.saa_core_spec.specs.declared.barrier.BarrierCall.TheVariants.{Count, Arrive, Join, Leave as LeaveOne, Round}
use Rattle.saa_run.specs.declared.script.command.ScriptLine.TheVariants.{Do}
use Rattle.saa_run.specs.Language.{lone_call_in, counted_call_in, lone_line, counted_line, pager_line, line_in}
use Rattle.saa_run.specs.Spelling.{AreNumbers}
use Rattle.saa_run.specs.SemaphoreWords.{semaphore_ask, semaphore_readings, semaphore_call_fields, semaphore_call_numbers, semaphore_spellings}
use Rattle.saa_run.specs.LockWords.{lock_modes, lock_ask, lock_readings, lock_call_word, lock_mode_word, lock_spellings}
use Rattle.saa_run.specs.GateWords.{gate_readings, gate_call_fields, gate_call_numbers, gate_spellings}
use Rattle.saa_run.specs.BarrierWords.{barrier_readings, barrier_call_word, barrier_spellings}
use Rattle.saa_run.specs.Replies.{no_ask}
use Rattle.saa_run_text.proofs.FieldLemmas.{number_found, number_said}
use Rattle.saa_run.proofs.WordLemmas.{IsWord, IsWord-literal, IsWord-decimal}
use Rattle.saa_run.proofs.ReadingLemmas.{meaning_in-found}
use Rattle.saa_run.proofs.SpellingLemmas.{Words, Fits}

-- one word
word_alone : (word : List ℕ) → IsWord word → Words (word ∷ [])
word_alone word is = record { are = (is, tt); some = omega arith; few = omega arith }

-- a word and a number
word_and_number : (word : List ℕ) (n : ℕ) → IsWord word → n < 1000000 → Words (word ∷ decimal n ∷ [])
word_and_number word n is small = record { are = (is, (IsWord-decimal n small, tt)); some = omega arith; few = omega arith }

-- a registration that says nothing of what it asks
no_ask_found : (fields : List (List ℕ)) (ask : Unit {0}) → no_ask fields ≡ Some ask → (fields ≡ []) × AreNumbers []
no_ask_found [] ask found = (refl, tt)
no_ask_found (field ∷ fields) ask found = cc

semaphore_ask_found : (fields : List (List ℕ)) (n : ℕ) → semaphore_ask fields ≡ Some n → (fields ≡ decimal n ∷ []) × AreNumbers (n ∷ [])
semaphore_ask_found [] n found = cc
semaphore_ask_found (field ∷ []) n found = let written = number_found field n found in (ap (λ f. f ∷ []) written.0, (written.1, tt))
semaphore_ask_found (field ∷ next ∷ fields) n found = cc

semaphore_call_said : (call : SemaphoreCall) → AreNumbers (semaphore_call_numbers call) → line_in semaphore_readings (semaphore_call_fields call) ≡ Some (Do (Call call))
unfolding lone_line counted_line pager_line lone_call_in counted_call_in
semaphore_call_said (TryAcquireMany n) small = rw (number_said n small.0) refl
semaphore_call_said (ReleaseMany n) small = rw (number_said n small.0) refl
semaphore_call_said AvailablePermits small = refl
semaphore_call_said IsOpen small = refl
semaphore_call_said IsClosed small = refl
semaphore_call_said Shut small = refl
semaphore_call_said IsShut small = refl

semaphore_call_words : (call : SemaphoreCall) → AreNumbers (semaphore_call_numbers call) → Words (semaphore_call_fields call)
semaphore_call_words (TryAcquireMany n) small = word_and_number (codes "try") n (IsWord-literal (codes "try") refl refl) small.0
semaphore_call_words (ReleaseMany n) small = word_and_number (codes "release") n (IsWord-literal (codes "release") refl refl) small.0
semaphore_call_words AvailablePermits small = word_alone (codes "available") (IsWord-literal (codes "available") refl refl)
semaphore_call_words IsOpen small = word_alone (codes "is_open") (IsWord-literal (codes "is_open") refl refl)
semaphore_call_words IsClosed small = word_alone (codes "is_closed") (IsWord-literal (codes "is_closed") refl refl)
semaphore_call_words Shut small = word_alone (codes "shut") (IsWord-literal (codes "shut") refl refl)
semaphore_call_words IsShut small = word_alone (codes "is_shut") (IsWord-literal (codes "is_shut") refl refl)

pub semaphore_fits : Fits semaphore_readings semaphore_spellings
semaphore_fits = record {
  lone_found = ((refl, tt), ((refl, tt), ((refl, tt), ((refl, tt), ((refl, tt), tt)))));
  counted_found = (λ n small. (refl, (small, tt)), (λ n small. (refl, (small, tt)), tt));
  ask_found = semaphore_ask_found;
  call_said = semaphore_call_said;
  call_words = semaphore_call_words;
  ask_said = λ n small. number_said n small.0;
  ask_words = λ n small. (IsWord-decimal n small.0, tt);
  ask_few = λ n. omega arith;
}

lock_ask_found : (fields : List (List ℕ)) (mode : Mode) → lock_ask fields ≡ Some mode → (fields ≡ lock_mode_word mode ∷ []) × AreNumbers []
lock_ask_found [] mode found = cc
lock_ask_found (field ∷ []) mode found =
    (ap (λ f. f ∷ []) (meaning_in-found (λ word m. word ≡ lock_mode_word m) lock_modes (refl, (refl, (refl, (refl, tt)))) field mode found), tt)
lock_ask_found (field ∷ next ∷ fields) mode found = cc

lock_call_said : (call : LockCall) → line_in lock_readings (lock_call_word call ∷ []) ≡ Some (Do (Call call))
unfolding lone_line lone_call_in
lock_call_said TryLock = refl
lock_call_said TryShare = refl
lock_call_said ReleaseLock = refl
lock_call_said ReleaseShare = refl
lock_call_said Downgrade = refl
lock_call_said PoisonLock = refl
lock_call_said ClearPoison = refl
lock_call_said IsFree = refl
lock_call_said IsLocked = refl
lock_call_said IsShared = refl
lock_call_said IsPoisoned = refl

lock_call_is_word : (call : LockCall) → IsWord (lock_call_word call)
lock_call_is_word TryLock = IsWord-literal (codes "try_lock") refl refl
lock_call_is_word TryShare = IsWord-literal (codes "try_share") refl refl
lock_call_is_word ReleaseLock = IsWord-literal (codes "release_lock") refl refl
lock_call_is_word ReleaseShare = IsWord-literal (codes "release_share") refl refl
lock_call_is_word Downgrade = IsWord-literal (codes "downgrade") refl refl
lock_call_is_word PoisonLock = IsWord-literal (codes "poison_lock") refl refl
lock_call_is_word ClearPoison = IsWord-literal (codes "clear_poison") refl refl
lock_call_is_word IsFree = IsWord-literal (codes "is_free") refl refl
lock_call_is_word IsLocked = IsWord-literal (codes "is_locked") refl refl
lock_call_is_word IsShared = IsWord-literal (codes "is_shared") refl refl
lock_call_is_word IsPoisoned = IsWord-literal (codes "is_poisoned") refl refl

lock_mode_said : (mode : Mode) → lock_ask (lock_mode_word mode ∷ []) ≡ Some mode
lock_mode_said Exclusive = refl
lock_mode_said Shared = refl
lock_mode_said WaitExclusive = refl
lock_mode_said WaitShared = refl

lock_mode_is_word : (mode : Mode) → IsWord (lock_mode_word mode)
lock_mode_is_word Exclusive = IsWord-literal (codes "exclusive") refl refl
lock_mode_is_word Shared = IsWord-literal (codes "shared") refl refl
lock_mode_is_word WaitExclusive = IsWord-literal (codes "wait_exclusive") refl refl
lock_mode_is_word WaitShared = IsWord-literal (codes "wait_shared") refl refl

pub lock_fits : Fits lock_readings lock_spellings
lock_fits = record {
  lone_found = ((refl, tt), ((refl, tt), ((refl, tt), ((refl, tt), ((refl, tt), ((refl, tt), ((refl, tt), ((refl, tt), ((refl, tt), ((refl, tt), ((refl, tt), tt)))))))))));
  counted_found = tt;
  ask_found = lock_ask_found;
  call_said = λ call small. lock_call_said call;
  call_words = λ call small. word_alone (lock_call_word call) (lock_call_is_word call);
  ask_said = λ mode small. lock_mode_said mode;
  ask_words = λ mode small. (lock_mode_is_word mode, tt);
  ask_few = λ mode. omega arith;
}

gate_call_said : (call : GateCall) → AreNumbers (gate_call_numbers call) → line_in gate_readings (gate_call_fields call) ≡ Some (Do (Call call))
unfolding lone_line counted_line pager_line lone_call_in counted_call_in
gate_call_said State small = refl
gate_call_said Reset small = refl
gate_call_said Permit small = refl
gate_call_said (PermitMany n) small = rw (number_said n small.0) refl
gate_call_said Reject small = refl
gate_call_said Open small = refl
gate_call_said Seal small = refl

gate_call_words : (call : GateCall) → AreNumbers (gate_call_numbers call) → Words (gate_call_fields call)
gate_call_words State small = word_alone (codes "state") (IsWord-literal (codes "state") refl refl)
gate_call_words Reset small = word_alone (codes "reset") (IsWord-literal (codes "reset") refl refl)
gate_call_words Permit small = word_alone (codes "permit") (IsWord-literal (codes "permit") refl refl)
gate_call_words (PermitMany n) small = word_and_number (codes "permit_many") n (IsWord-literal (codes "permit_many") refl refl) small.0
gate_call_words Reject small = word_alone (codes "reject") (IsWord-literal (codes "reject") refl refl)
gate_call_words Open small = word_alone (codes "open") (IsWord-literal (codes "open") refl refl)
gate_call_words Seal small = word_alone (codes "seal") (IsWord-literal (codes "seal") refl refl)

pub gate_fits : Fits gate_readings gate_spellings
gate_fits = record {
  lone_found = ((refl, tt), ((refl, tt), ((refl, tt), ((refl, tt), ((refl, tt), ((refl, tt), tt))))));
  counted_found = (λ n small. (refl, (small, tt)), tt);
  ask_found = no_ask_found;
  call_said = gate_call_said;
  call_words = gate_call_words;
  ask_said = λ ask small. refl;
  ask_words = λ ask small. tt;
  ask_few = λ ask. omega arith;
}

barrier_call_said : (call : BarrierCall) → line_in barrier_readings (barrier_call_word call ∷ []) ≡ Some (Do (Call call))
unfolding lone_line lone_call_in
barrier_call_said Count = refl
barrier_call_said Arrive = refl
barrier_call_said Join = refl
barrier_call_said LeaveOne = refl
barrier_call_said Round = refl

barrier_call_is_word : (call : BarrierCall) → IsWord (barrier_call_word call)
barrier_call_is_word Count = IsWord-literal (codes "count") refl refl
barrier_call_is_word Arrive = IsWord-literal (codes "arrive") refl refl
barrier_call_is_word Join = IsWord-literal (codes "join") refl refl
barrier_call_is_word LeaveOne = IsWord-literal (codes "leave_barrier") refl refl
barrier_call_is_word Round = IsWord-literal (codes "round") refl refl

pub barrier_fits : Fits barrier_readings barrier_spellings
barrier_fits = record {
  lone_found = ((refl, tt), ((refl, tt), ((refl, tt), ((refl, tt), ((refl, tt), tt)))));
  counted_found = tt;
  ask_found = no_ask_found;
  call_said = λ call small. barrier_call_said call;
  call_words = λ call small. word_alone (barrier_call_word call) (barrier_call_is_word call);
  ask_said = λ ask small. refl;
  ask_words = λ ask small. tt;
  ask_few = λ ask. omega arith;
}

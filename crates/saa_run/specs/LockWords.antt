-- The language of a lock: its calls, what its registrations ask, and its answers, in words.
use Rattle.std.specs.Prelude.{ℕ, Bool, List, [], ◌∷◌, Option, None, Result, Ok, Err, codes}
use Rattle.saa_core_spec.specs.declared.polling.Error.{Error}
use Rattle.saa_core_spec.specs.declared.run.ReplyOf.{ReplyOf}
use Rattle.saa_core_spec.specs.declared.lock.Mode.{Mode}
use Rattle.saa_core_spec.specs.declared.lock.Mode.TheVariants.{Exclusive, Shared, WaitExclusive, WaitShared}
use Rattle.saa_core_spec.specs.declared.lock.TryLockError.{TryLockError}
use Rattle.saa_core_spec.specs.declared.lock.TryLockError.TheVariants.{Poisoned, WouldBlock}
use Rattle.saa_core_spec.specs.declared.lock.LockCall.{LockCall}
use Rattle.saa_core_spec.specs.declared.lock.LockCall.TheVariants.{TryLock, TryShare, ReleaseLock, ReleaseShare, Downgrade, PoisonLock, ClearPoison, IsFree, IsLocked, IsShared, IsPoisoned}
use Rattle.saa_core_spec.specs.declared.lock.LockAnswer.{LockAnswer}
use Rattle.saa_core_spec.specs.declared.lock.LockAnswer.TheVariants.{Bool as SaysBool, Tried}
use Rattle.saa_core_spec.specs.Object.{Object, After}
use Rattle.saa_core_spec.specs.Values.{lock_value}
use Rattle.saa_core_spec.specs.Lock.{lock_step, mode_request}
use Rattle.saa_run.specs.declared.script.command.ScriptLine.{ScriptLine}
use Rattle.saa_run_text.specs.Fields.{meaning_in}
use Rattle.saa_run.specs.Language.{Readings}
use Rattle.saa_run.specs.Spelling.{Spellings}
use Rattle.saa_run.specs.Replies.{truth_word, truth_poll, reply_words, line_does}

-- the words of the modes
abbrev pub lock_modes : List (List ℕ × Mode)
lock_modes = (codes "exclusive", Exclusive) ∷ (codes "shared", Shared) ∷ (codes "wait_exclusive", WaitExclusive) ∷ (codes "wait_shared", WaitShared) ∷ []

-- what a registration asks: one of the modes
abbrev pub lock_ask : List (List ℕ) → Option Mode
lock_ask [] = None
lock_ask (field ∷ []) = meaning_in lock_modes field
lock_ask (field ∷ next ∷ fields) = None

-- how its lines are read
abbrev pub lock_readings : Readings LockCall Mode
lock_readings = record {
  lone =
      (codes "try_lock", TryLock) ∷
      (codes "try_share", TryShare) ∷
      (codes "release_lock", ReleaseLock) ∷
      (codes "release_share", ReleaseShare) ∷
      (codes "downgrade", Downgrade) ∷
      (codes "poison_lock", PoisonLock) ∷
      (codes "clear_poison", ClearPoison) ∷
      (codes "is_free", IsFree) ∷
      (codes "is_locked", IsLocked) ∷
      (codes "is_shared", IsShared) ∷
      (codes "is_poisoned", IsPoisoned) ∷ [];
  counted = [];
  ask = lock_ask;
}

-- the word of a call
abbrev pub lock_call_word : LockCall → List ℕ
lock_call_word TryLock = codes "try_lock"
lock_call_word TryShare = codes "try_share"
lock_call_word ReleaseLock = codes "release_lock"
lock_call_word ReleaseShare = codes "release_share"
lock_call_word Downgrade = codes "downgrade"
lock_call_word PoisonLock = codes "poison_lock"
lock_call_word ClearPoison = codes "clear_poison"
lock_call_word IsFree = codes "is_free"
lock_call_word IsLocked = codes "is_locked"
lock_call_word IsShared = codes "is_shared"
lock_call_word IsPoisoned = codes "is_poisoned"

-- the word of a mode
abbrev pub lock_mode_word : Mode → List ℕ
lock_mode_word Exclusive = codes "exclusive"
lock_mode_word Shared = codes "shared"
lock_mode_word WaitExclusive = codes "wait_exclusive"
lock_mode_word WaitShared = codes "wait_shared"

-- how its lines are spelled
abbrev pub lock_spellings : Spellings LockCall Mode
lock_spellings = record {
  call_fields = λ call. lock_call_word call ∷ [];
  call_numbers = λ call. [];
  ask_fields = λ mode. lock_mode_word mode ∷ [];
  ask_numbers = λ mode. [];
}

-- the words of a try's answer
abbrev pub try_word : Result (Unit {0}) TryLockError → List ℕ
try_word (Ok granted) = codes "ok"
try_word (Err WouldBlock) = codes "would_block"
try_word (Err Poisoned) = codes "poisoned"

-- the words of a call's answer
abbrev pub lock_answer : LockAnswer → List ℕ
lock_answer (SaysBool truth) = truth_word truth
lock_answer (Tried result) = try_word result

-- the words of a reply
abbrev pub lock_reply : ReplyOf LockAnswer (Result Bool Error) → List ℕ
lock_reply reply = reply_words lock_answer truth_poll reply

-- what a line answers, in words, and what it leaves
abbrev pub lock_does : ScriptLine LockCall Mode → Object → After (List ℕ)
lock_does line s = line_does lock_reply mode_request lock_step lock_value line s

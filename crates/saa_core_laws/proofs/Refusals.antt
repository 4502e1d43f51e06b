-- When a registration is false.
use Rattle.std.proofs.Common.{◌≡◌, ℕ, suc, zero, ◌≤◌, Bool, true, false, not, ◌||◌, IsTrue, ◌↔◌, ◌<◌, ltb-true, Option, Some, None, Ok, refl, arith}
use Rattle.saa_core_spec.specs.declared.request.Request.{Request}
use Rattle.saa_core_spec.specs.declared.request.Request.TheVariants.{Permits}
use Rattle.saa_core_spec.specs.declared.gate.State.{State}
use Rattle.saa_core_spec.specs.Held.{LockState, OfSemaphore, OfShutSemaphore, OfLock, OfGate, OfBarrier, asks_too_much}
use Rattle.saa_core_spec.specs.Object.{Object, After, Idle, entry_at}
use Rattle.saa_core_spec.specs.Asking.{is_idle, registered, registered_of}

-- a registration is false exactly where it is refused
of-refused : (s : Object) (name : ℕ) (request : Request) (is_sync is_refused : Bool) (answer : Option (After ℕ)) (is_full : Bool)
    → (registered_of s name request is_sync is_refused answer is_full).reply ≡ Ok false ↔ IsTrue is_refused
of-refused s name request is_sync true answer is_full = ((λ is. refl), (λ is. refl))
of-refused s name request is_sync false (Some answer) is_full = ((λ is. cc), (λ is. cc))
of-refused s name request is_sync false None true = ((λ is. cc), (λ is. cc))
of-refused s name request is_sync false None false = ((λ is. cc), (λ is. cc))

pub false-exactly : (s : Object) (name : ℕ) (request : Request) (is_sync : Bool)
    → (registered s name request is_sync).reply ≡ Ok false
    ↔ IsTrue (not (is_idle (entry_at s.book name)) || asks_too_much s.held request)
false-exactly s name request is_sync = of-refused s name request is_sync _ _ _

-- an idle name is refused only what asks for too much
pub idle-refused : (s : Object) (name : ℕ) (request : Request) (is_sync : Bool) → entry_at s.book name ≡ Idle
    → (registered s name request is_sync).reply ≡ Ok false → IsTrue (asks_too_much s.held request)
idle-refused s name request is_sync idle is_false =
    let refused : IsTrue (not (is_idle (entry_at s.book name)) || asks_too_much s.held request) = (false-exactly s name request is_sync).0 is_false in
    rw idle at refused

pub one_permit-never : (s : Object) (name bound out : ℕ) (is_sync : Bool)
    → s.held ≡ OfSemaphore bound out → 1 ≤ bound → entry_at s.book name ≡ Idle
    → (registered s name (Permits 1) is_sync).reply ≡ Ok false → ⊥
one_permit-never s name zero out is_sync held some idle is_false = omega arith
one_permit-never s name (suc bound) out is_sync held some idle is_false =
    let refused : IsTrue (asks_too_much s.held (Permits 1)) = idle-refused s name (Permits 1) is_sync idle is_false in
    let above : suc bound < 1 = ltb-true _ _ (rw held at refused) in
    omega arith

pub lock-never : (s : Object) (name : ℕ) (lock : LockState) (request : Request) (is_sync : Bool)
    → s.held ≡ OfLock lock → entry_at s.book name ≡ Idle → (registered s name request is_sync).reply ≡ Ok false → ⊥
lock-never s name lock request is_sync held idle is_false =
    let refused : IsTrue (asks_too_much s.held request) = idle-refused s name request is_sync idle is_false in
    cc (rw held at refused)

pub gate-never : (s : Object) (name : ℕ) (gate : State) (request : Request) (is_sync : Bool)
    → s.held ≡ OfGate gate → entry_at s.book name ≡ Idle → (registered s name request is_sync).reply ≡ Ok false → ⊥
gate-never s name gate request is_sync held idle is_false =
    let refused : IsTrue (asks_too_much s.held request) = idle-refused s name request is_sync idle is_false in
    cc (rw held at refused)

pub barrier-never : (s : Object) (name size arrived round : ℕ) (request : Request) (is_sync : Bool)
    → s.held ≡ OfBarrier size arrived round → entry_at s.book name ≡ Idle → (registered s name request is_sync).reply ≡ Ok false → ⊥
barrier-never s name size arrived round request is_sync held idle is_false =
    let refused : IsTrue (asks_too_much s.held request) = idle-refused s name request is_sync idle is_false in
    cc (rw held at refused)

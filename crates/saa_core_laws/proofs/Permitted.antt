-- The permits of a semaphore are conserved: what a step grants more than it gives back is what is out more.
use Rattle.std.proofs.Common.{◌≡◌, ℕ, suc, zero, ◌+◌, ◌<◌, true, false, inl, inr, List, [], ◌∷◌, length, set, take, refl, sym, ap, ◌∙◌, arith, length-set}
use Rattle.std.proofs.lemmas.Bool.{cases_lt}
use Rattle.saa_core_spec.specs.declared.request.Request.{Request}
use Rattle.saa_core_spec.specs.declared.request.Request.TheVariants.{Exclusive as AskExclusive, Shared as AskShared, WaitExclusive, WaitShared, Permits, Enter, Arrive}
use Rattle.saa_core_spec.specs.Held.{Held, OfSemaphore, OfShutSemaphore, OfLock, OfGate, OfBarrier, plus}
use Rattle.saa_core_spec.specs.Object.{Object, Entry, Idle, Waiting, Answered, Waiter, entry_at}
use Rattle.saa_core_spec.specs.Settling.{fitting_front, plus_all, answered_entry, answered_in, settled}
use Rattle.saa_core_spec.specs.Values.{closed_value}
use Rattle.saa_core_spec.specs.Semaphore.{out_of}
use Rattle.saa_core_laws.specs.Laws.{is_waiting}
use Rattle.saa_core_laws.specs.Registrations.{is_answered}
use Rattle.saa_core_laws.specs.Conservation.{permits_of, granted_between, granted_in_books}
use Rattle.saa_core_laws.proofs.Order.{IsInStep, IsInStep-answered, entry_at-same, set_past, length-answered_in, waits-first, within-waiting, Contains-first}
use Rattle.saa_core_laws.proofs.SemaphoreLaws.{IsFineSemaphore}
use Rattle.saa_core_laws.proofs.Books.{entry_at-answered_in}

-- nobody is granted anything by an entry that stays
pub granted_between-same : (entry : Entry) → granted_between entry entry ≡ 0
granted_between-same Idle = refl
granted_between-same (Waiting request is_sync) = refl
granted_between-same (Answered value request is_sync slotted) = refl

-- nor who doesn't wait
pub granted_between-still : (entry after : Entry) → is_waiting entry ≡ false → granted_between entry after ≡ 0
granted_between-still Idle after e = refl
granted_between-still (Waiting request is_sync) after e = cc
granted_between-still (Answered value request is_sync slotted) after e = refl

-- nor an entry that isn't answered
pub granted_between-unanswered : (entry after : Entry) → is_answered after ≡ false → granted_between entry after ≡ 0
granted_between-unanswered Idle after e = refl
granted_between-unanswered (Waiting request is_sync) Idle e = refl
granted_between-unanswered (Waiting request is_sync) (Waiting asked was_sync) e = refl
granted_between-unanswered (Waiting request is_sync) (Answered value asked was_sync slotted) e = cc
granted_between-unanswered (Answered value request is_sync slotted) after e = refl

-- nothing is granted in a book that stays
pub granted_in_books-same : (book : List Entry) → granted_in_books book book ≡ 0
granted_in_books-same [] = refl
granted_in_books-same (entry ∷ book) = omega (arith, granted_between-same entry, granted_in_books-same book)

-- a write to the book before
pub granted_in_books-before : (book after : List Entry) (name : ℕ) (entry : Entry) → name < length book → length after ≡ length book
    → granted_in_books (set book name entry) after + granted_between (entry_at book name) (entry_at after name)
    ≡ granted_in_books book after + granted_between entry (entry_at after name)
granted_in_books-before [] after name entry within size = absurd (omega arith)
granted_in_books-before (first ∷ book) [] name entry within size = absurd (omega arith)
granted_in_books-before (first ∷ book) (other ∷ after) zero entry within size = omega arith
granted_in_books-before (first ∷ book) (other ∷ after) (suc name) entry within size =
    omega (arith, granted_in_books-before book after name entry (omega arith) (omega arith))

-- a write to the book after
pub granted_in_books-after : (book after : List Entry) (name : ℕ) (entry : Entry) → name < length book → length after ≡ length book
    → granted_in_books book (set after name entry) + granted_between (entry_at book name) (entry_at after name)
    ≡ granted_in_books book after + granted_between (entry_at book name) entry
granted_in_books-after [] after name entry within size = absurd (omega arith)
granted_in_books-after (first ∷ book) [] name entry within size = absurd (omega arith)
granted_in_books-after (first ∷ book) (other ∷ after) zero entry within size = omega arith
granted_in_books-after (first ∷ book) (other ∷ after) (suc name) entry within size =
    omega (arith, granted_in_books-after book after name entry (omega arith) (omega arith))

-- one entry is written that grants nothing
pub granted_in_books-written : (book : List Entry) (name : ℕ) (entry : Entry) → granted_between (entry_at book name) entry ≡ 0
    → granted_in_books book (set book name entry) ≡ 0
granted_in_books-written book name entry none = elim (cases_lt name (length book)) [
  | inl within ↦ omega (arith, granted_in_books-after book book name entry within refl, granted_in_books-same book)
  | inr past ↦ ap (granted_in_books book) (set_past book name entry past) ∙ granted_in_books-same book
]

-- an entry is emptied first that is granted nothing afterwards
pub granted_in_books-emptied : (book after : List Entry) (name : ℕ) → length after ≡ length book
    → granted_between (entry_at book name) (entry_at after name) ≡ 0
    → granted_in_books book after ≡ granted_in_books (set book name Idle) after
granted_in_books-emptied book after name size none = elim (cases_lt name (length book)) [
  | inl within ↦ omega (arith, granted_in_books-before book after name Idle within size)
  | inr past ↦ sym (ap (λ b. granted_in_books b after) (set_past book name Idle past))
]

-- what the waiters of a line ask together
abbrev pub asked : List Waiter → ℕ
asked [] = 0
asked (waiter ∷ line) = permits_of waiter.1 + asked line

-- what a semaphore has out with a request granted
pub out-plus : (bound out : ℕ) (request : Request) → plus (OfSemaphore bound out) request ≡ OfSemaphore bound (out + permits_of request)
out-plus bound out (Permits n) = refl
out-plus bound out AskExclusive = ap (λ n. OfSemaphore bound n) (omega arith)
out-plus bound out AskShared = ap (λ n. OfSemaphore bound n) (omega arith)
out-plus bound out WaitExclusive = ap (λ n. OfSemaphore bound n) (omega arith)
out-plus bound out WaitShared = ap (λ n. OfSemaphore bound n) (omega arith)
out-plus bound out Enter = ap (λ n. OfSemaphore bound n) (omega arith)
out-plus bound out Arrive = ap (λ n. OfSemaphore bound n) (omega arith)

-- and with a line granted
pub out-plus_all : (bound out : ℕ) (line : List Waiter) → out_of (plus_all (OfSemaphore bound out) line) ≡ out + asked line
out-plus_all bound out [] = omega arith
out-plus_all bound out (waiter ∷ line) =
    ap (λ held. out_of (plus_all held line)) (out-plus bound out waiter.1) ∙ omega (arith, out-plus_all bound (out + permits_of waiter.1) line)

-- the same of the front that fits, whatever a semaphore has out; at a shut one nobody fits
pub out-plus_front : (most : ℕ) (held : Held) (line : List Waiter) → IsFineSemaphore most held
    → out_of (plus_all held (take (fitting_front held line) line)) ≡ out_of held + asked (take (fitting_front held line) line)
out-plus_front most (OfSemaphore bound out) line fine = out-plus_all bound out (take (fitting_front (OfSemaphore bound out) line) line)
out-plus_front most (OfShutSemaphore bound out) [] fine = omega arith
out-plus_front most (OfShutSemaphore bound out) (waiter ∷ line) fine = omega arith
out-plus_front most (OfLock lock) line fine = absurd fine
out-plus_front most (OfGate gate) line fine = absurd fine
out-plus_front most (OfBarrier size arrived round) line fine = absurd fine

-- what the k oldest are granted is what they asked
pub granted_in_books-front : (k : ℕ) (line : List Waiter) (book : List Entry) → IsInStep line book
    → granted_in_books book (answered_in 0 (take k line) book) ≡ asked (take k line)
granted_in_books-front zero line book step = granted_in_books-same book
granted_in_books-front (suc k) [] book step = granted_in_books-same book
granted_in_books-front (suc k) (waiter ∷ line) book step =
    let was = step.same_request waiter.0 waiter.1 (Contains-first waiter line) in
    let at : entry_at book waiter.0 ≡ Waiting waiter.1 was.0 = was.1 in
    let next : List Entry = set book waiter.0 (answered_entry 0 (entry_at book waiter.0)) in
    let after : List Entry = answered_in 0 (take k line) next in
    let within : waiter.0 < length book = within-waiting book waiter.0 (waits-first waiter line book step) in
    let own : entry_at next waiter.0 ≡ Answered 0 waiter.1 was.0 true = entry_at-same book waiter.0 _ within ∙ ap (answered_entry 0) at in
    let final : entry_at after waiter.0 ≡ Answered 0 waiter.1 was.0 true = elim (entry_at-answered_in 0 (take k line) next waiter.0) [
      | inl same ↦ same ∙ own
      | inr again ↦ again ∙ ap (answered_entry 0) own
    ] in
    let size : length after ≡ length book = length-answered_in 0 (take k line) next ∙ length-set book waiter.0 _ in
    let gives : granted_between (entry_at book waiter.0) (entry_at after waiter.0) ≡ permits_of waiter.1 =
    ap (λ e. granted_between e (entry_at after waiter.0)) at ∙ ap (granted_between (Waiting waiter.1 was.0)) final in
    let gave : granted_between (answered_entry 0 (entry_at book waiter.0)) (entry_at after waiter.0) ≡ 0 =
    ap (λ e. granted_between (answered_entry 0 e) (entry_at after waiter.0)) at in
    omega (
      arith,
      granted_in_books-front k line next (IsInStep-answered 0 waiter line book step),
      granted_in_books-before book after waiter.0 (answered_entry 0 (entry_at book waiter.0)) within size,
      gives,
      gave,
    )

-- what settling grants is out more
pub out-settled : (most : ℕ) (s : Object) → IsFineSemaphore most s.held → IsInStep s.line s.book
    → out_of (settled s).held ≡ out_of s.held + granted_in_books s.book (settled s).book
unfolding settled
out-settled most s fine step =
    omega (
      arith,
      out-plus_front most s.held s.line fine,
      granted_in_books-front (fitting_front s.held s.line) s.line s.book step,
    )

-- a call that is told that the semaphore is shut is granted nothing
pub granted_between-closed : (entry : Entry) → granted_between entry (answered_entry closed_value entry) ≡ 0
granted_between-closed Idle = refl
granted_between-closed (Waiting request is_sync) = refl
granted_between-closed (Answered value request is_sync slotted) = refl

-- nothing is granted between books in which no name is granted anything
pub granted_in_books-none : (before after : List Entry) → ((name : ℕ) → granted_between (entry_at before name) (entry_at after name) ≡ 0)
    → granted_in_books before after ≡ 0
granted_in_books-none [] after each = refl
granted_in_books-none (entry ∷ before) [] each = refl
granted_in_books-none (entry ∷ before) (other ∷ after) each =
    let first : granted_between entry other ≡ 0 = each 0 in
    omega (arith, first, granted_in_books-none before after (λ name. each (suc name)))

-- so a shut grants nothing
pub granted_in_books-closed : (line : List Waiter) (book : List Entry) → granted_in_books book (answered_in closed_value line book) ≡ 0
granted_in_books-closed line book = granted_in_books-none book (answered_in closed_value line book) (λ name.
    elim (entry_at-answered_in closed_value line book name) [
      | inl same ↦ rw same (granted_between-same (entry_at book name))
      | inr closed ↦ rw closed (granted_between-closed (entry_at book name))
    ])

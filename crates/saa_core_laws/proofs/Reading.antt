-- A registration is answered at most once and its answer consumed at most once: by one command, and then by a run.
use Rattle.std.proofs.Common.{◌≡◌, ℕ, ◌<◌, Bool, true, false, not, ◌||◌, eqb, cond, inl, inr, List, length, set, Option, Some, None, refl, sym, ap, subst, ◌∙◌, arith, length-set}
use Rattle.std.proofs.lemmas.Bool.{cases_Bool, cases_lt, eqb-true, eqb-false}
use Rattle.saa_core_spec.specs.declared.request.Request.{Request}
use Rattle.saa_core_spec.specs.declared.polling.How.{How}
use Rattle.saa_core_spec.specs.Held.{asks_too_much}
use Rattle.saa_core_spec.specs.Object.{Object, After, Entry, Idle, Waiting, Answered, entry_at, with_entry, without}
use Rattle.saa_core_spec.specs.Asking.{is_idle, answer_at_once, registered, registered_of}
use Rattle.saa_core_spec.specs.Polling.{is_right_mode, polled_in, polled_of, polled, dropped_of, dropped, withdrawn_of, withdrawn}
use Rattle.saa_core_spec.specs.Values.{granted_value}
use Rattle.saa_core_laws.specs.Registrations.{is_registered, number_of, is_value, registered_then, is_answered}
use Rattle.saa_core_laws.proofs.Order.{entry_at-same, entry_at-other, entry_at_past, set_past}
use Rattle.saa_core_laws.proofs.Commands.{or_false-left}
use Rattle.saa_core_laws.proofs.Books.{KeepsBook, KeepsBook-same, KeepsBook-left_of, KeepsBook-quietly_left_of, KeepsBook-undone_of, KeepsBook-answered}

-- What one command does for one name, whether it registers it, polls a value of it or drops it
pub record ReadsStep (name : ℕ) (before after : Object) (made : Bool) (value : Option ℕ) (gone : Bool) : Type 0 where
  pub reads : not (is_idle (entry_at after.book name)) ≡ registered_then made (is_value value || gone) (not (is_idle (entry_at before.book name)))
  pub size : length after.book ≡ length before.book
  pub new : made ≡ true → is_idle (entry_at before.book name) ≡ true
  pub answer : (was : ℕ) → value ≡ Some was
      → (asked : Request) × (is_sync : Bool) × (slotted : Bool) × (entry_at before.book name ≡ Answered was asked is_sync slotted)
  pub kept : is_answered (entry_at before.book name) ≡ true → value ≡ None → gone ≡ false → entry_at after.book name ≡ entry_at before.book name
  pub unmoved : gone ≡ true → is_idle (entry_at before.book name) ≡ true → after ≡ before

-- a step that keeps the book does nothing for any name
pub ReadsStep-kept : (name : ℕ) (before after : Object) → KeepsBook before.book after.book → ReadsStep name before after false None false
ReadsStep-kept name before after keeps = record {
  reads = ap not (keeps.idle name);
  size = keeps.size;
  new = λ e. cc;
  answer = λ was e. cc;
  kept = λ there none still. keeps.answer name there;
  unmoved = λ e. cc;
}

-- a command for another name keeps what a name has, and a step that changes nothing does
pub ReadsStep-unchanged : (name : ℕ) (s : Object) → ReadsStep name s s false None false
ReadsStep-unchanged name s = ReadsStep-kept name s s (KeepsBook-same s.book)

-- the choice of two steps by whether a name is the one that a command speaks of
pub ReadsStep-named : (name other : ℕ) (before after : Object) (made gone : Bool) (value : Option ℕ)
    → (other ≡ name → ReadsStep name before after made value gone)
    → ((name ≡ other → ⊥) → ReadsStep name before after false None false)
    → ReadsStep name before after (cond (eqb other name) made false) (cond (eqb other name) value None) (cond (eqb other name) gone false)
ReadsStep-named name other before after made gone value own others = elim (cases_Bool (eqb other name)) [
  | inl e ↦ rw e (own (eqb-true other name e))
  | inr e ↦ rw e (others (λ same. eqb-false other name e (sym same)))
]

-- an entry that isn't answered isn't told
pub is_answered-idle : (entry : Entry) → is_idle entry ≡ true → is_answered entry ≡ true → ⊥
is_answered-idle Idle e there = cc
is_answered-idle (Waiting request is_sync) e there = cc
is_answered-idle (Answered value request is_sync slotted) e there = cc

-- what is not idle is answered or waits
pub is_idle-entry : (book : List Entry) (name : ℕ) (entry : Entry) → entry_at book name ≡ entry → is_idle entry ≡ false → name < length book
is_idle-entry book name entry at busy = elim (cases_lt name (length book)) [
  | inl within ↦ within
  | inr past ↦
      let idle : is_idle (entry_at book name) ≡ true = ap is_idle (entry_at_past book name past) in
      let none : is_idle (entry_at book name) ≡ false = ap is_idle at ∙ busy in
      cc
]

-- a step that keeps the book, and then writes the entry of a name
pub idle-written_last : (before kept : List Entry) (name other : ℕ) (entry : Entry) → KeepsBook before kept → (name ≡ other → ⊥)
    → is_idle (entry_at (set kept other entry) name) ≡ is_idle (entry_at before name)
idle-written_last before kept name other entry keeps ne = ap is_idle (entry_at-other kept other name entry ne) ∙ keeps.idle name

-- for another name it does nothing
pub ReadsStep-other_last : (name other : ℕ) (before after : Object) (kept : List Entry) (entry : Entry) → after.book ≡ set kept other entry
    → KeepsBook before.book kept → (name ≡ other → ⊥) → ReadsStep name before after false None false
ReadsStep-other_last name other before after kept entry e keeps ne = record {
  reads = ap not (ap (λ b. is_idle (entry_at b name)) e ∙ idle-written_last before.book kept name other entry keeps ne);
  size = ap (λ (b : List Entry). length b) e ∙ length-set kept other entry ∙ keeps.size;
  new = λ e. cc;
  answer = λ was e. cc;
  kept = λ there none still. ap (λ b. entry_at b name) e ∙ entry_at-other kept other name entry ne ∙ keeps.answer name there;
  unmoved = λ e. cc;
}

-- for another name a step does nothing that writes an entry, and then keeps the book
pub ReadsStep-other_first : (name other : ℕ) (before after : Object) (entry : Entry)
    → KeepsBook (set before.book other entry) after.book → (name ≡ other → ⊥) → ReadsStep name before after false None false
ReadsStep-other_first name other before after entry keeps ne =
    let same = entry_at-other before.book other name entry ne in
    record {
      reads = ap not (keeps.idle name ∙ ap is_idle same);
      size = keeps.size ∙ length-set before.book other entry;
      new = λ e. cc;
      answer = λ was e. cc;
      kept = λ there none still. keeps.answer name (ap is_answered same ∙ there) ∙ same;
      unmoved = λ e. cc;
    }

-- a registration writes the entry of its own name, which was idle
pub ReadsStep-made : (name : ℕ) (before after : Object) (kept : List Entry) (entry : Entry) → name < length before.book
    → is_idle entry ≡ false → is_idle (entry_at before.book name) ≡ true → after.book ≡ set kept name entry → KeepsBook before.book kept
    → ReadsStep name before after true None false
ReadsStep-made name before after kept entry within busy idle e keeps = record {
  reads = ap not (ap (λ b. is_idle (entry_at b name)) e ∙ ap is_idle (entry_at-same kept name entry (omega (arith, keeps.size))) ∙ busy);
  size = ap (λ (b : List Entry). length b) e ∙ length-set kept name entry ∙ keeps.size;
  new = λ _. idle;
  answer = λ was e. cc;
  kept = λ there. absurd (is_answered-idle _ idle there);
  unmoved = λ e. cc;
}

-- an entry that is written as idle is so, whether or not the name is in the book
pub is_idle-emptied : (book : List Entry) (name : ℕ) → is_idle (entry_at (set book name Idle) name) ≡ true
is_idle-emptied book name = elim (cases_lt name (length book)) [
  | inl within ↦ ap is_idle (entry_at-same book name Idle within)
  | inr past ↦ ap (λ b. is_idle (entry_at b name)) (set_past book name Idle past) ∙ ap is_idle (entry_at_past book name past)
]

-- a drop empties the entry of its own name, which wasn't idle
pub ReadsStep-gone : (name : ℕ) (before after : Object) → is_idle (entry_at before.book name) ≡ false
    → KeepsBook (set before.book name Idle) after.book → ReadsStep name before after false None true
ReadsStep-gone name before after busy keeps = record {
  reads = ap not (keeps.idle name ∙ is_idle-emptied before.book name);
  size = keeps.size ∙ length-set before.book name Idle;
  new = λ e. cc;
  answer = λ was e. cc;
  kept = λ there none still. cc;
  unmoved = λ _ idle. cc;
}

-- a drop of an idle name changes nothing
pub ReadsStep-idle_gone : (name : ℕ) (s : Object) → is_idle (entry_at s.book name) ≡ true → ReadsStep name s s false None true
ReadsStep-idle_gone name s idle = record {
  reads = ap not idle;
  size = refl;
  new = λ e. cc;
  answer = λ was e. cc;
  kept = λ there none still. cc;
  unmoved = λ _ _. refl;
}

-- a poll that has a value empties the entry of its own name
pub ReadsStep-had : (name : ℕ) (before after : Object) (value : ℕ) (request : Request) (is_sync slotted : Bool)
    → entry_at before.book name ≡ Answered value request is_sync slotted → after.book ≡ set before.book name Idle
    → ReadsStep name before after false (Some value) false
ReadsStep-had name before after value request is_sync slotted at e = record {
  reads = ap not (ap (λ b. is_idle (entry_at b name)) e ∙ is_idle-emptied before.book name);
  size = ap (λ (b : List Entry). length b) e ∙ length-set before.book name Idle;
  new = λ e. cc;
  answer = λ was is. let same : value ≡ was = cc in (request, is_sync, slotted, rw (← same) at);
  kept = λ there none still. cc;
  unmoved = λ e. cc;
}

-- a poll of another name
pub ReadsStep-emptied_other : (name other : ℕ) (before after : Object) → after.book ≡ set before.book other Idle → (name ≡ other → ⊥)
    → ReadsStep name before after false None false
ReadsStep-emptied_other name other before after e ne = ReadsStep-other_last name other before after before.book Idle e (KeepsBook-same before.book) ne

-- a poll in the right mode or not, of a name with this entry
pub ReadsStep-polled_in : (name other : ℕ) (s : Object) (entry : Entry) (is_right : Bool) → entry_at s.book other ≡ entry
    → ReadsStep name s (polled_in s other entry is_right).state
    (cond (eqb other name) false false) (cond (eqb other name) (number_of (polled_in s other entry is_right).reply) None) (cond (eqb other name) false false)
ReadsStep-polled_in name other s entry false at =
    ReadsStep-named name other s s false false None (λ _. ReadsStep-unchanged name s) (λ _. ReadsStep-unchanged name s)
ReadsStep-polled_in name other s Idle true at =
    ReadsStep-named name other s s false false None (λ _. ReadsStep-unchanged name s) (λ _. ReadsStep-unchanged name s)
ReadsStep-polled_in name other s (Waiting request is_sync) true at =
    ReadsStep-named name other s s false false None (λ _. ReadsStep-unchanged name s) (λ _. ReadsStep-unchanged name s)
ReadsStep-polled_in name other s (Answered value request is_sync slotted) true at =
    ReadsStep-named name other s (with_entry s other Idle) false false (Some value)
    (λ same. ReadsStep-had name s (with_entry s other Idle) value request is_sync slotted (ap (entry_at s.book) (sym same) ∙ at) (ap (λ n. set s.book n Idle) same))
    (λ ne. ReadsStep-emptied_other name other s (with_entry s other Idle) refl ne)

-- a poll of a name with this entry
pub ReadsStep-polled_of : (name other : ℕ) (s : Object) (how : How) (entry : Entry) → entry_at s.book other ≡ entry
    → ReadsStep name s (polled_of s other how entry).state
    (cond (eqb other name) false false) (cond (eqb other name) (number_of (polled_of s other how entry).reply) None) (cond (eqb other name) false false)
ReadsStep-polled_of name other s how Idle at =
    ReadsStep-named name other s s false false None (λ _. ReadsStep-unchanged name s) (λ _. ReadsStep-unchanged name s)
ReadsStep-polled_of name other s how (Waiting request is_sync) at =
    ReadsStep-polled_in name other s (Waiting request is_sync) (is_right_mode how is_sync) at
ReadsStep-polled_of name other s how (Answered value request is_sync slotted) at =
    ReadsStep-polled_in name other s (Answered value request is_sync slotted) (is_right_mode how is_sync) at

-- a choice of two that are the same
pub cond_same : (b : Bool) → cond b false false ≡ false
cond_same true = refl
cond_same false = refl

-- every poll
pub ReadsStep-polled : (name other : ℕ) (s : Object) (how : How)
    → ReadsStep name s (polled s other how).state false (cond (eqb other name) (number_of (polled s other how).reply) None) false
ReadsStep-polled name other s how =
    let step = ReadsStep-polled_of name other s how (entry_at s.book other) refl in
    let P : Bool → Type 0 = λ b. ReadsStep name s (polled s other how).state b (cond (eqb other name) (number_of (polled s other how).reply) None) b in
    subst P (cond_same (eqb other name)) step

-- a registration, by its four cases
pub ReadsStep-registered_of : (name other : ℕ) (s : Object) (request : Request) (is_sync is_refused : Bool) (answer : Option (After ℕ)) (is_full : Bool)
    → other < length s.book → (is_refused ≡ false → is_idle (entry_at s.book other) ≡ true) → answer_at_once s request ≡ answer
    → ReadsStep name s (registered_of s other request is_sync is_refused answer is_full).state
    (cond (eqb other name) (is_registered (registered_of s other request is_sync is_refused answer is_full).reply) false)
    (cond (eqb other name) None None) (cond (eqb other name) false false)
ReadsStep-registered_of name other s request is_sync true answer is_full within idle e =
    ReadsStep-named name other s s false false None (λ _. ReadsStep-unchanged name s) (λ _. ReadsStep-unchanged name s)
ReadsStep-registered_of name other s request is_sync false (Some answer) is_full within idle e =
    let keeps = KeepsBook-answered s s.held request answer e in
    ReadsStep-named name other s (with_entry answer.state other (Answered answer.reply request is_sync false)) true false None
    (λ same. rw (← same) (ReadsStep-made other s (with_entry answer.state other (Answered answer.reply request is_sync false)) answer.state.book
    (Answered answer.reply request is_sync false) within refl (idle refl) refl keeps))
    (λ ne. ReadsStep-other_last name other s (with_entry answer.state other (Answered answer.reply request is_sync false)) answer.state.book
    (Answered answer.reply request is_sync false) refl keeps ne)
ReadsStep-registered_of name other s request is_sync false None true within idle e =
    ReadsStep-named name other s s false false None (λ _. ReadsStep-unchanged name s) (λ _. ReadsStep-unchanged name s)
ReadsStep-registered_of name other s request is_sync false None false within idle e =
    ReadsStep-named name other s _ true false None
    (λ same. rw (← same) (ReadsStep-made other s _ s.book (Waiting request is_sync) within refl (idle refl) refl (KeepsBook-same s.book)))
    (λ ne. ReadsStep-other_last name other s _ s.book (Waiting request is_sync) refl (KeepsBook-same s.book) ne)

-- a choice between nothing and nothing
pub cond_nothing : (b : Bool) → ◌≡◌ {A = Option ℕ} (cond b None None) None
cond_nothing true = refl
cond_nothing false = refl

-- every registration of a name that there is
pub ReadsStep-registered : (name other : ℕ) (s : Object) (request : Request) (is_sync : Bool) → other < length s.book
    → ReadsStep name s (registered s other request is_sync).state (cond (eqb other name) (is_registered (registered s other request is_sync).reply) false) None false
ReadsStep-registered name other s request is_sync within =
    let step = ReadsStep-registered_of name other s request is_sync _ (answer_at_once s request) _ within
    (λ e. or_false-left (is_idle (entry_at s.book other)) (asks_too_much s.held request) e) refl in
    let made = cond (eqb other name) (is_registered (registered s other request is_sync).reply) false in
    let P : Bool → Type 0 = λ b. ReadsStep name s (registered s other request is_sync).state made (cond (eqb other name) None None) b in
    let Q : Option ℕ → Type 0 = λ v. ReadsStep name s (registered s other request is_sync).state made v false in
    subst Q (cond_nothing (eqb other name)) (subst P (cond_same (eqb other name)) step)

-- a drop of a name with this entry
pub ReadsStep-dropped_of : (name other : ℕ) (s : Object) (entry : Entry) → entry_at s.book other ≡ entry
    → ReadsStep name s (dropped_of s other entry) (cond (eqb other name) false false) (cond (eqb other name) None None) (cond (eqb other name) true false)
ReadsStep-dropped_of name other s Idle at =
    ReadsStep-named name other s s false true None
    (λ same. ReadsStep-idle_gone name s (ap (λ n. is_idle (entry_at s.book n)) (sym same) ∙ ap is_idle at)) (λ _. ReadsStep-unchanged name s)
ReadsStep-dropped_of name other s (Waiting request is_sync) at =
    let keeps = KeepsBook-left_of (record (with_entry s other Idle) { line = without other s.line }) s.held in
    ReadsStep-named name other s _ false true None
    (λ same. rw (← same) (ReadsStep-gone other s _ (ap is_idle at) keeps))
    (λ ne. ReadsStep-other_first name other s _ Idle keeps ne)
ReadsStep-dropped_of name other s (Answered value request is_sync slotted) at =
    let keeps = KeepsBook-undone_of (with_entry s other Idle) s.held request in
    elim (cases_Bool (eqb value granted_value)) [
      | inl e ↦ rw e (ReadsStep-named name other s _ false true None
          (λ same. rw (← same) (ReadsStep-gone other s _ (ap is_idle at) keeps))
          (λ ne. ReadsStep-other_first name other s _ Idle keeps ne))
      | inr e ↦ rw e (ReadsStep-named name other s _ false true None
          (λ same. rw (← same) (ReadsStep-gone other s (with_entry s other Idle) (ap is_idle at) (KeepsBook-same _)))
          (λ ne. ReadsStep-other_first name other s (with_entry s other Idle) Idle (KeepsBook-same _) ne))
    ]

-- a choice by a test is the test
pub cond_test : (b : Bool) → cond b true false ≡ b
cond_test true = refl
cond_test false = refl

-- every drop
pub ReadsStep-dropped : (name other : ℕ) (s : Object) → ReadsStep name s (dropped s other) false None (eqb other name)
ReadsStep-dropped name other s =
    let step = ReadsStep-dropped_of name other s (entry_at s.book other) refl in
    let P : Bool → Type 0 = λ b. ReadsStep name s (dropped s other) b (cond (eqb other name) None None) (cond (eqb other name) true false) in
    let Q : Option ℕ → Type 0 = λ v. ReadsStep name s (dropped s other) false v (cond (eqb other name) true false) in
    let R : Bool → Type 0 = λ b. ReadsStep name s (dropped s other) false None b in
    subst R (cond_test (eqb other name)) (subst Q (cond_nothing (eqb other name)) (subst P (cond_same (eqb other name)) step))

-- a withdrawal of a name with this entry
pub ReadsStep-withdrawn_of : (name other : ℕ) (s : Object) (entry : Entry) → entry_at s.book other ≡ entry
    → ReadsStep name s (withdrawn_of s other entry) (cond (eqb other name) false false) (cond (eqb other name) None None) (cond (eqb other name) true false)
ReadsStep-withdrawn_of name other s Idle at = ReadsStep-dropped_of name other s Idle at
ReadsStep-withdrawn_of name other s (Waiting request is_sync) at =
    let keeps = KeepsBook-quietly_left_of (record (with_entry s other Idle) { line = without other s.line }) s.held in
    ReadsStep-named name other s _ false true None
    (λ same. rw (← same) (ReadsStep-gone other s _ (ap is_idle at) keeps))
    (λ ne. ReadsStep-other_first name other s _ Idle keeps ne)
ReadsStep-withdrawn_of name other s (Answered value request is_sync slotted) at =
    ReadsStep-dropped_of name other s (Answered value request is_sync slotted) at

-- every withdrawal
pub ReadsStep-withdrawn : (name other : ℕ) (s : Object) → ReadsStep name s (withdrawn s other) false None (eqb other name)
ReadsStep-withdrawn name other s =
    let step = ReadsStep-withdrawn_of name other s (entry_at s.book other) refl in
    let P : Bool → Type 0 = λ b. ReadsStep name s (withdrawn s other) b (cond (eqb other name) None None) (cond (eqb other name) true false) in
    let Q : Option ℕ → Type 0 = λ v. ReadsStep name s (withdrawn s other) false v (cond (eqb other name) true false) in
    let R : Bool → Type 0 = λ b. ReadsStep name s (withdrawn s other) false None b in
    subst R (cond_test (eqb other name)) (subst Q (cond_nothing (eqb other name)) (subst P (cond_same (eqb other name)) step))

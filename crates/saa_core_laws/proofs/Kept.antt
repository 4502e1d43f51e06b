-- What every step of every primitive keeps of the object: line and book keep step, there is room, and no name is lost.
use Rattle.std.proofs.Common.{◌≡◌, ℕ, zero, suc, ◌<◌, ◌≤◌, Bool, true, false, eqb, length, take, replicate, refl, sym, ap, ◌∙◌, arith, length-set}
use Rattle.std.proofs.lemmas.Bool.{eqb-false}
use Rattle.std.proofs.lemmas.List.{length-replicate}
use Rattle.saa_core_spec.specs.declared.request.Request.{Request}
use Rattle.saa_core_spec.specs.Held.{Held}
use Rattle.saa_core_spec.specs.Object.{Object, Entry, Idle, Waiting, Answered, newly_made, entry_at, with_entry, holds_slot, one_if, slots_in, used, without}
use Rattle.saa_core_spec.specs.Settling.{fitting_front, granted, settled, all_answered}
use Rattle.saa_core_spec.specs.Asking.{joined, is_idle}
use Rattle.saa_core_spec.specs.Values.{permitted_value}
use Rattle.saa_core_spec.specs.Gate.{front_permitted}
use Rattle.saa_core_laws.specs.Laws.{is_waiting, IsInOrder}
use Rattle.saa_core_laws.proofs.Order.{IsInStep, slots_in-set, slots_in-answered_in, length-answered_in, IsInStep-granted, IsInStep-all_answered, IsInStep-written, IsInStep-without, IsInStep-joined, one_if-zero}

-- an object whose line and book keep step, with as many names as ever, and no more slots held than there is room
pub record IsKept (names : ℕ) (s : Object) : Type 0 where
  pub in_step : IsInStep s.line s.book
  pub within_room : used s ≤ s.room
  pub size : length s.book ≡ names

-- such an object is in order
pub IsInOrder-kept : (names : ℕ) (s : Object) → IsKept names s → IsInOrder s
IsInOrder-kept names s kept = record {
  once = kept.in_step.once;
  same_request = kept.in_step.same_request;
  within_room = kept.within_room;
}

-- an idle entry doesn't wait
pub is_waiting-idle : (entry : Entry) → is_idle entry ≡ true → is_waiting entry ≡ false
is_waiting-idle Idle e = refl
is_waiting-idle (Waiting request is_sync) e = cc
is_waiting-idle (Answered value request is_sync slotted) e = refl

-- nobody is known of at first
pub entry_at-replicate : (names name : ℕ) → entry_at (replicate names Idle) name ≡ Idle
entry_at-replicate zero name = refl
entry_at-replicate (suc names) zero = refl
entry_at-replicate (suc names) (suc name) = entry_at-replicate names name

-- and no slot is held
pub slots_in-replicate : (names : ℕ) → slots_in (replicate names Idle) ≡ 0
slots_in-replicate zero = refl
slots_in-replicate (suc names) = omega (arith, slots_in-replicate names)

-- a newly made object
pub IsKept-newly_made : (held : Held) (room names : ℕ) → IsKept names (newly_made held room names)
IsKept-newly_made held room names = record {
  in_step = record {
    once = λ name. sym (ap (λ e. one_if (is_waiting e)) (entry_at-replicate names name));
    same_request = λ name request in_line. absurd (omega (arith, in_line.1));
  };
  within_room = omega (arith, slots_in-replicate names);
  size = length-replicate names Idle;
}

-- another value held
pub IsKept-held : (names : ℕ) (s : Object) (held : Held) → IsKept names s → IsKept names (record s { held = held })
IsKept-held names s held kept = record { in_step = kept.in_step; within_room = kept.within_room; size = kept.size }

-- an entry without a slot for a name that doesn't wait
pub IsKept-written : (names : ℕ) (s : Object) (name : ℕ) (entry : Entry) → is_waiting (entry_at s.book name) ≡ false
    → is_waiting entry ≡ false → holds_slot entry ≡ false → IsKept names s → IsKept names (with_entry s name entry)
IsKept-written names s name entry before after no_slot kept = record {
  in_step = IsInStep-written s.line s.book name entry before after kept.in_step;
  within_room = omega (arith, kept.within_room, slots_in-set s.book name entry, ap one_if no_slot);
  size = length-set s.book name entry ∙ kept.size;
}

-- a name that leaves the line
pub IsKept-left : (names : ℕ) (s : Object) (name : ℕ) → IsKept names s
    → IsKept names (record (with_entry s name Idle) { line = without name s.line })
IsKept-left names s name kept = record {
  in_step = IsInStep-without s.line s.book name Idle refl kept.in_step;
  within_room = omega (arith, kept.within_room, slots_in-set s.book name Idle);
  size = length-set s.book name Idle ∙ kept.size;
}

-- the k oldest are granted
pub IsKept-granted : (names : ℕ) (s : Object) (k : ℕ) → IsKept names s → IsKept names (granted k s)
IsKept-granted names s k kept = record {
  in_step = IsInStep-granted 0 k s.line s.book kept.in_step;
  within_room = omega (arith, kept.within_room, slots_in-answered_in 0 (take k s.line) s.book);
  size = length-answered_in 0 (take k s.line) s.book ∙ kept.size;
}

-- settling
pub IsKept-settled : (names : ℕ) (s : Object) → IsKept names s → IsKept names (settled s)
unfolding settled
IsKept-settled names s kept = IsKept-granted names s (fitting_front s.held s.line) kept

-- the k oldest are permitted
pub IsKept-front_permitted : (names : ℕ) (s : Object) (k : ℕ) → IsKept names s → IsKept names (front_permitted k s)
IsKept-front_permitted names s k kept = record {
  in_step = IsInStep-granted permitted_value k s.line s.book kept.in_step;
  within_room = omega (arith, kept.within_room, slots_in-answered_in permitted_value (take k s.line) s.book);
  size = length-answered_in permitted_value (take k s.line) s.book ∙ kept.size;
}

-- all waiters are answered
pub IsKept-all_answered : (names value : ℕ) (s : Object) → IsKept names s → IsKept names (all_answered value s)
IsKept-all_answered names value s kept = record {
  in_step = IsInStep-all_answered value s.line s.book kept.in_step;
  within_room = omega (arith, kept.within_room, slots_in-answered_in value s.line s.book);
  size = length-answered_in value s.line s.book ∙ kept.size;
}

-- a name joins the line, where a slot is left
pub IsKept-joined : (names : ℕ) (s : Object) (name : ℕ) (request : Request) (is_sync : Bool) → name < names
    → is_waiting (entry_at s.book name) ≡ false → eqb (used s) s.room ≡ false → IsKept names s → IsKept names (joined s name request is_sync)
IsKept-joined names s name request is_sync within before not_full kept =
    let free = eqb-false (used s) s.room not_full in
    record {
      in_step = IsInStep-joined s.line s.book name request is_sync (omega (arith, kept.size)) before kept.in_step;
      within_room = omega (arith, kept.within_room, slots_in-set s.book name (Waiting request is_sync));
      size = length-set s.book name (Waiting request is_sync) ∙ kept.size;
    }

-- after all waiters are answered nobody waits
pub is_waiting-all_answered : (names value : ℕ) (s : Object) (name : ℕ) → IsKept names s
    → is_waiting (entry_at (all_answered value s).book name) ≡ false
is_waiting-all_answered names value s name kept =
    one_if-zero _ (sym ((IsKept-all_answered names value s kept).in_step.once name))

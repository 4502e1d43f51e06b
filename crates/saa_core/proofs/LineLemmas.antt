-- Lemmas on how a line keeps its slots: what each of its steps keeps.
use Rattle.std.proofs.Common.{◌≡◌, ℕ, suc, zero, ◌+◌, ◌≤◌, ◌<◌, Bool, true, false, List, [], ◌∷◌, ◌++◌, length, Some, None, Option, is_some, replicate, get_or, set, take, drop, nat_lt, ◌==◌, refl, sym, ap, ◌∙◌, add-one, arith, inl, inr, slice_get}
use Rattle.std.specs.List.{remove}
use Rattle.std.proofs.Math.Seq.{take-suc}
use Rattle.std.proofs.lemmas.Bool.{cases_Bool}
use Rattle.std.proofs.lemmas.Bool.Decides.{nat_tests}
use Rattle.std.proofs.lemmas.List.{length-set, length_push, length-replicate}
use Rattle.saa_core_spec.specs.declared.request.Request.{Request}
use Rattle.saa_core_spec.specs.Object.{Waiter, one_if, times, without}
use Rattle.saa_core.specs.Slots.{answer_in, answer_count, IsSound, answered_slots, count_of, pending_after}
use Rattle.saa_core.specs.LineParts.{mark_of, IsLine, ArePending}
use Rattle.saa_core.proofs.WakesLemmas.{count_of-push, get_or-set_cases, mark_of-replicate}
use Rattle.saa_core_spec.proofs.Counts.{one_if-le, one_if-same, times-push, without-absent, times-without_same, times-without_other, length-without}

-- a test that counts holds
pub one_if-nat_lt : (a b : ℕ) → 0 < one_if (nat_lt a b) → a < b
one_if-nat_lt a b counts =
    elim (cases_Bool (nat_lt a b)) [
      | inl below ↦ grind (arith, nat_tests)
      | inr above ↦
          let none : one_if (nat_lt a b) ≡ 0 = ap one_if above in
          absurd (omega (arith, none))
    ]

-- a ticket at a place of the line is in the line
pub times-at : (slot : ℕ) (line : List Waiter) (place : ℕ) (waiter : Waiter) → slice_get line place ≡ Some waiter → waiter.0 ≡ slot → 0 < times slot line
times-at slot [] place waiter at_place is = absurd (cc)
times-at slot (first ∷ rest) zero waiter at_place is =
    let same : first.0 ≡ slot = cc in
    let test : one_if (first.0 == slot) ≡ 1 = ap (λ (n : ℕ). one_if (n == slot)) same ∙ one_if-same slot in
    omega (arith, test)
times-at slot (first ∷ rest) (suc place) waiter at_place is = omega (arith, times-at slot rest place waiter at_place is)

-- to take the one place of a slot out of the line is to take the slot out
pub remove-without : (slot : ℕ) (line : List Waiter) (place : ℕ) (waiter : Waiter) → slice_get line place ≡ Some waiter → waiter.0 ≡ slot → times slot line ≡ 1 → remove line place ≡ without slot line
remove-without slot [] place waiter at_place is once = absurd (cc)
remove-without slot (first ∷ rest) zero waiter at_place is once =
    let same : first.0 ≡ slot = cc in
    let test : first.0 == slot ≡ true = grind (arith, nat_tests) in
    let one : one_if (first.0 == slot) ≡ 1 = ap one_if test in
    rw test (sym (without-absent slot rest (omega (arith, one))))
remove-without slot (first ∷ rest) (suc place) waiter at_place is once =
    elim (cases_Bool (first.0 == slot)) [
      | inl same ↦
          let one : one_if (first.0 == slot) ≡ 1 = ap one_if same in
          absurd (omega (arith, one, times-at slot rest place waiter at_place is))
      | inr apart ↦
          let none : one_if (first.0 == slot) ≡ 0 = ap one_if apart in
          rw apart (ap (λ (ws : List Waiter). first ∷ ws) (remove-without slot rest place waiter at_place is (omega (arith, none))))
    ]

-- writing an answer changes how many there are by that one
pub answer_count-set : (answers : List (Option ℕ)) (slot : ℕ) (answer : Option ℕ) → slot < length answers
    → answer_count (set answers slot answer) + one_if (is_some (answer_in answers slot)) ≡ answer_count answers + one_if (is_some answer)
answer_count-set [] slot answer within = absurd (omega arith)
answer_count-set (first ∷ rest) zero answer within = omega arith
answer_count-set (first ∷ rest) (suc slot) answer within = omega (arith, answer_count-set rest slot answer (omega arith))

-- no answer is there among none
pub answer_in-replicate : (room slot : ℕ) → answer_in (replicate room None) slot ≡ None
answer_in-replicate zero slot = refl
answer_in-replicate (suc room) zero = refl
answer_in-replicate (suc room) (suc slot) = answer_in-replicate room slot

-- none are there among none
pub answer_count-replicate : (room : ℕ) → answer_count (replicate room None) ≡ 0
answer_count-replicate zero = refl
answer_count-replicate (suc room) = omega (arith, answer_count-replicate room)

-- what users see of a line is sound
pub IsSound-from_line : (line : List Waiter) (answers : List (Option ℕ)) (pending_wakes free : List ℕ) (waiting : List Bool) → IsLine line answers free waiting → ArePending pending_wakes (length answers)
    → IsSound (record { line = line; answers = answers; pending_wakes = pending_wakes })
IsSound-from_line line answers pending_wakes free waiting h wakes = record { each = λ slot. omega (arith, h.each slot); pending_once = wakes.each; small = h.small }

-- a slot that waits or has an answer or is free is below the room
pub IsLine-within : (line : List Waiter) (answers : List (Option ℕ)) (free : List ℕ) (waiting : List Bool) (slot : ℕ) → IsLine line answers free waiting → 0 < times slot line + one_if (is_some (answer_in answers slot)) + count_of slot free → slot < length answers
IsLine-within line answers free waiting slot h counts = one_if-nat_lt slot (length answers) (omega (arith, h.each slot))

-- the last free slot isn't held
pub IsLine-free : (line : List Waiter) (answers : List (Option ℕ)) (free rest : List ℕ) (waiting : List Bool) (slot : ℕ) → free ≡ rest ++ slot ∷ [] → IsLine line answers free waiting
    → ((times slot line + one_if (is_some (answer_in answers slot))) ≡ 0) × (slot < length answers)
IsLine-free line answers free rest waiting slot is h =
    let counts : count_of slot free ≡ count_of slot (rest ++ slot ∷ []) = ap (count_of slot) is in
    let bound : one_if (nat_lt slot (length answers)) ≤ 1 = one_if-le (nat_lt slot (length answers)) in
    let push = count_of-push slot rest slot in
    let one = one_if-same slot in (
      omega (arith, counts, bound, push, one, h.each slot),
      IsLine-within line answers free waiting slot h (omega (arith, counts, push, one)),
    )

-- the last free slot joins the line
pub IsLine-joined : (line : List Waiter) (answers : List (Option ℕ)) (free rest : List ℕ) (waiting : List Bool) (slot : ℕ) (request : Request)
    → free ≡ rest ++ slot ∷ [] → IsLine line answers free waiting
    → IsLine (line ++ (slot, request) ∷ []) answers rest (set waiting slot true)
IsLine-joined line answers free rest waiting slot request is h =
    let was = IsLine-free line answers free rest waiting slot is h in
    let within : slot < length waiting = omega (arith, was.1, h.marks) in
    let counts = λ (q : ℕ). let e : count_of q free ≡ count_of q (rest ++ slot ∷ []) = ap (count_of q) is in e in
    let frees : length free ≡ length (rest ++ slot ∷ []) = ap length is in
    record {
      each = λ q. omega (arith, counts q, count_of-push q rest slot, times-push q line (slot, request), h.each q);
      total = omega (arith, frees, length_push rest slot, length_push line (slot, request), h.total);
      small = h.small;
      marked = λ q.
          elim (get_or-set_cases waiting slot true false q within) [
            | inl same ↦
                let now : one_if (mark_of (set waiting slot true) q) ≡ 1 = ap one_if same.2 in
                let test : one_if (slot == q) ≡ 1 = ap one_if same.0 in
                let none : times q line ≡ times slot line = ap (λ (n : ℕ). times n line) (sym same.1) in
                omega (arith, now, test, none, was.0, times-push q line (slot, request))
            | inr apart ↦
                let now : one_if (mark_of (set waiting slot true) q) ≡ one_if (mark_of waiting q) = ap one_if apart.2 in
                let test : one_if (slot == q) ≡ 0 = ap one_if apart.0 in
                omega (arith, now, test, h.marked q, times-push q line (slot, request))
          ];
      marks = length-set waiting slot true ∙ h.marks;
    }

-- a line begins with its oldest
pub line-front : (line : List Waiter) (oldest : Waiter) → Some oldest ≡ slice_get line 0 → line ≡ oldest ∷ drop 1 line
line-front [] oldest is = absurd (cc)
line-front (first ∷ rest) oldest is = let same : first ≡ oldest = cc in ap (λ (w : Waiter). w ∷ rest) same

-- the oldest is answered, and leaves the line
pub IsLine-answered : (line rest : List Waiter) (answers : List (Option ℕ)) (free : List ℕ) (waiting : List Bool) (slot value : ℕ) (request : Request)
    → line ≡ (slot, request) ∷ rest → IsLine line answers free waiting
    → IsLine rest (set answers slot (Some value)) free (set waiting slot false)
IsLine-answered line rest answers free waiting slot value request is h =
    let counts = λ (q : ℕ). let e : times q line ≡ times q ((slot, request) ∷ rest) = ap (times q) is in e in
    let within : slot < length answers = IsLine-within line answers free waiting slot h (omega (arith, counts slot, one_if-same slot)) in
    let in_marks : slot < length waiting = omega (arith, within, h.marks) in
    let size = length-set answers slot (Some value) in
    let lines : length line ≡ length ((slot, request) ∷ rest) = ap length is in
    record {
      each = λ q.
          let bound : one_if (nat_lt q (length answers)) ≤ 1 = one_if-le (nat_lt q (length answers)) in
          let room : one_if (nat_lt q (length (set answers slot (Some value)))) ≡ one_if (nat_lt q (length answers)) = ap (λ (n : ℕ). one_if (nat_lt q n)) size in
          elim (get_or-set_cases answers slot (Some value) None q within) [
            | inl same ↦
                let now : one_if (is_some (answer_in (set answers slot (Some value)) q)) ≡ 1 = ap (λ (a : Option ℕ). one_if (is_some a)) same.2 in
                let test : one_if (slot == q) ≡ 1 = ap one_if same.0 in
                omega (arith, bound, room, now, test, counts q, h.each q)
            | inr apart ↦
                let now : one_if (is_some (answer_in (set answers slot (Some value)) q)) ≡ one_if (is_some (answer_in answers q)) = ap (λ (a : Option ℕ). one_if (is_some a)) apart.2 in
                let test : one_if (slot == q) ≡ 0 = ap one_if apart.0 in
                omega (arith, room, now, test, counts q, h.each q)
          ];
      total =
          let bound : one_if (nat_lt slot (length answers)) ≤ 1 = one_if-le (nat_lt slot (length answers)) in
          omega (arith, bound, size, lines, counts slot, one_if-same slot, answer_count-set answers slot (Some value) within, h.each slot, h.total);
      small = omega (arith, size, h.small);
      marked = λ q.
          let bound : one_if (mark_of waiting q) ≤ 1 = one_if-le (mark_of waiting q) in
          elim (get_or-set_cases waiting slot false false q in_marks) [
            | inl same ↦
                let now : one_if (mark_of (set waiting slot false) q) ≡ 0 = ap one_if same.2 in
                let test : one_if (slot == q) ≡ 1 = ap one_if same.0 in
                omega (arith, bound, now, test, counts q, h.marked q)
            | inr apart ↦
                let now : one_if (mark_of (set waiting slot false) q) ≡ one_if (mark_of waiting q) = ap one_if apart.2 in
                let test : one_if (slot == q) ≡ 0 = ap one_if apart.0 in
                omega (arith, now, test, counts q, h.marked q)
          ];
      marks = omega (arith, size, length-set waiting slot false, h.marks);
    }

-- a slot that waits leaves the line, and is free
pub IsLine-left : (line : List Waiter) (answers : List (Option ℕ)) (free : List ℕ) (waiting : List Bool) (slot : ℕ)
    → times slot line ≡ 1 → IsLine line answers free waiting
    → IsLine (without slot line) answers (free ++ slot ∷ []) (set waiting slot false)
IsLine-left line answers free waiting slot once h =
    let within : slot < length answers = IsLine-within line answers free waiting slot h (omega (arith, once)) in
    let in_marks : slot < length waiting = omega (arith, within, h.marks) in
    record {
      each = λ q.
          elim (get_or-set_cases waiting slot false false q in_marks) [
            | inl same ↦
                let test : one_if (slot == q) ≡ 1 = ap one_if same.0 in
                let was : times q line ≡ 1 = ap (λ (n : ℕ). times n line) (sym same.1) ∙ once in
                let now : times q (without slot line) ≡ 0 = ap (λ (n : ℕ). times n (without slot line)) (sym same.1) ∙ times-without_same slot line in
                omega (arith, test, was, now, count_of-push q free slot, h.each q)
            | inr apart ↦
                let test : one_if (slot == q) ≡ 0 = ap one_if apart.0 in
                omega (arith, test, count_of-push q free slot, times-without_other slot q line apart.1, h.each q)
          ];
      total = omega (arith, once, length_push free slot, length-without slot line, h.total);
      small = h.small;
      marked = λ q.
          elim (get_or-set_cases waiting slot false false q in_marks) [
            | inl same ↦
                let now : one_if (mark_of (set waiting slot false) q) ≡ 0 = ap one_if same.2 in
                let gone : times q (without slot line) ≡ 0 = ap (λ (n : ℕ). times n (without slot line)) (sym same.1) ∙ times-without_same slot line in
                omega (arith, now, gone)
            | inr apart ↦
                let now : one_if (mark_of (set waiting slot false) q) ≡ one_if (mark_of waiting q) = ap one_if apart.2 in
                omega (arith, now, times-without_other slot q line apart.1, h.marked q)
          ];
      marks = length-set waiting slot false ∙ h.marks;
    }

-- the answer of a slot is taken, and the slot is free
pub IsLine-taken : (line : List Waiter) (answers : List (Option ℕ)) (free : List ℕ) (waiting : List Bool) (slot value : ℕ)
    → answer_in answers slot ≡ Some value → IsLine line answers free waiting
    → IsLine line (set answers slot None) (free ++ slot ∷ []) waiting
IsLine-taken line answers free waiting slot value there h =
    let some : one_if (is_some (answer_in answers slot)) ≡ 1 = ap (λ (a : Option ℕ). one_if (is_some a)) there in
    let within : slot < length answers = IsLine-within line answers free waiting slot h (omega (arith, some)) in
    let size = length-set answers slot None in
    record {
      each = λ q.
          let room : one_if (nat_lt q (length (set answers slot None))) ≡ one_if (nat_lt q (length answers)) = ap (λ (n : ℕ). one_if (nat_lt q n)) size in
          elim (get_or-set_cases answers slot None None q within) [
            | inl same ↦
                let now : one_if (is_some (answer_in (set answers slot None) q)) ≡ 0 = ap (λ (a : Option ℕ). one_if (is_some a)) same.2 in
                let test : one_if (slot == q) ≡ 1 = ap one_if same.0 in
                let was : one_if (is_some (answer_in answers q)) ≡ 1 = ap (λ (n : ℕ). one_if (is_some (answer_in answers n))) (sym same.1) ∙ some in
                omega (arith, room, now, test, was, count_of-push q free slot, h.each q)
            | inr apart ↦
                let now : one_if (is_some (answer_in (set answers slot None) q)) ≡ one_if (is_some (answer_in answers q)) = ap (λ (a : Option ℕ). one_if (is_some a)) apart.2 in
                let test : one_if (slot == q) ≡ 0 = ap one_if apart.0 in
                omega (arith, room, now, test, count_of-push q free slot, h.each q)
          ];
      total = omega (arith, some, size, length_push free slot, answer_count-set answers slot None within, h.total);
      small = omega (arith, size, h.small);
      marked = λ q. h.marked q;
      marks = omega (arith, size, h.marks);
    }

-- in a new line every slot is free
pub IsLine-made : (room : ℕ) (free : List ℕ) → room < 65536 → ((q : ℕ) → count_of q free ≡ one_if (nat_lt q room)) → length free ≡ room
    → IsLine [] (replicate room None) free (replicate room false)
IsLine-made room free small counts frees =
    let unanswered : Option ℕ = None in
    let size : length (replicate room unanswered) ≡ room = length-replicate room unanswered in
    record {
      each = λ q.
          let none : one_if (is_some (answer_in (replicate room unanswered) q)) ≡ 0 = ap (λ (a : Option ℕ). one_if (is_some a)) (answer_in-replicate room q) in
          let below : one_if (nat_lt q (length (replicate room unanswered))) ≡ one_if (nat_lt q room) = ap (λ (n : ℕ). one_if (nat_lt q n)) size in
          omega (arith, none, below, counts q);
      total = omega (arith, size, frees, answer_count-replicate room);
      small = omega (arith, size, small);
      marked = λ q.
          let none : one_if (mark_of (replicate room false) q) ≡ 0 = ap one_if (mark_of-replicate room q) in
          omega (arith, none);
      marks = omega (arith, size, length-replicate room false);
    }

-- a slot that waits stands once in the line
pub IsLine-once : (line : List Waiter) (answers : List (Option ℕ)) (free : List ℕ) (waiting : List Bool) (slot : ℕ) → IsLine line answers free waiting → 0 < times slot line → times slot line ≡ 1
IsLine-once line answers free waiting slot h waits = omega (arith, h.marked slot, one_if-le (mark_of waiting slot))

-- the oldest is below the room
pub IsLine-oldest : (line : List Waiter) (answers : List (Option ℕ)) (free : List ℕ) (waiting : List Bool) (rest : List Waiter) (slot : ℕ) (request : Request) → line ≡ (slot, request) ∷ rest → IsLine line answers free waiting → slot < length answers
IsLine-oldest line answers free waiting rest slot request is h =
    let counts : times slot line ≡ times slot ((slot, request) ∷ rest) = ap (times slot) is in
    IsLine-within line answers free waiting slot h (omega (arith, counts, one_if-same slot))

-- where an answer is there, fewer line answers are free than there are
pub IsLine-not_free : (line : List Waiter) (answers : List (Option ℕ)) (free : List ℕ) (waiting : List Bool) (slot value : ℕ) → answer_in answers slot ≡ Some value → IsLine line answers free waiting → length free < length answers
IsLine-not_free line answers free waiting slot value there h =
    let some : one_if (is_some (answer_in answers slot)) ≡ 1 = ap (λ (a : Option ℕ). one_if (is_some a)) there in
    let within = IsLine-within line answers free waiting slot h (omega (arith, some)) in
    omega (arith, some, answer_count-set answers slot None within, h.total)

-- to answer the oldest and then the j after it is to answer one more than j
pub answered-step : (value j : ℕ) (line : List Waiter) (answers : List (Option ℕ)) (pending_wakes : List ℕ) → j < length line
    → (j ≤ length (drop 1 line)) × (drop j (drop 1 line) ≡ drop (suc j) line)
    × (answered_slots value (take j (drop 1 line)) (answered_slots value (take 1 line) answers) ≡ answered_slots value (take (suc j) line) answers)
    × (pending_after (take j (drop 1 line)) (pending_after (take 1 line) pending_wakes) ≡ pending_after (take (suc j) line) pending_wakes)
answered-step value j [] answers pending_wakes within = absurd (omega arith)
answered-step value j (first ∷ rest) answers pending_wakes within = (omega arith, refl, refl, refl)

-- one more number is below the next bound
pub one_if-nat_lt-next : (a b : ℕ) → one_if (nat_lt a (b + 1)) ≡ one_if (nat_lt a b) + one_if (b == a)
one_if-nat_lt-next a b =
    elim (cases_Bool (nat_lt a b)) [
      | inl below ↦
          let next : nat_lt a (b + 1) ≡ true = grind (arith, nat_tests) in
          let apart : b == a ≡ false = grind (arith, nat_tests) in
          rw (below, next, apart) refl
      | inr above ↦
          elim (cases_Bool (b == a)) [
            | inl same ↦
                let next : nat_lt a (b + 1) ≡ true = grind (arith, nat_tests) in
                rw (above, next, same) refl
            | inr apart ↦
                let next : nat_lt a (b + 1) ≡ false = grind (arith, nat_tests) in
                rw (above, next, apart) refl
          ]
    ]

-- a slot that isn't among the first waiters, nor the next of them, isn't among one more
pub times-more : (slot : ℕ) (line : List Waiter) (place : ℕ) (waiter : Waiter) → place < length line → waiter ≡ get_or line place waiter → (waiter.0 ≡ slot → ⊥) → times slot (take place line) ≡ 0 → times slot (take (place + 1) line) ≡ 0
times-more slot line place waiter within is differ passed =
    let apart : waiter.0 == slot ≡ false = grind (arith, nat_tests) in
    let none : one_if (waiter.0 == slot) ≡ 0 = ap one_if apart in
    let next : take (place + 1) line ≡ take place line ++ waiter ∷ [] =
    ap (λ (n : ℕ). take n line) (add-one place) ∙ take-suc line place waiter within ∙ ap (λ (w : Waiter). take place line ++ w ∷ []) (sym is) in
    ap (times slot) next ∙ times-push slot (take place line) waiter ∙ omega (arith, none, passed)

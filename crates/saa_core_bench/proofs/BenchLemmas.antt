-- A bench's tickets and its book.
use Rattle.std.proofs.Common.{◌≡◌, ℕ, suc, not, List, [], ◌∷◌, length, Option, Some, slice_get, slice_set, refl, sym, ap, ◌∙◌}
use Rattle.std.proofs.Math.ListN.{length-set}
use Rattle.saa_core.specs.declared.ticket.Registration.{Registration}
use Rattle.saa_core_spec.specs.Object.{entry_at}
use Rattle.saa_core_spec.specs.Asking.{is_idle}
use Rattle.saa_core.specs.Tickets.{entries, is_busy}
use Rattle.saa_core.proofs.TicketLemmas.Naming.{entry-at}
use Rattle.saa_core.proofs.TicketLemmas.Registering.{is_idle-entry, not_not}

-- the book has an entry for each ticket
pub length-entries : (answers : List (Option ℕ)) (ts : List Registration) → length (entries answers ts) ≡ length ts
length-entries answers [] = refl
length-entries answers (t ∷ ts) = ap suc (length-entries answers ts)

-- and as many where another ticket stands at a place
pub length-entries_set : (before after : List (Option ℕ)) (ts : List Registration) (name : ℕ) (t : Registration) → length (entries after (slice_set ts name t)) ≡ length (entries before ts)
length-entries_set before after ts name t = length-entries after (slice_set ts name t) ∙ length-set ts name t ∙ sym (length-entries before ts)

-- whether a ticket is registered is whether its entry isn't idle
pub busy-entry : (answers : List (Option ℕ)) (ts : List Registration) (name : ℕ) (t : Registration) → slice_get ts name ≡ Some t → is_busy t ≡ not (is_idle (entry_at (entries answers ts) name))
busy-entry answers ts name t here =
    sym (ap (λ e. not (is_idle e)) (entry-at answers ts name t here) ∙ ap not (is_idle-entry answers t) ∙ not_not (is_busy t))

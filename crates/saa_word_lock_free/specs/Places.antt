-- What rests in the pool of a form: places of its word, registered as nothing.
use Rattle.std.specs.Prelude.{◌≡◌}
use Rattle.atomic_table.specs.Seated.{TableId}
use Rattle.saa_word_threads.specs.declared.visitor.Visitor.{Visitor}

-- which of all tables a visitor entered
abbrev pub table_of : Visitor → TableId
table_of visitor = visitor.seat.table_id

-- a place of a table, which is registered as nothing
abbrev pub RestsIn : {Place : Type 0} → (Place → TableId) → (Place → Type 0) → TableId → Place → Type 0
RestsIn home rests table place = (home place ≡ table) × rests place

-- the same of the table of a word
abbrev pub RestsAt : {Word Place : Type 0} → (Word → TableId) → (Place → TableId) → (Place → Type 0) → Word → Place → Type 0
RestsAt table home rests word place = RestsIn home rests (table word) place

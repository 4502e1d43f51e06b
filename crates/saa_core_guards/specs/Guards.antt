-- What contracts see of a guard, of a turn, and of the future of a guard.
use Rattle.std.specs.Borrow.{Bor}

-- a guard is its hold on the value, and its turn
pub record GuardState (V U : Type 0) : Type 0 where
  pub value : V
  pub turn : U

-- the guard after this was written through it, by what that makes of its hold
abbrev pub written_through : {V U T : Type 0} → (V → T → V) → GuardState V U → T → GuardState V U
written_through with_value guard written = record { value = with_value guard.value written; turn = guard.turn }

-- a turn is the lock that it is of, and the witness of its grant
pub record TurnState (L Witness : Type 0) : Type 0 where
  pub lock : Bor L
  pub witness : Witness

-- a future of a guard is the lock whose turn it waits for, and what is pending there
pub record GuardFutureState (L Pending : Type 0) : Type 0 where
  pub lock : L
  pub pending : Pending

-- What contracts see of a worker.
use Rattle.std.specs.Borrow.{Bor}
use Rattle.saa_word_threads.specs.declared.lock.Lock.{Lock}
use Rattle.saa_word_threads.specs.declared.lock.Place.{Place}

-- a worker is the lock that it is at, and its place there
pub record WorkerState : Type 0 where
  pub lock : Bor Lock
  pub place : Place

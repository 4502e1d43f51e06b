use Rattle.std.specs.Prelude.{◌≡◌, vec_len}
use Rattle.example_buffers.proofs.buffers.buffers.Given as goal

-- so many are made
abbrev pub invariant-loop-buffer : goal.invariant-loop-buffer
invariant-loop-buffer l = vec_len l.made ≡ l._buffer

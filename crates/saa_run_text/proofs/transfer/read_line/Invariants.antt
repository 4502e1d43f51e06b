use Rattle.std.proofs.Common.{◌≡◌, length}
use Rattle.std.specs.Io.KnownBytes.{Consumes}
use Rattle.saa_run_text.specs.Transfer.{IsUnbroken}
use Rattle.saa_run_text.proofs.transfer.read_line.Given as goal

-- what was read so far is the line so far
abbrev pub invariant-loop : goal.invariant-loop
invariant-loop g l = record {
  consumes : Consumes (g.R.Read.remaining l.fn.reader) (g.R.Read.remaining l.reader) l.line.items;
  unbroken : IsUnbroken l.line.items;
  counted : length l.line.items ≡ l.counter;
}

-- Which kind of `std::io::Error` a call that waits for permits makes of its own by `?`.
use Rattle.std.specs.declared.io.ErrorKind.{ErrorKind}
use Rattle.std.specs.declared.io.ErrorKind.TheVariants.{BrokenPipe, ResourceBusy}
use Rattle.saa_core_waits.specs.declared.acquire_error.AcquireError.{AcquireError}
use Rattle.saa_core_waits.specs.declared.acquire_error.AcquireError.TheVariants.{Full, Closed}

abbrev pub acquire_kind : AcquireError → ErrorKind
acquire_kind Full = ResourceBusy
acquire_kind Closed = BrokenPipe

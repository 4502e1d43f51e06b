-- A name that leaves quietly disturbs nobody.
use Rattle.std.proofs.Common.{◌≡◌}
use Rattle.saa_core_spec.specs.Object.{entry_at}
use Rattle.saa_core_spec.proofs.Leaving.{withdrawn-dropped}
use Rattle.saa_core_laws.proofs.GateCrowds.{withdrawn-idle, withdrawn-others, withdrawn-line}
use Rattle.saa_core_laws.proofs.laws.quiet_leaves.Goals as goal

pub returns-clause-elsewhere : goal.returns-clause-elsewhere
returns-clause-elsewhere c = λ s name no_gate. withdrawn-dropped s name (entry_at s.book name) no_gate

pub returns-clause-idle : goal.returns-clause-idle
returns-clause-idle c = withdrawn-idle

pub returns-clause-others : goal.returns-clause-others
returns-clause-others c = withdrawn-others

pub returns-clause-line : goal.returns-clause-line
returns-clause-line c = withdrawn-line

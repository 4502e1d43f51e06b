use Rattle.saa_word_threads.proofs.RegistrationLaws.{cancelled, not-ready, polled, refused, refused-mode, registered, registered-mode, tried}
use Rattle.saa_word_threads.proofs.laws.registrations.Goals as goal

pub returns-clause-polled : goal.returns-clause-polled
returns-clause-polled c = polled

pub returns-clause-tried : goal.returns-clause-tried
returns-clause-tried c = tried

pub returns-clause-not_ready : goal.returns-clause-not_ready
returns-clause-not_ready c = not-ready

pub returns-clause-cancelled : goal.returns-clause-cancelled
returns-clause-cancelled c = cancelled

pub returns-clause-registered : goal.returns-clause-registered
returns-clause-registered c = registered

pub returns-clause-registered_mode : goal.returns-clause-registered_mode
returns-clause-registered_mode c = registered-mode

pub returns-clause-refused : goal.returns-clause-refused
returns-clause-refused c = refused

pub returns-clause-refused_mode : goal.returns-clause-refused_mode
returns-clause-refused_mode c = refused-mode

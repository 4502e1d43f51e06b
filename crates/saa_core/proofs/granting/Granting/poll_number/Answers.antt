use Rattle.saa_core.proofs.granting.Granting.poll_number.Goals as goal

pub returns-clause-acts : goal.returns-clause-acts
returns-clause-acts g c = rw (← c.self.view_is) (c.poll_in.ensures.acts (g.N.Needs.held c.self.inside.needs))

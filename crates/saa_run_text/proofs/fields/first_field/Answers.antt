use Rattle.std.proofs.Common.{sym}
use Rattle.saa_run_text.proofs.FieldLemmas.{fields_of-whole, fields_of-cut}
use Rattle.saa_run_text.proofs.fields.first_field.Goals as goal

pub returns-in-None : goal.returns-in-None
returns-in-None c = fields_of-whole c.args.line.now (sym c.in-None.ensures)

pub returns-in-Some : goal.returns-in-Some
returns-in-Some c = fields_of-cut c.args.line.now c.in-Some.at (sym c.in-Some.ensures)

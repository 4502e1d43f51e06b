use Rattle.saa_run_text.proofs.StepLemmas.{IsProperBeginning-answer}
use Rattle.saa_run_text.proofs.steps.answer_line.Goals as goal

pub returns-in-Err : goal.returns-in-Err
returns-in-Err g c =
    let failed = c.in-Err.ensures in
    (failed.0, failed.2, λ others. IsProperBeginning-answer _ _ _ failed.0 (c.in-Some.ensures.good c.args.number others) failed.1)

use Rattle.tracing.proofs.trace.StopDisplay.fmt.Goals as goal

pub returns-in-Refused-clause-writes : goal.returns-in-Refused-clause-writes
returns-in-Refused-clause-writes g c = λ plain ok. simp c.in-Refused.is (simp c.number-number.ensures at (c.write-in-Refused.ensures.writes plain ok))

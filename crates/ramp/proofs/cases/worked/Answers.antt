use Rattle.ramp.proofs.Worked.{rate_laws, level_laws, worked_cases}
use Rattle.ramp.proofs.cases.worked.Goals as goal

pub returns-clause-cases : goal.returns-clause-cases
returns-clause-cases c = worked_cases

pub returns-clause-rates : goal.returns-clause-rates
returns-clause-rates c = rate_laws

pub returns-clause-levels : goal.returns-clause-levels
returns-clause-levels c = level_laws

use Rattle.ramp.specs.Courses.{ceiling_of}
use Rattle.ramp.proofs.Profiles.{from_rest_to_rest}
use Rattle.ramp.proofs.course.Course.new.Goals as goal

pub returns-clause-law : goal.returns-clause-law
returns-clause-law c = from_rest_to_rest (ceiling_of c.args.ramp) c.args.count

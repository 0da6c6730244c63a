use Rattle.ctl_server.proofs.Timings.{count_is, on_course}
use Rattle.ctl_server.proofs.laws.moments_are_the_first_of_a_course.Goals as goal

pub returns : goal.returns
returns c = record {
  count = λ desk desk' clock clock' servings follow. count_is desk clock servings desk' clock' follow;
  course = on_course;
}

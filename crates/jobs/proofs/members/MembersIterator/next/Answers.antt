use Rattle.jobs.proofs.Jobs.{fewer_left}
use Rattle.jobs.proofs.members.MembersIterator.next.Goals as goal

pub returns-clause-goes : goal.returns-clause-goes
returns-clause-goes c = record {
  on = λ _. (tt, tt, search (fewer_left, c.in_ok-job.ensures));
  keeps = tt;
  rests = λ _. tt;
}

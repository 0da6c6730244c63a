use Rattle.resource_profile.proofs.timeline.Timeline.drop_hold.Goals as goal

pub returns-clause-full : goal.returns-clause-full
returns-clause-full c = λ free levelled. c.last_full-self.ensures free (rw c.deref.ensures.value levelled)

use Rattle.pm_batch.proofs.open_events.OpenEvents.clear.Goals as goal

pub returns-clause-stands : goal.returns-clause-stands
returns-clause-stands c = λ inventory h e made ends. record {
  slots = made.slots;
  tick = c.clear-2.ensures.stands inventory h e made.tick ends;
  batch = c.clear.ensures;
}

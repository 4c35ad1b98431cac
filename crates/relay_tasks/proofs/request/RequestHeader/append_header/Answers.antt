use Rattle.relay_tasks.proofs.request.RequestHeader.append_header.Goals as goal

-- the list of the head is full exactly where its parts' is
pub returns-clause-full : goal.returns-clause-full
returns-clause-full c = rw (← c.self.view_is, ← c.self-inside.view_is) c.append_field.ensures.full

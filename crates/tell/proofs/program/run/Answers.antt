use Rattle.tell.proofs.program.run.Goals as goal

pub returns-in-Some-At-clause-read_fault : goal.returns-in-Some-At-clause-read_fault
returns-in-Some-At-clause-read_fault g c = λ e. rw (← c.read_command.ensures, c.in-Some-At.is, c.in-Some-At.field-0-is) (c.at.ensures.read_fault e)

pub returns-in-Some-Ago-clause-read_fault : goal.returns-in-Some-Ago-clause-read_fault
returns-in-Some-Ago-clause-read_fault g c = λ e. rw (← c.read_command.ensures, c.in-Some-Ago.is, c.in-Some-Ago.field-0-is) (c.serve.ensures.read_fault e)

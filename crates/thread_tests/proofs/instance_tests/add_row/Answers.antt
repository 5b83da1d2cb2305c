use Rattle.thread_tests.proofs.instance_tests.add_row.Goals as goal

pub returns-in-New-clause-note : goal.returns-in-New-clause-note
returns-in-New-clause-note c = let note = c.in-New.ensures.note in (note.0, record { key = c.args.key.now; wide = c.told-key; known = note.1 })

pub returns-in-Old-clause-note : goal.returns-in-Old-clause-note
returns-in-Old-clause-note c = let note = c.in-Old.ensures.note in (note.0, record { key = c.args.key.now; wide = c.told-key; known = note.1 })

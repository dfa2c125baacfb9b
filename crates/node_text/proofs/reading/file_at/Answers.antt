use Rattle.node_text.proofs.reading.file_at.Goals as goal

pub returns-clause-low : goal.returns-clause-low
returns-clause-low c = c.in_ok-mode.ensures.low

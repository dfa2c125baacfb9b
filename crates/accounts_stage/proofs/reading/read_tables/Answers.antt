use Rattle.accounts_stage.proofs.reading.read_tables.Goals as goal

pub read_texts-requires : goal.read_texts-requires
read_texts-requires g c = record { found = record { has = λ w is. c.nothing_found-findings.ensures w.leaves } }

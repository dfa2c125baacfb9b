use Rattle.std.proofs.Common.{ℕ, Vec, Global, ap, ◌∙◌}
use Rattle.id_memory.specs.Json.{ids_text, rows_text}
use Rattle.id_memory.proofs.RowLemmas.{rows_are}
use Rattle.id_memory.proofs.id_map.IdMap.write.Goals as goal

pub returns-clause-text : goal.returns-clause-text
returns-clause-text c =
    c.from_vec.ensures ∙ ap (λ (bytes : Vec ℕ Global). bytes.items) c.into_bytes.ensures.value ∙ c.in_ok-text.ensures.text
    ∙ ap rows_text (c.as_slice.ensures ∙ rows_are c.self.inside.rows c.self.invariant) ∙ ap ids_text c.self.view_is

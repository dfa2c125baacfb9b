use Rattle.std.proofs.Common.{◌≡◌, ℕ, List, ◌++◌, take, drop, Some, None, append-nil, sym, ap, ◌∙◌, rules, arith}
use Rattle.std.proofs.lemmas.Grind.{common_steps}
use Rattle.std.proofs.lemmas.List.{take-append-drop}
use Rattle.host_memory.specs.MemorySink.{MemorySinkState}
use Rattle.host_memory.proofs.memory_sink.MemorySinkSink.put.Goals as goal
use Rattle.host_trait.specs.Sink.{SinkState, Puts, IsPrefixOf}

-- a sink to which the beginning of a text was appended
part_put :
    (old new : SinkState) (before text : List ℕ) (n : ℕ) →
    old.contents ≡ Some before → new.contents ≡ Some (before ++ take n text) → Puts old new (IsPrefixOf text)
part_put old new before text n was now = record {
  put = λ put is. let same : before ≡ put = cc in (take n text, now ∙ ap (λ (b : List ℕ). Some (b ++ take n text)) same, (drop n text, sym (take-append-drop n text)));
  silent = λ none. absurd (let no : None ≡ Some before = sym none ∙ was in cc);
}

pub returns-then-fits-bytes-clause-prefix : goal.returns-then-fits-bytes-clause-prefix
returns-then-fits-bytes-clause-prefix c =
    part_put _ _ c.self.inside.put.items _ c.min-fits.result
    (ap (λ (s : MemorySinkState). Some s.bytes) (sym c.self.view_is))
    (ap (λ (s : MemorySinkState). Some s.bytes) c.fault-then-fits-bytes.ensures ∙ ap (λ (s : MemorySinkState). Some s.bytes) c.append.ensures)

pub returns-clause-fails : goal.returns-clause-fails
returns-clause-fails c = search rules

pub returns-clause-prefix : goal.returns-clause-prefix
returns-clause-prefix c =
    part_put _ _ c.self.inside.put.items _ c.min-fits.result
    (ap (λ (s : MemorySinkState). Some s.bytes) (sym c.self.view_is)) (ap (λ (s : MemorySinkState). Some s.bytes) c.append.ensures)

pub returns-clause-put : goal.returns-clause-put
returns-clause-put c = grind (arith, common_steps)

pub returns-clause-ok : goal.returns-clause-ok
returns-clause-ok c = grind (arith, common_steps)

pub slice_bounds-append-end : goal.slice_bounds-append-end
slice_bounds-append-end c = grind (arith, common_steps)

pub append-requires : goal.append-requires
append-requires c = grind (arith, common_steps)

pub returns-then-fits-bytes-clause-cause : goal.returns-then-fits-bytes-clause-cause
returns-then-fits-bytes-clause-cause c = grind (arith, common_steps)

pub returns-clause-cause : goal.returns-clause-cause
returns-clause-cause c = grind (arith, common_steps)

pub returns-then-fits-bytes-clause-put : goal.returns-then-fits-bytes-clause-put
returns-then-fits-bytes-clause-put c = grind (arith, common_steps)

pub returns-then-next_fails-clause-prefix : goal.returns-then-next_fails-clause-prefix
returns-then-next_fails-clause-prefix c =
    part_put _ _ c.self.inside.put.items _ 0 (ap (λ (s : MemorySinkState). Some s.bytes) (sym c.self.view_is))
    (ap (λ (s : MemorySinkState). Some s.bytes) c.fault.ensures ∙ ap (λ (b : List ℕ). Some b) (sym (append-nil c.self.inside.put.items)))

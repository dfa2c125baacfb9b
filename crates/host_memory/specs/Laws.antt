-- The laws of a host hold of a host in memory.
use Rattle.std.specs.Prelude.{◌≡◌, ◌≤◌, ℕ, List, length, drop, Option, None, Some, refl}
use Rattle.std.proofs.Common.{sym, ap, ◌∙◌, subst, arith}
use Rattle.std.proofs.lemmas.List.{drop_all}
use Rattle.host_memory.specs.declared.cuts.ArmedCut.{ArmedCut}
use Rattle.host_memory.specs.declared.history.DoneCall.{DoneCall}
use Rattle.host_memory.specs.declared.memory_host.MemoryHost.{MemoryHost}
use Rattle.host_memory.specs.History.{LeftSince, rewound}
use Rattle.host_memory.specs.MemoryHost.{host_of, host_with}
use Rattle.host_memory.specs.Troubles.{IsWithin, last_moment}
use Rattle.host_trait.specs.declared.manager_state.ManagerState.{ManagerState}
use Rattle.host_trait.specs.Host.{IsHost}
use Rattle.host_trait.specs.Manager.{HasPlainTexts}
use Rattle.host_trait.specs.States.{AreStates}
use Rattle.host_trait.specs.World.{WorldState, IsSound, with_manager}
use Rattle.host_trait.proofs.Moments.{one_world}

at_end : (calls : List DoneCall) (w : WorldState) (k : ℕ) → length calls ≤ k → rewound (drop k calls) w ≡ w
at_end calls w k late = ap (λ rest. rewound rest w) (drop_all k calls late)

now_counts : (calls : List DoneCall) (w : WorldState) (t : ℕ) → t ≤ length calls → LeftSince calls w t w
now_counts calls w t early = (length calls, early, omega arith, sym (at_end calls w (length calls) (omega arith)))

only_now : (calls : List DoneCall) (w m : WorldState) → LeftSince calls w (length calls) m → m ≡ w
only_now calls w m (k, early, late, is) = is ∙ at_end calls w k early

ends_by : (cut : Option ArmedCut) (clock n : ℕ) → ((c : ArmedCut) → cut ≡ Some c → IsWithin c clock) → last_moment cut ≡ Some n → clock ≤ n
ends_by None clock n within is = absurd (let no : None ≡ Some n = is in cc)
ends_by (Some c) clock n within is = let w = within c refl in let e = one_world _ _ _ refl is in let ends = w.ends in omega arith

-- with any manager whose texts are plain and whose states are in one form
pub with_is_host : (manager : ManagerState) → HasPlainTexts manager → AreStates manager.states → (h : MemoryHost) → IsHost (host_with manager h)
with_is_host manager plain states h = record {
  sound = λ w is. subst (λ (x : WorldState). IsSound x.leaves) (one_world _ _ _ refl is) h.history.sound;
  plain = λ w is. subst (λ (x : WorldState). HasPlainTexts x.manager) (one_world _ _ _ refl is) plain;
  states = λ w is. subst (λ (x : WorldState). AreStates x.manager.states) (one_world _ _ _ refl is) states;
  counts_now = λ t m early is. subst (λ x. LeftSince h.history.calls.items (with_manager manager h.history.world) t x) (one_world _ _ _ refl is) (now_counts _ _ t early);
  only_now = λ m left. ap (λ (x : WorldState). Some x) (sym (only_now _ _ m left));
  ends = λ n is. ends_by h.troubles.cut (length h.history.calls.items) n h.within is;
}

pub memory_is_host : (h : MemoryHost) → IsHost (host_of h)
memory_is_host h = with_is_host h.history.world.manager h.history.plain h.history.states h

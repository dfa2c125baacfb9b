-- What a machine boots into at each moment of a command.
use Rattle.std.proofs.Common.{◌≡◌, ◌⊎◌, [], Option, None, Some, IsSome, refl, sym, ◌∙◌, inl, inr}
use Rattle.generations.specs.Boot.{boot_system}
use Rattle.generations.proofs.BootLemmas.{named_law, old_or_new_law}
use Rattle.host_trait.specs.World.{WorldState}
use Rattle.switch_engine.specs.Moments.{NamesOneOf}
use Rattle.switch_names.specs.Names.{Name}

pub boots_into : (moved : Option Name) (w m : WorldState) → NamesOneOf moved w m → (boot_system m.leaves ≡ boot_system w.leaves) ⊎ (IsSome moved × (boot_system m.leaves ≡ moved))
boots_into None w m same = elim (old_or_new_law [] w m (inl same)) [
  | inl is ↦ inl is
  | inr new ↦ inl (new ∙ sym ((named_law w.leaves []).0 ((same []).0 ((named_law m.leaves []).1 new))))
]
boots_into (Some system) w m names = elim (old_or_new_law system w m names) [
  | inl is ↦ inl is
  | inr new ↦ inr (refl, new)
]

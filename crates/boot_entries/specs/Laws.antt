-- What holds of making the boot menu: Boot Loader Specification, "Type #1 Boot Loader Specification Entries".
use Rattle.std.specs.Prelude.{◌≡◌, true, List, map, IfSome}
use Rattle.std.specs.List.{AllByRecursion}
use Rattle.std.specs.List.Sorted.{IsStrictlySortedBy}
use Rattle.std.specs.Ordering.{nat_cmp}
use Rattle.generations.specs.declared.gens.Gen.{Gen}
use Rattle.generations.specs.declared.gens.Gens.{Gens}
use Rattle.generations.specs.Places.{is_number}
use Rattle.host_trait.specs.World.{WorldState}
use Rattle.switch_names.specs.SystemName.{IsSystemPath}
use Rattle.switch_parts.specs.Part.{IsAtEnd, IsPartMoment, IsOnly, IsPart, IsSameFor}
use Rattle.boot_entries.specs.declared.boot_texts.BootTexts.{BootTexts}
use Rattle.boot_entries.specs.BootPart.{boot_part}
use Rattle.boot_entries.specs.Steps.{AreEntries, IsBootMoment, IsBootSet}
use Rattle.boot_entries.specs.Texts.{menu_of}

-- a list of generations: their numbers are such, and rise
pub record IsGenList (list : List Gen) : Type 0 where
  pub rising : IsStrictlySortedBy nat_cmp (map (λ gen. gen.number) list)
  pub numbers : AllByRecursion (λ gen. is_number gen.number ≡ true) list

-- at each moment of making the menu that is planned, nothing has changed but its places and the stage
abbrev pub BootOnlyLaw : Type 0
BootOnlyLaw =
    (gens : Gens) (texts : BootTexts) (w m : WorldState) → AreEntries texts.entries → texts ≡ menu_of gens w.leaves → IsBootMoment texts w m →
    IsOnly (boot_part gens) w m

-- the last moment leaves each place of the menu at its end
abbrev pub BootEndLaw : Type 0
BootEndLaw =
    (gens : Gens) (texts : BootTexts) (w v : WorldState) → IsGenList gens.list → AreEntries texts.entries →
    texts ≡ menu_of gens w.leaves → IsBootSet texts w v → IsAtEnd (boot_part gens) w v × IsOnly (boot_part gens) w v

-- generations of the profile: their numbers rise, and each that has a target names a system
pub record IsBootGens (gens : Gens) : Type 0 where
  pub list : IsGenList gens.list
  pub systems : AllByRecursion (λ gen. IfSome gen.target IsSystemPath) gens.list

-- making the boot menu of generations is a part of a switch
abbrev pub BootPartLaw : Type 0
BootPartLaw = (gens : Gens) → IsBootGens gens → IsPart (boot_part gens)

-- each moment of making the menu that is planned is one of the part
abbrev pub BootMomentLaw : Type 0
BootMomentLaw =
    (gens : Gens) (texts : BootTexts) (w m : WorldState) → IsBootGens gens → AreEntries texts.entries → texts ≡ menu_of gens w.leaves →
    IsBootMoment texts w m → IsPartMoment (boot_part gens) w m

-- a plan stays one where nothing has changed that the part looks at
abbrev pub BootPlanLaw : Type 0
BootPlanLaw =
    (gens : Gens) (texts : BootTexts) (w u : WorldState) → IsBootGens gens → IsSameFor (boot_part gens) w u → texts ≡ menu_of gens w.leaves →
    texts ≡ menu_of gens u.leaves

-- Making the boot menu writes its own places.
use Rattle.std.proofs.Common.{◌≡◌, ◌&&◌, true, List, [], ◌∷◌, map, is_some, sym, ap, subst, ◌∙◌}
use Rattle.std.proofs.lemmas.Bool.{and_parts}
use Rattle.std.specs.FinMap.{get}
use Rattle.std.specs.List.{AllByRecursion, list_any}
use Rattle.host_trait.specs.World.{WorldState, is_listed}
use Rattle.switch_names.specs.Names.{Name, has}
use Rattle.tree_put.specs.declared.leaf_put.LeafPut.{LeafPut}
use Rattle.tree_put.specs.Sequence.{WritesOthers, without_places}
use Rattle.tree_put.specs.Written.{WritesOnly}
use Rattle.tree_put.proofs.WrittenLemmas.{writes_puts, writes_removed}
use Rattle.boot_entries.specs.declared.boot_texts.BootFile.{BootFile}
use Rattle.boot_entries.specs.declared.boot_texts.BootTexts.{BootTexts}
use Rattle.boot_entries.specs.Places.{entries_folder, owns_boot}
use Rattle.boot_entries.specs.Steps.{CanApplyBoot, boot_put}
use Rattle.boot_entries.specs.Texts.{has_target, is_gone_by}
use Rattle.boot_entries.proofs.EndLemmas.{boot_owned, eqb, in_gone}
use Rattle.boot_entries.proofs.PlanLawLemmas.{gone_owned}
use Rattle.boot_entries.proofs.PutLemmas.{AreBootPlaces, puts_all}

files_owned : (files : List BootFile) → AreBootPlaces files → AllByRecursion (λ (file : BootFile). owns_boot file.at ≡ true) files
files_owned [] places = tt
files_owned (file ∷ files) places = (boot_owned file.at places.0, files_owned files places.1)

-- puts of files at its places
pub files_written : (files : List BootFile) (puts : List LeafPut) (w v : WorldState) → AreBootPlaces files → puts ≡ map boot_put files → WritesOthers puts w v → WritesOnly owns_boot w v
files_written files puts w v places are others =
    writes_puts owns_boot (map boot_put files) w v (puts_all (λ at. owns_boot at ≡ true) files (files_owned files places))
    (subst (λ (ps : List LeafPut). WritesOthers ps w v) are others)

-- removals of what goes
pub gone_written : (texts : BootTexts) (w : WorldState) → CanApplyBoot texts w → (v u : WorldState) → u ≡ without_places texts.gone v → WritesOnly owns_boot v u
gone_written texts w can v u is = writes_removed owns_boot texts.gone v u owned is
  where
    owned : (q : Name) → has texts.gone q ≡ true → owns_boot q ≡ true
    owned q among =
        let list = can.gens.list in
        gone_owned (has_target list) q
        (and_parts (is_gone_by (has_target list) q) (is_listed entries_folder q && is_some (get w.leaves q))
        (sym (in_gone w.leaves list q) ∙ sym (ap (λ (t : BootTexts). list_any (eqb q) t.gone) can.planned) ∙ among)).0

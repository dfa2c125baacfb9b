-- Entries are made generation by generation.
use Rattle.std.proofs.Common.{◌≡◌, ℕ, ◌+◌, ◌<◌, List, [], ◌∷◌, ◌++◌, length, get_or, take, Option, None, Some, refl, sym, ap, ◌∙◌}
use Rattle.std.proofs.lemmas.List.{append-nil, append_assoc, take_more}
use Rattle.std.proofs.lemmas.List.Concat.{flat_map-append}
use Rattle.std.proofs.lemmas.List.Elements.{filter_map-append}
use Rattle.std.specs.List.{cons_option, flat_map}
use Rattle.std.specs.Prelude.{option_map, option_to_list}
use Rattle.generations.specs.declared.gens.Gen.{Gen}
use Rattle.host_trait.specs.World.{Leaves}
use Rattle.boot_entries.specs.declared.boot_texts.BootFile.{BootFile}
use Rattle.switch_names.specs.Names.{Name}
use Rattle.boot_entries.specs.Sources.{sources_of}
use Rattle.boot_entries.specs.Texts.{entries_of, entry_if, entry_of}

one_file : (file : Option BootFile) → option_to_list file ≡ cons_option file []
one_file None = refl
one_file (Some file) = refl

pub entries_more :
    (leaves : Leaves) (list : List Gen) (i : ℕ) (gen : Gen) (before after : List BootFile) → i < length list → gen ≡ get_or list i gen →
    before ≡ entries_of leaves (take i list) → after ≡ before ++ option_to_list (entry_if leaves gen) → after ≡ entries_of leaves (take (i + 1) list)
entries_more leaves list i gen before after inside is were more =
    more ∙ ap (λ (files : List BootFile). files ++ option_to_list (entry_if leaves gen)) were
    ∙ ap (λ (files : List BootFile). entries_of leaves (take i list) ++ files) (one_file (entry_if leaves gen))
    ∙ sym (filter_map-append (entry_if leaves) (take i list) (gen ∷ []))
    ∙ ap (entries_of leaves) (sym (take_more list i gen inside ∙ ap (λ (g : Gen). take i list ++ g ∷ []) (sym is)))

-- the entry of a generation that names a system is the one that there is
pub one_entry :
    (leaves : Leaves) (gen : Gen) (system : Name) (entry : BootFile) → gen.target ≡ Some system → entry ≡ entry_of leaves gen.number system →
    entry ∷ [] ≡ option_to_list (entry_if leaves gen)
one_entry leaves gen system entry names is =
    ap (λ (file : BootFile). file ∷ []) is ∙ sym (ap (λ (target : Option Name). option_to_list (option_map (entry_of leaves gen.number) target)) names)

-- what the entries are made of, too
pub sources_more :
    (done : List Name) (list : List Gen) (i : ℕ) (gen : Gen) → i < length list → gen ≡ get_or list i gen →
    (done ++ flat_map sources_of (take i list)) ++ sources_of gen ≡ done ++ flat_map sources_of (take (i + 1) list)
sources_more done list i gen inside is =
    append_assoc done (flat_map sources_of (take i list)) (sources_of gen)
    ∙ ap (λ (places : List Name). done ++ (flat_map sources_of (take i list) ++ places)) (sym (append-nil (sources_of gen)))
    ∙ ap (λ (places : List Name). done ++ places) (sym (flat_map-append sources_of (take i list) (gen ∷ [])))
    ∙ ap (λ (gens : List Gen). done ++ flat_map sources_of gens) (sym (take_more list i gen inside ∙ ap (λ (g : Gen). take i list ++ g ∷ []) (sym is)))

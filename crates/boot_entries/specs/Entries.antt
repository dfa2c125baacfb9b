-- The text of an entry: Boot Loader Specification, "Type #1 Boot Loader Specification Entries"; loader.conf(5), "default".
use Rattle.std.specs.Prelude.{◌==◌, ◌++◌, ◌∷◌, ℕ, List, [], codes, position, take, unwrap_or}
use Rattle.std.specs.Fmt.{decimal}
use Rattle.std.specs.List.{flat_map}
use Rattle.std.specs.Option.{option_map_or}
use Rattle.host_trait.specs.World.{Leaves, content_of}
use Rattle.switch_names.specs.Names.{Name}
use Rattle.boot_entries.specs.Places.{entry_name}

-- a text up to its first line feed
abbrev pub first_line : List ℕ → List ℕ
first_line text = option_map_or (λ at. take at text) (position (λ byte. byte == 10) text) text

-- the first line of what stands at a place: where nothing stands, it is empty
abbrev pub line_at : Leaves → Name → List ℕ
line_at leaves at = first_line (unwrap_or (content_of leaves at) [])

-- where a system keeps its version
unfoldable pub version_path : Name → Name
version_path system = system ++ codes "/nixos-version"

-- where a system keeps the parameters of its kernel
unfoldable pub params_path : Name → Name
params_path system = system ++ codes "/kernel-params"

-- parameters after the init program: a blank stands before them where there are some
abbrev pub more_params : List ℕ → List ℕ
more_params [] = []
more_params (byte ∷ bytes) = 32 ∷ (byte ∷ bytes)

-- the lines of the entry of a generation: its title, its number and version, its kernel, its first file system, its parameters
abbrev pub entry_lines : ℕ → Name → List ℕ → List ℕ → List (List ℕ)
entry_lines n system version params =
    codes "title NixOS"
    ∷ (codes "version Generation " ++ (decimal n ++ (32 ∷ version)))
    ∷ (codes "linux /" ++ (system ++ codes "/kernel"))
    ∷ (codes "initrd /" ++ (system ++ codes "/initrd"))
    ∷ (codes "options init=/" ++ (system ++ (codes "/init" ++ more_params params)))
    ∷ []

-- lines as they are written
abbrev pub lines_text : List (List ℕ) → List ℕ
lines_text lines = flat_map (λ line. line ++ 10 ∷ []) lines

-- the text of the entry of a generation
unfoldable pub entry_text : ℕ → Name → List ℕ → List ℕ → List ℕ
entry_text n system version params = lines_text (entry_lines n system version params)

-- the text that names the entry that is booted
unfoldable pub loader_text : ℕ → List ℕ
loader_text n = lines_text ((codes "default " ++ entry_name n) ∷ [])

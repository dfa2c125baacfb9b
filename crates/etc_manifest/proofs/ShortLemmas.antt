-- Of an entry that isn't refused no content that is taken is too long.
use Rattle.std.proofs.Common.{◌≡◌, ◌++◌, ◌&&◌, ℕ, Bool, true, false, cond, nat_lt, List, [], length, codes, unwrap_or, IsSome, is_some, Option, None, Some, option_and_then, option_map, Ok, Err, refl, sym, ap, ◌∙◌}
use Rattle.std.proofs.lemmas.Bool.{or_parts}
use Rattle.std.specs.FinMap.{get}
use Rattle.switch_names.specs.Names.{Name}
use Rattle.host_trait.specs.declared.leaf.LeafKind.{LeafKind}
use Rattle.host_trait.specs.World.{Leaves, content_of, leaf_content}
use Rattle.leaf_limits.specs.Limits.{is_long, leaf_max}
use Rattle.etc_manifest.specs.declared.item.ItemKind.{ItemKind}
use Rattle.etc_manifest.specs.declared.manifest_fault.ManifestFault.TheVariants.{Entry}
use Rattle.etc_manifest.specs.declared.mode.Mode.{Mode}
use Rattle.etc_manifest.specs.declared.mode.Mode.TheVariants.{DirectSymlink, Bits}
use Rattle.etc_manifest.specs.Companion.{companion, has_long, has_long_owner, owner_text, parts_of, short_content, without_line_feed}
use Rattle.etc_manifest.specs.Kind.{copied_by, direct_kind, kind_by, kind_of, kind_with, mode_of, short_target, target_of}
use Rattle.etc_manifest.specs.Owners.{OwnerIds}
use Rattle.etc_manifest.specs.Place.{path_in}

-- no content is too long where no leaf stands
pub none_long : (leaves : Leaves) (at : List ℕ) → get leaves at ≡ None → is_long leaves at ≡ false
none_long leaves at none = ap (λ (leaf : Option LeafKind). nat_lt leaf_max (length (unwrap_or (leaf_content leaves leaf) []))) none

-- nor one that was read
short_is : (leaves : Leaves) (at : List ℕ) → IsSome (short_content leaves at) → is_long leaves at ≡ false
short_is leaves at some = by (is_long leaves at) some
  where
    by : (b : Bool) → IsSome (cond b None (content_of leaves at)) → b ≡ false
    by true some = absurd (cc)
    by false some = refl

-- nor one to which a link leads that is placed
target_short : (leaves : Leaves) (at : List ℕ) → IsSome (short_target leaves at) → is_long leaves at ≡ false
target_short leaves at some = by (is_long leaves at) some
  where
    by : (b : Bool) → IsSome (cond b None (target_of (get leaves at))) → b ≡ false
    by true some = absurd (cc)
    by false some = refl

direct_some : (name : Name) (kind : ItemKind) (target : Option (List ℕ)) → direct_kind name target ≡ Ok kind → IsSome target
direct_some name kind None is = absurd (cc)
direct_some name kind (Some target) is = refl

copied_some : (owners : OwnerIds) (name : Name) (mode : ℕ) (kind : ItemKind) (bytes uid gid : Option (List ℕ)) → copied_by owners name mode bytes uid gid ≡ Ok kind →
    IsSome bytes × IsSome uid × IsSome gid
copied_some owners name mode kind None uid gid is = absurd (cc)
copied_some owners name mode kind (Some bytes) None gid is = absurd (cc)
copied_some owners name mode kind (Some bytes) (Some uid) None is = absurd (cc)
copied_some owners name mode kind (Some bytes) (Some uid) (Some gid) is = (refl, refl, refl)

map_some : (f : List ℕ → List ℕ) (o : Option (List ℕ)) → IsSome (option_map f o) → IsSome o
map_some f None some = some
map_some f (Some x) some = refl

-- none of these contents is too long: an entry's own, and those of its companions
pub record IsShort (has : Name → Bool) (leaves : Leaves) (folder name : List ℕ) : Type 0 where
  pub entry : is_long leaves (path_in folder name) ≡ false
  pub mode : is_long leaves (path_in folder (name ++ codes ".mode")) ≡ false
  pub uid : has (name ++ codes ".uid") ≡ true → is_long leaves (path_in folder (name ++ codes ".uid")) ≡ false
  pub gid : has (name ++ codes ".gid") ≡ true → is_long leaves (path_in folder (name ++ codes ".gid")) ≡ false

module _ (has : Name → Bool) (leaves : Leaves) (folder : List ℕ) (owners : OwnerIds) (name : List ℕ) (kind : ItemKind) where
  -- what says an owner
  owner_short : (end : List ℕ) → has (name ++ end) ≡ true → IsSome (owner_text (companion has leaves folder name end)) → is_long leaves (path_in folder (name ++ end)) ≡ false
  owner_short end there some = short_is leaves (path_in folder (name ++ end)) (map_some without_line_feed (short_content leaves (path_in folder (name ++ end))) (
      sym (ap (λ b. is_some (owner_text (cond b (Some (option_map without_line_feed (short_content leaves (path_in folder (name ++ end))))) None))) there) ∙ some))

  not_long : (end : List ℕ) → has (name ++ end) ≡ true → has_long has leaves folder name end ≡ false → is_long leaves (path_in folder (name ++ end)) ≡ false
  not_long end there none = sym (ap (λ b. b && is_long leaves (path_in folder (name ++ end))) there) ∙ none

  -- what is taken beside the mode
  record IsRest : Type 0 where
    pub entry : is_long leaves (path_in folder name) ≡ false
    pub uid : has (name ++ codes ".uid") ≡ true → is_long leaves (path_in folder (name ++ codes ".uid")) ≡ false
    pub gid : has (name ++ codes ".gid") ≡ true → is_long leaves (path_in folder (name ++ codes ".gid")) ≡ false

  direct_short : (b : Bool) → has_long_owner has leaves folder name ≡ b → cond b (Err (Entry name)) (direct_kind name (short_target leaves (path_in folder name))) ≡ Ok kind → IsRest
  direct_short true owner is = absurd (cc)
  direct_short false owner is =
      let none = or_parts (has_long has leaves folder name (codes ".uid")) (has_long has leaves folder name (codes ".gid")) owner in
      record {
        entry = target_short leaves (path_in folder name) (direct_some name kind (short_target leaves (path_in folder name)) is);
        uid = λ there. not_long (codes ".uid") there none.0;
        gid = λ there. not_long (codes ".gid") there none.1;
      }

  with_short : (mode : Option Mode) → kind_with has leaves folder owners name mode ≡ Ok kind → IsRest
  with_short None is = absurd (cc)
  with_short (Some DirectSymlink) is = direct_short (has_long_owner has leaves folder name) refl is
  with_short (Some (Bits mode)) is =
      let parts = parts_of has leaves folder name in
      let some = copied_some owners name mode kind parts.bytes parts.uid parts.gid is in
      record {
        entry = short_is leaves (path_in folder name) some.0;
        uid = λ there. owner_short (codes ".uid") there some.1;
        gid = λ there. owner_short (codes ".gid") there some.2;
      }

  read_short : (text : Option (List ℕ)) → short_content leaves (path_in folder (name ++ codes ".mode")) ≡ text → kind_with has leaves folder owners name (option_and_then mode_of (option_map without_line_feed text)) ≡ Ok kind →
      IsShort has leaves folder name
  read_short None none is = absurd (cc)
  read_short (Some text) some is =
      let rest = with_short (mode_of (without_line_feed text)) is in
      record {
        entry = rest.entry;
        mode = short_is leaves (path_in folder (name ++ codes ".mode")) (ap (λ (o : Option (List ℕ)). is_some o) some);
        uid = rest.uid;
        gid = rest.gid;
      }

  -- an entry with a mode that can be placed
  pub placed_short : has (name ++ codes ".mode") ≡ true → kind_of has leaves folder owners name ≡ Ok kind → IsShort has leaves folder name
  placed_short there is =
      let text = short_content leaves (path_in folder (name ++ codes ".mode")) in
      read_short text refl (sym (ap (λ b. kind_by has leaves folder owners name (cond b (Some (option_map without_line_feed text)) None)) there) ∙ is)

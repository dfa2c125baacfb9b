-- Puts at places of accounts leave nothing in the way.
use Rattle.std.proofs.Common.{◌≡◌, ◌&&◌, ℕ, Bool, true, false, cond, List, [], ◌∷◌, map, Option, None, Some, is_none, is_some, refl, sym, ap, ap₂, subst, ◌∙◌, inl, inr}
use Rattle.std.proofs.lemmas.Bool.{cases_Bool}
use Rattle.std.specs.Cmp.Lexicographic.{same_text}
use Rattle.std.specs.FinMap.{get, insert}
use Rattle.std.specs.List.{AllByRecursion}
use Rattle.account_text.specs.Group.{group_text}
use Rattle.account_text.specs.Passwd.{passwd_text}
use Rattle.account_text.specs.Shadow.{shadow_text}
use Rattle.host_trait.specs.declared.leaf.LeafKind.{LeafKind}
use Rattle.host_trait.specs.declared.leaf.LeafKind.TheVariants.{File}
use Rattle.host_trait.specs.World.{Leaves, WorldState, content_of, is_in_line, is_path, with_leaf}
use Rattle.host_trait.proofs.Sound.{clear_insert}
use Rattle.id_memory.specs.Json.{ids_text}
use Rattle.switch_names.specs.Names.{Name}
use Rattle.tree_put.specs.declared.written_place.WrittenPlace.{WrittenPlace}
use Rattle.tree_put.specs.WrittenPlace.{in_the_way, lacks_content}
use Rattle.users_merge.specs.Law.{Put}
use Rattle.users_merge.specs.Order.{group_rows, passwd_rows, shadow_rows}
use Rattle.users_merge.specs.Stored.{Merged}
use Rattle.tree_put.specs.declared.leaf_put.LeafPut.{LeafPut}
use Rattle.tree_put.specs.Sequence.{with_puts}
use Rattle.accounts_stage.specs.Files.{names_text}
use Rattle.accounts_stage.specs.Places.{account_places, owns_accounts}
use Rattle.tree_put.proofs.LeftLemmas.{leaf_after}
use Rattle.accounts_stage.proofs.FrameLemmas.{own_gids, own_group, own_groups, own_passwd, own_shadow, own_uids, own_users}
use Rattle.accounts_stage.proofs.OwnLemmas.{apart}
use Rattle.accounts_stage.proofs.ReadLemmas.{IsContentAfter, content_after, put_of}
use Rattle.accounts_stage.proofs.WayLemmas.{IsFreeAt, all_free, each_free}

-- a put of a file at a place of accounts
pub record IsFilePut (put : LeafPut) : Type 0 where
  pub text : List ℕ
  pub mode : ℕ
  pub own : owns_accounts put.at ≡ true
  pub leaf : put.leaf ≡ File text mode 0 0

pub each_file : (m : Merged) (put : Put) → IsFilePut (put_of m put)
each_file m Put.AllUsers = record { text = names_text m.all_users; mode = 420; own = own_users; leaf = refl }
each_file m Put.AllGroups = record { text = names_text m.all_groups; mode = 420; own = own_groups; leaf = refl }
each_file m Put.Uids = record { text = ids_text m.uids; mode = 420; own = own_uids; leaf = refl }
each_file m Put.Gids = record { text = ids_text m.gids; mode = 420; own = own_gids; leaf = refl }
each_file m Put.Group = record { text = group_text (group_rows m); mode = 420; own = own_group; leaf = refl }
each_file m Put.Passwd = record { text = passwd_text (passwd_rows m); mode = 420; own = own_passwd; leaf = refl }
each_file m Put.Shadow = record { text = shadow_text (shadow_rows m); mode = 384; own = own_shadow; leaf = refl }
each_file m Put.Users = record { text = names_text m.users; mode = 420; own = own_users; leaf = refl }
each_file m Put.Groups = record { text = names_text m.groups; mode = 420; own = own_groups; leaf = refl }

module _ (leaves : Leaves) (at : Name) (text : List ℕ) (mode : ℕ) (own : owns_accounts at ≡ true) where
  abbrev new : Leaves
  new = insert leaves at (File text mode 0 0)

  after : IsContentAfter at text (content_of leaves) (content_of new)
  after = content_after leaves at text mode 0 0 own

  -- no place that had a content lacks it after the put
  has_content : (p : Name) → lacks_content leaves p ≡ false → lacks_content new p ≡ false
  has_content p had = elim (cases_Bool (is_path p at)) [
    | inl is ↦ subst (λ q. lacks_content new q ≡ false) (sym (same_text p at (sym is))) (ap (λ o. is_some (get new at) && is_none o) after.here ∙ never (is_some (get new at)))
    | inr other ↦
        ap₂ (λ (leaf : Option LeafKind) (content : Option (List ℕ)). is_some leaf && is_none content)
        (leaf_after leaves at p (File text mode 0 0) ∙ ap (λ b. cond b (Some (File text mode 0 0)) (get leaves p)) other) (after.other p other)
        ∙ had
  ]
    where
      never : (b : Bool) → (b && false) ≡ false
      never true = refl
      never false = refl

  read_still : (b : Bool) (p : Name) → (b && lacks_content leaves p) ≡ false → (b && lacks_content new p) ≡ false
  read_still true p had = has_content p had
  read_still false p had = refl

  still_free : (places : List WrittenPlace) → AllByRecursion (λ (place : WrittenPlace). is_in_line at place.at ≡ false) places → AllByRecursion (IsFreeAt leaves) places → AllByRecursion (IsFreeAt new) places
  still_free [] beside free = tt
  still_free (place ∷ places) beside free = (
    record {
      clear = clear_insert leaves at place.at (File text mode 0 0) beside.0 free.0.clear;
      content = read_still place.is_read place.at free.0.content;
    },
    still_free places beside.1 free.1,
  )

put_free : (leaves : Leaves) (put : LeafPut) → IsFilePut put → AllByRecursion (IsFreeAt leaves) account_places → AllByRecursion (IsFreeAt (insert leaves put.at put.leaf)) account_places
put_free leaves put file free =
    subst (λ leaf. AllByRecursion (IsFreeAt (insert leaves put.at leaf)) account_places) (sym file.leaf)
    (still_free leaves put.at file.text file.mode file.own account_places (apart put.at file.own) free)

each_put_free : (m : Merged) (all : List Put) (w : WorldState) → AllByRecursion (IsFreeAt w.leaves) account_places → AllByRecursion (IsFreeAt (with_puts (map (put_of m) all) w).leaves) account_places
each_put_free m [] w free = free
each_put_free m (put ∷ all) w free = each_put_free m all (with_leaf (put_of m put).at (put_of m put).leaf w) (put_free w.leaves (put_of m put) (each_file m put) free)

-- where nothing is in the way, nothing is after puts of a merge
pub puts_free : (m : Merged) (all : List Put) (w : WorldState) → in_the_way account_places w.leaves ≡ None → in_the_way account_places (with_puts (map (put_of m) all) w).leaves ≡ None
puts_free m all w none = all_free _ account_places (each_put_free m all w (each_free w.leaves account_places none))

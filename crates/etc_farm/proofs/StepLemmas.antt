-- Each step of putting a farm leaves a moment of it.
use Rattle.std.proofs.Common.{◌≡◌, ◌≢◌, ℕ, ◌&&◌, Bool, true, false, List, [], Option, is_none, is_some, refl, sym, ap, subst, ◌∙◌, inl, inr, ⊎_elim}
use Rattle.std.proofs.lemmas.Bool.{both_ways, or_right}
use Rattle.std.specs.FinMap.{get, insert, remove}
use Rattle.std.specs.List.Sorted.{IsStrictlySortedBy}
use Rattle.std.specs.Ordering.{eq_by_cmp}
use Rattle.switch_names.specs.Names.{Name, has}
use Rattle.host_trait.specs.declared.leaf.LeafKind.{LeafKind}
use Rattle.host_trait.specs.World.{Leaves, WorldState, bytes_cmp, content_of, is_in_line, leaf_content, seen, stage, with_leaf, without_leaf}
use Rattle.host_trait.proofs.Places.{at_same, same_or_other}
use Rattle.host_trait.proofs.Seen.{other_of, seen_at, get_removed_other}
use Rattle.host_trait.proofs.Sound.{clear_insert, clear_remove, get_other, not_in_line}
use Rattle.tree_put.specs.Put.{IsOldOrGone, IsOldOrNew}
use Rattle.tree_put.specs.WrittenPlace.{lacks_content}
use Rattle.etc_manifest.specs.declared.item.Item.{Item}
use Rattle.etc_clean.specs.CleanList.{clean_leaf, clean_name, clean_names, clean_of, clean_text}
use Rattle.etc_clean.specs.Etc.{Farm, is_owned, static_name}
use Rattle.etc_clean.specs.Farm.{is_blocked, is_entry, placed}
use Rattle.etc_clean.specs.Keeps.{AreFree, IsLastList, Keeps}
use Rattle.etc_clean.specs.Names.{place}
use Rattle.etc_clean.proofs.FarmLemmas.{placed_known}
use Rattle.tree_put.proofs.StoreLemmas.{content_kept}
use Rattle.etc_clean.proofs.KeepsLemmas.{IsAllBut, clean_owned, first_list_law, inserted, last_list_law, listed_there, other_name, owned_name, put_law, removal_law, removed, static_law, static_not_clean, static_owned, store_apart}
use Rattle.etc_clean.proofs.NameLemmas.{clean_reserved, not_reserved_other, other_place, static_reserved}
use Rattle.etc_farm.specs.FarmPart.{AreListed, owns_farm}
use Rattle.etc_farm.specs.Lists.{AreListsShort}
use Rattle.etc_farm.specs.Steps.{AllListed, IsFirstNames}
use Rattle.etc_farm.proofs.FarmMoment.{IsFarmMoment, IsOwn}
use Rattle.etc_farm.proofs.LineLemmas.{clean_static, free_line, static_clean}
use Rattle.etc_farm.proofs.OrderLemmas.{first_starts}
use Rattle.etc_farm.proofs.PartLemmas.{farm_is, keeps_farm_self, keeps_farm_then}
use Rattle.etc_farm.proofs.PlaceLemmas.{IsWayFree, free_way, not_stage, owned_place, place_apart, way_free}
use Rattle.etc_farm.proofs.ShortLemmas.{short_beside, short_first, short_last}

-- ---- moments one after another

abbrev pub farm_with : List Item → Farm
farm_with items = record { items = items; target = [] }

pub moment_self : (items : List Item) (w : WorldState) → IsFarmMoment items w w
moment_self items w = record { keeps = keeps_farm_self items w; leaves = λ q none ne. refl; manager = refl }

pub moment_then : (items : List Item) (w v m : WorldState) → IsFarmMoment items w v → IsFarmMoment items v m → IsFarmMoment items w m
moment_then items w v m first then = record {
  keeps = keeps_farm_then items w v m first.keeps then.keeps;
  leaves = λ q none ne. then.leaves q none ne ∙ first.leaves q none ne;
  manager = then.manager ∙ first.manager;
}

-- what is alike but for the stage is the same moment
pub moment_seen : (items : List Item) → AreFree items → (w u m : WorldState) → seen m ≡ seen u → IsFarmMoment items w u → IsFarmMoment items w m
moment_seen items free w u m is moment = record {
  keeps = keeps_farm_then items w u m moment.keeps ((farm_is (farm_with items) free).frame u m (record {
    leaves = λ q read. seen_at m u is q (not_stage q read);
    manager = λ calls. ap (λ (x : WorldState). x.manager) is;
  }));
  leaves = λ q none ne. seen_at m u is q ne ∙ moment.leaves q none ne;
  manager = ap (λ (x : WorldState). x.manager) is ∙ moment.manager;
}

-- a put of a leaf whose finished world is a moment
pub moment_put : (items : List Item) → AreFree items → (path : Name) (leaf : LeafKind) (w m : WorldState) → IsFarmMoment items w (with_leaf path leaf w) → IsOldOrNew path leaf w m → IsFarmMoment items w m
moment_put items free path leaf w m new moment = ⊎_elim
    (λ old. moment_seen items free w w m old (moment_self items w))
    (λ put. moment_seen items free w (with_leaf path leaf w) m put new) moment

pub moment_gone : (items : List Item) (path : Name) (w m : WorldState) → IsFarmMoment items w (without_leaf path w) → IsOldOrGone path w m → IsFarmMoment items w m
moment_gone items path w m gone moment = ⊎_elim
    (λ old. subst (λ x. IsFarmMoment items w x) (sym old) (moment_self items w))
    (λ now. subst (λ x. IsFarmMoment items w x) (sym now) gone) moment

-- ---- what is in the way

same_content : (w m : Leaves) → get m (place clean_name) ≡ get w (place clean_name) → content_of m (place clean_name) ≡ content_of w (place clean_name) → lacks_content m (place clean_name) ≡ lacks_content w (place clean_name)
same_content w m leaf content =
    ap (λ (o : Option LeafKind). is_some o && is_none (content_of m (place clean_name))) leaf ∙ ap (λ (o : Option (List ℕ)). is_some (get w (place clean_name)) && is_none o) content

module _ (leaves : Leaves) (x : Name) (leaf : LeafKind) where
  clean_beside : x ≢ clean_name → get (insert leaves (place x) leaf) (place clean_name) ≡ get leaves (place clean_name)
  clean_beside ne = get_other leaves (place x) (place clean_name) leaf (other_place clean_name x (λ is. ne (sym is)))

  list_beside : x ≢ clean_name → content_of (insert leaves (place x) leaf) (place clean_name) ≡ content_of leaves (place clean_name)
  list_beside ne = content_kept leaves (insert leaves (place x) leaf) (λ target p is. get_other leaves (place x) p leaf (store_apart target p x is)) (place clean_name) (clean_beside ne)

  content_beside : x ≢ clean_name → lacks_content (insert leaves (place x) leaf) (place clean_name) ≡ lacks_content leaves (place clean_name)
  content_beside ne = same_content leaves (insert leaves (place x) leaf) (clean_beside ne) (list_beside ne)

  way_put : is_in_line (place x) (place clean_name) ≡ false → is_in_line (place x) (place static_name) ≡ false → lacks_content (insert leaves (place x) leaf) (place clean_name) ≡ false → IsWayFree leaves → IsWayFree (insert leaves (place x) leaf)
  way_put clean static content way = record {
    clean = clear_insert leaves (place x) (place clean_name) leaf clean way.clean;
    fixed_link = clear_insert leaves (place x) (place static_name) leaf static way.fixed_link;
    stage = clear_insert leaves (place x) stage leaf (place_apart x).line way.stage;
    content = content;
  }

and_false : (a : Bool) → a && false ≡ false
and_false true = refl
and_false false = refl

list_content : (leaves : Leaves) (names : List Name) → lacks_content (insert leaves (place clean_name) (clean_leaf names)) (place clean_name) ≡ false
list_content leaves names =
    ap (λ leaf. is_some (get (insert leaves (place clean_name) (clean_leaf names)) (place clean_name)) && is_none (leaf_content (insert leaves (place clean_name) (clean_leaf names)) leaf)) (at_same leaves (place clean_name) (clean_leaf names))
    ∙ and_false (is_some (get (insert leaves (place clean_name) (clean_leaf names)) (place clean_name)))

clean_left : (leaves : Leaves) (x : Name) → x ≢ clean_name → get (remove leaves (place x)) (place clean_name) ≡ get leaves (place clean_name)
clean_left leaves x ne = get_removed_other leaves (place x) (place clean_name) (other_place clean_name x (λ is. ne (sym is)))

list_left : (leaves : Leaves) (x : Name) → x ≢ clean_name → content_of (remove leaves (place x)) (place clean_name) ≡ content_of leaves (place clean_name)
list_left leaves x ne = content_kept leaves (remove leaves (place x)) (λ target p is. get_removed_other leaves (place x) p (store_apart target p x is)) (place clean_name) (clean_left leaves x ne)

way_removed : (leaves : Leaves) (x : Name) → x ≢ clean_name → IsWayFree leaves → IsWayFree (remove leaves (place x))
way_removed leaves x ne way = record {
  clean = clear_remove leaves (place x) (place clean_name) way.clean;
  fixed_link = clear_remove leaves (place x) (place static_name) way.fixed_link;
  stage = clear_remove leaves (place x) stage way.stage;
  content = same_content leaves (remove leaves (place x)) (clean_left leaves x ne) (list_left leaves x ne) ∙ way.content;
}

-- ---- the steps

-- a path that isn't owned is another than an owned place
not_owned_other : (x : Name) (q : Name) → is_owned x ≡ true → owns_farm q ≡ false → eq_by_cmp bytes_cmp q (place x) ≡ false
not_owned_other x q own none = other_of q (place x) (λ same. both_ways _ none (ap owns_farm same ∙ owned_place x own))

-- what is put at one name leaves what is listed, where that name's copy is
listed_beside : (items : List Item) (w m : Leaves) (x : Name) → IsAllBut x w m → x ≢ clean_name → (has (placed items w) x ≡ true → has (clean_of w) x ≡ true) → AreListed items w m
listed_beside items w m x but ne there = record {
  stays = λ q is listed. ap (λ (names : List Name). has names q) (but.clean ne) ∙ listed;
  changed = λ q is. elim (same_or_other q x) [
    | inl same ↦ inr (ap (λ (names : List Name). has names q) (but.clean ne) ∙ subst (λ y. has (clean_of w) y ≡ true) (sym same) (there (subst (λ y. has (placed items w) y ≡ true) same is)))
    | inr other ↦ inl (but.others q (other_name q x other))
  ];
}

module _ (items : List Item) (free : AreFree items) (w : WorldState) where
  pub put_entry : (x : Name) (leaf : LeafKind) → is_entry items x ≡ true → is_blocked items w.leaves x ≡ false → AllListed items w.leaves → IsFarmMoment items w (with_leaf (place x) leaf w)
  put_entry x leaf known unblocked listed =
      let not_reserved = free x known in
      let not_clean = not_reserved_other x clean_name not_reserved clean_reserved in
      let kept = put_law items w.leaves x leaf not_reserved known unblocked in
      record {
        keeps = record {
          keeps = kept;
          listed = listed_beside items w.leaves (insert w.leaves (place x) leaf) x (inserted w.leaves x leaf) not_clean (listed x);
          free = λ none.
              let way = way_free w.leaves none in
              free_way (insert w.leaves (place x) leaf)
              (way_put w.leaves x leaf (free_line x clean_name not_reserved clean_reserved) (free_line x static_name not_reserved static_reserved) (content_beside w.leaves x leaf not_clean ∙ way.content) way);
          short = short_beside items w.leaves (insert w.leaves (place x) leaf) kept (list_beside w.leaves x leaf not_clean);
        };
        leaves = λ q none ne. get_other w.leaves (place x) q leaf (not_owned_other x q (owned_name x not_reserved) none);
        manager = refl;
      }

  pub remove_own : (x : Name) → IsOwn items w.leaves x → IsFarmMoment items w (without_leaf (place x) w)
  remove_own x own =
      let not_clean = not_reserved_other x clean_name own.free clean_reserved in
      let kept = removal_law items w.leaves x own.free own.new own.own in
      record {
        keeps = record {
          keeps = kept;
          listed = listed_beside items w.leaves (remove w.leaves (place x)) x (removed w.leaves x) not_clean (λ is. absurd (both_ways _ own.new (placed_known items w.leaves x is)));
          free = λ none. free_way (remove w.leaves (place x)) (way_removed w.leaves x not_clean (way_free w.leaves none));
          short = short_beside items w.leaves (remove w.leaves (place x)) kept (list_left w.leaves x not_clean);
        };
        leaves = λ q none ne. get_removed_other w.leaves (place x) q (not_owned_other x q (owned_name x own.free) none);
        manager = refl;
      }

  pub put_static : (leaf : LeafKind) → IsFarmMoment items w (with_leaf (place static_name) leaf w)
  put_static leaf = record {
    keeps = record {
      keeps = static_law items w.leaves leaf free;
      listed = listed_beside items w.leaves (insert w.leaves (place static_name) leaf) static_name (inserted w.leaves static_name leaf) static_not_clean
          (λ is. absurd (both_ways _ (free static_name (placed_known items w.leaves static_name is)) static_reserved));
      free = λ none.
          let way = way_free w.leaves none in
          free_way (insert w.leaves (place static_name) leaf)
          (way_put w.leaves static_name leaf static_clean (not_in_line (place static_name)) (content_beside w.leaves static_name leaf static_not_clean ∙ way.content) way);
      short = short_beside items w.leaves (insert w.leaves (place static_name) leaf) (static_law items w.leaves leaf free) (list_beside w.leaves static_name leaf static_not_clean);
    };
    leaves = λ q none ne. get_other w.leaves (place static_name) q leaf (not_owned_other static_name q static_owned none);
    manager = refl;
  }

  list_moment :
      (names : List Name) → Keeps items w.leaves (insert w.leaves (place clean_name) (clean_leaf names)) →
      ((q : Name) → has (placed items w.leaves) q ≡ true → has (clean_names (clean_text names)) q ≡ true) →
      AreListsShort items w.leaves (insert w.leaves (place clean_name) (clean_leaf names)) →
      IsFarmMoment items w (with_leaf (place clean_name) (clean_leaf names) w)
  list_moment names keeps all short = record {
    keeps = record {
      keeps = keeps;
      listed = record {
        stays = λ q is there. ap (λ (ns : List Name). has ns q) (listed_there w.leaves names) ∙ all q is;
        changed = λ q is. inr (ap (λ (ns : List Name). has ns q) (listed_there w.leaves names) ∙ all q is);
      };
      free = λ none. free_way (insert w.leaves (place clean_name) (clean_leaf names))
          (way_put w.leaves clean_name (clean_leaf names) (not_in_line (place clean_name)) clean_static (list_content w.leaves names) (way_free w.leaves none));
      short = short;
    };
    leaves = λ q none ne. get_other w.leaves (place clean_name) q (clean_leaf names) (not_owned_other clean_name q clean_owned none);
    manager = refl;
  }

  pub put_first : (names : List Name) → IsFirstNames items w.leaves names → IsFarmMoment items w (with_leaf (place clean_name) (clean_leaf names) w)
  put_first names are =
      let first = first_starts items w.leaves names are in
      let kept = first_list_law items w.leaves names free first in
      list_moment names kept (λ q is. first q ∙ or_right (has (clean_of w.leaves) q) (has (placed items w.leaves) q) is) (short_first items w.leaves names kept are)

  pub put_last : (names : List Name) → names ≡ placed items w.leaves → clean_names (clean_text names) ≡ names → IsStrictlySortedBy bytes_cmp names → IsLastList items w.leaves names →
      IsFarmMoment items w (with_leaf (place clean_name) (clean_leaf names) w)
  put_last names are read sorted last =
      let kept = last_list_law items w.leaves names free last in
      list_moment names kept (λ q is. last.names_are q ∙ is) (short_last items w.leaves names kept are read sorted)

-- The clean lists can be read again while a farm is put.
use Rattle.std.proofs.Common.{◌≡◌, ◌||◌, ℕ, Bool, true, false, cond, List, [], ◌∷◌, ◌++◌, Option, None, Some, refl, sym, ap, ◌∙◌}
use Rattle.std.proofs.lemmas.List.Folds.{list_any-append}
use Rattle.std.specs.FinMap.{insert}
use Rattle.std.specs.List.Sorted.{IsStrictlySortedBy}
use Rattle.switch_names.specs.Names.{Name, has, is_name}
use Rattle.switch_names.proofs.Outcomes.{none_mapped}
use Rattle.host_trait.specs.declared.leaf.LeafKind.{LeafKind}
use Rattle.host_trait.specs.World.{Leaves, bytes_cmp, content_of, leaf_content}
use Rattle.host_trait.proofs.Places.{at_same}
use Rattle.leaf_limits.specs.Limits.{content_past, is_long_content, length_of}
use Rattle.switch_parts.specs.Puts.{long_among, long_put}
use Rattle.switch_parts.proofs.LongLemmas.{all_short, each_short}
use Rattle.tree_put.specs.Sequence.{put_at}
use Rattle.etc_manifest.specs.declared.item.Item.{Item}
use Rattle.etc_clean.specs.CleanList.{clean_leaf, clean_name, clean_names, clean_of, clean_text, names_in}
use Rattle.etc_clean.specs.Farm.{placed}
use Rattle.etc_clean.specs.Keeps.{Keeps}
use Rattle.etc_clean.specs.Names.{place}
use Rattle.etc_clean.proofs.CleanLemmas.{read_back_law}
use Rattle.etc_clean.proofs.FarmLemmas.{placed_kept}
use Rattle.etc_clean.proofs.KeepsLemmas.{listed_there}
use Rattle.etc_farm.specs.Lists.{AreListsShort, in_order, list_long, list_puts}
use Rattle.etc_farm.specs.Steps.{IsFirstNames}
use Rattle.etc_farm.proofs.OrderLemmas.{first_has, first_is, in_order_same, in_order_twice}

-- ---- a content that isn't too long

pub content_short : (content : Option (List ℕ)) → content_past content ≡ None → is_long_content content ≡ false
content_short content none = by (is_long_content content) none
  where
    by : (b : Bool) → cond b (Some (length_of content)) None ≡ None → b ≡ false
    by true is = absurd cc
    by false is = refl

pub short_content : (content : Option (List ℕ)) → is_long_content content ≡ false → content_past content ≡ None
short_content content short = ap (λ b. cond b (Some (length_of content)) None) short

-- a list that isn't put too long
list_short : (names : List Name) → long_put (put_at (place clean_name) (clean_leaf names)) ≡ None → is_long_content (Some (clean_text names)) ≡ false
list_short names none = content_short (Some (clean_text names)) (none_mapped _ (content_past (Some (clean_text names))) none)

told_twice : (a b : Bool) → ((a || b) || b) ≡ (a || b)
told_twice true b = refl
told_twice false true = refl
told_twice false false = refl

-- ---- from one tree to the next

module _ (items : List Item) where
  long_same : (w m : Leaves) → in_order (clean_of m ++ placed items m) ≡ in_order (clean_of w ++ placed items w) → placed items m ≡ placed items w → list_long items m ≡ list_long items w
  long_same w m first last = λ i. long_among (put_at (place clean_name) (clean_leaf (first i)) ∷ put_at (place clean_name) (clean_leaf (last i)) ∷ [])

  pub short_self : (w : Leaves) → AreListsShort items w w
  short_self w = record { puts = λ none. none; stands = λ none short. short }

  pub short_then : (w v m : Leaves) → AreListsShort items w v → AreListsShort items v m → AreListsShort items w m
  short_then w v m first then = record {
    puts = λ none. then.puts (first.puts none);
    stands = λ none short. then.stands (first.puts none) (first.stands none short);
  }

  -- what leaves the clean list
  pub short_beside : (w m : Leaves) → Keeps items w m → content_of m (place clean_name) ≡ content_of w (place clean_name) → AreListsShort items w m
  short_beside w m keeps content =
      let same = placed_kept items w m keeps.foreign in
      record {
        puts = λ none. long_same w m (λ i. in_order (names_in (content i) ++ same i)) same ∙ none;
        stands = λ none short. ap is_long_content content ∙ short;
      }

  -- what puts one
  module _ (w : Leaves) (names : List Name) (keeps : Keeps items w (insert w (place clean_name) (clean_leaf names))) where
    abbrev m : Leaves
    m = insert w (place clean_name) (clean_leaf names)

    placed_is : placed items m ≡ placed items w
    placed_is = placed_kept items w m keeps.foreign

    content_there : content_of m (place clean_name) ≡ Some (clean_text names)
    content_there = ap (λ leaf. leaf_content m leaf) (at_same w (place clean_name) (clean_leaf names))

    stands_short : long_put (put_at (place clean_name) (clean_leaf names)) ≡ None → is_long_content (content_of m (place clean_name)) ≡ false
    stands_short none = ap is_long_content content_there ∙ list_short names none

    -- the names of the first list, and those of the copies, are those of the first list
    first_again : IsFirstNames items w names → (q : Name) → has (clean_of m ++ placed items m) q ≡ has (clean_of w ++ placed items w) q
    first_again are q =
        list_any-append (is_name q) (clean_of m) (placed items m)
        ∙ ap (λ (ns : List Name). has ns q || has (placed items m) q) (listed_there w names ∙ read_back_law names are.clean)
        ∙ ap (λ (ns : List Name). has names q || has ns q) placed_is
        ∙ ap (λ b. b || has (placed items w) q) (first_has items w names are q)
        ∙ told_twice (has (clean_of w) q) (has (placed items w) q)
        ∙ sym (list_any-append (is_name q) (clean_of w) (placed items w))

    pub short_first : IsFirstNames items w names → AreListsShort items w m
    short_first are = record {
      puts = λ none. long_same w m (in_order_same (clean_of m ++ placed items m) (clean_of w ++ placed items w) (first_again are)) placed_is ∙ none;
      stands = λ none short. stands_short (ap (λ (leaf : LeafKind). long_put (put_at (place clean_name) leaf)) (first_is items w names are) ∙ (each_short None (list_puts items w) none).0);
    }

    module _ (are : names ≡ placed items w) (read : clean_names (clean_text names) ≡ names) (sorted : IsStrictlySortedBy bytes_cmp names) where
      last_short : list_long items w ≡ None → long_put (put_at (place clean_name) (clean_leaf names)) ≡ None
      last_short none = ap (λ (ns : List Name). long_put (put_at (place clean_name) (clean_leaf ns))) are ∙ (each_short None (list_puts items w) none).1.0

      last_placed : placed items m ≡ names
      last_placed = placed_is ∙ sym are

      last_again : in_order (clean_of m ++ placed items m) ≡ names
      last_again = (λ i. in_order ((listed_there w names ∙ read) i ++ last_placed i)) ∙ sym (in_order_twice names sorted)

      pub short_last : AreListsShort items w m
      short_last = record {
        puts = λ none. all_short (list_puts items m) (
          ap (λ (ns : List Name). long_put (put_at (place clean_name) (clean_leaf ns))) last_again ∙ last_short none,
          (ap (λ (ns : List Name). long_put (put_at (place clean_name) (clean_leaf ns))) last_placed ∙ last_short none, tt),
        );
        stands = λ none short. stands_short (last_short none);
      }

-- A farm's end keeps what the farm looks at.
use Rattle.std.proofs.Common.{◌≡◌, ◌||◌, All, Bool, true, false, cond, List, [], ◌∷◌, Option, None, Some, is_some, refl, sym, ap, ◌∙◌, inl, inr}
use Rattle.std.proofs.lemmas.Bool.{and_parts, both_ways, cases_Bool, or_left, or_right}
use Rattle.std.specs.List.{slice_split}
use Rattle.switch_names.specs.Names.{Name, has, is_name}
use Rattle.switch_names.specs.Texts.{is_line_feed}
use Rattle.host_trait.specs.declared.leaf.LeafKind.TheVariants.{Link}
use Rattle.host_trait.specs.World.{Leaves, leaf_content}
use Rattle.host_trait.proofs.NameOrder.{has_filter}
use Rattle.host_trait.proofs.Places.{itself, same_or_other}
use Rattle.host_trait.proofs.Seen.{other_of}
use Rattle.etc_manifest.specs.declared.item.Item.{Item}
use Rattle.etc_manifest.specs.declared.item.ItemKind.{ItemKind}
use Rattle.etc_manifest.specs.Manifest.{entry}
use Rattle.etc_manifest.specs.Place.{is_reserved}
use Rattle.etc_clean.specs.CleanList.{clean_leaf, clean_name, clean_names, clean_of, clean_text, is_clean_name, names_in}
use Rattle.etc_clean.specs.Etc.{Farm, at_entry, etc, is_owned, leaf_of, static_name}
use Rattle.etc_clean.specs.Farm.{at, is_blocked, is_entry, is_foreign, is_gone, placed}
use Rattle.etc_clean.specs.Keeps.{AgainLaw, AreFree, AreLines, Keeps}
use Rattle.etc_clean.proofs.CleanLemmas.{blank_line, split_list}
use Rattle.etc_clean.proofs.FarmLemmas.{absent_not_foreign, entry_is, entry_not_foreign, foreign_parts, foreign_relisted, gone_not_foreign, placed_known, reserved_not_foreign}
use Rattle.etc_clean.proofs.KeepsLemmas.{clean_owned, owned_name}
use Rattle.etc_clean.proofs.NameLemmas.{clean_reserved, not_reserved_other, static_reserved}

-- ---- what is read of a list whose names have no line feed

abbrev HaveNoLineFeed : List Name → Type 0
HaveNoLineFeed names = (q : Name) → has names q ≡ true → All (λ byte. is_line_feed byte ≡ false) q

lines_are : (names : List Name) → HaveNoLineFeed names → (q : Name) → is_clean_name q ≡ true → has (slice_split is_line_feed (clean_text names)) q ≡ has names q
lines_are [] plain q clean = elim (same_or_other q []) [
  | inl same ↦ absurd (both_ways _ (ap is_clean_name same ∙ blank_line) clean)
  | inr other ↦ ap (λ b. b || false) other
]
lines_are (name ∷ names) plain q clean =
    ap (λ (lines : List Name). has lines q) (split_list name names (plain name (or_left (is_name name name) (has names name) (itself name))))
    ∙ ap (λ b. is_name q name || b) (lines_are names (λ p there. plain p (or_right (is_name p name) (has names p) there)) q clean)

-- no other name is read
read_among : (names : List Name) → HaveNoLineFeed names → (q : Name) → has (clean_names (clean_text names)) q ≡ true → has names q ≡ true
read_among names plain q there =
    let parts = and_parts (is_clean_name q) (has (slice_split is_line_feed (clean_text names)) q) (sym (has_filter is_clean_name (slice_split is_line_feed (clean_text names)) q) ∙ there) in
    sym (lines_are names plain q parts.0) ∙ parts.1

-- ---- the end of a farm

none_of : {X : Type 0} (o : Option X) → is_some o ≡ false → o ≡ None
none_of None is = refl
none_of (Some x) is = absurd (both_ways true is refl)

clean_not_static : is_name clean_name static_name ≡ false
unfolding clean_name static_name
clean_not_static = refl

module _ (farm : Farm) (w : Leaves) where
  abbrev items : List Item
  items = farm.items

  end_at_clean : etc farm w clean_name ≡ Some (clean_leaf (placed items w))
  end_at_clean =
      ap (λ b. cond b (Some (Link farm.target)) (cond (is_name clean_name clean_name) (Some (clean_leaf (placed items w))) (cond (is_reserved clean_name) (at w clean_name) (at_entry items w clean_name (entry items clean_name))))) clean_not_static
      ∙ ap (λ b. cond b (Some (clean_leaf (placed items w))) (cond (is_reserved clean_name) (at w clean_name) (at_entry items w clean_name (entry items clean_name)))) (itself clean_name)

  end_at_free : (q : Name) → is_reserved q ≡ false → etc farm w q ≡ at_entry items w q (entry items q)
  end_at_free q free =
      ap (λ b. cond b (Some (Link farm.target)) (cond (is_name q clean_name) (Some (clean_leaf (placed items w))) (cond (is_reserved q) (at w q) (at_entry items w q (entry items q)))))
      (other_of q static_name (not_reserved_other q static_name free static_reserved))
      ∙ ap (λ b. cond b (Some (clean_leaf (placed items w))) (cond (is_reserved q) (at w q) (at_entry items w q (entry items q))))
      (other_of q clean_name (not_reserved_other q clean_name free clean_reserved))
      ∙ ap (λ b. cond b (at w q) (at_entry items w q (entry items q))) free

  module _ (v : Leaves) (free : AreFree items) (lines : AreLines items) (end : (q : Name) → is_owned q ≡ true → at v q ≡ etc farm w q) where
    there : (q : Name) → is_reserved q ≡ false → at v q ≡ at_entry items w q (entry items q)
    there q unreserved = end q (owned_name q unreserved) ∙ end_at_free q unreserved

    -- what is neither reserved nor an entry's is as it was, unless it was gone
    new_there : (q : Name) → is_reserved q ≡ false → is_entry items q ≡ false → at v q ≡ cond (is_gone items w q) None (at w q)
    new_there q unreserved new = there q unreserved ∙ ap (at_entry items w q) (none_of (entry items q) (entry_is items q ∙ new))

    clean_is : clean_of v ≡ clean_names (clean_text (placed items w))
    clean_is = ap (λ leaf. names_in (leaf_content v leaf)) (end clean_name clean_owned ∙ end_at_clean)

    -- the clean list has entries alone
    unlisted : (q : Name) → is_entry items q ≡ false → has (clean_of v) q ≡ false
    unlisted q new = elim (cases_Bool (has (clean_of v) q)) [
      | inl listed ↦ absurd (both_ways _ new (placed_known items w q
          (read_among (placed items w) (λ p is. lines p (placed_known items w p is)) q (sym (ap (λ (names : List Name). has names q) clean_is) ∙ listed))))
      | inr other ↦ other
    ]

    foreign_new : (q : Name) (gone : Bool) → is_gone items w q ≡ gone → is_reserved q ≡ false → is_entry items q ≡ false → is_foreign items v q ≡ is_foreign items w q
    foreign_new q true is unreserved new =
        absent_not_foreign items v q (new_there q unreserved new ∙ ap (λ b. cond b None (at w q)) is) ∙ sym (gone_not_foreign items w q is)
    foreign_new q false is unreserved new =
        foreign_relisted items w v q (new_there q unreserved new ∙ ap (λ b. cond b None (at w q)) is) (unlisted q new) is

    foreign_there : (q : Name) (reserved known : Bool) → is_reserved q ≡ reserved → is_entry items q ≡ known → is_foreign items v q ≡ is_foreign items w q
    foreign_there q true known r k = reserved_not_foreign items v q r ∙ sym (reserved_not_foreign items w q r)
    foreign_there q false true r k = entry_not_foreign items v q k ∙ sym (entry_not_foreign items w q k)
    foreign_there q false false r k = foreign_new q (is_gone items w q) refl r k

    foreign_not_gone : (q : Name) → is_foreign items w q ≡ true → is_gone items w q ≡ false
    foreign_not_gone q is = elim (cases_Bool (is_gone items w q)) [
      | inl gone ↦ absurd (both_ways _ (gone_not_foreign items w q gone) is)
      | inr other ↦ other
    ]

    blocked_there : (q : Name) (o : Option ItemKind) → entry items q ≡ o → is_entry items q ≡ true → is_blocked items w q ≡ true → at v q ≡ at w q
    blocked_there q None is known blocked = absurd (both_ways false refl (ap (λ (o : Option ItemKind). is_some o) (sym is) ∙ entry_is items q ∙ known))
    blocked_there q (Some kind) is known blocked =
        there q (free q known) ∙ ap (at_entry items w q) is ∙ ap (λ b. cond b (at w q) (Some (leaf_of q kind))) blocked

    pub again : Keeps items w v
    again = record {
      foreign = λ q. foreign_there q (is_reserved q) (is_entry items q) refl refl;
      at_foreign = λ q is.
          let parts = foreign_parts items w q is in
          new_there q parts.1 parts.2 ∙ ap (λ b. cond b None (at w q)) (foreign_not_gone q is);
      at_blocked = λ q known blocked. blocked_there q (entry items q) refl known blocked;
    }

pub again_law : AgainLaw
again_law farm w v free lines end = again farm w v free lines end

-- The first refused entry in byte order.
use Rattle.std.proofs.Common.{◌≡◌, ◌||◌, ℕ, Bool, true, false, List, [], ◌∷◌, map, Result, Ok, Err, IsErrOf, refl, sym, ap, ◌∙◌, inl, inr}
use Rattle.std.specs.List.Sorted.{IsStrictlySortedBy}
use Rattle.std.specs.declared.cmp.Ordering.TheVariants.{Less}
use Rattle.std.proofs.lemmas.Bool.{both_ways, or_cases, or_right}
use Rattle.switch_names.specs.Names.{has, is_name}
use Rattle.host_trait.specs.World.{Leaves, bytes_cmp}
use Rattle.etc_manifest.specs.declared.item.Item.{Item}
use Rattle.etc_manifest.specs.declared.manifest_fault.ManifestFault.{ManifestFault}
use Rattle.etc_manifest.specs.Entries.{IsFirstRefused, entries_of, item_at, manifest_of}
use Rattle.etc_manifest.specs.Manifest.{gathered, prefixed}
use Rattle.etc_manifest.specs.Owners.{OwnerIds}
use Rattle.etc_manifest.proofs.GatherLemmas.{gathered_err, gathered_ok, prefixed_fault}
use Rattle.etc_manifest.proofs.LeafLemmas.{entries_sorted}
use Rattle.host_trait.proofs.NameOrder.{above_all, less_is_other, name_exact, name_itself, not_both_less}

err_same : {T : Type 0} (a b : ManifestFault) → IsErrOf {T = T} (Err a) b → a ≡ b
err_same a b is = cc

module _ (f : List ℕ → Result Item ManifestFault) where
  -- a name among these is refused for this, and none before it
  record IsFirstOf (names : List (List ℕ)) (name : List ℕ) (fault : ManifestFault) : Type 0 where
    pub there : has names name ≡ true
    pub refused : f name ≡ Err fault
    pub earlier : (other : List ℕ) → has names other ≡ true → bytes_cmp other name ≡ Less → (item : Item) × (f other ≡ Ok item)

  first_from : (names : List (List ℕ)) (fault : ManifestFault) → IsStrictlySortedBy bytes_cmp names → gathered (map f names) ≡ Err fault → (name : List ℕ) × IsFirstOf names name fault
  unfolding IsStrictlySortedBy
  first_from [] fault sorted is = absurd (cc)
  first_from (n ∷ names) fault sorted is = by (f n) refl (first_from names fault sorted.1)
    where
      by : (r : Result Item ManifestFault) → f n ≡ r → (gathered (map f names) ≡ Err fault → (name : List ℕ) × IsFirstOf names name fault) → (name : List ℕ) × IsFirstOf (n ∷ names) name fault
      by (Err e) refused rest = (
        n,
        record {
          there = ap (λ b. b || has names n) (name_itself n);
          refused = refused ∙ ap (λ (x : ManifestFault). Err x) (err_same {T = List Item} e fault (sym (gathered_err f n names e refused) ∙ is));
          earlier = λ other there less. elim (or_cases (is_name other n) (has names other) there) [
            | inl same ↦ absurd (both_ways _ (less_is_other other n less) same)
            | inr others ↦ not_both_less n other (above_all n other names sorted.0 others) less
          ];
        },
      )
      by (Ok item) fine rest =
          let found = rest (prefixed_fault (item ∷ []) (gathered (map f names)) fault (sym (gathered_ok f n names item fine) ∙ is)) in (
            found.0,
            record {
              there = or_right (is_name found.0 n) (has names found.0) found.1.there;
              refused = found.1.refused;
              earlier = λ other there less. elim (or_cases (is_name other n) (has names other) there) [
                | inl same ↦ (item, ap f (name_exact other n same) ∙ fine)
                | inr others ↦ found.1.earlier other others less
              ];
            },
          )

  first_to : (names : List (List ℕ)) (name : List ℕ) (fault : ManifestFault) → IsStrictlySortedBy bytes_cmp names → IsFirstOf names name fault → gathered (map f names) ≡ Err fault
  unfolding IsStrictlySortedBy
  first_to [] name fault sorted first = absurd (let there = first.there in cc)
  first_to (n ∷ names) name fault sorted first = by (is_name name n) refl
      (λ others. first_to names name fault sorted.1 (record {
        there = others;
        refused = first.refused;
        earlier = λ other there less. first.earlier other (or_right (is_name other n) (has names other) there) less;
      }))
    where
      by : (b : Bool) → is_name name n ≡ b → (has names name ≡ true → gathered (map f names) ≡ Err fault) → gathered (map f (n ∷ names)) ≡ Err fault
      by true same rest = gathered_err f n names fault (ap f (sym (name_exact name n same)) ∙ first.refused)
      by false other rest =
          let others : has names name ≡ true = sym (ap (λ b. b || has names name) other) ∙ first.there in
          let fine = first.earlier n (ap (λ b. b || has names n) (name_itself n)) (above_all n name names sorted.0 others) in
          gathered_ok f n names fine.0 fine.1 ∙ ap (prefixed (fine.0 ∷ [])) (rest others)

module _ (leaves : Leaves) (system : List ℕ) (owners : OwnerIds) (fault : ManifestFault) where
  pub first_refused : manifest_of leaves system owners ≡ Err fault → (name : List ℕ) × IsFirstRefused leaves system owners name fault
  first_refused is =
      let first = first_from (item_at leaves system owners) (entries_of leaves system) fault (entries_sorted leaves system) is in
      (first.0, record { is_entry = first.1.there; refused = first.1.refused; earlier = first.1.earlier })

  pub refused_first : (name : List ℕ) × IsFirstRefused leaves system owners name fault → manifest_of leaves system owners ≡ Err fault
  refused_first first =
      first_to (item_at leaves system owners) (entries_of leaves system) first.0 fault (entries_sorted leaves system)
      (record { there = first.1.is_entry; refused = first.1.refused; earlier = first.1.earlier })

-- What stands at a moment of a collection: in the store, outside it, and in the files of live store paths.
use Rattle.std.proofs.Common.{◌≡◌, ◌≢◌, ◌⊎◌, ℕ, not, Bool, true, false, cond, codes, List, [], ◌∷◌, ◌++◌, take, drop, map, Option, None, Some, is_some, refl, sym, ap, ap₂, subst, ◌∙◌, inl, inr, ⊎_elim}
use Rattle.std.proofs.lemmas.Bool.{and_from, and_parts, both_ways, cases_Bool, not_from_false, or_cases, or_left, or_parts, or_right}
use Rattle.std.proofs.lemmas.List.{take-append-drop}
use Rattle.std.proofs.lemmas.List.Folds.{list_any-append}
use Rattle.std.specs.FinMap.{get}
use Rattle.std.specs.List.{before_first, flat_map, position_or_len}
use Rattle.std.specs.Prelude.{unwrap_or}
use Rattle.generations.specs.Places.{generation_at, is_number, link_path}
use Rattle.generations.proofs.Apart.{link_apart}
use Rattle.host_trait.specs.declared.leaf.LeafKind.{LeafKind}
use Rattle.host_trait.specs.declared.leaf.LeafKind.TheVariants.{File, Link}
use Rattle.host_trait.specs.World.{WorldState, content_of, file_at, file_bytes, is_path, leaf_content, listed, stage, store_place}
use Rattle.host_trait.proofs.Fronts.{begins, begins_with}
use Rattle.host_trait.proofs.NameOrder.{has_filter, name_exact}
use Rattle.host_trait.proofs.Seen.{seen_at}
use Rattle.switch_names.specs.Names.{Name, has, is_name}
use Rattle.switch_names.specs.Path.{is_slash, slash}
use Rattle.switch_names.specs.SystemName.{store_folder}
use Rattle.switch_names.proofs.Below.{below_front}
use Rattle.tree_put.specs.Sequence.{without_places}
use Rattle.tree_put.proofs.LeftLemmas.{gone_at, left_at}
use Rattle.tree_put.proofs.PutLemmas.{apart_ne}
use Rattle.tree_put.proofs.SequenceLemmas.{all_take, places_manager}
use Rattle.boot_entries.specs.declared.boot_texts.BootFile.{BootFile}
use Rattle.boot_entries.specs.Entries.{entry_text, first_line, line_at, params_path, version_path}
use Rattle.boot_entries.specs.Places.{entry_path, loader_path}
use Rattle.boot_entries.specs.Steps.{AreEntries, IsBootMoment, boot_files, boot_put, loader_files, with_menu}
use Rattle.boot_entries.specs.Texts.{boot_file, entry_of}
use Rattle.boot_entries.proofs.EndLemmas.{AreOthers, any_take, eqb, left_others, only_law}
use Rattle.boot_entries.proofs.PutLemmas.{both_all, putting_world, with_files}
use Rattle.store_names.specs.Occurs.{Stands}
use Rattle.store_live.specs.Live.{IsDead, IsRoot, Live}
use Rattle.store_live.specs.StorePaths.{IsPlace, IsStored, is_at, is_store_path}
use Rattle.store_live.proofs.PathLemmas.{inside_begins, is_in_listed, listed_is, no_stage, path_there, store}
use Rattle.store_live.proofs.RootLemmas.{target_stands}
use Rattle.store_collect.specs.declared.collection.Collection.{Collection}
use Rattle.store_collect.specs.Collection.{IsCollectionOf, first_of, loader_places, passed_over}
use Rattle.store_collect.specs.Kept.{gens_kept}
use Rattle.store_collect.specs.Steps.{IsCollecting, removals}
use Rattle.store_collect.proofs.EntryLemmas.{are_entries}
use Rattle.store_collect.proofs.LawLemmas.{among_first, in_both, in_first_of, in_flat, link_outside, live_kept, menu_made, no_link, store_kept}
use Rattle.store_collect.proofs.VersionLemmas.{version_inside}
use Rattle.store_collect.proofs.WholeLemmas.{link_named, not_passed, system_named, system_stored}

-- ---- names in lists

-- whether a collection passes a place over
abbrev pub passed : Collection → Name → Bool
passed one = has (passed_over one.links one.texts)

pub in_neither : (one other : List Name) (q : Name) → has (one ++ other) q ≡ false → (has one q ≡ false) × (has other q ≡ false)
in_neither one other q none = or_parts (has one q) (has other q) (sym (list_any-append (is_name q) one other) ∙ none)

flat_has : (f : Name → List Name) (xs : List Name) (x q : Name) → has xs x ≡ true → has (f x) q ≡ true → has (flat_map f xs) q ≡ true
flat_has f [] x q there is = absurd cc
flat_has f (y ∷ xs) x q there is = list_any-append (is_name q) (f y) (flat_map f xs) ∙ elim (or_cases (is_name x y) (has xs x) there) [
  | inl same ↦ or_left (has (f y) q) (has (flat_map f xs) q) (subst (λ z. has (f z) q ≡ true) (name_exact x y same) is)
  | inr later ↦ or_right (has (f y) q) (has (flat_map f xs) q) (flat_has f xs x q later is)
]

first_has : (at : Name) (paths : List Name) (q : Name) → has paths q ≡ true → has (first_of at paths) q ≡ true
first_has at paths q is =
    let one = has_filter (λ p. is_path p at) paths q in
    let other = has_filter (λ p. not (is_path p at)) paths q in
    list_any-append (is_name q) _ _ ∙ elim (cases_Bool (is_path q at)) [
      | inl same ↦ or_left _ _ (one ∙ and_from (is_path q at) (has paths q) same is)
      | inr apart ↦ or_right _ _ (other ∙ and_from (not (is_path q at)) (has paths q) (not_from_false (is_path q at) apart) is)
    ]

files_others : (files : List BootFile) (q : Name) → has (map (λ (file : BootFile). file.at) files) q ≡ false → AreOthers q files
files_others [] q none = tt
files_others (file ∷ files) q none = let parts = or_parts (is_name q file.at) _ none in (parts.0, files_others files q parts.1)

loader_others : (loader : Option (List ℕ)) (q : Name) → has (loader_places loader) q ≡ false → AreOthers q (loader_files loader)
loader_others None q none = tt
loader_others (Some text) q none = ((or_parts (is_name q loader_path) false none).0, tt)

-- ---- the store path that a link's target names

target_parts : (b : Bool) (more p : List ℕ) → cond b (Some more) None ≡ Some p → (b ≡ true) × (more ≡ p)
target_parts true more p is = (refl, cc)
target_parts false more p is = absurd cc

-- where a link leads to a place in the store, it names the store path of that
pub place_named : (target p : List ℕ) → store_place target ≡ Some p → (y : Name) × (is_store_path y ≡ true) × (is_at y p ≡ true) × Stands (slash ∷ y) target
place_named target p is =
    let parts = target_parts _ (drop 1 target) p is in
    let with = begins_with (codes "/nix/store/") target (and_parts (begins (codes "/nix/store/") target) _ parts.0).0 in
    let rest = with.0 in
    let place : p ≡ store ++ slash ∷ rest = sym parts.1 ∙ ap (drop 1) with.1 in
    let first = before_first is_slash rest in
    let of = path_there (store ++ slash ∷ rest) rest first (store ++ slash ∷ first) (ap (λ b. cond b (Some rest) None) (below_front store rest)) refl refl in (
      store ++ slash ∷ first,
      of.path,
      subst (λ q. is_at (store ++ slash ∷ first) q ≡ true) (sym place) of.inside,
      record {
        before = [];
        after = drop (position_or_len is_slash rest) rest;
        whole = with.1 ∙ ap (λ r. codes "/nix/store/" ++ r) (sym (take-append-drop (position_or_len is_slash rest) rest));
      },
    )

pub params_inside : (x : Name) → is_at x (params_path x) ≡ true
unfolding params_path
params_inside x = or_right (is_path (params_path x) x) _ (below_front x (codes "kernel-params"))

-- ---- what is removed from the store

module _ (keep : ℕ) (one : Collection) (w : WorldState) (is : IsCollectionOf keep w one) where
  -- a leaf that is removed is one of a dead store path
  pub leaf_dead : (q : Name) → has one.leaves q ≡ true → (x : Name) × IsDead (passed one) w x × (is_at x q ≡ true) × IsPlace w.leaves q
  leaf_dead q leaf =
      let found = in_flat (λ y. first_of (version_path y) (listed y w.leaves)) one.names q (subst (λ l. has l q ≡ true) is.planned.leaves leaf) in
      let there = listed_is found.0 w.leaves q (in_first_of (version_path found.0) (listed found.0 w.leaves) q found.2) in
      (found.0, (is.planned.names.exact found.0).0 found.1, there.0, there.1)

  -- and each such leaf is removed
  pub dead_leaf : (x q : Name) → IsDead (passed one) w x → is_at x q ≡ true → IsPlace w.leaves q → has one.leaves q ≡ true
  dead_leaf x q dead at place =
      subst (λ l. has l q ≡ true) (sym is.planned.leaves)
      (flat_has (λ y. first_of (version_path y) (listed y w.leaves)) one.names x q ((is.planned.names.exact x).1 dead) (first_has (version_path x) (listed x w.leaves) q (is_in_listed x w.leaves q at place)))

  -- no link that is removed stands in the store
  pub links_outside : (q : Name) → begins store_folder q ≡ true → has one.links q ≡ false
  links_outside q inside = elim (cases_Bool (has one.links q)) [
    | inl there ↦ absurd (no_link _ q inside (subst (λ l. has l q ≡ true) is.planned.links there))
    | inr apart ↦ apart
  ]

  pub leaves_inside : (q : Name) → begins store_folder q ≡ false → has one.leaves q ≡ false
  leaves_inside q away = elim (cases_Bool (has one.leaves q)) [
    | inl there ↦ let dead = leaf_dead q there in absurd (both_ways _ away (inside_begins dead.0 q dead.1.stored.path dead.2))
    | inr apart ↦ apart
  ]

  -- the system of a generation that is kept is live where it has a leaf
  pub kept_live : (n : ℕ) (system : Name) → has one.links (link_path n) ≡ false → generation_at w.leaves n ≡ Some (Some system) → (is_store_path system ≡ true) × (IsStored w.leaves system → Live (passed one) w system)
  kept_live n system kept stands =
      let link = link_named (is_number n) (get w.leaves (link_path n)) system stands in
      let named = system_named link.0 system link.2 in
      let counted = and_from (not (begins store_folder (link_path n))) (not (passed one (link_path n))) (not_from_false (begins store_folder (link_path n)) (link_outside n))
      (not_from_false (passed one (link_path n)) (not_passed keep one w (are_entries keep w one is) is n kept)) in (
        subst (λ x. is_store_path x ≡ true) named.1 (system_stored link.0 named.0),
        λ stored. Live.FromRoot system stored (IsRoot.Linked (link_path n) link.0 (apart_ne (link_path n) stage (link_apart n)) counted link.1 (target_stands link.0 system named.1)),
      )

-- ---- at a moment

module _ (keep : ℕ) (one : Collection) (w m : WorldState) (is : IsCollectionOf keep w one) (moment : IsCollecting one w m) where
  entries : AreEntries one.texts.entries
  entries = are_entries keep w one is

  pub same_manager : m.manager ≡ w.manager
  same_manager = by moment
    where
      menu : (v : WorldState) → IsBootMoment one.texts w v → v.manager ≡ w.manager
      menu v boot = (only_law (gens_kept keep is.gens) one.texts w v entries is.planned.texts boot).manager refl

      by : IsCollecting one w m → m.manager ≡ w.manager
      by (IsCollecting.Listing boot) = menu m boot
      by (IsCollecting.Dropping drop) =
          ap (λ (x : WorldState). x.manager) drop.world ∙ places_manager (take drop.count (removals one)) (with_menu one.texts w) ∙ menu (with_menu one.texts w) (menu_made one.texts w)

  module _ (q : Name) (other : q ≢ stage) where
    -- in the store a place stays, or is that of a leaf that goes
    pub store_either : begins store_folder q ≡ true → (get m.leaves q ≡ get w.leaves q) ⊎ ((has one.leaves q ≡ true) × (get m.leaves q ≡ None))
    store_either inside = by moment
      where
        of_leaf : has (removals one) q ≡ true → has one.leaves q ≡ true
        of_leaf there = elim (in_both one.links one.leaves q there) [
          | inl link ↦ absurd (both_ways _ (links_outside keep one w is q inside) link)
          | inr leaf ↦ leaf
        ]

        by : IsCollecting one w m → (get m.leaves q ≡ get w.leaves q) ⊎ ((has one.leaves q ≡ true) × (get m.leaves q ≡ None))
        by (IsCollecting.Listing boot) = inl (store_kept keep one w entries is m q boot inside other)
        by (IsCollecting.Dropping drop) =
            let gone = take drop.count (removals one) in
            let u = with_menu one.texts w in
            let after = seen_at m (without_places gone u) drop.world q other ∙ gone_at gone u q in
            elim (cases_Bool (has gone q)) [
              | inl there ↦ inr (of_leaf (among_first (removals one) drop.count q there), after ∙ ap (λ b. cond b None (get u.leaves q)) there)
              | inr apart ↦ inl (after ∙ ap (λ b. cond b None (get u.leaves q)) apart ∙ store_kept keep one w entries is u q (menu_made one.texts w) inside other)
            ]

    -- outside it what isn't passed over stays
    module _ (away : begins store_folder q ≡ false) (apart : passed one q ≡ false) where
      links : (has one.links q ≡ false) × (has (one.texts.gone ++ (map (λ (file : BootFile). file.at) one.texts.entries ++ loader_places one.texts.loader)) q ≡ false)
      links = in_neither one.links _ q apart

      gone : (has one.texts.gone q ≡ false) × (has (map (λ (file : BootFile). file.at) one.texts.entries ++ loader_places one.texts.loader) q ≡ false)
      gone = in_neither one.texts.gone _ q links.1

      others : AreOthers q (boot_files one.texts)
      others =
          let files = in_neither (map (λ (file : BootFile). file.at) one.texts.entries) _ q gone.1 in
          both_all (λ (file : BootFile). eqb q file.at ≡ false) one.texts.entries (loader_files one.texts.loader) (files_others one.texts.entries q files.0) (loader_others one.texts.loader q files.1)

      menu_same : (v : WorldState) → IsBootMoment one.texts w v → get v.leaves q ≡ get w.leaves q
      menu_same v boot = ⊎_elim
          (λ put.
          let files = take put.count (boot_files one.texts) in
          seen_at v (with_files files w) (putting_world one.texts w v put) q other ∙ left_at (map boot_put files) w q
          ∙ left_others files q (get w.leaves q) (all_take (λ (file : BootFile). eqb q file.at ≡ false) (boot_files one.texts) put.count others))
          (λ clear.
          let u = with_files (boot_files one.texts) w in
          seen_at v (without_places (take clear.count one.texts.gone) u) clear.world q other ∙ gone_at (take clear.count one.texts.gone) u q
          ∙ ap (λ b. cond b None (get u.leaves q)) (any_take (eqb q) one.texts.gone clear.count gone.0)
          ∙ left_at (map boot_put (boot_files one.texts)) w q ∙ left_others (boot_files one.texts) q (get w.leaves q) others)
          boot

      pub untouched : get m.leaves q ≡ get w.leaves q
      untouched = by moment
        where
          by : IsCollecting one w m → get m.leaves q ≡ get w.leaves q
          by (IsCollecting.Listing boot) = menu_same m boot
          by (IsCollecting.Dropping drop) =
              let first = take drop.count (removals one) in
              let u = with_menu one.texts w in
              let stays : has first q ≡ false = elim (cases_Bool (has first q)) [
                | inl there ↦ elim (in_both one.links one.leaves q (among_first (removals one) drop.count q there)) [
                  | inl link ↦ absurd (both_ways _ links.0 link)
                  | inr leaf ↦ absurd (both_ways _ (leaves_inside keep one w is q away) leaf)
                ]
                | inr none ↦ none
              ] in
              seen_at m (without_places first u) drop.world q other ∙ gone_at first u q ∙ ap (λ b. cond b None (get u.leaves q)) stays ∙ menu_same u (menu_made one.texts w)

  -- at a store path that is live where it has a leaf all stays
  module _ (x : Name) (path : is_store_path x ≡ true) (live : IsStored w.leaves x → Live (passed one) w x) where
    pub same_inside : (q : Name) → is_at x q ≡ true → get m.leaves q ≡ get w.leaves q
    same_inside q at = by (get w.leaves q) refl
      where
        by : (o : Option LeafKind) → get w.leaves q ≡ o → get m.leaves q ≡ get w.leaves q
        by None nothing = elim (store_either q (no_stage x q path at) (inside_begins x q path at)) [
          | inl same ↦ same
          | inr both ↦ both.1 ∙ sym nothing
        ]
        by (Some leaf) there = live_kept keep one w entries is m x q moment (live record { path = path; leaf = q; stands = ap is_some there; inside = at }) at

  -- so does what its files and its links to files in the store contain
  module _ (x : Name) (path : is_store_path x ≡ true) (live : IsStored w.leaves x → Live (passed one) w x) where
    pub same_content : (at : Name) → is_at x at ≡ true → content_of m.leaves at ≡ content_of w.leaves at
    same_content at inside = ap (leaf_content m.leaves) (same_inside x path live at inside) ∙ by (get w.leaves at) refl
      where
        to : (target : Name) → get w.leaves at ≡ Some (Link target) → (p : Option Name) → store_place target ≡ p → file_at m.leaves p ≡ file_at w.leaves p
        to target there None none = refl
        to target there (Some p) some =
            let named = place_named target p some in
            let stored : IsStored w.leaves x = record { path = path; leaf = at; stands = ap is_some there; inside = inside } in
            ap file_bytes (same_inside named.0 named.1
            (λ also. Live.FromReference named.0 x (live stored) also record { at = at; inside = inside; leaf = Link target; stands = there; named = named.3 }) p named.2)

        by : (o : Option LeafKind) → get w.leaves at ≡ o → leaf_content m.leaves o ≡ leaf_content w.leaves o
        by None there = refl
        by (Some (File bytes mode uid gid)) there = refl
        by (Some (Link target)) there = to target there (store_place target) refl

    same_line : (at : Name) → is_at x at ≡ true → line_at m.leaves at ≡ line_at w.leaves at
    same_line at inside = ap (λ (o : Option (List ℕ)). first_line (unwrap_or o [])) (same_content at inside)

    pub same_entry : (n : ℕ) → entry_of m.leaves n x ≡ entry_of w.leaves n x
    same_entry n =
        ap₂ (λ (version params : List ℕ). boot_file (entry_path n) (entry_text n x version params))
        (same_line (version_path x) (version_inside x)) (same_line (params_path x) (params_inside x))

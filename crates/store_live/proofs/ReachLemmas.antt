-- The walk from the roots to all that is live.
use Rattle.std.proofs.Common.{◌≡◌, ◌⊎◌, ◌||◌, ◌&&◌, not, Bool, true, false, IsTrue, List, [], ◌∷◌, refl, sym, ap, subst, ◌∙◌, inl, inr}
use Rattle.std.proofs.lemmas.Bool.{and_from, and_parts, both_ways, cases_Bool, not-true, not_from_false, or_cases, or_left, or_right}
use Rattle.host_trait.specs.World.{WorldState}
use Rattle.host_trait.proofs.NameOrder.{name_exact, name_itself}
use Rattle.switch_names.specs.Names.{Name, has, is_name}
use Rattle.store_live.specs.Grown.{AreAll}
use Rattle.store_live.specs.Live.{IsRoot, Live, Refers}
use Rattle.store_live.proofs.GrownLemmas.{nothing}
use Rattle.store_live.specs.StorePaths.{IsStored, is_store_path}

pub live_stored : (skips : Name → Bool) (w : WorldState) (x : Name) → Live skips w x → IsStored w.leaves x
live_stored skips w x (Live.FromRoot _ stored root) = stored
live_stored skips w x (Live.FromReference _ by live stored refers) = stored

-- ---- what is walked isn't left to walk

module _ (walked now_walked left rest now_left : List Name) (path : Name) (first : left ≡ path ∷ rest) (walks : (x : Name) → has now_walked x ≡ (has walked x || is_name x path)) where
  pub path_left : has left path ≡ true
  path_left = ap (λ l. has l path) first ∙ or_left (is_name path path) (has rest path) (name_itself path)

  pub rest_left : (x : Name) → has rest x ≡ true → has left x ≡ true
  rest_left x is = ap (λ l. has l x) first ∙ or_right (is_name x path) (has rest x) is

  pub apart_step : has rest path ≡ false → ((x : Name) → IsTrue (has now_left x) → IsTrue (has rest x) ⊎ (has now_walked x ≡ false)) → ((x : Name) → has left x ≡ true → has walked x ≡ false) →
      (x : Name) → has now_left x ≡ true → has now_walked x ≡ false
  apart_step once new apart x is = elim (new x is) [
    | inl old ↦ walks x ∙ ap (λ b. b || is_name x path) (apart x (rest_left x old)) ∙ other old (is_name x path) refl
    | inr fresh ↦ fresh
  ]
    where
      other : has rest x ≡ true → (b : Bool) → is_name x path ≡ b → is_name x path ≡ false
      other old true same = absurd (both_ways _ once (subst (λ y. has rest y ≡ true) (name_exact x path same) old))
      other old false apart = apart

  pub walked_now : (x : Name) → has walked x ≡ true → has now_walked x ≡ true
  walked_now x is = walks x ∙ or_left (has walked x) (is_name x path) is

  pub path_now : has now_walked path ≡ true
  path_now = walks path ∙ or_right (has walked path) (is_name path path) (name_itself path)

  -- what was left is walked now, or is left
  pub left_cases : (x : Name) → has left x ≡ true → (x ≡ path) ⊎ (has rest x ≡ true)
  left_cases x is = elim (or_cases (is_name x path) (has rest x) (sym (ap (λ l. has l x) first) ∙ is)) [
    | inl same ↦ inl (name_exact x path same)
    | inr old ↦ inr old
  ]

-- ---- what is walked is live

module _ (skips : Name → Bool) (w : WorldState) (stored : List Name) where
  -- what is walked or left to walk is live, the roots are, and what is walked refers to such alone
  pub record IsSearch (walked left : List Name) : Type 0 where
    pub sound : (x : Name) → IsTrue (has walked x) ⊎ IsTrue (has left x) → Live skips w x
    pub roots : (x : Name) → IsStored w.leaves x → IsRoot skips w x → IsTrue (has walked x) ⊎ IsTrue (has left x)
    pub closed : (by x : Name) → IsTrue (has walked by) → IsTrue (has stored x) → Refers w.leaves by x → IsTrue (has walked x) ⊎ IsTrue (has left x)

  pub search_start : (walked roots : List Name) → walked ≡ [] → AreAll roots (λ x. IsStored w.leaves x × IsRoot skips w x) → IsSearch walked roots
  search_start walked roots none are = record {
    sound = λ x either. elim either [
      | inl gone ↦ nothing x (subst (λ l. has l x ≡ true) none gone)
      | inr root ↦ let both = (are x).0 root in Live.FromRoot x both.0 both.1
    ];
    roots = λ x there root. inr ((are x).1 (there, root));
    closed = λ by x gone. nothing by (subst (λ l. has l by ≡ true) none gone);
  }

  module _ (all : AreAll stored (IsStored w.leaves)) where
    module _
        (walked now_walked left rest now_left : List Name) (path : Name) (first : left ≡ path ∷ rest) (walks : (x : Name) → has now_walked x ≡ (has walked x || is_name x path))
        (adds : is_store_path path ≡ true → (x : Name) → (IsTrue (has now_left x) → IsTrue (has rest x) ⊎ (IsTrue (has stored x) × Refers w.leaves path x))
        × (IsTrue (has rest x) ⊎ (IsTrue (has stored x) × Refers w.leaves path x) → IsTrue (has now_left x) ⊎ IsTrue (has now_walked x)))
        (search : IsSearch walked left) where
      path_live : Live skips w path
      path_live = search.sound path (inr (path_left walked now_walked left rest now_left path first walks))

      added : (x : Name) → (IsTrue (has now_left x) → IsTrue (has rest x) ⊎ (IsTrue (has stored x) × Refers w.leaves path x))
          × (IsTrue (has rest x) ⊎ (IsTrue (has stored x) × Refers w.leaves path x) → IsTrue (has now_left x) ⊎ IsTrue (has now_walked x))
      added = adds (live_stored skips w path path_live).path

      turned : (x : Name) → IsTrue (has now_left x) ⊎ IsTrue (has now_walked x) → IsTrue (has now_walked x) ⊎ IsTrue (has now_left x)
      turned x either = elim either [ inl todo ↦ inr todo | inr gone ↦ inl gone ]

      moved : (x : Name) → IsTrue (has walked x) ⊎ IsTrue (has left x) → IsTrue (has now_walked x) ⊎ IsTrue (has now_left x)
      moved x either = elim either [
        | inl gone ↦ inl (walked_now walked now_walked left rest now_left path first walks x gone)
        | inr todo ↦ elim (left_cases walked now_walked left rest now_left path first walks x todo) [
          | inl same ↦ inl (subst (λ y. has now_walked y ≡ true) (sym same) (path_now walked now_walked left rest now_left path first walks))
          | inr old ↦ turned x ((added x).1 (inl old))
        ]
      ]

      pub search_step : IsSearch now_walked now_left
      search_step = record {
        sound = λ x either. elim either [
          | inl gone ↦ elim (or_cases (has walked x) (is_name x path) (sym (walks x) ∙ gone)) [
            | inl before ↦ search.sound x (inl before)
            | inr same ↦ subst (Live skips w) (sym (name_exact x path same)) path_live
          ]
          | inr todo ↦ elim ((added x).0 todo) [
            | inl old ↦ search.sound x (inr (rest_left walked now_walked left rest now_left path first walks x old))
            | inr both ↦ Live.FromReference x path path_live ((all x).0 both.0) both.1
          ]
        ];
        roots = λ x there root. moved x (search.roots x there root);
        closed = λ by x gone listed refers. elim (or_cases (has walked by) (is_name by path) (sym (walks by) ∙ gone)) [
          | inl before ↦ moved x (search.closed by x before listed refers)
          | inr same ↦ turned x ((added x).1 (inr (listed, subst (λ y. Refers w.leaves y x) (name_exact by path same) refers)))
        ];
      }

    all_walked : (walked : List Name) → IsSearch walked [] → (x : Name) → Live skips w x → IsTrue (has walked x)
    all_walked walked search x (Live.FromRoot _ there root) = elim (search.roots x there root) [ inl gone ↦ gone | inr todo ↦ nothing x todo ]
    all_walked walked search x (Live.FromReference _ by live there refers) =
        elim (search.closed by x (all_walked walked search by live) ((all x).1 there) refers) [ inl gone ↦ gone | inr todo ↦ nothing x todo ]

    -- where nothing is left to walk, all that is live is walked
    pub search_end : (walked left : List Name) → left ≡ [] → IsSearch walked left → AreAll walked (Live skips w)
    search_end walked left none search x = (λ gone. search.sound x (inl gone), λ live. all_walked walked (subst (IsSearch walked) none search) x live)

-- ---- one store path is walked

-- what it refers to is left, but what is walked
module _ (walked now_walked left now_left names : List Name) (path : Name) (added : (x : Name) → has now_left x ≡ (has left x || (has names x && not (has now_walked x)))) where
  pub new_apart : (x : Name) → IsTrue (has now_left x) → IsTrue (has left x) ⊎ (has now_walked x ≡ false)
  new_apart x is = elim (or_cases (has left x) (has names x && not (has now_walked x)) (sym (added x) ∙ is)) [
    | inl old ↦ inl old
    | inr new ↦ inr (not-true _ (and_parts (has names x) (not (has now_walked x)) new).1)
  ]

  pub new_left : (P : Name → Type 0) → AreAll names P → (x : Name) → (IsTrue (has now_left x) → IsTrue (has left x) ⊎ P x) × (IsTrue (has left x) ⊎ P x → IsTrue (has now_left x) ⊎ IsTrue (has now_walked x))
  new_left P all x = (
    λ is. elim (or_cases (has left x) (has names x && not (has now_walked x)) (sym (added x) ∙ is)) [
      | inl old ↦ inl old
      | inr new ↦ inr ((all x).0 (and_parts (has names x) (not (has now_walked x)) new).0)
    ],
    λ either. elim either [
      | inl old ↦ inl (added x ∙ or_left (has left x) _ old)
      | inr holds ↦ elim (cases_Bool (has now_walked x)) [
        | inl gone ↦ inr gone
        | inr other ↦ inl (added x ∙ or_right (has left x) _ (and_from (has names x) (not (has now_walked x)) ((all x).1 holds) (not_from_false (has now_walked x) other)))
      ]
    ],
  )

-- What loops have collected, with one item more.
use Rattle.std.proofs.Common.{◌≡◌, ◌⊎◌, ℕ, ◌+◌, ◌<◌, ◌&&◌, Bool, true, false, not, cond, List, [], ◌∷◌, ◌++◌, length, get_or, take, drop, map, Option, None, Some, is_some, filter, Result, Ok, Err, IfErr, refl, sym, ap, ◌∙◌, inl, inr, append_assoc}
use Rattle.std.proofs.lemmas.List.{drop_more, map-append, take-append-drop, take_more}
use Rattle.std.proofs.lemmas.List.Elements.{filter-append, filter_map-append}
use Rattle.std.specs.List.{filter_map}
use Rattle.std.specs.Result.{IsErrAnd}
use Rattle.switch_names.specs.Names.{Name, has}
use Rattle.users_spec.specs.declared.user_spec.UserSpec.{UserSpec}
use Rattle.users_merge.specs.Account.{Account}
use Rattle.users_merge.specs.Given.{given_accounts, given_ids}
use Rattle.users_merge.specs.Merge.{keeps_other, kept_of, user_fault}
use Rattle.users_merge.specs.Staying.{undeclared}
use Rattle.users_merge.specs.declared.giving.Given.{Given}
use Rattle.users_merge.specs.declared.kept.Kept.{Kept}
use Rattle.users_merge.specs.declared.merge_fault.MergeFault.{MergeFault}
use Rattle.users_merge.specs.declared.merge_fault.MergeFault.TheVariants.{Memory, UnknownGroup}

-- a fault that is handed on
pub handed : {T : Type 0} (result : Result T MergeFault) (given : MergeFault) (cause : Option MergeFault) → IsErrAnd result (λ fault. fault ≡ given) → (given ≡ Memory) ⊎ (cause ≡ Some given) →
    IfErr result (λ fault. (fault ≡ Memory) ⊎ (cause ≡ Some fault))
handed (Ok x) given cause same why = absurd same
handed (Err fault) given cause same why = elim why [ inl memory ↦ inl (same ∙ memory) | inr is ↦ inr (is ∙ ap Some (sym same)) ]

-- one item more
next_item : {X : Type 0} (xs : List X) (i : ℕ) (x : X) → i < length xs → x ≡ get_or xs i x → take (i + 1) xs ≡ take i xs ++ x ∷ []
next_item xs i x inside is = take_more xs i x inside ∙ ap (λ y. take i xs ++ y ∷ []) (sym is)

-- ---- ids that are kept

kept_append : {D : Type 0} (user : Bool) (asked : D → Account) (xs ys : List (Given D)) →
    kept_of user (map asked (given_accounts (xs ++ ys))) (given_ids (xs ++ ys)) ≡ kept_of user (map asked (given_accounts xs)) (given_ids xs) ++ kept_of user (map asked (given_accounts ys)) (given_ids ys)
kept_append user asked [] ys = refl
kept_append {D} user asked (x ∷ xs) ys = by (keeps_other (asked x.account.now) x.id) (kept_append user asked xs ys)
  where
    one : Kept
    one = record { user = user; name = (asked x.account.now).name; id = x.id }

    by : (b : Bool) → kept_of user (map asked (given_accounts (xs ++ ys))) (given_ids (xs ++ ys)) ≡ kept_of user (map asked (given_accounts xs)) (given_ids xs) ++ kept_of user (map asked (given_accounts ys)) (given_ids ys) →
        cond b (one ∷ kept_of user (map asked (given_accounts (xs ++ ys))) (given_ids (xs ++ ys))) (kept_of user (map asked (given_accounts (xs ++ ys))) (given_ids (xs ++ ys)))
        ≡ cond b (one ∷ kept_of user (map asked (given_accounts xs)) (given_ids xs)) (kept_of user (map asked (given_accounts xs)) (given_ids xs)) ++ kept_of user (map asked (given_accounts ys)) (given_ids ys)
    by true rest = ap (λ kept. one ∷ kept) rest
    by false rest = rest

pub kept_next : {D : Type 0} (user : Bool) (asked : D → Account) (given : List (Given D)) (i : ℕ) (one : Given D) (start old new : List Kept) → i < length given → one ≡ get_or given i one →
    new ≡ old ++ kept_of user (asked one.account.now ∷ []) (one.id ∷ []) → old ≡ start ++ kept_of user (map asked (given_accounts (take i given))) (given_ids (take i given)) →
    new ≡ start ++ kept_of user (map asked (given_accounts (take (i + 1) given))) (given_ids (take (i + 1) given))
kept_next {D} user asked given i one start old new inside is grown was =
    grown ∙ ap (λ kept. kept ++ kept_of user (asked one.account.now ∷ []) (one.id ∷ [])) was
    ∙ append_assoc start (kept_of user (map asked (given_accounts (take i given))) (given_ids (take i given))) (kept_of user (asked one.account.now ∷ []) (one.id ∷ []))
    ∙ ap (λ kept. start ++ kept)
    (sym (ap (λ (all : List (Given D)). kept_of user (map asked (given_accounts all)) (given_ids all)) (next_item given i one inside is) ∙ kept_append user asked (take i given) (one ∷ [])))

-- ---- rows that are made of some items

pub made_next : {X Y : Type 0} (f : X → Option Y) (xs : List X) (i : ℕ) (x : X) (old new : List Y) → i < length xs → x ≡ get_or xs i x → new ≡ old ++ filter_map f (x ∷ []) → old ≡ filter_map f (take i xs) → new ≡ filter_map f (take (i + 1) xs)
made_next f xs i x old new inside is grown was =
    grown ∙ ap (λ ys. ys ++ filter_map f (x ∷ [])) was ∙ sym (ap (filter_map f) (next_item xs i x inside is) ∙ filter_map-append f (take i xs) (x ∷ []))

pub mapped_next : {X Y : Type 0} (f : X → Y) (xs : List X) (i : ℕ) (x : X) (old new : List Y) → i < length xs → x ≡ get_or xs i x → new ≡ old ++ f x ∷ [] → old ≡ map f (take i xs) → new ≡ map f (take (i + 1) xs)
mapped_next f xs i x old new inside is grown was =
    grown ∙ ap (λ ys. ys ++ f x ∷ []) was ∙ sym (ap (map f) (next_item xs i x inside is) ∙ map-append f (take i xs) (x ∷ []))

module _ (gids : Name → Option ℕ) where
  fault_append : (xs ys : List (Given UserSpec)) → user_fault gids (given_accounts xs) (given_ids xs) ≡ None → user_fault gids (given_accounts (xs ++ ys)) (given_ids (xs ++ ys)) ≡ user_fault gids (given_accounts ys) (given_ids ys)
  fault_append [] ys fine = refl
  fault_append (x ∷ xs) ys fine = by (is_some (gids x.account.now.group)) fine (fault_append xs ys)
    where
      by : (b : Bool) → cond b (user_fault gids (given_accounts xs) (given_ids xs)) (Some (UnknownGroup x.account.now.name x.account.now.group)) ≡ None →
          (user_fault gids (given_accounts xs) (given_ids xs) ≡ None → user_fault gids (given_accounts (xs ++ ys)) (given_ids (xs ++ ys)) ≡ user_fault gids (given_accounts ys) (given_ids ys)) →
          cond b (user_fault gids (given_accounts (xs ++ ys)) (given_ids (xs ++ ys))) (Some (UnknownGroup x.account.now.name x.account.now.group)) ≡ user_fault gids (given_accounts ys) (given_ids ys)
      by true rest later = later rest
      by false wrong later = absurd (let no : Some (UnknownGroup x.account.now.name x.account.now.group) ≡ None = wrong in cc)

  -- a user whose group is known has a row, and nothing is the matter with it
  pub known_next : (given : List (Given UserSpec)) (i : ℕ) (one : Given UserSpec) (gid : ℕ) → i < length given → one ≡ get_or given i one → gids one.account.now.group ≡ Some gid →
      user_fault gids (given_accounts (take i given)) (given_ids (take i given)) ≡ None → user_fault gids (given_accounts (take (i + 1) given)) (given_ids (take (i + 1) given)) ≡ None
  known_next given i one gid inside is known fine =
      ap (λ (all : List (Given UserSpec)). user_fault gids (given_accounts all) (given_ids all)) (next_item given i one inside is) ∙ fault_append (take i given) (one ∷ []) fine
      ∙ ap (λ o. cond (is_some o) None (Some (UnknownGroup one.account.now.name one.account.now.group))) known

  -- a user whose group is unknown is the fault
  pub unknown_next : (given : List (Given UserSpec)) (i : ℕ) (one : Given UserSpec) → i < length given → one ≡ get_or given i one → gids one.account.now.group ≡ None →
      user_fault gids (given_accounts (take i given)) (given_ids (take i given)) ≡ None → user_fault gids (given_accounts given) (given_ids given) ≡ Some (UnknownGroup one.account.now.name one.account.now.group)
  unknown_next given i one inside is unknown fine =
      ap (λ (all : List (Given UserSpec)). user_fault gids (given_accounts all) (given_ids all))
      (sym (take-append-drop i given) ∙ ap (λ rest. take i given ++ rest) (drop_more given i one inside ∙ ap (λ x. x ∷ drop (i + 1) given) (sym is)))
      ∙ fault_append (take i given) (one ∷ drop (i + 1) given) fine
      ∙ ap (λ o. cond (is_some o) (user_fault gids (given_accounts (drop (i + 1) given)) (given_ids (drop (i + 1) given))) (Some (UnknownGroup one.account.now.name one.account.now.group))) unknown

-- ---- what stays

pub stays_are : (mutable other : Bool) (declared now earlier before : List Name) (name : Name) → mutable ≡ other → has declared name ≡ has now name → has earlier name ≡ has before name →
    undeclared mutable declared earlier name ≡ undeclared other now before name
stays_are mutable other declared now earlier before name same one two = λ i. same i && not (one i) && not (two i)

-- rows that stay, with those of one row more
pub staying_next : {Row : Type 0} (stays : Row → Bool) (rows : List Row) (i : ℕ) (row : Row) (first old new : List Row) → i < length rows → row ≡ get_or rows i row
    → old ≡ first ++ filter stays (take i rows) → new ≡ old ++ filter stays (row ∷ []) → new ≡ first ++ filter stays (take (i + 1) rows)
staying_next stays rows i row first old new within is before after =
    after
    ∙ ap (λ l. l ++ filter stays (row ∷ [])) before
    ∙ append_assoc first (filter stays (take i rows)) (filter stays (row ∷ []))
    ∙ ap (λ l. first ++ l) (sym (filter-append stays (take i rows) (row ∷ [])) ∙ ap (filter stays) (ap (λ r. take i rows ++ r ∷ []) is ∙ sym (take_more rows i row within)))

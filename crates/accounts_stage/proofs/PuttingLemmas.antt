-- The puts of accounts, one after the other.
use Rattle.std.proofs.Common.{◌≡◌, ◌&&◌, ◌||◌, not, Bool, true, false, List, [], ◌∷◌, ◌++◌, map, Option, None, Some, Ok, Err, append_assoc, refl, sym, ap, ◌∙◌, inl, inr}
use Rattle.std.proofs.lemmas.Bool.{and_parts, both_ways, cases_Bool, not-true}
use Rattle.std.proofs.lemmas.Option.{none-some}
use Rattle.std.specs.Cmp.Lexicographic.{same_text}
use Rattle.std.specs.List.{AllByRecursion, list_all}
use Rattle.host_trait.specs.World.{IsClear, Leaves, WorldState, is_in_line, is_path, seen, stage}
use Rattle.host_trait.proofs.Sound.{line_turned}
use Rattle.host_trait.proofs.Seen.{clear_seen, stage_clear_seen}
use Rattle.switch_names.specs.Names.{Name}
use Rattle.leaf_limits.specs.declared.too_long.TooLong.{TooLong}
use Rattle.switch_parts.specs.Leaves.{is_among}
use Rattle.switch_parts.specs.Puts.{long_with}
use Rattle.switch_parts.proofs.LeafLemmas.{each_among}
use Rattle.switch_parts.proofs.LongLemmas.{long_after}
use Rattle.tree_put.specs.Put.{AreApart}
use Rattle.tree_put.specs.WrittenPlace.{in_the_way}
use Rattle.tree_put.proofs.WayLemmas.{all_clear}
use Rattle.tree_put.specs.declared.written_place.WrittenPlace.{WrittenPlace}
use Rattle.account_text.specs.declared.tables.Tables.{Tables}
use Rattle.users_merge.specs.declared.declared_names.Declared.{Declared}
use Rattle.users_merge.specs.declared.merged.Merged as answered
use Rattle.users_merge.specs.Merge.{merge_of}
use Rattle.users_merge.specs.Order.{group_rows, passwd_rows, shadow_rows}
use Rattle.users_merge.specs.Stored.{Merged}
use Rattle.users_spec.specs.Fields.{Read}
use Rattle.users_spec.specs.Spec.{Accounts}
use Rattle.accounts_stage.specs.declared.accounts_plan.AccountsPlan.{AccountsPlan}
use Rattle.tree_put.specs.declared.leaf_put.LeafPut.{LeafPut}
use Rattle.tree_put.specs.Sequence.{ArePutsApart, CanPutAll, with_puts}
use Rattle.tree_put.proofs.SequenceLemmas.{apart_by, clear_after, stage_after}
use Rattle.accounts_stage.specs.Files.{account_puts, ids_puts, names_puts, nine_puts, table_puts}
use Rattle.accounts_stage.specs.Places.{account_names, account_places, owns_accounts}
use Rattle.accounts_stage.proofs.OwnLemmas.{accounts_open}
use Rattle.accounts_stage.specs.Plan.{IsAccountsPlanOf, IsAnswerOf, IsMergePlanned}
use Rattle.accounts_stage.specs.AccountsPart.{accounts_long, merged_by, puts_by, puts_of, tables_by}
use Rattle.accounts_stage.specs.Puts.{AreAtAccounts, answer_puts, first_planned, first_puts, last_planned}
use Rattle.accounts_stage.specs.Standing.{declared_by, stored_in, tables_in}

-- ---- the places

-- a place is apart from the stage and from each of some places
abbrev is_apart : List Name → Name → Bool
is_apart names p = (not (is_path p stage) && not (is_in_line p stage)) && (not (is_in_line stage p) && list_all (λ q. not (is_in_line p q)) names)

all_apart : list_all (is_apart account_names) account_names ≡ true
unfolding accounts_open stage
all_apart = refl

all_among : (test : Name → Bool) (names : List Name) → list_all test names ≡ true → (q : Name) → is_among names q ≡ true → test q ≡ true
all_among test [] all q among = absurd (both_ways _ refl among)
all_among test (name ∷ names) all q among = elim (cases_Bool (is_path q name)) [
  | inl is ↦ ap test (same_text q name (sym is)) ∙ (and_parts (test name) (list_all test names) all).0
  | inr other ↦ all_among test names (and_parts (test name) (list_all test names) all).1 q (sym (ap (λ b. b || is_among names q) other) ∙ among)
]

module _ (p : Name) (own : owns_accounts p ≡ true) where
  parts : (not (is_path p stage) && not (is_in_line p stage) ≡ true) × (not (is_in_line stage p) && list_all (λ q. not (is_in_line p q)) account_names ≡ true)
  parts = and_parts (not (is_path p stage) && not (is_in_line p stage)) (not (is_in_line stage p) && list_all (λ q. not (is_in_line p q)) account_names) (all_among (is_apart account_names) account_names all_apart p own)

  pub place_apart : AreApart p stage
  place_apart = let both = and_parts (not (is_path p stage)) (not (is_in_line p stage)) parts.0 in record { other = not-true _ both.0; line = not-true _ both.1 }

  pub places_apart : (q : Name) → owns_accounts q ≡ true → is_in_line p q ≡ false
  places_apart q other = not-true _ (all_among (λ q. not (is_in_line p q)) account_names (and_parts (not (is_in_line stage p)) (list_all (λ q. not (is_in_line p q)) account_names) parts.1).1 q other)

-- ---- what is put

pub first_at_places : (answer : answered.Merged) → AreAtAccounts (first_puts answer)
unfolding accounts_open
first_at_places answer = refl

pub names_at_places : (names : Declared) → AreAtAccounts (names_puts names)
unfolding accounts_open
names_at_places names = refl

-- the puts are those before the names that are declared now, and then these
pub answer_parts : (answer : answered.Merged) (first last : List LeafPut) → first ≡ first_puts answer → last ≡ names_puts answer.declared → answer_puts answer ≡ first ++ last
unfolding answer_puts
answer_parts answer first last is_first is_last = λ i. sym is_first i ++ sym is_last i

answer_is : (m : Merged) (answer : answered.Merged) → IsAnswerOf m answer → answer_puts answer ≡ account_puts m
unfolding answer_puts account_puts
answer_is m answer is =
    ap (λ (tables : Tables). nine_puts answer.union answer.remembered tables answer.declared)
    (λ i. record { group = is.order.group i; passwd = is.order.passwd i; shadow = is.order.shadow i })
    ∙ ap account_puts is.merged

-- puts that are added one after the other are added as one list
pub two_added : (old one two : List LeafPut) (a b x y : LeafPut) → one ≡ old ++ a ∷ [] → two ≡ one ++ b ∷ [] → a ≡ x → b ≡ y → two ≡ old ++ x ∷ y ∷ []
two_added old one two a b x y added more is_a is_b =
    more ∙ ap (λ puts. puts ++ b ∷ []) added ∙ append_assoc old (a ∷ []) (b ∷ []) ∙ (λ i. old ++ is_a i ∷ is_b i ∷ [])

pub three_added :
    (old one two three : List LeafPut) (a b d x y z : LeafPut) → one ≡ old ++ a ∷ [] → two ≡ one ++ b ∷ [] → three ≡ two ++ d ∷ [] → a ≡ x → b ≡ y → d ≡ z → three ≡ old ++ x ∷ y ∷ z ∷ []
three_added old one two three a b d x y z added more last is_a is_b is_d =
    last ∙ ap (λ puts. puts ++ d ∷ []) (two_added old one two a b x y added more is_a is_b) ∙ append_assoc old (x ∷ y ∷ []) (d ∷ []) ∙ ap (λ put. old ++ x ∷ y ∷ put ∷ []) is_d

-- the puts before those of the names that are declared now, one list after another
pub first_made :
    (none first second third : List LeafPut) (answer : answered.Merged) → none ≡ [] → first ≡ none ++ names_puts answer.union → second ≡ first ++ ids_puts answer.remembered →
    third ≡ second ++ table_puts answer.tables → third ≡ first_puts answer
first_made none first second third answer is_none is_first is_second is_third =
    is_third ∙ ap (λ puts. puts ++ table_puts answer.tables) (is_second ∙ ap (λ puts. puts ++ ids_puts answer.remembered) (is_first ∙ ap (λ puts. puts ++ names_puts answer.union) is_none))

-- the puts of an answer that is planned, where there is one
abbrev puts_if_any : Option answered.Merged → List LeafPut
puts_if_any None = []
puts_if_any (Some answer) = answer_puts answer

-- they are those before the names that are declared now, and then these
planned_parts : (answer : Option answered.Merged) → first_planned answer ++ last_planned answer ≡ puts_if_any answer
unfolding answer_puts
planned_parts None = refl
planned_parts (Some answer) = refl

plan_puts_are : (leaves : Leaves) (declared : Option (Read Accounts)) (answer : Option answered.Merged) → IsMergePlanned leaves declared answer → puts_if_any answer ≡ puts_by (merged_by leaves declared)
plan_puts_are leaves None answer is = ap puts_if_any is
plan_puts_are leaves (Some (Err why)) answer is = absurd is
plan_puts_are leaves (Some (Ok spec)) None is = absurd is
plan_puts_are leaves (Some (Ok spec)) (Some answer) is = answer_is (merge_of spec (stored_in leaves)) answer is.0

module _ (system : Name) (leaves : Leaves) (plan : AccountsPlan) (is : IsAccountsPlanOf system leaves plan) where
  -- what is planned to be put are the puts of the switch
  pub plan_puts : plan.first ++ plan.last ≡ puts_of system leaves
  plan_puts =
      (λ i. is.first i ++ is.last i) ∙ planned_parts plan.merged
      ∙ plan_puts_are leaves (declared_by system leaves) plan.merged is.merged

  pub slice_puts : (first last : List LeafPut) → first ≡ plan.first → last ≡ plan.last → first ++ last ≡ puts_of system leaves
  slice_puts first last is_first is_last = (λ i. is_first i ++ is_last i) ∙ plan_puts

  -- of the files that are put too long the first in byte order is found in two steps
  pub plan_long : (found long : Option TooLong) → found ≡ long_with None plan.last → long ≡ long_with found plan.first → long ≡ accounts_long system leaves
  plan_long found long is_found is_long =
      is_long ∙ ap (λ (o : Option TooLong). long_with o plan.first) is_found ∙ sym (long_after None plan.first plan.last) ∙ ap (long_with None) plan_puts

  -- and without one there are none
  pub no_puts : plan.merged ≡ None → puts_of system leaves ≡ []
  no_puts none = sym (plan_puts_are leaves (declared_by system leaves) plan.merged is.merged) ∙ ap puts_if_any none

-- ---- where leaves can be put

-- no leaf stands above or below the stage or a place of accounts
record CanPutAccounts (w : WorldState) : Type 0 where
  pub stage : IsClear w.leaves stage
  pub places : (q : Name) → owns_accounts q ≡ true → IsClear w.leaves q

clear_names : (w : WorldState) (places : List WrittenPlace) → AllByRecursion (λ (place : WrittenPlace). IsClear w.leaves place.at) places →
    AllByRecursion (IsClear w.leaves) (map (λ (place : WrittenPlace). place.at) places)
clear_names w [] clear = tt
clear_names w (place ∷ places) clear = (clear.0, clear_names w places clear.1)

-- the stage and each place of accounts are told
told_names : List Name
told_names = map (λ (place : WrittenPlace). place.at) account_places

way_clear : (w : WorldState) → in_the_way account_places w.leaves ≡ None → CanPutAccounts w
unfolding accounts_open stage told_names
way_clear w none =
    let clear = each_among (IsClear w.leaves) told_names (clear_names w account_places (all_clear w.leaves account_places none)) in
    record { stage = clear stage refl; places = λ q own. clear q (all_among (is_among told_names) account_names refl q own) }

each_at : (puts : List LeafPut) → AreAtAccounts puts → AllByRecursion (λ (put : LeafPut). owns_accounts put.at ≡ true) puts
each_at [] at = tt
each_at (put ∷ puts) at = let parts = and_parts (owns_accounts put.at) (list_all (λ (other : LeafPut). owns_accounts other.at) puts) at in (parts.0, each_at puts parts.1)

each_clear : (w : WorldState) → CanPutAccounts w → (puts : List LeafPut) → AllByRecursion (λ (put : LeafPut). owns_accounts put.at ≡ true) puts →
    AllByRecursion (λ (put : LeafPut). IsClear w.leaves put.at) puts
each_clear w can [] at = tt
each_clear w can (put ∷ puts) at = (can.places put.at at.0, each_clear w can puts at.1)

pub can_put : (w : WorldState) (puts : List LeafPut) → AreAtAccounts puts → in_the_way account_places w.leaves ≡ None → CanPutAll puts w
can_put w puts at none = let clear = way_clear w none in record { stage = clear.stage; places = each_clear w clear puts (each_at puts at) }

pub accounts_apart : (puts : List LeafPut) → AreAtAccounts puts → ArePutsApart puts
accounts_apart puts at = apart_by (λ p. owns_accounts p ≡ true) (λ p own. place_apart p own) (λ p q one other. places_apart p one q other) puts (each_at puts at)

-- puts at places of accounts leave these clear
lines_apart : (q : Name) → owns_accounts q ≡ true → (puts : List LeafPut) → AllByRecursion (λ (put : LeafPut). owns_accounts put.at ≡ true) puts →
    AllByRecursion (λ (put : LeafPut). is_in_line put.at q ≡ false) puts
lines_apart q own [] at = tt
lines_apart q own (put ∷ puts) at = (places_apart put.at at.0 q own, lines_apart q own puts at.1)

clear_then : (w v : WorldState) (puts : List LeafPut) → AreAtAccounts puts → CanPutAccounts w → seen v ≡ seen (with_puts puts w) → CanPutAccounts v
clear_then w v puts at can came = record {
  stage = stage_clear_seen v (with_puts puts w) came (stage_after puts w (accounts_apart puts at).stage can.stage);
  places = λ q own. clear_seen v (with_puts puts w) q (line_turned q stage (place_apart q own).line) came (clear_after puts q w (lines_apart q own puts (each_at puts at)) (can.places q own));
}

pub can_put_then :
    (w v : WorldState) (first last : List LeafPut) → AreAtAccounts first → AreAtAccounts last → in_the_way account_places w.leaves ≡ None →
    seen v ≡ seen (with_puts first w) → CanPutAll last v
can_put_then w v first last at_first at_last none came =
    let clear = clear_then w v first at_first (way_clear w none) came in record { stage = clear.stage; places = each_clear v clear last (each_at last at_last) }

-- ---- the tables that a plan leaves

module _ (leaves : Leaves) where
  -- without a merge they are as they were
  pub tables_stay : (declared : Option (Read Accounts)) (tables : Tables) → IsMergePlanned leaves declared None → tables ≡ tables_in leaves → tables ≡ tables_by (merged_by leaves declared) leaves
  tables_stay None tables is same = same
  tables_stay (Some (Err why)) tables is same = absurd is
  tables_stay (Some (Ok spec)) tables is same = absurd is

  pub tables_merged : (declared : Option (Read Accounts)) (answer : answered.Merged) → IsMergePlanned leaves declared (Some answer) → answer.tables ≡ tables_by (merged_by leaves declared) leaves
  tables_merged None answer is = absurd (none-some answer (sym is))
  tables_merged (Some (Err why)) answer is = absurd is
  tables_merged (Some (Ok spec)) answer is = λ i. record {
    group = (is.0.order.group ∙ ap group_rows is.0.merged) i;
    passwd = (is.0.order.passwd ∙ ap passwd_rows is.0.merged) i;
    shadow = (is.0.order.shadow ∙ ap shadow_rows is.0.merged) i;
  }

use Rattle.std.proofs.Common.{◌≡◌, ℕ, List, length, get_or, ap, ◌∙◌, Ok, Err, Some, Result, IfOk, IfErr, rules, arith}
use Rattle.std.specs.List.{slice_get}
use Rattle.std.specs.List.Sorted.{IsBinarySearchResult, IsSearchInRange, IsStrictlySortedBy}
use Rattle.std.specs.Ordering.{ordering_reverse}
use Rattle.std.proofs.lemmas.Fn.{always_returns_same}
use Rattle.std.proofs.lemmas.Option.{slice_get-get_or}
use Rattle.unit_text.specs.declared.unit_key.UnitKey.{UnitKey}
use Rattle.unit_text.specs.UnitKey.{key_cmp, key_of}
use Rattle.unit_text.specs.Index.{IsPlaceFor}
use Rattle.switch_names.proofs.Lists.{all_before, all_from}
use Rattle.unit_text.proofs.KeyLemmas.{key_total, exact_keys, searchable}
use Rattle.unit_text.proofs.index.find_key.Goals as goal

found : (keys : List UnitKey) (key : UnitKey) (r : Result ℕ ℕ) → IsSearchInRange r (length keys) → IsBinarySearchResult (λ other. key_cmp other key) keys r → IfOk r (λ at. slice_get keys at ≡ Some key)
found keys key (Err at) within h = tt
found keys key (Ok at) within h = slice_get-get_or keys at key within ∙ ap Some (exact_keys _ _ (h key))

missing : (keys : List UnitKey) (key : UnitKey) (r : Result ℕ ℕ) → IsStrictlySortedBy key_cmp keys → IsSearchInRange r (length keys)
    → IsBinarySearchResult (λ other. key_cmp other key) keys r → IfErr r (λ at. IsPlaceFor keys key at)
missing keys key (Ok at) s within h = tt
missing keys key (Err at) s within h =
    let cut = h (searchable keys key s) in
    record {
      within = within;
      lower = all_before _ keys at within (λ k d lt. cut.0 k d (omega arith) lt);
      higher = all_from _ keys at (λ k d low lt. key_total.antisymm key (get_or keys k d) ∙ ap ordering_reverse (cut.1 k d low lt));
    }

-- the search compares each key with the one that is sought
answers : (c : goal.After-binary_search_by) → IsBinarySearchResult (λ other. key_cmp other (key_of c.args.section.now c.args.key.now)) c.args.keys.now c.binary_search_by.result
answers c = c.binary_search_by.ensures.position (λ other. key_cmp other (key_of c.args.section.now c.args.key.now)) (always_returns_same _ _ _ (λ a r q k. search rules))

pub returns-clause-found : goal.returns-clause-found
returns-clause-found c = found c.args.keys.now (key_of c.args.section.now c.args.key.now) c.binary_search_by.result c.binary_search_by.ensures.bound (answers c)

pub returns-clause-missing : goal.returns-clause-missing
returns-clause-missing c = missing c.args.keys.now (key_of c.args.section.now c.args.key.now) c.binary_search_by.result c.requires c.binary_search_by.ensures.bound (answers c)

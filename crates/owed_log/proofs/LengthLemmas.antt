-- How long the log is, and the lists of an older program, at each moment of a record and of a list's clearing.
use Rattle.std.proofs.Common.{◌≡◌, ◌≢◌, ◌≤◌, ◌⊎◌, ◌++◌, ◌+◌, ◌^◌, ◌||◌, ℕ, true, false, cond, List, [], ◌∷◌, codes, drop, length, map, take, Option, None, Some, option_map, length-append, refl, sym, ap, subst, ◌∙◌, inl, inr, arith}
use Rattle.std.proofs.lemmas.Bool.{both_ways, cases_Bool, or_cases, or_right}
use Rattle.std.proofs.lemmas.Fmt.{decimal_digit}
use Rattle.std.proofs.lemmas.List.{length-take}
use Rattle.std.specs.Cmp.Lexicographic.{nat_list_eq_equiv}
use Rattle.std.specs.FinMap.{get, insert}
use Rattle.std.specs.List.{flat_map, list_any}
use Rattle.host_trait.specs.Change.{Change, IsMoment}
use Rattle.host_trait.specs.declared.leaf.LeafKind.{LeafKind}
use Rattle.host_trait.specs.declared.leaf.LeafKind.TheVariants.{File, Link}
use Rattle.host_trait.specs.World.{Leaves, WorldState, content_of, is_path, leaf_content, seen, stage, store_place, with_extended, with_more, without_leaf}
use Rattle.host_trait.proofs.NameOrder.{name_exact, name_itself}
use Rattle.host_trait.proofs.Seen.{other_of}
use Rattle.host_trait.proofs.Sound.{get_other}
use Rattle.leaf_limits.specs.Counts.{past}
use Rattle.leaf_limits.specs.Limits.{AreWithin, leaf_max, length_at, length_of}
use Rattle.log_text.specs.declared.lists.Lists.{Lists}
use Rattle.log_text.specs.declared.lists.Which.{Which}
use Rattle.log_text.specs.declared.lists.Which.TheVariants.{Starts, Restarts, Reloads}
use Rattle.log_text.specs.Lists.{block_of, no_lists, record_order}
use Rattle.log_text.specs.Log.{block_text, last_line, word}
use Rattle.owed_lists.specs.Lists.{place_of}
use Rattle.owed_lists.proofs.PlaceLemmas.{place_apart}
use Rattle.switch_names.specs.Names.{Name, has, is_name}
use Rattle.tree_put.specs.Sequence.{without_places}
use Rattle.tree_put.proofs.LeftLemmas.{gone_at, leaf_after}
use Rattle.tree_put.proofs.PutLemmas.{apart_ne}
use Rattle.tree_put.proofs.StoreLemmas.{content_kept, store_place_begins}
use Rattle.owed_log.specs.declared.log_write.LogWrite.{LogWrite}
use Rattle.owed_log.specs.declared.log_write.LogWrite.TheVariants.{Nothing, Append, Put}
use Rattle.owed_log.specs.Lengths.{AreOwedShort, RoomyClearLaw, RoomyRecordLaw, ShortRecordLaw, log_length, long_log}
use Rattle.owed_log.specs.Places.{log_place, old_places}
use Rattle.owed_log.specs.Writing.{CanAppend, IsPrepared, IsRecordMoment, IsWriting, clearing, recorded, text_of, with_write}
use Rattle.owed_log.proofs.BesideLemmas.{clearing_beside, write_beside, writing_beside}
use Rattle.owed_log.proofs.ContentLemmas.{content_none, content_seen, content_still, file_content, file_put, log_other, old_not_log, store_no_stage}
use Rattle.owed_log.proofs.MomentLemmas.{removed}
use Rattle.owed_log.proofs.WrittenLemmas.{log_is_owed}

-- ---- places

inside_no_log : (rest : List ℕ) → codes "nix/store/" ++ rest ≢ log_place
unfolding log_place
inside_no_log rest same =
    let p = codes "nix/store/" ++ rest in
    both_ways (is_path p log_place) refl (subst (λ x. is_path p x ≡ true) same (nat_list_eq_equiv.refl p))

-- no file of the store is the log
store_no_log : (target p : Name) → store_place target ≡ Some p → p ≢ log_place
store_no_log target p is same = inside_no_log (drop (length (codes "/nix/store/")) target) (sym (store_place_begins target p is) ∙ same)

-- a place of an older program is that of one of its lists
pub old_is : (q : Name) → has old_places q ≡ true → (which : Which) × (q ≡ place_of which)
old_is q there = among record_order there
  where
    among : (order : List Which) → has (map place_of order) q ≡ true → (which : Which) × (q ≡ place_of which)
    among [] none = absurd cc
    among (which ∷ order) there = elim (or_cases (is_name q (place_of which)) (has (map place_of order) q) there) [
      | inl same ↦ (which, name_exact q (place_of which) same)
      | inr rest ↦ among order rest
    ]

old_no_log : (q : Name) → has old_places q ≡ true → q ≢ log_place
old_no_log q there same = let old = old_is q there in old_not_log old.0 (sym old.1 ∙ same)

old_no_stage : (q : Name) → has old_places q ≡ true → q ≢ stage
old_no_stage q there same = let old = old_is q there in apart_ne (place_of old.0) stage (place_apart old.0) (sym old.1 ∙ same)

-- ---- lengths

module _ (w m : Leaves) where
  as_long : (q : Name) → content_of m q ≡ content_of w q → length_at w q ≤ leaf_max → length_at m q ≤ leaf_max
  as_long q same short = subst (λ n. n ≤ leaf_max) (sym (ap length_of same)) short

  old_within : ((q : Name) → has old_places q ≡ true → length_at m q ≤ length_at w q) → AreWithin old_places w → AreWithin old_places m
  old_within less within q there = let a = less q there in let b = within q there in omega (arith, a, b)

  -- what is the same beside the log and the stage has the old lists as they were
  module _ (same : (q : Name) → q ≢ stage → q ≢ log_place → get m q ≡ get w q) where
    old_beside : AreWithin old_places w → AreWithin old_places m
    old_beside within q there =
        as_long q (content_kept w m (λ target p is. same p (store_no_stage target p is) (store_no_log target p is)) q (same q (old_no_stage q there) (old_no_log q there))) (within q there)

module _ (leaves : Leaves) where
  log_short : AreOwedShort leaves → length_at leaves log_place ≤ leaf_max
  log_short short = short log_place log_is_owed

  old_short : AreOwedShort leaves → AreWithin old_places leaves
  old_short short q there = short q (or_right (is_name q log_place) (has old_places q) there)

  both_short : length_at leaves log_place ≤ leaf_max → AreWithin old_places leaves → AreOwedShort leaves
  both_short log old q there = elim (or_cases (is_name q log_place) (has old_places q) there) [
    | inl same ↦ subst (λ p. length_at leaves p ≤ leaf_max) (sym (name_exact q log_place same)) log
    | inr rest ↦ old q rest
  ]

  none_long : (at : Name) → get leaves at ≡ None → length_at leaves at ≡ 0
  none_long at none = ap length_of (content_none leaves at none)

  -- the log is no longer than by what is appended
  more_length : (more : List ℕ) → length_at (with_more leaves log_place more) log_place ≤ length_at leaves log_place + length more
  more_length more = by (get leaves log_place) refl
    where
      put : (leaf : LeafKind) → get (insert leaves log_place leaf) log_place ≡ Some leaf
      put leaf = leaf_after leaves log_place log_place leaf ∙ ap (λ b. cond b (Some leaf) (get leaves log_place)) (nat_list_eq_equiv.refl log_place)

      by : (o : Option LeafKind) → get leaves log_place ≡ o → length_at (with_extended leaves log_place more o) log_place ≤ length_of (leaf_content leaves o) + length more
      by None is = let none = none_long log_place is in omega (arith, none)
      by (Some (File bytes mode uid gid)) is =
          let longer = ap (λ (o : Option LeafKind). length_of (leaf_content (insert leaves log_place (File (bytes ++ more) mode uid gid)) o)) (put (File (bytes ++ more) mode uid gid)) in
          omega (arith, longer, length-append bytes more)
      by (Some (Link target)) is =
          let same = ap length_of (content_kept leaves (insert leaves log_place (Link target))
          (λ t p link. get_other leaves log_place p (Link target) (other_of p log_place (store_no_log t p link))) log_place (put (Link target) ∙ sym is)) in
          let was = ap (λ (o : Option LeafKind). length_of (leaf_content leaves o)) is in
          omega (arith, same, was)

part_length : (n : ℕ) (text : List ℕ) → length (take n text) ≤ length text
part_length n text = omega (arith, length-take n text)

-- ---- a record

seen_length : (v w : WorldState) → seen v ≡ seen w → (at : Name) → at ≢ stage → length_at v.leaves at ≡ length_at w.leaves at
seen_length v w same at other = ap length_of (content_seen v w same at other)

seen_short : (v w : WorldState) → seen v ≡ seen w → AreOwedShort w.leaves → AreOwedShort v.leaves
seen_short v w same short =
    both_short v.leaves (as_long w.leaves v.leaves log_place (content_seen v w same log_place log_other) (log_short w.leaves short))
    (λ q there. as_long w.leaves v.leaves q (content_seen v w same q (old_no_stage q there)) (old_short w.leaves short q there))

-- what is removed has no bytes, and what stays has as many
removed_length : (count : ℕ) (u : WorldState) (at : Name) → length_at (without_places (take count old_places) u).leaves at ≤ length_at u.leaves at
removed_length count u at = elim (cases_Bool (list_any (is_name at) (take count old_places))) [
  | inl gone ↦ let none = none_long (without_places (take count old_places) u).leaves at (removed count u at gone) in omega (arith, none)
  | inr apart ↦ let same = ap length_of (content_still count u at apart) in omega (arith, same)
]

removed_short : (count : ℕ) (u : WorldState) → AreOwedShort u.leaves → AreOwedShort (without_places (take count old_places) u).leaves
removed_short count u short q there = let a = removed_length count u q in let b = short q there in omega (arith, a, b)

-- a log that is appended to stays within 64 KiB
append_length : (leaves : Leaves) (lists : Lists) → CanAppend leaves lists → length_at leaves log_place + length (text_of lists) ≤ 2 ^ 16
append_length leaves lists can =
    let is = ap length_of (file_content leaves log_place can.whole.text can.whole.file) in
    let count = can.whole.is_count in
    let short = can.short in
    omega (arith, is, count, short)

module _ (lists : Lists) (w : WorldState) (fits : log_length lists ≤ leaf_max) where
  part_roomy : (text : List ℕ) → IsPrepared w.leaves lists (Append text) → (more : List ℕ) → length more ≤ length text → length_at (with_more w.leaves log_place more) log_place + 64 ≤ leaf_max
  part_roomy text is more part =
      let longer = more_length w.leaves more in
      let can = append_length w.leaves lists is.1 in
      let all = ap length is.0 in
      omega (arith, longer, can, all, part)

  -- the log that is written leaves room
  write_roomy : (write : LogWrite) → IsPrepared w.leaves lists write → length_at (with_write write w).leaves log_place + 64 ≤ leaf_max
  write_roomy Nothing is = let none = none_long w.leaves log_place is.1 in omega (arith, none)
  write_roomy (Append text) is = part_roomy text is text (omega arith)
  write_roomy (Put text) is =
      let put = ap length_of (file_content (with_write (Put text) w).leaves log_place text (file_put w log_place text)) in
      let all = ap length is.0 in
      omega (arith, put, all, fits)

  module _ (short : AreOwedShort w.leaves) where
    write_short : (write : LogWrite) → IsPrepared w.leaves lists write → AreOwedShort (with_write write w).leaves
    write_short write is =
        both_short (with_write write w).leaves (let roomy = write_roomy write is in omega (arith, roomy))
        (old_beside w.leaves (with_write write w).leaves (λ q ne other. write_beside q ne other write w) (old_short w.leaves short))

    -- a moment of the log's write
    writing_short : (write : LogWrite) → IsPrepared w.leaves lists write → (m : WorldState) → IsWriting write w m → AreOwedShort m.leaves
    writing_short Nothing is m same = subst (λ (x : WorldState). AreOwedShort x.leaves) (sym same) short
    writing_short (Append text) is m (inl same) = subst (λ (x : WorldState). AreOwedShort x.leaves) (sym same) short
    writing_short (Append text) is m (inr (inl done)) = subst (λ (x : WorldState). AreOwedShort x.leaves) (sym done) (write_short (Append text) is)
    writing_short (Append text) is m (inr (inr middle)) =
        both_short m.leaves
        (subst (λ (x : WorldState). length_at x.leaves log_place ≤ leaf_max) (sym middle.1)
        (let roomy = part_roomy text is (take middle.0 text) (part_length middle.0 text) in omega (arith, roomy)))
        (old_beside w.leaves m.leaves (λ q ne other. writing_beside q ne other (Append text) w m (inr (inr middle))) (old_short w.leaves short))
    writing_short (Put text) is m (inl same) = seen_short m w same short
    writing_short (Put text) is m (inr new) = seen_short m (with_write (Put text) w) new (write_short (Put text) is)

pub short_record_law : ShortRecordLaw
short_record_law lists write w m is fits short (IsRecordMoment.Writing cut) = writing_short lists w fits short write is m cut
short_record_law lists write w m is fits short (IsRecordMoment.Removing u came removing) =
    subst (λ (x : WorldState). AreOwedShort x.leaves) (sym removing.world)
    (removed_short removing.count u (seen_short u (with_write write w) came (write_short lists w fits short write is)))

pub roomy_record_law : RoomyRecordLaw
roomy_record_law lists write w v is fits short same = record {
  log =
      let equal = seen_length v (recorded write w) same log_place log_other in
      let less = removed_length (length record_order) (with_write write w) log_place in
      let roomy = write_roomy lists w fits write is in
      omega (arith, equal, less, roomy);
  old = old_short v.leaves (seen_short v (recorded write w) same (removed_short (length record_order) (with_write write w) (write_short lists w fits short write is)));
}

-- ---- a list is cleared

-- a block without names
abbrev block_with : Which → List ℕ → List ℕ
block_with which count = (word which ++ 32 ∷ count) ++ 10 ∷ last_line

none_counted : (which : Which) → block_text (block_of which []) ≡ block_with which (48 ∷ [])
none_counted which = ap (block_with which) (decimal_digit 0 (omega arith))

-- has no more than 16 bytes
few_bytes : (which : Which) → length (block_text (block_of which [])) ≤ 16
few_bytes which = subst (λ text. length text ≤ 16) (sym (none_counted which)) (by which)
  where
    by : (which : Which) → length (block_with which (48 ∷ [])) ≤ 16
    by Starts = omega arith
    by Restarts = omega arith
    by Reloads = omega arith

module _ (w m : WorldState) where
  at_of : m ≡ w → length_at m.leaves log_place ≤ length_at w.leaves log_place + 16
  at_of same = let equal = ap (λ (x : WorldState). length_at x.leaves log_place) same in omega (arith, equal)

  longer_by : (more : List ℕ) → length more ≤ 16 → m.leaves ≡ with_more w.leaves log_place more → length_at m.leaves log_place ≤ length_at w.leaves log_place + 16
  longer_by more few leaves =
      let equal = ap (λ (l : Leaves). length_at l log_place) leaves in
      let longer = more_length w.leaves more in
      omega (arith, equal, longer, few)

  append_longer : (more : List ℕ) → length more ≤ 16 → IsMoment (Change.Append log_place more) w m → length_at m.leaves log_place ≤ length_at w.leaves log_place + 16
  append_longer more few (inl same) = at_of same
  append_longer more few (inr (inl done)) = longer_by more few (ap (λ (x : WorldState). x.leaves) done)
  append_longer more few (inr (inr middle)) = longer_by (take middle.0 more) (let part = part_length middle.0 more in omega (arith, part, few)) (ap (λ (x : WorldState). x.leaves) middle.1)

  clearing_length : (which : Which) → IsMoment (clearing which) w m → length_at m.leaves log_place ≤ length_at w.leaves log_place + 16
  clearing_length Starts (inl same) = at_of same
  clearing_length Starts (inr (inl done)) =
      let gone = gone_at (log_place ∷ []) w log_place ∙ ap (λ b. cond (b || false) None (get w.leaves log_place)) (name_itself log_place) in
      let none = none_long (without_leaf log_place w).leaves log_place gone in
      let equal = ap (λ (x : WorldState). length_at x.leaves log_place) done in
      omega (arith, equal, none)
  clearing_length Starts (inr (inr middle)) = absurd middle
  clearing_length which cut = append_longer (block_text (block_of which [])) (few_bytes which) cut

pub roomy_clear_law : RoomyClearLaw
roomy_clear_law which more w m room moment = record {
  log = let longer = clearing_length w m which moment in let before = room.log in omega (arith, longer, before);
  old = old_beside w.leaves m.leaves (λ q ne other. clearing_beside which w m q other moment) room.old;
}

-- ---- the text of empty lists

abbrev pub empty_count : ℕ
empty_count = length (flat_map (λ which. block_with which (48 ∷ [])) record_order)

pub empty_length : length (text_of no_lists) ≡ empty_count
empty_length = λ i. length (flat_map (λ which. none_counted which i) record_order)

-- ---- what is told of a log that isn't too long

pub none_told : (lists : Lists) (count : ℕ) → count ≡ length (text_of lists) → past leaf_max (count + 64) ≡ None → None ≡ long_log lists
none_told lists count same none = ap (option_map (λ n. record { at = log_place; count = n })) (sym none ∙ ap (λ n. past leaf_max (n + 64)) same)

-- the text of a write that records lists
pub write_text : (leaves : Leaves) (lists : Lists) (write : LogWrite) (text : List ℕ) → (write ≡ Append text) ⊎ (write ≡ Put text) → IsPrepared leaves lists write → text ≡ text_of lists
write_text leaves lists write text (inl append) is = (subst (IsPrepared leaves lists) append is).0
write_text leaves lists write text (inr put) is = (subst (IsPrepared leaves lists) put is).0

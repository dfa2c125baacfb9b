-- The lists at each moment of a record, and of a list's clearing.
use Rattle.std.proofs.Common.{◌≡◌, ◌⊎◌, ◌<◌, ◌++◌, ◌||◌, zero, suc, ℕ, Bool, true, false, cond, List, [], ◌∷◌, drop, length, map, take, Option, None, Some, is_some, length-append, refl, sym, ap, subst, ◌∙◌, inl, inr, arith}
use Rattle.std.proofs.lemmas.Bool.{both_ways}
use Rattle.std.proofs.lemmas.List.{take_all}
use Rattle.std.specs.FinMap.{get}
use Rattle.std.specs.List.{list_any}
use Rattle.std.specs.List.Sorted.{IsStrictlySortedBy}
use Rattle.host_trait.specs.Change.{Change, IsMoment}
use Rattle.host_trait.specs.declared.leaf.LeafKind.{LeafKind}
use Rattle.host_trait.specs.World.{Leaves, WorldState, IsFileAt, content_of, file_bytes, seen, stage, with_more, without_leaf}
use Rattle.host_trait.proofs.NameOrder.{name_itself}
use Rattle.host_trait.proofs.Seen.{seen_at}
use Rattle.log_text.specs.declared.block.Block.{Block}
use Rattle.log_text.specs.declared.lists.Lists.{Lists}
use Rattle.log_text.specs.declared.lists.Which.{Which}
use Rattle.log_text.specs.declared.lists.Which.TheVariants.{Starts, Restarts, Reloads}
use Rattle.log_text.specs.Lists.{AreInOrder, AreLists, block_of, blocks_of, list_names, lists_after, lists_of, no_lists, record_order, with_list}
use Rattle.log_text.specs.Log.{IsLog, block_text, log_text}
use Rattle.log_text.proofs.TornLemmas.{block_some, clear_law}
use Rattle.log_text.proofs.WhichLemmas.{no_names}
use Rattle.owed_lists.specs.Lists.{AreListsOf, IsListOf, place_of}
use Rattle.switch_names.specs.Names.{Name, is_name}
use Rattle.tree_put.specs.Sequence.{IsRemoving, without_places}
use Rattle.tree_put.proofs.LeftLemmas.{gone_at}
use Rattle.tree_put.proofs.PutLemmas.{apart_ne}
use Rattle.owed_lists.proofs.PlaceLemmas.{place_apart}
use Rattle.owed_log.specs.declared.log_write.LogWrite.{LogWrite}
use Rattle.owed_log.specs.declared.log_write.LogWrite.TheVariants.{Nothing, Append, Put}
use Rattle.owed_log.specs.Laws.{AreAlone, ClearLaw, ClearedLaw, FileLaw, IsTidy, NoneOld, PreparedLaw, RecordLaw, RecordedLaw}
use Rattle.owed_log.specs.Places.{log_place, old_places}
use Rattle.owed_log.specs.Standing.{AreListsAt, AreListsBy, Gives, IsWholeLog}
use Rattle.owed_log.specs.Writing.{IsPrepared, IsRecordMoment, IsWriting, recorded, text_of, with_write}
use Rattle.owed_log.proofs.ContentLemmas.{content_none, content_seen, content_still, file_content, file_longer, file_put, log_not_old, log_other, more_elsewhere, old_not_log}
use Rattle.owed_log.proofs.ListLemmas.{all_given, all_whole, empty_log, given_lists, lists_given, one_given, one_lists, part_given}

-- ---- the places of an older program's lists

-- a leaf that is gone gives no list
none_listed : IsListOf None []
unfolding IsStrictlySortedBy
none_listed = record { sorted = tt; exact = λ unit. refl }

gone_list : (leaves : Leaves) (at : Name) → get leaves at ≡ None → IsListOf (content_of leaves at) []
gone_list leaves at none = subst (λ (o : Option (List ℕ)). IsListOf o []) (sym (content_none leaves at none)) none_listed

pub removed : (count : ℕ) (u : WorldState) (at : Name) → list_any (is_name at) (take count old_places) ≡ true → get (without_places (take count old_places) u).leaves at ≡ None
removed count u at gone = gone_at (take count old_places) u at ∙ ap (λ b. cond b None (get u.leaves at)) gone

kept_list : (count : ℕ) (u : WorldState) (at : Name) (list : List Name) → list_any (is_name at) (take count old_places) ≡ false → IsListOf (content_of u.leaves at) list →
    IsListOf (content_of (without_places (take count old_places) u).leaves at) list
kept_list count u at list apart is = subst (λ (o : Option (List ℕ)). IsListOf o list) (sym (content_still count u at apart)) is

-- a place of theirs is one of them
old_listed : (which : Which) → list_any (is_name (place_of which)) old_places ≡ true
unfolding place_of
old_listed Starts = refl
old_listed Restarts = refl
old_listed Reloads = refl

removed_all : (u : WorldState) → NoneOld (without_places old_places u).leaves
removed_all u which = removed (length record_order) u (place_of which) (old_listed which)

-- where none of them has a leaf nothing is listed
none_left : (leaves : Leaves) → NoneOld leaves → AreListsOf leaves no_lists
none_left leaves none which = subst (IsListOf (content_of leaves (place_of which))) (sym (no_names which)) (gone_list leaves (place_of which) (none which))

-- ---- lists that are emptied in order

both_empty : (rest : Bool) → cond {A = List Name} rest [] [] ≡ []
both_empty true = refl
both_empty false = refl

one_emptied : (other which : Which) (rest : Bool) (lists : Lists) → cond rest [] (list_names (with_list lists other []) which) ≡ cond (is_name (place_of which) (place_of other) || rest) [] (list_names lists which)
unfolding place_of
one_emptied Starts Starts rest lists = both_empty rest
one_emptied Restarts Restarts rest lists = both_empty rest
one_emptied Reloads Reloads rest lists = both_empty rest
one_emptied other which rest lists = refl

-- the lists that have names are those whose places are left
names_left : (which : Which) (order : List Which) (count : ℕ) (lists : Lists) →
    list_names (lists_after lists (take count (map (λ other. block_of other []) order))) which ≡ cond (list_any (is_name (place_of which)) (take count (map place_of order))) [] (list_names lists which)
names_left which order zero lists = refl
names_left which [] (suc count) lists = refl
names_left which (other ∷ order) (suc count) lists = names_left which order count (with_list lists other []) ∙ one_emptied other which (list_any (is_name (place_of which)) (take count (map place_of order))) lists

-- where no log stands, removals empty the lists in order
module _ (u : WorldState) (old now : Lists) (log : content_of u.leaves log_place ≡ None) (are : AreListsOf u.leaves old) where
  still_none : (count : ℕ) → content_of (without_places (take count old_places) u).leaves log_place ≡ None
  still_none count = content_still count u log_place (log_not_old count) ∙ log

  module _ (count : ℕ) where
    abbrev then : Leaves
    then = (without_places (take count old_places) u).leaves

    left : AreListsOf then (lists_after old (take count (blocks_of no_lists)))
    left which = subst (IsListOf (content_of then (place_of which))) (sym (names_left which record_order count old)) (by (list_any (is_name (place_of which)) (take count old_places)) refl)
      where
        by : (gone : Bool) → list_any (is_name (place_of which)) (take count old_places) ≡ gone → IsListOf (content_of then (place_of which)) (cond gone [] (list_names old which))
        by true gone = gone_list then (place_of which) (removed count u (place_of which) gone)
        by false apart = kept_list count u (place_of which) (list_names old which) apart (are which)

    emptied : AreListsAt then now → AreInOrder old no_lists now
    emptied is = (count, one_lists then now (lists_after old (take count (blocks_of no_lists))) is (subst (λ (o : Option (List ℕ)). AreListsBy o then (lists_after old (take count (blocks_of no_lists)))) (sym (still_none count)) left))

-- ---- worlds that are the same but for the stage

-- have the same lists
lists_seen : (m w : WorldState) (lists : Lists) → seen m ≡ seen w → AreListsAt m.leaves lists → AreListsAt w.leaves lists
lists_seen m w lists same are =
    subst (λ (o : Option (List ℕ)). AreListsBy o w.leaves lists) (content_seen m w same log_place log_other) (by (content_of m.leaves log_place) are)
  where
    by : (o : Option (List ℕ)) → AreListsBy o m.leaves lists → AreListsBy o w.leaves lists
    by (Some text) gives = gives
    by None are = λ which. subst (λ (o : Option (List ℕ)). IsListOf o (list_names lists which)) (content_seen m w same (place_of which) (apart_ne (place_of which) stage (place_apart which))) (are which)

-- ---- a record

-- a whole log that gives these lists
record HasLog (leaves : Leaves) (lists : Lists) : Type 0 where
  text : List ℕ
  file : file_bytes (get leaves log_place) ≡ Some text
  blocks : List Block
  is_log : IsLog text blocks []
  gives : Gives text lists

module _ (lists : Lists) (w : WorldState) (are : AreLists lists) where
  appended : (text : List ℕ) → IsPrepared w.leaves lists (Append text) → HasLog (with_write (Append text) w).leaves lists
  appended text is =
      let whole = is.1.whole in
      let all = all_whole whole.text whole.blocks whole.is_log lists are in
      subst (λ t. HasLog (with_write (Append t) w).leaves lists) (sym is.0) record {
        text = whole.text ++ text_of lists;
        file = file_longer w.leaves log_place whole.text (text_of lists) whole.file;
        blocks = all.0;
        is_log = all.1;
        gives = all_given whole.text whole.blocks whole.is_log lists are;
      }

  put : (text : List ℕ) → IsPrepared w.leaves lists (Put text) → HasLog (with_write (Put text) w).leaves lists
  put text is =
      let all = all_whole [] [] empty_log lists are in
      subst (λ t. HasLog (with_write (Put t) w).leaves lists) (sym is.0)
      record { text = text_of lists; file = file_put w log_place (text_of lists); blocks = all.0; is_log = all.1; gives = all_given [] [] empty_log lists are }

  module _ (old now : Lists) (before : AreListsAt w.leaves old) where
    unchanged : (m : WorldState) → seen m ≡ seen w → AreListsAt m.leaves now → AreInOrder old lists now
    unchanged m same also = (0, one_lists w.leaves now old (lists_seen m w now same also) before)

    -- a part of what is appended
    part : (text : List ℕ) → IsPrepared w.leaves lists (Append text) → (n : ℕ) (m : WorldState) → m.leaves ≡ with_more w.leaves log_place (take n (text_of lists)) → AreListsAt m.leaves now → AreInOrder old lists now
    part text is n m leaves also =
        let whole = is.1.whole in
        let was = one_given whole.text old (lists_of whole.blocks) (lists_given w.leaves old whole.text (file_content w.leaves log_place whole.text whole.file) before)
        record { blocks = whole.blocks; tail = []; is_log = whole.is_log; are = refl } in
        let file = file_longer w.leaves log_place whole.text (take n (text_of lists)) whole.file in
        let content = ap (λ (l : Leaves). content_of l log_place) leaves
        ∙ file_content (with_more w.leaves log_place (take n (text_of lists))) log_place (whole.text ++ take n (text_of lists)) file in
        subst (λ (o : Lists). AreInOrder o lists now) (sym was)
        (part_given whole.text whole.blocks whole.is_log lists are n now (lists_given m.leaves now (whole.text ++ take n (text_of lists)) content also))

    -- a moment of the log's write
    writing : (write : LogWrite) → IsPrepared w.leaves lists write → (m : WorldState) → IsWriting write w m → AreListsAt m.leaves now → AreInOrder old lists now
    writing Nothing is m same also = unchanged m (ap seen same) also
    writing (Append text) is m (inl same) also = unchanged m (ap seen same) also
    writing (Append text) is m (inr (inl done)) also =
        part text is (length (text_of lists)) m
        (ap (λ (x : WorldState). x.leaves) done ∙ ap (with_more w.leaves log_place) (is.0 ∙ sym (take_all (length (text_of lists)) (text_of lists) (omega arith)))) also
    writing (Append text) is m (inr (inr middle)) also =
        part text is middle.0 m (ap (λ (x : WorldState). x.leaves) middle.1 ∙ ap (λ t. with_more w.leaves log_place (take middle.0 t)) is.0) also
    writing (Put text) is m (inl same) also = unchanged m same also
    writing (Put text) is m (inr new) also =
        let log = put text is in (
          length record_order,
          one_given log.text now lists
              (lists_given m.leaves now log.text (content_seen m (with_write (Put text) w) new log_place log_other ∙ file_content (with_write (Put text) w).leaves log_place log.text log.file) also) log.gives,
        )

    -- a moment at which the leaves of an older program are removed
    module _ (write : LogWrite) (u m : WorldState) (came : seen u ≡ seen (with_write write w)) (removing : IsRemoving old_places u m) (also : AreListsAt m.leaves now) where
      also_then : AreListsAt (without_places (take removing.count old_places) u).leaves now
      also_then = subst (λ (x : WorldState). AreListsAt x.leaves now) removing.world also

      beside : HasLog (with_write write w).leaves lists → AreInOrder old lists now
      beside log = (
        length record_order,
        one_given log.text now lists
            (lists_given (without_places (take removing.count old_places) u).leaves now log.text
            (content_still removing.count u log_place (log_not_old removing.count) ∙ content_seen u (with_write write w) came log_place log_other
            ∙ file_content (with_write write w).leaves log_place log.text log.file) also_then) log.gives,
      )

    none_at : (u : WorldState) → seen u ≡ seen w → IsPrepared w.leaves lists Nothing → content_of u.leaves log_place ≡ None
    none_at u came is = content_seen u w came log_place log_other ∙ content_none w.leaves log_place is.1

    moment : (write : LogWrite) → IsPrepared w.leaves lists write → (m : WorldState) → IsRecordMoment write w m → AreListsAt m.leaves now → AreInOrder old lists now
    moment write is m (IsRecordMoment.Writing cut) also = writing write is m cut also
    moment Nothing is m (IsRecordMoment.Removing u came removing) also =
        subst (λ (l : Lists). AreInOrder old l now) (sym is.0)
        (emptied u old now (none_at u came is) (subst (λ (o : Option (List ℕ)). AreListsBy o u.leaves old) (none_at u came is) (lists_seen w u old (sym came) before)) removing.count
        (also_then Nothing u m came removing also))
    moment (Append text) is m (IsRecordMoment.Removing u came removing) also = beside (Append text) u m came removing also (appended text is)
    moment (Put text) is m (IsRecordMoment.Removing u came removing) also = beside (Put text) u m came removing also (put text is)

pub record_law : RecordLaw
record_law lists write w m old now are is cut before also = moment lists w are old now before write is m cut also

-- ---- what is prepared

pub some_text : (lists : Lists) → 0 < length (text_of lists)
some_text lists = first_some (block_of Starts lists.starts) (drop 1 (blocks_of lists))
  where
    first_some : (block : Block) (blocks : List Block) → 0 < length (log_text (block ∷ blocks))
    first_some block blocks = omega (arith, block_some block, length-append (block_text block) (log_text blocks))

file_stands : (leaves : Leaves) (text : List ℕ) → file_bytes (get leaves log_place) ≡ Some text → IsFileAt leaves log_place
file_stands leaves text is = ap is_some is

pub prepared_law : PreparedLaw
prepared_law leaves lists text is = (file_stands leaves is.1.whole.text is.1.whole.file, subst (λ t. 0 < length t) (sym is.0) (some_text lists))

-- ---- what was recorded

module _ (lists : Lists) (w v : WorldState) (are : AreLists lists) (write : LogWrite) (same : seen v ≡ seen (recorded write w)) where
  log_now : get v.leaves log_place ≡ get (with_write write w).leaves log_place
  log_now = seen_at v (recorded write w) same log_place log_other ∙ gone_at old_places (with_write write w) log_place ∙ ap (λ b. cond b None (get (with_write write w).leaves log_place)) (log_not_old (length record_order))

  with_log : HasLog (with_write write w).leaves lists → AreListsAt v.leaves lists × IsTidy v.leaves
  with_log log =
      let file = ap file_bytes log_now ∙ log.file in (
        given_lists v.leaves lists log.text (file_content v.leaves log_place log.text file) log.gives,
        inr (length log.text, record { text = log.text; file = file; blocks = log.blocks; is_log = log.is_log; is_count = refl }),
      )

module _ (write : LogWrite) (w v : WorldState) (same : seen v ≡ seen (recorded write w)) where
  none_then : NoneOld v.leaves
  none_then which = seen_at v (recorded write w) same (place_of which) (apart_ne (place_of which) stage (place_apart which)) ∙ removed_all (with_write write w) which

  alone_then : (lists : Lists) → AreListsAt v.leaves lists × IsTidy v.leaves → AreAlone v.leaves lists
  alone_then lists both = record { are = both.0; tidy = both.1; none_old = none_then }

pub recorded_law : RecordedLaw
recorded_law lists Nothing w v are is same =
    let none = log_now lists w v are Nothing same ∙ is.1 in
    let then = without_places old_places w in
    let gone : AreListsAt then.leaves no_lists = subst (λ (o : Option (List ℕ)). AreListsBy o then.leaves no_lists) (sym (content_still (length record_order) w log_place (log_not_old (length record_order)) ∙ content_none w.leaves log_place is.1)) (none_left then.leaves (removed_all w)) in
    alone_then Nothing w v same lists (subst (AreListsAt v.leaves) (sym is.0) (lists_seen then v no_lists (sym same) gone), inl none)
recorded_law lists (Append text) w v are is same = alone_then (Append text) w v same lists (with_log lists w v are (Append text) same (appended lists w are text is))
recorded_law lists (Put text) w v are is same = alone_then (Put text) w v same lists (with_log lists w v are (Put text) same (put lists w are text is))

-- ---- lists that stand alone

no_file : (leaves : Leaves) → get leaves log_place ≡ None → IsFileAt leaves log_place → ⊥
no_file leaves none file = both_ways _ (ap (λ (o : Option LeafKind). is_some (file_bytes o)) none) file

pub filed : (leaves : Leaves) → IsTidy leaves → IsFileAt leaves log_place → (count : ℕ) × IsWholeLog leaves count
filed leaves (inl none) file = absurd (no_file leaves none file)
filed leaves (inr whole) file = whole

-- where nothing stands there are no lists
none_at_all : (leaves : Leaves) → get leaves log_place ≡ None → NoneOld leaves → AreListsAt leaves no_lists
none_at_all leaves none old = subst (λ (o : Option (List ℕ)). AreListsBy o leaves no_lists) (sym (content_none leaves log_place none)) (none_left leaves old)

pub file_law : FileLaw
file_law leaves lists alone some = by alone.tidy
  where
    by : IsTidy leaves → IsFileAt leaves log_place
    by (inl none) = absurd (some (one_lists leaves lists no_lists alone.are (none_at_all leaves none alone.none_old)))
    by (inr whole) = file_stands leaves whole.1.text whole.1.file

-- ---- a list is cleared

-- the lists of a whole log are those of its blocks
was : (w : WorldState) (old : Lists) (before : AreListsAt w.leaves old) (count : ℕ) (whole : IsWholeLog w.leaves count) → old ≡ lists_of whole.blocks
was w old before count whole = one_given whole.text old (lists_of whole.blocks) (lists_given w.leaves old whole.text (file_content w.leaves log_place whole.text whole.file) before)
    record { blocks = whole.blocks; tail = []; is_log = whole.is_log; are = refl }

module _ (which : Which) (w m : WorldState) (old now : Lists) (before : AreListsAt w.leaves old) (also : AreListsAt m.leaves now) where
  stays : m ≡ w → (now ≡ old) ⊎ (now ≡ with_list old which [])
  stays same = inl (one_lists w.leaves now old (subst (λ (x : WorldState). AreListsAt x.leaves now) same also) before)

  module _ (count : ℕ) (whole : IsWholeLog w.leaves count) where
    abbrev block : List ℕ
    block = block_text (block_of which [])

    shortened : (n : ℕ) → m.leaves ≡ with_more w.leaves log_place (take n block) → (now ≡ old) ⊎ (now ≡ with_list old which [])
    shortened n leaves =
        let r = clear_law whole.text whole.blocks which n whole.is_log in
        let file = file_longer w.leaves log_place whole.text (take n block) whole.file in
        let content = ap (λ (l : Leaves). content_of l log_place) leaves ∙ file_content (with_more w.leaves log_place (take n block)) log_place (whole.text ++ take n block) file in
        let is = one_given (whole.text ++ take n block) now (lists_of r.blocks) (lists_given m.leaves now (whole.text ++ take n block) content also)
        record { blocks = r.blocks; tail = r.tail; is_log = r.log; are = refl } in
        elim r.lists [
          | inl same ↦ inl (is ∙ same ∙ sym (was w old before count whole))
          | inr cleared ↦ inr (is ∙ cleared ∙ ap (λ (l : Lists). with_list l which []) (sym (was w old before count whole)))
        ]

    cut : IsMoment (Change.Append log_place block) w m → (now ≡ old) ⊎ (now ≡ with_list old which [])
    cut (inl same) = stays same
    cut (inr (inl done)) = shortened (length block) (ap (λ (x : WorldState). x.leaves) done ∙ ap (with_more w.leaves log_place) (sym (take_all (length block) block (omega arith))))
    cut (inr (inr middle)) = shortened middle.0 (ap (λ (x : WorldState). x.leaves) middle.1)

-- the log goes, and with it the units to start
module _ (w : WorldState) (none : NoneOld w.leaves) where
  abbrev without : WorldState
  without = without_leaf log_place w

  log_goes : get without.leaves log_place ≡ None
  log_goes = gone_at (log_place ∷ []) w log_place ∙ ap (λ b. cond (b || false) None (get w.leaves log_place)) (name_itself log_place)

  none_still : NoneOld without.leaves
  none_still which = still (place_of which) (none which)
    where
      either : (b : Bool) → cond {A = Option LeafKind} b None None ≡ None
      either true = refl
      either false = refl

      still : (at : Name) → get w.leaves at ≡ None → get without.leaves at ≡ None
      still at gone = gone_at (log_place ∷ []) w at ∙ ap (λ o. cond (is_name at log_place || false) None o) gone ∙ either (is_name at log_place || false)

  without_lists : AreListsAt without.leaves no_lists
  without_lists = none_at_all without.leaves log_goes none_still

pub clear_law_of : ClearLaw
clear_law_of Starts w m old now alone last (inl same) also = stays Starts w m old now alone.are also same
clear_law_of Starts w m old now alone last (inr (inl done)) also =
    inr (one_lists (without_leaf log_place w).leaves now no_lists (subst (λ (x : WorldState). AreListsAt x.leaves now) done also) (without_lists w alone.none_old) ∙ sym last)
clear_law_of Starts w m old now alone last (inr (inr middle)) also = absurd middle
clear_law_of which w m old now alone file moment also = let whole = filed w.leaves alone.tidy file in cut which w m old now alone.are also whole.0 whole.1 moment

-- ---- and what stands then

module _ (which : Which) (w : WorldState) (old : Lists) (alone : AreAlone w.leaves old) (file : IsFileAt w.leaves log_place) where
  abbrev empty : List ℕ
  empty = block_text (block_of which [])

  abbrev longer : Leaves
  longer = with_more w.leaves log_place empty

  appended_alone : AreAlone longer (with_list old which [])
  appended_alone =
      let whole = (filed w.leaves alone.tidy file).1 in
      let r = clear_law whole.text whole.blocks which (length empty) whole.is_log in
      let done = r.whole (omega arith) in
      let text = whole.text ++ empty in
      let log : IsLog text r.blocks [] =
      subst (λ t. IsLog (whole.text ++ t) r.blocks []) (take_all (length empty) empty (omega arith)) (subst (λ tail. IsLog (whole.text ++ take (length empty) empty) r.blocks tail) done.0 r.log) in
      let there = file_longer w.leaves log_place whole.text empty whole.file in
      record {
        are = given_lists longer (with_list old which []) text (file_content longer log_place text there) record {
          blocks = r.blocks;
          tail = [];
          is_log = log;
          are = ap (λ (l : Lists). with_list l which []) (was w old alone.are (length whole.text) record { text = whole.text; file = whole.file; blocks = whole.blocks; is_log = whole.is_log; is_count = refl })
              ∙ sym done.1;
        };
        tidy = inr (length text, record { text = text; file = there; blocks = r.blocks; is_log = log; is_count = refl });
        none_old = λ which. more_elsewhere w.leaves log_place empty (place_of which) (old_not_log which) ∙ alone.none_old which;
      }

pub cleared_law : ClearedLaw
cleared_law Starts w old alone last = record {
  are = subst (AreListsAt (without_leaf log_place w).leaves) (sym last) (without_lists w alone.none_old);
  tidy = inl (log_goes w alone.none_old);
  none_old = none_still w alone.none_old;
}
cleared_law which w old alone file = appended_alone which w old alone file

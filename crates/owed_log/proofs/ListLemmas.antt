-- Each world has one set of lists.
use Rattle.std.proofs.Common.{◌≡◌, ◌++◌, ◌∷◌, ℕ, List, [], length, take, Option, None, Some, refl, sym, ap, subst, ◌∙◌, arith}
use Rattle.std.proofs.lemmas.List.{take_all}
use Rattle.std.specs.List.{AllByRecursion}
use Rattle.std.specs.List.Sorted.{IsStrictlySortedBy}
use Rattle.host_trait.specs.World.{Leaves, bytes_cmp, content_of}
use Rattle.host_trait.proofs.Orders.{none_sorted}
use Rattle.switch_names.specs.Names.{Name}
use Rattle.log_text.specs.declared.block.Block.{Block}
use Rattle.log_text.specs.declared.lists.Lists.{Lists}
use Rattle.log_text.specs.Laws.{IsRecording}
use Rattle.log_text.specs.declared.lists.Which.{Which}
use Rattle.log_text.specs.declared.lists.Which.TheVariants.{Starts}
use Rattle.log_text.specs.Lists.{AreInOrder, AreLists, lists_after, lists_of, no_lists, with_block, with_list}
use Rattle.log_text.specs.Log.{IsBlock, IsLog}
use Rattle.log_text.proofs.BlockLemmas.{one_log}
use Rattle.log_text.proofs.SomeLemmas.{some_log}
use Rattle.log_text.proofs.TornLemmas.{nothing_torn, record_law}
use Rattle.owed_lists.proofs.ListLemmas.{lists_in, same_lists}
use Rattle.owed_log.specs.Laws.{OneListsLaw, SomeListsLaw}
use Rattle.owed_log.specs.Places.{log_place}
use Rattle.owed_log.specs.Standing.{AreListsAt, AreListsBy, Gives}
use Rattle.owed_log.specs.Writing.{text_of}

-- a text gives one set of lists
pub one_given : (text : List ℕ) (one other : Lists) → Gives text one → Gives text other → one ≡ other
one_given text one other is also = is.are ∙ ap lists_of (one_log text is.blocks also.blocks is.tail also.tail is.is_log also.is_log).0 ∙ sym also.are

pub one_lists : OneListsLaw
one_lists leaves one other is also = by (content_of leaves log_place) is also
  where
    by : (content : Option (List ℕ)) → AreListsBy content leaves one → AreListsBy content leaves other → one ≡ other
    by (Some text) is also = one_given text one other is also
    by None is also = same_lists leaves one other is also

pub some_lists : SomeListsLaw
some_lists leaves = by (content_of leaves log_place)
  where
    by : (content : Option (List ℕ)) → (lists : Lists) × AreListsBy content leaves lists
    by (Some text) = let log = some_log text in (lists_of log.0, record { blocks = log.0; tail = log.1; is_log = log.2; are = refl })
    by None = lists_in leaves

-- where the log has content, it gives the lists
pub lists_given : (leaves : Leaves) (lists : Lists) (text : List ℕ) → content_of leaves log_place ≡ Some text → AreListsAt leaves lists → Gives text lists
lists_given leaves lists text is are = subst (λ (content : Option (List ℕ)). AreListsBy content leaves lists) is are

pub given_lists : (leaves : Leaves) (lists : Lists) (text : List ℕ) → content_of leaves log_place ≡ Some text → Gives text lists → AreListsAt leaves lists
given_lists leaves lists text is gives = subst (λ (content : Option (List ℕ)). AreListsBy content leaves lists) (sym is) gives

-- ---- lists are in byte order

one_sorted : (lists : Lists) (which : Which) (names : List Name) → IsStrictlySortedBy bytes_cmp lists.starts → IsStrictlySortedBy bytes_cmp names → IsStrictlySortedBy bytes_cmp (with_list lists which names).starts
one_sorted lists Starts names is also = also
one_sorted lists which names is also = is

all_sorted : (lists : Lists) (blocks : List Block) → IsStrictlySortedBy bytes_cmp lists.starts → AllByRecursion IsBlock blocks → IsStrictlySortedBy bytes_cmp (lists_after lists blocks).starts
all_sorted lists [] is all = is
all_sorted lists (block ∷ blocks) is all = all_sorted (with_block lists block) blocks (one_sorted lists block.which block.names is all.0.sorted) all.1

pub starts_sorted : (leaves : Leaves) (lists : Lists) → AreListsAt leaves lists → IsStrictlySortedBy bytes_cmp lists.starts
starts_sorted leaves lists are = by (content_of leaves log_place) are
  where
    by : (content : Option (List ℕ)) → AreListsBy content leaves lists → IsStrictlySortedBy bytes_cmp lists.starts
    by (Some text) gives = subst (λ (l : Lists). IsStrictlySortedBy bytes_cmp l.starts) (sym gives.are) (all_sorted no_lists gives.blocks none_sorted gives.is_log.are_blocks)
    by None old = (old Starts).sorted

-- ---- what a record gives

pub empty_log : IsLog [] [] []
empty_log = record { text_is = refl; are_blocks = tt; torn = nothing_torn }

module _ (text : List ℕ) (before : List Block) (log : IsLog text before []) (lists : Lists) (are : AreLists lists) where
  recording : (n : ℕ) → IsRecording (lists_of before) lists text n
  recording n = record_law text before lists n log are

  -- any part of it
  pub part_given : (n : ℕ) (now : Lists) → Gives (text ++ take n (text_of lists)) now → AreInOrder (lists_of before) lists now
  part_given n now gives =
      let r = recording n in
      subst (AreInOrder (lists_of before) lists) (one_given (text ++ take n (text_of lists)) (lists_of r.blocks) now record { blocks = r.blocks; tail = r.tail; is_log = r.log; are = refl } gives) r.order

  -- all of it
  pub all_whole : (blocks : List Block) × IsLog (text ++ text_of lists) blocks [] × (lists_of blocks ≡ lists)
  all_whole =
      let n = length (text_of lists) in
      let r = recording n in
      let whole = r.whole (omega arith) in
      (r.blocks, subst (λ t. IsLog (text ++ t) r.blocks []) (take_all n (text_of lists) (omega arith)) (subst (λ tail. IsLog (text ++ take n (text_of lists)) r.blocks tail) whole.0 r.log), whole.1)

  pub all_given : Gives (text ++ text_of lists) lists
  all_given = record { blocks = all_whole.0; tail = []; is_log = all_whole.1; are = sym all_whole.2 }

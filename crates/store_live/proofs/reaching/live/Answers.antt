use Rattle.std.proofs.Common.{◌≡◌, ℕ, zero, suc, ◌<◌, ◌^◌, false, List, [], length, refl, sym, ap, subst, ◌∙◌, arith}
use Rattle.std.proofs.lemmas.Bool.{both_ways, or_left}
use Rattle.std.proofs.lemmas.List.{nil_from_length}
use Rattle.std.proofs.lemmas.List.Elements.{recursion_from_All}
use Rattle.host_trait.proofs.Moments.{told_as}
use Rattle.host_trait.proofs.NameOrder.{above_lack, name_itself}
use Rattle.host_trait.proofs.Readings.{read_handed, read_ok, read_then, told_read}
use Rattle.host_trait.specs.World.{bytes_cmp}
use Rattle.std.specs.declared.cmp.Ordering.TheVariants.{Less}
use Rattle.switch_names.specs.Names.{Name, has, is_name}
use Rattle.store_live.proofs.ReachLemmas.{apart_step, search_end, search_start, search_step}
use Rattle.store_live.proofs.reaching.live.Goals as goal

no_length : (n : ℕ) → (0 < n → ⊥) → n ≡ 0
no_length zero none = refl
no_length (suc n) none = absurd (none (omega arith))

none_walked : (walked : List Name) (x : Name) → walked ≡ [] → has walked x ≡ false
none_walked walked x none = ap (λ l. has l x) none

pub loop-path-init : goal.loop-path-init
loop-path-init g c =
    let none = nil_from_length c.new-walked.result.keys c.new-walked.ensures.len in
    record {
      reads = read_ok c.roots.ensures.reads tt;
      apart = λ x is. none_walked c.new-walked.result.keys x none;
      small = subst (λ (l : List Name). length l < 2 ^ 63) (sym none) (omega arith);
      search = told_as c.in_ok-left.ensures.roots _ (λ w world are. search_start (has c.args.skipped.now.keys) w c.args.stored.now c.new-walked.result.keys c.in_ok-left.left.keys none are);
    }

pub walk-requires-clause-new : goal.walk-requires-clause-new
walk-requires-clause-new g c =
    c.loop-path.invariant.apart c.in-Some.path
    (ap (λ (l : List Name). has l c.in-Some.path) c.in-Some.ensures.removal ∙ or_left (is_name c.in-Some.path c.in-Some.path) (has c.pop_first.new.self.keys c.in-Some.path) (name_itself c.in-Some.path))

pub loop-path-preserved : goal.loop-path-preserved
loop-path-preserved g c =
    let walked = c.loop-path.walked.keys in
    let left = c.loop-path.left.keys in
    let rest = c.pop_first.new.self.keys in
    let path = c.in-Some.path in
    let now_walked = c.walk.new.walked.keys in
    let now_left = c.walk.new.left.keys in
    let first = c.in-Some.ensures.removal in
    let added = told_read c.loop-path.invariant.reads c.in_ok-walk.ensures.left in
    record {
      reads = read_ok (read_then c.loop-path.invariant.reads c.walk.ensures.reads) tt;
      apart = apart_step walked now_walked left rest now_left path first c.in_ok-walk.ensures.walked
          (above_lack path rest (recursion_from_All (λ (y : Name). bytes_cmp path y ≡ Less) rest c.in-Some.ensures.all_above)) c.in_ok-walk.ensures.apart c.loop-path.invariant.apart;
      small = c.in_ok-walk.ensures.small;
      search = record {
        has = λ w world.
            search_step (has c.args.skipped.now.keys) w c.args.stored.now (c.requires.stored.has w world) walked now_walked left rest now_left path first c.in_ok-walk.ensures.walked
            (added.has w world) (c.loop-path.invariant.search.has w world);
      };
    }

pub returns-clause-live : goal.returns-clause-live
returns-clause-live g c =
    let left = c.loop-path.left.keys in
    let none = nil_from_length left (no_length (length left) (λ some. both_ways _ refl (c.in_default.ensures.variant.1 some))) in
    record {
      has = λ w world. search_end (has c.args.skipped.now.keys) w c.args.stored.now (c.requires.stored.has w world) c.loop-path.walked.keys left none (c.loop-path.invariant.search.has w world);
    }

pub returns-clause-reads : goal.returns-clause-reads
returns-clause-reads g c = read_ok c.loop-path.invariant.reads c.loop-path.walked

pub returns-in_err-walk-clause-reads : goal.returns-in_err-walk-clause-reads
returns-in_err-walk-clause-reads g c = read_handed (read_then c.loop-path.invariant.reads c.in_err-walk.ensures.reads) _ c.from_residual-in_err-walk.ensures.1

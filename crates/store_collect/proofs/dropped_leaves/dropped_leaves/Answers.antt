use Rattle.std.proofs.Common.{◌≡◌, ◌++◌, ◌∷◌, ◌+◌, ◌<◌, ℕ, List, [], length, get_or, take, sym, ap, ◌∙◌, append-nil, append_assoc}
use Rattle.std.proofs.lemmas.List.{take_all, take_more}
use Rattle.std.specs.List.{flat_map}
use Rattle.host_trait.proofs.Moments.{told_as}
use Rattle.host_trait.proofs.Readings.{nothing_read_ok, read_handed, read_ok, read_then, told_read}
use Rattle.host_trait.specs.World.{Leaves, listed}
use Rattle.switch_names.specs.Names.{Name}
use Rattle.boot_entries.specs.Entries.{version_path}
use Rattle.store_collect.specs.Collection.{first_of, leaves_of}
use Rattle.store_collect.proofs.dropped_leaves.dropped_leaves.Goals as goal

pub loop-system-init : goal.loop-system-init
loop-system-init g c = record { reads = nothing_read_ok tt; leaves = record { has = λ w is. c.new-leaves.ensures } }

flat_more : {X Y : Type 0} (f : X → List Y) (xs : List X) (x : X) → flat_map f (xs ++ x ∷ []) ≡ flat_map f xs ++ f x
flat_more f [] x = append-nil (f x)
flat_more f (y ∷ xs) x = ap (λ l. f y ++ l) (flat_more f xs x) ∙ sym (append_assoc (f y) (flat_map f xs) (f x))

one_more : (names : List Name) (leaves : Leaves) (i : ℕ) (name : Name) (old new : List Name) → i < length names → name ≡ get_or names i name → old ≡ leaves_of (take i names) leaves →
    new ≡ old ++ first_of (version_path name) (listed name leaves) → new ≡ leaves_of (take (i + 1) names) leaves
one_more names leaves i name old new inside is before added =
    added ∙ ap (λ l. l ++ first_of (version_path name) (listed name leaves)) before
    ∙ sym (flat_more (λ x. first_of (version_path x) (listed x leaves)) (take i names) name)
    ∙ ap (λ l. leaves_of l leaves) (ap (λ n. take i names ++ n ∷ []) is ∙ sym (take_more names i name inside))

pub loop-system-preserved : goal.loop-system-preserved
loop-system-preserved g c =
    let added = told_read c.loop-system.invariant.reads c.in_ok-add_leaves.ensures.added in
    record {
      reads = read_ok (read_then c.loop-system.invariant.reads c.add_leaves.ensures.reads) tt;
      leaves = record {
        has = λ w is.
            one_more c.args.names.now w.leaves c.loop-system.system-index c.system-item.result c.loop-system.leaves c.add_leaves.new.leaves c.loop-system-test.true c.system-item.is
            (c.loop-system.invariant.leaves.has w is) (added.has w is);
      };
    }

pub returns-in_err-add_leaves-clause-reads : goal.returns-in_err-add_leaves-clause-reads
returns-in_err-add_leaves-clause-reads g c = read_handed (read_then c.loop-system.invariant.reads c.in_err-add_leaves.ensures.reads) _ c.from_residual.ensures.1

pub returns-clause-reads : goal.returns-clause-reads
returns-clause-reads g c = read_ok c.loop-system.invariant.reads c.loop-system.leaves

pub returns-clause-leaves : goal.returns-clause-leaves
returns-clause-leaves g c =
    told_as c.loop-system.invariant.leaves _ (λ w world is. is ∙ ap (λ l. leaves_of l w.leaves) (take_all c.loop-system.system-index c.args.names.now c.loop-system-test.false))

use Rattle.std.proofs.Common.{◌≡◌, false, cond, Some, is_none, ap, sym, ◌∙◌, arith}
use Rattle.std.proofs.lemmas.Result.{err_from_is_err_and, on_ok_weaker}
use Rattle.boot_entries.specs.Entries.{version_path}
use Rattle.host_trait.specs.World.{content_of}
use Rattle.host_trait.proofs.Moments.{told_as}
use Rattle.host_trait.proofs.Readings.{read_of, reads_of, reads_then, told_read}
use Rattle.leaf_limits.specs.Limits.{is_long}
use Rattle.leaf_limits.proofs.PastLemmas.{long_not}
use Rattle.switch_engine.specs.Lengths.{too_long_by}
use Rattle.switch_engine.specs.Rows.{gens_to, version_refusal}
use Rattle.switch_engine.proofs.ShortLemmas.{version_short}
use Rattle.switch_engine.proofs.SourceLemmas.{no_length, some_length}
use Rattle.switch_parts.specs.declared.refusal.Refusal.{Refusal}
use Rattle.switch_parts.specs.declared.refusal.Refusal.TheVariants.{NoSystem}
use Rattle.switch_parts.proofs.Faults.{host_device, refused_is}
use Rattle.switch_engine.proofs.planning.check_version.Goals as goal

pub returns-in_default-clause-refused : goal.returns-in_default-clause-refused
returns-in_default-clause-refused g c why e =
    let its = c.args.row.now in
    told_as c.in_ok-count.ensures.length (λ w. version_refusal its.switches its.moves its.system w.leaves ≡ Some why)
    (λ w is told.
    ap (λ b. cond b (Some NoSystem) (too_long_by its.switches its.moves its.system (gens_to its.moves its.system w.leaves) w.leaves))
    (no_length (content_of w.leaves (version_path its.system)) (sym c.in_default.is ∙ told))
    ∙ ap (λ (r : Refusal). Some r) (refused_is NoSystem why e))

pub returns-then-count-le-LEAF_MAX-clause-there : goal.returns-then-count-le-LEAF_MAX-clause-there
returns-then-count-le-LEAF_MAX-clause-there g c =
    told_as c.in_ok-count.ensures.length (λ w. is_none (content_of w.leaves (version_path c.args.row.now.system)) ≡ false)
    (λ w is told. (some_length (content_of w.leaves (version_path c.args.row.now.system)) c.in-Some.count (sym c.in-Some.is ∙ told)).0)

pub returns-then-count-le-LEAF_MAX-clause-short : goal.returns-then-count-le-LEAF_MAX-clause-short
returns-then-count-le-LEAF_MAX-clause-short g c =
    told_as c.in_ok-count.ensures.length (λ w. is_long w.leaves (version_path c.args.row.now.system) ≡ false)
    (λ w is told.
    let count = (some_length (content_of w.leaves (version_path c.args.row.now.system)) c.in-Some.count (sym c.in-Some.is ∙ told)).1 in
    let most = c.if-count-le-LEAF_MAX.true in
    long_not w.leaves (version_path c.args.row.now.system) (omega (arith, count, most)))

pub returns-in_err-too_long-clause-reads : goal.returns-in_err-too_long-clause-reads
returns-in_err-too_long-clause-reads g c =
    let p = err_from_is_err_and c.from_residual-in_err-too_long.result c.from_residual-in_err-too_long.ensures.1 in
    reads_of (reads_then (read_of c.version_length.ensures.reads _ (λ e. e)) (read_of c.in_err-too_long.ensures.reads _ (λ e. e))) _ (λ e. host_device _ p.0 _ p.1 p.2 e)

pub returns-clause-there : goal.returns-clause-there
returns-clause-there g c =
    on_ok_weaker c.refuse.result
    (λ none.
    told_as c.in_ok-count.ensures.length (λ w. is_none (content_of w.leaves (version_path c.args.row.now.system)) ≡ false)
    (λ w is told. (some_length (content_of w.leaves (version_path c.args.row.now.system)) c.in-Some.count (sym c.in-Some.is ∙ told)).0))
    c.refuse.ensures.not_refused

pub returns-clause-short : goal.returns-clause-short
returns-clause-short g c =
    let its = c.args.row.now in
    on_ok_weaker c.refuse.result
    (λ none.
    told_as (told_read c.version_length.ensures.reads c.in_ok-too_long.ensures.refusal) (λ w. is_long w.leaves (version_path its.system) ≡ false)
    (λ w is told. version_short its.switches its.moves its.system w.leaves (sym told ∙ none)))
    c.refuse.ensures.not_refused

pub returns-clause-refused : goal.returns-clause-refused
returns-clause-refused g c why e =
    let its = c.args.row.now in
    told_as c.in_ok-count.ensures.length (λ w. version_refusal its.switches its.moves its.system w.leaves ≡ Some why)
    (λ w is told.
    ap (λ b. cond b (Some NoSystem) (too_long_by its.switches its.moves its.system (gens_to its.moves its.system w.leaves) w.leaves))
    (some_length (content_of w.leaves (version_path c.args.row.now.system)) c.in-Some.count (sym c.in-Some.is ∙ told)).0
    ∙ sym ((told_read c.version_length.ensures.reads c.in_ok-too_long.ensures.refusal).has w is) ∙ c.refuse.ensures.refused why e)

pub returns-clause-reads : goal.returns-clause-reads
returns-clause-reads g c =
    reads_of (reads_then (read_of c.version_length.ensures.reads _ (λ e. e)) (read_of c.too_long.ensures.reads _ (λ e. e))) _ (λ e. absurd (c.refuse.ensures.no_host e))

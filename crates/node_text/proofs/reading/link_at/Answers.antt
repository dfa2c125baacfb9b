use Rattle.std.proofs.Common.{◌≡◌, ◌==◌, Bool, false, List, ℕ, length, Ok, Err, sym, ap, ◌∙◌}
use Rattle.std.specs.Prelude.{if◌then◌else◌}
use Rattle.host_trait.specs.declared.leaf.LeafKind.{LeafKind}
use Rattle.host_trait.specs.declared.leaf.LeafKind.TheVariants.{Link}
use Rattle.node_text.specs.Fields.{Read, ◌>>=◌, link_at, target_at}
use Rattle.node_text.proofs.reading.link_at.Goals as goal

abbrev link_of : Bool → List ℕ → ℕ → Read LeafKind
link_of is_whole target left = if is_whole then Ok (Link target) else Err left

-- bytes after a link's line are left
left_after : (text target rest : List ℕ) → target_at text ≡ Ok (target, rest) → length rest == 0 ≡ false → link_at text ≡ Err (length rest)
unfolding link_at
left_after text target rest read some =
    ap (λ (r : Read (List ℕ × List ℕ)). r >>= (λ x. link_of (length x.1 == 0) x.0 (length x.1))) read ∙ ap (λ whole. link_of whole target (length rest)) some

pub returns-else-is_empty : goal.returns-else-is_empty
returns-else-is_empty c = left_after c.args.bytes.now c.in_ok-target.target.now c.in_ok-target.rest.now c.in_ok-target.ensures (sym c.is_empty.ensures ∙ c.if-is_empty.false)

use Rattle.std.proofs.Common.{◌≡◌, ℕ, List, Some, is_some, true, sym, subst, ap, ◌∙◌}
use Rattle.host_trait.proofs.Moments.{one_world}
use Rattle.host_trait.proofs.Places.{at_same}
use Rattle.host_trait.specs.Host.{HostState, Told}
use Rattle.host_trait.specs.World.{IsFileAt, WorldState, file_bytes, with_leaf}
use Rattle.host_trait.specs.declared.leaf.LeafKind.{LeafKind}
use Rattle.host_trait.specs.declared.leaf.LeafKind.TheVariants.{File}
use Rattle.std.specs.FinMap.{get, insert}
use Rattle.worlds.proofs.parts.calls.host_with_file.Goals as goal

-- a host whose world has got a file has it
file_told :
    (host : HostState) (before now : WorldState) (place at bytes : List ℕ) (mode uid gid : ℕ) (leaf : LeafKind) →
    host.world ≡ Some now → now ≡ with_leaf place leaf before → leaf ≡ File bytes mode uid gid → place ≡ at →
    Told host (λ w. IsFileAt w.leaves at)
file_told host before now place at bytes mode uid gid leaf is put file there = record {
  has = λ w told. subst (λ (x : WorldState). IsFileAt x.leaves at) (one_world host.world now w is told) stands;
}
  where
    gets : get now.leaves at ≡ Some leaf
    gets =
        ap (λ (x : WorldState). get x.leaves at) put
        ∙ subst (λ q. get (insert before.leaves q leaf) at ≡ Some leaf) (sym there) (at_same before.leaves at leaf)

    stands : is_some (file_bytes (get now.leaves at)) ≡ true
    stands = ap (λ o. is_some (file_bytes o)) gets ∙ ap (λ l. is_some (file_bytes (Some l))) file

pub returns : goal.returns
returns c = file_told _ _ _ _ _ _ _ _ _ _ c.new.ensures.world c.in_ok-_none.ensures.ok c.file-file.ensures c.in_ok-copy.ensures

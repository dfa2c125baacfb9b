use Rattle.std.proofs.Common.{◌≡◌, IfOk, subst, ◌∙◌}
use Rattle.host_trait.specs.declared.leaf.LeafKind.TheVariants.{Link}
use Rattle.generations.proofs.setting.system_link.Goals as goal

pub returns : goal.returns
returns c = subst (λ target. IfOk c.short_link.result (λ leaf. leaf ≡ Link target)) (c.as_str.ensures ∙ c.in_ok-target.ensures.ok) c.short_link.ensures

use Rattle.std.proofs.Common.{◌≡◌, true, lit<, nat_eq, codes, ap, rules, sym, ◌∙◌}
use Rattle.std.proofs.lemmas.Bool.{both_ways}
use Rattle.std.proofs.lemmas.Str.Pattern.{strip_prefix_char}
use Rattle.std.specs.List.{starts_with}
use Rattle.std.specs.declared.option.Option.TheVariants.{None}
use Rattle.host_trait.proofs.StoreTexts.{no_store}
use Rattle.host_trait.proofs.reading.find_store_place.Goals as goal

-- what leads into the store begins with a slash
pub returns-in_default : goal.returns-in_default
returns-in_default c =
    let lacks = no_store c.args.target.now (strip_prefix_char 47 c.args.target.now None c.in_default.ensures.cases (lit< tt)) in
    let is : starts_with nat_eq c.args.target.now (codes "/nix/store/") ≡ true =
    sym (c.if-not-starts_with.ensures.value ∙ ap (λ t. starts_with nat_eq t c.as_bytes-2.result.now) c.as_bytes.ensures.value
    ∙ ap (λ t. starts_with nat_eq c.args.target.now t) c.as_bytes-2.ensures.value) in
    absurd (both_ways _ lacks is)

pub returns-then-not-starts_with : goal.returns-then-not-starts_with
returns-then-not-starts_with c = search rules steps 500000

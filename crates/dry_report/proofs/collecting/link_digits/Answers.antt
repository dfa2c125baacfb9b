use Rattle.std.proofs.Common.{◌≡◌, ◌≢◌, ◌++◌, codes, List, MatchOption, rules, ℕ, ◌∙◌}
use Rattle.dry_report.proofs.CollectionLemmas.{digits_of, no_digits}
use Rattle.dry_report.proofs.collecting.link_digits.Goals as goal

pub returns-in-Some : goal.returns-in-Some
returns-in-Some c =
    let rest = c.in-Some.rest.now in
    let end : MatchOption c.strip_suffix.result ((m : List ℕ) → rest ≢ m ++ codes "-link") (λ m. rest ≡ m.now ++ codes "-link") = search rules in
    let begins : c.args.link.now ≡ codes "nix/var/nix/profiles/system-" ++ rest = search rules in
    digits_of c.args.link.now rest c.strip_suffix.result begins end

pub returns-in-None : goal.returns-in-None
returns-in-None c = no_digits c.args.link.now (λ rest same. c.in-None.ensures.cases rest (c.as_str.ensures.text ∙ same))

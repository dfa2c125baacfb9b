use Rattle.std.proofs.Common.{◌≡◌, ◌++◌, ◌∷◌, None, Some, ap, length, lit<, sym, subst, ◌∙◌}
use Rattle.std.proofs.lemmas.Str.Pattern.{split_once_first}
use Rattle.std.specs.List.{before_first, position_or_len}
use Rattle.switch_names.specs.Path.{IsPath, is_slash, slash}
use Rattle.switch_names.proofs.Joined.{both_paths}
use Rattle.host_trait.proofs.FirstNames.{cut_at_first, first_is, first_of_names, whole_name}
use Rattle.host_trait.proofs.tops.first_name.Goals as goal

pub returns-in-None : goal.returns-in-None
returns-in-None c =
    first_is c.copy.result c.args.path.now c.args.path.now
    (whole_name c.args.path.now
    (subst (λ t. position_or_len is_slash t ≡ length t) c.as_str.ensures.text (split_once_first 47 c.as_str.result.now None c.in-None.ensures.cases (lit< tt))))
    c.copy.ensures

pub returns-in-Some : goal.returns-in-Some
returns-in-Some c =
    let split = split_once_first 47 c.as_str.result.now (Some (c.in-Some.first, c.in-Some._rest)) c.in-Some.ensures.cases (lit< tt) in
    first_is c.fixed_path.result c.args.path.now c.in-Some.first.now
    (first_of_names c.args.path.now ∙ ap (λ t. Some (before_first is_slash t)) (sym c.as_str.ensures.text) ∙ ap (λ t. Some t) (sym split.1))
    c.fixed_path.ensures

pub fixed_path-requires : goal.fixed_path-requires
fixed_path-requires c =
    let split = split_once_first 47 c.as_str.result.now (Some (c.in-Some.first, c.in-Some._rest)) c.in-Some.ensures.cases (lit< tt) in
    let front = sym split.1 in
    let back = sym split.2 in
    let cut : c.args.path.now ≡ c.in-Some.first.now ++ slash ∷ c.in-Some._rest.now =
    sym c.as_str.ensures.text ∙ cut_at_first c.as_str.result.now split.0 ∙ (λ i. front i ++ slash ∷ back i) in
    (both_paths c.in-Some.first.now c.in-Some._rest.now (subst IsPath cut c.as_str.ensures.is_path)).0

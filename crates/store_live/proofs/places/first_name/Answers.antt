use Rattle.std.proofs.Common.{◌≡◌, None, Some, length, lit<, ap, subst, ◌∙◌}
use Rattle.std.proofs.lemmas.Str.Pattern.{split_once_first}
use Rattle.std.specs.List.{before_first, position_or_len}
use Rattle.switch_names.specs.Path.{is_slash}
use Rattle.store_live.proofs.PathLemmas.{first_whole}
use Rattle.store_live.proofs.places.first_name.Goals as goal

pub returns-in-Some : goal.returns-in-Some
returns-in-Some c =
    let split = split_once_first 47 c.as_str.result.now (Some (c.in-Some.first, c.in-Some._rest)) c.in-Some.ensures.cases (lit< tt) in
    split.1 ∙ ap (before_first is_slash) c.as_str.ensures.text

pub returns-in-None : goal.returns-in-None
returns-in-None c =
    c.as_str-in-None.ensures.text
    ∙ first_whole c.args.path.now (subst (λ t. position_or_len is_slash t ≡ length t) c.as_str.ensures.text (split_once_first 47 c.as_str.result.now None c.in-None.ensures.cases (lit< tt)))

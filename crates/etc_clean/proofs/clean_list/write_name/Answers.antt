use Rattle.std.proofs.Common.{◌++◌, ◌∷◌, [], ap, subst, ◌∙◌}
use Rattle.std.specs.Str.{IsUtf8}
use Rattle.etc_clean.proofs.CleanLemmas.{path_is}
use Rattle.etc_clean.proofs.clean_list.write_name.Goals as goal

pub returns-clause-text : goal.returns-clause-text
returns-clause-text c =
    c.in_ok-push.ensures.items
    ∙ ap (λ bytes. bytes ++ 10 ∷ []) (c.in_ok-extend_from_slice.ensures.items ∙ ap (λ bytes. c.args.out.now.items ++ bytes) (c.as_bytes.ensures.value ∙ c.as_str.ensures.text))

pub returns-in_err-extend_from_slice-clause-is_path : goal.returns-in_err-extend_from_slice-clause-is_path
returns-in_err-extend_from_slice-clause-is_path c = path_is c.args.name.now (subst IsUtf8 (c.as_bytes.ensures.value ∙ c.as_str.ensures.text) c.as_bytes.ensures.utf8) c.as_str.ensures.is_path

pub returns-in_err-push-clause-is_path : goal.returns-in_err-push-clause-is_path
returns-in_err-push-clause-is_path c = path_is c.args.name.now (subst IsUtf8 (c.as_bytes.ensures.value ∙ c.as_str.ensures.text) c.as_bytes.ensures.utf8) c.as_str.ensures.is_path

pub returns-clause-is_path : goal.returns-clause-is_path
returns-clause-is_path c = path_is c.args.name.now (subst IsUtf8 (c.as_bytes.ensures.value ∙ c.as_str.ensures.text) c.as_bytes.ensures.utf8) c.as_str.ensures.is_path

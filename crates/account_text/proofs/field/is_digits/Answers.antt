use Rattle.std.proofs.Common.{◌∙◌, ap, rules, tests}
use Rattle.std.specs.Char.{is_ascii_digit}
use Rattle.std.specs.Str.{all_ascii_digits}
use Rattle.std.proofs.lemmas.Iterator.{YieldsList-from_slice}
use Rattle.std.proofs.lemmas.Iterator.Search.{all_from_yields_List}
use Rattle.account_text.proofs.FieldLemmas.{digits_all}
use Rattle.account_text.proofs.field.is_digits.Goals as goal

pub returns : goal.returns
returns c =
    all_from_yields_List is_ascii_digit _ _ _ c.all.ensures.ran (YieldsList-from_slice c.as_bytes.result.now cc) (λ x b q k. search (rules, tests))
    ∙ digits_all c.as_bytes.result.now ∙ ap all_ascii_digits c.as_bytes.ensures.value

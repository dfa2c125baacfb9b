use Rattle.std.proofs.Common.{◌≡◌, Some, true, false, ap, sym, ◌∙◌, rules}
use Rattle.accounts_stage.proofs.NamingLemmas.{found_by, name_by, no_name}
use Rattle.accounts_stage.proofs.names.read_name.Goals as goal

pub returns-in_default : goal.returns-in_default
returns-in_default c = found_by c.args.text.now false (no_name c.args.text.now c.in_default.ensures.cases.0)

pub returns : goal.returns
returns c =
    let named : c.is_account_name.result ≡ true = search rules in
    ap Some (c.in_ok-from_str.ensures ∙ c.in-Ok.ensures.cases.0)
    ∙ found_by c.args.text.now true (name_by c.args.text.now c.in-Ok.text.now true c.in-Ok.ensures.cases.1 c.in-Ok.ensures.cases.0 (sym c.is_account_name.ensures ∙ named))

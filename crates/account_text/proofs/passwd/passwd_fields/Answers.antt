use Rattle.std.proofs.Common.{◌≡◌, length, arith, sym, rules}
use Rattle.account_text.specs.Field.{fields}
use Rattle.account_text.proofs.RowLemmas.{other_passwd, passwd_joined}
use Rattle.account_text.proofs.passwd.passwd_fields.Goals as goal

pub returns-in_default : goal.returns-in_default
returns-in_default c =
    other_passwd (fields c.args.line.now) (λ (seven : length (fields c.args.line.now) ≡ 7). omega (arith, c.in_default.ensures, seven))

pub returns : goal.returns
returns c =
    passwd_joined c.args.line.now _ _ c.in-Some.rest.now _ _ c.in-Some-cut_two.rest.now _ _ _ _ _ c.in-Some.ensures c.in-Some-cut_two.ensures c.in-Some-three_fields.ensures (sym c.if-is_empty.ensures) c.in_ok-read_id.ensures c.in_ok-read_id-2.ensures

pub returns-then-is_empty : goal.returns-then-is_empty
returns-then-is_empty c = search rules steps 300000

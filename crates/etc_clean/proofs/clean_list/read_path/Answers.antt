use Rattle.std.proofs.lemmas.Result.{IfOk-weaker}
use Rattle.etc_clean.proofs.CleanLemmas.{no_path, read_as_text}
use Rattle.etc_clean.proofs.clean_list.read_path.Goals as goal

pub returns-in-Err : goal.returns-in-Err
returns-in-Err c = rw (no_path c.args.line.now c.in-Err.ensures.cases.0)

pub returns-in-Ok : goal.returns-in-Ok
returns-in-Ok c =
    IfOk-weaker c.of_text.result _ _ (λ path. read_as_text c.args.line.now c.in-Ok.text.now path c.in-Ok.ensures.cases.0 c.in-Ok.ensures.cases.1) c.of_text.ensures

use Rattle.std.proofs.Common.{rules}
use Rattle.std.specs.Cmp.Lexicographic.{bytes_decides}
use Rattle.std.proofs.lemmas.Bool.Decides.{same_from_decides}
use Rattle.unit_text.proofs.flag.is_word.Goals as goal

pub returns : goal.returns
returns c = search (rules, same_from_decides, bytes_decides) steps 500000

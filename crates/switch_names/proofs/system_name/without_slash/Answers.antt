use Rattle.std.proofs.Common.{◌≡◌, ℕ, List, [], ◌∷◌, ◌≢◌, None, refl, arith, lit<}
use Rattle.std.proofs.lemmas.Str.Pattern.{strip_prefix_char}
use Rattle.switch_names.specs.Path.{slash}
use Rattle.switch_names.specs.SystemName.{system_path}
use Rattle.switch_names.proofs.system_name.without_slash.Goals as goal

-- a text that doesn't begin with a slash
unslashed : (text : List ℕ) → ((rest : List ℕ) → text ≢ slash ∷ rest) → text ≡ system_path text
unslashed [] none = refl
unslashed (first ∷ rest) none = grind (arith, none rest)

pub returns-in-None : goal.returns-in-None
returns-in-None c = unslashed c.args.text.now (strip_prefix_char slash c.args.text.now None c.in-None.ensures.cases (lit< tt))

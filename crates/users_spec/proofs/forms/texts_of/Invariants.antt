use Rattle.std.proofs.Common.{◌≡◌, ◌++◌, map, option_map, drop}
use Rattle.serde_json.specs.View.{view}
use Rattle.serde_json.specs.Find.{as_str}
use Rattle.users_spec.specs.Fields.{all_of}
use Rattle.users_spec.proofs.forms.texts_of.Given as goal

abbrev pub invariant-loop-value : goal.invariant-loop-value
invariant-loop-value l =
    all_of as_str (map view l.values) ≡ option_map (λ rest. l.texts ++ rest) (all_of as_str (map view (drop l.value-index l.values)))

-- The edges among the units that are started: systemd.unit(5), "Before=, After=".
use Rattle.std.specs.Prelude.{◌≡◌, ◌&&◌, ◌||◌, ℕ, Bool, List, [], codes}
use Rattle.std.specs.List.{flat_map}
use Rattle.std.specs.Option.{option_map_or}
use Rattle.start_order.specs.declared.edge.Edge.{Edge}
use Rattle.start_order.specs.Edges.{AreEdges, edge_of, is_between}
use Rattle.start_order.specs.Order.{is_before}
use Rattle.switch_names.specs.Names.{Name, has, is_name}
use Rattle.owed_plan.specs.Systems.{Texts}
use Rattle.unit_decide.specs.Sockets.{words}
use Rattle.unit_text.specs.UnitKey.{key_of}
use Rattle.unit_text.specs.UnitText.{values_of}

-- the words of a key in the section `Unit` of a unit's text
abbrev pub key_words : Texts → List ℕ → Name → List (List ℕ)
key_words texts key unit = option_map_or (λ text. flat_map words (values_of text (key_of (codes "Unit") key))) (texts unit) []

-- a unit is put before another: its name is a word of the other's `After`, or the other's of its `Before`
abbrev pub is_put_before : Texts → Name → Name → Bool
is_put_before texts before after = has (key_words texts (codes "After") after) before || has (key_words texts (codes "Before") before) after

-- the text of a unit puts one of some units before it, or puts it before one of them
abbrev pub is_put_by : Texts → List Name → Name → Name → Name → Bool
is_put_by texts starts unit before after =
    (has starts before && has (key_words texts (codes "After") unit) before) && is_name after unit
    || is_name before unit && (has starts after && has (key_words texts (codes "Before") unit) after)

-- the edges between two different ones of the units, one of which is put before the other
pub record AreStartEdges (texts : Texts) (starts : List Name) (edges : List Edge) : Type 0 where
  pub edges_are : AreEdges starts edges
  pub exact : (before after : Name) → is_before edges before after ≡ (is_between starts (edge_of (before, after)) && is_put_before texts before after)

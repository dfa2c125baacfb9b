-- What there is too much of.
use Rattle.std.specs.Prelude.{ℕ, Option, option_map}
use Rattle.leaf_limits.specs.declared.too_long.TooLong.{TooLong}
use Rattle.switch_parts.specs.declared.refusal.Refusal.{Refusal}
use Rattle.switch_parts.specs.declared.refusal.Refusal.TheVariants.{TooMany}
use Rattle.switch_parts.specs.declared.refusal.What.{What}
use Rattle.switch_parts.specs.declared.refusal.What.TheVariants.{LeafBytes}

-- the refusal of a count that is past the greatest, where there is one
abbrev pub too_many : What → Option ℕ → Option Refusal
too_many what past = option_map (TooMany what) past

-- the refusal of a content that is too long, where there is one
abbrev pub long_refusal : Option TooLong → Option Refusal
long_refusal long = too_many LeafBytes (option_map (λ (first : TooLong). first.count) long)

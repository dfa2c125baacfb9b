-- How long a content may be that is read to set accounts. The greatest length is this project's own.
use Rattle.std.specs.Prelude.{◌||◌, ℕ, Bool, List, length, Option}
use Rattle.std.specs.Option.{option_or}
use Rattle.host_trait.specs.World.{Leaves, content_of}
use Rattle.leaf_limits.specs.Counts.{past}
use Rattle.leaf_limits.specs.Limits.{content_past, leaf_max}
use Rattle.switch_names.specs.Names.{Name, is_name}
use Rattle.switch_parts.specs.declared.refusal.Refusal.{Refusal}
use Rattle.switch_parts.specs.declared.refusal.What.TheVariants.{LeafBytes}
use Rattle.switch_parts.specs.Leaves.{is_among}
use Rattle.switch_parts.specs.Limits.{too_many}
use Rattle.accounts_stage.specs.declared.judging.AccountTexts.{AccountTexts}
use Rattle.accounts_stage.specs.Places.{spec_path, taken_names}
use Rattle.accounts_stage.specs.Standing.{memory_in, texts_in}

-- setting the accounts of a system takes the content at a place: its specification, and what stands of accounts
abbrev pub takes_accounts : Name → Name → Bool
takes_accounts system q = is_name q (spec_path system) || is_among taken_names q

-- the texts that are read before anything is judged: those
abbrev pub account_texts : Name → Leaves → AccountTexts
account_texts system leaves = record { spec = content_of leaves (spec_path system); tables = texts_in leaves; memory = memory_in leaves }

-- how long a text is, where it is too long
abbrev pub text_past : List ℕ → Option ℕ
text_past text = past leaf_max (length text)

-- how long the first of some texts is that is too long, in the byte order of their places, where there is one
abbrev pub texts_long : AccountTexts → Option ℕ
texts_long texts =
    option_or (text_past texts.tables.group)
    (option_or (text_past texts.tables.passwd)
    (option_or (text_past texts.tables.shadow)
    (option_or (content_past texts.spec)
    (option_or (text_past texts.memory.groups)
    (option_or (text_past texts.memory.users)
    (option_or (content_past texts.memory.gids) (content_past texts.memory.uids)))))))

-- the refusal of the first content in byte order that is taken and too long, where there is one
abbrev pub accounts_too_long : Name → Leaves → Option Refusal
accounts_too_long system leaves = too_many LeafBytes (texts_long (account_texts system leaves))

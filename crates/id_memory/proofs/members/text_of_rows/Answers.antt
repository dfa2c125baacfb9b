use Rattle.std.proofs.Common.{◌≡◌, ◌≤◌, ◌++◌, ◌∷◌, [], suc, subst, false, Some, string_bytes, sym, ap, ◌∙◌, arith}
use Rattle.std.proofs.lemmas.Str.{IsUtf8-string_bytes}
use Rattle.std.specs.Str.{IsUtf8}
use Rattle.serde_json.specs.Data.{depth, object}
use Rattle.serde_json.specs.View.{view}
use Rattle.serde_json.specs.Written.{compact_text, has_float}
use Rattle.serde_json.specs.declared.value.Value.{Object}
use Rattle.serde_json.proofs.Views.{view-Object}
use Rattle.id_memory.specs.Json.{members_of, rows_read}
use Rattle.id_memory.proofs.MemberLemmas.{no_depth, no_float, text_reads}
use Rattle.id_memory.proofs.members.text_of_rows.Goals as goal
use Rattle.id_memory.proofs.members.text_of_rows.Goals.{Joined-object-3}

-- the object has the rows' members
is_object : (c : Joined-object-3) → view (Object c.in_ok-members_of_rows.field-0) ≡ object (members_of c.args.rows.now)
is_object c = view-Object c.in_ok-members_of_rows.field-0 ∙ ap object c.in_ok-members_of_rows.ensures

-- a line feed is added
fed : (c : Joined-object-3) → string_bytes c.push.new.self ≡ string_bytes c.in_ok-text.text ++ 10 ∷ []
fed c = c.in_ok-push.ensures.bytes ∙ ap (λ l. string_bytes c.in_ok-text.text ++ l) (c.in_ok-push.ensures.ascii (omega arith))

pub returns-clause-text : goal.returns-clause-text
returns-clause-text c =
    fed c ∙ ap (λ l. l ++ 10 ∷ []) (c.in_ok-text.ensures.text (ap has_float (is_object c) ∙ no_float c.args.rows.now) ∙ ap compact_text (is_object c))

pub returns-clause-reads_back : goal.returns-clause-reads_back
returns-clause-reads_back c =
    let s = string_bytes c.in_ok-text.text in
    let shallow : depth (view (Object c.in_ok-members_of_rows.field-0)) ≤ 127 =
    subst (λ (n : Rattle.std.proofs.Common.ℕ). n ≤ 127) (sym (ap depth (is_object c) ∙ ap suc (no_depth c.args.rows.now))) (omega arith) in
    ap rows_read (fed c)
    ∙ text_reads c.args.rows.now s c.requires.bounded (subst IsUtf8 (fed c) (IsUtf8-string_bytes c.push.new.self)) c.in_ok-text.ensures.compact
    (c.in_ok-text.ensures.reads_back shallow ∙ ap Some (is_object c))

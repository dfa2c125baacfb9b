use Rattle.std.proofs.Common.{sym, subst, ◌∙◌}
use Rattle.etc_manifest.specs.Entries.{IsAnswer}
use Rattle.etc_manifest.specs.Kind.{owned_kind}
use Rattle.etc_manifest.proofs.KindLemmas.{copied_of, not_owned, without_content}
use Rattle.etc_manifest.proofs.entry.copied_kind.Goals as goal

pub returns-in_default-clause-kind : goal.returns-in_default-clause-kind
returns-in_default-clause-kind c =
    subst (IsAnswer c.refused_kind.result) (sym (not_owned c.args.owners.now c.args.name.now c.args.mode c.args.parts c.in_default.ensures)) c.refused_kind.ensures.kind

pub returns-in-Some-into_bytes-clause-kind : goal.returns-in-Some-into_bytes-clause-kind
returns-in-Some-into_bytes-clause-kind c =
    let name = c.args.name.now in
    let bytes = c.in-Some-into_bytes.bytes in
    let owned = c.in-Some.ensures in
    let ids = c.in_ok-ids.ensures in
    subst (IsAnswer c.owned_kind.result)
    ((λ i. owned_kind name bytes c.args.mode (ids.0 i) (ids.1 i))
    ∙ sym (copied_of c.args.owners.now name c.args.mode c.args.parts bytes c.in-Some.uid.now c.in-Some.gid.now (sym c.into_bytes.ensures ∙ c.in-Some-into_bytes.is) owned.0 owned.1))
    c.owned_kind.ensures.kind

pub returns-in-None-clause-kind : goal.returns-in-None-clause-kind
returns-in-None-clause-kind c =
    subst (IsAnswer c.refused_kind-in-None.result) (sym (without_content c.args.owners.now c.args.name.now c.args.mode c.args.parts (sym c.into_bytes.ensures ∙ c.in-None.is)))
    c.refused_kind-in-None.ensures.kind

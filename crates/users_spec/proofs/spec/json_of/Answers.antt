use Rattle.std.proofs.Common.{◌≡◌, List, ℕ, true, false, cond, None, Err, refl, sym, ap, ◌∙◌, inl, inr, true≢false}
use Rattle.std.specs.Option.{ok_or}
use Rattle.std.specs.Str.{IsUtf8, is_utf8}
use Rattle.std.proofs.lemmas.Str.{is_utf8-from_IsUtf8, IsUtf8-from_is_utf8}
use Rattle.serde_json.specs.Read as json
use Rattle.users_spec.specs.Spec.{json_of}
use Rattle.users_spec.specs.declared.spec_fault.SpecFault.TheVariants.{Json}
use Rattle.users_spec.proofs.spec.json_of.Goals as goal

refused : (bytes : List ℕ) → (IsUtf8 bytes → json.read bytes ≡ None) → json_of bytes ≡ Err Json
unfolding json_of
refused bytes none =
    elim (is_utf8 bytes) as (λ b. is_utf8 bytes ≡ b → ok_or (cond b (json.read bytes) None) Json ≡ Err Json)
    [ true ↦ λ is. ap (λ value. ok_or value Json) (none (IsUtf8-from_is_utf8 bytes is)) | false ↦ λ _. refl ] refl

pub returns-in-Ok : goal.returns-in-Ok
unfolding json_of
returns-in-Ok c = rw (is_utf8-from_IsUtf8 _ c.in-Ok.ensures.ok.0, c.in-Ok.ensures.ok.1) refl

pub returns-in-Err-2 : goal.returns-in-Err-2
returns-in-Err-2 c =
    inr (refused c.args.bytes.now (c.in-Err.ensures.err (λ memory. true≢false (sym (c.is_memory.ensures.1 memory) ∙ c.if-is_memory.false))))

pub returns-in-Err : goal.returns-in-Err
returns-in-Err c = inl refl

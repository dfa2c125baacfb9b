-- What is noted of the contents that are read.
use Rattle.std.proofs.Common.{◌≡◌, ◌&&◌, ◌||◌, ◌++◌, ◌∷◌, Bool, true, false, ℕ, List, [], Option, refl, sym, ap, ◌∙◌, inl, inr}
use Rattle.std.proofs.lemmas.Bool.{and_parts, or_cases, or_left, or_parts, or_right}
use Rattle.std.proofs.lemmas.List.Folds.{list_any-append}
use Rattle.host_trait.specs.World.{Leaves, content_of}
use Rattle.host_trait.proofs.NameOrder.{name_exact}
use Rattle.leaf_limits.specs.Limits.{is_long, is_long_content}
use Rattle.switch_names.specs.Names.{Name, has, is_name}
use Rattle.unit_defs.specs.Taken.{NotesLong}

-- a content is read
pub one_noted :
    (leaves : Leaves) (at : Name) (content : Option (List ℕ)) (old new long : Bool) → content ≡ content_of leaves at →
    long ≡ is_long_content content → new ≡ (old || long) → NotesLong old new (λ q. is_name q at) leaves
one_noted leaves at content old new long is tested noted unset =
    let parts = or_parts old long (sym noted ∙ unset) in (
      parts.0,
      λ q same. ap (is_long leaves) (name_exact q at same) ∙ ap is_long_content (sym is) ∙ sym tested ∙ parts.1,
    )

-- nothing is taken
pub none_noted : (leaves : Leaves) (is_taken : Name → Bool) (long : Bool) → ((q : Name) → is_taken q ≡ false) → NotesLong long long is_taken leaves
none_noted leaves is_taken long none unset = (unset, λ q taken. absurd (let no = sym taken ∙ none q in cc))

-- fewer are taken
pub noted_as :
    (leaves : Leaves) (is_taken takes : Name → Bool) (old new : Bool) → ((q : Name) → takes q ≡ true → is_taken q ≡ true) → NotesLong old new is_taken leaves →
    NotesLong old new takes leaves
noted_as leaves is_taken takes old new from noted unset = let was = noted unset in (was.0, λ q takes. was.1 q (from q takes))

-- one is read after the other
pub both_noted :
    (leaves : Leaves) (one other takes : Name → Bool) (old middle new : Bool) → ((q : Name) → takes q ≡ true → (one q || other q) ≡ true) →
    NotesLong old middle one leaves → NotesLong middle new other leaves → NotesLong old new takes leaves
both_noted leaves one other takes old middle new from first second unset =
    let then = second unset in
    let before = first then.0 in (
      before.0,
      λ q is. elim (or_cases (one q) (other q) (from q is)) [
        | inl taken ↦ before.1 q taken
        | inr taken ↦ then.1 q taken
      ],
    )

-- what stands at a path isn't read
pub unread_noted : (leaves : Leaves) (path : Name) (read long : Bool) → read ≡ false → NotesLong long long (λ q. is_name q path && read) leaves
unread_noted leaves path read long unread = none_noted leaves (λ q. is_name q path && read) long (λ q. ap (λ b. is_name q path && b) unread ∙ neither (is_name q path))
  where
    neither : (b : Bool) → (b && false) ≡ false
    neither true = refl
    neither false = refl

-- what stands at one path more is read, where it is
pub more_noted :
    (leaves : Leaves) (reads : Name → Bool) (done : List Name) (p : Name) (old middle new : Bool) → NotesLong old middle (λ q. has done q && reads q) leaves →
    NotesLong middle new (λ q. is_name q p && reads p) leaves → NotesLong old new (λ q. has (done ++ p ∷ []) q && reads q) leaves
more_noted leaves reads done p old middle new =
    both_noted leaves (λ q. has done q && reads q) (λ q. is_name q p && reads p) (λ q. has (done ++ p ∷ []) q && reads q) old middle new from
  where
    from : (q : Name) → (has (done ++ p ∷ []) q && reads q) ≡ true → ((has done q && reads q) || (is_name q p && reads p)) ≡ true
    from q is =
        let parts = and_parts (has (done ++ p ∷ []) q) (reads q) is in
        elim (or_cases (has done q) (has (p ∷ []) q) (sym (list_any-append (is_name q) done (p ∷ [])) ∙ parts.0)) [
          | inl before ↦ or_left (has done q && reads q) (is_name q p && reads p) (λ i. before i && parts.1 i)
          | inr last ↦ elim (or_cases (is_name q p) false last) [
            | inl same ↦ or_right (has done q && reads q) (is_name q p && reads p) (λ i. same i && (ap reads (sym (name_exact q p same)) ∙ parts.1) i)
            | inr none ↦ absurd cc
          ]
        ]

-- The text of an entry, of its parts.
use Rattle.std.proofs.Common.{◌≡◌, ℕ, List, [], ◌∷◌, ◌++◌, codes, refl, sym, ap, ap₂, ◌∙◌}
use Rattle.std.proofs.lemmas.List.{append_assoc}
use Rattle.std.specs.Fmt.{decimal}
use Rattle.boot_entries.specs.Entries.{entry_text, loader_text, more_params}

-- a line feed
abbrev feed : List ℕ
feed = 10 ∷ []

-- pieces before a last one
abbrev joined : List (List ℕ) → List ℕ → List ℕ
joined [] last = last
joined (piece ∷ pieces) last = piece ++ joined pieces last

joined_on : (pieces : List (List ℕ)) (last more : List ℕ) → joined pieces last ++ more ≡ joined pieces (last ++ more)
joined_on [] last more = refl
joined_on (piece ∷ pieces) last more = append_assoc piece (joined pieces last) more ∙ ap (λ z. piece ++ z) (joined_on pieces last more)

-- a line of pieces before more
line : (pieces : List (List ℕ)) (last more : List ℕ) → (joined pieces last ++ feed) ++ more ≡ joined pieces (last ++ (feed ++ more))
line pieces last more = append_assoc (joined pieces last) feed more ∙ joined_on pieces last (feed ++ more)

module _ (t g d b v l s k i r o n p : List ℕ) where
  abbrev fourth : List ℕ
  fourth = ((o ++ (s ++ (n ++ p))) ++ feed) ++ []

  abbrev third : List ℕ
  third = ((i ++ (s ++ r)) ++ feed) ++ fourth

  abbrev second : List ℕ
  second = ((l ++ (s ++ k)) ++ feed) ++ third

  abbrev first : List ℕ
  first = ((g ++ (d ++ (b ++ v))) ++ feed) ++ second

  abbrev middle_of : List ℕ
  middle_of = feed ++ (l ++ (s ++ (k ++ (feed ++ (i ++ (s ++ (r ++ (feed ++ (o ++ (s ++ n))))))))))

  lines_joined : (t ++ (feed ++ (g ++ (d ++ b)))) ++ (v ++ (middle_of ++ (p ++ feed))) ≡ (t ++ feed) ++ first
  lines_joined =
      joined_on (t ∷ feed ∷ g ∷ d ∷ []) b (v ++ (middle_of ++ (p ++ feed)))
      ∙ ap (λ z. joined (t ∷ feed ∷ g ∷ d ∷ []) (b ++ (v ++ z))) (joined_on (feed ∷ l ∷ s ∷ k ∷ feed ∷ i ∷ s ∷ r ∷ feed ∷ o ∷ s ∷ []) n (p ++ feed))
      ∙ sym (
      append_assoc t feed first
      ∙ ap (λ z. t ++ (feed ++ z)) (
      line (g ∷ d ∷ b ∷ []) v second
      ∙ ap (λ z. joined (g ∷ d ∷ b ∷ []) (v ++ (feed ++ z))) (
      line (l ∷ s ∷ []) k third
      ∙ ap (λ z. joined (l ∷ s ∷ []) (k ++ (feed ++ z))) (
      line (i ∷ s ∷ []) r fourth
      ∙ ap (λ z. joined (i ∷ s ∷ []) (r ++ (feed ++ z))) (line (o ∷ s ∷ n ∷ []) p [])))))

pub entry_is : (n : ℕ) (system version params head middle : List ℕ) →
    head ≡ codes "title NixOS" ++ 10 ∷ (codes "version Generation " ++ (decimal n ++ 32 ∷ [])) →
    middle ≡ 10 ∷ (codes "linux /" ++ (system ++ (codes "/kernel" ++ 10 ∷ (codes "initrd /" ++ (system ++ (codes "/initrd" ++ 10 ∷ (codes "options init=/" ++ (system ++ codes "/init")))))))) →
    head ++ (version ++ (middle ++ (more_params params ++ 10 ∷ []))) ≡ entry_text n system version params
unfolding entry_text
entry_is n system version params head middle is_head is_middle =
    ap₂ (λ (h m : List ℕ). h ++ (version ++ (m ++ (more_params params ++ feed)))) is_head is_middle
    ∙ lines_joined (codes "title NixOS") (codes "version Generation ") (decimal n) (32 ∷ []) version (codes "linux /") system (codes "/kernel") (codes "initrd /") (codes "/initrd") (codes "options init=/") (codes "/init") (more_params params)

pub loader_is : (n : ℕ) (text : List ℕ) → text ≡ codes "default nixos-generation-" ++ (decimal n ++ (codes ".conf" ++ 10 ∷ [])) → text ≡ loader_text n
unfolding loader_text
loader_is n text is = is ∙ sym (line (codes "default nixos-generation-" ∷ decimal n ∷ []) (codes ".conf") [])

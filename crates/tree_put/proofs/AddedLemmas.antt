-- Places that are added to others.
use Rattle.std.proofs.Common.{◌≡◌, List, [], ◌∷◌, ◌++◌, append_assoc, ap, ◌∙◌}
use Rattle.tree_put.specs.declared.written_place.WrittenPlace.{WrittenPlace}
use Rattle.tree_put.specs.WrittenPlace.{AreApartFromStage}

-- two lists more
pub joined_two : (old one new a b : List WrittenPlace) → one ≡ old ++ a → new ≡ one ++ b → new ≡ old ++ (a ++ b)
joined_two old one new a b first second = second ∙ ap (λ (places : List WrittenPlace). places ++ b) first ∙ append_assoc old a b

-- three lists more
pub joined_three : (old one two new a b c : List WrittenPlace) → one ≡ old ++ a → two ≡ one ++ b → new ≡ two ++ c → new ≡ old ++ (a ++ (b ++ c))
joined_three old one two new a b c first second third = joined_two old one new a (b ++ c) first (joined_two one two new b c second third)

-- four lists more
pub joined_four : (old one two three new a b c d : List WrittenPlace) → one ≡ old ++ a → two ≡ one ++ b → three ≡ two ++ c → new ≡ three ++ d → new ≡ old ++ (a ++ (b ++ (c ++ d)))
joined_four old one two three new a b c d first second third fourth = joined_two old one new a (b ++ (c ++ d)) first (joined_three one two three new b c d second third fourth)

-- what holds of two lists holds of both together
pub apart_joined : (places more : List WrittenPlace) → AreApartFromStage places → AreApartFromStage more → AreApartFromStage (places ++ more)
apart_joined [] more first second = second
apart_joined (place ∷ places) more first second = (first.0, apart_joined places more first.1 second)

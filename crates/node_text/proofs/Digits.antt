-- Octal and decimal digits are read exactly.
use Rattle.std.proofs.Common.{◌≡◌, ℕ, ◌+◌, ◌-◌, ◌*◌, ◌/◌, ◌%◌, ◌^◌, ◌<◌, ◌≤◌, true, false, cond, eqb, ltb, leb, ◌&&◌, List, [], ◌∷◌, ◌++◌, length, Ok, Err, refl, sym, ap, ◌∙◌, append_assoc, arith, inl, inr}
use Rattle.std.proofs.lemmas.Bool.{eqb-true, eq-eqb, ne_eqb, ltb-true, lt-ltb, leb-true, le-leb, and_parts, and_from}
use Rattle.std.proofs.lemmas.List.{append-nil}
use Rattle.std.specs.Fmt.{decimal}
use Rattle.std.proofs.lemmas.Fmt.{decimal_digit, decimal_step, decimal_by_steps}
use Rattle.node_text.specs.Node.{blank, octal}
use Rattle.node_text.specs.Fields.{octal_at, is_digit, is_longer, digits_at, number_at, both, ended, mode_at}
use Rattle.node_text.proofs.ExactFields.{IsStuck, IsExact, done, fail, ok_is, err_is, chosen, both_is_exact, ended_is_exact, seen_is_exact}

-- ---- one octal digit

octal_test : (b : ℕ) → leb 48 b && leb b 55 ≡ true → (48 ≤ b) × (b ≤ 55)
octal_test b e = let parts = and_parts (leb 48 b) (leb b 55) e in (leb-true 48 b parts.0, leb-true b 55 parts.1)

octal_passes : (d : ℕ) → d < 8 → leb 48 (48 + d) && leb (48 + d) 55 ≡ true
octal_passes d low = and_from (leb 48 (48 + d)) (leb (48 + d) 55) (le-leb 48 (48 + d) (omega arith)) (le-leb (48 + d) 55 (omega arith))

abbrev octal_digit : ℕ → List ℕ
octal_digit d = (48 + d) ∷ []

octal_again : (d : ℕ) (rest : List ℕ) → d < 8 → octal_at ((48 + d) ∷ rest) ≡ Ok (d, rest)
octal_again d rest low = let value : 48 + d - 48 ≡ d = omega arith in rw (octal_passes d low, value) refl

octal_sound : (text : List ℕ) (d : ℕ) (rest : List ℕ) → octal_at text ≡ Ok (d, rest) → (d < 8) × (text ≡ octal_digit d ++ rest)
octal_sound [] d rest e = absurd cc
octal_sound (b ∷ bs) d rest e =
    elim (chosen (leb 48 b && leb b 55) (done (b - 48, bs)) (fail (length (b ∷ bs))) (done (d, rest)) e) [
      | inl is ↦
          let range = octal_test b is.0 in
          let pair = ok_is (b - 48, bs) (d, rest) is.1 in
          let value : b - 48 ≡ d = ap (λ (u : ℕ × List ℕ). u.0) pair in
          let after : bs ≡ rest = ap (λ (u : ℕ × List ℕ). u.1) pair in
          let first : b ≡ 48 + d = omega arith in
          (omega arith, rw (first, after) refl)
      | inr isnt ↦ absurd (let other = isnt.1 in cc)
    ]

octal_stuck : (text : List ℕ) (left : ℕ) → octal_at text ≡ Err left → IsStuck octal_digit (λ d. d < 8) text left
octal_stuck text left e = record {
  front = [];
  rest = text;
  split = refl;
  is_left = length_is text e;
  value = 0;
  more = 48 ∷ [];
  fits = omega arith;
  begins = refl;
  ends = λ b bs is x y z low same. ends text b bs e is x y z low same;
}
  where
    length_is : (t : List ℕ) → octal_at t ≡ Err left → length t ≡ left
    length_is [] f = err_is _ _ f
    length_is (b ∷ bs) f =
        elim (chosen (leb 48 b && leb b 55) (done (b - 48, bs)) (fail (length (b ∷ bs))) (fail left) f) [
          | inl is ↦ absurd (let other = is.1 in cc)
          | inr isnt ↦ err_is _ _ isnt.1
        ]

    ends : (t : List ℕ) (b : ℕ) (bs : List ℕ) → octal_at t ≡ Err left → t ≡ b ∷ bs → (x : ℕ) (y z : List ℕ) → x < 8 → b ∷ y ≡ octal_digit x ++ z → ⊥
    ends t b bs f is x y z low same =
        let first : b ≡ 48 + x = cc in
        let read : octal_at t ≡ Ok (x, bs) = ap octal_at (is ∙ ap (λ n. n ∷ bs) first) ∙ octal_again x bs low in
        cc

pub octal_is_exact : IsExact octal_at octal_digit (λ d. d < 8)
octal_is_exact = record { sound = octal_sound; again = octal_again; stuck = octal_stuck; some = 0; some_fits = omega arith }

-- ---- a number

digit_test : (b : ℕ) → is_digit b ≡ true → (48 ≤ b) × (b ≤ 57)
digit_test b e = let parts = and_parts (leb 48 b) (leb b 57) e in (leb-true 48 b parts.0, leb-true b 57 parts.1)

digit_passes : (b : ℕ) → 48 ≤ b → b ≤ 57 → is_digit b ≡ true
digit_passes b low high = and_from (leb 48 b) (leb b 57) (le-leb 48 b low) (le-leb b 57 high)

record IsLonger (n b : ℕ) : Type 0 where
  low : 48 ≤ b
  high : b ≤ 57
  some : 0 < n
  fits : 10 * n + (b - 48) < 2 ^ 32

longer_test : (n b : ℕ) → is_longer n b ≡ true → IsLonger n b
longer_test n b e =
    let outer = and_parts (is_digit b) (ltb 0 n && ltb (10 * n + (b - 48)) (2 ^ 32)) e in
    let inner = and_parts (ltb 0 n) (ltb (10 * n + (b - 48)) (2 ^ 32)) outer.1 in
    let digit = digit_test b outer.0 in
    record { low = digit.0; high = digit.1; some = ltb-true 0 n inner.0; fits = ltb-true _ _ inner.1 }

longer_passes : (n b : ℕ) → IsLonger n b → is_longer n b ≡ true
longer_passes n b is =
    and_from (is_digit b) (ltb 0 n && ltb (10 * n + (b - 48)) (2 ^ 32)) (digit_passes b is.low is.high)
    (and_from (ltb 0 n) (ltb (10 * n + (b - 48)) (2 ^ 32)) (lt-ltb 0 n is.some) (lt-ltb _ _ is.fits))

-- one digit more
decimal_longer : (n b : ℕ) → IsLonger n b → decimal (10 * n + (b - 48)) ≡ decimal n ++ b ∷ []
decimal_longer n b is =
    let low = is.low in
    let high = is.high in
    let some = is.some in
    let fits = is.fits in
    let front : (10 * n + (b - 48)) / 10 ≡ n = omega arith in
    let last : 48 + (10 * n + (b - 48)) % 10 ≡ b = omega arith in
    decimal_step (10 * n + (b - 48)) (omega arith) (omega arith) ∙ rw (front, last) refl

module _ (end : ℕ) (no_digit : is_digit end ≡ false) where
  digits_sound : (bs : List ℕ) (n m : ℕ) (rest : List ℕ) → n < 2 ^ 32 → digits_at end n bs ≡ Ok (m, rest) → (m < 2 ^ 32) × (decimal n ++ bs ≡ decimal m ++ end ∷ rest)
  digits_sound [] n m rest fits e = absurd cc
  digits_sound (b ∷ bs) n m rest fits e =
      elim (chosen (eqb b end) (done (n, bs)) (cond (is_longer n b) (digits_at end (10 * n + (b - 48)) bs) (fail (length (b ∷ bs)))) (done (m, rest)) e) [
        | inl is ↦
            let pair = ok_is (n, bs) (m, rest) is.1 in
            let value : n ≡ m = ap (λ (u : ℕ × List ℕ). u.0) pair in
            let after : bs ≡ rest = ap (λ (u : ℕ × List ℕ). u.1) pair in
            let same = eqb-true b end is.0 in
            (omega arith, rw (value, after, same) refl)
        | inr isnt ↦
            elim (chosen (is_longer n b) (digits_at end (10 * n + (b - 48)) bs) (fail (length (b ∷ bs))) (done (m, rest)) isnt.1) [
              | inl goes ↦
                  let longer = longer_test n b goes.0 in
                  let on = digits_sound bs (10 * n + (b - 48)) m rest longer.fits goes.1 in
                  (on.0, sym (append_assoc (decimal n) (b ∷ []) bs) ∙ ap (λ u. u ++ bs) (sym (decimal_longer n b longer)) ∙ on.1)
              | inr stops ↦ absurd (let other = stops.1 in cc)
            ]
      ]

  -- where the digits stop: a number was read so far, and the next byte neither ends it nor goes on
  record Stops (n : ℕ) (bs : List ℕ) (left : ℕ) : Type 0 where
    front : List ℕ
    rest : List ℕ
    split : bs ≡ front ++ rest
    is_left : length rest ≡ left
    number : ℕ
    fits : number < 2 ^ 32
    read : decimal n ++ front ≡ decimal number
    ends : (b : ℕ) (cs ds : List ℕ) → rest ≡ b ∷ cs → digits_at end number (b ∷ ds) ≡ Err (length (b ∷ ds))

  digits_stop : (bs : List ℕ) (n left : ℕ) → n < 2 ^ 32 → digits_at end n bs ≡ Err left → Stops n bs left
  digits_stop [] n left fits e = record {
    front = [];
    rest = [];
    split = refl;
    is_left = err_is _ _ e;
    number = n;
    fits = fits;
    read = append-nil (decimal n);
    ends = λ b cs ds is. absurd cc;
  }
  digits_stop (b ∷ bs) n left fits e =
      elim (chosen (eqb b end) (done (n, bs)) (cond (is_longer n b) (digits_at end (10 * n + (b - 48)) bs) (fail (length (b ∷ bs)))) (fail left) e) [
        | inl is ↦ absurd (let other = is.1 in cc)
        | inr isnt ↦
            elim (chosen (is_longer n b) (digits_at end (10 * n + (b - 48)) bs) (fail (length (b ∷ bs))) (fail left) isnt.1) [
              | inl goes ↦
                  let longer = longer_test n b goes.0 in
                  let on = digits_stop bs (10 * n + (b - 48)) left longer.fits goes.1 in
                  record {
                    front = b ∷ on.front;
                    rest = on.rest;
                    split = ap (λ u. b ∷ u) on.split;
                    is_left = on.is_left;
                    number = on.number;
                    fits = on.fits;
                    read = sym (append_assoc (decimal n) (b ∷ []) on.front) ∙ ap (λ u. u ++ on.front) (sym (decimal_longer n b longer)) ∙ on.read;
                    ends = on.ends;
                  }
              | inr stops ↦
                  record {
                    front = [];
                    rest = b ∷ bs;
                    split = refl;
                    is_left = err_is _ _ stops.1;
                    number = n;
                    fits = fits;
                    read = append-nil (decimal n);
                    ends = λ c cs ds is. let same : b ≡ c = cc in rw (← same, isnt.0, stops.0) refl;
                  }
            ]
      ]

  -- the digits of a number are read up to where they end
  digits_again : (n : ℕ) → n < 2 ^ 64 → n < 2 ^ 32 → (bs : List ℕ) → number_at end (decimal n ++ bs) ≡ digits_at end n bs
  digits_again = decimal_by_steps (λ n ds. n < 2 ^ 32 → (bs : List ℕ) → number_at end (ds ++ bs) ≡ digits_at end n bs) one more
    where
      one : (n : ℕ) → n < 10 → n < 2 ^ 32 → (bs : List ℕ) → number_at end ((48 + n) ∷ bs) ≡ digits_at end n bs
      one n low fits bs = let value : 48 + n - 48 ≡ n = omega arith in rw (digit_passes (48 + n) (omega arith) (omega arith), value) refl

      more : (n : ℕ) (ds : List ℕ) → 10 ≤ n → (n / 10 < 2 ^ 32 → (bs : List ℕ) → number_at end (ds ++ bs) ≡ digits_at end (n / 10) bs) → n < 2 ^ 32 → (bs : List ℕ) → number_at end ((ds ++ (48 + n % 10) ∷ []) ++ bs) ≡ digits_at end n bs
      more n ds big before fits bs =
          let longer : IsLonger (n / 10) (48 + n % 10) = record { low = omega arith; high = omega arith; some = omega arith; fits = omega arith } in
          let other : eqb (48 + n % 10) end ≡ false = ne_eqb (48 + n % 10) end (λ same. let digit = digit_passes (48 + n % 10) (omega arith) (omega arith) in let ends : is_digit (48 + n % 10) ≡ false = ap is_digit same ∙ no_digit in cc) in
          let value : 10 * (n / 10) + (48 + n % 10 - 48) ≡ n = omega arith in
          ap (number_at end) (append_assoc ds ((48 + n % 10) ∷ []) bs) ∙ before (omega arith) ((48 + n % 10) ∷ bs)
          ∙ rw (other, longer_passes (n / 10) (48 + n % 10) longer, value) refl

  number_again : (n : ℕ) (rest : List ℕ) → n < 2 ^ 32 → number_at end ((decimal n ++ end ∷ []) ++ rest) ≡ Ok (n, rest)
  number_again n rest fits =
      ap (number_at end) (append_assoc (decimal n) (end ∷ []) rest) ∙ digits_again n (omega arith) fits (end ∷ rest) ∙ rw (eq-eqb end end refl) refl

  number_sound : (text : List ℕ) (m : ℕ) (rest : List ℕ) → number_at end text ≡ Ok (m, rest) → (m < 2 ^ 32) × (text ≡ (decimal m ++ end ∷ []) ++ rest)
  number_sound [] m rest e = absurd cc
  number_sound (b ∷ bs) m rest e =
      elim (chosen (is_digit b) (digits_at end (b - 48) bs) (fail (length (b ∷ bs))) (done (m, rest)) e) [
        | inl is ↦
            let range = digit_test b is.0 in
            let first : 48 + (b - 48) ≡ b = omega arith in
            let on = digits_sound bs (b - 48) m rest (omega arith) is.1 in
            let digit : decimal (b - 48) ≡ b ∷ [] = decimal_digit (b - 48) (omega arith) ∙ rw first refl in
            (on.0, ap (λ u. u ++ bs) (sym digit) ∙ on.1 ∙ sym (append_assoc (decimal m) (end ∷ []) rest))
        | inr isnt ↦ absurd (let other = isnt.1 in cc)
      ]

  abbrev NumberStuck : List ℕ → ℕ → Type 0
  NumberStuck = IsStuck (λ n. decimal n ++ end ∷ []) (λ n. n < 2 ^ 32)

  -- nothing was read yet
  no_number : (text : List ℕ) (left : ℕ) → length text ≡ left → ((b : ℕ) (bs ds : List ℕ) → text ≡ b ∷ bs → number_at end (b ∷ ds) ≡ Err (length (b ∷ ds))) → NumberStuck text left
  no_number text left is_left refused = record {
    front = [];
    rest = text;
    split = refl;
    is_left = is_left;
    value = 0;
    more = 48 ∷ end ∷ [];
    fits = omega arith;
    begins = ap (λ u. u ++ end ∷ []) (decimal_digit 0 (omega arith));
    ends = λ b bs is x y z fits same.
        let refusal = refused b bs y is in
        let read = ap (number_at end) same ∙ number_again x z fits in
        cc;
  }

  number_stuck : (text : List ℕ) (left : ℕ) → number_at end text ≡ Err left → NumberStuck text left
  number_stuck [] left e = no_number [] left (err_is _ _ e) (λ b bs ds is. absurd cc)
  number_stuck (b ∷ bs) left e =
      elim (chosen (is_digit b) (digits_at end (b - 48) bs) (fail (length (b ∷ bs))) (fail left) e) [
        | inl is ↦
            let range = digit_test b is.0 in
            let first : 48 + (b - 48) ≡ b = omega arith in
            let digit : decimal (b - 48) ≡ b ∷ [] = decimal_digit (b - 48) (omega arith) ∙ rw first refl in
            let stop = digits_stop bs (b - 48) left (omega arith) is.1 in
            let read : b ∷ stop.front ≡ decimal stop.number = ap (λ u. u ++ stop.front) (sym digit) ∙ stop.read in
            record {
              front = b ∷ stop.front;
              rest = stop.rest;
              split = ap (λ u. b ∷ u) stop.split;
              is_left = stop.is_left;
              value = stop.number;
              more = end ∷ [];
              fits = stop.fits;
              begins = ap (λ u. u ++ end ∷ []) (sym read);
              ends = λ c cs is x y z fits same.
                  let refusal = digits_again stop.number (let small = stop.fits in omega arith) stop.fits (c ∷ y) ∙ stop.ends c cs y is in
                  let again = ap (number_at end) (ap (λ u. u ++ c ∷ y) (sym read) ∙ same) ∙ number_again x z fits in
                  cc;
            }
        | inr isnt ↦ no_number (b ∷ bs) left (err_is _ _ isnt.1) (λ c cs ds is. let same : b ≡ c = cc in rw (← same, isnt.0) refl)
      ]

  pub number_is_exact : IsExact (number_at end) (λ n. decimal n ++ end ∷ []) (λ n. n < 2 ^ 32)
  number_is_exact = record { sound = number_sound; again = number_again; stuck = number_stuck; some = 0; some_fits = omega arith }

-- ---- a mode

abbrev Digits : Type 0
Digits = ℕ × (ℕ × (ℕ × ℕ))

abbrev AreOctal : Digits → Type 0
AreOctal d = (d.0 < 8) × ((d.1.0 < 8) × ((d.1.1.0 < 8) × (d.1.1.1 < 8)))

abbrev mode_of : Digits → ℕ
mode_of d = 512 * d.0 + 64 * d.1.0 + 8 * d.1.1.0 + d.1.1.1

abbrev digits_of_mode : ℕ → Digits
digits_of_mode mode = (mode / 512, (mode / 64 % 8, (mode / 8 % 8, mode % 8)))

mode_back : (d : Digits) → AreOctal d → (mode_of d ≤ 4095) × (digits_of_mode (mode_of d) ≡ d)
mode_back d low =
    let a : d.0 < 8 = low.0 in
    let b : d.1.0 < 8 = low.1.0 in
    let c : d.1.1.0 < 8 = low.1.1.0 in
    let e : d.1.1.1 < 8 = low.1.1.1 in
    let first : mode_of d / 512 ≡ d.0 = omega arith in
    let second : mode_of d / 64 % 8 ≡ d.1.0 = omega arith in
    let third : mode_of d / 8 % 8 ≡ d.1.1.0 = omega arith in
    let fourth : mode_of d % 8 ≡ d.1.1.1 = omega arith in
    (omega arith, λ i. (first i, (second i, (third i, fourth i))))

mode_there : (mode : ℕ) → mode ≤ 4095 → AreOctal (digits_of_mode mode) × (mode_of (digits_of_mode mode) ≡ mode)
mode_there mode low = ((omega arith, (omega arith, (omega arith, omega arith))), omega arith)

pub mode_is_exact : IsExact mode_at (λ mode. octal mode ++ blank ∷ []) (λ mode. mode ≤ 4095)
unfolding mode_at
mode_is_exact =
    let two = both_is_exact octal_at octal_at octal_digit octal_digit (λ d. d < 8) (λ d. d < 8) octal_is_exact octal_is_exact in
    let three = both_is_exact octal_at (both octal_at octal_at) octal_digit _ (λ d. d < 8) _ octal_is_exact two in
    let four = both_is_exact octal_at (both octal_at (both octal_at octal_at)) octal_digit _ (λ d. d < 8) _ octal_is_exact three in
    let line = ended_is_exact (both octal_at (both octal_at (both octal_at octal_at))) _ _ blank four in
    seen_is_exact (ended (both octal_at (both octal_at (both octal_at octal_at))) blank) _ AreOctal line mode_of digits_of_mode (λ mode. mode ≤ 4095) mode_back mode_there

-- A field that is read exactly, and what is made of such fields.
use Rattle.std.proofs.Common.{◌≡◌, ℕ, Bool, true, false, cond, eqb, List, [], ◌∷◌, ◌++◌, length, Ok, Err, refl, sym, ap, subst, ◌∙◌, append_assoc, ◌⊎◌, inl, inr}
use Rattle.std.proofs.lemmas.Bool.{eqb-true, eqb-false, eq-eqb}
use Rattle.node_text.specs.Fields.{Read, ◌>>=◌, byte_at, both, ended}

-- reading stopped where so many bytes are left: those before begin a spelling, and with one more they don't
pub record IsStuck {A : Type 0} (spell : A → List ℕ) (Fits : A → Type 0) (text : List ℕ) (left : ℕ) : Type 0 where
  pub front : List ℕ
  pub rest : List ℕ
  pub split : text ≡ front ++ rest
  pub is_left : length rest ≡ left
  pub value : A
  pub more : List ℕ
  pub fits : Fits value
  pub begins : spell value ≡ front ++ more
  pub ends : (b : ℕ) (bs : List ℕ) → rest ≡ b ∷ bs → (x : A) (y z : List ℕ) → Fits x → front ++ b ∷ y ≡ spell x ++ z → ⊥

-- what is read is spelled so, what is spelled so is read, and a reader stops where it has to
pub record IsExact {A : Type 0} (field : List ℕ → Read (A × List ℕ)) (spell : A → List ℕ) (Fits : A → Type 0) : Type 0 where
  pub sound : (text : List ℕ) (x : A) (rest : List ℕ) → field text ≡ Ok (x, rest) → Fits x × (text ≡ spell x ++ rest)
  pub again : (x : A) (rest : List ℕ) → Fits x → field (spell x ++ rest) ≡ Ok (x, rest)
  pub stuck : (text : List ℕ) (left : ℕ) → field text ≡ Err left → IsStuck spell Fits text left
  pub some : A
  pub some_fits : Fits some

abbrev pub done : {A : Type 0} → A → Read A
done x = Ok x

abbrev pub fail : {A : Type 0} → ℕ → Read A
fail left = Err left

pub ok_is : {A : Type 0} (x y : A) → done x ≡ done y → x ≡ y
ok_is x y e = cc

pub err_is : {A : Type 0} (m n : ℕ) → fail {A = A} m ≡ fail {A = A} n → m ≡ n
err_is m n e = cc

pub bind_ok : {A B : Type 0} (r : Read A) (f : A → Read B) (y : B) → (r >>= f) ≡ Ok y → (x : A) × (r ≡ Ok x) × (f x ≡ Ok y)
bind_ok (Ok x) f y e = (x, refl, e)
bind_ok (Err d) f y e = absurd cc

-- a bind that stopped: the first reader did, or the second
pub data Stopped {A B : Type 0} (r : Read A) (f : A → Read B) (left : ℕ) : Type 0 where
  First : r ≡ Err left → Stopped r f left
  Second : (x : A) → r ≡ Ok x → f x ≡ Err left → Stopped r f left

pub bind_err : {A B : Type 0} (r : Read A) (f : A → Read B) (left : ℕ) → (r >>= f) ≡ Err left → Stopped r f left
bind_err (Ok x) f left e = Second x refl e
bind_err (Err d) f left e = let same : d ≡ left = cc in First (ap (λ n. fail n) same)

-- ---- one field after another

module _ {A B : Type 0} (p : List ℕ → Read (A × List ℕ)) (q : List ℕ → Read (B × List ℕ)) (s : A → List ℕ) (t : B → List ℕ) (F : A → Type 0) (G : B → Type 0) (first : IsExact p s F) (second : IsExact q t G) where
  abbrev Stuck : List ℕ → ℕ → Type 0
  Stuck = IsStuck (λ (x : A × B). s x.0 ++ t x.1) (λ x. F x.0 × G x.1)

  stuck_in_first : (text : List ℕ) (left : ℕ) → IsStuck s F text left → Stuck text left
  stuck_in_first text left is = record {
    front = is.front;
    rest = is.rest;
    split = is.split;
    is_left = is.is_left;
    value = (is.value, second.some);
    more = is.more ++ t second.some;
    fits = (is.fits, second.some_fits);
    begins = ap (λ u. u ++ t second.some) is.begins ∙ append_assoc is.front is.more (t second.some);
    ends = λ b bs e x y z fits same. is.ends b bs e x.0 y (t x.1 ++ z) fits.0 (same ∙ append_assoc (s x.0) (t x.1) z);
  }

  stuck_in_second : (text : List ℕ) (a : A) (rest : List ℕ) (left : ℕ) → F a → text ≡ s a ++ rest → IsStuck t G rest left → Stuck text left
  stuck_in_second text a rest left fit spelled is = record {
    front = s a ++ is.front;
    rest = is.rest;
    split = spelled ∙ ap (λ u. s a ++ u) is.split ∙ sym (append_assoc (s a) is.front is.rest);
    is_left = is.is_left;
    value = (a, is.value);
    more = is.more;
    fits = (fit, is.fits);
    begins = ap (λ u. s a ++ u) is.begins ∙ sym (append_assoc (s a) is.front is.more);
    ends = λ b bs e x y z fits same.
        let here : p (s a ++ (is.front ++ b ∷ y)) ≡ Ok (a, is.front ++ b ∷ y) = first.again a (is.front ++ b ∷ y) fit in
        let there : p (s x.0 ++ (t x.1 ++ z)) ≡ Ok (x.0, t x.1 ++ z) = first.again x.0 (t x.1 ++ z) fits.0 in
        let texts : s a ++ (is.front ++ b ∷ y) ≡ s x.0 ++ (t x.1 ++ z) = sym (append_assoc (s a) is.front (b ∷ y)) ∙ same ∙ append_assoc (s x.0) (t x.1) z in
        let pairs = ok_is (a, is.front ++ b ∷ y) (x.0, t x.1 ++ z) (sym here ∙ ap p texts ∙ there) in
        is.ends b bs e x.1 y z fits.1 (ap (λ (u : A × List ℕ). u.1) pairs);
  }

  stuck_somewhere : (text : List ℕ) (left : ℕ) → both p q text ≡ Err left → Stuck text left
  stuck_somewhere text left e =
      elim (bind_err (p text) (λ a. q a.1 >>= λ b. Ok ((a.0, b.0), b.1)) left e) [
        | First is ↦ stuck_in_first text left (first.stuck text left is)
        | Second a is then ↦
            let read = first.sound text a.0 a.1 is in
            elim (bind_err (q a.1) (λ b. Ok ((a.0, b.0), b.1)) left then) [
              | First stops ↦ stuck_in_second text a.0 a.1 left read.0 read.1 (second.stuck a.1 left stops)
              | Second b goes on ↦ absurd cc
            ]
      ]

  pub both_is_exact : IsExact (both p q) (λ x. s x.0 ++ t x.1) (λ x. F x.0 × G x.1)
  both_is_exact = record {
    sound = λ text x rest e.
        let a = bind_ok (p text) (λ a. q a.1 >>= λ b. Ok ((a.0, b.0), b.1)) (x, rest) e in
        let b = bind_ok (q a.0.1) (λ b. Ok ((a.0.0, b.0), b.1)) (x, rest) a.2 in
        let one = first.sound text a.0.0 a.0.1 a.1 in
        let two = second.sound a.0.1 b.0.0 b.0.1 b.1 in
        let made : (A × B) × List ℕ = ((a.0.0, b.0.0), b.0.1) in
        subst (λ (u : (A × B) × List ℕ). (F u.0.0 × G u.0.1) × (text ≡ (s u.0.0 ++ t u.0.1) ++ u.1)) (ok_is made (x, rest) b.2)
        ((one.0, two.0), one.1 ∙ ap (λ u. s a.0.0 ++ u) two.1 ∙ sym (append_assoc (s a.0.0) (t b.0.0) b.0.1));
    again = λ x rest fits.
        ap (both p q) (append_assoc (s x.0) (t x.1) rest) ∙ rw (first.again x.0 (t x.1 ++ rest) fits.0, second.again x.1 rest fits.1) refl;
    stuck = stuck_somewhere;
    some = (first.some, second.some);
    some_fits = (first.some_fits, second.some_fits);
  }

-- ---- a byte

pub chosen : {X : Type 0} (b : Bool) (x y z : X) → cond b x y ≡ z → ((b ≡ true) × (x ≡ z)) ⊎ ((b ≡ false) × (y ≡ z))
chosen true x y z e = inl (refl, e)
chosen false x y z e = inr (refl, e)

pub byte_sound : (byte : ℕ) (text rest : List ℕ) → byte_at byte text ≡ Ok rest → text ≡ byte ∷ rest
byte_sound byte [] rest e = absurd cc
byte_sound byte (b ∷ bs) rest e =
    elim (chosen (eqb b byte) (done bs) (fail (length (b ∷ bs))) (done rest) e) [
      | inl is ↦ let same = eqb-true b byte is.0 in let left : bs ≡ rest = ok_is bs rest is.1 in rw (same, left) refl
      | inr isnt ↦ absurd (let other = isnt.1 in cc)
    ]

pub byte_again : (byte : ℕ) (rest : List ℕ) → byte_at byte (byte ∷ rest) ≡ Ok rest
byte_again byte rest = rw (eq-eqb byte byte refl) refl

pub byte_stops : (byte : ℕ) (text : List ℕ) (left : ℕ) → byte_at byte text ≡ Err left → (length text ≡ left) × ((b : ℕ) (bs : List ℕ) → text ≡ b ∷ bs → b ≡ byte → ⊥)
byte_stops byte [] left e = (cc, λ b bs is same. cc)
byte_stops byte (b ∷ bs) left e =
    elim (chosen (eqb b byte) (done bs) (fail (length (b ∷ bs))) (fail left) e) [
      | inl is ↦ absurd (let no = is.1 in cc)
      | inr isnt ↦ (err_is _ _ isnt.1, λ c cs front same. let alike : b ≡ c = cc in eqb-false b byte isnt.0 (alike ∙ same))
    ]

-- ---- a field and the byte that ends it

module _ {A : Type 0} (p : List ℕ → Read (A × List ℕ)) (s : A → List ℕ) (F : A → Type 0) (byte : ℕ) (field : IsExact p s F) where
  abbrev StuckEnded : List ℕ → ℕ → Type 0
  StuckEnded = IsStuck (λ (x : A). s x ++ byte ∷ []) F

  stuck_in_field : (text : List ℕ) (left : ℕ) → IsStuck s F text left → StuckEnded text left
  stuck_in_field text left is = record {
    front = is.front;
    rest = is.rest;
    split = is.split;
    is_left = is.is_left;
    value = is.value;
    more = is.more ++ byte ∷ [];
    fits = is.fits;
    begins = ap (λ u. u ++ byte ∷ []) is.begins ∙ append_assoc is.front is.more (byte ∷ []);
    ends = λ b bs e x y z fits same. is.ends b bs e x y (byte ∷ z) fits (same ∙ append_assoc (s x) (byte ∷ []) z);
  }

  stuck_at_end : (text : List ℕ) (a : A) (rest : List ℕ) (left : ℕ) → F a → text ≡ s a ++ rest → byte_at byte rest ≡ Err left → StuckEnded text left
  stuck_at_end text a rest left fit spelled e =
      let stops = byte_stops byte rest left e in
      record {
        front = s a;
        rest = rest;
        split = spelled;
        is_left = stops.0;
        value = a;
        more = byte ∷ [];
        fits = fit;
        begins = refl;
        ends = λ b bs e x y z fits same.
            let here : p (s a ++ b ∷ y) ≡ Ok (a, b ∷ y) = field.again a (b ∷ y) fit in
            let there : p (s x ++ byte ∷ z) ≡ Ok (x, byte ∷ z) = field.again x (byte ∷ z) fits in
            let texts : s a ++ b ∷ y ≡ s x ++ byte ∷ z = same ∙ append_assoc (s x) (byte ∷ []) z in
            let pairs = ok_is (a, b ∷ y) (x, byte ∷ z) (sym here ∙ ap p texts ∙ there) in
            let ends : b ∷ y ≡ byte ∷ z = ap (λ (u : A × List ℕ). u.1) pairs in
            stops.1 b bs e cc;
      }

  stuck_ended : (text : List ℕ) (left : ℕ) → ended p byte text ≡ Err left → StuckEnded text left
  stuck_ended text left e =
      elim (bind_err (p text) (λ a. byte_at byte a.1 >>= λ rest. Ok (a.0, rest)) left e) [
        | First is ↦ stuck_in_field text left (field.stuck text left is)
        | Second a is then ↦
            let read = field.sound text a.0 a.1 is in
            elim (bind_err (byte_at byte a.1) (λ rest. Ok (a.0, rest)) left then) [
              | First stops ↦ stuck_at_end text a.0 a.1 left read.0 read.1 stops
              | Second b goes on ↦ absurd cc
            ]
      ]

  pub ended_is_exact : IsExact (ended p byte) (λ x. s x ++ byte ∷ []) F
  ended_is_exact = record {
    sound = λ text x rest e.
        let a = bind_ok (p text) (λ a. byte_at byte a.1 >>= λ rest. Ok (a.0, rest)) (x, rest) e in
        let b = bind_ok (byte_at byte a.0.1) (λ rest. Ok (a.0.0, rest)) (x, rest) a.2 in
        let one = field.sound text a.0.0 a.0.1 a.1 in
        let two = byte_sound byte a.0.1 b.0 b.1 in
        let made : A × List ℕ = (a.0.0, b.0) in
        subst (λ (u : A × List ℕ). F u.0 × (text ≡ (s u.0 ++ byte ∷ []) ++ u.1)) (ok_is made (x, rest) b.2)
        (one.0, one.1 ∙ ap (λ u. s a.0.0 ++ u) two ∙ sym (append_assoc (s a.0.0) (byte ∷ []) b.0));
    again = λ x rest fits.
        ap (ended p byte) (append_assoc (s x) (byte ∷ []) rest) ∙ rw (field.again x (byte ∷ rest) fits, byte_again byte rest) refl;
    stuck = stuck_ended;
    some = field.some;
    some_fits = field.some_fits;
  }

-- ---- the value seen otherwise

abbrev pub seen_as : {A B : Type 0} → (A → B) → (List ℕ → Read (A × List ℕ)) → List ℕ → Read (B × List ℕ)
seen_as f p text = p text >>= λ x. Ok (f x.0, x.1)

module _ {A B : Type 0} (p : List ℕ → Read (A × List ℕ)) (s : A → List ℕ) (F : A → Type 0) (field : IsExact p s F) (f : A → B) (g : B → A) (G : B → Type 0) (there : (x : A) → F x → G (f x) × (g (f x) ≡ x)) (back : (y : B) → G y → F (g y) × (f (g y) ≡ y)) where
  seen_stuck : (text : List ℕ) (left : ℕ) → IsStuck s F text left → IsStuck (λ y. s (g y)) G text left
  seen_stuck text left is = record {
    front = is.front;
    rest = is.rest;
    split = is.split;
    is_left = is.is_left;
    value = f is.value;
    more = is.more;
    fits = (there is.value is.fits).0;
    begins = ap s (there is.value is.fits).1 ∙ is.begins;
    ends = λ b bs e x y z fits same. is.ends b bs e (g x) y z (back x fits).0 same;
  }

  pub seen_is_exact : IsExact (seen_as f p) (λ y. s (g y)) G
  seen_is_exact = record {
    sound = λ text y rest e.
        let a = bind_ok (p text) (λ x. Ok (f x.0, x.1)) (y, rest) e in
        let one = field.sound text a.0.0 a.0.1 a.1 in
        let made : B × List ℕ = (f a.0.0, a.0.1) in
        subst (λ (u : B × List ℕ). G u.0 × (text ≡ s (g u.0) ++ u.1)) (ok_is made (y, rest) a.2)
        ((there a.0.0 one.0).0, one.1 ∙ ap (λ u. s u ++ a.0.1) (sym (there a.0.0 one.0).1));
    again = λ y rest fits. rw (field.again (g y) rest (back y fits).0, (back y fits).1) refl;
    stuck = λ text left e.
        elim (bind_err (p text) (λ x. Ok (f x.0, x.1)) left e) [
          | First is ↦ seen_stuck text left (field.stuck text left is)
          | Second a is then ↦ absurd cc
        ];
    some = f field.some;
    some_fits = (there field.some field.some_fits).0;
  }

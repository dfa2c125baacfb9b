-- A link's target and the line feed that ends it are read exactly.
use Rattle.std.proofs.Common.{◌≡◌, ℕ, ◌+◌, ◌-◌, ◌<◌, ◌≤◌, Bool, true, false, not, cond, eqb, ltb, List, [], ◌∷◌, ◌++◌, length, take, drop, get_or, Some, None, Ok, Err, refl, sym, ap, subst, ◌∙◌, append_assoc, arith, inl, inr, add-one, drop-cons}
use Rattle.std.proofs.lemmas.Bool.{eqb-false, eq-eqb, ne_eqb, ltb-false, lt-ltb, le-ltb, cases_lt, cases_eq}
use Rattle.std.proofs.lemmas.List.{take-append-drop, length-append, length-take, length-drop, get_or-take, get_or_past, take_at, drop_at}
use Rattle.std.proofs.Math.Seq.{get_or-append_seam}
use Rattle.std.specs.List.{position_or_len, position}
use Rattle.std.specs.Option.{option_map}
use Rattle.std.proofs.lemmas.List.Sums.{position_or_len_is, fails_before_first, passes_at_first, prefix_len-le-length}
use Rattle.std.proofs.lemmas.List.Folds.{prefix_len-append}
use Rattle.switch_names.specs.declared.name_fault.NameFault.TheVariants.{Empty, Long, Byte}
use Rattle.switch_names.specs.Path.{is_no_path_byte}
use Rattle.host_trait.specs.Leaf.{link_fault}
use Rattle.node_text.specs.Node.{line_feed}
use Rattle.node_text.specs.Fields.{target_len, target_at}
use Rattle.node_text.proofs.ExactFields.{IsStuck, IsExact, done, ok_is, err_is, chosen}

abbrev ends_target : ℕ → Bool
ends_target = is_no_path_byte

first : List ℕ → ℕ
first text = position_or_len ends_target text

first-le : (text : List ℕ) → position_or_len ends_target text ≤ length text
first-le text = prefix_len-le-length (λ x. not (ends_target x)) text

len_is : (text : List ℕ) → target_len text ≡ position_or_len ends_target text
len_is text =
    elim (cases_lt (position_or_len ends_target text) (length text)) [
      | inl lt ↦ rw (lt-ltb (position_or_len ends_target text) (length text) lt) refl
      | inr le ↦ rw (le-ltb (position_or_len ends_target text) (length text) le) (let most = first-le text in omega arith)
    ]

-- ---- what a target is

pub record IsTarget (target : List ℕ) : Type 0 where
  pub some : 0 < length target
  pub short : length target ≤ 4096
  pub whole : position_or_len ends_target target ≡ length target

no_byte : (target : List ℕ) → option_map Byte (position ends_target target) ≡ None → position_or_len ends_target target ≡ length target
no_byte target e =
    elim (cases_lt (position_or_len ends_target target) (length target)) [
      | inl lt ↦ absurd (let stands = lt-ltb (position_or_len ends_target target) (length target) lt in let at = rw stands at e in cc)
      | inr le ↦ let most = first-le target in omega arith
    ]

pub target_parts : (target : List ℕ) → link_fault target ≡ None → IsTarget target
target_parts target e =
    elim (chosen (eqb (length target) 0) (Some Empty) (cond (ltb 4096 (length target)) (Some Long) (option_map Byte (position ends_target target))) None e) [
      | inl is ↦ absurd (let other = is.1 in cc)
      | inr isnt ↦
          elim (chosen (ltb 4096 (length target)) (Some Long) (option_map Byte (position ends_target target)) None isnt.1) [
            | inl is ↦ absurd (let other = is.1 in cc)
            | inr short ↦
                let apart = eqb-false (length target) 0 isnt.0 in
                let most = ltb-false 4096 (length target) short.0 in
                record { some = omega arith; short = most; whole = no_byte target short.1 }
          ]
    ]

pub target_from : (target : List ℕ) → IsTarget target → link_fault target ≡ None
target_from target is =
    let some = is.some in
    let short = is.short in
    let whole = is.whole in
    rw (ne_eqb (length target) 0 (λ e. omega arith), le-ltb 4096 (length target) short, le-ltb (position_or_len ends_target target) (length target) (omega arith)) refl

-- the front of what stands before the first byte that ends a target
first_of_front : (text : List ℕ) (n : ℕ) → n ≤ position_or_len ends_target text → position_or_len ends_target (take n text) ≡ n
first_of_front text n le =
    let most = first-le text in
    let len : length (take n text) ≡ n = omega (arith, length-take n text) in
    position_or_len_is ends_target (take n text) n 0 (omega arith)
    (λ k lt. rw (get_or-take n text k 0 lt) (fails_before_first ends_target text k 0 (omega arith)))
    (λ lt. absurd (omega arith))

first-append : (front : List ℕ) (b : ℕ) (y : List ℕ) → position_or_len ends_target front ≡ length front → position_or_len ends_target (front ++ b ∷ y) ≡ length front + cond (not (ends_target b)) (1 + position_or_len ends_target y) 0
first-append front b y whole = prefix_len-append (λ x. not (ends_target x)) front (b ∷ y) ∙ rw (eq-eqb (position_or_len ends_target front) (length front) whole) refl

-- ---- reading one

module _ (text : List ℕ) (n : ℕ) (is : position_or_len ends_target text ≡ n) where
  here : target_len text ≡ n
  here = len_is text ∙ is

  pub too_long : 4096 < n → target_at text ≡ Err (length text - 4096)
  unfolding target_at
  too_long lt = rw (here, lt-ltb 4096 n lt) refl

  pub empty : n ≡ 0 → target_at text ≡ Err (length text)
  unfolding target_at
  empty none = rw (here, none) refl

  pub ended_otherwise : 0 < n → n ≤ 4096 → (get_or text n 0 ≡ 10 → ⊥) → target_at text ≡ Err (length text - n)
  unfolding target_at
  ended_otherwise some short other = rw (here, le-ltb 4096 n short, ne_eqb n 0 (λ e. omega arith), ne_eqb (get_or text n 0) 10 other) refl

  pub whole : 0 < n → n ≤ 4096 → get_or text n 0 ≡ 10 → target_at text ≡ Ok (take n text, drop (n + 1) text)
  unfolding target_at
  whole some short last = rw (here, le-ltb 4096 n short, ne_eqb n 0 (λ e. omega arith), eq-eqb (get_or text n 0) 10 last) refl

target_again : (target rest : List ℕ) → link_fault target ≡ None → target_at ((target ++ line_feed ∷ []) ++ rest) ≡ Ok (target, rest)
target_again target rest fits =
    let is = target_parts target fits in
    let front : take (length target) (target ++ line_feed ∷ rest) ≡ target = take_at target (line_feed ∷ rest) (length target) refl in
    let back : drop (length target + 1) (target ++ line_feed ∷ rest) ≡ rest =
    ap (drop (length target + 1)) (sym (append_assoc target (line_feed ∷ []) rest)) ∙ drop_at (target ++ line_feed ∷ []) rest (length target + 1) (length-append target (line_feed ∷ []))
    in
    let at : position_or_len ends_target (target ++ line_feed ∷ rest) ≡ length target = first-append target line_feed rest is.whole ∙ omega arith in
    ap target_at (append_assoc target (line_feed ∷ []) rest)
    ∙ whole (target ++ line_feed ∷ rest) (length target) at is.some is.short (get_or-append_seam target line_feed rest 0)
    ∙ (λ i. done (front i, back i))

-- four ways to read
data Answer (text : List ℕ) (n : ℕ) : Type 0 where
  Too_long : 4096 < n → Answer text n
  Empty_one : n ≡ 0 → Answer text n
  Otherwise : 0 < n → n ≤ 4096 → (get_or text n 0 ≡ 10 → ⊥) → Answer text n
  Whole : 0 < n → n ≤ 4096 → get_or text n 0 ≡ 10 → Answer text n

answer : (text : List ℕ) (n : ℕ) → Answer text n
answer text n =
    elim (cases_lt 4096 n) [
      | inl long ↦ Too_long long
      | inr short ↦
          elim (cases_eq n 0) [
            | inl none ↦ Empty_one none
            | inr some ↦
                elim (cases_eq (get_or text n 0) 10) [
                  | inl last ↦ Whole (omega arith) short last
                  | inr other ↦ Otherwise (omega arith) short other
                ]
          ]
    ]

-- a text up to the first byte that ends a target, and that byte
parted : (text : List ℕ) (n : ℕ) → n < length text → text ≡ take n text ++ get_or text n 0 ∷ drop (n + 1) text
parted text n lt = sym (take-append-drop n text) ∙ ap (λ u. take n text ++ u) (rw (add-one) (drop-cons text n 0 lt))

-- the front of a text up to there is a target
front_is_target : (text : List ℕ) (n : ℕ) → 0 < n → n ≤ 4096 → n ≤ position_or_len ends_target text → IsTarget (take n text)
front_is_target text n some short le =
    let most = first-le text in
    let len : length (take n text) ≡ n = omega (arith, length-take n text) in
    record { some = omega arith; short = omega arith; whole = first_of_front text n le ∙ sym len }

ends_within : (text : List ℕ) (n : ℕ) → get_or text n 0 ≡ 10 → n < length text
ends_within text n last =
    elim (cases_lt n (length text)) [
      | inl lt ↦ lt
      | inr le ↦ absurd (let past = get_or_past text n 0 le in omega arith)
    ]

target_sound : (text target rest : List ℕ) → target_at text ≡ Ok (target, rest) → (link_fault target ≡ None) × (text ≡ (target ++ line_feed ∷ []) ++ rest)
target_sound text target rest e =
    elim (answer text (position_or_len ends_target text)) [
      | Too_long long ↦ absurd (let read = too_long text (position_or_len ends_target text) refl long in cc)
      | Empty_one none ↦ absurd (let read = empty text (position_or_len ends_target text) refl none in cc)
      | Otherwise some short other ↦ absurd (let read = ended_otherwise text (position_or_len ends_target text) refl some short other in cc)
      | Whole some short last ↦
          let n = position_or_len ends_target text in
          let is = front_is_target text n some short (omega arith) in
          let parts : text ≡ (take n text ++ line_feed ∷ []) ++ drop (n + 1) text =
          parted text n (ends_within text n last) ∙ ap (λ b. take n text ++ b ∷ drop (n + 1) text) last ∙ sym (append_assoc (take n text) (line_feed ∷ []) (drop (n + 1) text))
          in
          subst (λ (u : List ℕ × List ℕ). (link_fault u.0 ≡ None) × (text ≡ (u.0 ++ line_feed ∷ []) ++ u.1))
          (ok_is (take n text, drop (n + 1) text) (target, rest) (sym (whole text n refl some short last) ∙ e)) (target_from (take n text) is, parts)
    ]

-- ---- where reading stops

abbrev TargetStuck : List ℕ → ℕ → Type 0
TargetStuck = IsStuck (λ target. target ++ line_feed ∷ []) (λ target. link_fault target ≡ None)

-- what is refused is no target with its end
refused : (text target rest : List ℕ) (left : ℕ) → target_at text ≡ Err left → link_fault target ≡ None → text ≡ (target ++ line_feed ∷ []) ++ rest → ⊥
refused text target rest left e fits same = let read = ap target_at same ∙ target_again target rest fits in cc

stuck_at_front : (text : List ℕ) (n left : ℕ) → IsTarget (take n text) → n ≤ length text → length text - n ≡ left
    → ((b : ℕ) (bs y : List ℕ) → drop n text ≡ b ∷ bs → (k : ℕ) × (target_at (take n text ++ b ∷ y) ≡ Err k)) → TargetStuck text left
stuck_at_front text n left is le is_left stops = record {
  front = take n text;
  rest = drop n text;
  split = sym (take-append-drop n text);
  is_left = omega (arith, length-drop n text);
  value = take n text;
  more = line_feed ∷ [];
  fits = target_from (take n text) is;
  begins = refl;
  ends = λ b bs e x y z fits same. let stop = stops b bs y e in refused (take n text ++ b ∷ y) x z stop.0 stop.1 fits same;
}

-- the byte behind the front
byte_at_front : (text : List ℕ) (n b : ℕ) (bs : List ℕ) → drop n text ≡ b ∷ bs → (n < length text) × (get_or text n 0 ≡ b)
byte_at_front text n b bs e =
    let len = ap length e in
    let within : n < length text = omega (arith, length-drop n text) in
    let heads = sym (drop-cons text n 0 within) ∙ e in
    (within, let same : get_or text n 0 ≡ b = cc in same)

stuck_too_long : (text : List ℕ) (left : ℕ) → 4096 < position_or_len ends_target text → length text - 4096 ≡ left → TargetStuck text left
stuck_too_long text left long is_left =
    let most = first-le text in
    stuck_at_front text 4096 left (front_is_target text 4096 (omega arith) (omega arith) (omega arith)) (omega arith) is_left
    (λ b bs y e.
    let at = byte_at_front text 4096 b bs e in
    let stays : ends_target b ≡ false = ap ends_target (sym at.1) ∙ fails_before_first ends_target text 4096 0 long in
    let len : length (take 4096 text) ≡ 4096 = omega (arith, length-take 4096 text) in
    let first : position_or_len ends_target (take 4096 text ++ b ∷ y) ≡ 4096 + (1 + position_or_len ends_target y) =
    first-append (take 4096 text) b y (first_of_front text 4096 (omega arith) ∙ sym len) ∙ rw (len, stays) refl
    in
    (length (take 4096 text ++ b ∷ y) - 4096, too_long (take 4096 text ++ b ∷ y) (4096 + (1 + position_or_len ends_target y)) first (omega arith)))

stuck_otherwise : (text : List ℕ) (left : ℕ) → 0 < position_or_len ends_target text → position_or_len ends_target text ≤ 4096
    → (get_or text (position_or_len ends_target text) 0 ≡ 10 → ⊥) → length text - position_or_len ends_target text ≡ left → TargetStuck text left
stuck_otherwise text left some short other is_left =
    let n = position_or_len ends_target text in
    let most = first-le text in
    stuck_at_front text n left (front_is_target text n some short (omega arith)) most is_left
    (λ b bs y e.
    let at = byte_at_front text n b bs e in
    let ends : ends_target b ≡ true = ap ends_target (sym at.1) ∙ passes_at_first ends_target text 0 at.0 in
    let len : length (take n text) ≡ n = omega (arith, length-take n text) in
    let first : position_or_len ends_target (take n text ++ b ∷ y) ≡ n =
    first-append (take n text) b y (first_of_front text n (omega arith) ∙ sym len) ∙ rw (len, ends) (omega arith)
    in
    let last : get_or (take n text ++ b ∷ y) n 0 ≡ b = ap (λ k. get_or (take n text ++ b ∷ y) k 0) (sym len) ∙ get_or-append_seam (take n text) b y 0 in
    (length (take n text ++ b ∷ y) - n, ended_otherwise (take n text ++ b ∷ y) n first some short (λ same. other (at.1 ∙ sym last ∙ same))))

stuck_empty : (text : List ℕ) (left : ℕ) → position_or_len ends_target text ≡ 0 → length text ≡ left → TargetStuck text left
stuck_empty text left none is_left = record {
  front = [];
  rest = text;
  split = refl;
  is_left = is_left;
  value = 97 ∷ [];
  more = 97 ∷ line_feed ∷ [];
  fits = refl;
  begins = refl;
  ends = λ b bs e x y z fits same.
      let at = byte_at_front text 0 b bs e in
      let place = position_or_len ends_target text in
      let lt : position_or_len ends_target text < length text = omega (arith, at.0) in
      let passes = passes_at_first ends_target text 0 lt in
      let ends : ends_target b ≡ true = ap ends_target (sym at.1) ∙ ap (λ k. ends_target (get_or text k 0)) (sym none) ∙ passes in
      let first : position_or_len ends_target (b ∷ y) ≡ 0 = rw ends refl in
      refused (b ∷ y) x z (length (b ∷ y)) (empty (b ∷ y) 0 first refl) fits same;
}

target_stuck : (text : List ℕ) (left : ℕ) → target_at text ≡ Err left → TargetStuck text left
target_stuck text left e =
    elim (answer text (position_or_len ends_target text)) [
      | Too_long long ↦ stuck_too_long text left long (err_is _ _ (sym (too_long text (position_or_len ends_target text) refl long) ∙ e))
      | Empty_one none ↦ stuck_empty text left none (err_is _ _ (sym (empty text (position_or_len ends_target text) refl none) ∙ e))
      | Otherwise some short other ↦ stuck_otherwise text left some short other (err_is _ _ (sym (ended_otherwise text (position_or_len ends_target text) refl some short other) ∙ e))
      | Whole some short last ↦ absurd (let read = whole text (position_or_len ends_target text) refl some short last in cc)
    ]

pub target_is_exact : IsExact target_at (λ target. target ++ line_feed ∷ []) (λ target. link_fault target ≡ None)
target_is_exact = record { sound = target_sound; again = target_again; stuck = target_stuck; some = 97 ∷ []; some_fits = refl }

-- The text of a leaf is read exactly, behind either tag.
use Rattle.std.proofs.Common.{◌≡◌, ℕ, ◌+◌, ◌-◌, ◌<◌, ◌≤◌, ◌^◌, cond, eqb, List, [], ◌∷◌, ◌++◌, length, take, None, Result, Ok, Err, refl, sym, ap, subst, ◌∙◌, append_assoc, arith, inl, inr}
use Rattle.std.specs.Prelude.{IfOk, IfErr}
use Rattle.std.specs.Fmt.{decimal}
use Rattle.std.proofs.lemmas.Bool.{eqb-true}
use Rattle.std.proofs.lemmas.List.{append-nil, length-append, nil_from_length, take_at}
use Rattle.host_trait.specs.Leaf.{link_fault}
use Rattle.host_trait.specs.declared.leaf.LeafKind.{LeafKind}
use Rattle.host_trait.specs.declared.leaf.LeafKind.TheVariants.{File, Link}
use Rattle.node_text.specs.declared.fault.NodeFault.{NodeFault}
use Rattle.node_text.specs.declared.fault.NodeFault.TheVariants.{Tag, Header, Utf8, Memory}
use Rattle.node_text.specs.Node.{blank, line_feed, octal, node_of, IsNodeOf, IsEncoded, Begins, IsStuckAt, IsTagged, IsFaultOf, IsReadAs}
use Rattle.node_text.specs.Fields.{Read, ◌>>=◌, mode_at, number_at, both, file_at, target_at, link_at, GivesLeaf}
use Rattle.node_text.proofs.ExactFields.{IsStuck, IsExact, done, fail, ok_is, err_is, bind_ok, First, Second, bind_err, chosen, both_is_exact}
use Rattle.node_text.proofs.Digits.{number_is_exact, mode_is_exact}
use Rattle.node_text.proofs.Targets.{target_is_exact}

heads : (a b : ℕ) (xs ys : List ℕ) → a ∷ xs ≡ b ∷ ys → a ≡ b
heads a b xs ys e = cc

tails : (a b : ℕ) (xs ys : List ℕ) → a ∷ xs ≡ b ∷ ys → xs ≡ ys
tails a b xs ys e = cc

-- where reading behind a tag stops
pub record StopsBehind (tag : ℕ) (fields : List ℕ) (left : ℕ) : Type 0 where
  pub front : List ℕ
  pub rest : List ℕ
  pub split : fields ≡ front ++ rest
  pub is_left : length rest ≡ left
  pub begins : Begins (tag ∷ blank ∷ front)
  pub ends : (b : ℕ) (bs : List ℕ) → rest ≡ b ∷ bs → Begins (tag ∷ blank ∷ (front ++ b ∷ [])) → ⊥
  pub is_none : (kind : LeafKind) → IsNodeOf (tag ∷ blank ∷ fields) kind → ⊥

-- the fields of a text are read exactly
pub record IsExactBehind (tag : ℕ) (read : List ℕ → Read LeafKind) : Type 0 where
  pub sound : (fields : List ℕ) (kind : LeafKind) → read fields ≡ Ok kind → IsNodeOf (tag ∷ blank ∷ fields) kind
  pub again : (fields : List ℕ) (kind : LeafKind) → IsNodeOf (tag ∷ blank ∷ fields) kind → read fields ≡ Ok kind
  pub stuck : (fields : List ℕ) (left : ℕ) → read fields ≡ Err left → StopsBehind tag fields left

-- ---- a file

abbrev Header_of : Type 0
Header_of = ℕ × (ℕ × ℕ)

abbrev header : Header_of → List ℕ
header h = (octal h.0 ++ blank ∷ []) ++ ((decimal h.1.0 ++ blank ∷ []) ++ (decimal h.1.1 ++ line_feed ∷ []))

abbrev IsHeader : Header_of → Type 0
IsHeader h = (h.0 ≤ 4095) × ((h.1.0 < 2 ^ 32) × (h.1.1 < 2 ^ 32))

header_at : List ℕ → Read (Header_of × List ℕ)
header_at = both mode_at (both (number_at blank) (number_at line_feed))

header_is_exact : IsExact header_at header IsHeader
unfolding header_at
header_is_exact =
    both_is_exact mode_at (both (number_at blank) (number_at line_feed)) _ _ _ _ mode_is_exact
    (both_is_exact (number_at blank) (number_at line_feed) _ _ _ _ (number_is_exact blank refl) (number_is_exact line_feed refl))

abbrev file_of : Header_of × List ℕ → LeafKind
file_of h = File h.1 h.0.0 h.0.1.0 h.0.1.1

file_by_header : (fields : List ℕ) → file_at fields ≡ (header_at fields >>= λ h. done (file_of h))
unfolding file_at header_at
file_by_header fields = refl

spelled_file : (h : Header_of) (bytes : List ℕ) → node_of (file_of (h, bytes)) ≡ 70 ∷ blank ∷ (header h ++ bytes)
spelled_file h bytes = simp append_assoc

file_node : (h : Header_of) (bytes fields : List ℕ) → IsHeader h → fields ≡ header h ++ bytes → IsNodeOf (70 ∷ blank ∷ fields) (file_of (h, bytes))
file_node h bytes fields fits same = record { leaf = fits.0; owners = (fits.1.0, fits.1.1); spelled = ap (λ u. 70 ∷ blank ∷ u) same ∙ sym (spelled_file h bytes) }

file_parts : (fields : List ℕ) (h : Header_of) (bytes : List ℕ) → IsNodeOf (70 ∷ blank ∷ fields) (file_of (h, bytes)) → IsHeader h × (fields ≡ header h ++ bytes)
file_parts fields h bytes is =
    let spelled : 70 ∷ blank ∷ fields ≡ 70 ∷ blank ∷ (header h ++ bytes) = is.spelled ∙ spelled_file h bytes in
    ((is.leaf, (is.owners.0, is.owners.1)), tails blank blank _ _ (tails 70 70 _ _ spelled))

file_again : (fields : List ℕ) (kind : LeafKind) → IsNodeOf (70 ∷ blank ∷ fields) kind → file_at fields ≡ Ok kind
file_again fields (File bytes mode uid gid) is =
    let h : Header_of = (mode, (uid, gid)) in
    let parts = file_parts fields (mode, (uid, gid)) bytes is in
    file_by_header fields
    ∙ ap (λ r. r >>= λ x. done (file_of x)) (ap header_at parts.1 ∙ header_is_exact.again (mode, (uid, gid)) bytes parts.0)
file_again fields (Link target) is = absurd (let tag = heads 70 76 (blank ∷ fields) (blank ∷ (target ++ line_feed ∷ [])) is.spelled in omega arith)

file_stuck : (fields : List ℕ) (left : ℕ) → file_at fields ≡ Err left → StopsBehind 70 fields left
file_stuck fields left e =
    elim (bind_err (header_at fields) (λ h. done (file_of h)) left (sym (file_by_header fields) ∙ e)) [
      | First is ↦
          let stop = header_is_exact.stuck fields left is in
          record {
            front = stop.front;
            rest = stop.rest;
            split = stop.split;
            is_left = stop.is_left;
            begins = (file_of (stop.value, []), stop.more, file_node stop.value [] (stop.front ++ stop.more) stop.fits (sym stop.begins ∙ sym (append-nil (header stop.value))));
            ends = ends_file fields left stop;
            is_none = λ kind node. let read = file_again fields kind node in cc;
          }
      | Second h is then ↦ absurd cc
    ]
  where
    ends_file : (fields : List ℕ) (left : ℕ) (stop : IsStuck header IsHeader fields left) (b : ℕ) (bs : List ℕ) → stop.rest ≡ b ∷ bs → Begins (70 ∷ blank ∷ (stop.front ++ b ∷ [])) → ⊥
    ends_file fields left stop b bs e (File bytes mode uid gid, more, is) =
        let parts = file_parts ((stop.front ++ b ∷ []) ++ more) (mode, (uid, gid)) bytes is in
        stop.ends b bs e (mode, (uid, gid)) more bytes parts.0 (sym (append_assoc stop.front (b ∷ []) more) ∙ parts.1)
    ends_file fields left stop b bs e (Link target, more, is) = absurd (let tag = heads 70 76 (blank ∷ ((stop.front ++ b ∷ []) ++ more)) (blank ∷ (target ++ line_feed ∷ [])) is.spelled in omega arith)

pub file_is_exact : IsExactBehind 70 file_at
file_is_exact = record {
  sound = λ fields kind e.
      let h = bind_ok (header_at fields) (λ h. done (file_of h)) kind (sym (file_by_header fields) ∙ e) in
      let read = header_is_exact.sound fields h.0.0 h.0.1 h.1 in
      subst (λ (k : LeafKind). IsNodeOf (70 ∷ blank ∷ fields) k) (ok_is (file_of h.0) kind h.2) (file_node h.0.0 h.0.1 fields read.0 read.1);
  again = file_again;
  stuck = file_stuck;
}

-- ---- a link

link_node : (target fields : List ℕ) → link_fault target ≡ None → fields ≡ target ++ line_feed ∷ [] → IsNodeOf (76 ∷ blank ∷ fields) (Link target)
link_node target fields fits same = record { leaf = fits; owners = tt; spelled = ap (λ u. 76 ∷ blank ∷ u) same }

link_parts : (fields target : List ℕ) → IsNodeOf (76 ∷ blank ∷ fields) (Link target) → (link_fault target ≡ None) × (fields ≡ (target ++ line_feed ∷ []) ++ [])
link_parts fields target is = (is.leaf, tails blank blank _ _ (tails 76 76 _ _ is.spelled) ∙ sym (append-nil (target ++ line_feed ∷ [])))

no_file : (fields bytes : List ℕ) (mode uid gid : ℕ) → IsNodeOf (76 ∷ blank ∷ fields) (File bytes mode uid gid) → ⊥
no_file fields bytes mode uid gid is =
    let tag = heads 76 70 (blank ∷ fields) (blank ∷ (header (mode, (uid, gid)) ++ bytes)) (is.spelled ∙ spelled_file (mode, (uid, gid)) bytes) in
    omega arith

-- what a link's reader makes of a target and what follows it
abbrev link_of : List ℕ × List ℕ → Read LeafKind
link_of t = cond (eqb (length t.1) 0) (done (Link t.0)) (fail (length t.1))

link_by_target : (fields : List ℕ) → link_at fields ≡ (target_at fields >>= link_of)
unfolding link_at
link_by_target fields = refl

link_again : (fields : List ℕ) (kind : LeafKind) → IsNodeOf (76 ∷ blank ∷ fields) kind → link_at fields ≡ Ok kind
link_again fields (File bytes mode uid gid) is = absurd (no_file fields bytes mode uid gid is)
link_again fields (Link target) is =
    let parts = link_parts fields target is in
    link_by_target fields ∙ ap (λ r. r >>= link_of) (ap target_at parts.1 ∙ target_is_exact.again target [] parts.0)

link_sound : (fields : List ℕ) (kind : LeafKind) → link_at fields ≡ Ok kind → IsNodeOf (76 ∷ blank ∷ fields) kind
link_sound fields kind e =
    let t = bind_ok (target_at fields) link_of kind (sym (link_by_target fields) ∙ e) in
    let read = target_is_exact.sound fields t.0.0 t.0.1 t.1 in
    elim (chosen (eqb (length t.0.1) 0) (done (Link t.0.0)) (fail (length t.0.1)) (done kind) t.2) [
      | inl is ↦
          let none : t.0.1 ≡ [] = nil_from_length t.0.1 (eqb-true _ 0 is.0) in
          subst (λ (k : LeafKind). IsNodeOf (76 ∷ blank ∷ fields) k) (ok_is (Link t.0.0) kind is.1)
          (link_node t.0.0 fields read.0 (read.1 ∙ ap (λ u. (t.0.0 ++ line_feed ∷ []) ++ u) none ∙ append-nil (t.0.0 ++ line_feed ∷ [])))
      | inr isnt ↦ absurd (let other = isnt.1 in cc)
    ]

link_stuck : (fields : List ℕ) (left : ℕ) → link_at fields ≡ Err left → StopsBehind 76 fields left
link_stuck fields left e =
    elim (bind_err (target_at fields) link_of left (sym (link_by_target fields) ∙ e)) [
      | First is ↦
          let stop = target_is_exact.stuck fields left is in
          record {
            front = stop.front;
            rest = stop.rest;
            split = stop.split;
            is_left = stop.is_left;
            begins = (Link stop.value, stop.more, link_node stop.value (stop.front ++ stop.more) stop.fits (sym stop.begins));
            ends = in_target fields left stop;
            is_none = λ kind node. let read = link_again fields kind node in cc;
          }
      | Second t is then ↦
          let read = target_is_exact.sound fields t.0 t.1 is in
          elim (chosen (eqb (length t.1) 0) (done (Link t.0)) (fail (length t.1)) (fail left) then) [
            | inl none ↦ absurd (let other = none.1 in cc)
            | inr some ↦
                record {
                  front = t.0 ++ line_feed ∷ [];
                  rest = t.1;
                  split = read.1;
                  is_left = err_is _ _ some.1;
                  begins = (Link t.0, [], link_node t.0 ((t.0 ++ line_feed ∷ []) ++ []) read.0 (append-nil (t.0 ++ line_feed ∷ [])));
                  ends = behind_target t.0 t.1 read.0;
                  is_none = λ kind node. let read = link_again fields kind node in cc;
                }
          ]
    ]
  where
    in_target : (fields : List ℕ) (left : ℕ) (stop : IsStuck (λ target. target ++ line_feed ∷ []) (λ target. link_fault target ≡ None) fields left) (b : ℕ) (bs : List ℕ) → stop.rest ≡ b ∷ bs
        → Begins (76 ∷ blank ∷ (stop.front ++ b ∷ [])) → ⊥
    in_target fields left stop b bs e (Link target, more, is) =
        let parts = link_parts ((stop.front ++ b ∷ []) ++ more) target is in
        stop.ends b bs e target more [] parts.0 (sym (append_assoc stop.front (b ∷ []) more) ∙ parts.1)
    in_target fields left stop b bs e (File bytes mode uid gid, more, is) = no_file ((stop.front ++ b ∷ []) ++ more) bytes mode uid gid is

    behind_target : (target rest : List ℕ) → link_fault target ≡ None → (b : ℕ) (bs : List ℕ) → rest ≡ b ∷ bs → Begins (76 ∷ blank ∷ ((target ++ line_feed ∷ []) ++ b ∷ [])) → ⊥
    behind_target target rest fits b bs e (Link other, more, is) =
        let parts = link_parts (((target ++ line_feed ∷ []) ++ b ∷ []) ++ more) other is in
        let here = target_is_exact.again target (b ∷ more) fits in
        let there = target_is_exact.again other [] parts.0 in
        let texts : (target ++ line_feed ∷ []) ++ b ∷ more ≡ (other ++ line_feed ∷ []) ++ [] = sym (append_assoc (target ++ line_feed ∷ []) (b ∷ []) more) ∙ parts.1 in
        let pairs = ok_is (target, b ∷ more) (other, []) (sym here ∙ ap target_at texts ∙ there) in
        let rests : b ∷ more ≡ [] = ap (λ (u : List ℕ × List ℕ). u.1) pairs in
        cc
    behind_target target rest fits b bs e (File bytes mode uid gid, more, is) = no_file (((target ++ line_feed ∷ []) ++ b ∷ []) ++ more) bytes mode uid gid is

pub link_is_exact : IsExactBehind 76 link_at
link_is_exact = record { sound = link_sound; again = link_again; stuck = link_stuck }

-- ---- the whole text

-- a text with this tag and its reader
pub record Reads (text : List ℕ) (read : Read LeafKind) : Type 0 where
  pub tagged : IsTagged text
  pub sound : (kind : LeafKind) → read ≡ Ok kind → IsNodeOf text kind
  pub again : (kind : LeafKind) → IsNodeOf text kind → read ≡ Ok kind
  pub stuck : (left : ℕ) → read ≡ Err left → IsStuckAt text (length text - left)

stuck_from : (text front rest : List ℕ) (at : ℕ) → text ≡ front ++ rest → length front ≡ at → Begins front
    → ((b : ℕ) (bs : List ℕ) → rest ≡ b ∷ bs → Begins (front ++ b ∷ []) → ⊥) → ((kind : LeafKind) → IsNodeOf text kind → ⊥) → IsStuckAt text at
stuck_from text front [] at split len begins ends is_none =
    let all = ap length split ∙ length-append front [] in
    record {
      within = omega arith;
      begins = subst Begins (sym (ap (take at) split ∙ take_at front [] at len)) begins;
      ends = λ lt. absurd (let none : length {A = ℕ} [] ≡ 0 = refl in omega arith);
      is_none = is_none;
    }
stuck_from text front (b ∷ bs) at split len begins ends is_none =
    let all = ap length split ∙ length-append front (b ∷ bs) in
    let more : take (at + 1) text ≡ front ++ b ∷ [] =
    ap (take (at + 1)) (split ∙ sym (append_assoc front (b ∷ []) bs)) ∙ take_at (front ++ b ∷ []) bs (at + 1) (length-append front (b ∷ []) ∙ ap (λ n. n + 1) len)
    in
    record {
      within = omega arith;
      begins = subst Begins (sym (ap (take at) split ∙ take_at front (b ∷ bs) at len)) begins;
      ends = λ lt on. ends b bs refl (subst Begins more on);
      is_none = is_none;
    }

-- what is left is no more than all
pub left_within : (tag : ℕ) (fields : List ℕ) (left : ℕ) → StopsBehind tag fields left → left ≤ length fields
left_within tag fields left stop = let all = ap length stop.split ∙ length-append stop.front stop.rest in let last = stop.is_left in omega arith

stuck_behind : (tag : ℕ) (fields : List ℕ) (left : ℕ) → StopsBehind tag fields left → IsStuckAt (tag ∷ blank ∷ fields) (length (tag ∷ blank ∷ fields) - left)
stuck_behind tag fields left stop =
    let all = ap length stop.split ∙ length-append stop.front stop.rest in
    let last = stop.is_left in
    let len : length (tag ∷ blank ∷ stop.front) ≡ length (tag ∷ blank ∷ fields) - left = omega arith in
    stuck_from (tag ∷ blank ∷ fields) (tag ∷ blank ∷ stop.front) stop.rest (length (tag ∷ blank ∷ fields) - left)
    (ap (λ u. tag ∷ blank ∷ u) stop.split) len stop.begins stop.ends stop.is_none

pub reads_text : (tag : ℕ) (read : List ℕ → Read LeafKind) → IsExactBehind tag read → (text fields : List ℕ) → text ≡ tag ∷ blank ∷ fields → IsTagged (tag ∷ blank ∷ fields) → Reads text (read fields)
reads_text tag read exact text fields is tagged = subst (λ (u : List ℕ). Reads u (read fields)) (sym is) (record {
  tagged = tagged;
  sound = exact.sound fields;
  again = exact.again fields;
  stuck = λ left e. stuck_behind tag fields left (exact.stuck fields left e);
})

pub gives_text : (result : Result LeafKind NodeFault) (text : List ℕ) (read : Read LeafKind) → Reads text read → GivesLeaf result text read → IfOk result (λ leaf. text ≡ node_of leaf)
gives_text (Ok leaf) text read reads gives = (reads.sound leaf gives).spelled
gives_text (Err fault) text read reads gives = tt

pub gives_again : (result : Result LeafKind NodeFault) (text : List ℕ) (read : Read LeafKind) → Reads text read → GivesLeaf result text read
    → (kind : LeafKind) → IsNodeOf text kind → IsEncoded kind → IsReadAs result kind
gives_again (Ok leaf) text read reads gives kind is encoded = ok_is leaf kind (sym gives ∙ reads.again kind is)
gives_again (Err Tag) text read reads gives kind is encoded = absurd gives
gives_again (Err (Header at)) text read reads gives kind is encoded = absurd (let again = reads.again kind is in let other = gives.1 in cc)
gives_again (Err Utf8) text read reads gives kind is encoded = absurd (gives.2 (subst IsEncoded (ok_is kind (Link gives.0) (sym (reads.again kind is) ∙ gives.1)) encoded))
gives_again (Err Memory) text read reads gives kind is encoded = refl

pub gives_fault : (result : Result LeafKind NodeFault) (text : List ℕ) (read : Read LeafKind) → Reads text read → GivesLeaf result text read → IfErr result (λ fault. IsFaultOf text fault)
gives_fault (Ok leaf) text read reads gives = tt
gives_fault (Err Tag) text read reads gives = absurd gives
gives_fault (Err (Header at)) text read reads gives = (reads.tagged, subst (IsStuckAt text) (sym gives.2) (reads.stuck gives.0 gives.1))
gives_fault (Err Utf8) text read reads gives = (gives.0, reads.sound (Link gives.0) gives.1, gives.2)
gives_fault (Err Memory) text read reads gives = tt

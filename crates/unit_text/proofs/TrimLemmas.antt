-- Where a text is trimmed, it may be cut.
use Rattle.std.proofs.Common.{◌≡◌, ℕ, ◌-◌, ◌<◌, true, List, length, reverse, refl, subst, zero, suc, arith}
use Rattle.std.specs.List.{prefix_len, suffix_len}
use Rattle.std.specs.Str.{IsUtf8, IsCharBoundary}
use Rattle.std.proofs.lemmas.Bool.Decides.{nat_tests}
use Rattle.std.proofs.lemmas.List.{get_or-reverse}
use Rattle.std.proofs.lemmas.List.Sums.{prefix_len-le-length, prefix_len_passes, suffix_len-le-length}
use Rattle.std.proofs.lemmas.Str.{IsCharBoundary-start, IsCharBoundary-end, IsCharBoundary-before_ascii, IsCharBoundary-after_ascii}
use Rattle.unit_text.specs.Statement.{is_trimmed}

trimmed_is_ascii : (byte : ℕ) → is_trimmed byte ≡ true → byte < 128
trimmed_is_ascii byte h = grind (arith, nat_tests)

pub boundary_at_start : (text : List ℕ) → IsUtf8 text → IsCharBoundary text (prefix_len is_trimmed text)
boundary_at_start text u = by (prefix_len is_trimmed text) refl
  where
    by : (n : ℕ) → prefix_len is_trimmed text ≡ n → IsCharBoundary text n
    by zero e = IsCharBoundary-start text u
    by (suc n) e =
        let within = prefix_len-le-length is_trimmed text in
        let lt : n < length text = omega arith in
        subst (IsCharBoundary text) (omega arith) (IsCharBoundary-after_ascii text n u lt (trimmed_is_ascii _ (prefix_len_passes is_trimmed text n 0 (omega arith))))

pub boundary_at_end : (text : List ℕ) → IsUtf8 text → IsCharBoundary text (length text - suffix_len is_trimmed text)
boundary_at_end text u = by (suffix_len is_trimmed text) refl
  where
    by : (n : ℕ) → suffix_len is_trimmed text ≡ n → IsCharBoundary text (length text - n)
    by zero e = subst (IsCharBoundary text) (omega arith) (IsCharBoundary-end text)
    by (suc n) e =
        let within = suffix_len-le-length is_trimmed text in
        let lt : length text - suc n < length text = omega arith in
        let read = get_or-reverse text n 0 (omega arith) in
        let same : length text - 1 - n ≡ length text - suc n = omega arith in
        let passes = prefix_len_passes is_trimmed (reverse text) n 0 (omega arith) in
        IsCharBoundary-before_ascii text _ lt (trimmed_is_ascii _ (rw (read, same) at passes))

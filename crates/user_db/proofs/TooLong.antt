-- Texts that are longer than a boot text can be.
use Rattle.std.proofs.Common.{◌≡◌, ℕ, zero, suc, ◌+◌, ◌*◌, ◌<◌, ◌≤◌, true, false, List, [], ◌∷◌, ◌++◌, length, take, drop, Some, None, Err, refl, ap, ◌∙◌, arith, ltb, lt-ltb, cond, ltb-true, ltb-false, length-append, length-drop, ne_eqb, eq-eqb}
use Rattle.std.specs.Prelude.{nat_le, option_and_then}
use Rattle.std.specs.List.{position_or_len}
use Rattle.std.proofs.lemmas.Bool.{lt-leb}
use Rattle.std.proofs.lemmas.List.{length-take-le, take-append-le, drop-append-le}
use Rattle.std.proofs.lemmas.List.Folds.{prefix_len-append}
use Rattle.std.proofs.lemmas.List.Sums.{prefix_len-le-length}
use Rattle.user_db.specs.declared.boot.Draft.{Draft}
use Rattle.user_db.specs.declared.line.TheConstants.{BOOT_TEXT_BYTES}
use Rattle.user_db.specs.Lines.{is_newline, lines}
use Rattle.user_db.specs.Grammar.{boot_line_of}
use Rattle.user_db.specs.Boot.{no_lines, with_line, with_line_at, unless_bad, boot_from, boot_of}
use Rattle.user_db.proofs.LinesCome.{lines_one, lines_more}

-- where the first line ends
abbrev end_of : List ℕ → ℕ
end_of text = position_or_len is_newline text

end-within : (text : List ℕ) → end_of text ≤ length text
end-within text = prefix_len-le-length _ text

-- what is added behind a text leaves an end that it has, and else puts the end behind it
end-kept : (prefix rest : List ℕ) → end_of prefix < length prefix → end_of (prefix ++ rest) ≡ end_of prefix
end-kept prefix rest h = prefix_len-append _ prefix rest ∙ rw (ne_eqb (end_of prefix) (length prefix) (omega arith)) refl

end-grows : (prefix rest : List ℕ) → end_of prefix ≤ end_of (prefix ++ rest)
end-grows prefix rest =
    elim (ltb (end_of prefix) (length prefix)) as (λ b. ltb (end_of prefix) (length prefix) ≡ b → end_of prefix ≤ end_of (prefix ++ rest)) [
      | true ↦ λ test. let kept = end-kept prefix rest (ltb-true (end_of prefix) (length prefix) test) in omega (arith, kept)
      | false ↦ λ test.
          let all : end_of prefix ≡ length prefix = omega (arith, end-within prefix, ltb-false (end_of prefix) (length prefix) test) in
          let passed : end_of (prefix ++ rest) ≡ length prefix + end_of rest =
          prefix_len-append _ prefix rest ∙ rw (eq-eqb (end_of prefix) (length prefix) all) refl in
          omega arith
    ] refl

-- the first line of a text with bytes, and the lines behind it
record First (text : List ℕ) : Type 0 where
  line : List ℕ
  others : List (List ℕ)
  are : lines text ≡ line ∷ others
  size : length line ≡ end_of text

first : (text : List ℕ) → 0 < length text → First text
first text some =
    let p = end_of text in
    elim (ltb p (length text)) as (λ b. ltb p (length text) ≡ b → First text) [
      | true ↦
          λ test. record {
            line = take p text;
            others = lines (drop (p + 1) text);
            are = lines_more text p (ap (λ b. cond b (Some p) None) test);
            size = length-take-le p text (end-within text);
          }
      | false ↦
          λ test. record {
            line = text;
            others = lines [];
            are = lines_one text some (ap (λ b. cond b (Some p) None) test);
            size = omega (arith, end-within text, ltb-false p (length text) test);
          }
    ] refl

-- a line that is too long is bad
long-bad : (n : ℕ) (draft : Draft) (line : List ℕ) (others : List (List ℕ)) → 4096 < length line → boot_from n draft (line ∷ others) ≡ Err n
unfolding boot_line_of
long-bad n draft line others h =
    let bad : boot_line_of line ≡ None = rw (lt-leb (length line) 4096 h) refl in
    let none : with_line_at n line draft ≡ None =
    elim (nat_le n 256) as (λ b. cond b (option_and_then (λ l. with_line l draft) (boot_line_of line)) None ≡ None)
    [ true ↦ ap (option_and_then (λ l. with_line l draft)) bad | false ↦ refl ] in
    ap (λ o. unless_bad n o (λ d. boot_from (n + 1) d others)) none

-- so is one behind the last that a text may have
many-bad : (n : ℕ) (draft : Draft) (line : List ℕ) (others : List (List ℕ)) → 256 < n → boot_from n draft (line ∷ others) ≡ Err n
many-bad n draft line others h = rw (lt-leb n 256 h) refl

-- A text of which a prefix is too long has a first bad line, and the prefix has the same one. The
-- first line of both has number n, and `left` lines more may stand.
record BadAt (n : ℕ) (draft : Draft) (prefix rest : List ℕ) : Type 0 where
  line : ℕ
  of_prefix : boot_from n draft (lines prefix) ≡ Err line
  of_whole : boot_from n draft (lines (prefix ++ rest)) ≡ Err line

bad-first : (n : ℕ) (draft : Draft) (prefix rest : List ℕ) → 0 < length prefix
    → ((text : List ℕ) (f : First text) → end_of prefix ≤ end_of text → boot_from n draft (f.line ∷ f.others) ≡ Err n) → BadAt n draft prefix rest
bad-first n draft prefix rest some bad =
    let f = first prefix some in
    let w = first (prefix ++ rest) (omega (arith, length-append prefix rest)) in
    record {
      line = n;
      of_prefix = ap (boot_from n draft) f.are ∙ bad prefix f (omega arith);
      of_whole = ap (boot_from n draft) w.are ∙ bad (prefix ++ rest) w (end-grows prefix rest);
    }

-- both go on behind a first line that is not bad
bad-next : (n : ℕ) (draft : Draft) (prefix rest : List ℕ) → end_of prefix < length prefix
    → ((d : Draft) → BadAt (n + 1) d (drop (end_of prefix + 1) prefix) rest) → BadAt n draft prefix rest
bad-next n draft prefix rest h more =
    let p = end_of prefix in
    let q = end_of (prefix ++ rest) in
    let line = take p prefix in
    let kept = end-kept prefix rest h in
    let head : lines prefix ≡ line ∷ lines (drop (p + 1) prefix) = lines_more prefix p (ap (λ b. cond b (Some p) None) (lt-ltb p (length prefix) h)) in
    let whole : lines (prefix ++ rest) ≡ line ∷ lines (drop (p + 1) prefix ++ rest) =
    lines_more (prefix ++ rest) q (ap (λ b. cond b (Some q) None) (lt-ltb q (length (prefix ++ rest)) (omega (arith, length-append prefix rest))))
    ∙ ap (λ k. take k (prefix ++ rest) ∷ lines (drop (k + 1) (prefix ++ rest))) kept
    ∙ rw (take-append-le p prefix rest (omega arith), drop-append-le (p + 1) prefix rest (omega arith)) refl in
    elim (with_line_at n line draft) as (λ o. with_line_at n line draft ≡ o → BadAt n draft prefix rest) [
      | None ↦ λ e. record {
        line = n;
        of_prefix = ap (boot_from n draft) head ∙ ap (λ o. unless_bad n o (λ d. boot_from (n + 1) d (lines (drop (p + 1) prefix)))) e;
        of_whole = ap (boot_from n draft) whole ∙ ap (λ o. unless_bad n o (λ d. boot_from (n + 1) d (lines (drop (p + 1) prefix ++ rest)))) e;
      }
      | Some d ↦ λ e. let b = more d in record {
        line = b.line;
        of_prefix = ap (boot_from n draft) head ∙ ap (λ o. unless_bad n o (λ d. boot_from (n + 1) d (lines (drop (p + 1) prefix)))) e ∙ b.of_prefix;
        of_whole = ap (boot_from n draft) whole ∙ ap (λ o. unless_bad n o (λ d. boot_from (n + 1) d (lines (drop (p + 1) prefix ++ rest)))) e ∙ b.of_whole;
      }
    ] refl

bad-at : (left n : ℕ) (draft : Draft) (prefix rest : List ℕ) → n + left ≡ 257 → left * 4097 < length prefix → BadAt n draft prefix rest
bad-at zero n draft prefix rest at long = bad-first n draft prefix rest (omega arith) (λ text f h. many-bad n draft f.line f.others (omega arith))
bad-at (suc left) n draft prefix rest at long =
    elim (ltb 4096 (end_of prefix)) as (λ b. ltb 4096 (end_of prefix) ≡ b → BadAt n draft prefix rest) [
      | true ↦ λ test.
          let over : 4096 < end_of prefix = ltb-true 4096 (end_of prefix) test in
          bad-first n draft prefix rest (omega (arith, end-within prefix)) (λ text f h. long-bad n draft f.line f.others (omega (arith, f.size)))
      | false ↦ λ test.
          let within : end_of prefix ≤ 4096 = ltb-false 4096 (end_of prefix) test in
          bad-next n draft prefix rest (omega arith)
          (λ d. bad-at left (n + 1) d (drop (end_of prefix + 1) prefix) rest (omega arith) (omega (arith, length-drop (end_of prefix + 1) prefix)))
    ] refl

-- A text of which a prefix has more bytes than a boot text has at most is bad, and its first bad line
-- is that of the prefix.
pub record BadByPrefix (prefix rest : List ℕ) : Type 0 where
  pub line : ℕ
  pub of_prefix : boot_of prefix ≡ Err line
  pub of_whole : boot_of (prefix ++ rest) ≡ Err line

pub bad_by_prefix : (prefix rest : List ℕ) → BOOT_TEXT_BYTES < length prefix → BadByPrefix prefix rest
unfolding boot_of
bad_by_prefix prefix rest long =
    let b = bad-at 256 1 no_lines prefix rest refl long in
    record { line = b.line; of_prefix = b.of_prefix; of_whole = b.of_whole }

-- What the lines of a boot text say by the grammar is what is read from left to right.
use Rattle.std.proofs.Common.{◌≡◌, ◌⊎◌, inl, inr, ℕ, zero, suc, ◌+◌, ◌-◌, ◌<◌, ◌≤◌, Bool, true, false, cond, List, [], ◌∷◌, length, take, Option, Some, None, refl, sym, ap, ◌∙◌, subst, arith, rules, leb}
use Rattle.std.specs.Prelude.{Result, Ok, Err, is_none, nat_le, option_and_then, codes}
use Rattle.std.specs.List.{AllByRecursion}
use Rattle.std.specs.Str.{bytes_eq}
use Rattle.std.proofs.lemmas.Bool.{leb-true, le-leb}
use Rattle.std.proofs.lemmas.Slice.Eq.{bytes_eq-Decides}
use Rattle.user_db.specs.declared.boot.Boot.{Boot}
use Rattle.user_db.specs.declared.boot.Draft.{Draft}
use Rattle.user_db.specs.declared.line.BootLine.{BootLine}
use Rattle.user_db.specs.declared.line.BootLine.TheVariants.{Recheck}
use Rattle.user_db.specs.Lines.{lines}
use Rattle.user_db.specs.Grammar.{recheck_of, boot_line_of}
use Rattle.user_db.specs.Boot.{no_lines, with_line, with_line_at, boot_of_draft, unless_bad, boot_from, boot_of}
use Rattle.user_db.specs.Texts.{spelling, Spells, SpellAll, says_again, AreApart, recheck_by, boot_by, SaysBoot, IsFirstBad}

-- what a choice gives where that is something
chosen : (b : Bool) (x y z : Option BootLine) → cond b x y ≡ z → ((b ≡ true) × (x ≡ z)) ⊎ ((b ≡ false) × (y ≡ z))
chosen true x y z e = inl (refl, e)
chosen false x y z e = inr (refl, e)

-- a line is read as what it spells
recheck-spells : (text : List ℕ) (line : BootLine) → recheck_of text ≡ Some line → text ≡ spelling line
recheck-spells text line e = elim (chosen (bytes_eq text (codes "recheck on")) _ _ (Some line) e) [
  | inl on ↦ let same : Recheck true ≡ line = cc in (bytes_eq-Decides text (codes "recheck on")).0 on.0 ∙ ap spelling same
  | inr other ↦ elim (chosen (bytes_eq text (codes "recheck off")) _ _ (Some line) other.1) [
    | inl off ↦ let same : Recheck false ≡ line = cc in (bytes_eq-Decides text (codes "recheck off")).0 off.0 ∙ ap spelling same
    | inr none ↦ absurd cc
  ]
]

spelling-read : (line : BootLine) → recheck_of (spelling line) ≡ Some line
spelling-read (Recheck true) = refl
spelling-read (Recheck false) = refl

line-spells : (text : List ℕ) (line : BootLine) → boot_line_of text ≡ Some line → Spells text line
unfolding boot_line_of
line-spells text line e = elim (chosen (nat_le (length text) 4096) (recheck_of text) None (Some line) e) [
  | inl short ↦ record { short = leb-true (length text) 4096 short.0; spelled = recheck-spells text line short.1 }
  | inr long ↦ absurd cc
]

spells-line : (text : List ℕ) (line : BootLine) → Spells text line → boot_line_of text ≡ Some line
unfolding boot_line_of
spells-line text line s =
    rw (le-leb (length text) 4096 s.short) (ap recheck_of s.spelled ∙ spelling-read line)

-- a line says what no line so far has said
abbrev IsNew : Draft → BootLine → Type 0
IsNew draft (Recheck on) = is_none draft.recheck ≡ true

abbrev draft_after : Draft → BootLine → Draft
draft_after draft (Recheck on) = record draft { recheck = Some on }

abbrev draft_by : Draft → List BootLine → Draft
draft_by draft [] = draft
draft_by draft (line ∷ more) = draft_by (draft_after draft line) more

taken-new : (line : BootLine) (draft d : Draft) → with_line line draft ≡ Some d → IsNew draft line × (d ≡ draft_after draft line)
taken-new (Recheck on) draft d e =
    elim (is_none draft.recheck) as
    (λ b. cond b (Some (record draft { recheck = Some on })) None ≡ Some d → (b ≡ true) × (d ≡ record draft { recheck = Some on })) [
      | true ↦ λ e. (refl, cc)
      | false ↦ λ e. absurd cc
    ] e

new-taken : (line : BootLine) (draft : Draft) → IsNew draft line → with_line line draft ≡ Some (draft_after draft line)
new-taken (Recheck on) draft new = ap (λ b. cond b (Some (record draft { recheck = Some on })) None) new

-- the line of number n was taken
record Took (n : ℕ) (text : List ℕ) (draft d : Draft) : Type 0 where
  line : BootLine
  few : n ≤ 256
  spells : Spells text line
  new : IsNew draft line
  after : d ≡ draft_after draft line

took-read : (o : Option BootLine) (n : ℕ) (text : List ℕ) (draft d : Draft) → boot_line_of text ≡ o → n ≤ 256
    → option_and_then (λ l. with_line l draft) o ≡ Some d → Took n text draft d
took-read None n text draft d is few e = absurd cc
took-read (Some line) n text draft d is few e =
    let taken = taken-new line draft d e in
    record { line = line; few = few; spells = line-spells text line is; new = taken.0; after = taken.1 }

took : (n : ℕ) (text : List ℕ) (draft d : Draft) → with_line_at n text draft ≡ Some d → Took n text draft d
took n text draft d e =
    elim (leb n 256) as (λ b. leb n 256 ≡ b → cond b (option_and_then (λ l. with_line l draft) (boot_line_of text)) None ≡ Some d → Took n text draft d) [
      | true ↦ λ few e. took-read (boot_line_of text) n text draft d refl (leb-true n 256 few) e
      | false ↦ λ many e. absurd cc
    ] refl e

takes : (n : ℕ) (text : List ℕ) (draft : Draft) (line : BootLine) → n ≤ 256 → Spells text line → IsNew draft line
    → with_line_at n text draft ≡ Some (draft_after draft line)
takes n text draft line few spells new =
    rw (le-leb n 256 few) (ap (option_and_then (λ l. with_line l draft)) (spells-line text line spells) ∙ new-taken line draft new)

-- what the lines from number n on say, behind those that a draft has
record SaysFrom (n : ℕ) (draft : Draft) (texts : List (List ℕ)) (boot : Boot) : Type 0 where
  lines : List BootLine
  spelled : SpellAll texts lines
  few : n + length texts ≤ 257
  apart : AreApart lines
  new : AllByRecursion (IsNew draft) lines
  says : boot ≡ boot_of_draft (draft_by draft lines)

-- what is new behind a line is new before it, and is not said by it
new-before : (draft : Draft) (line : BootLine) (lines : List BootLine) → AllByRecursion (IsNew (draft_after draft line)) lines
    → AllByRecursion (IsNew draft) lines × AllByRecursion (λ other. says_again line other ≡ false) lines
new-before draft line [] all = (tt, tt)
new-before draft (Recheck on) (Recheck off ∷ more) all = absurd cc

new-behind : (draft : Draft) (line : BootLine) (lines : List BootLine) → AllByRecursion (IsNew draft) lines
    → AllByRecursion (λ other. says_again line other ≡ false) lines → AllByRecursion (IsNew (draft_after draft line)) lines
new-behind draft line [] all apart = tt
new-behind draft (Recheck on) (Recheck off ∷ more) all apart = absurd cc

read-says : (texts : List (List ℕ)) (n : ℕ) (draft : Draft) (boot : Boot) → n ≤ 257 → boot_from n draft texts ≡ Ok boot → SaysFrom n draft texts boot
read-says [] n draft boot few e = record { lines = []; spelled = tt; few = omega arith; apart = tt; new = tt; says = cc }
read-says (text ∷ more) n draft boot few e =
    elim (with_line_at n text draft) as
    (λ o. with_line_at n text draft ≡ o → unless_bad n o (λ d. boot_from (n + 1) d more) ≡ Ok boot → SaysFrom n draft (text ∷ more) boot) [
      | None ↦ λ is e. absurd cc
      | Some d ↦ λ is e.
          let t = took n text draft d is in
          let s = read-says more (n + 1) d boot (let few : n ≤ 256 = t.few in omega arith) e in
          let new : AllByRecursion (IsNew (draft_after draft t.line)) s.lines = subst (λ (x : Draft). AllByRecursion (IsNew x) s.lines) t.after s.new in
          let parts = new-before draft t.line s.lines new in
          let some : (n + 1) + length more ≤ 257 = s.few in
          record {
            lines = t.line ∷ s.lines;
            spelled = (t.spells, s.spelled);
            few = omega arith;
            apart = (parts.1, s.apart);
            new = (t.new, parts.0);
            says = s.says ∙ ap (λ (x : Draft). boot_of_draft (draft_by x s.lines)) t.after;
          }
    ] refl e

says-read : (texts : List (List ℕ)) (lines : List BootLine) (n : ℕ) (draft : Draft) → SpellAll texts lines → n + length texts ≤ 257 → AreApart lines
    → AllByRecursion (IsNew draft) lines → boot_from n draft texts ≡ Ok (boot_of_draft (draft_by draft lines))
says-read [] [] n draft spelled few apart new = refl
says-read [] (line ∷ lines) n draft spelled few apart new = absurd spelled
says-read (text ∷ more) [] n draft spelled few apart new = absurd spelled
says-read (text ∷ more) (line ∷ lines) n draft spelled few apart new =
    let first : with_line_at n text draft ≡ Some (draft_after draft line) = takes n text draft line (omega arith) spelled.0 new.0 in
    ap (λ o. unless_bad n o (λ d. boot_from (n + 1) d more)) first
    ∙ says-read more lines (n + 1) (draft_after draft line) spelled.1 (omega arith) apart.1 (new-behind draft line lines new.1 apart.0)

-- of no lines so far the draft is the boot that the lines say
boot-by : (lines : List BootLine) → AreApart lines → boot_of_draft (draft_by no_lines lines) ≡ boot_by lines
boot-by [] apart = refl
boot-by (Recheck on ∷ []) apart = refl
boot-by (Recheck on ∷ Recheck off ∷ more) apart = absurd (let again : true ≡ false = apart.0.0 in cc)

all-new : (lines : List BootLine) → AllByRecursion (IsNew no_lines) lines
all-new [] = tt
all-new (Recheck on ∷ more) = (refl, all-new more)

read_says_boot : (texts : List (List ℕ)) (boot : Boot) → boot_from 1 no_lines texts ≡ Ok boot → SaysBoot texts boot
read_says_boot texts boot e =
    let s = read-says texts 1 no_lines boot (omega arith) e in
    let some : 1 + length texts ≤ 257 = s.few in
    record { lines = s.lines; spelled = s.spelled; few = omega arith; apart = s.apart; says = s.says ∙ boot-by s.lines s.apart }

says_boot_read : (texts : List (List ℕ)) (boot : Boot) → SaysBoot texts boot → boot_from 1 no_lines texts ≡ Ok boot
says_boot_read texts boot s =
    let some : length texts ≤ 256 = s.few in
    says-read texts s.lines 1 no_lines s.spelled (omega arith) s.apart (all-new s.lines) ∙ ap Ok (boot-by s.lines s.apart ∙ sym s.says)

-- lines that are read up to a bad one of number m, where the first has number n
record StopsAt (n m : ℕ) (draft : Draft) (texts : List (List ℕ)) : Type 0 where
  after : n ≤ m
  within : m < n + length texts
  bad : boot_from n draft (take (m + 1 - n) texts) ≡ Err m
  good : (k : ℕ) → k + n ≤ m → (boot : Boot) × (boot_from n draft (take k texts) ≡ Ok boot)

-- one line more in front
stops-next : (n m : ℕ) (draft d : Draft) (text : List ℕ) (more : List (List ℕ)) → with_line_at n text draft ≡ Some d → StopsAt (n + 1) m d more
    → StopsAt n m draft (text ∷ more)
stops-next n m draft d text more is s =
    let later : n + 1 ≤ m = s.after in
    let inside : m < (n + 1) + length more = s.within in
    let front : (rest : List (List ℕ)) → boot_from n draft (text ∷ rest) ≡ boot_from (n + 1) d rest =
    λ rest. ap (λ o. unless_bad n o (λ d. boot_from (n + 1) d rest)) is in
    record {
      after = omega arith;
      within = omega arith;
      bad =
          let count : m + 1 - n ≡ suc (m + 1 - (n + 1)) = omega arith in
          ap (λ k. boot_from n draft (take k (text ∷ more))) count ∙ front (take (m + 1 - (n + 1)) more) ∙ s.bad;
      good = λ k. elim k as (λ k. k + n ≤ m → (boot : Boot) × (boot_from n draft (take k (text ∷ more)) ≡ Ok boot)) [
        | zero ↦ λ h. (boot_of_draft draft, refl)
        | suc j ↦ λ h. let g = s.good j (omega arith) in (g.0, front (take j more) ∙ g.1)
      ];
    }

stops : (texts : List (List ℕ)) (n m : ℕ) (draft : Draft) → boot_from n draft texts ≡ Err m → StopsAt n m draft texts
stops [] n m draft e = absurd cc
stops (text ∷ more) n m draft e =
    elim (with_line_at n text draft) as
    (λ o. with_line_at n text draft ≡ o → unless_bad n o (λ d. boot_from (n + 1) d more) ≡ Err m → StopsAt n m draft (text ∷ more)) [
      | None ↦ λ is e.
          let here : n ≡ m = cc in
          record {
            after = omega arith;
            within = omega arith;
            bad =
                let count : m + 1 - n ≡ 1 = omega arith in
                ap (λ k. boot_from n draft (take k (text ∷ more))) count ∙ ap (λ o. unless_bad n o (λ d. boot_from (n + 1) d [])) is ∙ ap Err here;
            good = λ k h. let none : k ≡ 0 = omega arith in (boot_of_draft draft, ap (λ j. boot_from n draft (take j (text ∷ more))) none);
          }
      | Some d ↦ λ is e. stops-next n m draft d text more is (stops more (n + 1) m d e)
    ] refl e

-- the first lines of good ones are good
prefix-good : (texts : List (List ℕ)) (n k : ℕ) (draft : Draft) (boot : Boot) → boot_from n draft texts ≡ Ok boot
    → (less : Boot) × (boot_from n draft (take k texts) ≡ Ok less)
prefix-good texts n zero draft boot e = (boot_of_draft draft, refl)
prefix-good [] n (suc k) draft boot e = (boot_of_draft draft, refl)
prefix-good (text ∷ more) n (suc k) draft boot e =
    elim (with_line_at n text draft) as
    (λ o. with_line_at n text draft ≡ o → unless_bad n o (λ d. boot_from (n + 1) d more) ≡ Ok boot
    → (less : Boot) × (boot_from n draft (text ∷ take k more) ≡ Ok less)) [
      | None ↦ λ is e. absurd cc
      | Some d ↦ λ is e.
          let p = prefix-good more (n + 1) k d boot e in
          (p.0, ap (λ o. unless_bad n o (λ d. boot_from (n + 1) d (take k more))) is ∙ p.1)
    ] refl e

bad_is_first : (texts : List (List ℕ)) (n : ℕ) → boot_from 1 no_lines texts ≡ Err n → IsFirstBad texts n
bad_is_first texts n e =
    let s = stops texts 1 n no_lines e in
    let later : 1 ≤ n = s.after in
    let inside : n < 1 + length texts = s.within in
    let here : boot_from 1 no_lines (take n texts) ≡ Err n =
    let count : n + 1 - 1 ≡ n = omega arith in ap (λ k. boot_from 1 no_lines (take k texts)) (sym count) ∙ s.bad in
    record {
      some = later;
      within = omega arith;
      bad = λ boot says. let good : boot_from 1 no_lines (take n texts) ≡ Ok boot = says_boot_read (take n texts) boot says in cc;
      good_before = λ k h. let g = s.good k (omega arith) in (g.0, read_says_boot (take k texts) g.0 g.1);
    }

-- of two numbers one is less, or they are the same
data Order (m n : ℕ) : Type 0 where
  less : m < n → Order m n
  same : m ≡ n → Order m n
  more : n < m → Order m n

order : (m n : ℕ) → Order m n
order zero zero = same refl
order zero (suc n) = less (omega arith)
order (suc m) zero = more (omega arith)
order (suc m) (suc n) = elim (order m n) [
  | less h ↦ less (omega arith)
  | same e ↦ same (ap (λ k. suc k) e)
  | more h ↦ more (omega arith)
]

first_is_bad : (texts : List (List ℕ)) (n : ℕ) → IsFirstBad texts n → boot_from 1 no_lines texts ≡ Err n
first_is_bad texts n f =
    elim (boot_from 1 no_lines texts) as (λ r. boot_from 1 no_lines texts ≡ r → r ≡ Err n) [
      | Ok boot ↦ λ e. let p = prefix-good texts 1 n no_lines boot e in absurd (f.bad p.0 (read_says_boot (take n texts) p.0 p.1))
      | Err m ↦ λ e.
          let b = bad_is_first texts m e in
          elim (order m n) [
            | less h ↦ let g = f.good_before m h in absurd (b.bad g.0 g.1)
            | same s ↦ ap Err s
            | more h ↦ let g = b.good_before n h in absurd (f.bad g.0 g.1)
          ]
    ] refl

pub boot_is_said : (text : List ℕ) (boot : Boot) → boot_of text ≡ Ok boot → SaysBoot (lines text) boot
unfolding boot_of
boot_is_said text boot e = read_says_boot (lines text) boot e

pub said_is_boot : (text : List ℕ) (boot : Boot) → SaysBoot (lines text) boot → boot_of text ≡ Ok boot
unfolding boot_of
said_is_boot text boot s = says_boot_read (lines text) boot s

pub bad_line_is_first : (text : List ℕ) (n : ℕ) → boot_of text ≡ Err n → IsFirstBad (lines text) n
unfolding boot_of
bad_line_is_first text n e = bad_is_first (lines text) n e

pub first_bad_line_is_told : (text : List ℕ) (n : ℕ) → IsFirstBad (lines text) n → boot_of text ≡ Err n
unfolding boot_of
first_bad_line_is_told text n f = first_is_bad (lines text) n f

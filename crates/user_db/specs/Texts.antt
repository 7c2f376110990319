-- Boot texts as a grammar: what the lines of a text say, and which texts say a boot. Its form is this project's own.
use Rattle.std.specs.Prelude.{◌≡◌, ℕ, ◌+◌, ◌<◌, ◌≤◌, Bool, true, false, List, [], ◌∷◌, length, take, replicate, codes}
use Rattle.std.specs.List.{AllByRecursion}
use Rattle.sys_types.specs.declared.limits.TheConstants.{LINES}
use Rattle.user_db.specs.declared.boot.Boot.{Boot}
use Rattle.user_db.specs.declared.line.TheConstants.{BOOT_LINES, BOOT_LINE_BYTES}
use Rattle.user_db.specs.declared.line.BootLine.{BootLine}
use Rattle.user_db.specs.declared.line.BootLine.TheVariants.{Recheck}

-- how a line is spelled
abbrev pub spelling : BootLine → List ℕ
spelling (Recheck true) = codes "recheck on"
spelling (Recheck false) = codes "recheck off"

-- the bytes, of at most 4,096, spell the line
pub record Spells (text : List ℕ) (line : BootLine) : Type 0 where
  pub short : length text ≤ BOOT_LINE_BYTES
  pub spelled : text ≡ spelling line

-- these bytes spell these lines, one after the other
abbrev pub SpellAll : List (List ℕ) → List BootLine → Type 0
SpellAll [] [] = Unit {0}
SpellAll [] (line ∷ lines) = ⊥
SpellAll (text ∷ texts) [] = ⊥
SpellAll (text ∷ texts) (line ∷ lines) = Spells text line × SpellAll texts lines

-- two lines speak of the same thing
abbrev pub says_again : BootLine → BootLine → Bool
says_again (Recheck on) (Recheck off) = true

-- no line speaks of what a line before it speaks of
abbrev pub AreApart : List BootLine → Type 0
AreApart [] = Unit {0}
AreApart (line ∷ lines) = AllByRecursion (λ other. says_again line other ≡ false) lines × AreApart lines

-- whether labels are checked again: as a line says, and else not
abbrev pub recheck_by : List BootLine → Bool
recheck_by [] = false
recheck_by (Recheck on ∷ lines) = on

-- the boot that lines say; what none of them speaks of is off
abbrev pub boot_by : List BootLine → Boot
boot_by lines = record { recheck = recheck_by lines; users = []; on = replicate LINES false }

-- these texts, of which there are at most 256, say the boot: they spell lines of which no two speak of the same thing
pub record SaysBoot (texts : List (List ℕ)) (boot : Boot) : Type 0 where
  pub lines : List BootLine
  pub spelled : SpellAll texts lines
  pub few : length texts ≤ BOOT_LINES
  pub apart : AreApart lines
  pub says : boot ≡ boot_by lines

-- the first bad text is the one of number n, counted from 1: up to it they say no boot, and before it they always say one
pub record IsFirstBad (texts : List (List ℕ)) (n : ℕ) : Type 0 where
  pub some : 1 ≤ n
  pub within : n ≤ length texts
  pub bad : (boot : Boot) → SaysBoot (take n texts) boot → ⊥
  pub good_before : (k : ℕ) → k < n → (boot : Boot) × SaysBoot (take k texts) boot

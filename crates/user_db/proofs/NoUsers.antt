-- No boot text names a user yet.
use Rattle.std.proofs.Common.{◌≡◌, ℕ, ◌+◌, Bool, true, false, cond, List, [], ◌∷◌, Option, Some, None, refl, sym, ap, ◌∙◌}
use Rattle.std.specs.Prelude.{Result, Ok, Err, is_none, nat_le, option_and_then}
use Rattle.user_db.specs.declared.boot.Boot.{Boot}
use Rattle.user_db.specs.declared.boot.Draft.{Draft}
use Rattle.user_db.specs.declared.line.BootLine.{BootLine}
use Rattle.user_db.specs.declared.line.BootLine.TheVariants.{Recheck}
use Rattle.user_db.specs.Lines.{lines}
use Rattle.user_db.specs.Grammar.{boot_line_of}
use Rattle.user_db.specs.Boot.{no_lines, with_line, with_line_at, boot_of_draft, unless_bad, boot_from, boot_of, IsBoot}

line_users : (line : BootLine) (draft d : Draft) → with_line line draft ≡ Some d → d.users ≡ draft.users
line_users (Recheck on) draft d e =
    elim (is_none draft.recheck) as (λ b. cond b (Some (record draft { recheck = Some on })) None ≡ Some d → d.users ≡ draft.users) [
      | true ↦ λ e. let same : record draft { recheck = Some on } ≡ d = cc in ap (λ (x : Draft). x.users) (sym same)
      | false ↦ λ e. absurd cc
    ] e

read_users : (o : Option BootLine) (draft d : Draft) → option_and_then (λ l. with_line l draft) o ≡ Some d → d.users ≡ draft.users
read_users None draft d e = absurd cc
read_users (Some line) draft d e = line_users line draft d e

line_at_users : (n : ℕ) (line : List ℕ) (draft d : Draft) → with_line_at n line draft ≡ Some d → d.users ≡ draft.users
line_at_users n line draft d e =
    elim (nat_le n 256) as (λ b. cond b (option_and_then (λ l. with_line l draft) (boot_line_of line)) None ≡ Some d → d.users ≡ draft.users) [
      | true ↦ λ e. read_users (boot_line_of line) draft d e
      | false ↦ λ e. absurd cc
    ] e

from_users : (ls : List (List ℕ)) (n : ℕ) (draft : Draft) (boot : Boot) → boot_from n draft ls ≡ Ok boot → boot.users ≡ draft.users
from_users [] n draft boot e = let same : boot_of_draft draft ≡ boot = cc in ap (λ (x : Boot). x.users) (sym same)
from_users (line ∷ more) n draft boot e =
    elim (with_line_at n line draft) as
    (λ o. with_line_at n line draft ≡ o → unless_bad n o (λ d. boot_from (n + 1) d more) ≡ Ok boot → boot.users ≡ draft.users) [
      | None ↦ λ is e. absurd cc
      | Some d ↦ λ is e. from_users more (n + 1) d boot e ∙ line_at_users n line draft d is
    ] refl e

pub no_users : (boot : Boot) → IsBoot boot → boot.users ≡ []
unfolding boot_of
no_users boot is = from_users (lines is.text) 1 no_lines boot is.says

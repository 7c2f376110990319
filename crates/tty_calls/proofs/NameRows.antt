-- The row of fdevname(3), over the tables of a kernel.
use Rattle.std.proofs.Common.{◌≡◌, ℕ, Bool, true, false, List, [], ◌∷◌, Option, Some, None, option_map, refl, sym, ap, subst, ◌∙◌}
use Rattle.std.specs.Prelude.{is_none}
use Rattle.sys_types.specs.declared.rules.Rule.TheVariants as rule
use Rattle.call_words.specs.declared.event.Decision.TheVariants.{Answer}
use Rattle.call_words.specs.declared.event.Reply.TheVariants.{Denied, Text}
use Rattle.fd_table.specs.declared.open.Open.{Open}
use Rattle.fd_table.specs.Shared as shared
use Rattle.tty_dev.specs.Table.{counts_of}
use Rattle.system_model.specs.State.{OpenFile}
use Rattle.system_model.specs.Looks.{holds_of}
use Rattle.system_model.specs.Rows.{Does, Check, deny, first}
use Rattle.system_model.specs.Tables.{Tables, generations, is_dead_target, seen_target, seen_open, view_of}
use Rattle.system_model.specs.TtyCalls.{target_name, name_of, fdname_row}
use Rattle.system_model.proofs.FileLooks.{file_at_seen, opened_seen}
use Rattle.system_model.proofs.RowLemmas.{refuses, goes_on}

abbrev rules_of : Option OpenFile → Option Check
rules_of o = first (deny (is_none o) rule.BadFd ∷ deny (holds_of (λ f. f.dead) o) rule.Dead ∷ [])

abbrev rules_by : Bool → Option Check
rules_by dead = first (deny dead rule.Dead ∷ [])

pub name_not_open : (t : Tables) (slot fd : ℕ) → shared.file_at t.descriptors slot fd ≡ None
    → Does (view_of t) (view_of t) (Answer (Denied rule.BadFd)) (fdname_row (view_of t) slot fd)
name_not_open t slot fd is =
    refuses (view_of t) (fdname_row (view_of t) slot fd) rule.BadFd
    (ap rules_of (file_at_seen t slot fd ∙ ap (option_map (seen_open t.nodes (generations (counts_of t.lines)))) is))

pub name_dead : (t : Tables) (slot fd : ℕ) (f : Open) → shared.file_at t.descriptors slot fd ≡ Some f
    → is_dead_target (generations (counts_of t.lines)) f.target ≡ true → Does (view_of t) (view_of t) (Answer (Denied rule.Dead)) (fdname_row (view_of t) slot fd)
name_dead t slot fd f is dies =
    refuses (view_of t) (fdname_row (view_of t) slot fd) rule.Dead (ap rules_of (opened_seen t slot fd f is) ∙ ap rules_by dies)

pub name_answered : (t : Tables) (slot fd : ℕ) (f : Open) (word : List ℕ) → shared.file_at t.descriptors slot fd ≡ Some f
    → is_dead_target (generations (counts_of t.lines)) f.target ≡ false → word ≡ target_name (seen_target t.nodes f.target)
    → Does (view_of t) (view_of t) (Answer (Text word)) (fdname_row (view_of t) slot fd)
name_answered t slot fd f word is lives names =
    subst (λ text. Does (view_of t) (view_of t) (Answer (Text text)) (fdname_row (view_of t) slot fd)) (ap name_of (opened_seen t slot fd f is) ∙ sym names)
    (goes_on (view_of t) (view_of t) (fdname_row (view_of t) slot fd) (ap rules_of (opened_seen t slot fd f is) ∙ ap rules_by lives) refl)

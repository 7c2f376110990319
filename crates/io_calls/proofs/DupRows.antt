-- The rows of dup(2) and dup2(2), over the tables of a kernel.
use Rattle.std.proofs.Common.{◌≡◌, ℕ, Bool, true, false, Result, Ok, Err, refl, ◌∙◌}
use Rattle.std.specs.Prelude.{◌==◌, is_none, if◌then◌else◌}
use Rattle.sys_types.specs.declared.rules.Rule.{Rule}
use Rattle.sys_types.specs.declared.rules.Rule.TheVariants.{BadFd, FdRoom}
use Rattle.call_words.specs.declared.event.Decision.{Decision}
use Rattle.call_words.specs.declared.event.Decision.TheVariants.{Answer}
use Rattle.call_words.specs.declared.event.Reply.TheVariants.{Num, Denied}
use Rattle.fd_table.specs.declared.open.Open.{Open}
use Rattle.fd_table.specs.Shared.{Shared, free_numbers, lowest_number, copy}
use Rattle.fd_table.specs.Shared as shared
use Rattle.fd_table.specs.Calls as calls
use Rattle.system_model.specs.Rows.{Does}
use Rattle.system_model.specs.OpenCalls.{dup_row}
use Rattle.system_model.specs.FileEffects.{change_files}
use Rattle.system_model.specs.Tables.{Tables, view_of}
use Rattle.system_model.proofs.FileLooks.{closed_seen}
use Rattle.system_model.proofs.RowLemmas.{refuses, goes_on}

abbrev pub answer_by : Result ℕ Rule → Decision
answer_by (Ok n) = Answer (Num n)
answer_by (Err rule) = Answer (Denied rule)

abbrev Answered : Type 0
Answered = Shared Open × Result ℕ Rule

dup-by : (t : Tables) (slot fd : ℕ) (shut full : Bool) → is_none (shared.file_at t.descriptors slot fd) ≡ shut → (free_numbers t.descriptors.table slot == 0) ≡ full
    → (p : Answered) → p ≡ (if shut then (t.descriptors, Err BadFd) else (if full then (t.descriptors, Err FdRoom)
    else (copy t.descriptors slot fd (lowest_number t.descriptors.table slot), Ok (lowest_number t.descriptors.table slot))))
    → Does (view_of t) (view_of (record t { descriptors = p.0 })) (answer_by p.1) (dup_row (view_of t) slot fd)
unfolding view_of change_files
dup-by t slot fd true full shut is_full p is =
    rw is (refuses (view_of t) (dup_row (view_of t) slot fd) BadFd (rw (closed_seen t slot fd ∙ shut) refl))
dup-by t slot fd false true here is_full p is =
    rw is (refuses (view_of t) (dup_row (view_of t) slot fd) FdRoom (rw (closed_seen t slot fd ∙ here, is_full) refl))
dup-by t slot fd false false here is_full p is =
    rw is (goes_on (view_of t) _ (dup_row (view_of t) slot fd) (rw (closed_seen t slot fd ∙ here, is_full) refl) refl)

pub dup_does : (t : Tables) (slot fd : ℕ) (d : Shared Open) (answer : Result ℕ Rule) → (d, answer) ≡ calls.dup t.descriptors slot fd
    → Does (view_of t) (view_of (record t { descriptors = d })) (answer_by answer) (dup_row (view_of t) slot fd)
dup_does t slot fd d answer is =
    dup-by t slot fd (is_none (shared.file_at t.descriptors slot fd)) (free_numbers t.descriptors.table slot == 0) refl refl (d, answer) is

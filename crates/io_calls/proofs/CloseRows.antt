-- The rows of close(2), dup(2) and dup2(2), over the tables of a kernel.
use Rattle.std.proofs.Common.{◌≡◌, ℕ, Bool, true, false, not, Option, Some, None, refl, ap, ◌∙◌}
use Rattle.std.specs.Prelude.{is_some, is_none}
use Rattle.sys_types.specs.declared.rules.Rule.TheVariants.{BadFd}
use Rattle.call_words.specs.declared.event.Decision.TheVariants.{Answer}
use Rattle.call_words.specs.declared.event.Reply.TheVariants.{Num, Denied}
use Rattle.fd_table.specs.Shared as shared
use Rattle.system_model.specs.State.{View}
use Rattle.system_model.specs.FileEffects.{close_fd}
use Rattle.system_model.specs.Effects.{on_files, change}
use Rattle.system_model.specs.Looks.{file_at}
use Rattle.system_model.specs.Rows.{Does}
use Rattle.system_model.specs.OpenCalls.{close_row}
use Rattle.system_model.specs.Tables.{Tables, view_of}
use Rattle.system_model.proofs.FileLooks.{closed_seen}
use Rattle.system_model.proofs.RowLemmas.{refuses, goes_on}

none-not : {A : Type 0} (o : Option A) (b : Bool) → is_some o ≡ b → is_none o ≡ not b
none-not None b is = ap not is
none-not (Some x) b is = ap not is

-- a number that is not open
pub shut_seen : (t : Tables) (slot fd : ℕ) (b : Bool) → is_some (shared.file_at t.descriptors slot fd) ≡ b → is_none (file_at (view_of t) slot fd) ≡ not b
shut_seen t slot fd b is = closed_seen t slot fd ∙ none-not (shared.file_at t.descriptors slot fd) b is

pub close_refused : (t : Tables) (slot fd : ℕ) → is_some (shared.file_at t.descriptors slot fd) ≡ false
    → Does (view_of t) (view_of t) (Answer (Denied BadFd)) (close_row (view_of t) slot fd)
close_refused t slot fd is = refuses (view_of t) (close_row (view_of t) slot fd) BadFd (rw (shut_seen t slot fd false is) refl)

pub close_answered : (t : Tables) (new : View) (slot fd : ℕ) → is_some (shared.file_at t.descriptors slot fd) ≡ true
    → new ≡ change (view_of t) (on_files (close_fd slot fd)) → Does (view_of t) new (Answer (Num 0)) (close_row (view_of t) slot fd)
close_answered t new slot fd is does = goes_on (view_of t) new (close_row (view_of t) slot fd) (rw (shut_seen t slot fd true is) refl) does

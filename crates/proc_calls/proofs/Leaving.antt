-- The line of a session whose leader ends.
use Rattle.std.proofs.Common.{◌≡◌, ℕ, Bool, true, false, cond, List, [], ◌∷◌, ◌++◌, Option, Some, None, refl, sym, ap, ap₂, ◌∙◌}
use Rattle.std.specs.Prelude.{◌==◌, is_some, filter}
use Rattle.std.specs.List.{range_with_len}
use Rattle.sys_types.specs.declared.limits.TheConstants.{DESCRIPTORS}
use Rattle.block_pool.specs.Pool.{PoolState}
use Rattle.block_pool.specs.Chain.{ChainState}
use Rattle.std.proofs.lemmas.List.Quantifiers.{position-Some}
use Rattle.fd_table.specs.declared.open.Descriptor.{Descriptor}
use Rattle.fd_table.specs.declared.open.Open.{Open as OpenOf}
use Rattle.fd_table.specs.Shared.{Shared, Table, descriptor_at, drop_number, last_file, count_files}
use Rattle.pipe_core.specs.Pipes.{Pipes, remove}
use Rattle.line_disc.specs.Device.{Device, closed_device, close_last}
use Rattle.line_disc.specs.Lines.{line_at, change_line}
use Rattle.proc_table.specs.Groups.{is_number}
use Rattle.proc_table.specs.Processes.{Process}
use Rattle.tty_dev.specs.Line.{LineState}
use Rattle.tty_dev.specs.Table.{devices}
use Rattle.proc_calls.specs.declared.closing.Numbers.TheVariants.{Open}
use Rattle.proc_calls.specs.CloseNumbers.{is_one_of, numbers_from}
use Rattle.proc_calls.specs.Ends.{leave_by, HasSession}
use Rattle.system_model.specs.Parts.{Path, Target, node, read_end, write_end, tty}
use Rattle.system_model.specs.State.{OpenFile, View}
use Rattle.system_model.specs.Keeping.{seeing, is_end_of, is_live_of}
use Rattle.system_model.specs.FileEffects.{close_fd, release_pipe, release_line, release_target, release, change_files}
use Rattle.system_model.specs.Effects.{Effect, on_files, change, change_all}
use Rattle.system_model.specs.Endings.{leave_line, leave_session}
use Rattle.system_model.specs.Looks.{has_session, line_of_session}
use Rattle.system_model.specs.ProcCalls.{close_fds}
use Rattle.system_model.specs.Tables.{Tables, view_of}
use Rattle.system_model.proofs.SeenLines.{line_seen, session-kept}

-- a number that is not one of the open ones is closed
pub not_open : (o : Option Descriptor) → is_one_of Open o ≡ false → o ≡ None
not_open None is = refl
not_open (Some d) is = absurd cc

-- ---- the line of a session

a-number : (session : ℕ) (o : Option ℕ) → is_number session o ≡ true → is_some o ≡ true
a-number session None is = absurd cc
a-number session (Some n) is = refl

pub session_there : (t : Tables) (session n : ℕ) → line_of_session (view_of t) session ≡ Some n → is_some (line_at (devices t.pool t.lines) n).session ≡ true
unfolding view_of
session_there t session n is =
    a-number session (line_at (devices t.pool t.lines) n).session (position-Some (has_session session) (devices t.pool t.lines) n closed_device is).1

-- the leader's session has this line
pub left_as : (t : Tables) (who : Process Path) (n foreground : ℕ) → (who.pid == who.session) ≡ true → line_of_session (view_of t) who.session ≡ Some n
    → foreground ≡ (line_at (devices t.pool t.lines) n).foreground → leave_session (view_of t) who ≡ leave_by (Some (n, foreground))
left_as t who n foreground leads line group =
    ap (λ b. cond b (leave_line (view_of t) (line_of_session (view_of t) who.session)) []) leads
    ∙ ap (leave_line (view_of t)) line
    ∙ ap (λ g. leave_by (Some (n, g))) (ap (λ (d : Device ℕ). d.foreground) (line_seen t n) ∙ sym group)

first-of : Option (ℕ × ℕ) → ℕ
first-of None = 0
first-of (Some p) = p.0

pub first_same : (n m a b : ℕ) → ◌≡◌ {A = Option (ℕ × ℕ)} (Some (n, a)) (Some (m, b)) → n ≡ m
unfolding first-of
first_same n m a b is = ap first-of is

-- ---- closes leave the sessions of the lines

abbrev SameSession : View → View → ℕ → Type 0
SameSession v w n = (line_at w.lines n).session ≡ (line_at v.lines n).session

pipe-session : (v : View) (k n : ℕ) → SameSession v (release_pipe seeing v k) n
pipe-session v k n = by_case (count_files (is_end_of seeing k) v.descriptors == 0)
  where
    by_case : (b : Bool) → SameSession v (cond b (record v { pipes = remove v.pipes k }) v) n
    by_case true = refl
    by_case false = refl

line-session : (v : View) (k n : ℕ) → SameSession v (release_line seeing v k) n
line-session v k n = by_case (count_files (is_live_of seeing k) v.descriptors == 0)
  where
    by_case : (b : Bool) → SameSession v (cond b (record v { lines = change_line close_last v.lines k }) v) n
    by_case true = session-kept close_last (λ d. refl) v.lines k n
    by_case false = refl

target-session : (v : View) (dead : Bool) (target : Target) (n : ℕ) → SameSession v (release_target seeing v dead target) n
target-session v dead (node path) n = refl
target-session v dead (read_end k) n = pipe-session v k n
target-session v dead (write_end k) n = pipe-session v k n
target-session v true (tty k) n = refl
target-session v false (tty k) n = line-session v k n

file-session : (v : View) (f : Option OpenFile) (n : ℕ) → SameSession v (release seeing v f) n
file-session v None n = refl
file-session v (Some f) n = target-session v f.dead f.file.target n

close-session : (v : View) (slot fd n : ℕ) → SameSession v (change v (on_files (close_fd slot fd))) n
unfolding change_files
close-session v slot fd n = file-session (record v { descriptors = drop_number v.descriptors slot fd }) (last_file v.descriptors slot fd) n

pub closes_session : (v : View) (slot : ℕ) (fds : List ℕ) (n : ℕ) → SameSession v (change_all v (close_fds slot fds)) n
closes_session v slot [] n = refl
closes_session v slot (fd ∷ fds) n = closes_session (change v (on_files (close_fd slot fd))) slot fds n ∙ close-session v slot fd n

pub lines_of_view : (t : Tables) → (view_of t).lines ≡ devices t.pool t.lines
unfolding view_of
lines_of_view t = refl

-- ---- effects one after the other

pub change_both : (v : View) (these those : List Effect) → change_all v (these ++ those) ≡ change_all (change_all v these) those
change_both v [] those = refl
change_both v (e ∷ these) those = change_both (change v e) these those

-- closes, the line that is left, and the burial
pub ends_as : (v closed left new : View) (closes leaves : List Effect) (e : Effect) → closed ≡ change_all v closes → left ≡ change_all closed leaves
    → new ≡ change left e → new ≡ change_all v ((closes ++ leaves) ++ e ∷ [])
ends_as v closed left new closes leaves e first then last =
    last
    ∙ ap (λ w. change w e) (then ∙ ap (λ w. change_all w leaves) first ∙ sym (change_both v closes leaves))
    ∙ sym (change_both v (closes ++ leaves) (e ∷ []))

-- ---- which numbers are closed

open-is : (o : Option Descriptor) → is_one_of Open o ≡ is_some o
open-is None = refl
open-is (Some d) = refl

all-open : (table : Table) (slot : ℕ) (fds : List ℕ)
    → filter (λ fd. is_one_of Open (descriptor_at table slot fd)) fds ≡ filter (λ fd. is_some (descriptor_at table slot fd)) fds
all-open table slot [] = refl
all-open table slot (fd ∷ fds) = ap₂ (λ b (rest : List ℕ). cond b (fd ∷ rest) rest) (open-is (descriptor_at table slot fd)) (all-open table slot fds)

table-seen : (t : Tables) → (view_of t).descriptors.table ≡ t.descriptors.table
unfolding view_of
table-seen t = refl

pub closed_as : (t : Tables) (slot : ℕ)
    → numbers_from Open t.descriptors.table slot 0 DESCRIPTORS
    ≡ filter (λ fd. is_some (descriptor_at (view_of t).descriptors.table slot fd)) (range_with_len 0 DESCRIPTORS)
closed_as t slot =
    all-open t.descriptors.table slot (range_with_len 0 DESCRIPTORS)
    ∙ ap (λ table. filter (λ fd. is_some (descriptor_at table slot fd)) (range_with_len 0 DESCRIPTORS)) (sym (table-seen t))

-- a line has its session still when numbers were closed
pub session_closed : (t : Tables) (fds : Shared OpenOf) (pipes : Pipes ChainState) (pool : PoolState) (lines : List LineState) (slot : ℕ) (closed : List ℕ) (n : ℕ)
    → view_of (record t { descriptors = fds; pipes = pipes; pool = pool; lines = lines }) ≡ change_all (view_of t) (close_fds slot closed)
    → HasSession t.pool t.lines n → HasSession pool lines n
session_closed t fds pipes pool lines slot closed n is has = record {
  below = has.below;
  session =
      ap (λ ds. is_some (line_at ds n).session) (sym (lines_of_view (record t { descriptors = fds; pipes = pipes; pool = pool; lines = lines })))
      ∙ ap (λ (v : View). is_some (line_at v.lines n).session) is
      ∙ ap is_some (closes_session (view_of t) slot closed n)
      ∙ ap (λ ds. is_some (line_at ds n).session) (lines_of_view t)
      ∙ has.session;
}

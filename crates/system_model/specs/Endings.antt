-- What ends after an event: the processes that its signals and its exit put on a list are ended one after the other, and what that
-- ends in turn joins the list (_exit(2), "Terminating a Process" of POSIX.1, 3.2.2).
use Rattle.std.specs.Prelude.{ℕ, zero, suc, ◌+◌, ◌==◌, List, [], ◌∷◌, ◌++◌, length, filter, Option, Some, None, is_some, slice_get}
use Rattle.std.specs.Prelude.{if◌then◌else◌}
use Rattle.std.specs.List.{range_with_len}
use Rattle.sys_types.specs.declared.limits.TheConstants.{SLOTS, DESCRIPTORS}
use Rattle.sys_types.specs.declared.sig.Sig.TheVariants as sig
use Rattle.call_words.specs.declared.event.How.{How}
use Rattle.call_words.specs.declared.signal.To.TheVariants.{Group}
use Rattle.fd_table.specs.Shared.{descriptor_at}
use Rattle.proc_table.specs.Processes.{Process}
use Rattle.system_model.specs.Parts.{Path}
use Rattle.system_model.specs.State.{View}
use Rattle.system_model.specs.LineEffects.{revoke_line}
use Rattle.system_model.specs.ProcessEffects.{post, bury, clear_ending}
use Rattle.system_model.specs.Effects.{Effect, on_lines, on_processes, change_all}
use Rattle.system_model.specs.ProcCalls.{close_fds}
use Rattle.system_model.specs.Looks.{caller_of, line_of, line_of_session}

-- the descriptors of a slot are closed from the lowest
abbrev pub close_all : View → ℕ → List Effect
close_all v slot = close_fds slot (filter (λ fd. is_some (descriptor_at v.descriptors.table slot fd)) (range_with_len 0 DESCRIPTORS))

-- the line of a session whose leader ends: its foreground group is hung up, and then the line is revoked
abbrev pub leave_line : View → Option ℕ → List Effect
leave_line v None = []
leave_line v (Some n) = on_processes (post sig.HUP (Group (line_of v n).foreground)) ∷ on_lines (revoke_line n) ∷ []

abbrev pub leave_session : View → Process Path → List Effect
leave_session v who = if who.pid == who.session then leave_line v (line_of_session v who.session) else []

-- one ending
abbrev pub end_one : View → ℕ → How → List Effect
end_one v slot how = close_all v slot ++ leave_session v (caller_of v slot) ++ on_processes (bury slot how) ∷ []

abbrev pub end_next : View → Option (ℕ × How) → List Effect
end_next v None = []
end_next v (Some next) = end_one v next.0 next.1

-- so many endings, from a place of the list on
unfoldable pub endings : ℕ → ℕ → View → List Effect
endings zero place v = []
endings (suc fuel) place v =
    let now = end_next v (slice_get v.ending place) in
    now ++ endings fuel (place + 1) (change_all v now)

-- all endings of an event: each process ends once, so there are as many as slots at the most
abbrev pub endings_of : View → List Effect
endings_of v = if length v.ending == 0 then [] else endings SLOTS 0 v ++ on_processes clear_ending ∷ []

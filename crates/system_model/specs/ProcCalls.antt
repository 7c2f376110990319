-- The rows of the calls on processes: fork(2), execve(2), _exit(2), wait4(2), setsid(2), setpgid(2), ps(1), reboot(2), and the first call
-- of a process.
use Rattle.std.specs.Prelude.{ℕ, Bool, true, false, not, ◌&&◌, ◌==◌, List, [], ◌∷◌, map, filter, Option, Some, None, is_none}
use Rattle.std.specs.Prelude.{Result, Ok, Err, unwrap_or}
use Rattle.std.specs.List.{find, range_with_len}
use Rattle.std.specs.Result.{is_err}
use Rattle.std.specs.Str.{bytes_eq}
use Rattle.sys_types.specs.declared.limits.TheConstants.{DESCRIPTORS}
use Rattle.sys_types.specs.declared.image.Image.{Image}
use Rattle.sys_types.specs.declared.image.Image.TheVariants as images
use Rattle.sys_types.specs.declared.rules.Rule.{Rule}
use Rattle.sys_types.specs.declared.rules.Rule.TheVariants as rule
use Rattle.sys_types.specs.Images.{images as programs}
use Rattle.call_words.specs.declared.event.How.{How}
use Rattle.call_words.specs.declared.event.How.TheVariants as how
use Rattle.call_words.specs.declared.event.Reason.TheVariants as reason
use Rattle.call_words.specs.declared.proc.WaitFlags.{WaitFlags}
use Rattle.access_rule.specs.Access.{is_superuser}
use Rattle.fd_table.specs.Shared.{Table, is_on_exec, descriptor_at}
use Rattle.tree_model.specs.Tree.{NodeRecord, is_file}
use Rattle.tree_model.specs.Listing.{names_text}
use Rattle.tree_model.specs.Standard.{image_text}
use Rattle.proc_table.specs.Processes.{Process, slot_of, has_member}
use Rattle.proc_table.specs.Changes.{begin, lead_session, with_group, exec_process}
use Rattle.proc_table.specs.Jobs.{setpgid_target, group_for, is_no_group}
use Rattle.proc_table.specs.Kills.{processes_seen}
use Rattle.proc_table.specs.Listing.{process_text}
use Rattle.proc_table.specs.Forks.{lowest_slot}
use Rattle.proc_table.specs.Reaping.{reap}
use Rattle.system_model.specs.Parts.{Path}
use Rattle.system_model.specs.State.{View}
use Rattle.system_model.specs.FileEffects.{close_fd, fork_fds}
use Rattle.system_model.specs.ProcessEffects.{set_process, fork_process, reap_child, add_ending}
use Rattle.system_model.specs.Effects.{Effect, on_files, on_processes, halt}
use Rattle.system_model.specs.Rows.{Given, Row, deny, answer_if, sleep_if, number, child, image, text, noted, only}
use Rattle.system_model.specs.Looks.{caller_of, on_node, node_at, access_check}

-- ---- begin, and execve(2)

abbrev pub begin_row : View → ℕ → Row
begin_row v slot = record {
  checks = deny (caller_of v slot).begun rule.Begun ∷ [];
  effects = on_processes (set_process slot (begin (caller_of v slot))) ∷ [];
  answer = image (caller_of v slot).image (caller_of v slot).args;
}

abbrev pub is_plain_file : Option NodeRecord → Bool
is_plain_file None = false
is_plain_file (Some what) = is_file what.kind

-- the program of which a file holds the text, if it holds one of a program
abbrev pub image_in : List Image → List ℕ → Option Image
image_in known contents = find (λ i. bytes_eq (image_text i) contents) known

abbrev pub image_of : Option NodeRecord → Option Image
image_of None = None
image_of (Some what) = image_in programs what.contents

-- the numbers of a slot that are closed on exec, in rising order
abbrev pub is_marked : Table → ℕ → ℕ → Bool
is_marked table slot fd = is_on_exec (descriptor_at table slot fd)

abbrev pub close_fds : ℕ → List ℕ → List Effect
close_fds slot fds = map (λ fd. on_files (close_fd slot fd)) fds

abbrev pub close_marked : View → ℕ → List Effect
close_marked v slot = close_fds slot (filter (is_marked v.descriptors.table slot) (range_with_len 0 DESCRIPTORS))

abbrev pub program_at : View → Path → Image
program_at v place = unwrap_or (image_of (node_at v place)) images.Init

abbrev pub exec_at : View → ℕ → List ℕ → Path → Row
exec_at v slot args place = record {
  checks = deny (not (is_plain_file (node_at v place))) rule.NotFile
      ∷ access_check v slot place false false true
      ∷ deny (is_none (image_of (node_at v place))) rule.Image
      ∷ [];
  effects = on_processes (set_process slot (exec_process (caller_of v slot) (program_at v place) args)) ∷ close_marked v slot;
  answer = image (program_at v place) args;
}

abbrev pub exec_row : View → ℕ → List ℕ → List ℕ → Row
exec_row v slot path args = on_node v slot path (exec_at v slot args)

-- ---- fork(2), _exit(2), wait4(2)

-- the child has the next pid, and stands in the lowest slot that a fork may take
abbrev pub fork_row : View → ℕ → List ℕ → Row
fork_row v slot note = record {
  checks = deny (is_none (lowest_slot v.processes)) rule.Slots ∷ [];
  effects = on_files (fork_fds slot (unwrap_or (lowest_slot v.processes) slot)) ∷ on_processes (fork_process slot note) ∷ [];
  answer = number v.processes.next_pid;
}

-- pid 1 does not exit
abbrev pub exit_row : View → ℕ → ℕ → Row
exit_row v slot status = record {
  checks = deny ((caller_of v slot).pid == 1) rule.Init ∷ [];
  effects = on_processes (add_ending slot (how.Exit status)) ∷ [];
  answer = number 0;
}

abbrev pub no_news : Result (Option (ℕ × How)) Rule → Bool
no_news (Ok None) = true
no_news (Ok (Some news)) = false
no_news (Err rule) = false

abbrev pub child_answer : Result (Option (ℕ × How)) Rule → Given
child_answer (Ok None) = noted
child_answer (Ok (Some news)) = child news.0 news.1
child_answer (Err rule) = noted

-- a wait learns of a child that ended or, where that is asked, was stopped; where there is no news it sleeps, unless it may not (WNOHANG)
abbrev pub wait_row : View → ℕ → ℕ → WaitFlags → Row
wait_row v slot pid flags =
    let news = (reap v.processes slot pid flags.untraced).1 in
    record {
      checks = deny (is_err news) rule.NoChild
          ∷ answer_if (no_news news && flags.no_hang) (number 0)
          ∷ sleep_if (no_news news) (caller_of v slot) reason.Child
          ∷ [];
      effects = on_processes (reap_child slot pid flags.untraced) ∷ [];
      answer = child_answer news;
    }

-- ---- setsid(2), setpgid(2)

abbrev pub setsid_row : View → ℕ → Row
setsid_row v slot = record {
  checks = deny (has_member v.processes (caller_of v slot).pid) rule.Leader ∷ [];
  effects = on_processes (set_process slot (lead_session (caller_of v slot))) ∷ [];
  answer = number (caller_of v slot).pid;
}

abbrev pub setpgid_on : View → ℕ → ℕ → Option (Process Path) → Row
setpgid_on v slot group None = record { checks = deny true rule.NoProcess ∷ []; effects = []; answer = number 0 }
setpgid_on v slot group (Some target) = record {
  checks = deny (not (target.pid == (caller_of v slot).pid) && target.execed) rule.ChildExec
      ∷ deny (target.pid == target.session) rule.Leader
      ∷ deny (not (target.session == (caller_of v slot).session)) rule.Session
      ∷ deny (is_no_group v.processes target (group_for target group)) rule.Group
      ∷ [];
  effects = on_processes (set_process (unwrap_or (slot_of v.processes target.pid) slot) (with_group (group_for target group) target)) ∷ [];
  answer = number 0;
}

abbrev pub setpgid_row : View → ℕ → ℕ → ℕ → Row
setpgid_row v slot pid group = setpgid_on v slot group (setpgid_target v.processes (caller_of v slot) pid)

-- ---- ps(1), reboot(2)

-- the processes that the caller's active element dominates, as many as fit
unfoldable pub ps_text : View → Process Path → List ℕ
ps_text v who = names_text (map (process_text v.processes) (processes_seen v.processes who)) 0

abbrev pub ps_row : View → ℕ → Row
ps_row v slot = only (text (ps_text v (caller_of v slot)))

abbrev pub halt_row : View → ℕ → Row
halt_row v slot = record {
  checks = deny (not (is_superuser (caller_of v slot).cred)) rule.Super ∷ [];
  effects = halt ∷ [];
  answer = number 0;
}

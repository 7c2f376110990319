-- The rows of the calls on who a process is: setuid(2), setgid(2), setgroups(2), mac_set_proc(3), mac_get_proc(3), getpid(2), umask(2).
use Rattle.std.specs.Prelude.{ℕ, not, List, [], ◌∷◌, ◌++◌, codes}
use Rattle.std.specs.Fmt.{decimal}
use Rattle.label_core.specs.declared.subject.Subject.{Subject}
use Rattle.label_core.specs.Subject.{may_become}
use Rattle.label_core.specs.Text.{subject_text}
use Rattle.acl_core.specs.declared.cred.Cred.{Cred}
use Rattle.sys_types.specs.declared.rules.Rule.TheVariants.{Super, Proclabel}
use Rattle.access_rule.specs.Access.{is_superuser}
use Rattle.call_words.specs.Groups.{groups_word}
use Rattle.proc_table.specs.Processes.{Process}
use Rattle.proc_table.specs.Changes.{with_cred, with_label, with_umask}
use Rattle.system_model.specs.Parts.{Path}
use Rattle.system_model.specs.State.{View}
use Rattle.system_model.specs.ProcessEffects.{set_process}
use Rattle.system_model.specs.Effects.{on_processes}
use Rattle.system_model.specs.Rows.{Row, deny, number, text, only}
use Rattle.system_model.specs.Looks.{caller_of}

-- only the superuser becomes another
abbrev pub setcred_row : View → ℕ → Cred → Row
setcred_row v slot cred = record {
  checks = deny (not (is_superuser (caller_of v slot).cred)) Super ∷ [];
  effects = on_processes (set_process slot (with_cred cred (caller_of v slot))) ∷ [];
  answer = number 0;
}

abbrev pub setproclabel_row : View → ℕ → Subject → Row
setproclabel_row v slot subject = record {
  checks = deny (not (may_become (caller_of v slot).label subject)) Proclabel ∷ [];
  effects = on_processes (set_process slot (with_label subject (caller_of v slot))) ∷ [];
  answer = number 0;
}

-- the mask before is answered
abbrev pub umask_row : View → ℕ → ℕ → Row
umask_row v slot mode = record {
  checks = [];
  effects = on_processes (set_process slot (with_umask mode (caller_of v slot))) ∷ [];
  answer = number (caller_of v slot).umask;
}

-- the number of the process, the user, the group, the supplementary groups and the label
unfoldable pub ident_text : Process Path → List ℕ
ident_text who =
    decimal who.pid ++ codes ":" ++ decimal who.cred.uid ++ codes ":" ++ decimal who.cred.gid ++ codes ":" ++ groups_word who.cred.groups.items
    ++ codes ":" ++ subject_text who.label

abbrev pub ident_row : View → ℕ → Row
ident_row v slot = only (text (ident_text (caller_of v slot)))

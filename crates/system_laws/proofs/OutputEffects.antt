-- Effects that neither write to a line nor take its output or a byte in leave the output as it is, or empty it.
use Rattle.std.proofs.Common.{◌≡◌, ◌⊎◌, inl, inr, ℕ, Bool, true, false, cond, List, [], ◌∷◌, refl, sym, ap, subst, ◌∙◌}
use Rattle.std.specs.Prelude.{◌==◌, Option, Some, None, option_map}
use Rattle.fd_table.specs.Shared.{drop_number, last_file, count_files}
use Rattle.pipe_core.specs.Pipes.{remove}
use Rattle.termios_core.specs.declared.termios.Termios.{Termios}
use Rattle.line_disc.specs.Discipline.{Discipline}
use Rattle.line_disc.specs.Cook as cooking
use Rattle.line_disc.specs.Transfers as transfers
use Rattle.line_disc.specs.Device as device
use Rattle.line_disc.specs.Device.{Device, closed_device, close_last}
use Rattle.line_disc.specs.Lines.{line_at, change_line}
use Rattle.system_model.specs.Parts.{Target, node, read_end, write_end, tty, Parts}
use Rattle.system_model.specs.State.{Revokes, NamedFile, Tagged, last_revoke, is_revoked, State}
use Rattle.system_model.specs.Keeping.{tagging, is_end_of, is_live_of}
use Rattle.system_model.specs.FileEffects.{FileEffect, open_file, copy_fd, close_fd, fork_fds, set_offset, release_target, release}
use Rattle.system_model.specs.FileEffects.{change_files}
use Rattle.system_model.specs.LineEffects.{LineEffect, open_line, receive_byte, read_line, write_line, take_output, set_carrier, end_line, revoke_line}
use Rattle.system_model.specs.LineEffects.{flush_line, retune_line, set_session, set_foreground, change_lines, revokes_after}
use Rattle.system_model.specs.Effects.{Effect, on_files, on_pipes, on_lines, on_tree, on_processes, halt, tag, tag_all}
use Rattle.system_laws.specs.ProvenanceLaws.{output_cells, output_at, cells_sent_by, cells_sent_by_all}
use Rattle.system_laws.proofs.InputEffects.{line-set, line-other, same-number, pipe-lines, process-lines, tree-lines}
use Rattle.system_laws.proofs.AskedEffects.{is_asked_line, is_asked, no_line, AreAsked, no_effect, next_effect}

-- the output is as it was, or empty
abbrev pub Lasts : Option (Discipline Tagged) → Option (Discipline Tagged) → Type 0
Lasts old new = (output_cells new ≡ output_cells old) ⊎ (output_cells new ≡ [])

-- ---- one line

lasts-by : (o : Option (Discipline Tagged)) (how : Discipline Tagged → Discipline Tagged)
    → ((d : Discipline Tagged) → ((how d).output ≡ d.output) ⊎ ((how d).output ≡ [])) → Lasts o (option_map how o)
lasts-by None how lasts = inl refl
lasts-by (Some d) how lasts = lasts d

lasts-open : (o : Option (Discipline Tagged)) (t : Termios) → Lasts o (Some (device.open_discipline t o))
lasts-open None t = inl refl
lasts-open (Some d) t = inl refl

lasts-flush : (input output : Bool) (d : Discipline Tagged)
    → ((cooking.flush d input output).output ≡ d.output) ⊎ ((cooking.flush d input output).output ≡ [])
lasts-flush input true d = inr refl
lasts-flush input false d = inl refl

lasts-retune : (t : Termios) (d : Discipline Tagged) → ((transfers.retune d t).output ≡ d.output) ⊎ ((transfers.retune d t).output ≡ [])
unfolding transfers.retune
lasts-retune t d = inl refl

lasts-read : (max : ℕ) (d : Discipline Tagged) → ((transfers.after_read d max).output ≡ d.output) ⊎ ((transfers.after_read d max).output ≡ [])
lasts-read max d = inl (by_case (transfers.waits d max))
  where
    by_case : (t : Bool) → (cond t d (record d { input = transfers.input_after d max })).output ≡ d.output
    by_case true = refl
    by_case false = refl

lasts-disconnect : (line : Device Tagged) → Lasts line.discipline (device.disconnect line).discipline
lasts-disconnect line = by_case (device.is_connected line.discipline)
  where
    by_case : (t : Bool) → Lasts line.discipline
        (cond t (record line { discipline = option_map (λ d. cooking.flush d true true) line.discipline; zombie = true }) line).discipline
    by_case true = lasts-by line.discipline (λ d. cooking.flush d true true) (lasts-flush true true)
    by_case false = inl refl

lasts-carrier : (line : Device Tagged) (up : Bool) → Lasts line.discipline (device.set_carrier line up).discipline
lasts-carrier line up = by_case line.ended up
  where
    by_case : (t u : Bool) → Lasts line.discipline
        (cond t line (cond u (record line { carrier = true }) (device.disconnect (record line { carrier = false })))).discipline
    by_case true u = inl refl
    by_case false true = inl refl
    by_case false false = lasts-disconnect (record line { carrier = false })

-- ---- the lines of a state

lasts-change : (lines : List (Device Tagged)) (m n : ℕ) (how : Device Tagged → Device Tagged)
    → ((line : Device Tagged) → Lasts line.discipline (how line).discipline)
    → Lasts (line_at lines n).discipline (line_at (change_line how lines m) n).discipline
lasts-change lines m n how lasts = by_case (m == n) refl
  where
    by_case : (t : Bool) → (m == n) ≡ t → Lasts (line_at lines n).discipline (line_at (change_line how lines m) n).discipline
    by_case true is =
        subst (λ k. Lasts (line_at lines n).discipline (line_at (change_line how lines k) n).discipline) (sym (same-number m n is))
        (line-set (λ line. Lasts (line_at lines n).discipline line.discipline) lines n (how (line_at lines n)) (lasts (line_at lines n)) (λ closed. inr refl))
    by_case false is =
        inl (ap (λ (line : Device Tagged). output_cells line.discipline) (line-other lines m n (how (line_at lines m)) is))

-- ---- effects

-- what changes leave of a line's output, and of its last revoke, after which there is none
pub record KeepsOutput (n : ℕ) (s t : State) : Type 0 where
  pub output : (output_at n t ≡ output_at n s) ⊎ (output_at n t ≡ [])
  pub last : (last_revoke t.revokes n ≡ last_revoke s.revokes n) ⊎ (output_at n t ≡ [])

keep-still : (n : ℕ) (s t : State) → t.parts.lines ≡ s.parts.lines → t.revokes ≡ s.revokes → KeepsOutput n s t
keep-still n s t lines revokes = record {
  output = inl (ap (λ ls. output_cells (line_at ls n).discipline) lines);
  last = inl (ap (λ rs. last_revoke rs n) revokes);
}

revoke-last : (n m p : ℕ) (s : State) → (t : Bool) → (m == n) ≡ t
    → (cond t p (last_revoke s.revokes n) ≡ last_revoke s.revokes n)
    ⊎ (output_cells (line_at (change_line device.revoke s.parts.lines m) n).discipline ≡ [])
revoke-last n m p s true is =
    inr (subst (λ k. output_cells (line_at (change_line device.revoke s.parts.lines k) n).discipline ≡ []) (sym (same-number m n is))
    (line-set (λ line. output_cells line.discipline ≡ []) s.parts.lines n (device.revoke (line_at s.parts.lines n)) refl (λ closed. refl)))
revoke-last n m p s false is = inl refl

keep-line : (n : ℕ) (s : State) (p : ℕ) (r : ℕ → Bool) (e : LineEffect) → is_asked_line r no_line e ≡ true → KeepsOutput n s (tag s p (on_lines e))
unfolding change_lines revokes_after
keep-line n s p r (open_line m t) is = record {
  output = lasts-change s.parts.lines m n (device.open_file t) (λ line. lasts-open line.discipline t);
  last = inl refl;
}
keep-line n s p r (receive_byte m b) is = cc
keep-line n s p r (read_line m max) is = record {
  output =
      lasts-change s.parts.lines m n (λ line. device.after_read line max)
      (λ line. lasts-by line.discipline (λ d. transfers.after_read d max) (lasts-read max));
  last = inl refl;
}
keep-line n s p r (write_line m bytes) is = cc
keep-line n s p r (take_output m max) is = cc
keep-line n s p r (set_carrier m up) is = record {
  output = lasts-change s.parts.lines m n (λ line. device.set_carrier line up) (λ line. lasts-carrier line up);
  last = inl refl;
}
keep-line n s p r (end_line m) is = record {
  output = lasts-change s.parts.lines m n device.end_for_good (λ line. lasts-carrier line false);
  last = inl refl;
}
keep-line n s p r (revoke_line m) is = record {
  output = lasts-change s.parts.lines m n device.revoke (λ line. inr refl);
  last = revoke-last n m p s (m == n) refl;
}
keep-line n s p r (flush_line m input output) is = record {
  output =
      lasts-change s.parts.lines m n (λ line. device.flush line input output)
      (λ line. lasts-by line.discipline (λ d. cooking.flush d input output) (lasts-flush input output));
  last = inl refl;
}
keep-line n s p r (retune_line m t) is = record {
  output =
      lasts-change s.parts.lines m n (λ line. device.retune line t)
      (λ line. lasts-by line.discipline (λ d. transfers.retune d t) (lasts-retune t));
  last = inl refl;
}
keep-line n s p r (set_session m session group) is = record {
  output = lasts-change s.parts.lines m n (λ line. device.set_session line session group) (λ line. inl refl);
  last = inl refl;
}
keep-line n s p r (set_foreground m group) is = record {
  output = lasts-change s.parts.lines m n (λ line. device.set_foreground line group) (λ line. inl refl);
  last = inl refl;
}

release-lasts : (n p : ℕ) (revokes : Revokes) (m : Parts NamedFile Tagged) (f : Option NamedFile)
    → Lasts (line_at m.lines n).discipline (line_at (release (tagging p revokes) m f).lines n).discipline
release-lasts n p revokes m None = inl refl
release-lasts n p revokes m (Some f) = by_target (is_revoked revokes f.name.made f.file.target) f.file.target
  where
    by_pipe : (k : ℕ) (t : Bool) → Lasts (line_at m.lines n).discipline (line_at (cond t (record m { pipes = remove m.pipes k }) m).lines n).discipline
    by_pipe k true = inl refl
    by_pipe k false = inl refl

    by_line : (k : ℕ) (t : Bool) → Lasts (line_at m.lines n).discipline
        (line_at (cond t (record m { lines = change_line close_last m.lines k }) m).lines n).discipline
    by_line k true = lasts-change m.lines k n close_last (λ line. inr refl)
    by_line k false = inl refl

    by_target : (dead : Bool) (target : Target)
        → Lasts (line_at m.lines n).discipline (line_at (release_target (tagging p revokes) m dead target).lines n).discipline
    by_target dead (node path) = inl refl
    by_target dead (read_end k) = by_pipe k (count_files (is_end_of (tagging p revokes) k) m.descriptors == 0)
    by_target dead (write_end k) = by_pipe k (count_files (is_end_of (tagging p revokes) k) m.descriptors == 0)
    by_target true (tty k) = inl refl
    by_target false (tty k) = by_line k (count_files (is_live_of (tagging p revokes) k) m.descriptors == 0)

keep-file : (n : ℕ) (s : State) (p : ℕ) (e : FileEffect) → KeepsOutput n s (tag s p (on_files e))
unfolding change_files
keep-file n s p (open_file slot file on_exec) = keep-still n s _ refl refl
keep-file n s p (copy_fd slot from into) = keep-still n s _ refl refl
keep-file n s p (close_fd slot fd) = record {
  output = release-lasts n p s.revokes (record s.parts { descriptors = drop_number s.parts.descriptors slot fd }) (last_file s.parts.descriptors slot fd);
  last = inl refl;
}
keep-file n s p (fork_fds from into) = keep-still n s _ refl refl
keep-file n s p (set_offset slot fd offset) = keep-still n s _ refl refl

keep-tag : (n : ℕ) (s : State) (p : ℕ) (r : ℕ → Bool) (e : Effect) → is_asked r no_line e ≡ true → KeepsOutput n s (tag s p e)
keep-tag n s p r (on_files e) is = keep-file n s p e
keep-tag n s p r (on_pipes e) is = keep-still n s _ (pipe-lines p s.revokes s.parts e) refl
keep-tag n s p r (on_lines e) is = keep-line n s p r e is
keep-tag n s p r (on_tree e) is = keep-still n s _ (tree-lines s.parts e) refl
keep-tag n s p r (on_processes e) is = keep-still n s _ (process-lines s.parts e) refl
keep-tag n s p r halt is = keep-still n s _ refl refl

keep-both : (n : ℕ) (s t u : State) → KeepsOutput n s t → KeepsOutput n t u → KeepsOutput n s u
keep-both n s t u first then = record { output = by_output first.output then.output; last = by_last first.last then.output then.last }
  where
    by_output : (output_at n t ≡ output_at n s) ⊎ (output_at n t ≡ []) → (output_at n u ≡ output_at n t) ⊎ (output_at n u ≡ [])
        → (output_at n u ≡ output_at n s) ⊎ (output_at n u ≡ [])
    by_output x (inr empty) = inr empty
    by_output (inl same) (inl still) = inl (still ∙ same)
    by_output (inr empty) (inl still) = inr (still ∙ empty)

    by_last : (last_revoke t.revokes n ≡ last_revoke s.revokes n) ⊎ (output_at n t ≡ []) → (output_at n u ≡ output_at n t) ⊎ (output_at n u ≡ [])
        → (last_revoke u.revokes n ≡ last_revoke t.revokes n) ⊎ (output_at n u ≡ [])
        → (last_revoke u.revokes n ≡ last_revoke s.revokes n) ⊎ (output_at n u ≡ [])
    by_last x y (inr empty) = inr empty
    by_last (inl same) y (inl still) = inl (still ∙ same)
    by_last (inr empty) (inl same) (inl still) = inr (same ∙ empty)
    by_last (inr empty) (inr none) (inl still) = inr none

pub keep_all : (n : ℕ) (s : State) (p : ℕ) (r : ℕ → Bool) (es : List Effect) → AreAsked r no_line es → KeepsOutput n s (tag_all s p es)
keep_all n s p r [] no_effect = keep-still n s s refl refl
keep_all n s p r (e ∷ es) (next_effect _ _ is more) =
    keep-both n s (tag s p e) (tag_all (tag s p e) p es) (keep-tag n s p r e is) (keep_all n (tag s p e) p r es more)

-- ---- they take no output

line-unsent : (n : ℕ) (s : State) (r w : ℕ → Bool) (e : LineEffect) → is_asked_line r w e ≡ true → cells_sent_by n s (on_lines e) ≡ []
line-unsent n s r w (open_line m t) is = refl
line-unsent n s r w (receive_byte m b) is = refl
line-unsent n s r w (read_line m max) is = refl
line-unsent n s r w (write_line m bytes) is = refl
line-unsent n s r w (take_output m max) is = cc
line-unsent n s r w (set_carrier m up) is = refl
line-unsent n s r w (end_line m) is = refl
line-unsent n s r w (revoke_line m) is = refl
line-unsent n s r w (flush_line m input output) is = refl
line-unsent n s r w (retune_line m t) is = refl
line-unsent n s r w (set_session m session group) is = refl
line-unsent n s r w (set_foreground m group) is = refl

effect-unsent : (n : ℕ) (s : State) (r w : ℕ → Bool) (e : Effect) → is_asked r w e ≡ true → cells_sent_by n s e ≡ []
effect-unsent n s r w (on_files e) is = refl
effect-unsent n s r w (on_pipes e) is = refl
effect-unsent n s r w (on_lines e) is = line-unsent n s r w e is
effect-unsent n s r w (on_tree e) is = refl
effect-unsent n s r w (on_processes e) is = refl
effect-unsent n s r w halt is = refl

pub unsent_all : (n : ℕ) (s : State) (p : ℕ) (r w : ℕ → Bool) (es : List Effect) → AreAsked r w es → cells_sent_by_all n s p es ≡ []
unsent_all n s p r w [] no_effect = refl
unsent_all n s p r w (e ∷ es) (next_effect _ _ is more) =
    rw (effect-unsent n s r w e is) (unsent_all n (tag s p e) p r w es more)

-- What effects make of the input of a line: cells are read from the front on, others go from the back on, and only a byte that comes in brings one.
use Rattle.std.proofs.Common.{◌≡◌, ◌⊎◌, inl, inr, ℕ, zero, suc, Bool, true, false, cond, List, [], ◌∷◌, ◌++◌, refl, sym, ap, subst, ◌∙◌, arith}
use Rattle.std.specs.Prelude.{◌==◌, Option, Some, None, option_map, option_and_then, unwrap_or, slice_set}
use Rattle.std.proofs.lemmas.List.{append-nil, append_assoc}
use Rattle.std.proofs.lemmas.Bool.Decides.{nat_tests}
use Rattle.fd_table.specs.Shared.{drop_number, last_file, count_files}
use Rattle.pipe_core.specs.Pipes.{remove}
use Rattle.termios_core.specs.declared.termios.Termios.{Termios}
use Rattle.line_disc.specs.Discipline.{Cells, Discipline, all_cells}
use Rattle.line_disc.specs.Cook as cooking
use Rattle.line_disc.specs.Transfers as transfers
use Rattle.line_disc.specs.Device as device
use Rattle.line_disc.specs.Device.{Device, closed_device, close_last}
use Rattle.line_disc.specs.Lines.{line_at, change_line}
use Rattle.system_model.specs.Parts.{Target, node, read_end, write_end, tty, Parts}
use Rattle.system_model.specs.State.{Revokes, NamedFile, Tagged, last_revoke, is_revoked, State}
use Rattle.system_model.specs.Keeping.{tagging, is_end_of, is_live_of}
use Rattle.system_model.specs.FileEffects.{FileEffect, open_file, copy_fd, close_fd, fork_fds, set_offset, release_target, release}
use Rattle.system_model.specs.FileEffects.{change_files}
use Rattle.system_model.specs.PipeEffects.{PipeEffect, add_pipe, put_pipe, take_pipe, change_pipes}
use Rattle.system_model.specs.LineEffects.{LineEffect, open_line, receive_byte, read_line, write_line, take_output, set_carrier, end_line, revoke_line}
use Rattle.system_model.specs.LineEffects.{flush_line, retune_line, set_session, set_foreground, change_lines, revokes_after}
use Rattle.system_model.specs.TreeEffects.{TreeEffect, set_node, change_tree}
use Rattle.system_model.specs.ProcessEffects.{ProcessEffect, set_process, fork_process, reap_child, set_pending, tell, post, add_ending, bury, clear_ending}
use Rattle.system_model.specs.ProcessEffects.{change_processes}
use Rattle.system_model.specs.Effects.{Effect, on_files, on_pipes, on_lines, on_tree, on_processes, halt, tag, tag_all}
use Rattle.system_laws.specs.ProvenanceLaws.{cells_by, cells_by_all}
use Rattle.system_laws.proofs.InputCells.{IsPlain, Fewer, flush_fewer, read_input, retune_input}

-- what has come in at a line and is not read: nothing where no file is live
abbrev pub input_of : Option (Discipline Tagged) → List Tagged
input_of None = []
input_of (Some d) = all_cells d.input

abbrev pub input_at : ℕ → State → List Tagged
input_at n s = input_of (line_at s.parts.lines n).discipline

abbrev pub IsPlainOf : Option (Discipline Tagged) → Type 0
IsPlainOf None = Unit {0}
IsPlainOf (Some d) = IsPlain d

abbrev pub IsPlainAt : ℕ → State → Type 0
IsPlainAt n s = IsPlainOf (line_at s.parts.lines n).discipline

-- of the cells that were there some are read, from the front on, and some go, from the back on
pub record Leaves (read : List Tagged) (old new : Option (Discipline Tagged)) : Type 0 where
  pub gone : List Tagged
  pub is : input_of old ≡ (read ++ input_of new) ++ gone
  pub plain : IsPlainOf new

-- ---- one line

pub leaves-same : (o : Option (Discipline Tagged)) → IsPlainOf o → Leaves [] o o
leaves-same o plain = record { gone = []; is = sym (append-nil (input_of o)); plain = plain }

leaves-none : (o : Option (Discipline Tagged)) → Leaves [] o None
leaves-none o = record { gone = input_of o; is = refl; plain = tt }

leaves-by : (o : Option (Discipline Tagged)) (how : Discipline Tagged → Discipline Tagged) → ((d : Discipline Tagged) → Fewer d (how d)) → IsPlainOf o
    → Leaves [] o (option_map how o)
leaves-by None how fewer plain = leaves-same None plain
leaves-by (Some d) how fewer plain = let f = fewer d in record { gone = f.gone; is = f.is; plain = f.plain plain }

leaves-open : (o : Option (Discipline Tagged)) (t : Termios) → IsPlainOf o → Leaves [] o (Some (device.open_discipline t o))
leaves-open None t plain = record { gone = []; is = refl; plain = λ raw. refl }
leaves-open (Some d) t plain = leaves-same (Some d) plain

leaves-read : (o : Option (Discipline Tagged)) (max : ℕ) → IsPlainOf o
    → Leaves (unwrap_or (option_and_then (λ d. transfers.read d max) o) []) o (option_map (λ d. transfers.after_read d max) o)
leaves-read None max plain = leaves-same None plain
leaves-read (Some d) max plain = let r = read_input d max plain in record { gone = []; is = r.is ∙ sym (append-nil _); plain = r.plain }

put-fewer : (c : Cells Tagged) (written : List ℕ) (d : Discipline Tagged) → Fewer d (transfers.put c d written)
unfolding transfers.put
put-fewer c written d = record { gone = []; is = sym (append-nil (all_cells d.input)); plain = λ p. p }

take-fewer : (max : ℕ) (d : Discipline Tagged) → Fewer d (transfers.after_take d max)
take-fewer max d = by_stop d.stopped
  where
    by_stop : (t : Bool) → Fewer d (cond t d (record d { output = (transfers.after_take (record d { stopped = false }) max).output }))
    by_stop true = record { gone = []; is = sym (append-nil (all_cells d.input)); plain = λ p. p }
    by_stop false = record { gone = []; is = sym (append-nil (all_cells d.input)); plain = λ p. p }

leaves-disconnect : (line : Device Tagged) → IsPlainOf line.discipline → Leaves [] line.discipline (device.disconnect line).discipline
leaves-disconnect line plain = by_case (device.is_connected line.discipline)
  where
    by_case : (t : Bool) → Leaves [] line.discipline
        (cond t (record line { discipline = option_map (λ d. cooking.flush d true true) line.discipline; zombie = true }) line).discipline
    by_case true = leaves-by line.discipline (λ d. cooking.flush d true true) (λ d. flush_fewer d true true) plain
    by_case false = leaves-same line.discipline plain

leaves-carrier : (line : Device Tagged) (up : Bool) → IsPlainOf line.discipline → Leaves [] line.discipline (device.set_carrier line up).discipline
leaves-carrier line up plain = by_case line.ended up
  where
    by_case : (t u : Bool) → Leaves [] line.discipline
        (cond t line (cond u (record line { carrier = true }) (device.disconnect (record line { carrier = false })))).discipline
    by_case true u = leaves-same line.discipline plain
    by_case false true = leaves-same line.discipline plain
    by_case false false = leaves-disconnect (record line { carrier = false }) plain

-- ---- the lines of a state

pub same-number : (m n : ℕ) → (m == n) ≡ true → m ≡ n
same-number m n is = grind (arith, nat_tests)

apart-before : (m n : ℕ) → (suc m == suc n) ≡ false → (m == n) ≡ false
apart-before m n is = grind (arith, nat_tests)

pub line-set : (P : Device Tagged → Type 0) (lines : List (Device Tagged)) (n : ℕ) (line : Device Tagged) → P line
    → (line_at lines n ≡ closed_device → P closed_device) → P (line_at (slice_set lines n line) n)
line-set P [] n line is closed = closed refl
line-set P (l ∷ ls) zero line is closed = is
line-set P (l ∷ ls) (suc n) line is closed = line-set P ls n line is closed

pub line-other : (lines : List (Device Tagged)) (m n : ℕ) (line : Device Tagged) → (m == n) ≡ false
    → line_at (slice_set lines m line) n ≡ line_at lines n
line-other [] m n line apart = refl
line-other (l ∷ ls) zero zero line apart = cc
line-other (l ∷ ls) zero (suc n) line apart = refl
line-other (l ∷ ls) (suc m) zero line apart = refl
line-other (l ∷ ls) (suc m) (suc n) line apart = line-other ls m n line (apart-before m n apart)

-- a line is changed
leaves-own : (read : List Tagged) (lines : List (Device Tagged)) (n : ℕ) (how : Device Tagged → Device Tagged)
    → Leaves read (line_at lines n).discipline (how (line_at lines n)).discipline → (line_at lines n ≡ closed_device → read ≡ [])
    → Leaves read (line_at lines n).discipline (line_at (change_line how lines n) n).discipline
leaves-own read lines n how own closed =
    line-set (λ line. Leaves read (line_at lines n).discipline line.discipline) lines n (how (line_at lines n)) own
    (λ is. subst (λ cells. Leaves cells (line_at lines n).discipline None) (sym (closed is)) (leaves-none (line_at lines n).discipline))

-- another line is left
leaves-other : (lines : List (Device Tagged)) (m n : ℕ) (how : Device Tagged → Device Tagged) → (m == n) ≡ false → IsPlainOf (line_at lines n).discipline
    → Leaves [] (line_at lines n).discipline (line_at (change_line how lines m) n).discipline
leaves-other lines m n how apart plain =
    subst (λ (line : Device Tagged). Leaves [] (line_at lines n).discipline line.discipline) (sym (line-other lines m n (how (line_at lines m)) apart))
    (leaves-same (line_at lines n).discipline plain)

leaves-change : (lines : List (Device Tagged)) (m n : ℕ) (how : Device Tagged → Device Tagged)
    → ((line : Device Tagged) → IsPlainOf line.discipline → Leaves [] line.discipline (how line).discipline) → IsPlainOf (line_at lines n).discipline
    → Leaves [] (line_at lines n).discipline (line_at (change_line how lines m) n).discipline
leaves-change lines m n how leaves plain = by_case (m == n) refl
  where
    by_case : (t : Bool) → (m == n) ≡ t → Leaves [] (line_at lines n).discipline (line_at (change_line how lines m) n).discipline
    by_case true is =
        subst (λ k. Leaves [] (line_at lines n).discipline (line_at (change_line how lines k) n).discipline) (sym (same-number m n is))
        (leaves-own [] lines n how (leaves (line_at lines n) plain) (λ closed. refl))
    by_case false is = leaves-other lines m n how is plain

closed-read : (line : Device Tagged) (max : ℕ) → line ≡ closed_device → unwrap_or (device.read line max) [] ≡ []
closed-read line max is = rw is refl

leaves-reading : (lines : List (Device Tagged)) (m n max : ℕ) → IsPlainOf (line_at lines n).discipline
    → Leaves (cond (m == n) (unwrap_or (device.read (line_at lines m) max) []) []) (line_at lines n).discipline
    (line_at (change_line (λ line. device.after_read line max) lines m) n).discipline
leaves-reading lines m n max plain = by_case (m == n) refl
  where
    by_case : (t : Bool) → (m == n) ≡ t → Leaves (cond t (unwrap_or (device.read (line_at lines m) max) []) []) (line_at lines n).discipline
        (line_at (change_line (λ line. device.after_read line max) lines m) n).discipline
    by_case true is =
        subst (λ k. Leaves (unwrap_or (device.read (line_at lines k) max) []) (line_at lines n).discipline
        (line_at (change_line (λ line. device.after_read line max) lines k) n).discipline)
        (sym (same-number m n is))
        (leaves-own (unwrap_or (device.read (line_at lines n) max) []) lines n (λ line. device.after_read line max)
        (leaves-read (line_at lines n).discipline max plain) (closed-read (line_at lines n) max))
    by_case false is = leaves-other lines m n (λ line. device.after_read line max) is plain

-- ---- effects

-- what changes leave of a line's input, and of its last revoke, after which there is none
pub record Shortens (n : ℕ) (s t : State) (cells : List Tagged) : Type 0 where
  pub left : Leaves cells (line_at s.parts.lines n).discipline (line_at t.parts.lines n).discipline
  pub last : (last_revoke t.revokes n ≡ last_revoke s.revokes n) ⊎ (input_at n t ≡ [])

-- the effect brings a byte in
abbrev pub brings_byte : LineEffect → Bool
brings_byte (receive_byte n b) = true
brings_byte _ = false

abbrev pub is_arrival : Effect → Bool
is_arrival (on_lines e) = brings_byte e
is_arrival _ = false

shorten-still : (n : ℕ) (s t : State) → t.parts.lines ≡ s.parts.lines → t.revokes ≡ s.revokes → IsPlainAt n s → Shortens n s t []
shorten-still n s t lines revokes plain = record {
  left =
      subst (λ ls. Leaves [] (line_at s.parts.lines n).discipline (line_at ls n).discipline) (sym lines)
      (leaves-same (line_at s.parts.lines n).discipline plain);
  last = inl (ap (λ rs. last_revoke rs n) revokes);
}

revoke-last : (n m p : ℕ) (s : State) → (t : Bool) → (m == n) ≡ t
    → (cond t p (last_revoke s.revokes n) ≡ last_revoke s.revokes n)
    ⊎ (input_of (line_at (change_line device.revoke s.parts.lines m) n).discipline ≡ [])
revoke-last n m p s true is =
    inr (subst (λ k. input_of (line_at (change_line device.revoke s.parts.lines k) n).discipline ≡ []) (sym (same-number m n is))
    (line-set (λ line. input_of line.discipline ≡ []) s.parts.lines n (device.revoke (line_at s.parts.lines n)) refl (λ closed. refl)))
revoke-last n m p s false is = inl refl

shorten-line : (n : ℕ) (s : State) (p : ℕ) (e : LineEffect) → brings_byte e ≡ false → IsPlainAt n s
    → Shortens n s (tag s p (on_lines e)) (cells_by n s (on_lines e))
unfolding change_lines revokes_after
shorten-line n s p (open_line m t) none plain = record {
  left = leaves-change s.parts.lines m n (device.open_file t) (λ line is. leaves-open line.discipline t is) plain;
  last = inl refl;
}
shorten-line n s p (receive_byte m b) none plain = cc
shorten-line n s p (read_line m max) none plain = record { left = leaves-reading s.parts.lines m n max plain; last = inl refl }
shorten-line n s p (write_line m bytes) none plain = record {
  left =
      leaves-change s.parts.lines m n (λ line. device.put (tagging p s.revokes).cells line bytes)
      (λ line is. leaves-by line.discipline (λ d. transfers.put (tagging p s.revokes).cells d bytes) (put-fewer (tagging p s.revokes).cells bytes) is) plain;
  last = inl refl;
}
shorten-line n s p (take_output m max) none plain = record {
  left =
      leaves-change s.parts.lines m n (λ line. device.take_output line max)
      (λ line is. leaves-by line.discipline (λ d. transfers.after_take d max) (take-fewer max) is) plain;
  last = inl refl;
}
shorten-line n s p (set_carrier m up) none plain = record {
  left = leaves-change s.parts.lines m n (λ line. device.set_carrier line up) (λ line is. leaves-carrier line up is) plain;
  last = inl refl;
}
shorten-line n s p (end_line m) none plain = record {
  left = leaves-change s.parts.lines m n device.end_for_good (λ line is. leaves-carrier line false is) plain;
  last = inl refl;
}
shorten-line n s p (revoke_line m) none plain = record {
  left = leaves-change s.parts.lines m n device.revoke (λ line is. leaves-none line.discipline) plain;
  last = revoke-last n m p s (m == n) refl;
}
shorten-line n s p (flush_line m input output) none plain = record {
  left =
      leaves-change s.parts.lines m n (λ line. device.flush line input output)
      (λ line is. leaves-by line.discipline (λ d. cooking.flush d input output) (λ d. flush_fewer d input output) is) plain;
  last = inl refl;
}
shorten-line n s p (retune_line m t) none plain = record {
  left =
      leaves-change s.parts.lines m n (λ line. device.retune line t)
      (λ line is. leaves-by line.discipline (λ d. transfers.retune d t) (λ d. retune_input d t) is) plain;
  last = inl refl;
}
shorten-line n s p (set_session m session group) none plain = record {
  left = leaves-change s.parts.lines m n (λ line. device.set_session line session group) (λ line is. leaves-same line.discipline is) plain;
  last = inl refl;
}
shorten-line n s p (set_foreground m group) none plain = record {
  left = leaves-change s.parts.lines m n (λ line. device.set_foreground line group) (λ line is. leaves-same line.discipline is) plain;
  last = inl refl;
}

-- what is closed with its last file
release-left : (n p : ℕ) (revokes : Revokes) (m : Parts NamedFile Tagged) (f : Option NamedFile) → IsPlainOf (line_at m.lines n).discipline
    → Leaves [] (line_at m.lines n).discipline (line_at (release (tagging p revokes) m f).lines n).discipline
release-left n p revokes m None plain = leaves-same (line_at m.lines n).discipline plain
release-left n p revokes m (Some f) plain = by_target (is_revoked revokes f.name.made f.file.target) f.file.target
  where
    by_pipe : (k : ℕ) (t : Bool) → Leaves [] (line_at m.lines n).discipline (line_at (cond t (record m { pipes = remove m.pipes k }) m).lines n).discipline
    by_pipe k true = leaves-same (line_at m.lines n).discipline plain
    by_pipe k false = leaves-same (line_at m.lines n).discipline plain

    by_line : (k : ℕ) (t : Bool) → Leaves [] (line_at m.lines n).discipline
        (line_at (cond t (record m { lines = change_line close_last m.lines k }) m).lines n).discipline
    by_line k true = leaves-change m.lines k n close_last (λ line is. leaves-none line.discipline) plain
    by_line k false = leaves-same (line_at m.lines n).discipline plain

    by_target : (dead : Bool) (target : Target)
        → Leaves [] (line_at m.lines n).discipline (line_at (release_target (tagging p revokes) m dead target).lines n).discipline
    by_target dead (node path) = leaves-same (line_at m.lines n).discipline plain
    by_target dead (read_end k) = by_pipe k (count_files (is_end_of (tagging p revokes) k) m.descriptors == 0)
    by_target dead (write_end k) = by_pipe k (count_files (is_end_of (tagging p revokes) k) m.descriptors == 0)
    by_target true (tty k) = leaves-same (line_at m.lines n).discipline plain
    by_target false (tty k) = by_line k (count_files (is_live_of (tagging p revokes) k) m.descriptors == 0)

shorten-file : (n : ℕ) (s : State) (p : ℕ) (e : FileEffect) → IsPlainAt n s → Shortens n s (tag s p (on_files e)) []
unfolding change_files
shorten-file n s p (open_file slot file on_exec) plain = shorten-still n s _ refl refl plain
shorten-file n s p (copy_fd slot from into) plain = shorten-still n s _ refl refl plain
shorten-file n s p (close_fd slot fd) plain = record {
  left =
      release-left n p s.revokes (record s.parts { descriptors = drop_number s.parts.descriptors slot fd }) (last_file s.parts.descriptors slot fd) plain;
  last = inl refl;
}
shorten-file n s p (fork_fds from into) plain = shorten-still n s _ refl refl plain
shorten-file n s p (set_offset slot fd offset) plain = shorten-still n s _ refl refl plain

pub pipe-lines : (p : ℕ) (revokes : Revokes) (m : Parts NamedFile Tagged) (e : PipeEffect) → (change_pipes (tagging p revokes) m e).lines ≡ m.lines
unfolding change_pipes
pipe-lines p revokes m (add_pipe element) = refl
pipe-lines p revokes m (put_pipe k bytes) = refl
pipe-lines p revokes m (take_pipe k max) = refl

pub process-lines : (m : Parts NamedFile Tagged) (e : ProcessEffect) → (change_processes m e).lines ≡ m.lines
unfolding change_processes
process-lines m (set_process slot process) = refl
process-lines m (fork_process slot note) = refl
process-lines m (reap_child slot who untraced) = refl
process-lines m (set_pending slot call) = refl
process-lines m (tell slot) = refl
process-lines m (post sig to) = refl
process-lines m (add_ending slot how) = refl
process-lines m (bury slot how) = refl
process-lines m clear_ending = refl

pub tree-lines : (m : Parts NamedFile Tagged) (e : TreeEffect) → (change_tree m e).lines ≡ m.lines
unfolding change_tree
tree-lines m (set_node path what) = refl

pub shorten_tag : (n : ℕ) (s : State) (p : ℕ) (e : Effect) → is_arrival e ≡ false → IsPlainAt n s → Shortens n s (tag s p e) (cells_by n s e)
shorten_tag n s p (on_files e) none plain = shorten-file n s p e plain
shorten_tag n s p (on_pipes e) none plain = shorten-still n s _ (pipe-lines p s.revokes s.parts e) refl plain
shorten_tag n s p (on_lines e) none plain = shorten-line n s p e none plain
shorten_tag n s p (on_tree e) none plain = shorten-still n s _ (tree-lines s.parts e) refl plain
shorten_tag n s p (on_processes e) none plain = shorten-still n s _ (process-lines s.parts e) refl plain
shorten_tag n s p halt none plain = shorten-still n s _ refl refl plain

-- ---- one after another

nothing-left : (cells rest gone : List Tagged) → [] ≡ (cells ++ rest) ++ gone → rest ≡ []
nothing-left [] [] gone is = refl
nothing-left [] (x ∷ rest) gone is = cc
nothing-left (x ∷ cells) rest gone is = cc

regroup : (a b rest gone more : List Tagged) → (a ++ ((b ++ rest) ++ gone)) ++ more ≡ ((a ++ b) ++ rest) ++ (gone ++ more)
regroup a b rest gone more =
    ap (λ xs. xs ++ more) (sym (append_assoc a (b ++ rest) gone))
    ∙ append_assoc (a ++ (b ++ rest)) gone more
    ∙ ap (λ xs. xs ++ (gone ++ more)) (sym (append_assoc a b rest))

pub shorten_both : (n : ℕ) (s t u : State) (a b : List Tagged) → Shortens n s t a → Shortens n t u b → Shortens n s u (a ++ b)
shorten_both n s t u a b first then = record {
  left = record {
    gone = then.left.gone ++ first.left.gone;
    is =
        first.left.is ∙ ap (λ xs. (a ++ xs) ++ first.left.gone) then.left.is
        ∙ regroup a b (input_at n u) then.left.gone first.left.gone;
    plain = then.left.plain;
  };
  last = by_two first.last then.last;
}
  where
    by_two : (last_revoke t.revokes n ≡ last_revoke s.revokes n) ⊎ (input_at n t ≡ [])
        → (last_revoke u.revokes n ≡ last_revoke t.revokes n) ⊎ (input_at n u ≡ [])
        → (last_revoke u.revokes n ≡ last_revoke s.revokes n) ⊎ (input_at n u ≡ [])
    by_two x (inr empty) = inr empty
    by_two (inl same) (inl still) = inl (still ∙ same)
    by_two (inr empty) (inl still) = inr (nothing-left b (input_at n u) then.left.gone (sym empty ∙ then.left.is))

-- no effect brings a byte in
pub data BringNone : List Effect → Type 0 where
  no_effect : BringNone []
  next_effect : (e : Effect) (es : List Effect) → is_arrival e ≡ false → BringNone es → BringNone (e ∷ es)

pub shorten_all : (n : ℕ) (s : State) (p : ℕ) (es : List Effect) → BringNone es → IsPlainAt n s → Shortens n s (tag_all s p es) (cells_by_all n s p es)
shorten_all n s p [] no_effect plain = shorten-still n s s refl refl plain
shorten_all n s p (e ∷ es) (next_effect _ _ none more) plain =
    let first = shorten_tag n s p e none plain in
    shorten_both n s (tag s p e) (tag_all (tag s p e) p es) (cells_by n s e) (cells_by_all n (tag s p e) p es) first
    (shorten_all n (tag s p e) p es more first.left.plain)
